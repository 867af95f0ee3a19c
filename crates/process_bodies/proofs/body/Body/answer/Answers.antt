use Rattle.std.proofs.Common.{sym, ap, ◌∙◌, subst}
use Rattle.kernel_bodies.specs.FlatDesign.Code.{arena_of}
use Rattle.kernel_bodies.specs.SimModel.Unwinding.{returned}
use Rattle.process_state.specs.Bodies as calls
use Rattle.process_bodies.proofs.Showing.{free_settled, statement_free}
use Rattle.process_bodies.proofs.body.Body.answer.Goals as goal

pub returns-clause-left : goal.returns-clause-left
returns-clause-left c = c.answer.ensures.left ∙ ap (returned c.args.answer) (sym (free_settled (arena_of c.args.program.now.code) (calls.left_in c.args.program.now c.args.self.now.calls) c.args.self.now.owed c.requires.sound.owed (statement_free (arena_of c.args.program.now.code) (calls.left_in c.args.program.now c.args.self.now.calls) c.args.self.now.owed c.requires.sound.owed c.requires.statement)))

pub returns-clause-sound : goal.returns-clause-sound
returns-clause-sound c = record { calls = c.answer.ensures.sound; owed = tt }
