use Rattle.std.proofs.Common.{sym, ap, ◌∙◌, subst}
use Rattle.kernel_bodies.specs.FlatDesign.Code.{arena_of}
use Rattle.kernel_bodies.specs.SimModel.Residual.{next_of, put, skip}
use Rattle.process_state.specs.Bodies as calls
use Rattle.process_bodies.proofs.Showing.{free_settled, leave_free, leave_too}
use Rattle.process_bodies.proofs.body.Body.leave.Goals as goal

pub leave-frame-requires-clause-leaves : goal.leave-frame-requires-clause-leaves
leave-frame-requires-clause-leaves c = leave_too (arena_of c.args.program.now.code) (calls.left_in c.args.program.now c.args.self.now.calls) c.args.self.now.owed c.requires.sound.owed c.requires.leaves

pub returns-clause-left : goal.returns-clause-left
returns-clause-left c = c.leave-frame.ensures.left ∙ ap (λ x. put x skip) (sym (free_settled (arena_of c.args.program.now.code) (calls.left_in c.args.program.now c.args.self.now.calls) c.args.self.now.owed c.requires.sound.owed (leave_free (arena_of c.args.program.now.code) (calls.left_in c.args.program.now c.args.self.now.calls) c.args.self.now.owed c.requires.sound.owed c.requires.leaves)))

pub returns-clause-sound : goal.returns-clause-sound
returns-clause-sound c = record { calls = c.leave-frame.ensures.sound; owed = tt }

pub returns-clause-frame : goal.returns-clause-frame
returns-clause-frame c = ap next_of (free_settled (arena_of c.args.program.now.code) (calls.left_in c.args.program.now c.args.self.now.calls) c.args.self.now.owed c.requires.sound.owed (leave_free (arena_of c.args.program.now.code) (calls.left_in c.args.program.now c.args.self.now.calls) c.args.self.now.owed c.requires.sound.owed c.requires.leaves)) ∙ c.leave-frame.ensures.frame
