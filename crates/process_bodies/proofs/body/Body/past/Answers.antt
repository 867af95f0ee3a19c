use Rattle.std.proofs.Common.{sym, ap, ◌∙◌, subst}
use Rattle.kernel_bodies.specs.FlatDesign.Code.{arena_of}
use Rattle.kernel_bodies.specs.SimModel.Residual.{put, skip}
use Rattle.process_state.specs.Bodies as calls
use Rattle.process_bodies.specs.Bodies.{left_with, Agrees}
use Rattle.process_bodies.proofs.Showing.{free_settled, statement_free, statement_too}
use Rattle.process_bodies.proofs.body.Body.past.Goals as goal

pub past-requires-clause-statement : goal.past-requires-clause-statement
past-requires-clause-statement c = statement_too (arena_of c.args.program.now.code) (calls.left_in c.args.program.now c.args.self.now.calls) c.args.self.now.owed c.requires.sound.owed c.requires.statement

pub returns-clause-left : goal.returns-clause-left
returns-clause-left c = ap (left_with (calls.left_in c.args.program.now c.past.new.self)) c.let_go.ensures ∙ c.past.ensures.left ∙ ap (λ x. put x skip) (sym (free_settled (arena_of c.args.program.now.code) (calls.left_in c.args.program.now c.args.self.now.calls) c.args.self.now.owed c.requires.sound.owed (statement_free (arena_of c.args.program.now.code) (calls.left_in c.args.program.now c.args.self.now.calls) c.args.self.now.owed c.requires.sound.owed c.requires.statement)))

pub returns-clause-sound : goal.returns-clause-sound
returns-clause-sound c = record { calls = c.past.ensures.sound; owed = subst (Agrees (calls.left_in c.args.program.now c.past.new.self)) (sym c.let_go.ensures) tt }
