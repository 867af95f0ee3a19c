use Rattle.std.proofs.Common.{sym, ap, ◌∙◌, subst}
use Rattle.kernel_bodies.specs.FlatDesign.Code.{arena_of}
use Rattle.kernel_bodies.specs.SimModel.Residual.{put, skip}
use Rattle.process_state.specs.Bodies as calls
use Rattle.process_bodies.proofs.Showing.{free_settled, goal_free, goal_too}
use Rattle.process_bodies.proofs.body.Body.go_on.Goals as goal

pub go_on-requires-clause-reaches : goal.go_on-requires-clause-reaches
go_on-requires-clause-reaches c = goal_too (arena_of c.args.program.now.code) (calls.left_in c.args.program.now c.args.self.now.calls) c.args.self.now.owed c.requires.sound.owed c.requires.reaches

pub returns-clause-left : goal.returns-clause-left
returns-clause-left c = c.go_on.ensures.left ∙ ap (λ x. put x skip) (sym (free_settled (arena_of c.args.program.now.code) (calls.left_in c.args.program.now c.args.self.now.calls) c.args.self.now.owed c.requires.sound.owed (goal_free (arena_of c.args.program.now.code) (calls.left_in c.args.program.now c.args.self.now.calls) c.args.self.now.owed c.requires.sound.owed c.requires.reaches)))

pub returns-clause-sound : goal.returns-clause-sound
returns-clause-sound c = record { calls = c.go_on.ensures.sound; owed = tt }
