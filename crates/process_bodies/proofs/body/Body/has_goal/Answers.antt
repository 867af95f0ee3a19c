use Rattle.std.proofs.Common.{sym, ap, ◌∙◌, subst}
use Rattle.kernel_bodies.specs.FlatDesign.Code.{arena_of}
use Rattle.kernel_bodies.specs.SimModel.Residual.{has_goal}
use Rattle.process_state.specs.Bodies as calls
use Rattle.process_bodies.proofs.Places.{owed_goal}
use Rattle.process_bodies.proofs.Showing.{shows_now}
use Rattle.process_bodies.proofs.body.Body.has_goal.Goals as goal

pub returns : goal.returns
returns c = λ a. c.has_goal.ensures a ∙ (sym (shows_now has_goal owed_goal (calls.left_of a c.args.self.now.calls) c.args.self.now.owed))
