use Rattle.std.proofs.Common.{sym, ap, ◌∙◌, subst}
use Rattle.kernel_bodies.specs.FlatDesign.Code.{arena_of}
use Rattle.kernel_bodies.specs.SimModel.Residual.{in_nb}
use Rattle.process_state.specs.Bodies as calls
use Rattle.process_bodies.proofs.Places.{owed_nb}
use Rattle.process_bodies.proofs.Showing.{shows_now}
use Rattle.process_bodies.proofs.body.Body.in_nb.Goals as goal

pub returns : goal.returns
returns c = λ a. c.in_nb.ensures a ∙ (sym (shows_now in_nb owed_nb (calls.left_of a c.args.self.now.calls) c.args.self.now.owed))
