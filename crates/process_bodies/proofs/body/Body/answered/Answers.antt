use Rattle.std.proofs.Common.{sym, ap, ◌∙◌, subst}
use Rattle.kernel_bodies.specs.FlatDesign.Code.{arena_of}
use Rattle.process_state.specs.Bodies.{answer_of}
use Rattle.kernel_bodies.specs.SimModel.Residual.{innermost}
use Rattle.process_state.specs.Bodies as calls
use Rattle.process_bodies.proofs.Places.{owed_innermost}
use Rattle.process_bodies.proofs.Showing.{shows_now}
use Rattle.process_bodies.proofs.body.Body.answered.Goals as goal

pub returns : goal.returns
returns c = λ a. c.answered.ensures a ∙ ap answer_of (sym (shows_now innermost owed_innermost (calls.left_of a c.args.self.now.calls) c.args.self.now.owed))
