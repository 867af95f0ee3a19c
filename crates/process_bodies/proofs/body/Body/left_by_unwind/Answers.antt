use Rattle.std.proofs.Common.{sym, ap, ◌∙◌, subst}
use Rattle.kernel_bodies.specs.FlatDesign.Code.{arena_of}
use Rattle.std.specs.Prelude.{slice_get}
use Rattle.kernel_bodies.specs.SimModel.Unwinding.{left_by_unw}
use Rattle.process_state.specs.Bodies as calls
use Rattle.process_bodies.proofs.Places.{owed_left}
use Rattle.process_bodies.proofs.Showing.{shows_now}
use Rattle.process_bodies.proofs.body.Body.left_by_unwind.Goals as goal

pub returns-clause-value : goal.returns-clause-value
returns-clause-value c = λ a. c.left_by_unwind.ensures.value a ∙ ap (λ vs. slice_get vs c.args.number) (sym (shows_now left_by_unw owed_left (calls.left_of a c.args.self.now.calls) c.args.self.now.owed))
