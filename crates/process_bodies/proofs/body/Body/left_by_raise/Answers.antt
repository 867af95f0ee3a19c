use Rattle.std.proofs.Common.{sym, ap, ◌∙◌, subst}
use Rattle.kernel_bodies.specs.FlatDesign.Code.{arena_of}
use Rattle.std.specs.Prelude.{slice_get}
use Rattle.kernel_bodies.specs.SimModel.Unwinding.{left_by_raise}
use Rattle.process_state.specs.Bodies as calls
use Rattle.process_bodies.proofs.Places.{owed_raised}
use Rattle.process_bodies.proofs.Showing.{shows_now}
use Rattle.process_bodies.proofs.body.Body.left_by_raise.Goals as goal

pub returns-clause-value : goal.returns-clause-value
returns-clause-value c = c.left_by_raise.ensures.value ∙ ap (λ vs. slice_get vs c.args.number) (sym (shows_now (λ r. left_by_raise r c.args.name) (λ o r. owed_raised o r c.args.name) (calls.left_in c.args.program.now c.args.self.now.calls) c.args.self.now.owed))
