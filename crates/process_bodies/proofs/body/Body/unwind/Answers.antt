use Rattle.std.proofs.Common.{sym, ap, ◌∙◌, subst}
use Rattle.kernel_bodies.specs.FlatDesign.Code.{arena_of}
use Rattle.kernel_bodies.specs.SimModel.Residual.{goal as before}
use Rattle.kernel_bodies.specs.SimModel.Unwinding.{unw}
use Rattle.process_state.specs.Bodies as calls
use Rattle.process_bodies.proofs.Places.{owed_unwinds}
use Rattle.process_bodies.proofs.Showing.{shows_now}
use Rattle.process_bodies.proofs.body.Body.unwind.Goals as goal

pub unwind-requires : goal.unwind-requires
unwind-requires c = (c.requires.0, c.requires.1.calls)

pub returns-clause-left : goal.returns-clause-left
returns-clause-left c = λ a. c.unwind.ensures.left a ∙ ap (λ r. before r c.args.end) (sym (shows_now unw owed_unwinds (calls.left_of a c.args.self.now.calls) c.args.self.now.owed))

pub returns-clause-sound : goal.returns-clause-sound
returns-clause-sound c = λ p h. record { calls = c.unwind.ensures.sound p h.calls; owed = tt }
