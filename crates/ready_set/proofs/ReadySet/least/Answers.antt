use Rattle.std.proofs.Common.{◌<◌, Some, arith, sym, ap, ◌∙◌}
use Rattle.std.specs.Prelude.{slice_get}
use Rattle.ready_set.specs.Ready.{Ready, rising}
use Rattle.ready_set.proofs.Row.{in-row, rising-shown}
use Rattle.ready_set.proofs.ReadySet.least.Goals as goal

pub returns : goal.returns
returns c =
    let a = c.self.inside.first in
    let n = c.self.inside.count in
    let r = c.self.inside.members in
    let some : 0 < n = omega (arith, c.if-self-eq0.false) in
    ap Some (omega arith) ∙ sym (in-row a n 0 some) ∙ sym (ap (λ xs. slice_get xs 0) (rising-shown a n some r))
    ∙ ap (λ (w : Ready). slice_get (rising w.members) 0) c.self.view_is
