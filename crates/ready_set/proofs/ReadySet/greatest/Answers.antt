use Rattle.std.proofs.Common.{◌<◌, ◌-◌, arith, sym, ap, ◌∙◌}
use Rattle.std.specs.Prelude.{slice_get}
use Rattle.std.specs.FinSet as set
use Rattle.ready_set.specs.Ready.{Ready, rising}
use Rattle.ready_set.specs.Row.{with_row}
use Rattle.ready_set.proofs.Row.{in-row, rising-shown, len-shown}
use Rattle.ready_set.proofs.ReadySet.greatest.Goals as goal

pub returns : goal.returns
returns c =
    let a = c.self.inside.first in
    let n = c.self.inside.count in
    let r = c.self.inside.members in
    let some : 0 < n = omega (arith, c.if-self-eq0.false) in
    sym (in-row a n (n - 1) (omega (arith, some))) ∙ sym (ap (λ xs. slice_get xs (n - 1)) (rising-shown a n some r))
    ∙ sym (ap (λ m. slice_get (rising (with_row a n r).members) (m - 1)) (len-shown a n some r))
    ∙ ap (λ (w : Ready). slice_get (rising w.members) (set.len w.members - 1)) c.self.view_is
