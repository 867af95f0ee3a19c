use Rattle.std.proofs.Common.{◌<◌, arith, sym, ap, ◌∙◌}
use Rattle.std.specs.FinSet as set
use Rattle.ready_set.specs.Ready.{Ready}
use Rattle.ready_set.proofs.Row.{len-shown}
use Rattle.ready_set.proofs.ReadySet.len.Goals as goal

pub returns : goal.returns
returns c =
    let a = c.self.inside.first in
    let n = c.self.inside.count in
    let r = c.self.inside.members in
    let some : 0 < n = omega (arith, c.if-self-eq0.false) in
    sym (len-shown a n some r) ∙ ap (λ (w : Ready). set.len w.members) c.self.view_is
