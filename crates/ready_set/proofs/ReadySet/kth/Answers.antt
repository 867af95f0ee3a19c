use Rattle.std.proofs.Common.{◌<◌, arith, sym, ap, ◌∙◌}
use Rattle.std.specs.Prelude.{slice_get}
use Rattle.ready_set.specs.Ready.{Ready, rising}
use Rattle.ready_set.proofs.Row.{in-row, past-row, rising-shown}
use Rattle.ready_set.proofs.ReadySet.kth.Goals as goal

pub returns-then-k-self : goal.returns-then-k-self
returns-then-k-self c =
    let a = c.self.inside.first in
    let n = c.self.inside.count in
    let r = c.self.inside.members in
    let some : 0 < n = omega (arith, c.if-self-eq0.false) in
    sym (in-row a n c.args.k c.if-k-self.true) ∙ sym (ap (λ xs. slice_get xs c.args.k) (rising-shown a n some r))
    ∙ ap (λ (w : Ready). slice_get (rising w.members) c.args.k) c.self.view_is

pub returns-else-k-self : goal.returns-else-k-self
returns-else-k-self c =
    let a = c.self.inside.first in
    let n = c.self.inside.count in
    let r = c.self.inside.members in
    let some : 0 < n = omega (arith, c.if-self-eq0.false) in
    sym (past-row a n c.args.k (omega (arith, c.if-k-self.false))) ∙ sym (ap (λ xs. slice_get xs c.args.k) (rising-shown a n some r))
    ∙ ap (λ (w : Ready). slice_get (rising w.members) c.args.k) c.self.view_is
