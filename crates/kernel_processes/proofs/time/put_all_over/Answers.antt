use Rattle.std.proofs.Common.{◌≡◌, ◌<◌, ◌==◌, true, length, get_or, sym, ap, ◌∙◌, arith, eq-eqb}
use Rattle.std.proofs.lemmas.List.Folds.{list_any_at}
use Rattle.kernel_processes.specs.InstanceViews.{is_on}
use Rattle.kernel_processes.proofs.Overs.{still_left}
use Rattle.kernel_processes.proofs.time.put_all_over.Goals as goal

pub put_left_over-requires : goal.put_left_over-requires
put_left_over-requires g c =
    let s = c.args.s.now in
    let t = c.loop-place.s in
    let i = c.loop-place.place in
    let p = c.index-p.result.now in
    let within : i < length t.due.items = omega (arith, c.loop-place-test.true, c.len.ensures, t.due.ok.0) in
    let on : is_on t.due.items p ≡ true = list_any_at (λ q. q == p) t.due.items i p within (eq-eqb (get_or t.due.items i p) p (sym c.index-p.ensures)) in
    still_left s t i c.loop-place.invariant p (c.requires p (ap (λ v. is_on v.items p) (sym c.loop-place.invariant.due) ∙ on))
