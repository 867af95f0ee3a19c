use Rattle.std.proofs.Common.{◌++◌, ◌∷◌, [], refl, sym, ap, ◌∙◌, append_assoc}
use Rattle.kernel_processes.proofs.WakingMoves.{one_woken}
use Rattle.kernel_processes.proofs.time.wake_each.Goals as goal

pub loop-p-preserved : goal.loop-p-preserved
loop-p-preserved g c =
    let inv = c.loop-p.invariant in (
      c.in-Some.p ∷ inv.0,
      (
        inv.1.0 ∙ ap (λ xs. xs ++ inv.0) c.in-Some.ensures.items ∙ append_assoc _ (c.in-Some.p ∷ []) inv.0 ∙ ap (λ v. v.items ++ (c.in-Some.p ∷ inv.0)) (sym c.wake.ensures.rouses.due),
        (one_woken c.args.s.now c.loop-p.s _ c.wake.new.s c.in-Some.p inv.0 inv.1.1.0 refl c.wake.ensures.rouses, c.wake.ensures.sound),
      ),
    )
