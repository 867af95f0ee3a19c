use Rattle.std.proofs.Common.{◌++◌, List, ℕ, sym, ap, ◌∙◌}
use Rattle.vcd_trace.proofs.Texts.{put_behind, changed_next}
use Rattle.vcd_trace.proofs.points.push_changes.Goals as goal

pub loop-number-preserved : goal.loop-number-preserved
loop-number-preserved c =
    let old = c.loop-number.text.items in
    let next = changed_next c.loop-number.number c.args.old.now c.args.values.now c.index-values-number.result c.loop-number-test.true c.index-values-number.is in
    put_behind c.push_change.new.text.items old _ _ _ c.in_ok-push_change.ensures (ap (λ (lines : List ℕ). old ++ lines) (sym next) ∙ c.loop-number.invariant)
