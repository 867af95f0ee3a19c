use Rattle.std.proofs.Common.{◌++◌, List, ℕ, sym, ap, ◌∙◌}
use Rattle.vcd_trace.proofs.Texts.{pushed, id_more}
use Rattle.vcd_trace.proofs.ids.push_id.Goals as goal

pub loop-left-preserved : goal.loop-left-preserved
loop-left-preserved c =
    let old = c.loop-left.text.items in
    pushed c.push.new.self.items old _ _ _ c.in_ok-push.ensures.items (ap (λ (id : List ℕ). old ++ id) (sym (id_more c.loop-left.left c.loop-left-test.true)) ∙ c.loop-left.invariant)
