use Rattle.std.proofs.Common.{◌++◌, ◌∷◌, ◌+◌, ◌-◌, List, ℕ, sym, ap, ◌∙◌, arith}
use Rattle.laws_runs.specs.SimModel.Trace.{bit_letters}
use Rattle.vcd_trace.proofs.Texts.{pushed, bits_down}
use Rattle.vcd_trace.proofs.values.push_bits.Goals as goal

pub loop-place-preserved : goal.loop-place-preserved
loop-place-preserved c =
    let old = c.loop-place.text.items in
    let p = c.loop-place.place in
    let n = c.args.bits in
    pushed c.push.new.self.items old _ _ _ c.in_ok-push.ensures.items
    (ap (λ (bit : ℕ). old ++ (48 + bit) ∷ bit_letters (p - 1) n) c.bit_at.ensures
    ∙ ap (λ (letters : List ℕ). old ++ letters) (sym (bits_down p n (omega arith)))
    ∙ c.loop-place.invariant)
