use Rattle.std.proofs.Common.{◌++◌, ◌∷◌, [], List, ℕ, map, reverse, drop, sym, ap, ◌∙◌, append_assoc, arith}
use Rattle.std.proofs.lemmas.List.{append-nil}
use Rattle.laws_runs.specs.LogicValues.Digits.{digits}
use Rattle.laws_runs.specs.LogicValues.declared.kinds.Digit.{Digit}
use Rattle.laws_runs.specs.SimModel.Trace.{digit_letter}
use Rattle.vcd_trace.proofs.Texts.{no_digits, letters_more}
use Rattle.vcd_trace.proofs.values.push_digits.Goals as goal

pub loop-place-init : goal.loop-place-init
loop-place-init c =
    let old = c.args.text.now.items in
    sym (ap (λ (ds : List Digit). old ++ map digit_letter (reverse ds)) (no_digits c.args.vector) ∙ append-nil old)

pub loop-place-preserved : goal.loop-place-preserved
loop-place-preserved c =
    let old = c.args.text.now.items in
    let p = c.loop-place.place in
    let ds = digits c.args.vector in
    let so = map digit_letter (reverse (drop p ds)) in
    c.in_ok-push.ensures.items
    ∙ ap (λ (xs : List ℕ). xs ++ c.digit_letter.result ∷ []) c.loop-place.invariant
    ∙ ap (λ (b : ℕ). (old ++ so) ++ b ∷ []) c.digit_letter.ensures
    ∙ append_assoc old so (digit_letter c.digit.result ∷ [])
    ∙ ap (λ (xs : List ℕ). old ++ xs) (letters_more p ds c.digit.result (omega arith) c.digit.ensures)
