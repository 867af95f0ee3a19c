-- What was told and what was chosen, one after another.
use Rattle.std.proofs.Common.{◌≡◌, ℕ, List, [], ◌∷◌, ◌++◌, refl, sym, ◌∙◌, ap, append_assoc, append-nil}
use Rattle.std.specs.List.{flat_map}
use Rattle.std.specs.Fmt.{decimal}
use Rattle.vcd_trace.specs.SimModel.Configuration.{Told}
use Rattle.vcd_trace.specs.SimModel.Texts.{shown, choice_text}
use Rattle.vcd_trace.specs.SimModel.declared.plain.Log.{Log}

module _ (log : Log) where
  -- one more at the end
  pub texts-push : (ts : List Told) (t : Told) → flat_map (shown log) (ts ++ t ∷ []) ≡ flat_map (shown log) ts ++ shown log t
  texts-push [] t = append-nil (shown log t)
  texts-push (u ∷ ts) t = ap (λ rest. shown log u ++ rest) (texts-push ts t) ∙ sym (append_assoc (shown log u) (flat_map (shown log) ts) (shown log t))

pub choices-push : (choices : List ℕ) (p : ℕ) → choice_text (choices ++ p ∷ []) ≡ choice_text choices ++ choice_text (p ∷ [])
choices-push [] p = refl
choices-push (c ∷ choices) p = ap (λ rest. (decimal c ++ 10 ∷ []) ++ rest) (choices-push choices p) ∙ sym (append_assoc (decimal c ++ 10 ∷ []) (choice_text choices) (choice_text (p ∷ [])))
