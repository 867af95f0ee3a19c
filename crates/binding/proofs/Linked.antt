-- The bindings under their ends, with one more of them.
use Rattle.std.proofs.Common.{◌≡◌, ◌<◌, ◌+◌, ℕ, List, [], ◌∷◌, ◌++◌, length, take, get_or, sym, ap, ◌∙◌, subst}
use Rattle.std.specs.Prelude.{◌==◌, slice_set, filter}
use Rattle.std.proofs.lemmas.List.{length-set, get_or_default}
use Rattle.std.proofs.lemmas.Option.{slice_get_within}
use Rattle.design_rules.specs.FlatDesign.declared.objects.Binding.{Binding}
use Rattle.design_rules.specs.FlatDesign.declared.objects.Objects.{Objects}
use Rattle.design_rules.specs.Formed.{HasForm, AreFormed}
use Rattle.binding.specs.Rows.{row_at, AreRows}
use Rattle.binding.proofs.RowLemmas.{row_added}

-- what a read past the bindings gives
abbrev pub no_binding : Binding
no_binding = record { line = 0; instance = 0; left = 0; right = 0 }

module _ (os : Objects) where
  pub left_within : (b : Binding) → HasForm os b → b.left < length os.list
  left_within b h = slice_get_within os.list b.left h.left h.left_found

  pub right_within : (b : Binding) → HasForm os b → b.right < length os.list
  right_within b h = slice_get_within os.list b.right h.right h.right_found

  pub link_added : AreFormed os → (key : Binding → ℕ) → ((b : Binding) → HasForm os b → key b < length os.list)
      → (rows new : List (List Binding)) (bs : List Binding) (k : ℕ) → bs ≡ os.binds → k < length bs → length rows ≡ length os.list
      → AreRows (λ i. filter (λ (b : Binding). key b == i) (take k os.binds)) rows
      → new ≡ slice_set rows (key (get_or bs k no_binding)) (row_at rows (key (get_or bs k no_binding)) ++ get_or bs k no_binding ∷ [])
      → (length new ≡ length os.list) × AreRows (λ i. filter (λ (b : Binding). key b == i) (take (k + 1) os.binds)) new
  link_added formed key bounded rows new bs k same below long h is =
      let b = get_or bs k no_binding in
      let within : k < length os.binds = subst (λ (cs : List Binding). k < length cs) same below in
      let at : get_or os.binds k no_binding ≡ b = ap (λ (cs : List Binding). get_or cs k no_binding) (sym same) in
      let form : HasForm os b = subst (HasForm os) at (formed.bindings k no_binding within) in
      let inside : key b < length rows = subst (λ n. key b < n) (sym long) (bounded b form) in
      let here : b ≡ get_or os.binds k b = sym at ∙ get_or_default os.binds k no_binding b within in (
        ap length is ∙ length-set rows (key b) (row_at rows (key b) ++ b ∷ []) ∙ long,
        subst (AreRows (λ i. filter (λ (c : Binding). key c == i) (take (k + 1) os.binds))) (sym is) (row_added key rows os.binds k b within here inside h),
      )
