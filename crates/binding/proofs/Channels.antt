-- Where each object leads, filled in by the order of the objects.
use Rattle.std.proofs.Common.{◌≡◌, ◌<◌, ◌≤◌, ◌+◌, ℕ, Bool, true, false, List, [], ◌∷◌, ◌++◌, length, take, get_or, Some, refl, sym, ap, ◌∙◌, subst, inl, inr, arith}
use Rattle.std.specs.Prelude.{◌==◌, slice_get, slice_set, Contains}
use Rattle.std.specs.List.{flat_map}
use Rattle.std.proofs.lemmas.Bool.{cases_eq, cases_lt, eqb-true}
use Rattle.std.proofs.lemmas.List.{get_or_past}
use Rattle.std.proofs.lemmas.List.Elements.{All-contains}
use Rattle.std.proofs.lemmas.Option.{slice_get-get_or, slice_get_within, same_Some, unwrap_or-slice_get}
use Rattle.design_rules.specs.FlatDesign.declared.objects.Binding.{Binding}
use Rattle.design_rules.specs.FlatDesign.declared.objects.Objects.{Objects}
use Rattle.design_rules.specs.Objects.{form_at, bindings_of}
use Rattle.design_rules.specs.Formed.{HasForm, AreFormed}
use Rattle.design_rules.specs.Paths.{is_end, itself_or, ends_of}
use Rattle.design_rules.proofs.Lists.{filter_from, each_of, head_in}
use Rattle.design_rules.proofs.Rounds.{ends_follow}
use Rattle.binding.specs.Rows.{row_at, AreRows}
use Rattle.binding.specs.Order.{IsOrder}
use Rattle.binding.specs.Ends.{kept_ends, leads}
use Rattle.binding.proofs.Lists.{take_front, front_known}
use Rattle.binding.proofs.RowLemmas.{row_same, row_other}
use Rattle.binding.proofs.Linked.{left_within, right_within}

module _ (os : Objects) (formed : AreFormed os) where
  -- a binding of an object is one of all, and its left end is that object
  pub of_left : (i : ℕ) (b : Binding) → Contains (bindings_of os i) b → Contains os.binds b × (b.left ≡ i)
  of_left i b h = let f = filter_from (λ (c : Binding). c.left == i) os.binds b h in (f.0, eqb-true b.left i f.1)

  -- the place of an object in an order
  pub place_of : (order : List ℕ) → IsOrder os order → (i : ℕ) → i < length os.list → (m : ℕ) × (slice_get order m ≡ Some i)
  place_of order ordered i within =
      let w = ordered.each i within in
      (w.0, slice_get-get_or order w.0 i w.1 ∙ ap Some w.2)

  -- its right end stands before it
  pub right_before : (order : List ℕ) → IsOrder os order → (k i : ℕ) → slice_get order k ≡ Some i → (b : Binding) → Contains (bindings_of os i) b
      → (m : ℕ) × (m < k) × (slice_get order m ≡ Some b.right)
  right_before order ordered k i at b h =
      let s = of_left i b h in
      let w = place_of order ordered b.right (right_within os b (All-contains (HasForm os) os.binds b formed.bindings s.0)) in
      (w.0, ordered.falls b k w.0 s.0 (at ∙ ap Some (sym s.1)) w.1, w.1)

  pub empty_list : {A : Type 0} (xs : List A) → ((x : A) → Contains xs x → ⊥) → xs ≡ []
  empty_list [] h = refl
  empty_list (x ∷ xs) h = absurd (h x (head_in x xs))

  pub no_bindings : (i : ℕ) → length os.list ≤ i → bindings_of os i ≡ []
  no_bindings i past =
      empty_list (bindings_of os i)
      (λ b h.
      let s = of_left i b h in
      let low = left_within os b (All-contains (HasForm os) os.binds b formed.bindings s.0) in
      let at = s.1 in
      omega arith)

  one_known : (known : ℕ → List ℕ) (i : ℕ) → known i ≡ kept_ends os i → (e : Bool) (rest : List ℕ)
      → take 65 (itself_or (known i) i e ++ rest) ≡ take 65 (itself_or (ends_of os i) i e ++ rest)
  one_known known i is true rest = refl
  one_known known i is false rest = ap (λ zs. take 65 (zs ++ rest)) is ∙ take_front 65 (ends_of os i) rest

  -- where an object leads, from what is known of the right ends of its bindings
  pub through_known : (known : ℕ → List ℕ) (i : ℕ) → ((b : Binding) → Contains (bindings_of os i) b → known b.right ≡ kept_ends os b.right)
      → take 65 (flat_map (λ (b : Binding). leads os known b.right) (bindings_of os i)) ≡ kept_ends os i
  through_known known i h =
      front_known 65 (λ (b : Binding). leads os known b.right) (λ (b : Binding). leads os (ends_of os) b.right) (bindings_of os i)
      (each_of (λ (b : Binding). (rest : List ℕ) → take 65 (leads os known b.right ++ rest) ≡ take 65 (leads os (ends_of os) b.right ++ rest)) (bindings_of os i)
      (λ b at. one_known known b.right (h b at) (is_end (form_at os b.right))))
      ∙ ap (take 65) (sym (ends_follow os formed i))

  module _ (order : List ℕ) (ordered : IsOrder os order) where
    -- the objects at the first k places have their rows
    abbrev pub AreFilled : ℕ → List (List ℕ) → Type 0
    AreFilled k ends = (m j : ℕ) → m < k → slice_get order m ≡ Some j → row_at ends j ≡ kept_ends os j

    module _ (ends new : List (List ℕ)) (k : ℕ) (found : List ℕ) (below : k < length order) (long : length ends ≡ length os.list) (filled : AreFilled k ends)
        (is : new ≡ slice_set ends (get_or order k 0) found) (right : found ≡ kept_ends os (get_or order k 0)) where
      row_new : row_at new (get_or order k 0) ≡ kept_ends os (get_or order k 0)
      row_new =
          let within : get_or order k 0 < length ends = subst (λ n. get_or order k 0 < n) (sym long) (ordered.within k 0 below) in
          ap (λ rows. row_at rows (get_or order k 0)) is ∙ row_same ends (get_or order k 0) found within ∙ right

      row_old : (m j : ℕ) → m < k + 1 → slice_get order m ≡ Some j → (j ≡ get_or order k 0 → ⊥) → row_at new j ≡ kept_ends os j
      row_old m j before here other =
          ap (λ rows. row_at rows j) is ∙ row_other ends (get_or order k 0) j found other
          ∙ elim (cases_lt m k) [
            | inl low ↦ filled m j low here
            | inr high ↦
                let e : m ≡ k = omega arith in
                absurd (other (same_Some j (get_or order k 0) (sym here ∙ ap (slice_get order) e ∙ slice_get-get_or order k 0 below)))
          ]

      pub filled_more : AreFilled (k + 1) new
      filled_more m j before here =
          elim (cases_eq j (get_or order k 0)) [
            | inl same ↦ ap (row_at new) same ∙ row_new ∙ ap (kept_ends os) (sym same)
            | inr other ↦ row_old m j before here other
          ]

    -- what is found at the next place
    pub found_right : (from : List (List Binding)) → AreRows (bindings_of os) from → (ends : List (List ℕ)) (k : ℕ) (found : List ℕ) → k < length order → AreFilled k ends
        → found ≡ take 65 (flat_map (λ (b : Binding). leads os (row_at ends) b.right) (row_at from (get_or order k 0))) → found ≡ kept_ends os (get_or order k 0)
    found_right from linked ends k found below filled is =
        is ∙ ap (λ links. take 65 (flat_map (λ (b : Binding). leads os (row_at ends) b.right) links)) (linked (get_or order k 0))
        ∙ through_known (row_at ends) (get_or order k 0)
        (λ b h. let r = right_before order ordered k (get_or order k 0) (slice_get-get_or order k 0 below) b h in filled r.0 b.right r.1 r.2)

    pub all_filled : (ends : List (List ℕ)) (k : ℕ) → length order ≤ k → length ends ≡ length os.list → AreFilled k ends → AreRows (kept_ends os) ends
    all_filled ends k all long filled i =
        elim (cases_lt i (length os.list)) [
          | inl within ↦
              let w = place_of order ordered i within in
              let low = slice_get_within order w.0 i w.1 in
              filled w.0 i (omega arith) w.1
          | inr past ↦
              let past_rows : length ends ≤ i = subst (λ n. n ≤ i) (sym long) past in
              unwrap_or-slice_get ends i [] ∙ get_or_past ends i [] past_rows
              ∙ sym (ap (take 65) (ends_follow os formed i ∙ ap (flat_map (λ (b : Binding). leads os (ends_of os) b.right)) (no_bindings i past)))
        ]
