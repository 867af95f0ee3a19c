-- Who leads to each object, filled in against the order of the objects.
use Rattle.std.proofs.Common.{◌≡◌, ◌<◌, ◌≤◌, ◌+◌, ℕ, Bool, true, false, List, [], ◌∷◌, ◌++◌, length, fold, get_or, Some, refl, sym, ap, ◌∙◌, subst, inl, inr, arith, eq-eqb}
use Rattle.std.specs.Prelude.{◌==◌, ◌||◌, not, slice_get, slice_set, Contains}
use Rattle.std.specs.List.{flat_map, list_any, AllByRecursion}
use Rattle.std.proofs.lemmas.Bool.{cases_eq, cases_lt, eqb-true}
use Rattle.std.proofs.lemmas.List.{append-nil, append_assoc, get_or_past, get_or-set_same, get_or-set_other}
use Rattle.std.proofs.lemmas.List.Elements.{All-contains}
use Rattle.std.proofs.lemmas.List.Folds.{list_any-append}
use Rattle.std.proofs.lemmas.Option.{slice_get-get_or, same_Some, unwrap_or-slice_get}
use Rattle.design_rules.specs.FlatDesign.declared.objects.Binding.{Binding}
use Rattle.design_rules.specs.FlatDesign.declared.objects.Objects.{Objects}
use Rattle.design_rules.specs.Objects.{form_at, bindings_to}
use Rattle.design_rules.specs.Formed.{HasForm, AreFormed}
use Rattle.design_rules.specs.Paths.{is_beginning, itself_or, leaders_of}
use Rattle.design_rules.proofs.Lists.{filter_from, each_of}
use Rattle.design_rules.proofs.Rounds.{leaders_follow}
use Rattle.binding.specs.declared.leading.Leading.{Leading}
use Rattle.binding.specs.declared.leading.Leading.TheVariants as leading
use Rattle.binding.specs.Rows.{row_at, AreRows}
use Rattle.binding.specs.Order.{IsOrder}
use Rattle.binding.specs.Leaders.{one_or, leading_of, one_and, both, leading_at, itself_leading, led_by, led_through, AreLed}
use Rattle.binding.proofs.Linked.{left_within, right_within}
use Rattle.binding.proofs.Channels.{place_of, empty_list}

-- two of a list and one more
same_one : (x : ℕ) (b : Bool) → one_or x b ≡ one_and x (one_or x b)
same_one x true = refl
same_one x false = ap (λ b. one_or x (not b)) (sym (eq-eqb x x refl))

two_other : (x y : ℕ) (b : Bool) → (y == x) ≡ false → leading.Several ≡ one_and x (one_or y b)
two_other x y true e = refl
two_other x y false e = ap (λ b. one_or x (not b)) (sym e)

two_lists : (x y : ℕ) (ys : List ℕ) (same : Bool) → (y == x) ≡ same
    → one_or x (list_any (λ z. not (z == x)) (y ∷ ys)) ≡ one_and x (leading_of (y ∷ ys))
two_lists x y ys true e =
    ap (λ b. one_or x (not b || list_any (λ z. not (z == x)) ys)) e ∙ same_one x (list_any (λ z. not (z == x)) ys)
    ∙ ap (λ w. one_and x (one_or w (list_any (λ z. not (z == w)) ys))) (sym (eqb-true y x e))
two_lists x y ys false e = ap (λ b. one_or x (not b || list_any (λ z. not (z == x)) ys)) e ∙ two_other x y (list_any (λ z. not (z == y)) ys) e

one_append : (x : ℕ) (ys : List ℕ) → one_or x (list_any (λ z. not (z == x)) ys) ≡ one_and x (leading_of ys)
one_append x [] = refl
one_append x (y ∷ ys) = two_lists x y ys (y == x) refl

behind_one : (x : ℕ) (ys : List ℕ) (b : Bool) → one_or x (b || list_any (λ z. not (z == x)) ys) ≡ both (one_or x b) (leading_of ys)
behind_one x ys true = refl
behind_one x ys false = one_append x ys

pub leading-append : (xs ys : List ℕ) → leading_of (xs ++ ys) ≡ both (leading_of xs) (leading_of ys)
leading-append [] ys = refl
leading-append (x ∷ xs) ys =
    ap (one_or x) (list_any-append (λ z. not (z == x)) xs ys) ∙ behind_one x ys (list_any (λ z. not (z == x)) xs)

module _ (os : Objects) (formed : AreFormed os) where
  one_led : (known : ℕ → Leading) (i : ℕ) → known i ≡ leading_of (leaders_of os i) → (b : Bool)
      → itself_leading (known i) i b ≡ leading_of (itself_or (leaders_of os i) i b)
  one_led known i is true = refl
  one_led known i is false = is

  -- those of the bindings behind a list
  led_behind : (known : ℕ → Leading) (xs : List ℕ) (links : List Binding)
      → AllByRecursion (λ (b : Binding). led_by os known b.left ≡ leading_of (itself_or (leaders_of os b.left) b.left (is_beginning (form_at os b.left)))) links
      → fold (λ l (b : Binding). both l (led_by os known b.left)) (leading_of xs) links
      ≡ leading_of (xs ++ flat_map (λ (b : Binding). itself_or (leaders_of os b.left) b.left (is_beginning (form_at os b.left))) links)
  led_behind known xs [] h = ap leading_of (sym (append-nil xs))
  led_behind known xs (b ∷ links) h =
      let g : Binding → List ℕ = λ c. itself_or (leaders_of os c.left) c.left (is_beginning (form_at os c.left)) in
      ap (λ l. fold (λ m (c : Binding). both m (led_by os known c.left)) l links) (ap (both (leading_of xs)) h.0 ∙ sym (leading-append xs (g b)))
      ∙ led_behind known (xs ++ g b) links h.1 ∙ ap leading_of (append_assoc xs (g b) (flat_map g links))

  pub of_right : (i : ℕ) (b : Binding) → Contains (bindings_to os i) b → Contains os.binds b × (b.right ≡ i)
  of_right i b h = let f = filter_from (λ (c : Binding). c.right == i) os.binds b h in (f.0, eqb-true b.right i f.1)

  -- the left end of a binding to an object stands behind it
  pub left_behind : (order : List ℕ) → IsOrder os order → (k i : ℕ) → slice_get order k ≡ Some i → (b : Binding) → Contains (bindings_to os i) b
      → (m : ℕ) × (k < m) × (slice_get order m ≡ Some b.left)
  left_behind order ordered k i at b h =
      let s = of_right i b h in
      let w = place_of os formed order ordered b.left (left_within os b (All-contains (HasForm os) os.binds b formed.bindings s.0)) in
      (w.0, ordered.falls b w.0 k s.0 w.1 (at ∙ ap Some (sym s.1)), w.1)

  no_bindings_to : (i : ℕ) → length os.list ≤ i → bindings_to os i ≡ []
  no_bindings_to i past =
      empty_list os formed (bindings_to os i)
      (λ b h.
      let s = of_right i b h in
      let low = right_within os b (All-contains (HasForm os) os.binds b formed.bindings s.0) in
      let at = s.1 in
      omega arith)

  led_known : (known : ℕ → Leading) (i : ℕ) → ((b : Binding) → Contains (bindings_to os i) b → known b.left ≡ leading_of (leaders_of os b.left))
      → led_through os known (bindings_to os i) ≡ leading_of (leaders_of os i)
  led_known known i h =
      led_behind known [] (bindings_to os i)
      (each_of (λ (b : Binding). led_by os known b.left ≡ leading_of (itself_or (leaders_of os b.left) b.left (is_beginning (form_at os b.left)))) (bindings_to os i)
      (λ b at. one_led known b.left (h b at) (is_beginning (form_at os b.left))))
      ∙ ap leading_of (sym (leaders_follow os formed i))

  module _ (order : List ℕ) (ordered : IsOrder os order) where
    -- the objects from the k-th place on have theirs
    abbrev pub AreLedFrom : ℕ → List Leading → Type 0
    AreLedFrom k known = (m j : ℕ) → k ≤ m → slice_get order m ≡ Some j → leading_at known j ≡ leading_of (leaders_of os j)

    module _ (known : List Leading) (k : ℕ) (found : Leading) (below : k < length order) (long : length known ≡ length os.list) (led : AreLedFrom (k + 1) known)
        (right : found ≡ leading_of (leaders_of os (get_or order k 0))) where
      led_new : leading_at (slice_set known (get_or order k 0) found) (get_or order k 0) ≡ leading_of (leaders_of os (get_or order k 0))
      led_new =
          let within : get_or order k 0 < length known = subst (λ n. get_or order k 0 < n) (sym long) (ordered.within k 0 below) in
          unwrap_or-slice_get (slice_set known (get_or order k 0) found) (get_or order k 0) leading.Nobody
          ∙ get_or-set_same known (get_or order k 0) found leading.Nobody within ∙ right

      led_old : (m j : ℕ) → k ≤ m → slice_get order m ≡ Some j → (j ≡ get_or order k 0 → ⊥)
          → leading_at (slice_set known (get_or order k 0) found) j ≡ leading_of (leaders_of os j)
      led_old m j after here other =
          unwrap_or-slice_get (slice_set known (get_or order k 0) found) j leading.Nobody
          ∙ get_or-set_other known (get_or order k 0) j found leading.Nobody other ∙ sym (unwrap_or-slice_get known j leading.Nobody)
          ∙ elim (cases_lt k m) [
            | inl high ↦ led m j (omega arith) here
            | inr low ↦
                let e : m ≡ k = omega arith in
                absurd (other (same_Some j (get_or order k 0) (sym here ∙ ap (slice_get order) e ∙ slice_get-get_or order k 0 below)))
          ]

      pub led_more : AreLedFrom k (slice_set known (get_or order k 0) found)
      led_more m j after here =
          elim (cases_eq j (get_or order k 0)) [
            | inl same ↦ ap (leading_at (slice_set known (get_or order k 0) found)) same ∙ led_new ∙ ap (λ i. leading_of (leaders_of os i)) (sym same)
            | inr other ↦ led_old m j after here other
          ]

    -- what is found at the next place
    pub led_right : (to : List (List Binding)) → AreRows (bindings_to os) to → (known : List Leading) (k : ℕ) (found : Leading) → k < length order → AreLedFrom (k + 1) known
        → found ≡ led_through os (leading_at known) (row_at to (get_or order k 0)) → found ≡ leading_of (leaders_of os (get_or order k 0))
    led_right to linked known k found below led is =
        is ∙ ap (led_through os (leading_at known)) (linked (get_or order k 0))
        ∙ led_known (leading_at known) (get_or order k 0)
        (λ b h. let r = left_behind order ordered k (get_or order k 0) (slice_get-get_or order k 0 below) b h in led r.0 b.left (omega (arith, r.1)) r.2)

    pub all_led : (known : List Leading) → length known ≡ length os.list → AreLedFrom 0 known → AreLed os known
    all_led known long led i =
        elim (cases_lt i (length os.list)) [
          | inl within ↦ let w = place_of os formed order ordered i within in led w.0 i (omega arith) w.1
          | inr past ↦
              let past_known : length known ≤ i = subst (λ n. n ≤ i) (sym long) past in
              unwrap_or-slice_get known i leading.Nobody ∙ get_or_past known i leading.Nobody past_known
              ∙ sym (ap leading_of (leaders_follow os formed i ∙ ap (flat_map (λ (b : Binding). itself_or (leaders_of os b.left) b.left (is_beginning (form_at os b.left)))) (no_bindings_to i past)))
        ]
