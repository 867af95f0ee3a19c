-- Objects that are sorted by their ranks are in order.
use Rattle.std.proofs.Common.{◌≡◌, ◌<◌, ◌+◌, ℕ, zero, suc, List, [], ◌∷◌, length, get_or, Some, refl, sym, ap, ◌∙◌, subst, inl, inr, arith}
use Rattle.std.specs.Prelude.{slice_get, All, Contains}
use Rattle.std.specs.List.{AllByRecursion}
use Rattle.std.specs.List.Sorted.{IsNonDecreasingBy, IsPermutation}
use Rattle.std.proofs.lemmas.List.Sorted.{All-permutation, Contains-permutation}
use Rattle.std.proofs.lemmas.List.Elements.{All-from_recursion, All-map, All-weaker}
use Rattle.std.proofs.lemmas.Option.{same_Some, slice_get_within, get_or_from_slice_get}
use Rattle.std.proofs.lemmas.List.{length-map, get_or-map}
use Rattle.std.proofs.lemmas.Bool.{cases_lt}
use Rattle.design_rules.specs.FlatDesign.declared.objects.Object.{Object}
use Rattle.design_rules.specs.FlatDesign.declared.objects.Binding.{Binding}
use Rattle.design_rules.specs.FlatDesign.declared.objects.Objects.{Objects}
use Rattle.design_rules.specs.Objects.{object_at}
use Rattle.design_rules.specs.Formed.{AreFormed}
use Rattle.design_rules.proofs.Ranks.{rank, rank_of, falls}
use Rattle.design_rules.proofs.Lists.{head_in, tail_in}
use Rattle.binding.specs.declared.order.Ranked.{Ranked}
use Rattle.binding.specs.Order.{rank_in, ranked_from, numbers_of, IsOrder}

module _ (os : Objects) where
  -- what is said of an object with its rank
  abbrev Holds : Ranked → Type 0
  Holds r = (r.rank ≡ rank os r.object) × (r.object < length os.list)

  -- these are the objects from this number on
  abbrev Stand : ℕ → List Object → Type 0
  Stand s xs = (k : ℕ) (o : Object) → slice_get xs k ≡ Some o → object_at os (s + k) ≡ Some o

  stands_first : (s : ℕ) (o : Object) (xs : List Object) → Stand s (o ∷ xs) → object_at os s ≡ Some o
  stands_first s o xs h = let e : s + 0 ≡ s = omega arith in subst (λ i. object_at os i ≡ Some o) e (h 0 o refl)

  stand_next : (s : ℕ) (o : Object) (xs : List Object) → Stand s (o ∷ xs) → Stand (s + 1) xs
  stand_next s o xs h k p is = let e : s + suc k ≡ s + 1 + k = omega arith in subst (λ i. object_at os i ≡ Some p) e (h (suc k) p is)

  each_holds : (s : ℕ) (xs : List Object) → Stand s xs → AllByRecursion Holds (ranked_from (length os.list) s xs)
  each_holds s [] h = tt
  each_holds s (o ∷ xs) h =
      let at = stands_first s o xs h in
      ((sym (ap (rank_of (length os.list)) at), slice_get_within os.list s o at), each_holds (s + 1) xs (stand_next s o xs h))

  -- each of them is listed
  each_listed : (s : ℕ) (xs : List Object) → Stand s xs → (k : ℕ) → k < length xs → Contains (ranked_from (length os.list) s xs) (record { rank = rank os (s + k); object = s + k })
  each_listed s [] h k below = absurd (omega arith)
  each_listed s (o ∷ xs) h zero below =
      let at = stands_first s o xs h in
      let e : s + 0 ≡ s = omega arith in
      let r : Ranked = record { rank = rank_in (length os.list) o.parent o.form; object = s } in
      let is : r ≡ record { rank = rank os s; object = s } = ap (λ (n : ℕ). record { rank = n; object = s }) (sym (ap (rank_of (length os.list)) at)) in
      subst (λ i. Contains (ranked_from (length os.list) s (o ∷ xs)) (record { rank = rank os i; object = i })) (sym e)
      (subst (λ (q : Ranked). Contains (ranked_from (length os.list) s (o ∷ xs)) q) is (head_in r (ranked_from (length os.list) (s + 1) xs)))
  each_listed s (o ∷ xs) h (suc k) below =
      let e : s + 1 + k ≡ s + suc k = omega arith in
      subst (λ i. Contains (ranked_from (length os.list) s (o ∷ xs)) (record { rank = rank os i; object = i })) e
      (tail_in _ _ _ (each_listed (s + 1) xs (stand_next s o xs h) k (omega arith)))

  stand_all : Stand 0 os.list
  stand_all k o is = let e : k ≡ 0 + k = omega arith in subst (λ i. object_at os i ≡ Some o) e is

  number_in : (rs : List Ranked) (r : Ranked) → Contains rs r → Contains (numbers_of rs) r.object
  number_in rs r (k, below, is) =
      let long = length-map rs (λ (q : Ranked). q.object) in
      (k, omega arith, get_or-map (λ (q : Ranked). q.object) rs k r r.object below ∙ ap (λ (q : Ranked). q.object) is)

  -- the one of a number in the list
  number_at : (rs : List Ranked) (k i : ℕ) → slice_get (numbers_of rs) k ≡ Some i → (r : Ranked) × (slice_get rs k ≡ Some r) × (r.object ≡ i)
  number_at [] k i h = cc
  number_at (r ∷ rs) zero i h = (r, refl, same_Some r.object i h)
  number_at (r ∷ rs) (suc k) i h = number_at rs k i h

  all_hold : (all : List Ranked) → IsPermutation (ranked_from (length os.list) 0 os.list) all → All Holds all
  all_hold all same = All-permutation Holds (ranked_from (length os.list) 0 os.list) all same (All-from_recursion Holds (ranked_from (length os.list) 0 os.list) (each_holds 0 os.list stand_all))

  rank_at : (all : List Ranked) → All Holds all → (k i : ℕ) (r : Ranked) → slice_get all k ≡ Some r → r.object ≡ i → (d : Ranked) → (get_or all k d).rank ≡ rank os i
  rank_at all holds k i r at is d =
      let found = get_or_from_slice_get all k r d at in
      let ranked = subst (λ (q : Ranked). q.rank ≡ rank os q.object) found (holds k d (slice_get_within all k r at)).0 in
      ap (λ (q : Ranked). q.rank) found ∙ ranked ∙ ap (rank os) is

  listed_all : (i : ℕ) → i < length os.list → Contains (ranked_from (length os.list) 0 os.list) (record { rank = rank os i; object = i })
  listed_all i below =
      let e : 0 + i ≡ i = omega arith in
      subst (λ j. Contains (ranked_from (length os.list) 0 os.list) (record { rank = rank os j; object = j })) e (each_listed 0 os.list stand_all i below)

  in_order : AreFormed os → (all : List Ranked) → IsNonDecreasingBy (λ (r : Ranked). r.rank) all → All Holds all
      → (b : Binding) (k m : ℕ) → Contains os.binds b → slice_get (numbers_of all) k ≡ Some b.left → slice_get (numbers_of all) m ≡ Some b.right → m < k
  in_order formed all rising holds b k m stands left right =
      let l = number_at all k b.left left in
      let r = number_at all m b.right right in
      elim (cases_lt m k) [
        | inl before ↦ before
        | inr after ↦
            let up = rising k m l.0 after (slice_get_within all m r.0 r.1) in
            let low = rank_at all holds k b.left l.0 l.1 l.2 l.0 in
            let high = rank_at all holds m b.right r.0 r.1 r.2 l.0 in
            let down = falls os formed b stands in
            absurd (omega arith)
      ]

  pub order_from : AreFormed os → (all : List Ranked) → IsNonDecreasingBy (λ (r : Ranked). r.rank) all
      → IsPermutation (ranked_from (length os.list) 0 os.list) all → IsOrder os (numbers_of all)
  order_from formed all rising same = record {
    within = All-map (λ i. i < length os.list) (λ (r : Ranked). r.object) all (All-weaker Holds (λ (r : Ranked). r.object < length os.list) (λ r h. h.1) all (all_hold all same));
    each = λ i below. number_in all (record { rank = rank os i; object = i }) (Contains-permutation (ranked_from (length os.list) 0 os.list) all (record { rank = rank os i; object = i }) same (listed_all i below));
    falls = in_order formed all rising (all_hold all same);
  }
