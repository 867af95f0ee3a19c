-- The paths of objects, by the instances that they are in.
use Rattle.std.proofs.Common.{◌≡◌, ◌<◌, ◌≤◌, ℕ, zero, suc, Bool, true, false, cond, List, drop, length, get_or, Option, Some, None, refl, sym, ap, ◌∙◌, inl, inr, arith, eq-eqb}
use Rattle.std.specs.Prelude.{◌==◌, ◌&&◌, bytes_eq}
use Rattle.std.specs.List.{position_or_len}
use Rattle.std.proofs.lemmas.Bool.{false≢true}
use Rattle.std.proofs.lemmas.Bool.Decides.{nat_tests}
use Rattle.std.proofs.lemmas.Slice.Eq.{bytes_eq-Decides}
use Rattle.std.proofs.lemmas.List.{length-drop}
use Rattle.std.proofs.lemmas.List.Sums.{passes_at_first}
use Rattle.std.proofs.lemmas.Grind.{get_or_after_one}
use Rattle.std.proofs.lemmas.Option.{slice_get_within, get_or_from_slice_get}
use Rattle.elaborate_objects.specs.FlatDesign.declared.objects.Object.{Object}
use Rattle.elaborate_objects.specs.FlatDesign.declared.objects.Objects.{Objects}
use Rattle.elaborate_objects.specs.DesignRules.Listing.{is_child, child}
use Rattle.elaborate_objects.specs.DesignRules.Objects.{object_at, name_of, is_own_parent, parent_of, parent_at, below, path_up, path_of}
use Rattle.elaborate_objects.specs.Parents.{AreInside}
use Rattle.elaborate_objects.specs.DesignRules.Denoting.{below_top}

module _ (os : Objects) (inside : AreInside os.list) where
  -- an object that is not in itself is in one before it
  lower_in : (i : ℕ) (o : Option Object) → object_at os i ≡ o → is_own_parent i o ≡ false → parent_of o < i
  lower_in i None is h = cc
  lower_in i (Some o) is h =
      elim (inside i o is) [
        | inl low ↦ low
        | inr (first, its) ↦ absurd (false≢true (sym h ∙ eq-eqb o.parent i (its ∙ sym first)))
      ]

  pub lower : (i : ℕ) → is_own_parent i (object_at os i) ≡ false → parent_at os i < i
  lower i h = lower_in i (object_at os i) refl h

  one_up : (n i : ℕ) (b : Bool) → is_own_parent i (object_at os i) ≡ b
      → path_up (suc n) os.list i ≡ cond b (name_of (object_at os i)) (below (path_up n os.list (parent_at os i)) (name_of (object_at os i)))
  unfolding path_up
  one_up n i b e = ap (λ c. cond c (name_of (object_at os i)) (below (path_up n os.list (parent_at os i)) (name_of (object_at os i)))) e

  own_name : (n i : ℕ) → is_own_parent i (object_at os i) ≡ true → path_up n os.list i ≡ name_of (object_at os i)
  unfolding path_up
  own_name zero i own = refl
  own_name (suc n) i own = one_up n i true own

  -- as many steps as the number of an object suffice
  enough : (n m i : ℕ) → i ≤ n → i ≤ m → (b : Bool) → is_own_parent i (object_at os i) ≡ b → path_up n os.list i ≡ path_up m os.list i
  enough n m i few less true own = own_name n i own ∙ sym (own_name m i own)
  enough zero m i few less false own = let low = lower i own in absurd (omega arith)
  enough (suc n) zero i few less false own = let low = lower i own in absurd (omega arith)
  enough (suc n) (suc m) i few less false own =
      let low = lower i own in
      one_up n i false own
      ∙ ap (λ p. below p (name_of (object_at os i))) (enough n m (parent_at os i) (omega arith) (omega arith) (is_own_parent (parent_at os i) (object_at os (parent_at os i))) refl)
      ∙ sym (one_up m i false own)

  pub path_below : (i : ℕ) → is_own_parent i (object_at os i) ≡ false → path_of os i ≡ below (path_of os (parent_at os i)) (name_of (object_at os i))
  path_below zero own = let low = lower 0 own in absurd (omega arith)
  path_below (suc n) own =
      let low = lower (suc n) own in
      one_up n (suc n) false own
      ∙ ap (λ p. below p (name_of (object_at os (suc n))))
      (enough n (parent_at os (suc n)) (parent_at os (suc n)) (omega arith) (omega arith) (is_own_parent (parent_at os (suc n)) (object_at os (parent_at os (suc n)))) refl)

  both : (b c : Bool) → (b && c) ≡ true → (b ≡ true) × (c ≡ true)
  both true c h = (refl, h)
  both false c h = cc

  module _ (instance : ℕ) (name : List ℕ) (o : Object) where
    abbrev p : ℕ
    p = position_or_len (is_child instance name) (drop 1 os.list)

    abbrev j : ℕ
    j = child (below_top os.list) instance name

    passes : object_at os j ≡ Some o → is_child instance name o ≡ true
    passes found =
        let inside = slice_get_within os.list j o found in
        let l = length-drop 1 os.list in
        let within : p < length (drop 1 os.list) = omega (arith, inside, l) in
        let at : get_or (drop 1 os.list) p o ≡ o = get_or_after_one os.list p o ∙ get_or_from_slice_get os.list j o o found in
        sym (ap (is_child instance name) at) ∙ passes_at_first (is_child instance name) (drop 1 os.list) o within

    not_own : object_at os j ≡ Some o → is_own_parent j (object_at os j) ≡ false
    not_own found =
        ap (is_own_parent j) found
        ∙ elim (inside j o found) [
          | inl low ↦ grind (arith, nat_tests, low)
          | inr (first, its) ↦ absurd (omega (arith, first))
        ]

    pub named_path : object_at os j ≡ Some o → path_of os j ≡ below (path_of os instance) name
    named_path found =
        let is = both (o.parent == instance) (bytes_eq o.name name) (passes found) in
        let e = is.0 in
        let parent : o.parent ≡ instance = grind (arith, nat_tests, e) in
        path_below j (not_own found)
        ∙ ap (λ x. below (path_of os (parent_of x)) (name_of x)) found
        ∙ ap (λ i. below (path_of os i) o.name) parent
        ∙ ap (below (path_of os instance)) ((bytes_eq-Decides o.name name).0 is.1)
