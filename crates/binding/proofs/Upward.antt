-- Paths: each object but the top one adds its name behind the path of the instance that it is in.
use Rattle.std.proofs.Common.{◌≡◌, ◌<◌, ◌≤◌, ◌+◌, ℕ, zero, suc, Bool, true, false, List, [], ◌∷◌, ◌++◌, Option, Some, None, cond, refl, sym, ap, ◌∙◌, inl, inr, arith, eq-eqb}
use Rattle.std.proofs.lemmas.Bool.{false≢true}
use Rattle.design_rules.specs.FlatDesign.declared.objects.Object.{Object}
use Rattle.design_rules.specs.FlatDesign.declared.objects.Objects.{Objects}
use Rattle.design_rules.specs.Objects.{object_at, name_of, is_own_parent, parent_of, parent_at, below, path_up, path_of}
use Rattle.design_rules.specs.Formed.{AreFormed}
use Rattle.binding.specs.Names.{path_through}

module _ (os : Objects) (formed : AreFormed os) where
  -- an object that is not in itself is in one before it
  lower_in : (i : ℕ) (o : Option Object) → object_at os i ≡ o → is_own_parent i o ≡ false → parent_of o < i
  lower_in i None is h = cc
  lower_in i (Some o) is h =
      elim (formed.parents i o is) [
        | inl low ↦ low
        | inr (first, its) ↦ absurd (false≢true (sym h ∙ eq-eqb o.parent i (its ∙ sym first)))
      ]

  pub lower : (i : ℕ) → is_own_parent i (object_at os i) ≡ false → parent_at os i < i
  lower i h = lower_in i (object_at os i) refl h

  one_up : (n i : ℕ) (b : Bool) → is_own_parent i (object_at os i) ≡ b
      → path_up (suc n) os.list i ≡ cond b (name_of (object_at os i)) (below (path_up n os.list (parent_at os i)) (name_of (object_at os i)))
  unfolding path_up
  one_up n i b e = ap (λ c. cond c (name_of (object_at os i)) (below (path_up n os.list (parent_at os i)) (name_of (object_at os i)))) e

  own_name : (n i : ℕ) → is_own_parent i (object_at os i) ≡ true → path_up n os.list i ≡ name_of (object_at os i)
  unfolding path_up
  own_name zero i own = refl
  own_name (suc n) i own = one_up n i true own

  -- as many steps as the number of an object suffice
  enough : (n m i : ℕ) → i ≤ n → i ≤ m → (b : Bool) → is_own_parent i (object_at os i) ≡ b → path_up n os.list i ≡ path_up m os.list i
  enough n m i few less true own = own_name n i own ∙ sym (own_name m i own)
  enough zero m i few less false own = let low = lower i own in absurd (omega arith)
  enough (suc n) zero i few less false own = let low = lower i own in absurd (omega arith)
  enough (suc n) (suc m) i few less false own =
      let low = lower i own in
      one_up n i false own
      ∙ ap (λ p. below p (name_of (object_at os i))) (enough n m (parent_at os i) (omega arith) (omega arith) (is_own_parent (parent_at os i) (object_at os (parent_at os i))) refl)
      ∙ sym (one_up m i false own)

  pub path_below : (i : ℕ) → is_own_parent i (object_at os i) ≡ false → path_of os i ≡ below (path_of os (parent_at os i)) (name_of (object_at os i))
  path_below zero own = let low = lower 0 own in absurd (omega arith)
  path_below (suc n) own =
      let low = lower (suc n) own in
      one_up n (suc n) false own
      ∙ ap (λ p. below p (name_of (object_at os (suc n))))
      (enough n (parent_at os (suc n)) (parent_at os (suc n)) (omega arith) (omega arith) (is_own_parent (parent_at os (suc n)) (object_at os (parent_at os (suc n)))) refl)

  pub path_own : (i : ℕ) → is_own_parent i (object_at os i) ≡ true → path_of os i ≡ name_of (object_at os i)
  path_own i own = own_name i i own

pub through-push : (os : Objects) (path up : List ℕ) (i : ℕ) → path_through os path (up ++ i ∷ []) ≡ path_through os (below path (name_of (object_at os i))) up
through-push os path [] i = refl
through-push os path (j ∷ up) i = ap (λ p. below p (name_of (object_at os j))) (through-push os path up i)
