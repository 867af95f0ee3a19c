-- What a walk over rising entries finds: the first entry from a key on, and the first of all.
use Rattle.std.proofs.Common.{◌≡◌, Bool, true, false, cond, List, [], ◌∷◌, Some, None, Option, ◌⊎◌, inl, inr, ⊎_elim, refl, sym, ap, ◌∙◌, subst, true≢false}
use Rattle.std.specs.Prelude.{is_some, slice_get}
use Rattle.std.specs.declared.cmp.Ordering.{Ordering}
use Rattle.std.specs.declared.cmp.Ordering.TheVariants.{Less, Equal, Greater}
use Rattle.std.specs.Ordering.{is_lt, is_eq, is_gt}
use Rattle.std.specs.Cmp.{IsTotalOrder, alike_right, tied_back, tied_itself}
use Rattle.std.specs.FinMap.{find}
use Rattle.room_map.specs.Entries.{AllAbove, IsRising, first_not_below}
use Rattle.room_map.proofs.Rising.{turned}

equal_of : (w : Ordering) → is_eq w ≡ true → w ≡ Equal
equal_of Less h = absurd (true≢false (sym h))
equal_of Equal h = refl
equal_of Greater h = absurd (true≢false (sym h))

some_same : {A : Type 0} {x y : A} → Some x ≡ Some y → x ≡ y
some_same h = cc

some_none : {A : Type 0} {x : A} → Some x ≡ None → ⊥
some_none h = cc

found_cases : {A : Type 0} (b : Bool) (v : A) (rest : Option A) → is_some (cond b (Some v) rest) ≡ true → (b ≡ true) ⊎ (is_some rest ≡ true)
found_cases true v rest h = inl refl
found_cases false v rest h = inr h

module _ {K V : Type 0} {R : K → K → Ordering} (o : IsTotalOrder R) where
  -- a key that is found behind x is above it
  pub above_found : (x q : K) (es : List (K × V)) → AllAbove R x es → is_some (find R q es) ≡ true → R x q ≡ Less
  above_found x q [] above there = absurd (true≢false (sym there))
  above_found x q (e ∷ es) above there = ⊎_elim
      (λ tied. alike_right o q e.0 x (equal_of (R q e.0) tied) ∙ above.0)
      (above_found x q es above.1)
      (found_cases (is_eq (R q e.0)) e.1 (find R q es) there)

  found_later : (x : K × V) (q : K) (es : List (K × V)) (v : V) → R x.0 q ≡ Less → find R q es ≡ Some v → find R q (x ∷ es) ≡ Some v
  found_later x q es v h there = ap (λ w. cond (is_eq w) (Some x.1) (find R q es)) (turned o x.0 q h) ∙ there

  found_here : (x : K × V) (es : List (K × V)) → find R x.0 (x ∷ es) ≡ Some x.1
  found_here x es = ap (λ w. cond (is_eq w) (Some x.1) (find R x.0 es)) (tied_itself o x.0)

  -- ---- the first entry whose key is not below k

  pub first_there : (k : K) (es : List (K × V)) (e : K × V) → IsRising R es → first_not_below R k es ≡ Some e → find R e.0 es ≡ Some e.1
  first_there k [] e rises first = absurd (some_none (sym first))
  first_there k (x ∷ xs) e rises first = by_test (is_lt (R x.0 k)) first (first_there k xs e rises.1)
    where
      by_test : (b : Bool) → cond b (first_not_below R k xs) (Some x) ≡ Some e → (first_not_below R k xs ≡ Some e → find R e.0 xs ≡ Some e.1) → find R e.0 (x ∷ xs) ≡ Some e.1
      by_test true is rest = found_later x e.0 xs e.1 (above_found x.0 e.0 xs rises.0 (ap is_some (rest is))) (rest is)
      by_test false is rest = subst (λ (y : K × V). find R y.0 (x ∷ xs) ≡ Some y.1) (some_same is) (found_here x xs)

  pub first_not_less : (k : K) (es : List (K × V)) (e : K × V) → first_not_below R k es ≡ Some e → is_lt (R e.0 k) ≡ false
  first_not_less k [] e first = absurd (some_none (sym first))
  first_not_less k (x ∷ xs) e first = by_test (is_lt (R x.0 k)) refl first (first_not_less k xs e)
    where
      by_test : (b : Bool) → is_lt (R x.0 k) ≡ b → cond b (first_not_below R k xs) (Some x) ≡ Some e → (first_not_below R k xs ≡ Some e → is_lt (R e.0 k) ≡ false) → is_lt (R e.0 k) ≡ false
      by_test true t is rest = rest is
      by_test false t is rest = subst (λ (y : K × V). is_lt (R y.0 k) ≡ false) (some_same is) t

  -- no key from k on is below that of the first entry
  pub first_least : (k q : K) (es : List (K × V)) (e : K × V) → IsRising R es → first_not_below R k es ≡ Some e → is_some (find R q es) ≡ true → is_lt (R q k) ≡ false → is_gt (R e.0 q) ≡ false
  first_least k q [] e rises first there from = absurd (some_none (sym first))
  first_least k q (x ∷ xs) e rises first there from = by_test (is_lt (R x.0 k)) refl first (λ is in_rest. first_least k q xs e rises.1 is in_rest from)
    where
      here : (R q x.0 ≡ Equal) → is_gt (R x.0 q) ≡ false
      here tied = ap is_gt (tied_back o q x.0 tied)

      by_test : (b : Bool) → is_lt (R x.0 k) ≡ b → cond b (first_not_below R k xs) (Some x) ≡ Some e
          → (first_not_below R k xs ≡ Some e → is_some (find R q xs) ≡ true → is_gt (R e.0 q) ≡ false) → is_gt (R e.0 q) ≡ false
      by_test true t is rest = ⊎_elim
          (λ tied. absurd (true≢false (sym t ∙ ap is_lt (sym (o.congr q x.0 k (equal_of (R q x.0) tied))) ∙ from)))
          (rest is)
          (found_cases (is_eq (R q x.0)) x.1 (find R q xs) there)
      by_test false t is rest = subst (λ (y : K × V). is_gt (R y.0 q) ≡ false) (some_same is) (⊎_elim
          (λ tied. here (equal_of (R q x.0) tied))
          (λ in_rest. ap is_gt (above_found x.0 q xs rises.0 in_rest))
          (found_cases (is_eq (R q x.0)) x.1 (find R q xs) there))

  -- where there is no such entry, each key is below k
  pub none_from : (k q : K) (es : List (K × V)) → first_not_below R k es ≡ None → is_some (find R q es) ≡ true → is_lt (R q k) ≡ true
  none_from k q [] first there = absurd (true≢false (sym there))
  none_from k q (x ∷ xs) first there = by_test (is_lt (R x.0 k)) refl first (none_from k q xs)
    where
      by_test : (b : Bool) → is_lt (R x.0 k) ≡ b → cond b (first_not_below R k xs) (Some x) ≡ None → (first_not_below R k xs ≡ None → is_some (find R q xs) ≡ true → is_lt (R q k) ≡ true) → is_lt (R q k) ≡ true
      by_test true t is rest = ⊎_elim
          (λ tied. ap is_lt (o.congr q x.0 k (equal_of (R q x.0) tied)) ∙ t)
          (rest is)
          (found_cases (is_eq (R q x.0)) x.1 (find R q xs) there)
      by_test false t is rest = absurd (some_none is)

  -- ---- the first entry of all

  pub least_there : (es : List (K × V)) (e : K × V) → slice_get es 0 ≡ Some e → find R e.0 es ≡ Some e.1
  least_there [] e first = absurd (some_none (sym first))
  least_there (x ∷ xs) e first = subst (λ (y : K × V). find R y.0 (x ∷ xs) ≡ Some y.1) (some_same first) (found_here x xs)

  -- no key is below that of the first entry
  pub least_least : (q : K) (es : List (K × V)) (e : K × V) → IsRising R es → slice_get es 0 ≡ Some e → is_some (find R q es) ≡ true → is_gt (R e.0 q) ≡ false
  least_least q [] e rises first there = absurd (some_none (sym first))
  least_least q (x ∷ xs) e rises first there = subst (λ (y : K × V). is_gt (R y.0 q) ≡ false) (some_same first) (⊎_elim
      (λ tied. ap is_gt (tied_back o q x.0 (equal_of (R q x.0) tied)))
      (λ in_rest. ap is_gt (above_found x.0 q xs rises.0 in_rest))
      (found_cases (is_eq (R q x.0)) x.1 (find R q xs) there))

pub none_at_all : {A : Type 0} (es : List A) → slice_get es 0 ≡ None → es ≡ []
none_at_all [] first = refl
none_at_all (e ∷ es) first = absurd (some_none first)
