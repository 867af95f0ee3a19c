-- Lists that show the same of each element, and lists of who is runnable that hold the same.
use Rattle.std.proofs.Common.{◌≡◌, ◌≢◌, ◌==◌, ◌||◌, ℕ, zero, suc, Bool, true, false, cond, List, [], ◌∷◌, ◌++◌, map, slice_get, Option, Some, None, option_map, refl, sym, ap, ◌∙◌, subst, eqb-true}
use Rattle.std.proofs.lemmas.Bool.{false≢true, eqb-false, eq-eqb}
use Rattle.std.proofs.lemmas.Option.{none-some, same_Some, slice_get-map}
use Rattle.sim_model.specs.Configuration.{change, changed_at}
use Rattle.sim_model.specs.Waits.{holds, without, joined}
use Rattle.sim_model.specs.Phases.{phase_after}
use Rattle.laws_order.specs.Sees.{AlikeAt}
use Rattle.laws_order.proofs.Lists.{lacks_itself, has_others}

-- ---- what f shows of each element

pub mapped : {A B : Type 0} (f : A → B) (xs ys : List A) → ((n : ℕ) → AlikeAt f xs ys n) → map f ys ≡ map f xs
mapped f [] [] h = refl
mapped f [] (y ∷ ys) h = absurd (none-some (f y) (sym (h 0)))
mapped f (x ∷ xs) [] h = absurd (none-some (f x) (h 0))
mapped f (x ∷ xs) (y ∷ ys) h = ap (λ b. b ∷ map f ys) (same_Some (f y) (f x) (h 0)) ∙ ap (λ bs. f x ∷ bs) (mapped f xs ys (λ n. h (suc n)))

options_alike : {A B : Type 0} (f : A → B) (g : A → A) → ((x y : A) → f y ≡ f x → f (g y) ≡ f (g x)) → (o r : Option A) → option_map f r ≡ option_map f o → option_map f (option_map g r) ≡ option_map f (option_map g o)
options_alike f g keeps None None e = refl
options_alike f g keeps None (Some y) e = absurd (none-some (f y) (sym e))
options_alike f g keeps (Some x) None e = absurd (none-some (f x) e)
options_alike f g keeps (Some x) (Some y) e = ap Some (keeps x y (same_Some (f y) (f x) e))

pub map-alike : {A B : Type 0} (f : A → B) (g : A → A) → ((x y : A) → f y ≡ f x → f (g y) ≡ f (g x)) → (xs ys : List A) (n : ℕ) → AlikeAt f xs ys n → AlikeAt f (map g xs) (map g ys) n
map-alike f g keeps xs ys n e = ap (option_map f) (slice_get-map g ys n) ∙ options_alike f g keeps (slice_get xs n) (slice_get ys n) e ∙ sym (ap (option_map f) (slice_get-map g xs n))

-- ---- one element changed

abbrev pub at_place : {A : Type 0} → ℕ → (A → A) → List A → List A
at_place n g [] = []
at_place zero g (x ∷ xs) = g x ∷ xs
at_place (suc n) g (x ∷ xs) = x ∷ at_place n g xs

cons_changed : {A : Type 0} (x : A) (xs : List A) (n : ℕ) (g : A → A) (o : Option A) → changed_at (x ∷ xs) (suc n) g o ≡ x ∷ changed_at xs n g o
cons_changed x xs n g None = refl
cons_changed x xs n g (Some y) = refl

pub change-at : {A : Type 0} (xs : List A) (n : ℕ) (g : A → A) → change xs n g ≡ at_place n g xs
change-at [] n g = refl
change-at (x ∷ xs) zero g = refl
change-at (x ∷ xs) (suc n) g = cons_changed x xs n g (slice_get xs n) ∙ ap (λ ys. x ∷ ys) (change-at xs n g)

alike_at : {A B : Type 0} (f : A → B) (g : A → A) → ((x y : A) → f y ≡ f x → f (g y) ≡ f (g x)) → (xs ys : List A) → ((m : ℕ) → AlikeAt f xs ys m) → (n m : ℕ) → AlikeAt f (at_place n g xs) (at_place n g ys) m
alike_at f g keeps [] [] h n m = refl
alike_at f g keeps [] (y ∷ ys) h n m = absurd (none-some (f y) (sym (h 0)))
alike_at f g keeps (x ∷ xs) [] h n m = absurd (none-some (f x) (h 0))
alike_at f g keeps (x ∷ xs) (y ∷ ys) h zero zero = ap Some (keeps x y (same_Some (f y) (f x) (h 0)))
alike_at f g keeps (x ∷ xs) (y ∷ ys) h zero (suc m) = h (suc m)
alike_at f g keeps (x ∷ xs) (y ∷ ys) h (suc n) zero = h 0
alike_at f g keeps (x ∷ xs) (y ∷ ys) h (suc n) (suc m) = alike_at f g keeps xs ys (λ k. h (suc k)) n m

pub change-alike : {A B : Type 0} (f : A → B) (g : A → A) → ((x y : A) → f y ≡ f x → f (g y) ≡ f (g x)) → (xs ys : List A) → ((m : ℕ) → AlikeAt f xs ys m) → (n m : ℕ) → AlikeAt f (change xs n g) (change ys n g) m
change-alike f g keeps xs ys h n m =
    ap (λ zs. option_map f (slice_get zs m)) (change-at ys n g) ∙ alike_at f g keeps xs ys h n m ∙ sym (ap (λ zs. option_map f (slice_get zs m)) (change-at xs n g))

-- ---- who is held

abbrev pub HoldSame : List ℕ → List ℕ → Type 0
HoldSame xs ys = (p : ℕ) → holds ys p ≡ holds xs p

or_assoc : (a b c : Bool) → a || (b || c) ≡ (a || b) || c
or_assoc true b c = refl
or_assoc false b c = refl

holds_append : (xs zs : List ℕ) (p : ℕ) → holds (xs ++ zs) p ≡ holds xs p || holds zs p
holds_append [] zs p = refl
holds_append (x ∷ xs) zs p = ap (λ b. (x == p) || b) (holds_append xs zs p) ∙ or_assoc (x == p) (holds xs p) (holds zs p)

pub append-holds : (xs ys zs : List ℕ) → HoldSame xs ys → HoldSame (xs ++ zs) (ys ++ zs)
append-holds xs ys zs h p = holds_append ys zs p ∙ ap (λ b. b || holds zs p) (h p) ∙ sym (holds_append xs zs p)

joined_by : (b : Bool) (xs ys zs : List ℕ) → HoldSame xs ys → HoldSame (cond b xs (xs ++ zs)) (cond b ys (ys ++ zs))
joined_by true xs ys zs h = h
joined_by false xs ys zs h = append-holds xs ys zs h

pub joined-holds : (xs ys : List ℕ) (q : ℕ) → HoldSame xs ys → HoldSame (joined xs q) (joined ys q)
joined-holds xs ys q h p = ap (λ b. holds (cond b ys (ys ++ q ∷ [])) p) (h q) ∙ joined_by (holds xs q) xs ys (q ∷ []) h p

pub without-holds : (xs ys : List ℕ) (q : ℕ) → HoldSame xs ys → HoldSame (without xs q) (without ys q)
without-holds xs ys q h p = by (p == q) refl
  where
    by : (b : Bool) → (p == q) ≡ b → holds (without ys q) p ≡ holds (without xs q) p
    by true is = subst (λ n. holds (without ys q) n ≡ holds (without xs q) n) (sym (eqb-true p q is)) (lacks_itself ys q ∙ sym (lacks_itself xs q))
    by false is = has_others ys q p (eqb-false p q is) ∙ h p ∙ sym (has_others xs q p (eqb-false p q is))

itself_held : (x : ℕ) (xs : List ℕ) → holds (x ∷ xs) x ≡ true
itself_held x xs = ap (λ b. b || holds xs x) (eq-eqb x x refl)

-- one of them is empty where the other one is
pub none-held : (y : ℕ) (ys : List ℕ) → HoldSame [] (y ∷ ys) → false ≡ true
none-held y ys h = sym (h y) ∙ itself_held y ys

pub some-held : (x : ℕ) (xs : List ℕ) → HoldSame (x ∷ xs) [] → false ≡ true
some-held x xs h = h x ∙ itself_held x xs

pub phase-held : (xs ys : List ℕ) → HoldSame xs ys → phase_after ys ≡ phase_after xs
phase-held [] [] h = refl
phase-held [] (y ∷ ys) h = absurd (false≢true (none-held y ys h))
phase-held (x ∷ xs) [] h = absurd (false≢true (some-held x xs h))
phase-held (x ∷ xs) (y ∷ ys) h = refl
