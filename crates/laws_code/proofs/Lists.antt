-- Elements of lists, and tests of them.
use Rattle.std.proofs.Common.{◌≡◌, ◌⊎◌, inl, inr, ℕ, zero, suc, Bool, true, false, cond, ◌&&◌, ◌||◌, List, [], ◌∷◌, ◌++◌, Option, Some, None, refl, sym, ◌∙◌, ap, subst, true≢false}
use Rattle.std.specs.Prelude.{slice_get, filter, filter_map, find, option_and_then}
use Rattle.std.specs.List.{AllByRecursion, cons_option, list_any}
use Rattle.code_rules.specs.Deeds.{with_two, with_three, with_four}
use Rattle.laws_code.proofs.Coded.{same_some}

-- x is one of these
abbrev pub IsOf : {A : Type 0} → A → List A → Type 0
IsOf x [] = ⊥
IsOf x (y ∷ ys) = (y ≡ x) ⊎ IsOf x ys

pub of_all : {A : Type 0} (P : A → Type 0) (x : A) (xs : List A) → IsOf x xs → AllByRecursion P xs → P x
of_all P x [] h k = absurd h
of_all P x (y ∷ ys) (inl e) k = subst P e k.0
of_all P x (y ∷ ys) (inr h) k = of_all P x ys h k.1

pub or_left : (a b : Bool) → a ≡ true → (a || b) ≡ true
or_left true b h = refl
or_left false b h = absurd (true≢false (sym h))

pub or_right : (a b : Bool) → b ≡ true → (a || b) ≡ true
or_right true b h = refl
or_right false b h = h

pub or_first : (a b : Bool) → (a || b) ≡ true → b ≡ false → a ≡ true
or_first true b h k = refl
or_first false b h k = absurd (true≢false (sym h ∙ k))

pub and_false : (a b : Bool) → (a && b) ≡ false → b ≡ true → a ≡ false
and_false true b h k = absurd (true≢false (sym k ∙ h))
and_false false b h k = refl

pub of_any : {A : Type 0} (test : A → Bool) (x : A) (xs : List A) → IsOf x xs → test x ≡ true → list_any test xs ≡ true
of_any test x [] h k = absurd h
of_any test x (y ∷ ys) (inl e) k = or_left (test y) (list_any test ys) (ap test e ∙ k)
of_any test x (y ∷ ys) (inr h) k = or_right (test y) (list_any test ys) (of_any test x ys h k)

pub of_left : {A : Type 0} (x : A) (xs ys : List A) → IsOf x xs → IsOf x (xs ++ ys)
of_left x [] ys h = absurd h
of_left x (y ∷ xs) ys (inl e) = inl e
of_left x (y ∷ xs) ys (inr h) = inr (of_left x xs ys h)

pub of_right : {A : Type 0} (x : A) (xs ys : List A) → IsOf x ys → IsOf x (xs ++ ys)
of_right x [] ys h = h
of_right x (y ∷ xs) ys h = inr (of_right x xs ys h)

-- of those that pass a test
first_kept : {A : Type 0} (b : Bool) (y x : A) (ys : List A) → b ≡ true → y ≡ x → IsOf x (cond b (y ∷ ys) ys)
first_kept true y x ys h e = inl e
first_kept false y x ys h e = absurd (true≢false (sym h))

more_kept : {A : Type 0} (b : Bool) (y x : A) (ys : List A) → IsOf x ys → IsOf x (cond b (y ∷ ys) ys)
more_kept true y x ys h = inr h
more_kept false y x ys h = h

pub of_filter : {A : Type 0} (test : A → Bool) (x : A) (xs : List A) → IsOf x xs → test x ≡ true → IsOf x (filter test xs)
of_filter test x [] h k = absurd h
of_filter test x (y ∷ ys) (inl e) k = first_kept (test y) y x (filter test ys) (ap test e ∙ k) e
of_filter test x (y ∷ ys) (inr h) k = more_kept (test y) y x (filter test ys) (of_filter test x ys h k)

-- of those that are made of others
first_made : {A : Type 0} (o : Option A) (y : A) (ys : List A) → o ≡ Some y → IsOf y (cons_option o ys)
first_made None y ys e = cc
first_made (Some z) y ys e = inl (same_some z y e)

more_made : {A : Type 0} (o : Option A) (y : A) (ys : List A) → IsOf y ys → IsOf y (cons_option o ys)
more_made None y ys h = h
more_made (Some z) y ys h = inr h

pub of_made : {A B : Type 0} (f : A → Option B) (x : A) (y : B) (xs : List A) → IsOf x xs → f x ≡ Some y → IsOf y (filter_map f xs)
of_made f x y [] h k = absurd h
of_made f x y (z ∷ zs) (inl e) k = first_made (f z) y (filter_map f zs) (ap f e ∙ k)
of_made f x y (z ∷ zs) (inr h) k = more_made (f z) y (filter_map f zs) (of_made f x y zs h k)

-- what one is made of
abbrev pub MadeOf : {A B : Type 0} → (A → Option B) → B → List A → Type 0
MadeOf {A} f y xs = (x : A) × IsOf x xs × (f x ≡ Some y)

made_back : {A B : Type 0} (f : A → Option B) (z : A) (o : Option B) (y : B) (zs : List A) → f z ≡ o → (IsOf y (filter_map f zs) → MadeOf f y zs) → IsOf y (cons_option o (filter_map f zs)) → MadeOf f y (z ∷ zs)
made_back f z None y zs e rest h = let k = rest h in (k.0, inr k.1, k.2)
made_back f z (Some w) y zs e rest (inl same) = (z, inl refl, e ∙ ap Some same)
made_back f z (Some w) y zs e rest (inr h) = let k = rest h in (k.0, inr k.1, k.2)

pub made_of : {A B : Type 0} (f : A → Option B) (y : B) (xs : List A) → IsOf y (filter_map f xs) → MadeOf f y xs
made_of f y [] h = absurd h
made_of f y (z ∷ zs) h = made_back f z (f z) y zs refl (made_of f y zs) h

-- the first that passes a test
by_test : {A : Type 0} (test : A → Bool) (b : Bool) (y x : A) (ys : List A) → test y ≡ b → (find test ys ≡ Some x → IsOf x ys × (test x ≡ true)) → cond b (Some y) (find test ys) ≡ Some x → IsOf x (y ∷ ys) × (test x ≡ true)
by_test test true y x ys e rest h = let same = same_some y x h in (inl same, ap test (sym same) ∙ e)
by_test test false y x ys e rest h = let k = rest h in (inr k.0, k.1)

pub found_of : {A : Type 0} (test : A → Bool) (x : A) (xs : List A) → find test xs ≡ Some x → IsOf x xs × (test x ≡ true)
found_of test x [] h = cc
found_of test x (y ∷ ys) h = by_test test (test y) y x ys refl (found_of test x ys) h

-- what each is that is one of two
pub all_both : {A : Type 0} (P Q : A → Type 0) (xs : List A) → AllByRecursion P xs → AllByRecursion Q xs → AllByRecursion (λ x. P x × Q x) xs
all_both P Q [] h k = tt
all_both P Q (x ∷ xs) h k = ((h.0, k.0), all_both P Q xs h.1 k.1)

-- what each is, the one at a place is
pub at_slice : {A : Type 0} (P : A → Type 0) (xs : List A) (x : A) (k : ℕ) → AllByRecursion P xs → slice_get xs k ≡ Some x → P x
at_slice P [] x k h e = cc
at_slice P (y ∷ ys) x zero h e = subst P (same_some y x e) h.0
at_slice P (y ∷ ys) x (suc k) h e = at_slice P ys x k h.1 e

-- parts of what is there

pub bound_is : {A B : Type 0} (f : A → Option B) (o : Option A) (y : B) → option_and_then f o ≡ Some y → (x : A) × (o ≡ Some x) × (f x ≡ Some y)
bound_is f None y h = cc
bound_is f (Some x) y h = (x, refl, h)

pub two_are : {A B C : Type 0} (f : A → B → C) (a : Option A) (b : Option B) (z : C) → with_two f a b ≡ Some z → (x : A) × (y : B) × (a ≡ Some x) × (b ≡ Some y) × (f x y ≡ z)
two_are f None b z h = cc
two_are f (Some x) None z h = cc
two_are f (Some x) (Some y) z h = (x, y, refl, refl, same_some (f x y) z h)

pub three_are : {A B C D : Type 0} (f : A → B → C → D) (a : Option A) (b : Option B) (c : Option C) (z : D) → with_three f a b c ≡ Some z
    → (x : A) × (y : B) × (w : C) × (a ≡ Some x) × (b ≡ Some y) × (c ≡ Some w) × (f x y w ≡ z)
three_are f None b c z h = cc
three_are f (Some x) None c z h = cc
three_are f (Some x) (Some y) None z h = cc
three_are f (Some x) (Some y) (Some w) z h = (x, y, w, refl, refl, refl, same_some (f x y w) z h)

pub four_are : {A B C D E : Type 0} (f : A → B → C → D → E) (a : Option A) (b : Option B) (c : Option C) (d : Option D) (z : E) → with_four f a b c d ≡ Some z
    → (x : A) × (y : B) × (w : C) × (v : D) × (a ≡ Some x) × (b ≡ Some y) × (c ≡ Some w) × (d ≡ Some v) × (f x y w v ≡ z)
four_are f None b c d z h = cc
four_are f (Some x) None c d z h = cc
four_are f (Some x) (Some y) None d z h = cc
four_are f (Some x) (Some y) (Some w) None z h = cc
four_are f (Some x) (Some y) (Some w) (Some v) z h = (x, y, w, v, refl, refl, refl, refl, same_some (f x y w v) z h)
