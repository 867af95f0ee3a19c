-- Names that are put in one after another, each once, are those of the definition.
use Rattle.std.proofs.Common.{◌≡◌, ℕ, Bool, true, false, not, ◌&&◌, ◌||◌, cond, List, [], ◌∷◌, ◌++◌, length, filter, Option, Some, None, refl, sym, ap, ◌∙◌, append_assoc}
use Rattle.std.specs.Prelude.{bytes_eq, is_some}
use Rattle.std.specs.Option.{option_or}
use Rattle.std.proofs.lemmas.Slice.Eq.{bytes_eq-Decides}
use Rattle.std.proofs.lemmas.Cmp.{nat_list_eq_equiv}
use Rattle.std.proofs.lemmas.List.{append-nil}
use Rattle.code_rules.specs.Bodies.{once}
use Rattle.code_terms.specs.Names.{place_of, with_once, with_all}
use Rattle.code_terms.proofs.Positions.{position_push}

-- more after more
pub all_append : (names xs ys : List (List ℕ)) → with_all names (xs ++ ys) ≡ with_all (with_all names xs) ys
all_append names [] ys = refl
all_append names (x ∷ xs) ys = all_append (with_once names x) xs ys

abbrev is_in : List (List ℕ) → List ℕ → Bool
is_in names name = is_some (place_of names name)

filter_same : (p q : List ℕ → Bool) → ((x : List ℕ) → p x ≡ q x) → (xs : List (List ℕ)) → filter p xs ≡ filter q xs
filter_same p q h [] = refl
filter_same p q h (x ∷ xs) = ap (λ b. cond b (x ∷ filter p xs) (filter p xs)) (h x) ∙ ap (λ ys. cond (q x) (x ∷ ys) ys) (filter_same p q h xs)

both_first : (p q : List ℕ → Bool) (x : List ℕ) (kept both : List (List ℕ)) → filter p kept ≡ both → (b c : Bool) → p x ≡ b → q x ≡ c
    → filter p (cond c (x ∷ kept) kept) ≡ cond (b && c) (x ∷ both) both
both_first p q x kept both h true true e f = ap (λ t. cond t (x ∷ filter p kept) (filter p kept)) e ∙ ap (λ ys. x ∷ ys) h
both_first p q x kept both h false true e f = ap (λ t. cond t (x ∷ filter p kept) (filter p kept)) e ∙ h
both_first p q x kept both h true false e f = h
both_first p q x kept both h false false e f = h

filter_both : (p q : List ℕ → Bool) (xs : List (List ℕ)) → filter p (filter q xs) ≡ filter (λ x. p x && q x) xs
filter_both p q [] = refl
filter_both p q (x ∷ xs) = both_first p q x (filter q xs) (filter (λ y. p y && q y) xs) (filter_both p q xs) (p x) (q x) refl refl

-- a name among those with one more
in_more : (b c : Bool) (o : Option ℕ) (n : ℕ) → is_some (option_or o (cond b (Some n) None)) ≡ (is_some o || b)
in_more true c None n = refl
in_more false c None n = refl
in_more b c (Some m) n = refl

module _ (acc : List (List ℕ)) (x : List ℕ) where
  no_both : false ≡ true → ⊥
  no_both h = cc

  apart : (b c : Bool) (o : List ℕ) → is_in acc o ≡ b → bytes_eq o x ≡ c → is_in acc x ≡ true → (not (is_in acc o) && not (bytes_eq o x)) ≡ not (is_in acc o)
  apart true c o e f h = ap (λ t. not t && not (bytes_eq o x)) e ∙ sym (ap not e)
  apart false false o e f h = ap (λ t. not (is_in acc o) && not t) f ∙ ap (λ t. not t && true) e ∙ sym (ap not e)
  apart false true o e f h = absurd (no_both (sym e ∙ ap (is_in acc) ((bytes_eq-Decides o x).0 f) ∙ h))

  joined : (b c : Bool) → not (b || c) ≡ (not b && not c)
  joined true c = refl
  joined false c = refl

  in_push : (o : List ℕ) → not (is_in (acc ++ x ∷ []) o) ≡ (not (is_in acc o) && not (bytes_eq o x))
  in_push o =
      ap (λ p. not (is_some p)) (position_push (λ y. bytes_eq y o) acc x)
      ∙ ap not (in_more (bytes_eq x o) false (place_of acc o) (length acc))
      ∙ joined (is_in acc o) (bytes_eq x o)
      ∙ ap (λ t. not (is_in acc o) && not t) (nat_list_eq_equiv.symm x o)

after_first : (acc : List (List ℕ)) (x : List ℕ) (xs rest : List (List ℕ))
    → with_all acc xs ≡ acc ++ filter (λ o. not (is_in acc o)) rest
    → with_all (acc ++ x ∷ []) xs ≡ (acc ++ x ∷ []) ++ filter (λ o. not (is_in (acc ++ x ∷ []) o)) rest
    → (b : Bool) → is_in acc x ≡ b
    → with_all (cond b acc (acc ++ x ∷ [])) xs ≡ acc ++ cond (not b) (x ∷ filter (λ o. not (is_in acc o)) (filter (λ o. not (bytes_eq o x)) rest)) (filter (λ o. not (is_in acc o)) (filter (λ o. not (bytes_eq o x)) rest))
after_first acc x xs rest h k true there =
    h ∙ ap (λ ys. acc ++ ys) (sym (filter_both (λ o. not (is_in acc o)) (λ o. not (bytes_eq o x)) rest
    ∙ filter_same (λ o. not (is_in acc o) && not (bytes_eq o x)) (λ o. not (is_in acc o)) (λ o. apart acc x (is_in acc o) (bytes_eq o x) o refl refl there) rest))
after_first acc x xs rest h k false there =
    k ∙ append_assoc acc (x ∷ []) (filter (λ o. not (is_in (acc ++ x ∷ []) o)) rest)
    ∙ ap (λ ys. acc ++ x ∷ ys) (filter_same (λ o. not (is_in (acc ++ x ∷ []) o)) (λ o. not (is_in acc o) && not (bytes_eq o x)) (in_push acc x) rest
    ∙ sym (filter_both (λ o. not (is_in acc o)) (λ o. not (bytes_eq o x)) rest))

once_after : (acc xs : List (List ℕ)) → with_all acc xs ≡ acc ++ filter (λ o. not (is_in acc o)) (once xs)
once_after acc [] = sym (append-nil acc)
once_after acc (x ∷ xs) = after_first acc x xs (once xs) (once_after acc xs) (once_after (acc ++ x ∷ []) xs) (is_in acc x) refl

all_kept : (xs : List (List ℕ)) → filter (λ o. not (is_in [] o)) xs ≡ xs
all_kept [] = refl
all_kept (x ∷ xs) = ap (λ ys. x ∷ ys) (all_kept xs)

-- from none on
pub all_once : (xs : List (List ℕ)) → with_all [] xs ≡ once xs
all_once xs = once_after [] xs ∙ all_kept (once xs)
