-- One name more.
use Rattle.std.proofs.Common.{◌≡◌, ◌≤◌, ℕ, ◌+◌, Bool, true, false, cond, List, [], ◌∷◌, ◌++◌, length, Option, Some, None, refl, sym, ap, subst, ◌∙◌, arith}
use Rattle.std.specs.Prelude.{bytes_eq, find, position, is_some, option_map, nat_lt, ◌==◌}
use Rattle.std.specs.List.{position_or_len}
use Rattle.std.specs.Option.{option_or}
use Rattle.std.proofs.lemmas.Bool.Decides.{nat_tests}
use Rattle.std.proofs.lemmas.List.{length-append}
use Rattle.std.proofs.lemmas.List.Folds.{position_or_len_push, find-append}
use Rattle.std.proofs.lemmas.List.Sums.{prefix_len-le-length}
use Rattle.std.proofs.lemmas.Slice.Eq.{bytes_eq-Decides}
use Rattle.check_names.specs.ModelRules.Members.{entry}
use Rattle.check_names.specs.Tables.{Numbers, with_first}
use Rattle.elaborate_objects.specs.Places.{ArePlaces}

-- the first place among names and one more
within : (n : ℕ) → nat_lt n (n + 1) ≡ true
within n = grind (arith, nat_tests)

at_end : (n : ℕ) → nat_lt (n + 1) (n + 1) ≡ false
at_end n = grind (arith, nat_tests)

same_or_less : (k n : ℕ) → k ≤ n → (k == n) ≡ false → nat_lt k n ≡ true
same_or_less k n le e = grind (arith, nat_tests, e, le)

one_more : (k n : ℕ) → k ≤ n → nat_lt k (n + 1) ≡ true
one_more k n le = grind (arith, nat_tests, le)

not_less : (k n : ℕ) → (k == n) ≡ true → nat_lt k n ≡ false
not_less k n e = grind (arith, nat_tests, e)

abbrev number_if : Bool → ℕ → Option ℕ
number_if b n = cond b (Some n) None

past : (n : ℕ) (b : Bool) → number_if (nat_lt (n + cond b 0 1) (n + 1)) (n + cond b 0 1) ≡ number_if b n
past n true = let f : n + 0 ≡ n = omega arith in ap (λ k. number_if (nat_lt k (n + 1)) k) f ∙ ap (λ c. number_if c n) (within n)
past n false = ap (λ c. number_if c (n + 1)) (at_end n)

by_place : (n k : ℕ) (b there : Bool) → (k == n) ≡ there → k ≤ n
    → number_if (nat_lt (cond there (n + cond b 0 1) k) (n + 1)) (cond there (n + cond b 0 1) k) ≡ option_or (number_if (nat_lt k n) k) (number_if b n)
by_place n k b true e le = past n b ∙ sym (ap (λ c. option_or (number_if c k) (number_if b n)) (not_less k n e))
by_place n k b false e le = ap (λ c. number_if c k) (one_more k n le) ∙ sym (ap (λ c. option_or (number_if c k) (number_if b n)) (same_or_less k n le e))

position_push : {X : Type 0} (p : X → Bool) (xs : List X) (x : X) → position p (xs ++ x ∷ []) ≡ option_or (position p xs) (cond (p x) (Some (length xs)) None)
position_push {X} p xs x =
    let long : length (xs ++ x ∷ []) ≡ length xs + 1 = length-append xs (x ∷ []) in
    let k = cond (position_or_len p xs == length xs) (length xs + cond (p x) 0 1) (position_or_len p xs) in
    ap (λ n. number_if (nat_lt n (length (xs ++ x ∷ []))) n) (position_or_len_push p xs x)
    ∙ ap (λ n. number_if (nat_lt k n) k) long
    ∙ by_place (length xs) (position_or_len p xs) (p x) (position_or_len p xs == length xs) refl (prefix_len-le-length _ xs)

-- what is under a name, of a table with one more
behind : (o : Option (List ℕ × ℕ)) (name : List ℕ) (n : ℕ) (b : Bool) → option_map (λ (e : List ℕ × ℕ). e.1) (option_or o (cond b (Some (name, n)) None)) ≡ option_or (option_map (λ (e : List ℕ × ℕ). e.1) o) (cond b (Some n) None)
behind None name n true = refl
behind None name n false = refl
behind (Some e) name n b = refl

or_none : {A : Type 0} (o : Option A) → o ≡ option_or o None
or_none None = refl
or_none (Some x) = refl

some_or : {A : Type 0} (o p : Option A) → is_some o ≡ true → o ≡ option_or o p
some_or None p h = cc
some_or (Some x) p h = refl

module _ (q : List ℕ) (t : Numbers) (name : List ℕ) (n : ℕ) where
  by_name : (b : Bool) → bytes_eq name q ≡ b → is_some (entry name t) ≡ true → entry q t ≡ option_or (entry q t) (cond b (Some n) None)
  by_name true same h = some_or (entry q t) (Some n) (subst (λ x. is_some (entry x t) ≡ true) ((bytes_eq-Decides name q).0 same) h)
  by_name false same h = or_none (entry q t)

  by_there : (b : Bool) → is_some (entry name t) ≡ b → entry q (cond b t (t ++ (name, n) ∷ [])) ≡ option_or (entry q t) (cond (bytes_eq name q) (Some n) None)
  by_there true h = by_name (bytes_eq name q) refl h
  by_there false h =
      ap (option_map (λ (e : List ℕ × ℕ). e.1)) (find-append (λ (e : List ℕ × ℕ). bytes_eq e.0 q) t ((name, n) ∷ []))
      ∙ behind (find (λ (e : List ℕ × ℕ). bytes_eq e.0 q) t) name n (bytes_eq name q)

pub pushed : (names : List (List ℕ)) (t : Numbers) (name : List ℕ) → ArePlaces names t → ArePlaces (names ++ name ∷ []) (with_first t name (length names))
pushed names t name h q =
    by_there q t name (length names) (is_some (entry name t)) refl
    ∙ ap (λ o. option_or o (cond (bytes_eq name q) (Some (length names)) None)) (h q)
    ∙ sym (position_push (λ other. bytes_eq other q) names name)
