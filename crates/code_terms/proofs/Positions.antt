-- The place of a name in a list with one name more.
use Rattle.std.proofs.Common.{subst, ◌≡◌, ℕ, suc, ◌+◌, Bool, true, false, cond, List, [], ◌∷◌, ◌++◌, map, length, Option, Some, None, refl, sym, ap, ◌∙◌, arith}
use Rattle.std.specs.Prelude.{bytes_eq, find, position, is_some, option_map, nat_lt}
use Rattle.std.specs.Option.{option_or}
use Rattle.std.specs.List.{position_or_len}
use Rattle.std.proofs.lemmas.Bool.Decides.{nat_tests}
use Rattle.std.proofs.lemmas.Slice.Eq.{bytes_eq-Decides}
use Rattle.code_rules.specs.ModelRules.Members.{entry}
use Rattle.check_expressions.specs.CheckNames.Tables.{Numbers, with_first}
use Rattle.code_terms.specs.Names.{place_of, ArePlaced}

within_more : (n : ℕ) → nat_lt 0 (suc n) ≡ true
within_more n = grind (arith, nat_tests)

more_within : (m n : ℕ) → nat_lt (1 + m) (suc n) ≡ nat_lt m n
more_within m n = grind (arith, nat_tests)

some_if : (b : Bool) (n : ℕ) → cond b (Some (1 + n)) None ≡ option_map (λ (m : ℕ). 1 + m) (cond b (Some n) None)
some_if true n = refl
some_if false n = refl

pub at_first : {X : Type 0} → (p : X → Bool) (x : X) (xs : List X) (b : Bool) → p x ≡ b → position p (x ∷ xs) ≡ cond b (Some 0) (option_map (λ (n : ℕ). 1 + n) (position p xs))
at_first p x xs true h = rw h (ap (λ b. cond b (Some 0) None) (within_more (length xs)))
at_first p x xs false h =
    rw h (ap (λ b. cond b (Some (1 + position_or_len p xs)) None) (more_within (position_or_len p xs) (length xs)) ∙ some_if (nat_lt (position_or_len p xs) (length xs)) (position_or_len p xs))

module _ {X : Type 0} (p : X → Bool) where
  here_or : (b : Bool) → cond {A = Option ℕ} b (Some 0) None ≡ option_or None (cond {A = Option ℕ} b (Some 0) None)
  here_or true = refl
  here_or false = refl

  later : (o : Option ℕ) (b : Bool) (n : ℕ) → option_map (λ (m : ℕ). 1 + m) (option_or o (cond b (Some n) None)) ≡ option_or (option_map (λ (m : ℕ). 1 + m) o) (cond b (Some (suc n)) None)
  later (Some m) b n = refl
  later None true n = ap (λ m. Some m) (omega arith)
  later None false n = refl

  behind_first : (c : Bool) (o : Option ℕ) (b : Bool) (n : ℕ)
      → cond {A = Option ℕ} c (Some 0) (option_map (λ (m : ℕ). 1 + m) (option_or o (cond b (Some n) None))) ≡ option_or (cond {A = Option ℕ} c (Some 0) (option_map (λ (m : ℕ). 1 + m) o)) (cond b (Some (suc n)) None)
  behind_first true o b n = refl
  behind_first false o b n = later o b n

  pub position_push : (xs : List X) (x : X) → position p (xs ++ x ∷ []) ≡ option_or (position p xs) (cond (p x) (Some (length xs)) None)
  position_push [] x = at_first p x [] (p x) refl ∙ here_or (p x)
  position_push (y ∷ xs) x =
      at_first p y (xs ++ x ∷ []) (p y) refl
      ∙ ap (λ o. cond {A = Option ℕ} (p y) (Some 0) (option_map (λ (m : ℕ). 1 + m) o)) (position_push xs x)
      ∙ behind_first (p y) (position p xs) (p x) (length xs)
      ∙ ap (λ o. option_or o (cond (p x) (Some (suc (length xs))) None)) (sym (at_first p y xs (p y) refl))

-- the entry under a name, of a table with one name more

or_none : {A : Type 0} (o : Option A) → o ≡ option_or o None
or_none None = refl
or_none (Some x) = refl

entry_append : (q : List ℕ) (t : Numbers) (name : List ℕ) (n : ℕ) → entry q (t ++ (name, n) ∷ []) ≡ option_or (entry q t) (cond (bytes_eq name q) (Some n) None)
entry_append q [] name n = by (bytes_eq name q)
  where
    by : (b : Bool) → option_map (λ (e : List ℕ × ℕ). e.1) (cond b (Some (name, n)) None) ≡ cond b (Some n) None
    by true = refl
    by false = refl
entry_append q (e ∷ t) name n = by (bytes_eq e.0 q) (entry_append q t name n)
  where
    by : (b : Bool) → entry q (t ++ (name, n) ∷ []) ≡ option_or (entry q t) (cond (bytes_eq name q) (Some n) None)
        → option_map (λ (e : List ℕ × ℕ). e.1) (cond b (Some e) (find (λ (e : List ℕ × ℕ). bytes_eq e.0 q) (t ++ (name, n) ∷ [])))
        ≡ option_or (option_map (λ (e : List ℕ × ℕ). e.1) (cond b (Some e) (find (λ (e : List ℕ × ℕ). bytes_eq e.0 q) t))) (cond (bytes_eq name q) (Some n) None)
    by true h = refl
    by false h = h

some_or : {A : Type 0} (o p : Option A) → is_some o ≡ true → o ≡ option_or o p
some_or None p h = cc
some_or (Some x) p h = refl

module _ (q : List ℕ) (t : Numbers) (name : List ℕ) (n : ℕ) where
  by_name : (b : Bool) → bytes_eq name q ≡ b → is_some (entry name t) ≡ true → entry q t ≡ option_or (entry q t) (cond b (Some n) None)
  by_name true same h = some_or (entry q t) (Some n) (subst (λ x. is_some (entry x t) ≡ true) ((bytes_eq-Decides name q).0 same) h)
  by_name false same h = or_none (entry q t)

  by_there : (b : Bool) → is_some (entry name t) ≡ b → entry q (cond b t (t ++ (name, n) ∷ [])) ≡ option_or (entry q t) (cond (bytes_eq name q) (Some n) None)
  by_there true h = by_name (bytes_eq name q) refl h
  by_there false h = entry_append q t name n

  entry_first : entry q (with_first t name n) ≡ option_or (entry q t) (cond (bytes_eq name q) (Some n) None)
  entry_first = by_there (is_some (entry name t)) refl

-- a name more in both
pub placed_push : (names : List (List ℕ)) (t : Numbers) (name : List ℕ) (n : ℕ) → n ≡ length names → ArePlaced names t → ArePlaced (names ++ name ∷ []) (with_first t name n)
placed_push names t name n at h q =
    entry_first q t name n
    ∙ ap (λ o. option_or o (cond (bytes_eq name q) (Some n) None)) (h q)
    ∙ ap (λ m. option_or (place_of names q) (cond (bytes_eq name q) (Some m) None)) at
    ∙ sym (position_push (λ x. bytes_eq x q) names name)

pub length_seen : {X Y : Type 0} (f : X → Y) (xs : List X) → length (map f xs) ≡ length xs
length_seen f [] = refl
length_seen f (x ∷ xs) = ap (λ n. suc n) (length_seen f xs)
