-- The functions that are reached are the least closed set.
use Rattle.std.proofs.lemmas.Bool.Decides.{nat_tests}
use Rattle.std.proofs.Common.{◌≡◌, ℕ, Bool, true, false, cond, ◌||◌, ◌&&◌, ◌++◌, ◌+◌, ◌≤◌, List, [], ◌∷◌, refl, sym, subst, true≢false, arith}
use Rattle.std.specs.Prelude.{map, filter, length, bytes_eq, nat_le}
use Rattle.std.specs.List.{list_any, AllByRecursion}
use Rattle.std.proofs.lemmas.Slice.Eq.{bytes_eq-Decides}
use Rattle.model_rules.specs.Reach.{Body, Names, is_among, names_where, is_next, spread, rounds, closure}
use Rattle.model_rules.specs.Closed.{IsWithin, IsClosed, IsLeast}

-- lists

all_map : {X : Type 0} (P Q : X → Type 0) → ((x : X) → P x → Q x) → (xs : List X) → AllByRecursion P xs → AllByRecursion Q xs
all_map P Q f [] h = tt
all_map P Q f (x ∷ xs) h = (f x h.0, all_map P Q f xs h.1)

all_of : {X : Type 0} (P : X → Type 0) → ((x : X) → P x) → (xs : List X) → AllByRecursion P xs
all_of P f [] = tt
all_of P f (x ∷ xs) = (f x, all_of P f xs)

all_two : {X : Type 0} (P Q R : X → Type 0) → ((x : X) → P x → Q x → R x) → (xs : List X) → AllByRecursion P xs → AllByRecursion Q xs → AllByRecursion R xs
all_two P Q R f [] h k = tt
all_two P Q R f (x ∷ xs) h k = (f x h.0 k.0, all_two P Q R f xs h.1 k.1)

or_cases : {R : Type 0} (a b : Bool) → (a ≡ true → R) → (b ≡ true → R) → (a || b) ≡ true → R
or_cases true b f g h = f refl
or_cases false b f g h = g h

or_left : (a b : Bool) → a ≡ true → (a || b) ≡ true
or_left true b h = refl
or_left false b h = cc

or_right : (a b : Bool) → b ≡ true → (a || b) ≡ true
or_right true b h = refl
or_right false b h = h

and_both : {R : Type 0} (a b : Bool) → (a ≡ true → b ≡ true → R) → (a && b) ≡ true → R
and_both true b f h = f refl h
and_both false b f h = f h cc

and_first : (a b c : Bool) → (a ≡ true → b ≡ true) → (a && c) ≡ true → (b && c) ≡ true
and_first true b c f h = rw (f refl) h
and_first false b c f h = cc

-- what an element that passes the test gives
any_gives : {X : Type 0} {R : Type 0} (test : X → Bool) (xs : List X) → AllByRecursion (λ x. test x ≡ true → R) xs → list_any test xs ≡ true → R
any_gives test [] f h = absurd (true≢false (sym h))
any_gives test (x ∷ xs) f h = or_cases (test x) (list_any test xs) f.0 (any_gives test xs f.1) h

any_more : {X : Type 0} (p q : X → Bool) (xs : List X) → AllByRecursion (λ x. p x ≡ true → q x ≡ true) xs → list_any p xs ≡ true → list_any q xs ≡ true
any_more p q [] f h = h
any_more p q (x ∷ xs) f h =
    or_cases (p x) (list_any p xs) (λ e. or_left (q x) (list_any q xs) (f.0 e)) (λ e. or_right (q x) (list_any q xs) (any_more p q xs f.1 e)) h

-- how many elements fail a test
abbrev lacking : {X : Type 0} → (X → Bool) → List X → ℕ
lacking test [] = 0
lacking test (x ∷ xs) = cond (test x) 0 1 + lacking test xs

one_less : (a b : Bool) → (a ≡ true → b ≡ true) → cond b 0 1 ≤ cond a 0 1
one_less true true f = omega arith
one_less true false f = absurd (true≢false (sym (f refl)))
one_less false true f = omega arith
one_less false false f = omega arith

lacking_less : {X : Type 0} (p q : X → Bool) (xs : List X) → AllByRecursion (λ x. p x ≡ true → q x ≡ true) xs → lacking q xs ≤ lacking p xs
lacking_less p q [] f = omega arith
lacking_less p q (x ∷ xs) f = let a = one_less (p x) (q x) f.0 in let b = lacking_less p q xs f.1 in omega (arith, a, b)

back : (a b : Bool) → (a ≡ true → b ≡ true) → cond a 0 1 ≤ cond b 0 1 → b ≡ true → a ≡ true
back true b f h e = refl
back false true f h e = absurd (omega (arith, h))
back false false f h e = e

lacking_back : {X : Type 0} (p q : X → Bool) (xs : List X) → AllByRecursion (λ x. p x ≡ true → q x ≡ true) xs → lacking p xs ≤ lacking q xs
    → AllByRecursion (λ x. q x ≡ true → p x ≡ true) xs
lacking_back p q [] f h = tt
lacking_back p q (x ∷ xs) f h =
    let a = one_less (p x) (q x) f.0 in
    let b = lacking_less p q xs f.1 in
    (back (p x) (q x) f.0 (omega (arith, a, b, h)), lacking_back p q xs f.1 (omega (arith, a, b, h)))

none_lacks : (b : Bool) → cond b 0 1 ≤ 0 → b ≡ true
none_lacks true h = refl
none_lacks false h = absurd (omega (arith, h))

lacking_none : {X : Type 0} (p : X → Bool) (xs : List X) → lacking p xs ≤ 0 → AllByRecursion (λ x. p x ≡ true) xs
lacking_none p [] h = tt
lacking_none p (x ∷ xs) h = (none_lacks (p x) (omega (arith, h)), lacking_none p xs (omega (arith, h)))

at_most_one : (b : Bool) → cond b 0 1 ≤ 1
at_most_one true = omega arith
at_most_one false = omega arith

lacking_length : {X : Type 0} (p : X → Bool) (xs : List X) → lacking p xs ≤ length xs
lacking_length p [] = omega arith
lacking_length p (x ∷ xs) = let a = at_most_one (p x) in let b = lacking_length p xs in omega (arith, a, b)

-- names of those that pass a test

among_more : (t : Bool) (b : Body) (names : Names) (n : List ℕ) → is_among names n ≡ true → is_among (cond t (b.name ∷ names) names) n ≡ true
among_more true b names n h = or_right (bytes_eq b.name n) (is_among names n) h
among_more false b names n h = h

same_name : (n : List ℕ) → bytes_eq n n ≡ true
same_name n = (bytes_eq-Decides n n).1 refl

module _ (test : Body → Bool) where
  named_first : (t : Bool) (b : Body) (bs : List Body) → t ≡ true → is_among (map (λ (x : Body). x.name) (cond t (b ∷ bs) bs)) b.name ≡ true
  named_first true b bs h = or_left (bytes_eq b.name b.name) (is_among (map (λ (x : Body). x.name) bs) b.name) (same_name b.name)
  named_first false b bs h = cc

  named_more : (t : Bool) (b : Body) (bs : List Body) (n : List ℕ) → is_among (map (λ (x : Body). x.name) bs) n ≡ true
      → is_among (map (λ (x : Body). x.name) (cond t (b ∷ bs) bs)) n ≡ true
  named_more true b bs n h = or_right (bytes_eq b.name n) (is_among (map (λ (x : Body). x.name) bs) n) h
  named_more false b bs n h = h

  pub named : (bs : List Body) → AllByRecursion (λ (b : Body). test b ≡ true → is_among (names_where test bs) b.name ≡ true) bs
  named [] = tt
  named (b ∷ bs) = (
    named_first (test b) b (filter test bs),
    all_map (λ (x : Body). test x ≡ true → is_among (names_where test bs) x.name ≡ true) (λ (x : Body). test x ≡ true → is_among (names_where test (b ∷ bs)) x.name ≡ true)
        (λ x f e. named_more (test b) b (filter test bs) x.name (f e)) bs (named bs),
  )

  found_in : (t : Bool) (b : Body) (names : Names) (n : List ℕ) (rest : Bool) → (is_among names n ≡ true → rest ≡ true)
      → is_among (map (λ (x : Body). x.name) (cond t (b ∷ []) []) ++ names) n ≡ true → ((t && bytes_eq b.name n) || rest) ≡ true
  found_in true b names n rest f h = or_cases (bytes_eq b.name n) (is_among names n) (λ e. or_left (bytes_eq b.name n) rest e) (λ e. or_right (bytes_eq b.name n) rest (f e)) h
  found_in false b names n rest f h = f h

  split : (t : Bool) (b : Body) (bs : List Body) → map (λ (x : Body). x.name) (cond t (b ∷ bs) bs) ≡ map (λ (x : Body). x.name) (cond t (b ∷ []) []) ++ map (λ (x : Body). x.name) bs
  split true b bs = refl
  split false b bs = refl

  pub found : (bs : List Body) (n : List ℕ) → is_among (names_where test bs) n ≡ true → list_any (λ (x : Body). test x && bytes_eq x.name n) bs ≡ true
  found [] n h = h
  found (b ∷ bs) n h =
      found_in (test b) b (names_where test bs) n (list_any (λ (x : Body). test x && bytes_eq x.name n) bs) (found bs n)
      (subst (λ names. is_among names n ≡ true) (split (test b) b (filter test bs)) h)

-- a function of the same name as one of the set is in it
moved : (set : Names) (a n : List ℕ) → bytes_eq a n ≡ true → is_among set a ≡ true → is_among set n ≡ true
moved set a n e h = subst (λ x. is_among set x ≡ true) ((bytes_eq-Decides a n).0 e) h

module _ (leads : Body → Body → Bool) (fs : List Body) where
  abbrev grown : Names → Body → Bool
  grown set b = is_among set b.name || is_next leads fs set b

  -- a function of the first set is one of the second; one to which the set leads is one of it; one that a step has is added
  abbrev Also : Names → Names → Body → Type 0
  Also set other b = is_among set b.name ≡ true → is_among other b.name ≡ true

  abbrev Next : Names → Body → Type 0
  Next set b = is_next leads fs set b ≡ true → is_among set b.name ≡ true

  abbrev Added : Names → Body → Type 0
  Added set b = grown set b ≡ true → is_among (spread leads fs set) b.name ≡ true

  adds : (set : Names) → AllByRecursion (Added set) fs
  adds set = named (grown set) fs

  keeps : (set : Names) → IsWithin fs set (spread leads fs set)
  keeps set = all_map (Added set) (Also set (spread leads fs set)) (λ b f e. f (or_left (is_among set b.name) (is_next leads fs set b) e)) fs (adds set)

  -- where one set leads, a greater one leads
  leads_more : (set other : Names) (b : Body) → IsWithin fs set other → is_next leads fs set b ≡ true → is_next leads fs other b ≡ true
  leads_more set other b within next =
      any_more (λ (x : Body). is_among set x.name && leads x b) (λ (x : Body). is_among other x.name && leads x b) fs
      (all_map (Also set other) (λ (x : Body). (is_among set x.name && leads x b) ≡ true → (is_among other x.name && leads x b) ≡ true)
      (λ x v. and_first (is_among set x.name) (is_among other x.name) (leads x b) v) fs within) next

  -- a step stays within a closed set that has the functions
  stays_at : (set other : Names) → IsWithin fs set other → IsClosed leads fs other → (n : List ℕ) → is_among (spread leads fs set) n ≡ true → is_among other n ≡ true
  stays_at set other within closed n h =
      any_gives (λ (b : Body). grown set b && bytes_eq b.name n) fs
      (all_two (Also set other) (Next other) (λ (b : Body). (grown set b && bytes_eq b.name n) ≡ true → is_among other n ≡ true)
      (λ b w c e. and_both (grown set b) (bytes_eq b.name n) (λ g same. moved other b.name n same
      (or_cases (is_among set b.name) (is_next leads fs set b) w (λ next. c (leads_more set other b within next)) g)) e)
      fs within closed)
      (found (grown set) fs n h)

  stays : (set other : Names) → IsWithin fs set other → IsClosed leads fs other → IsWithin fs (spread leads fs set) other
  stays set other within closed = all_of (Also (spread leads fs set) other) (λ b. stays_at set other within closed b.name) fs

  same : (set : Names) → IsWithin fs set set
  same set = all_of (Also set set) (λ b h. h) fs

  -- a step leaves a closed set closed
  closed_step : (set : Names) → IsClosed leads fs set → IsClosed leads fs (spread leads fs set)
  closed_step set closed =
      all_two (Next set) (Also set (spread leads fs set)) (Next (spread leads fs set))
      (λ b c k next. k (c (leads_more (spread leads fs set) set b (stays set set (same set) closed) next))) fs closed (keeps set)

  closed_rounds : (gs : List Body) (set : Names) → IsClosed leads fs set → IsClosed leads fs (rounds gs (spread leads fs) set)
  closed_rounds [] set h = h
  closed_rounds (g ∷ gs) set h = closed_rounds gs (spread leads fs set) (closed_step set h)

  abbrev out : Names → ℕ
  out set = lacking (λ (b : Body). is_among set b.name) fs

  -- a step that adds nothing starts from a closed set
  settled : (set : Names) → out set ≤ out (spread leads fs set) → IsClosed leads fs set
  settled set h =
      all_two (Added set) (Also (spread leads fs set) set) (Next set)
      (λ b a k next. k (a (or_right (is_among set b.name) (is_next leads fs set b) next)))
      fs (adds set) (lacking_back (λ (b : Body). is_among set b.name) (λ (b : Body). is_among (spread leads fs set) b.name) fs (keeps set) h)

  -- with as many rounds as functions are left out, the set is closed
  closes_by : (gs : List Body) (set : Names) (g : Body) (b : Bool) → nat_le (out set) (out (spread leads fs set)) ≡ b → out set ≤ length (g ∷ gs)
      → (out (spread leads fs set) ≤ length gs → IsClosed leads fs (rounds gs (spread leads fs) (spread leads fs set)))
      → IsClosed leads fs (rounds gs (spread leads fs) (spread leads fs set))
  closes_by gs set g true e few rest = closed_rounds gs (spread leads fs set) (closed_step set (settled set (grind (arith, nat_tests, e))))
  closes_by gs set g false e few rest = rest (grind (arith, nat_tests, e, few))

  closes : (gs : List Body) (set : Names) → out set ≤ length gs → IsClosed leads fs (rounds gs (spread leads fs) set)
  closes [] set few =
      all_map (λ (b : Body). is_among set b.name ≡ true) (Next set) (λ b h next. h) fs (lacking_none (λ (b : Body). is_among set b.name) fs few)
  closes (g ∷ gs) set few = closes_by gs set g (nat_le (out set) (out (spread leads fs set))) refl few (closes gs (spread leads fs set))

  keeps_all : (gs : List Body) (set : Names) → IsWithin fs set (rounds gs (spread leads fs) set)
  keeps_all [] set = same set
  keeps_all (g ∷ gs) set =
      all_two (Also set (spread leads fs set)) (Also (spread leads fs set) (rounds gs (spread leads fs) (spread leads fs set))) (Also set (rounds gs (spread leads fs) (spread leads fs set)))
      (λ b f k h. k (f h)) fs (keeps set) (keeps_all gs (spread leads fs set))

  stays_all : (gs : List Body) (set other : Names) → IsWithin fs set other → IsClosed leads fs other → IsWithin fs (rounds gs (spread leads fs) set) other
  stays_all [] set other within closed = within
  stays_all (g ∷ gs) set other within closed = stays_all gs (spread leads fs set) other (stays set other within closed) closed

  pub is_least : (roots : Names) → IsLeast leads fs roots (closure leads fs roots)
  is_least roots = record {
    has_roots = keeps_all fs roots;
    closed = closes fs roots (lacking_length (λ (b : Body). is_among roots b.name) fs);
    least = λ other within closed. stays_all fs roots other within closed;
  }
