-- Lists of the grammar: what a parser of many gives, and each turn of a loop that reads them.
use Rattle.std.proofs.Common.{◌≡◌, ℕ, zero, suc, ◌+◌, ◌-◌, ◌<◌, ◌≤◌, Bool, true, false, List, [], ◌∷◌, ◌++◌, length, Option, Some, None, sym, ◌∙◌, refl, ap, subst, ⊎_elim, append_assoc, arith}
use Rattle.std.proofs.lemmas.Bool.{cases_Bool}
use Rattle.std.proofs.lemmas.List.{append-nil}
use Rattle.model_lexer.specs.Tokens.{Tokens}
use Rattle.model_lexer.specs.Rules.{Rule, Each}
use Rattle.parse_expressions.specs.Parse.{Parser, pure, repeat, one_more, many}
use Rattle.parse_expressions.proofs.Parsers.{and_then_ok, repeat_stops, repeat_goes, turn_stops, turn_goes, turn_fails, turns_end}

-- what holds of each
abbrev pub Every : {A : Type 0} → (A → Type 0) → List A → Type 0
Every G [] = Unit {0}
Every G (x ∷ xs) = G x × Every G xs

-- one more was read, or none

one_more_ok : {A : Type 0} (item : Parser A) (found ys : List A) (ts rest : Tokens) → one_more item found ts ≡ Some (ys, rest) → (x : A) × (item ts ≡ Some (x, rest)) × (ys ≡ found ++ x ∷ [])
one_more_ok item found ys ts rest h =
    let (x, mid, one, more) = and_then_ok (item ts) (λ x. pure (found ++ x ∷ [])) (ys, rest) h in
    let e : ◌≡◌ {A = List _ × Tokens} (found ++ x ∷ [], mid) (ys, rest) = cc more in
    subst (λ (z : List _ × Tokens). (x : _) × (item ts ≡ Some (x, z.1)) × (z.0 ≡ found ++ x ∷ [])) e (x, one, refl)

one_more_reads : {A : Type 0} (item : Parser A) (found : List A) (x : A) (ts rest : Tokens) → item ts ≡ Some (x, rest) → one_more item found ts ≡ Some (found ++ x ∷ [], rest)
one_more_reads item found x ts rest h = rw h refl

one_more_fails : {A : Type 0} (item : Parser A) (found : List A) (ts : Tokens) → item ts ≡ None → one_more item found ts ≡ None
one_more_fails item found ts h = rw h refl

-- a turn of a loop that has so many turns
module _ {A : Type 0} (stops : Tokens → Bool) (item : Parser A) (turns turn : ℕ) (found : List A) (ts : Tokens) (all : Option (List A × Tokens)) (invariant : repeat stops (one_more item) (turns - turn) found ts ≡ all) where
  pub many_stops : turn < turns → stops ts ≡ true → all ≡ Some (found, ts)
  many_stops h e = turn_stops stops (one_more item) turns turn found ts all invariant h e

  pub many_goes : (x : A) (rest : Tokens) → turn < turns → stops ts ≡ false → item ts ≡ Some (x, rest) → repeat stops (one_more item) (turns - (turn + 1)) (found ++ x ∷ []) rest ≡ all
  many_goes x rest h e f = turn_goes stops (one_more item) turns turn found ts all invariant (found ++ x ∷ []) rest h e (one_more_reads item found x ts rest f)

  pub many_fails : turn < turns → stops ts ≡ false → item ts ≡ None → all ≡ None
  many_fails h e f = turn_fails stops (one_more item) turns turn found ts all invariant h e (one_more_fails item found ts f)

  pub many_ends : turns ≤ turn → all ≡ None
  many_ends h = turns_end stops (one_more item) turns turn found ts all invariant h

module _ {A : Type 0} (stops : Tokens → Bool) (item : Parser A) (R : A → Rule) (G : A → Type 0) where
  -- what is read behind those that were found
  abbrev pub More : List A → List A → Rule
  More found ys ts rest = (xs : List A) × (ys ≡ found ++ xs) × Each R xs ts rest × Every G xs × (stops rest ≡ true)

  module _ (sound : (ts rest : Tokens) (x : A) → item ts ≡ Some (x, rest) → R x ts rest × G x) where
    repeat_more : (n : ℕ) (found ys : List A) (ts rest : Tokens) → repeat stops (one_more item) n found ts ≡ Some (ys, rest) → More found ys ts rest
    unfolding repeat
    repeat_more zero found ys ts rest h = cc
    repeat_more (suc n) found ys ts rest h =
        ⊎_elim
        (λ (e : stops ts ≡ true).
        let p : ◌≡◌ {A = List A × Tokens} (found, ts) (ys, rest) = cc (rw e at h) in
        subst (λ (z : List A × Tokens). More found z.0 ts z.1) p ([], sym (append-nil found), refl, tt, e))
        (λ (e : stops ts ≡ false).
        let (zs, mid, one, more) = and_then_ok (one_more item found ts) (repeat stops (one_more item) n) (ys, rest) (rw e at h) in
        let (x, is, same) = one_more_ok item found zs ts mid one in
        let (first, good) = sound ts mid x is in
        let (xs, whole, each, every, stop) = repeat_more n zs ys mid rest more in
        (x ∷ xs, whole ∙ (ap (λ z. z ++ xs) same ∙ append_assoc found (x ∷ []) xs), (mid, first, each), (good, every), stop))
        (cases_Bool (stops ts))

    pub many_ok : (found ys : List A) (ts rest : Tokens) → many stops item found ts ≡ Some (ys, rest) → More found ys ts rest
    many_ok found ys ts rest h = repeat_more (length ts + 1) found ys ts rest h

  -- an item is read where what comes behind it may follow it
  module _ (Follow : Tokens → Type 0) (reads : (x : A) (ts rest : Tokens) → R x ts rest → G x → Follow rest → item ts ≡ Some (x, rest)) (begins : (x : A) (ts rest : Tokens) → R x ts rest → (stops ts ≡ false) × Follow ts) (shorter : (x : A) (ts rest : Tokens) → R x ts rest → length rest < length ts) where
    next_follows : (xs : List A) (ts rest : Tokens) → Each R xs ts rest → Follow rest → Follow ts
    next_follows [] ts rest h f = subst Follow (sym h) f
    next_follows (x ∷ xs) ts rest (mid, one, more) f = (begins x ts mid one).1

    repeat_reads : (n : ℕ) (xs found : List A) (ts rest : Tokens) → length ts < n → Each R xs ts rest → Every G xs → stops rest ≡ true → Follow rest → repeat stops (one_more item) n found ts ≡ Some (found ++ xs, rest)
    repeat_reads zero xs found ts rest few h g e f = absurd (omega arith)
    repeat_reads (suc n) [] found ts rest few h g e f =
        rw append-nil (subst (λ z. repeat stops (one_more item) (suc n) found z ≡ Some (found, rest)) (sym h) (repeat_stops stops (one_more item) (suc n) found rest (omega arith) e))
    repeat_reads (suc n) (x ∷ xs) found ts rest few (mid, one, more) (g, gs) e f =
        let less : length mid < length ts = shorter x ts mid one in
        let read = reads x ts mid one g (next_follows xs mid rest more f) in
        repeat_goes stops (one_more item) n found (found ++ x ∷ []) ts mid (begins x ts mid one).0 (one_more_reads item found x ts mid read)
        ∙ (repeat_reads n xs (found ++ x ∷ []) mid rest (omega arith) more gs e f ∙ ap (λ z. Some (z, rest)) (append_assoc found (x ∷ []) xs))

    pub many_reads : (xs found : List A) (ts rest : Tokens) → Each R xs ts rest → Every G xs → stops rest ≡ true → Follow rest → many stops item found ts ≡ Some (found ++ xs, rest)
    many_reads xs found ts rest h g e f = repeat_reads (length ts + 1) xs found ts rest (omega arith) h g e f
