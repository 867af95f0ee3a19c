-- What parsers that are put together give, and each turn of a loop.
use Rattle.std.proofs.Common.{◌≡◌, ℕ, zero, suc, ◌+◌, ◌-◌, ◌<◌, ◌≤◌, Bool, true, false, Option, Some, None, sym, ◌∙◌, refl, subst, ⊎_elim, arith}
use Rattle.std.proofs.lemmas.Bool.{cases_Bool}
use Rattle.model_lexer.specs.Tokens.{Tokens}
use Rattle.parse_expressions.specs.Parse.{Parser, and_then, choose, where_some, repeat}

-- what one of two parsers gave
pub choose_cases : {A : Type 0} {P : Type 0} (test : Tokens → Bool) (p q : Parser A) (ts : Tokens) (r : A × Tokens) → choose test p q ts ≡ Some r → (test ts ≡ true → p ts ≡ Some r → P) → (test ts ≡ false → q ts ≡ Some r → P) → P
choose_cases test p q ts r h f g =
    ⊎_elim
    (λ (e : test ts ≡ true). f e (rw e at h))
    (λ (e : test ts ≡ false). g e (rw e at h))
    (cases_Bool (test ts))

pub choose_first : {A : Type 0} (test : Tokens → Bool) (p q : Parser A) (ts : Tokens) (r : A × Tokens) → test ts ≡ true → p ts ≡ Some r → choose test p q ts ≡ Some r
choose_first test p q ts r e h = rw e h

pub choose_other : {A : Type 0} (test : Tokens → Bool) (p q : Parser A) (ts : Tokens) (r : A × Tokens) → test ts ≡ false → q ts ≡ Some r → choose test p q ts ≡ Some r
choose_other test p q ts r e h = rw e h

-- what a parser that goes by something gave
pub where_cases : {A B : Type 0} {P : Type 0} (o : Option A) (p : Parser B) (f : A → Parser B) (ts : Tokens) (r : B × Tokens) → where_some o p f ts ≡ Some r → (o ≡ None → p ts ≡ Some r → P) → ((x : A) → o ≡ Some x → f x ts ≡ Some r → P) → P
where_cases None p f ts r h k g = k refl h
where_cases (Some x) p f ts r h k g = g x refl h

-- what both parsers of a pair gave
pub and_then_ok : {A B : Type 0} (o : Option (A × Tokens)) (f : A → Parser B) (r : B × Tokens) → and_then o f ≡ Some r → (x : A) × (mid : Tokens) × (o ≡ Some (x, mid)) × (f x mid ≡ Some r)
and_then_ok None f r h = cc
and_then_ok (Some q) f r h = (q.0, q.1, refl, h)

-- what holds of what was made holds of what was given
pub made : {A : Type 0} (P : A → Tokens → Type 0) {x y : A} {a b : Tokens} → ◌≡◌ {A = Option (A × Tokens)} (Some (x, a)) (Some (y, b)) → P x a → P y b
made {A} P {x} {y} {a} {b} h p =
    let e : ◌≡◌ {A = A × Tokens} (x, a) (y, b) = cc h in
    subst (λ (z : A × Tokens). P z.0 z.1) e p

module _ {A : Type 0} (stops : Tokens → Bool) (step : A → Parser A) where
  pub repeat_stops : (n : ℕ) (x : A) (ts : Tokens) → 0 < n → stops ts ≡ true → repeat stops step n x ts ≡ Some (x, ts)
  unfolding repeat
  repeat_stops zero x ts some e = absurd (omega arith)
  repeat_stops (suc n) x ts some e = rw e refl

  pub repeat_goes : (n : ℕ) (x y : A) (ts rest : Tokens) → stops ts ≡ false → step x ts ≡ Some (y, rest) → repeat stops step (suc n) x ts ≡ repeat stops step n y rest
  unfolding repeat
  repeat_goes n x y ts rest e f = rw (e, f) refl

  repeat_fails : (n : ℕ) (x : A) (ts : Tokens) → stops ts ≡ false → step x ts ≡ None → repeat stops step (suc n) x ts ≡ None
  unfolding repeat
  repeat_fails n x ts e f = rw (e, f) refl

  repeat_ends : (x : A) (ts : Tokens) → repeat stops step 0 x ts ≡ None
  unfolding repeat
  repeat_ends x ts = refl

  -- what holds of each step holds of all of them
  module _ (Holds : A → Tokens → Type 0) (preserved : (x y : A) (ts rest : Tokens) → Holds x ts → stops ts ≡ false → step x ts ≡ Some (y, rest) → Holds y rest) where
    pub repeat_ok : (n : ℕ) (x y : A) (ts rest : Tokens) → Holds x ts → repeat stops step n x ts ≡ Some (y, rest) → Holds y rest × (stops rest ≡ true)
    unfolding repeat
    repeat_ok zero x y ts rest k h = cc
    repeat_ok (suc n) x y ts rest k h =
        ⊎_elim
        (λ (e : stops ts ≡ true).
        let p : ◌≡◌ {A = A × Tokens} (x, ts) (y, rest) = cc (rw e at h) in
        subst (λ (z : A × Tokens). Holds z.0 z.1 × (stops z.1 ≡ true)) p (k, e))
        (λ (e : stops ts ≡ false).
        let (z, mid, one, more) = and_then_ok (step x ts) (repeat stops step n) (y, rest) (rw e at h) in
        repeat_ok n z y mid rest (preserved x z ts mid k e one) more)
        (cases_Bool (stops ts))

-- a turn of a loop that has so many turns
module _ {A : Type 0} (stops : Tokens → Bool) (step : A → Parser A) (turns turn : ℕ) (x : A) (ts : Tokens) (all : Option (A × Tokens)) (invariant : repeat stops step (turns - turn) x ts ≡ all) where
  pub turn_stops : turn < turns → stops ts ≡ true → all ≡ Some (x, ts)
  turn_stops h e = sym invariant ∙ repeat_stops stops step (turns - turn) x ts (omega arith) e

  pub turn_goes : (y : A) (rest : Tokens) → turn < turns → stops ts ≡ false → step x ts ≡ Some (y, rest) → repeat stops step (turns - (turn + 1)) y rest ≡ all
  turn_goes y rest h e f =
      let left : turns - turn ≡ suc (turns - (turn + 1)) = omega arith in
      let unrolled : repeat stops step (suc (turns - (turn + 1))) x ts ≡ all = rw left at invariant in
      sym (repeat_goes stops step (turns - (turn + 1)) x y ts rest e f) ∙ unrolled

  pub turn_fails : turn < turns → stops ts ≡ false → step x ts ≡ None → all ≡ None
  turn_fails h e f =
      let left : turns - turn ≡ suc (turns - (turn + 1)) = omega arith in
      sym invariant ∙ rw left (repeat_fails stops step (turns - (turn + 1)) x ts e f)

  pub turns_end : turns ≤ turn → all ≡ None
  turns_end h =
      let left : turns - turn ≡ 0 = omega arith in
      sym invariant ∙ rw left (repeat_ends stops step x ts)
