-- The exceptions of a model have numbers.
use Rattle.std.proofs.Common.{◌≡◌, ℕ, Bool, true, false, cond, not, ◌||◌, List, [], ◌∷◌, Option, Some, refl, sym, ◌∙◌, ap, subst, true≢false}
use Rattle.std.specs.Prelude.{is_some, find, filter, bytes_eq}
use Rattle.std.specs.List.{list_any}
use Rattle.std.proofs.lemmas.Slice.Eq.{bytes_eq-Decides}
use Rattle.code_rules.specs.Deeds.{Home}
use Rattle.code_rules.specs.Bodies.{once}
use Rattle.laws_code.specs.HasCode.{AreNumbered}
use Rattle.laws_code.proofs.Named.{is_placed}

abbrev Names : Type 0
Names = List (List ℕ)

abbrev named : List ℕ → Names → Option (List ℕ)
named n names = find (λ x. bytes_eq x n) names

-- what is kept is found still
kept_at : (b q : Bool) (x : List ℕ) (o rest : Option (List ℕ)) → (b ≡ true → q ≡ true) → is_some (cond b (Some x) o) ≡ true → (is_some o ≡ true → is_some rest ≡ true)
    → (xs : Names) (n : List ℕ) → bytes_eq x n ≡ b → named n xs ≡ rest → is_some (named n (cond q (x ∷ xs) xs)) ≡ true
kept_at true true x o rest f h r xs n e k = ap (λ b. is_some (cond b (Some x) (named n xs))) e
kept_at true false x o rest f h r xs n e k = absurd (true≢false (sym (f refl)))
kept_at false true x o rest f h r xs n e k = ap (λ b. is_some (cond b (Some x) (named n xs))) e ∙ ap is_some k ∙ r h
kept_at false false x o rest f h r xs n e k = ap is_some k ∙ r h

kept : (q : List ℕ → Bool) (n : List ℕ) (xs : Names) → ((x : List ℕ) → bytes_eq x n ≡ true → q x ≡ true) → is_some (named n xs) ≡ true → is_some (named n (filter q xs)) ≡ true
kept q n [] f h = h
kept q n (x ∷ xs) f h = kept_at (bytes_eq x n) (q x) x (named n xs) (named n (filter q xs)) (f x) h (kept q n xs f) (filter q xs) n refl refl

-- two names that differ
apart : (y n x : List ℕ) → bytes_eq y n ≡ false → bytes_eq x n ≡ true → not (bytes_eq x y) ≡ true
apart y n x h k = by (bytes_eq x y) refl
  where
    by : (b : Bool) → bytes_eq x y ≡ b → not b ≡ true
    by false e = refl
    by true e =
        let same : x ≡ n = (bytes_eq-Decides x n).0 k in
        let other : x ≡ y = (bytes_eq-Decides x y).0 e in
        absurd (true≢false (sym ((bytes_eq-Decides y n).1 (sym other ∙ same)) ∙ h))

once_at : (b : Bool) (y n : List ℕ) (ys : Names) → bytes_eq y n ≡ b → (list_any (λ x. bytes_eq x n) ys ≡ true → is_some (named n (once ys)) ≡ true) → (b || list_any (λ x. bytes_eq x n) ys) ≡ true
    → is_some (cond b (Some y) (named n (filter (λ other. not (bytes_eq other y)) (once ys)))) ≡ true
once_at true y n ys e rest h = refl
once_at false y n ys e rest h = kept (λ other. not (bytes_eq other y)) n (once ys) (λ x k. apart y n x e k) (rest h)

in_once : (n : List ℕ) (xs : Names) → list_any (λ x. bytes_eq x n) xs ≡ true → is_some (named n (once xs)) ≡ true
in_once n [] h = absurd (true≢false (sym h))
in_once n (y ∷ ys) h = once_at (bytes_eq y n) y n ys refl (in_once n ys) h

or_later : (a b : Bool) → b ≡ true → (a || b) ≡ true
or_later true b h = refl
or_later false b h = h

at_head : (b : Bool) (rest : Bool) → b ≡ true → (b || rest) ≡ true
at_head true rest h = refl
at_head false rest h = absurd (true≢false (sym h))

numbered_in : (h : Home) (xs ys : Names) → h.exceptions ≡ once xs → ((n : List ℕ) → list_any (λ x. bytes_eq x n) ys ≡ true → list_any (λ x. bytes_eq x n) xs ≡ true) → AreNumbered h ys
numbered_in h xs [] e f = tt
numbered_in h xs (y ∷ ys) e f =
    let there = in_once y xs (f y (at_head (bytes_eq y y) (list_any (λ x. bytes_eq x y) ys) ((bytes_eq-Decides y y).1 refl))) in (
      is_placed (λ x. bytes_eq x y) h.exceptions (subst (λ names. is_some (named y names) ≡ true) (sym e) there),
      numbered_in h xs ys e (λ n k. f n (or_later (bytes_eq y n) (list_any (λ x. bytes_eq x n) ys) k)),
    )

pub all_numbered : (first : ℕ) (xs : Names) → AreNumbered (record { first_body = first; exceptions = once xs }) xs
all_numbered first xs = numbered_in (record { first_body = first; exceptions = once xs }) xs xs refl (λ n k. k)
