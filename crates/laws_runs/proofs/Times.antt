-- How often a number stands in a list.
use Rattle.std.proofs.Common.{◌≡◌, ◌≢◌, ◌+◌, ◌==◌, ◌<◌, ◌≤◌, ℕ, Bool, true, false, cond, not, ◌||◌, List, [], ◌∷◌, ◌++◌, drop, refl, sym, ap, ◌∙◌, arith, eq-eqb, ne_eqb, eqb-true, true≢false}
use Rattle.std.proofs.lemmas.List.Sums.{sum_by-cons, sum_by-append}
use Rattle.sim_model.specs.Clean.{times}
use Rattle.sim_model.specs.Waits.{holds, without, joined}

pub times-cons : (p x : ℕ) (xs : List ℕ) → times p (x ∷ xs) ≡ cond (x == p) 1 0 + times p xs
times-cons p x xs = sum_by-cons (λ q. cond (q == p) 1 0) x xs

pub times-append : (p : ℕ) (xs ys : List ℕ) → times p (xs ++ ys) ≡ times p xs + times p ys
times-append p xs ys = sum_by-append (λ q. cond (q == p) 1 0) xs ys

pub times-here : (p : ℕ) (xs : List ℕ) → times p (p ∷ xs) ≡ 1 + times p xs
times-here p xs = times-cons p p xs ∙ ap (λ b. cond b 1 0 + times p xs) (eq-eqb p p refl)

pub times-other : (p x : ℕ) (xs : List ℕ) → x ≢ p → times p (x ∷ xs) ≡ times p xs
times-other p x xs apart = times-cons p x xs ∙ ap (λ b. cond b 1 0 + times p xs) (ne_eqb x p apart) ∙ omega arith

-- one more at the end
pub times-last_here : (p : ℕ) (xs : List ℕ) → times p (xs ++ p ∷ []) ≡ times p xs + 1
times-last_here p xs = let a = times-append p xs (p ∷ []) in let b = times-here p [] in omega (arith, a, b)

pub times-last_other : (p q : ℕ) (xs : List ℕ) → q ≢ p → times q (xs ++ p ∷ []) ≡ times q xs
times-last_other p q xs apart = let a = times-append q xs (p ∷ []) in let b = times-other q p [] (λ same. apart (sym same)) in omega (arith, a, b)

-- a number that a filter takes away
cut_here : (b : Bool) (p x : ℕ) (r : List ℕ) → (x == p) ≡ b → times p r ≡ 0 → times p (cond (not b) (x ∷ r) r) ≡ 0
cut_here true p x r e none = none
cut_here false p x r e none = times-cons p x r ∙ ap (λ b. cond b 1 0 + times p r) e ∙ ap (λ n. 0 + n) none ∙ omega arith

pub times-cut_here : (p : ℕ) (xs : List ℕ) → times p (without xs p) ≡ 0
times-cut_here p [] = refl
times-cut_here p (x ∷ xs) = cut_here (x == p) p x _ refl (times-cut_here p xs)

cut_other : (b : Bool) (p q x : ℕ) (r xs : List ℕ) → (x == p) ≡ b → q ≢ p → times q r ≡ times q xs → times q (cond (not b) (x ∷ r) r) ≡ times q (x ∷ xs)
cut_other true p q x r xs e apart same = same ∙ sym (times-other q x xs (λ is. apart (sym is ∙ eqb-true x p e)))
cut_other false p q x r xs e apart same = times-cons q x r ∙ ap (λ n. cond (x == q) 1 0 + n) same ∙ sym (times-cons q x xs)

pub times-cut_other : (p q : ℕ) (xs : List ℕ) → q ≢ p → times q (without xs p) ≡ times q xs
times-cut_other p q [] apart = refl
times-cut_other p q (x ∷ xs) apart = cut_other (x == p) p q x _ xs refl apart (times-cut_other p q xs apart)

-- what a list holds stands there, and what it does not hold stands nowhere
holds_times : (b : Bool) (p x : ℕ) (xs : List ℕ) → (x == p) ≡ b → (holds xs p ≡ true → 0 < times p xs) → (b || holds xs p) ≡ true → 0 < times p (x ∷ xs)
holds_times true p x xs e later h = let t = times-cons p x xs ∙ ap (λ b. cond b 1 0 + times p xs) e in omega (arith, t)
holds_times false p x xs e later h = let t = times-cons p x xs ∙ ap (λ b. cond b 1 0 + times p xs) e in let l = later h in omega (arith, t, l)

pub times-holds : (p : ℕ) (xs : List ℕ) → holds xs p ≡ true → 0 < times p xs
times-holds p [] h = absurd (true≢false (sym h))
times-holds p (x ∷ xs) h = holds_times (x == p) p x xs refl (times-holds p xs) h

lacks_times : (b : Bool) (p x : ℕ) (xs : List ℕ) → (x == p) ≡ b → (holds xs p ≡ false → times p xs ≡ 0) → (b || holds xs p) ≡ false → times p (x ∷ xs) ≡ 0
lacks_times true p x xs e later h = absurd (true≢false h)
lacks_times false p x xs e later h = times-cons p x xs ∙ ap (λ b. cond b 1 0 + times p xs) e ∙ (let l = later h in omega (arith, l))

pub times-lacks : (p : ℕ) (xs : List ℕ) → holds xs p ≡ false → times p xs ≡ 0
times-lacks p [] h = refl
times-lacks p (x ∷ xs) h = lacks_times (x == p) p x xs refl (times-lacks p xs) h

-- a list that is joined
joined_here : (b : Bool) (p : ℕ) (xs : List ℕ) → holds xs p ≡ b → times p xs ≤ 1 → times p (cond b xs (xs ++ p ∷ [])) ≤ 1
joined_here true p xs e few = few
joined_here false p xs e few = let a = times-last_here p xs in let b = times-lacks p xs e in omega (arith, a, b)

pub times-joined_here : (p : ℕ) (xs : List ℕ) → times p xs ≤ 1 → times p (joined xs p) ≤ 1
times-joined_here p xs few = joined_here (holds xs p) p xs refl few

joined_other : (b : Bool) (p q : ℕ) (xs : List ℕ) → q ≢ p → times q (cond b xs (xs ++ p ∷ [])) ≡ times q xs
joined_other true p q xs apart = refl
joined_other false p q xs apart = times-last_other p q xs apart

pub times-joined_other : (p q : ℕ) (xs : List ℕ) → q ≢ p → times q (joined xs p) ≡ times q xs
times-joined_other p q xs apart = joined_other (holds xs p) p q xs apart

-- a list without its first one
drop_less : (b : Bool) (q x : ℕ) (xs : List ℕ) → (x == q) ≡ b → times q xs ≤ times q (x ∷ xs)
drop_less b q x xs e = let t = times-cons q x xs in omega (arith, t)

pub times-drop : (q : ℕ) (xs : List ℕ) → times q (drop 1 xs) ≤ times q xs
times-drop q [] = omega arith
times-drop q (x ∷ xs) = drop_less (x == q) q x xs refl
