use Rattle.std.proofs.Common.{◌≡◌, ◌≤◌, ℕ, zero, suc, List, [], ◌∷◌, length, drop, eqb, false, refl, ◌∙◌, arith}
use Rattle.std.proofs.lemmas.Bool.Decides.{nat_tests}
use Rattle.session.specs.Course.{is_empty}
use Rattle.session.proofs.ends.has_none_left.Goals as goal

-- one element more in front of both sides
same_test : (n m : ℕ) → eqb (suc n) (suc m) ≡ eqb n m
same_test n m = grind (arith, nat_tests)

zero_test : (m : ℕ) → eqb 0 (suc m) ≡ false
zero_test m = grind (arith, nat_tests)

empty_at : {A : Type 0} (n : ℕ) (xs : List A) → n ≤ length xs → eqb n (length xs) ≡ is_empty (drop n xs)
empty_at zero [] h = refl
empty_at zero (x ∷ xs) h = zero_test (length xs)
empty_at (suc n) [] h = absurd (omega arith)
empty_at (suc n) (x ∷ xs) h = same_test n (length xs) ∙ empty_at n xs (omega arith)

pub returns : goal.returns
returns c = empty_at c.args.place c.args.script.now c.requires
