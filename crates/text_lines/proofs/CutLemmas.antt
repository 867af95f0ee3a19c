-- Bytes, cut at the first that is a given one.
use Rattle.std.proofs.Common.{◌≡◌, ℕ, ◌+◌, ◌<◌, true, false, ◌==◌, List, ◌∷◌, ◌++◌, length, get_or, sym, ap, ◌∙◌, arith, take, drop}
use Rattle.std.proofs.lemmas.List.{take-append-drop}
use Rattle.std.proofs.lemmas.List.Splits.{slice_split_at}
use Rattle.std.proofs.lemmas.Grind.{common_steps}
use Rattle.std.proofs.lemmas.Bool.Decides.{nat_tests}
use Rattle.std.specs.List.{slice_split, All}

drop_there : (xs : List ℕ) (i : ℕ) → i < length xs → drop i xs ≡ get_or xs i 0 ∷ drop (i + 1) xs
drop_there xs i h = grind (arith, common_steps)

pub parts : (xs : List ℕ) (i : ℕ) → i < length xs → xs ≡ take i xs ++ get_or xs i 0 ∷ drop (i + 1) xs
parts xs i h = sym (take-append-drop i xs) ∙ ap (λ t. take i xs ++ t) (drop_there xs i h)

is_at : (x c : ℕ) → x ≡ c → (x == c) ≡ true
is_at x c e = grind (arith, nat_tests)

-- the first part ends at the first place that has the byte
pub slice_split_there : (c : ℕ) (xs : List ℕ) (i : ℕ) → i < length xs → get_or xs i 0 ≡ c → All (λ x. (x == c) ≡ false) (take i xs) → slice_split (λ x. x == c) xs ≡ take i xs ∷ slice_split (λ x. x == c) (drop (i + 1) xs)
slice_split_there c xs i h e before =
    ap (slice_split (λ x. x == c)) (parts xs i h)
    ∙ slice_split_at (λ x. x == c) (take i xs) (get_or xs i 0) (drop (i + 1) xs) before (is_at (get_or xs i 0) c e)
