-- What the loop over a literal's digits keeps.
use Rattle.std.proofs.Common.{◌≡◌, ℕ, ◌+◌, ◌-◌, ◌<◌, ◌≤◌, List, [], ◌∷◌, ◌++◌, length, length-drop, Some, take, drop, get_or, ◌∙◌, refl, ap, add-one, min, arith}
use Rattle.std.specs.Prelude.{map, reverse}
use Rattle.std.proofs.Math.ListN.{length-take}
use Rattle.std.proofs.Math.Seq.{take-suc}
use Rattle.std.proofs.lemmas.List.{map-append, reverse-append, get_or-take}
use Rattle.std.proofs.lemmas.Bool.{lt-ltb, le-leb}
use Rattle.std.proofs.lemmas.Grind.{get_or_after_one}
use Rattle.model_lexer.specs.Meanings.{logic_digit, logic_digits, logic_within}

-- one more digit to the right is one more at place 0
pub digits_more : (xs : List ℕ) (j : ℕ) → j < length xs → logic_digits (take (j + 1) xs) ≡ logic_digit (get_or xs j 0) ∷ logic_digits (take j xs)
digits_more xs j h =
    let front : take (j + 1) xs ≡ take j xs ++ (get_or xs j 0 ∷ []) = rw add-one (take-suc xs j 0 h) in
    ap logic_digits front
    ∙ ap reverse (map-append logic_digit (take j xs) (get_or xs j 0 ∷ []))
    ∙ reverse-append (map logic_digit (take j xs)) (logic_digit (get_or xs j 0) ∷ [])

pub digits_within : (xs : List ℕ) → 1 ≤ length xs → length xs ≤ 64 → logic_within xs ≡ Some (logic_digits xs)
digits_within xs some few = rw (lt-ltb 0 (length xs) some, le-leb (length xs) 64 few) refl

-- what is behind the first byte
abbrev pub behind : List ℕ → List ℕ
behind xs = take (length xs - 1) (drop 1 xs)

pub behind_within : (xs : List ℕ) (i : ℕ) → i < length (behind xs) → i + 1 < length xs
behind_within xs i h =
    let size : length (behind xs) ≡ min (length xs - 1) (length (drop 1 xs)) = length-take (length xs - 1) (drop 1 xs) in
    omega arith

pub behind_all : (xs : List ℕ) (i : ℕ) → 1 ≤ length xs → length (behind xs) ≤ i → i ≤ length (behind xs) → i + 1 ≡ length xs
behind_all xs i some h k =
    let size : length (behind xs) ≡ min (length xs - 1) (length (drop 1 xs)) = length-take (length xs - 1) (drop 1 xs) in
    let rest : length (drop 1 xs) ≡ length xs - 1 = length-drop 1 xs in
    omega arith

pub behind_at : (xs : List ℕ) (i : ℕ) → i < length (behind xs) → get_or (behind xs) i 0 ≡ get_or xs (i + 1) 0
behind_at xs i h =
    let inside : i + 1 < length xs = behind_within xs i h in
    let before : i < length xs - 1 = omega arith in
    get_or-take (length xs - 1) (drop 1 xs) i 0 before ∙ get_or_after_one xs i 0 ∙ ap (λ (k : ℕ). get_or xs k 0) (omega arith)
