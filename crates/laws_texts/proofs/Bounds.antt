-- How long a printed text is, against the text that it was read of.
use Rattle.std.proofs.Common.{◌≡◌, ℕ, suc, ◌+◌, ◌*◌, ◌≤◌, ◌<◌, ◌^◌, Bool, true, false, List, [], ◌∷◌, length, ◌∙◌, refl, ap, lit<, arith}
use Rattle.std.specs.Prelude.{if◌then◌else◌}
use Rattle.std.proofs.Math.Nat.{mul-le-mul_left, mul-le-mul_right}
use Rattle.std.proofs.lemmas.List.{length-map}
use Rattle.model_print.specs.ModelTree.Tree as tree
use Rattle.model_lexer.specs.Tokens.{Tokens}
use Rattle.model_lexer.specs.Languages.{Front, behind, behind_other, in_second, says_second, in_language}
use Rattle.model_lexer.specs.Brackets.{brackets}
use Rattle.model_lexer.specs.Cut.{Lexeme}
use Rattle.model_lexer.specs.Laws.{with_lines, AreInOrder}
use Rattle.model_lexer.specs.Reads.{Reads}
use Rattle.model_lexer.proofs.CutLaws.{language_cut, cut_ordered}
use Rattle.model_print.specs.Layout.{blank}
use Rattle.model_print.specs.Printed.{printed, printed_text}
use Rattle.laws_texts.specs.Bounds.{model_limit, bytes_for_each}
use Rattle.laws_texts.proofs.Weighed.{size, cost, cost_is, layout_size}
use Rattle.laws_texts.proofs.Lengths.{whole}

-- a text has a byte for each token at least
some_bytes : (from up : ℕ) (ts : List Lexeme) → AreInOrder from up ts → from + length ts ≤ up
some_bytes from up [] h = let all : from ≤ up = h in omega (arith, all)
some_bytes from up (t ∷ ts) (a, b, more) = let size : length (t ∷ ts) ≡ suc (length ts) = refl in omega (arith, size, a, b, some_bytes t.end up ts more)

-- and its language has as many tokens as it is cut into
second_length : (f : Front) (ts : Tokens) → length (in_second f ts) ≡ length ts
second_length f [] = refl
second_length f (t ∷ ts) = ap suc (second_length (behind f t.0) ts)

length_by : (b : Bool) (ts : Tokens) → length (if b then in_second behind_other ts else ts) ≡ length ts
length_by true ts = second_length behind_other ts
length_by false ts = refl

language_length : (ts : Tokens) → length (in_language ts) ≡ length ts
language_length ts = length_by (says_second ts) ts

chain : (a b c x y : ℕ) → a ≡ b → b + 0 ≤ c → c ≡ x → x ≤ y → a ≤ y
chain a b c x y e f g h = omega (arith, e, f, g, h)

pub bounded : (text : List ℕ) (x : tree.Source) → Reads text x → length (printed_text x) ≤ bytes_for_each x.model * length text
bounded text x (ls, cut, derives, few) =
    let m = x.model in
    let us = in_language (with_lines ls) in
    let (none, f) = (whole x).weighs us [] derives (language_cut text ls cut) in
    let room : 0 + (brackets m + brackets m) + 124 ≤ 2 * brackets m + 124 = omega arith in
    let (one, same) = f (bytes_for_each m) blank room in
    let tokens : length us ≡ length ls = language_length (with_lines ls) ∙ length-map ls (λ t. (t.token, t.line)) in
    let fewer : length us ≤ length text = omega (arith, tokens, some_bytes 0 (length text) ls (cut_ordered text 0 ls cut)) in
    chain (length (printed_text x)) (size blank (printed x)) (cost (bytes_for_each m) us) (bytes_for_each m * length us) (bytes_for_each m * length text)
    (layout_size (printed x)) one (cost_is (bytes_for_each m) us) (mul-le-mul_left (bytes_for_each m) fewer)

below : (a x y z top : ℕ) → a ≤ x → x ≤ y → y ≤ z → z < top → a < top
below a x y z top e f g h = omega (arith, e, f, g, h)

pub small : (text : List ℕ) (x : tree.Source) → Reads text x → length text ≤ model_limit → length (printed_text x) < 2 ^ 32
small text x (ls, cut, derives, few) h =
    let m = x.model in
    let low : brackets m ≤ 64 = few in
    let each : 2 * brackets m + 124 ≤ 252 = omega (arith, low) in
    below (length (printed_text x)) (bytes_for_each m * length text) (252 * length text) (252 * 1048576) (2 ^ 32)
    (bounded text x (ls, cut, derives, few)) (mul-le-mul_right (length text) each) (mul-le-mul_left 252 h) (lit< tt)
