-- The printed tokens of an expression are those of the same expression, but for line numbers.
use Rattle.std.proofs.Common.{◌≡◌, ℕ, suc, ◌+◌, ◌≤◌, Bool, true, false, ◌&&◌, List, [], ◌∷◌, ◌++◌, length, append_assoc, refl, sym, arith}
use Rattle.std.specs.Prelude.{nat_le, nat_lt}
use Rattle.std.proofs.lemmas.Bool.{and_parts, leb-true}
use Rattle.std.proofs.lemmas.List.{length-append}
use Rattle.model_print.specs.SimTime.declared.moments.Unit.{Unit as TimeUnit}
use Rattle.model_print.specs.ModelTree.declared.vocabulary.Word.TheVariants as w
use Rattle.model_print.specs.ModelTree.declared.vocabulary.Symbol.TheVariants as s
use Rattle.model_print.specs.ModelTree.Leaves.{is_name}
use Rattle.model_print.specs.ModelTree.Limits.{level, operand_level, primary_level, chain_level, is_number, is_formed, token_count, token_limit, depth, fits}
use Rattle.model_print.specs.ModelTree.Tree as tree
use Rattle.model_lexer.specs.Tokens.{name, number, logic, word, symbol, unit_token}
use Rattle.model_lexer.specs.Rules.{Rule, Takes}
use Rattle.model_lexer.specs.Expressions.{Parenthesized, DerivesAt, DerivesExpression}
use Rattle.model_print.specs.ModelTree.Spelling.{unit_name, unary_symbol, binary_symbol, truth_word, conversion_word, constant_word}
use Rattle.model_print.specs.Layout.{Piece}
use Rattle.model_print.specs.Pieces as piece
use Rattle.model_print.specs.Printed as printed
use Rattle.laws_texts.specs.Unlined as unlined
use Rattle.laws_texts.proofs.Pieces.{word_piece, type_word_piece, name_piece, unit_piece, number_piece, logic_piece, operator_piece, prefix_piece, dot_piece, at_piece, left_paren_piece, left_bracket_piece, right_paren_piece, right_bracket_piece, comma_piece}
use Rattle.laws_texts.proofs.Spelled.{Spelled, both, as_one, moved, short, loose, led, led_at, one, one_at, ended_by, never, led_wide}

-- an expression that is this one but for line numbers
abbrev pub Alike : tree.Expression → tree.Expression → Type 0
Alike e y = unlined.expression y ≡ unlined.expression e

-- an expression where a level is wanted, with the number of its tokens
abbrev pub SpelledAt : ℕ → tree.Expression → Type 0
SpelledAt n e = (a : Spelled true (DerivesAt n) (Alike e) (printed.expression e)) × (length a.tokens ≡ token_count e)

level_of : (n m : ℕ) → nat_le n m ≡ true → n ≤ m
level_of n m h = leb-true n m h

-- a unit
abbrev pub unit_spelled : (u : TimeUnit) → Spelled false (λ (y : Unit {0}). Takes (unit_token u)) (λ (y : Unit {0}). Unit {0}) (piece.name (unit_name u) ∷ [])
unit_spelled u = one false (piece.name (unit_name u)) (unit_token u) (unit_piece u) refl refl

-- what stands in round brackets
abbrev pub in_brackets : {A : Type 0} {R : A → Rule} {S : A → Type 0} {xs : List Piece} → (firm : Bool) → (a : Spelled true R S xs) → length a.tokens ≤ token_limit → Spelled firm (λ y. Parenthesized (R y)) S (piece.bracketed xs)
in_brackets firm a few = led firm (piece.opening s.LeftParen) (symbol s.LeftParen) left_paren_piece (never firm) (ended_by (piece.closing s.RightParen) (symbol s.RightParen) right_paren_piece refl (short a few))

pub expression_spelled : (e : tree.Expression) (n : ℕ) → is_formed e n ≡ true → token_count e ≤ token_limit → SpelledAt n e
expression_spelled (tree.number line v) n h few =
    let both = and_parts (nat_le n primary_level) (is_number v) h in
    (as_one (λ l. tree.number l v) (λ y s. refl) (λ y ts rest d. (level_of n primary_level both.0, d)) (one_at true (piece.number v) (number v) (number_piece v both.1) refl refl), refl)
expression_spelled (tree.time line v u) n h few =
    let both = and_parts (nat_le n primary_level) (is_number v) h in (
      as_one (λ y. tree.time y.0 v u) (λ y s. refl) (λ y ts rest d. (level_of n primary_level both.0, d))
          (led_at true (piece.number v) (number v) (number_piece v both.1) refl (unit_spelled u)),
      refl,
    )
expression_spelled (tree.logic line ds) n h few =
    let both = and_parts (nat_le n primary_level) (nat_lt 0 (length ds) && nat_le (length ds) 64) h in
    (as_one (λ l. tree.logic l ds) (λ y s. refl) (λ y ts rest d. (level_of n primary_level both.0, d)) (one_at true (piece.logic ds) (logic ds) (logic_piece ds both.1) refl refl), refl)
expression_spelled (tree.truth line b) n h few =
    (as_one (λ l. tree.truth l b) (λ y s. refl) (λ y ts rest d. (level_of n primary_level h, d)) (one_at true (piece.word (truth_word b)) (word (truth_word b)) (word_piece (truth_word b)) refl refl), refl)
expression_spelled (tree.now line) n h few =
    (as_one (λ l. tree.now l) (λ y s. refl) (λ y ts rest d. (level_of n primary_level h, d)) (one_at true (piece.word w.Now) (word w.Now) (word_piece w.Now) refl refl), refl)
expression_spelled (tree.myself line) n h few =
    (as_one (λ l. tree.myself l) (λ y s. refl) (λ y ts rest d. (level_of n primary_level h, d)) (one_at true (piece.word w.SelfProcess) (word w.SelfProcess) (word_piece w.SelfProcess) refl refl), refl)
expression_spelled (tree.constant line c) n h few =
    (as_one (λ l. tree.constant l c) (λ y s. refl) (λ y ts rest d. (level_of n primary_level h, d)) (one_at true (piece.word (constant_word c)) (word (constant_word c)) (word_piece (constant_word c)) refl refl), refl)
expression_spelled (tree.paren line e) n h few =
    let both = and_parts (nat_le n primary_level) (is_formed e 0) h in
    let sum : token_count e + 2 ≤ token_limit = few in
    let a = expression_spelled e 0 both.1 (omega arith) in (
      as_one (λ y. tree.paren y.0 y.1) (λ y s. rw s refl) (λ y ts rest d. (level_of n primary_level both.0, d))
          (led_at true (piece.opening s.LeftParen) (symbol s.LeftParen) left_paren_piece refl (ended_by (piece.closing s.RightParen) (symbol s.RightParen) right_paren_piece refl (short a.0 (omega (arith, a.1))))),
      omega (arith, length-append a.0.tokens (symbol s.RightParen ∷ []), a.1),
    )
expression_spelled (tree.convert line c e) n h few =
    let both = and_parts (nat_le n primary_level) (is_formed e 0) h in
    let sum : token_count e + 3 ≤ token_limit = few in
    let a = expression_spelled e 0 both.1 (omega arith) in (
      as_one (λ y. tree.convert y.0 c y.1) (λ y s. rw s refl) (λ y ts rest d. (level_of n primary_level both.0, d))
          (led_at true (piece.type_word (conversion_word c)) (word (conversion_word c)) (type_word_piece (conversion_word c)) refl (in_brackets false a.0 (omega (arith, a.1)))),
      omega (arith, length-append a.0.tokens (symbol s.RightParen ∷ []), a.1),
    )
expression_spelled (tree.to_vector line width e) n h few =
    let both = and_parts (nat_le n primary_level) (is_number width && is_formed e 0) h in
    let more = and_parts (is_number width) (is_formed e 0) both.1 in
    let sum : token_count e + 6 ≤ token_limit = few in
    let a = expression_spelled e 0 more.1 (omega arith) in (
      as_one (λ y. tree.to_vector y.0 width y.1) (λ y s. rw s refl) (λ y ts rest d. (level_of n primary_level both.0, d))
          (led_wide true w.Lv width more.0 (in_brackets false a.0 (omega (arith, a.1)))),
      omega (arith, length-append a.0.tokens (symbol s.RightParen ∷ []), a.1),
    )
expression_spelled (tree.concat line upper lower) n h few =
    let both_parts = and_parts (nat_le n primary_level) (is_formed upper 0 && is_formed lower 0) h in
    let more = and_parts (is_formed upper 0) (is_formed lower 0) both_parts.1 in
    let sum : token_count upper + token_count lower + 4 ≤ token_limit = few in
    let a = expression_spelled upper 0 more.0 (omega arith) in
    let b = expression_spelled lower 0 more.1 (omega arith) in (
      as_one (λ y. tree.concat y.0 y.1.0 y.1.1) (λ y s. rw (s.0, s.1) refl) (λ y ts rest d. (level_of n primary_level both_parts.0, d))
          (led_at true (piece.type_word w.Concat) (word w.Concat) (type_word_piece w.Concat) refl
          (led false (piece.opening s.LeftParen) (symbol s.LeftParen) left_paren_piece refl
          (moved (sym (append_assoc (printed.expression upper) (piece.comma ∷ printed.expression lower) (piece.closing s.RightParen ∷ [])))
          (both (short a.0 (omega (arith, a.1)))
          (led false piece.comma (symbol s.Comma) comma_piece refl
          (ended_by (piece.closing s.RightParen) (symbol s.RightParen) right_paren_piece refl (short (loose b.0) (omega (arith, b.1))))))))),
      omega (arith, length-append a.0.tokens (symbol s.Comma ∷ b.0.tokens ++ symbol s.RightParen ∷ []), length-append b.0.tokens (symbol s.RightParen ∷ []), a.1, b.1),
    )
expression_spelled (tree.named line x) n h few =
    (as_one (λ l. tree.named l x) (λ y s. refl) (λ y ts rest d. d) (one_at true (piece.name x) (name x) (name_piece x h) refl refl), refl)
expression_spelled (tree.placed line x at) n h few =
    let both = and_parts (is_name x) (is_number at) h in (
      as_one (λ y. tree.placed y.0 x at) (λ y s. refl) (λ y ts rest d. d)
          (led_at true (piece.name x) (name x) (name_piece x both.0) refl (led false (piece.joint s.At) (symbol s.At) at_piece refl (one true (piece.number at) (number at) (number_piece at both.1) refl refl))),
      refl,
    )
expression_spelled (tree.placed_by line x e) n h few =
    let both = and_parts (is_name x) (is_formed e 0) h in
    let sum : token_count e + 4 ≤ token_limit = few in
    let a = expression_spelled e 0 both.1 (omega arith) in (
      as_one (λ y. tree.placed_by y.0 x y.1) (λ y s. rw s refl) (λ y ts rest d. d)
          (led_at true (piece.name x) (name x) (name_piece x both.0) refl (led false (piece.joint s.At) (symbol s.At) at_piece refl (in_brackets true a.0 (omega (arith, a.1))))),
      omega (arith, length-append a.0.tokens (symbol s.RightParen ∷ []), a.1),
    )
expression_spelled (tree.member e x) n h few =
    let parts = and_parts (is_formed e chain_level) (is_name x) h in
    let sum : token_count e + 2 ≤ token_limit = few in
    let a = expression_spelled e chain_level parts.0 (omega arith) in (
      as_one (λ y. tree.member y.0 x) (λ y s. rw s.0 refl) (λ y ts rest d. d)
          (both a.0 (led false (piece.joint s.Dot) (symbol s.Dot) dot_piece refl (one true (piece.name x) (name x) (name_piece x parts.1) refl refl))),
      omega (arith, length-append a.0.tokens (symbol s.Dot ∷ name x ∷ []), a.1),
    )
expression_spelled (tree.element e index) n h few =
    let parts = and_parts (is_formed e chain_level) (is_formed index 0) h in
    let sum : token_count e + token_count index + 2 ≤ token_limit = few in
    let a = expression_spelled e chain_level parts.0 (omega arith) in
    let b = expression_spelled index 0 parts.1 (omega arith) in (
      as_one (λ y. tree.element y.0 y.1) (λ y s. rw (s.0, s.1) refl) (λ y ts rest d. d)
          (moved (sym (append_assoc (printed.expression e) (piece.opening s.LeftBracket ∷ printed.expression index) (piece.closing s.RightBracket ∷ [])))
          (both a.0
          (led false (piece.opening s.LeftBracket) (symbol s.LeftBracket) left_bracket_piece refl
          (ended_by (piece.closing s.RightBracket) (symbol s.RightBracket) right_bracket_piece refl (short b.0 (omega (arith, b.1))))))),
      omega (arith, length-append a.0.tokens (symbol s.LeftBracket ∷ b.0.tokens ++ symbol s.RightBracket ∷ []), length-append b.0.tokens (symbol s.RightBracket ∷ []), a.1, b.1),
    )
expression_spelled (tree.slice e high low) n h few =
    let parts = and_parts (is_formed e chain_level) (is_number high && is_number low) h in
    let more = and_parts (is_number high) (is_number low) parts.1 in
    let sum : token_count e + 5 ≤ token_limit = few in
    let a = expression_spelled e chain_level parts.0 (omega arith) in (
      as_one (λ y. tree.slice y.0 high low) (λ y s. rw s.0 refl) (λ y ts rest d. d)
          (both a.0
          (led false (piece.opening s.LeftBracket) (symbol s.LeftBracket) left_bracket_piece refl
          (led true (piece.number high) (number high) (number_piece high more.0) refl
          (led false (piece.operator s.Colon) (symbol s.Colon) (operator_piece s.Colon) refl
          (led false (piece.number low) (number low) (number_piece low more.1) refl
          (one false (piece.closing s.RightBracket) (symbol s.RightBracket) right_bracket_piece refl refl)))))),
      omega (arith, length-append a.0.tokens (symbol s.LeftBracket ∷ number high ∷ symbol s.Colon ∷ number low ∷ symbol s.RightBracket ∷ []), a.1),
    )
expression_spelled (tree.unary line o e) n h few =
    let both = and_parts (nat_le n operand_level) (is_formed e primary_level) h in
    let sum : token_count e + 1 ≤ token_limit = few in
    let a = expression_spelled e primary_level both.1 (omega arith) in (
      as_one (λ y. tree.unary y.0 o y.1) (λ y s. rw s refl) (λ y ts rest d. (level_of n operand_level both.0, d))
          (led_at true (piece.prefix (unary_symbol o)) (symbol (unary_symbol o)) (prefix_piece o) refl a.0),
      omega (arith, a.1),
    )
expression_spelled (tree.binary o left right) n h few =
    let both_parts = and_parts (nat_le n (level o)) (is_formed left (level o) && is_formed right (suc (level o))) h in
    let more = and_parts (is_formed left (level o)) (is_formed right (suc (level o))) both_parts.1 in
    let sum : token_count left + token_count right + 1 ≤ token_limit = few in
    let a = expression_spelled left (level o) more.0 (omega arith) in
    let b = expression_spelled right (suc (level o)) more.1 (omega arith) in (
      as_one (λ y. tree.binary o y.0 y.1) (λ y s. rw (s.0, s.1) refl) (λ y ts rest d. (level_of n (level o) both_parts.0, d))
          (both a.0 (led false (piece.operator (binary_symbol o)) (symbol (binary_symbol o)) (operator_piece (binary_symbol o)) refl (loose b.0))),
      omega (arith, length-append a.0.tokens (symbol (binary_symbol o) ∷ b.0.tokens), a.1, b.1),
    )

-- an expression of a statement
pub whole_spelled : (n : ℕ) (e : tree.Expression) → fits n e ≡ true → Spelled true DerivesExpression (Alike e) (printed.expression e)
whole_spelled n e h =
    let one = and_parts (is_formed e 0 && nat_le (token_count e) token_limit) (nat_le (depth e) n) h in
    let two = and_parts (is_formed e 0) (nat_le (token_count e) token_limit) one.0 in
    let few : token_count e ≤ token_limit = leb-true (token_count e) token_limit two.1 in
    let a = expression_spelled e 0 two.0 few in
    short a.0 (omega (arith, a.1))
