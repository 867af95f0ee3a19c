-- The printed tokens of statements and blocks are those of the same ones, but for line numbers.
use Rattle.std.proofs.Common.{◌≡◌, ℕ, Bool, true, false, ◌&&◌, List, [], ◌∷◌, ◌++◌, append_assoc, Option, Some, None, refl, sym, ap}
use Rattle.std.proofs.lemmas.Bool.{and_parts}
use Rattle.model_print.specs.ModelTree.declared.vocabulary.Word.TheVariants as w
use Rattle.model_print.specs.ModelTree.declared.vocabulary.Symbol.TheVariants as s
use Rattle.model_print.specs.ModelTree.Leaves.{is_name}
use Rattle.model_print.specs.ModelTree.Limits.{fits, fits_option, within, option_name, fits_target, fits_operation, fits_var_type, fits_statement, fits_block, fits_else, fits_handlers, has_handler}
use Rattle.model_print.specs.ModelTree.Tree as tree
use Rattle.model_lexer.specs.Tokens.{Tokens, name, word, symbol}
use Rattle.model_lexer.specs.Rules.{Rule, ◌⨾◌, Takes, Maybe}
use Rattle.model_lexer.specs.Statements.{DerivesInitial, Braced, HasHandler, DerivesStatement, DerivesStatements, DerivesElse, DerivesHandlers}
use Rattle.model_print.specs.Layout.{Piece}
use Rattle.model_print.specs.Pieces as piece
use Rattle.model_print.specs.Printed as printed
use Rattle.laws_texts.specs.Unlined as unlined
use Rattle.laws_texts.proofs.Pieces.{word_piece, name_piece, operator_piece, semicolon_piece, left_brace_piece, right_brace_piece}
use Rattle.laws_texts.proofs.Spelled.{Spelled, both, as_one, as_known, moved, loose, led, led_at, ended_by, of_nothing}
use Rattle.laws_texts.proofs.Lists.{maybe_spelled}
use Rattle.laws_texts.proofs.PrintedExpressions.{whole_spelled}
use Rattle.laws_texts.proofs.PrintedStatements.{opened, typed, option_fits, LikeOption, target_spelled}
use Rattle.laws_texts.proofs.Actions.{headed, operation_spelled, action_spelled}

-- a `;` behind
abbrev pub closed : {A : Type 0} {firm : Bool} {R : A → Rule} {S : A → Type 0} {xs : List Piece} → Spelled firm R S xs → Spelled firm (λ y. R y ⨾ Takes (symbol s.Semicolon)) S (xs ++ piece.semicolon ∷ [])
closed a = ended_by piece.semicolon (symbol s.Semicolon) semicolon_piece refl a

-- braces around
abbrev pub braced : {A : Type 0} {R : A → Rule} {S : A → Type 0} {xs : List Piece} → Spelled false R S xs → Spelled false (λ y. Braced (R y)) S (piece.braced xs)
braced a = led false piece.left_brace (symbol s.LeftBrace) left_brace_piece refl (ended_by piece.right_brace (symbol s.RightBrace) right_brace_piece refl a)

-- `=` in front
abbrev pub given : {A : Type 0} {R : A → Rule} {S : A → Type 0} {xs : List Piece} → Spelled false R S xs → Spelled false (λ y. Takes (symbol s.Equal) ⨾ R y) S (piece.operator s.Equal ∷ xs)
given a = led false (piece.operator s.Equal) (symbol s.Equal) (operator_piece s.Equal) refl a

initial_spelled : (n : ℕ) (o : Option tree.Expression) → fits_option n o ≡ true → Spelled false (λ (y : Option tree.Expression). Maybe DerivesInitial y) (LikeOption o) (printed.initial o)
initial_spelled n o h = maybe_spelled unlined.expression DerivesInitial (λ e. piece.operator s.Equal ∷ printed.expression e) o (λ e is. given (loose (whole_spelled n e (option_fits n o e h is))))

abbrev SameStatement : tree.Statement → tree.Statement → Type 0
SameStatement x y = unlined.statement y ≡ unlined.statement x

-- an operation, and the variable that gets its value
operate_spelled : (n line at : ℕ) (x : Option (List ℕ)) (o : tree.Operation) → option_name x ≡ true → fits_operation n o ≡ true → Spelled true DerivesStatement (SameStatement (tree.operate line x at o)) (printed.statement (tree.operate line x at o))
operate_spelled n line at None o k h =
    as_one (λ y. tree.operate y.0 None y.0 y.1) (λ y s. ap (tree.operate 0 None 0) s) (λ y ts rest d. (ts, (refl, refl), d)) (closed (operation_spelled n o h))
operate_spelled n line at (Some x) o k h =
    as_one (λ y. tree.operate y.0 (Some x) y.1.0 y.1.1) (λ y s. ap (tree.operate 0 (Some x) 0) s)
    (λ y ts rest (m, a, (m1, b, c)). (m1, (m, a, b), c))
    (led_at true (piece.name x) (name x) (name_piece x k) refl (given (loose (closed (operation_spelled n o h)))))

has_one : (y hs : tree.Handlers) → unlined.handlers y ≡ unlined.handlers hs → has_handler hs ≡ true → (ts rest : Tokens) → DerivesHandlers y ts rest → HasHandler y (DerivesHandlers y) ts rest
has_one y tree.no_more e h ts rest d = cc
has_one tree.no_more (tree.handler x body more) e h ts rest d = cc
has_one (tree.handler z b m) (tree.handler x body more) e h ts rest d = d

mutual
  pub statement_spelled : (n : ℕ) (x : tree.Statement) → fits_statement x n ≡ true → Spelled true DerivesStatement (SameStatement x) (printed.statement x)
  statement_spelled n (tree.var line t x e) h =
      let parts = and_parts (fits_var_type t) (is_name x && fits_option n e) h in
      let more = and_parts (is_name x) (fits_option n e) parts.1 in
      as_one (λ y. tree.var y.0 y.1.0 x y.1.1) (λ y s. rw (s.0, s.1) refl) (λ y ts rest d. d)
      (headed w.Var (both (loose (typed t parts.0)) (led false (piece.name x) (name x) (name_piece x more.0) refl (closed (initial_spelled n e more.1)))))
  statement_spelled n (tree.assign line t e) h =
      let parts = and_parts (fits_target n t) (fits n e) h in
      as_one (λ y. tree.assign y.0.0 y.0.1 y.1) (λ y s. rw (s.0, s.1) refl) (λ y ts rest d. d)
      (moved (sym (append_assoc (printed.target t) (piece.operator s.Equal ∷ printed.expression e) (piece.semicolon ∷ [])))
      (both (target_spelled n t parts.0) (given (closed (loose (whole_spelled n e parts.1))))))
  statement_spelled n (tree.operate line x at o) h =
      let parts = and_parts (option_name x) (fits_operation n o) h in
      operate_spelled n line at x o parts.0 parts.1
  statement_spelled n (tree.act line a) h =
      as_one (λ y. tree.act y.0 y.1) (λ y s. ap (tree.act 0) s) (λ y ts rest d. d) (closed (action_spelled n a h))
  statement_spelled n (tree.if_ line e body other) h =
      let parts = and_parts (fits n e) (within n (fits_block body) && fits_else other n) h in
      let more = and_parts (within n (fits_block body)) (fits_else other n) parts.1 in
      let (m, inner) = opened n (fits_block body) more.0 in
      as_one (λ y. tree.if_ y.0 y.1.0 y.1.1.0 y.1.1.1) (λ y s. rw (s.0, s.1.0, s.1.1) refl) (λ y ts rest d. d)
      (headed w.If
      (moved (sym (append_assoc (printed.expression e) (piece.braced (printed.statements body)) (printed.else_ other)))
      (both (loose (whole_spelled n e parts.0)) (both (braced (block_spelled m body inner)) (else_spelled n other more.1)))))
  statement_spelled n (tree.while_ line e body) h =
      let parts = and_parts (fits n e) (within n (fits_block body)) h in
      let (m, inner) = opened n (fits_block body) parts.1 in
      as_one (λ y. tree.while_ y.0 y.1.0 y.1.1) (λ y s. rw (s.0, s.1) refl) (λ y ts rest d. d)
      (headed w.While (both (loose (whole_spelled n e parts.0)) (braced (block_spelled m body inner))))
  statement_spelled n (tree.guard line body undo) h =
      let parts = and_parts (within n (fits_block body)) (within n (fits_block undo)) h in
      let (m, inner) = opened n (fits_block body) parts.0 in
      let (k, last) = opened n (fits_block undo) parts.1 in
      as_one (λ y. tree.guard y.0 y.1.0 y.1.1) (λ y s. rw (s.0, s.1) refl) (λ y ts rest d. d)
      (headed w.Guard (both (braced (block_spelled m body inner)) (led false (piece.word w.Unwind) (word w.Unwind) (word_piece w.Unwind) refl (braced (block_spelled k undo last)))))
  statement_spelled n (tree.try_ line body hs) h =
      let parts = and_parts (within n (fits_block body)) (has_handler hs && fits_handlers hs n) h in
      let more = and_parts (has_handler hs) (fits_handlers hs n) parts.1 in
      let (m, inner) = opened n (fits_block body) parts.0 in
      as_one (λ y. tree.try_ y.0 y.1.0 y.1.1) (λ y s. rw (s.0, s.1) refl) (λ y ts rest d. d)
      (headed w.Try
      (both (braced (block_spelled m body inner)) (as_known {Q = λ y. HasHandler y (DerivesHandlers y)} (λ y. y) (λ y s. s) (λ y s ts rest d. has_one y hs s more.0 ts rest d) (handlers_spelled n hs more.1))))

  pub block_spelled : (n : ℕ) (x : tree.Block) → fits_block x n ≡ true → Spelled false DerivesStatements (λ y. unlined.block y ≡ unlined.block x) (printed.statements x)
  block_spelled n tree.over h = as_one (λ y. tree.over) (λ y s. refl) (λ y ts rest d. d) of_nothing
  block_spelled n (tree.then x xs) h =
      let parts = and_parts (fits_statement x n) (fits_block xs n) h in
      as_one (λ y. tree.then y.0 y.1) (λ y s. rw (s.0, s.1) refl) (λ y ts rest d. d) (both (loose (statement_spelled n x parts.0)) (block_spelled n xs parts.1))

  pub else_spelled : (n : ℕ) (x : tree.Else) → fits_else x n ≡ true → Spelled false DerivesElse (λ y. unlined.otherwise y ≡ unlined.otherwise x) (printed.else_ x)
  else_spelled n tree.no_else h = as_one (λ y. tree.no_else) (λ y s. refl) (λ y ts rest d. d) of_nothing
  else_spelled n (tree.else_block body) h =
      let (m, inner) = opened n (fits_block body) h in
      as_one (λ y. tree.else_block y) (λ y s. ap tree.else_block s) (λ y ts rest d. d)
      (led false (piece.word w.Else) (word w.Else) (word_piece w.Else) refl (braced (block_spelled m body inner)))

  pub handlers_spelled : (n : ℕ) (x : tree.Handlers) → fits_handlers x n ≡ true → Spelled false DerivesHandlers (λ y. unlined.handlers y ≡ unlined.handlers x) (printed.handlers x)
  handlers_spelled n tree.no_more h = as_one (λ y. tree.no_more) (λ y s. refl) (λ y ts rest d. d) of_nothing
  handlers_spelled n (tree.handler x body hs) h =
      let parts = and_parts (is_name x) (within n (fits_block body) && fits_handlers hs n) h in
      let more = and_parts (within n (fits_block body)) (fits_handlers hs n) parts.1 in
      let (m, inner) = opened n (fits_block body) more.0 in
      as_one (λ y. tree.handler x y.0 y.1) (λ y s. rw (s.0, s.1) refl) (λ y ts rest d. d)
      (led false (piece.word w.Catch) (word w.Catch) (word_piece w.Catch) refl
      (led false (piece.name x) (name x) (name_piece x parts.0) refl
      (both (braced (block_spelled m body inner)) (handlers_spelled n hs more.1))))
