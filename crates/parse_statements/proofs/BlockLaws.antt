-- What the parser functions of statements and blocks read is derived, and what is derived is read.
use Rattle.std.proofs.Common.{◌≡◌, ℕ, zero, suc, ◌-◌, ◌<◌, ◌≤◌, max, List, [], ◌∷◌, Some, None, refl, sym, ap, subst, arith}
use Rattle.model_tree.specs.declared.vocabulary.Word.TheVariants as w
use Rattle.model_tree.specs.declared.vocabulary.Symbol.TheVariants as s
use Rattle.model_tree.specs.Limits.{depth}
use Rattle.model_tree.specs.Views.{block_of}
use Rattle.model_tree.specs.Tree as tree
use Rattle.parse_actions.specs.ModelLexer.Tokens as t
use Rattle.parse_actions.specs.ModelLexer.Tokens.{Tokens}
use Rattle.parse_actions.specs.ModelLexer.Rules.{Rule, ◌⨾◌, Takes, Each}
use Rattle.parse_actions.specs.ModelLexer.Expressions.{sees, DerivesExpression}
use Rattle.parse_actions.specs.ModelLexer.Statements.{Braced, HasHandler, DerivesStatement, DerivesStatements, DerivesElse, DerivesHandlers, DerivesBlock}
use Rattle.parse_actions.specs.ModelLexer.Brackets.{in_statement, in_block, in_else, in_handlers}
use Rattle.parse_actions.specs.ParseExpressions.Parse.{Parser, pure, word, is_the_word, symbol, name, expression}
use Rattle.parse_actions.proofs.ParseExpressions.Parsers.{and_then_ok, choose_cases, choose_first, choose_other, made}
use Rattle.parse_actions.proofs.ParseExpressions.OneToken.{symbol_ok, name_ok, word_ok, this_word_at, symbol_reads, name_reads, word_reads, symbol_sees, word_sees}
use Rattle.parse_actions.proofs.ParseExpressions.Many.{Every, many_ok, many_reads}
use Rattle.parse_actions.proofs.ParseExpressions.Sound.{expression_ok}
use Rattle.parse_actions.proofs.ParseExpressions.Complete.{expression_reads, over_at}
use Rattle.parse_statements.specs.Parse.{plain, some_else, else_part, if_statement, while_statement, guard_statement, handler, at_no_catch, more_handlers, handlers, handlers_of_list, try_statement, try_or_plain, guard_or_less, while_or_less, statement, at_right_brace, statements, braced, block}
use Rattle.parse_statements.proofs.PlainLaws.{Within, plain_ok, var_reads, assign_reads, result_statement_reads, operate_statement_reads, act_statement_reads}
use Rattle.parse_actions.proofs.ModelLexer.Shrinks.{statement_shortens, handler_shortens}
use Rattle.parse_statements.proofs.Begins.{Apart, act_apart, operate_apart, Follow, statement_begins, brace_follows}

-- a handler: the name of what it catches, and its block
abbrev Handler : Type 0
Handler = List ℕ × tree.Block

abbrev DerivesCatch : Handler → Rule
DerivesCatch h = Takes (t.word w.Catch) ⨾ Takes (t.name h.0) ⨾ Braced (DerivesStatements h.1)

abbrev FewIn : ℕ → Handler → Type 0
FewIn d h = suc (in_block h.1) ≤ d

abbrev Few : ℕ → tree.Statement → Type 0
Few d x = in_statement x ≤ d

-- what is read is derived

handlers_listed : (d : ℕ) (hs : List Handler) (ts rest : Tokens) → Each DerivesCatch hs ts rest → Every (FewIn d) hs → DerivesHandlers (handlers_of_list hs) ts rest × (in_handlers (handlers_of_list hs) ≤ d)
handlers_listed d [] ts rest h few = (h, omega arith)
handlers_listed d (x ∷ hs) ts rest (c, (a, one, (b, two, three)), more) (few, all) =
    let (left, less) = handlers_listed d hs c rest more all in
    let deep : max (suc (in_block x.1)) (in_handlers (handlers_of_list hs)) ≤ d = omega (arith, few, less) in
    ((a, one, (b, two, (c, three, left))), deep)

statements_listed : (d : ℕ) (xs : List tree.Statement) (ts rest : Tokens) → Each DerivesStatement xs ts rest → Every (Few d) xs → DerivesStatements (block_of xs) ts rest × (in_block (block_of xs) ≤ d)
statements_listed d [] ts rest h few = (h, omega arith)
statements_listed d (x ∷ xs) ts rest (a, one, more) (few, all) =
    let (left, less) = statements_listed d xs a rest more all in
    let deep : max (in_statement x) (in_block (block_of xs)) ≤ d = omega (arith, few, less) in
    ((a, one, left), deep)

module _ (inner : Parser tree.Block) (d : ℕ) (inner_ok : (ts rest : Tokens) (b : tree.Block) → inner ts ≡ Some (b, rest) → DerivesBlock b ts rest × (suc (in_block b) ≤ d)) where
  else_ok : (ts rest : Tokens) (o : tree.Else) → else_part inner ts ≡ Some (o, rest) → DerivesElse o ts rest × (in_else o ≤ d)
  unfolding else_part
  else_ok ts rest o h =
      choose_cases (sees (is_the_word w.Else)) (some_else inner) (pure tree.no_else) ts (o, rest) h
      (λ e h.
      let (line, a, one, h1) = and_then_ok (word w.Else ts) _ (o, rest) h in
      let (body, b, two, h2) = and_then_ok (inner a) _ (o, rest) h1 in
      let (body_at, few) = inner_ok a b body two in
      made (λ z r. DerivesElse z ts r × (in_else z ≤ d)) h2 ((a, word_ok w.Else ts a line one, body_at), few))
      (λ e h. made (λ z r. DerivesElse z ts r × (in_else z ≤ d)) h (refl, omega arith))

  if_statement_ok : (ts rest : Tokens) (x : tree.Statement) → if_statement inner d ts ≡ Some (x, rest) → Within d x ts rest
  unfolding if_statement
  if_statement_ok ts rest x h =
      let (line, a, one, h1) = and_then_ok (word w.If ts) _ (x, rest) h in
      let (e, b, two, h2) = and_then_ok (expression d a) _ (x, rest) h1 in
      let (body, c, three, h3) = and_then_ok (inner b) _ (x, rest) h2 in
      let (other, f, four, h4) = and_then_ok (else_part inner c) _ (x, rest) h3 in
      let test = expression_ok d a b e two in
      let (body_at, few) = inner_ok b c body three in
      let (other_at, less) = else_ok c f other four in
      let all : max (depth e) (max (suc (in_block body)) (in_else other)) ≤ d = omega (arith, test.1, few, less) in
      made (λ z. Within d z ts) h4 ((a, this_word_at w.If ts a line one, (b, test.0, (c, body_at, other_at))), all)

  while_statement_ok : (ts rest : Tokens) (x : tree.Statement) → while_statement inner d ts ≡ Some (x, rest) → Within d x ts rest
  unfolding while_statement
  while_statement_ok ts rest x h =
      let (line, a, one, h1) = and_then_ok (word w.While ts) _ (x, rest) h in
      let (e, b, two, h2) = and_then_ok (expression d a) _ (x, rest) h1 in
      let (body, c, three, h3) = and_then_ok (inner b) _ (x, rest) h2 in
      let test = expression_ok d a b e two in
      let (body_at, few) = inner_ok b c body three in
      let all : max (depth e) (suc (in_block body)) ≤ d = omega (arith, test.1, few) in
      made (λ z. Within d z ts) h3 ((a, this_word_at w.While ts a line one, (b, test.0, body_at)), all)

  guard_statement_ok : (ts rest : Tokens) (x : tree.Statement) → guard_statement inner ts ≡ Some (x, rest) → Within d x ts rest
  unfolding guard_statement
  guard_statement_ok ts rest x h =
      let (line, a, one, h1) = and_then_ok (word w.Guard ts) _ (x, rest) h in
      let (body, b, two, h2) = and_then_ok (inner a) _ (x, rest) h1 in
      let (at, c, three, h3) = and_then_ok (word w.Unwind b) _ (x, rest) h2 in
      let (undo, f, four, h4) = and_then_ok (inner c) _ (x, rest) h3 in
      let (body_at, few) = inner_ok a b body two in
      let (undo_at, less) = inner_ok c f undo four in
      let all : max (suc (in_block body)) (suc (in_block undo)) ≤ d = omega (arith, few, less) in
      made (λ z. Within d z ts) h4 ((a, this_word_at w.Guard ts a line one, (b, body_at, (c, word_ok w.Unwind b c at three, undo_at))), all)

  handler_ok : (ts rest : Tokens) (x : Handler) → handler inner ts ≡ Some (x, rest) → DerivesCatch x ts rest × FewIn d x
  unfolding handler
  handler_ok ts rest x h =
      let (line, a, one, h1) = and_then_ok (word w.Catch ts) _ (x, rest) h in
      let (bytes, b, two, h2) = and_then_ok (name a) _ (x, rest) h1 in
      let (body, c, three, h3) = and_then_ok (inner b) _ (x, rest) h2 in
      let (body_at, few) = inner_ok b c body three in
      made (λ (z : Handler) r. DerivesCatch z ts r × FewIn d z) h3 ((a, word_ok w.Catch ts a line one, (b, name_ok a b bytes two, body_at)), few)

  handlers_ok : (ts rest : Tokens) (hs : List Handler) → handlers inner ts ≡ Some (hs, rest) → HasHandler (handlers_of_list hs) (DerivesHandlers (handlers_of_list hs)) ts rest × (in_handlers (handlers_of_list hs) ≤ d)
  unfolding handlers more_handlers
  handlers_ok ts rest hs h =
      let (x, a, one, h1) = and_then_ok (handler inner ts) _ (hs, rest) h in
      let (one_at, few) = handler_ok ts a x one in
      let (xs, same, each, every, stop) = many_ok at_no_catch (handler inner) DerivesCatch (FewIn d) handler_ok (x ∷ []) hs a rest h1 in
      let all = handlers_listed d (x ∷ xs) ts rest (a, one_at, each) (few, every) in
      subst (λ zs. HasHandler (handlers_of_list zs) (DerivesHandlers (handlers_of_list zs)) ts rest × (in_handlers (handlers_of_list zs) ≤ d)) (sym same) all

  try_statement_ok : (ts rest : Tokens) (x : tree.Statement) → try_statement inner ts ≡ Some (x, rest) → Within d x ts rest
  unfolding try_statement
  try_statement_ok ts rest x h =
      let (line, a, one, h1) = and_then_ok (word w.Try ts) _ (x, rest) h in
      let (body, b, two, h2) = and_then_ok (inner a) _ (x, rest) h1 in
      let (hs, c, three, h3) = and_then_ok (handlers inner b) _ (x, rest) h2 in
      let (body_at, few) = inner_ok a b body two in
      let (handlers_at, less) = handlers_ok b c hs three in
      let all : max (suc (in_block body)) (in_handlers (handlers_of_list hs)) ≤ d = omega (arith, few, less) in
      made (λ z. Within d z ts) h3 ((a, this_word_at w.Try ts a line one, (b, body_at, handlers_at)), all)

  pub statement_ok : (ts rest : Tokens) (x : tree.Statement) → statement inner d ts ≡ Some (x, rest) → Within d x ts rest
  unfolding statement
  statement_ok ts rest x h =
      choose_cases (sees (is_the_word w.If)) (if_statement inner d) (while_or_less inner d) ts (x, rest) h
      (λ e h. if_statement_ok ts rest x h)
      (λ e h. choose_cases (sees (is_the_word w.While)) (while_statement inner d) (guard_or_less inner d) ts (x, rest) h
      (λ e h. while_statement_ok ts rest x h)
      (λ e h. choose_cases (sees (is_the_word w.Guard)) (guard_statement inner) (try_or_plain inner d) ts (x, rest) h
      (λ e h. guard_statement_ok ts rest x h)
      (λ e h. choose_cases (sees (is_the_word w.Try)) (try_statement inner) (plain d) ts (x, rest) h
      (λ e h. try_statement_ok ts rest x h)
      (λ e h. plain_ok d ts rest x h))))

  braced_ok : (ts rest : Tokens) (b : tree.Block) → braced inner d ts ≡ Some (b, rest) → DerivesBlock b ts rest × (suc (in_block b) ≤ suc d)
  unfolding braced statements
  braced_ok ts rest b h =
      let (left, a, one, h1) = and_then_ok (symbol s.LeftBrace ts) _ (b, rest) h in
      let (xs, c, two, h2) = and_then_ok (statements inner d a) _ (b, rest) h1 in
      let (right, e, three, h3) = and_then_ok (symbol s.RightBrace c) _ (b, rest) h2 in
      let (ys, same, each, every, stop) = many_ok at_right_brace (statement inner d) DerivesStatement (Few d) statement_ok [] xs a c two in
      let (body_at, few) = statements_listed d ys a c each every in
      let deep : suc (in_block (block_of ys)) ≤ suc d = omega (arith, few) in
      made (λ z r. DerivesBlock z ts r × (suc (in_block z) ≤ suc d)) h3
      (subst (λ zs. DerivesBlock (block_of zs) ts e × (suc (in_block (block_of zs)) ≤ suc d)) (sym same) ((a, symbol_ok s.LeftBrace ts a left one, (c, body_at, symbol_ok s.RightBrace c e right three)), deep))

pub block_ok : (d : ℕ) (ts rest : Tokens) (b : tree.Block) → block d ts ≡ Some (b, rest) → DerivesBlock b ts rest × (suc (in_block b) ≤ d)
unfolding block
block_ok zero ts rest b h = cc
block_ok (suc d) ts rest b h = braced_ok (block d) d (block_ok d) ts rest b h

-- what is derived is read

-- the statements of a block as a list, and the handlers of a try
abbrev list_of : tree.Block → List tree.Statement
list_of tree.over = []
list_of (tree.then x xs) = x ∷ list_of xs

block_of_list : (b : tree.Block) → block_of (list_of b) ≡ b
block_of_list tree.over = refl
block_of_list (tree.then x xs) = ap (tree.then x) (block_of_list xs)

abbrev handlers_list : tree.Handlers → List Handler
handlers_list tree.no_more = []
handlers_list (tree.handler x body more) = (x, body) ∷ handlers_list more

handlers_of_listed : (hs : tree.Handlers) → handlers_of_list (handlers_list hs) ≡ hs
handlers_of_listed tree.no_more = refl
handlers_of_listed (tree.handler x body more) = ap (tree.handler x body) (handlers_of_listed more)

each_statement : (d : ℕ) (b : tree.Block) (ts rest : Tokens) → DerivesStatements b ts rest → in_block b ≤ d → Each DerivesStatement (list_of b) ts rest × Every (Few d) (list_of b)
each_statement d tree.over ts rest h few = (h, tt)
each_statement d (tree.then x xs) ts rest (a, one, more) few =
    let (each, every) = each_statement d xs a rest more (omega arith) in
    ((a, one, each), (omega arith, every))

each_handler : (d : ℕ) (hs : tree.Handlers) (ts rest : Tokens) → DerivesHandlers hs ts rest → in_handlers hs ≤ d → Each DerivesCatch (handlers_list hs) ts rest × Every (FewIn d) (handlers_list hs)
each_handler d tree.no_more ts rest h few = (h, tt)
each_handler d (tree.handler x body more) ts rest (a, one, (b, two, (c, three, left))) few =
    let (each, every) = each_handler d more c rest left (omega arith) in
    ((c, (a, one, (b, two, three)), each), (omega arith, every))

-- an expression up to a block
test_reads : (d : ℕ) (e : tree.Expression) (body : tree.Block) (ts a rest : Tokens) → DerivesExpression e ts a → depth e ≤ d → DerivesBlock body a rest → expression d ts ≡ Some (e, a)
test_reads d e body ts a rest h few block_at = expression_reads d e ts a (h, few, over_at (t.symbol s.LeftBrace) e a block_at.0 refl refl refl refl block_at.1)

module _ (inner : Parser tree.Block) (d : ℕ) (inner_reads : (b : tree.Block) (ts rest : Tokens) → DerivesBlock b ts rest → suc (in_block b) ≤ d → inner ts ≡ Some (b, rest)) where
  else_reads : (o : tree.Else) (ts rest : Tokens) → DerivesElse o ts rest → in_else o ≤ d → Follow rest → else_part inner ts ≡ Some (o, rest)
  unfolding else_part
  else_reads tree.no_else ts rest h few follow = choose_other (sees (is_the_word w.Else)) (some_else inner) (pure tree.no_else) ts _ (rw h follow.0) (rw h refl)
  else_reads (tree.else_block body) ts rest (a, word_at, body_at) few follow =
      choose_first (sees (is_the_word w.Else)) (some_else inner) (pure tree.no_else) ts _ (word_sees w.Else ts a word_at)
      (rw (word_reads w.Else ts a word_at, inner_reads body a rest body_at few) refl)

  handler_reads : (x : Handler) (ts rest : Tokens) → DerivesCatch x ts rest → FewIn d x → handler inner ts ≡ Some (x, rest)
  unfolding handler
  handler_reads x ts rest (a, one, (b, two, three)) few = rw (word_reads w.Catch ts a one, name_reads x.0 a b two, inner_reads x.1 b rest three few) refl

  handlers_read : (hs : tree.Handlers) (ts rest : Tokens) → HasHandler hs (DerivesHandlers hs) ts rest → in_handlers hs ≤ d → Follow rest → handlers inner ts ≡ Some (handlers_list hs, rest)
  unfolding handlers more_handlers
  handlers_read tree.no_more ts rest h few follow = absurd h
  handlers_read (tree.handler x body more) ts rest (a, one, (b, two, (c, three, left))) few follow =
      let (each, every) = each_handler d more c rest left (omega arith) in
      let body_few : suc (in_block body) ≤ d = omega arith in
      let first = handler_reads (x, body) ts c (a, one, (b, two, three)) body_few in
      let others = many_reads at_no_catch (handler inner) DerivesCatch (FewIn d) (λ ts. Unit {0}) (λ x ts rest h g f. handler_reads x ts rest h g) (λ x ts rest h. (rw (word_sees w.Catch ts h.0 h.1) refl, tt)) (λ x ts rest h. handler_shortens x.0 x.1 ts rest h) (handlers_list more) ((x, body) ∷ []) c rest each every (rw follow.1 refl) tt in
      rw first others

  try_statement_reads : (line : ℕ) (body : tree.Block) (hs : tree.Handlers) (ts rest : Tokens) → DerivesStatement (tree.try_ line body hs) ts rest → max (suc (in_block body)) (in_handlers hs) ≤ d → Follow rest → try_statement inner ts ≡ Some (tree.try_ line body hs, rest)
  unfolding try_statement
  try_statement_reads line body hs ts rest (a, word_at, (b, body_at, handlers_at)) few follow =
      let one : suc (in_block body) ≤ d = omega arith in
      let two : in_handlers hs ≤ d = omega arith in
      rw (word_reads w.Try ts a (line, word_at), inner_reads body a b body_at one, handlers_read hs b rest handlers_at two follow) (ap (λ z. Some (tree.try_ line body z, rest)) (handlers_of_listed hs))

  plain_reads : (x : tree.Statement) (ts rest : Tokens) → Apart ts → plain d ts ≡ Some (x, rest) → statement inner d ts ≡ Some (x, rest)
  unfolding statement
  plain_reads x ts rest apart h =
      choose_other (sees (is_the_word w.If)) (if_statement inner d) (while_or_less inner d) ts _ apart.0
      (choose_other (sees (is_the_word w.While)) (while_statement inner d) (guard_or_less inner d) ts _ apart.1
      (choose_other (sees (is_the_word w.Guard)) (guard_statement inner) (try_or_plain inner d) ts _ apart.2
      (choose_other (sees (is_the_word w.Try)) (try_statement inner) (plain d) ts _ apart.3 h)))

  pub statement_reads : (x : tree.Statement) (ts rest : Tokens) → DerivesStatement x ts rest → in_statement x ≤ d → Follow rest → statement inner d ts ≡ Some (x, rest)
  unfolding statement if_statement while_statement guard_statement
  statement_reads (tree.var line v bytes o) ts rest h few follow = plain_reads _ ts rest (rw h.1 refl, rw h.1 refl, rw h.1 refl, rw h.1 refl) (var_reads d line v bytes o ts rest h few)
  statement_reads (tree.assign line place e) ts rest h few follow = plain_reads _ ts rest (rw h.1.1 refl, rw h.1.1 refl, rw h.1.1 refl, rw h.1.1 refl) (assign_reads d line place e ts rest h few)
  statement_reads (tree.operate line None at o) ts rest h few follow = plain_reads _ ts rest (operate_apart line None at o ts rest h) (operate_statement_reads d line at o ts rest h few)
  statement_reads (tree.operate line (Some x) at o) ts rest h few follow = plain_reads _ ts rest (operate_apart line (Some x) at o ts rest h) (result_statement_reads d line x at o ts rest h few)
  statement_reads (tree.act line a) ts rest h few follow = plain_reads _ ts rest (act_apart line a ts rest h) (act_statement_reads d line a ts rest h few)
  statement_reads (tree.if_ line e body other) ts rest (a, word_at, (b, test_at, (c, body_at, else_at))) few follow =
      let one : depth e ≤ d = omega arith in
      let two : suc (in_block body) ≤ d = omega arith in
      let three : in_else other ≤ d = omega arith in
      choose_first (sees (is_the_word w.If)) (if_statement inner d) (while_or_less inner d) ts _ (word_sees w.If ts a (line, word_at))
      (rw (word_reads w.If ts a (line, word_at), test_reads d e body a b c test_at one body_at, inner_reads body b c body_at two, else_reads other c rest else_at three follow) refl)
  statement_reads (tree.while_ line e body) ts rest (a, word_at, (b, test_at, body_at)) few follow =
      let one : depth e ≤ d = omega arith in
      let two : suc (in_block body) ≤ d = omega arith in
      choose_other (sees (is_the_word w.If)) (if_statement inner d) (while_or_less inner d) ts _ (rw word_at refl)
      (choose_first (sees (is_the_word w.While)) (while_statement inner d) (guard_or_less inner d) ts _ (word_sees w.While ts a (line, word_at))
      (rw (word_reads w.While ts a (line, word_at), test_reads d e body a b rest test_at one body_at, inner_reads body b rest body_at two) refl))
  statement_reads (tree.guard line body undo) ts rest (a, word_at, (b, body_at, (c, unwind_at, undo_at))) few follow =
      let one : suc (in_block body) ≤ d = omega arith in
      let two : suc (in_block undo) ≤ d = omega arith in
      choose_other (sees (is_the_word w.If)) (if_statement inner d) (while_or_less inner d) ts _ (rw word_at refl)
      (choose_other (sees (is_the_word w.While)) (while_statement inner d) (guard_or_less inner d) ts _ (rw word_at refl)
      (choose_first (sees (is_the_word w.Guard)) (guard_statement inner) (try_or_plain inner d) ts _ (word_sees w.Guard ts a (line, word_at))
      (rw (word_reads w.Guard ts a (line, word_at), inner_reads body a b body_at one, word_reads w.Unwind b c unwind_at, inner_reads undo c rest undo_at two) refl)))
  statement_reads (tree.try_ line body hs) ts rest h few follow =
      choose_other (sees (is_the_word w.If)) (if_statement inner d) (while_or_less inner d) ts _ (rw h.1 refl)
      (choose_other (sees (is_the_word w.While)) (while_statement inner d) (guard_or_less inner d) ts _ (rw h.1 refl)
      (choose_other (sees (is_the_word w.Guard)) (guard_statement inner) (try_or_plain inner d) ts _ (rw h.1 refl)
      (choose_first (sees (is_the_word w.Try)) (try_statement inner) (plain d) ts _ (word_sees w.Try ts h.0 (line, h.1))
      (try_statement_reads line body hs ts rest h few follow))))

  braced_reads : (b : tree.Block) (ts rest : Tokens) → DerivesBlock b ts rest → in_block b ≤ d → braced inner d ts ≡ Some (b, rest)
  unfolding braced statements
  braced_reads b ts rest (a, open_at, (c, body_at, close_at)) few =
      let (each, every) = each_statement d b a c body_at few in
      let all : statements inner d a ≡ Some (list_of b, c) = many_reads at_right_brace (statement inner d) DerivesStatement (Few d) Follow statement_reads statement_begins (λ x ts rest h. (statement_shortens x).leaves ts rest h) (list_of b) [] a c each every (symbol_sees s.RightBrace c rest close_at) (brace_follows c rest close_at.0 close_at.1) in
      rw (symbol_reads s.LeftBrace ts a open_at, all, symbol_reads s.RightBrace c rest close_at) (ap (λ z. Some (z, rest)) (block_of_list b))

pub block_reads : (d : ℕ) (b : tree.Block) (ts rest : Tokens) → DerivesBlock b ts rest → suc (in_block b) ≤ d → block d ts ≡ Some (b, rest)
unfolding block
block_reads zero b ts rest h few = absurd (omega arith)
block_reads (suc d) b ts rest h few = braced_reads (block d) d (block_reads d) b ts rest h (omega arith)

-- where a bracket may be opened, a block is braces with statements in which one less may be
pub block_deeper : (d : ℕ) → 0 < d → block d ≡ braced (block (d - 1)) (d - 1)
unfolding block
block_deeper zero some = absurd (omega arith)
block_deeper (suc d) some = let one : suc d - 1 ≡ d = omega arith in rw one refl

pub block_none : (d : ℕ) (ts : Tokens) → d ≡ 0 → block d ts ≡ None
unfolding block
block_none zero ts none = refl
block_none (suc d) ts none = absurd (omega arith)
