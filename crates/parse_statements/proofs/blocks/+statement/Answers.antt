use Rattle.std.proofs.Common.{◌+◌, map, sym, ◌∙◌, ap, subst, arith}
use Rattle.std.proofs.lemmas.List.{map-append}
use Rattle.std.proofs.lemmas.Result.{err_from_is_err_and}
use Rattle.model_tree.specs.Tree as tree
use Rattle.model_tree.specs.Views.{statement_of, body_of}
use Rattle.parse_actions.specs.ParseExpressions.Parse.{Parser, Parses}
use Rattle.parse_actions.proofs.ParseExpressions.Many.{many_stops, many_goes, many_fails, many_ends}
use Rattle.parse_statements.specs.Parse.{handler, at_no_catch, more_handlers, statement, at_right_brace, statements, block, handler_of, handlers_in}
use Rattle.parse_statements.proofs.BlockLaws.{block_deeper, block_none}
use Rattle.parse_statements.proofs.Handled.{try_reads}
use Rattle.parse_statements.proofs.blocks.+statement.Goals as goal

-- no bracket may be opened
pub block-returns-then-depth-eq0 : goal.block-returns-then-depth-eq0
block-returns-then-depth-eq0 t c other = block_none c.args.depth c.args.tokens.now (omega arith)

-- one bracket less may be opened within
pub block-returns : goal.block-returns
block-returns t c = subst (λ (p : Parser tree.Block). Parses (λ body. body_of body.items) p c.args.tokens.now c.braced.result c.braced.new.tokens) (sym (block_deeper c.args.depth (omega arith))) c.braced.ensures

pub more_handlers-returns-then-at_no_catch : goal.more_handlers-returns-then-at_no_catch
more_handlers-returns-then-at_no_catch t c = many_stops at_no_catch (handler (block c.args.depth)) (c.left-turns.result + 1) c.loop-turn.turn (handlers_in c.loop-turn.found.items) c.loop-turn.tokens (more_handlers (block c.args.depth) (handlers_in c.args.first.items) c.args.tokens.now) c.loop-turn.invariant c.loop-turn-test.true (sym c.at_no_catch.ensures ∙ c.if-at_no_catch.true)

pub more_handlers-returns-in_err-caught : goal.more_handlers-returns-in_err-caught
more_handlers-returns-in_err-caught t c =
    let p = err_from_is_err_and c.from_residual.result c.from_residual.ensures.1 in
    rw (p.1, p.2) (λ other. many_fails at_no_catch (handler (block c.args.depth)) (c.left-turns.result + 1) c.loop-turn.turn (handlers_in c.loop-turn.found.items) c.loop-turn.tokens (more_handlers (block c.args.depth) (handlers_in c.args.first.items) c.args.tokens.now) c.loop-turn.invariant c.loop-turn-test.true (sym c.at_no_catch.ensures ∙ c.if-at_no_catch.false) (c.in_err-caught.ensures other))

pub more_handlers-loop-turn-preserved : goal.more_handlers-loop-turn-preserved
more_handlers-loop-turn-preserved t c =
    rw (ap handlers_in c.in_ok-push.ensures.ok, map-append handler_of)
    (many_goes at_no_catch (handler (block c.args.depth)) (c.left-turns.result + 1) c.loop-turn.turn (handlers_in c.loop-turn.found.items) c.loop-turn.tokens (more_handlers (block c.args.depth) (handlers_in c.args.first.items) c.args.tokens.now) c.loop-turn.invariant (handler_of c.in_ok-caught.caught) c.handler.new.tokens c.loop-turn-test.true (sym c.at_no_catch.ensures ∙ c.if-at_no_catch.false) c.in_ok-caught.ensures)

pub more_handlers-returns : goal.more_handlers-returns
more_handlers-returns t c other = many_ends at_no_catch (handler (block c.args.depth)) (c.left-turns.result + 1) c.loop-turn.turn (handlers_in c.loop-turn.found.items) c.loop-turn.tokens (more_handlers (block c.args.depth) (handlers_in c.args.first.items) c.args.tokens.now) c.loop-turn.invariant c.loop-turn-test.false

pub statements-returns-then-sees_symbol : goal.statements-returns-then-sees_symbol
statements-returns-then-sees_symbol t c = many_stops at_right_brace (statement (block c.args.depth) c.args.depth) (c.left-turns.result + 1) c.loop-turn.turn (map statement_of c.loop-turn.found.items) c.loop-turn.tokens (statements (block c.args.depth) c.args.depth c.args.tokens.now) c.loop-turn.invariant c.loop-turn-test.true (sym c.sees_symbol.ensures ∙ c.if-sees_symbol.true)

pub statements-returns-in_err-statement : goal.statements-returns-in_err-statement
statements-returns-in_err-statement t c =
    let p = err_from_is_err_and c.from_residual.result c.from_residual.ensures.1 in
    rw (p.1, p.2) (λ other. many_fails at_right_brace (statement (block c.args.depth) c.args.depth) (c.left-turns.result + 1) c.loop-turn.turn (map statement_of c.loop-turn.found.items) c.loop-turn.tokens (statements (block c.args.depth) c.args.depth c.args.tokens.now) c.loop-turn.invariant c.loop-turn-test.true (sym c.sees_symbol.ensures ∙ c.if-sees_symbol.false) (c.in_err-statement.ensures other))

pub statements-loop-turn-preserved : goal.statements-loop-turn-preserved
statements-loop-turn-preserved t c =
    rw (ap (map statement_of) c.in_ok-push.ensures.ok, map-append statement_of)
    (many_goes at_right_brace (statement (block c.args.depth) c.args.depth) (c.left-turns.result + 1) c.loop-turn.turn (map statement_of c.loop-turn.found.items) c.loop-turn.tokens (statements (block c.args.depth) c.args.depth c.args.tokens.now) c.loop-turn.invariant (statement_of c.in_ok-statement.statement) c.statement.new.tokens c.loop-turn-test.true (sym c.sees_symbol.ensures ∙ c.if-sees_symbol.false) c.in_ok-statement.ensures)

pub statements-returns : goal.statements-returns
statements-returns t c other = many_ends at_right_brace (statement (block c.args.depth) c.args.depth) (c.left-turns.result + 1) c.loop-turn.turn (map statement_of c.loop-turn.found.items) c.loop-turn.tokens (statements (block c.args.depth) c.args.depth c.args.tokens.now) c.loop-turn.invariant c.loop-turn-test.false

pub try_statement-returns : goal.try_statement-returns
try_statement-returns t c = try_reads (block c.args.depth) c.in_ok-line.line c.in_ok-body.body c.in_ok-caught.caught c.args.tokens.now c.word.new.self c.block.new.tokens c.handlers.new.tokens c.in_ok-line.ensures c.in_ok-body.ensures c.in_ok-caught.ensures
