use Rattle.std.proofs.Common.{◌+◌, map, sym, ◌∙◌, ap}
use Rattle.std.proofs.lemmas.List.{map-append}
use Rattle.std.proofs.lemmas.Result.{err_from_is_err_and}
use Rattle.model_tree.specs.Views.{item_of}
use Rattle.parse_statements.proofs.ParseExpressions.Many.{many_stops, many_goes, many_fails, many_ends}
use Rattle.parse_statements.specs.Parse.{at_right_brace}
use Rattle.model_parser.specs.Bodies.{item, items}
use Rattle.model_parser.proofs.module_items.items.Goals as goal

pub returns-then-sees_symbol : goal.returns-then-sees_symbol
returns-then-sees_symbol c = many_stops at_right_brace (item c.args.depth) (c.left-turns.result + 1) c.loop-turn.turn (map item_of c.loop-turn.found.items) c.loop-turn.tokens (items c.args.depth c.args.tokens.now) c.loop-turn.invariant c.loop-turn-test.true (sym c.sees_symbol.ensures ∙ c.if-sees_symbol.true)

pub returns-in_err-item : goal.returns-in_err-item
returns-in_err-item c =
    let p = err_from_is_err_and c.from_residual.result c.from_residual.ensures.1 in
    rw (p.1, p.2) (λ other. many_fails at_right_brace (item c.args.depth) (c.left-turns.result + 1) c.loop-turn.turn (map item_of c.loop-turn.found.items) c.loop-turn.tokens (items c.args.depth c.args.tokens.now) c.loop-turn.invariant c.loop-turn-test.true (sym c.sees_symbol.ensures ∙ c.if-sees_symbol.false) (c.in_err-item.ensures other))

pub loop-turn-preserved : goal.loop-turn-preserved
loop-turn-preserved c =
    rw (ap (map item_of) c.in_ok-push.ensures.ok, map-append item_of)
    (many_goes at_right_brace (item c.args.depth) (c.left-turns.result + 1) c.loop-turn.turn (map item_of c.loop-turn.found.items) c.loop-turn.tokens (items c.args.depth c.args.tokens.now) c.loop-turn.invariant (item_of c.in_ok-item.item) c.item.new.tokens c.loop-turn-test.true (sym c.sees_symbol.ensures ∙ c.if-sees_symbol.false) c.in_ok-item.ensures)

pub returns : goal.returns
returns c other = many_ends at_right_brace (item c.args.depth) (c.left-turns.result + 1) c.loop-turn.turn (map item_of c.loop-turn.found.items) c.loop-turn.tokens (items c.args.depth c.args.tokens.now) c.loop-turn.invariant c.loop-turn-test.false
