use Rattle.std.proofs.Common.{◌+◌, map, sym, ◌∙◌, ap}
use Rattle.std.proofs.lemmas.List.{map-append}
use Rattle.std.proofs.lemmas.Result.{err_from_is_err_and}
use Rattle.model_tree.specs.Views.{expression_of}
use Rattle.parse_expressions.proofs.Many.{many_stops, many_goes, many_fails, many_ends}
use Rattle.parse_actions.specs.ChannelParse.{next_inside, at_no_comma, more_inside}
use Rattle.parse_actions.proofs.parts.more_inside.Goals as goal

pub returns-then-at_no_comma : goal.returns-then-at_no_comma
returns-then-at_no_comma c = many_stops at_no_comma (next_inside c.args.depth) (c.left-turns.result + 1) c.loop-turn.turn (map expression_of c.loop-turn.found.items) c.loop-turn.tokens (more_inside c.args.depth (map expression_of c.args.first.items) c.args.tokens.now) c.loop-turn.invariant c.loop-turn-test.true (sym c.at_no_comma.ensures ∙ c.if-at_no_comma.true)

pub returns-in_err-expression : goal.returns-in_err-expression
returns-in_err-expression c =
    let p = err_from_is_err_and c.from_residual.result c.from_residual.ensures.1 in
    rw (p.1, p.2) (λ other. many_fails at_no_comma (next_inside c.args.depth) (c.left-turns.result + 1) c.loop-turn.turn (map expression_of c.loop-turn.found.items) c.loop-turn.tokens (more_inside c.args.depth (map expression_of c.args.first.items) c.args.tokens.now) c.loop-turn.invariant c.loop-turn-test.true (sym c.at_no_comma.ensures ∙ c.if-at_no_comma.false) (c.in_err-expression.ensures other))

pub loop-turn-preserved : goal.loop-turn-preserved
loop-turn-preserved c =
    rw (ap (map expression_of) c.in_ok-push.ensures.ok, map-append expression_of)
    (many_goes at_no_comma (next_inside c.args.depth) (c.left-turns.result + 1) c.loop-turn.turn (map expression_of c.loop-turn.found.items) c.loop-turn.tokens (more_inside c.args.depth (map expression_of c.args.first.items) c.args.tokens.now) c.loop-turn.invariant (expression_of c.in_ok-expression.expression) c.next_inside.new.tokens c.loop-turn-test.true (sym c.at_no_comma.ensures ∙ c.if-at_no_comma.false) c.in_ok-expression.ensures)

pub returns : goal.returns
returns c other = many_ends at_no_comma (next_inside c.args.depth) (c.left-turns.result + 1) c.loop-turn.turn (map expression_of c.loop-turn.found.items) c.loop-turn.tokens (more_inside c.args.depth (map expression_of c.args.first.items) c.args.tokens.now) c.loop-turn.invariant c.loop-turn-test.false
