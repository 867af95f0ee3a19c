use Rattle.std.proofs.Common.{◌+◌, sym, ◌∙◌}
use Rattle.std.proofs.lemmas.Result.{err_from_is_err_and}
use Rattle.parse_statements.proofs.ParseExpressions.Many.{many_stops, many_goes, many_fails, many_ends}
use Rattle.parse_statements.specs.ParseActions.ChannelParse.{at_no_comma}
use Rattle.model_parser.specs.Bodies.{next_parameter, more_parameters}
use Rattle.model_parser.proofs.bodies.more_parameters.Goals as goal

pub returns-then-at_no_comma : goal.returns-then-at_no_comma
returns-then-at_no_comma c = many_stops at_no_comma next_parameter (c.left-turns.result + 1) c.loop-turn.turn c.loop-turn.found.items c.loop-turn.tokens (more_parameters c.args.first.items c.args.tokens.now) c.loop-turn.invariant c.loop-turn-test.true (sym c.at_no_comma.ensures ∙ c.if-at_no_comma.true)

pub returns-in_err-parameter : goal.returns-in_err-parameter
returns-in_err-parameter c =
    let p = err_from_is_err_and c.from_residual.result c.from_residual.ensures.1 in
    rw (p.1, p.2) (λ other. many_fails at_no_comma next_parameter (c.left-turns.result + 1) c.loop-turn.turn c.loop-turn.found.items c.loop-turn.tokens (more_parameters c.args.first.items c.args.tokens.now) c.loop-turn.invariant c.loop-turn-test.true (sym c.at_no_comma.ensures ∙ c.if-at_no_comma.false) (c.in_err-parameter.ensures other))

pub loop-turn-preserved : goal.loop-turn-preserved
loop-turn-preserved c =
    rw c.in_ok-push.ensures.ok
    (many_goes at_no_comma next_parameter (c.left-turns.result + 1) c.loop-turn.turn c.loop-turn.found.items c.loop-turn.tokens (more_parameters c.args.first.items c.args.tokens.now) c.loop-turn.invariant c.in_ok-parameter.parameter c.next_parameter.new.tokens c.loop-turn-test.true (sym c.at_no_comma.ensures ∙ c.if-at_no_comma.false) c.in_ok-parameter.ensures)

pub returns : goal.returns
returns c other = many_ends at_no_comma next_parameter (c.left-turns.result + 1) c.loop-turn.turn c.loop-turn.found.items c.loop-turn.tokens (more_parameters c.args.first.items c.args.tokens.now) c.loop-turn.invariant c.loop-turn-test.false
