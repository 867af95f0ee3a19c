use Rattle.std.proofs.Common.{◌≡◌, ◌-◌}
use Rattle.parse_statements.specs.ParseExpressions.Parse.{repeat, one_more}
use Rattle.parse_statements.specs.ParseActions.ChannelParse.{at_no_comma}
use Rattle.model_parser.specs.Bodies.{next_parameter, more_parameters}
use Rattle.model_parser.proofs.bodies.more_parameters.Given as goal

-- the turns that are left, behind the parameters found so far, give what all of them give
abbrev pub invariant-loop-turn : goal.invariant-loop-turn
invariant-loop-turn l = repeat at_no_comma (one_more next_parameter) (l.turns - l.turn) l.found.items l.tokens ≡ more_parameters l.fn.first.items l.fn.tokens
