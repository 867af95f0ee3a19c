use Rattle.std.proofs.Common.{◌≡◌, ◌-◌, map}
use Rattle.model_tree.specs.Views.{expression_of}
use Rattle.parse_expressions.specs.Parse.{repeat, one_more}
use Rattle.parse_actions.specs.ChannelParse.{next_inside, at_no_comma, more_inside}
use Rattle.parse_actions.proofs.parts.more_inside.Given as goal

-- the turns that are left, behind the expressions found so far, give what all of them give
abbrev pub invariant-loop-turn : goal.invariant-loop-turn
invariant-loop-turn l = repeat at_no_comma (one_more (next_inside l.fn.depth)) (l.turns - l.turn) (map expression_of l.found.items) l.tokens ≡ more_inside l.fn.depth (map expression_of l.fn.first.items) l.fn.tokens
