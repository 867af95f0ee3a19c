use Rattle.std.proofs.Common.{◌≡◌, ◌-◌, map}
use Rattle.model_tree.specs.Views.{item_of}
use Rattle.parse_statements.specs.ParseExpressions.Parse.{repeat, one_more}
use Rattle.parse_statements.specs.Parse.{at_right_brace}
use Rattle.model_parser.specs.Bodies.{item, items}
use Rattle.model_parser.proofs.module_items.items.Given as goal

-- the turns that are left, behind the items found so far, give what all of them give
abbrev pub invariant-loop-turn : goal.invariant-loop-turn
invariant-loop-turn l = repeat at_right_brace (one_more (item l.fn.depth)) (l.turns - l.turn) (map item_of l.found.items) l.tokens ≡ items l.fn.depth l.fn.tokens
