use Rattle.std.proofs.Common.{◌≡◌, ◌-◌, map}
use Rattle.model_tree.specs.Views.{module_of}
use Rattle.parse_statements.specs.ParseExpressions.Parse.{repeat, one_more}
use Rattle.model_parser.specs.Parse.{module_text, at_no_module, modules}
use Rattle.model_parser.proofs.modules.modules.Given as goal

-- the turns that are left, behind the modules found so far, give what all of them give
abbrev pub invariant-loop-turn : goal.invariant-loop-turn
invariant-loop-turn l = repeat at_no_module (one_more (module_text l.fn.depth)) (l.turns - l.turn) (map module_of l.found.items) l.tokens ≡ modules l.fn.depth l.fn.tokens
