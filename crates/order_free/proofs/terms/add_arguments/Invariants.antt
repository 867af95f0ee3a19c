use Rattle.std.proofs.Common.{◌≡◌, ◌++◌, map, take}
use Rattle.std.specs.List.{flat_map}
use Rattle.flat_design.specs.Code.{argument_term}
use Rattle.order_free.specs.Uses.{deeds_of_argument}
use Rattle.order_free.proofs.terms.add_arguments.Given as goal

abbrev pub invariant-loop-argument : goal.invariant-loop-argument
invariant-loop-argument l = l.deeds.items ≡ l.fn.deeds.items ++ flat_map deeds_of_argument (map argument_term (take l.argument-index l.arguments))
