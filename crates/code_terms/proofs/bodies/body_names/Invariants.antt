use Rattle.std.proofs.Common.{◌≡◌, ◌++◌, drop}
use Rattle.check_expressions.specs.CheckNames.ModuleNames.{items_of}
use Rattle.code_terms.specs.Names.{body_names}
use Rattle.code_terms.proofs.bodies.body_names.Given as goal

abbrev pub invariant-loop-item : goal.invariant-loop-item
invariant-loop-item l = l.names ++ body_names (items_of (drop l.item-index l.items)) ≡ body_names (items_of l.items)
