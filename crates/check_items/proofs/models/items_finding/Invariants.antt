use Rattle.std.proofs.Common.{◌≡◌, map, drop}
use Rattle.std.specs.Option.{option_or}
use Rattle.model_tree.specs.Views.{item_of, modules_of}
use Rattle.check_statements.specs.CheckNames.ModuleNames.{items_of}
use Rattle.check_statements.specs.CheckExpressions.Findings.{faults_of}
use Rattle.check_items.specs.Whole.{items_fault}
use Rattle.check_items.proofs.models.items_finding.Given as goal

abbrev pub invariant-loop-item : goal.invariant-loop-item
invariant-loop-item l =
    items_fault (modules_of l.model) (items_of l.names) (map item_of l.items) ≡ option_or (faults_of l.found) (items_fault (modules_of l.model) (items_of l.names) (map item_of (drop l.item-index l.items)))
