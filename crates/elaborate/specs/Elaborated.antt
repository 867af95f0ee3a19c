-- What is wrong with a model as a whole, where it breaks no rule on single modules: its instances, and else its bindings.
use Rattle.std.specs.Prelude.{Option}
use Rattle.std.specs.Option.{option_or}
use Rattle.model_tree.specs.Tree as tree
use Rattle.model_tree.specs.declared.faults.Fault.{Fault}
use Rattle.binding.specs.DesignRules.Listing.{objects_of}
use Rattle.binding.specs.DesignRules.ObjectFaults.{instances_fault}
use Rattle.binding.specs.DesignRules.BindingFaults.{first_fault}

abbrev pub elaboration_fault : tree.Model → Option Fault
elaboration_fault m = option_or (instances_fault m) (first_fault (objects_of m))
