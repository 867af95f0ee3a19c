use Rattle.std.proofs.Common.{subst, sym}
use Rattle.model_tree.specs.WholeTree.{model_of}
use Rattle.binding.specs.DesignRules.ObjectFaults.{cycle_fault, limit_fault}
use Rattle.binding.specs.DesignRules.Formed.{AreFormed}
use Rattle.elaborate.proofs.Faults.{first_none, second_none}
use Rattle.elaborate.proofs.bound.bound_objects.Goals as goal

pub bind-requires : goal.bind-requires
bind-requires c =
    let m = model_of c.args.tree.now in
    let none = c.in-Ok.ensures.accepted in
    subst AreFormed (sym c.in-Ok.ensures.objects)
    (c.models_are_formed.ensures m c.requires.rules (first_none (cycle_fault m) (limit_fault m) none) (second_none (cycle_fault m) (limit_fault m) none))
