use Rattle.std.proofs.Common.{◌≡◌, ◌++◌, drop}
use Rattle.elaborate_objects.specs.FlatDesign.declared.objects.Object.{Object}
use Rattle.elaborate_objects.specs.DesignRules.Counting.{along}
use Rattle.elaborate_objects.specs.DesignRules.Parts.{home_of}
use Rattle.elaborate_objects.specs.DesignRules.Statics.{process_by, processes_of}
use Rattle.elaborate_design.proofs.processes.processes.Given as goal

abbrev pub invariant-loop-object : goal.invariant-loop-object
invariant-loop-object l =
    l.found ++ along (λ n (o : Object). process_by l.from.lists.now l.from.ports.now l.from.instances.now n.objects (home_of l.objects o.parent) o.form) l.n (drop l.object-index l.objects)
    ≡ processes_of l.from.lists.now l.from.ports.now l.from.instances.now l.objects
