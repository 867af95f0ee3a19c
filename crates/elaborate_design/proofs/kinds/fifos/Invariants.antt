use Rattle.std.proofs.Common.{◌≡◌, ◌++◌, drop}
use Rattle.elaborate_objects.specs.FlatDesign.declared.objects.Object.{Object}
use Rattle.elaborate_objects.specs.DesignRules.Counting.{along}
use Rattle.elaborate_objects.specs.DesignRules.Parts.{fifo_by, fifos_of}
use Rattle.elaborate_design.proofs.kinds.fifos.Given as goal

abbrev pub invariant-loop-object : goal.invariant-loop-object
invariant-loop-object l = l.found ++ along (λ n (o : Object). fifo_by n o.form) l.n (drop l.object-index l.objects) ≡ fifos_of l.objects
