-- That a design is the one of a model: its objects, each kind of them in object order, what names stand for, and its code.
use Rattle.std.specs.Prelude.{◌≡◌}
use Rattle.code_rules.specs.ModelTree.Tree as tree
use Rattle.code_rules.specs.FlatDesign.declared.design.Design.{Design}
use Rattle.design_rules.specs.Listing.{objects_of}
use Rattle.code_rules.specs.Bodies.{exceptions_of, IsCodeOf}
use Rattle.design_rules.specs.Counting.{totals}
use Rattle.design_rules.specs.Parts.{instances_of, signals_of, resolved_of, fifos_of, semaphores_of, memories_of, variables_of, ports_of, hops_of, visible_of}
use Rattle.design_rules.specs.Statics.{static_lists, processes_of}

pub record IsDesignOf (m : tree.Model) (d : Design) : Type 0 where
  pub objects : d.objects ≡ objects_of m
  pub instances : d.instances ≡ instances_of m.modules d.objects
  pub signals : d.signals ≡ signals_of d.objects.list
  pub resolved : d.resolved ≡ resolved_of d.objects.list
  pub fifos : d.fifos ≡ fifos_of d.objects.list
  pub mutexes : d.mutexes ≡ (totals d.objects.list).mutexes
  pub semaphores : d.semaphores ≡ semaphores_of d.objects.list
  pub keepers : d.keepers ≡ (totals d.objects.list).keepers
  pub memories : d.memories ≡ memories_of d.objects.list
  pub variables : d.variables ≡ variables_of d.objects.list
  pub ports : d.ports ≡ ports_of d.objects
  pub processes : d.processes ≡ processes_of (static_lists m.modules) d.ports d.instances d.objects.list
  pub hops : d.hops ≡ hops_of d.objects
  pub events : d.events ≡ (totals d.objects.list).events
  pub visible : d.visible ≡ visible_of d.objects.list
  pub exceptions : d.exceptions ≡ exceptions_of m
  pub code : IsCodeOf m d.code
