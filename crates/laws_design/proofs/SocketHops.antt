-- Each socket without `pass` of the design of an accepted model is an end of a hop.
use Rattle.std.proofs.Common.{◌≡◌, None, sym, subst}
use Rattle.elaborate_objects.specs.ModelTree.Tree as tree
use Rattle.elaborate_objects.specs.FlatDesign.declared.design.Design.{Design}
use Rattle.elaborate_objects.specs.ModelRules.Passes.{first_fault}
use Rattle.elaborate_objects.specs.DesignRules.Listing.{objects_of}
use Rattle.elaborate_objects.specs.DesignRules.ObjectFaults.{cycle_fault, limit_fault}
use Rattle.elaborate_objects.specs.DesignRules.BindingFaults as binding
use Rattle.elaborate_objects.specs.DesignRules.Formed.{AreFormed}
use Rattle.elaborate_objects.specs.DesignRules.Designs.{IsDesignOf}
use Rattle.laws_design.proofs.Bindings.{are_formed}
use Rattle.laws_design.proofs.Sockets.{begins_hop, ends_hop}
use Rattle.laws_design.specs.Sockets.{SocketsHaveHops}

module _ (m : tree.Model) (clean : first_fault m ≡ None) (acyclic : cycle_fault m ≡ None) (limits : limit_fault m ≡ None) where
  pub formed : AreFormed (objects_of m)
  formed = are_formed m clean acyclic limits

  pub sockets_have_hops : (d : Design) → binding.first_fault (objects_of m) ≡ None → IsDesignOf m d → SocketsHaveHops d.objects
  sockets_have_hops d none design =
      subst SocketsHaveHops (sym design.objects) (record { initiators = begins_hop (objects_of m) formed none; targets = ends_hop (objects_of m) formed none })
