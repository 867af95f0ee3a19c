-- Models that are accepted, and what the making of a design gives its code.
use Rattle.std.specs.Prelude.{◌≡◌, true, None}
use Rattle.elaborate_objects.specs.ModelTree.Tree as tree
use Rattle.elaborate_objects.specs.ModelTree.Limits.{is_sound}
use Rattle.elaborate_objects.specs.FlatDesign.Code.{arena_of}
use Rattle.elaborate_objects.specs.FlatDesign.declared.design.Design.{Design}
use Rattle.elaborate_objects.specs.ModelRules.Passes.{first_fault}
use Rattle.elaborate_objects.specs.DesignRules.Listing.{objects_of}
use Rattle.elaborate_objects.specs.DesignRules.ObjectFaults.{cycle_fault, limit_fault}
use Rattle.elaborate_objects.specs.DesignRules.BindingFaults as binding
use Rattle.laws_code.specs.CodeRules.Rooms.{HasRooms, IsNested}
use Rattle.laws_code.specs.Bodies.{StatementsStand}

-- A model is accepted: it breaks no rule on single modules, no module has itself among its instances, its objects and the
-- bytes of its memories are not too many, no binding of its objects has a fault, and it is within the limits of a text.
pub record IsAccepted (m : tree.Model) : Type 0 where
  pub rules : first_fault m ≡ None
  pub acyclic : cycle_fault m ≡ None
  pub few : limit_fault m ≡ None
  pub bindings : binding.first_fault (objects_of m) ≡ None
  pub within_limits : is_sound m ≡ true

-- Code is laid out as it is made: inner blocks have smaller numbers, no statement stands outside the bodies, and each body
-- has the room of its waits.
pub record IsLaidOut (d : Design) : Type 0 where
  pub nested : IsNested (arena_of d.code)
  pub standing : StatementsStand d
  pub rooms : HasRooms (arena_of d.code)
