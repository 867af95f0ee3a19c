-- What a design has whose code is that of a checked tree, and what a model has that is accepted.
use Rattle.std.proofs.Common.{◌≡◌, ℕ, Bool, true, Option, Some, None, refl, sym, ◌∙◌, subst}
use Rattle.std.specs.Option.{option_or}
use Rattle.model_tree.specs.Tree as tree
use Rattle.model_tree.specs.Limits.{is_sound}
use Rattle.flat_design.specs.Code.{Statement, arena_of}
use Rattle.flat_design.specs.Reach.{IsIn}
use Rattle.flat_design.specs.declared.code.Code.{Code}
use Rattle.flat_design.specs.declared.design.Design.{Design}
use Rattle.model_tree.specs.SimTime.declared.moments.Resolution.{Resolution}
use Rattle.model_check.specs.ModelRules.Passes.{first_fault}
use Rattle.binding.specs.DesignRules.Listing.{objects_of}
use Rattle.binding.specs.DesignRules.ObjectFaults.{cycle_fault, instances_fault, limit_fault}
use Rattle.binding.specs.DesignRules.BindingFaults as binding
use Rattle.binding.specs.DesignRules.Designs.{IsDesignOf}
use Rattle.model_check.specs.CodeRules.Rooms.{HasRooms, IsNested}
use Rattle.laws_design.specs.LawsCode.Bodies.{StatementsStand}
use Rattle.model_check.specs.Parts.{AllStand}
use Rattle.model_check.specs.LawsCode.OwnBlocks.{HaveOwnBlocks}
use Rattle.elaborate.specs.Elaborated.{elaboration_fault}
use Rattle.laws_design.specs.Accepted.{IsAccepted, IsLaidOut}

first_none : {T : Type 0} (o p : Option T) → option_or o p ≡ None → o ≡ None
first_none None p h = refl
first_none (Some x) p h = cc

second_none : {T : Type 0} (o p : Option T) → option_or o p ≡ None → p ≡ None
second_none None p h = h
second_none (Some x) p h = cc

pub accepted : (m : tree.Model) → first_fault m ≡ None → elaboration_fault m ≡ None → is_sound m ≡ true → IsAccepted m
accepted m rules whole limits =
    let instances = first_none (instances_fault m) (binding.first_fault (objects_of m)) whole in
    record {
      rules = rules;
      acyclic = first_none (cycle_fault m) (limit_fault m) instances;
      few = second_none (cycle_fault m) (limit_fault m) instances;
      bindings = second_none (instances_fault m) (binding.first_fault (objects_of m)) whole;
      within_limits = limits;
    }

all_standing : (d : Design) → AllStand d.code → StatementsStand d
all_standing d all = λ b s is.
    let there = all b s is in
    record { function = there.function; body = there.body; found = there.found; stands = there.stands }

pub laid_out : (d : Design) (c : Code) → d.code ≡ c → IsNested (arena_of c) → AllStand c → HasRooms (arena_of c) → IsLaidOut d
laid_out d c same nested stand rooms = record {
  nested = subst (λ (x : Code). IsNested (arena_of x)) (sym same) nested;
  standing = all_standing d (subst AllStand (sym same) stand);
  rooms = subst (λ (x : Code). HasRooms (arena_of x)) (sym same) rooms;
}

pub apart_still : (c d : Code) → d ≡ c → HaveOwnBlocks c → HaveOwnBlocks d
apart_still c d same apart = subst HaveOwnBlocks (sym same) apart

-- the design of a model is that at any resolution
pub at_resolution : (m : tree.Model) (d : Design) (r : Resolution) → IsDesignOf m d → IsDesignOf m (record d { resolution = r })
at_resolution m d r is = record {
  objects = is.objects;
  instances = is.instances;
  signals = is.signals;
  resolved = is.resolved;
  fifos = is.fifos;
  mutexes = is.mutexes;
  semaphores = is.semaphores;
  keepers = is.keepers;
  memories = is.memories;
  variables = is.variables;
  ports = is.ports;
  processes = is.processes;
  hops = is.hops;
  events = is.events;
  visible = is.visible;
  exceptions = is.exceptions;
  code = is.code;
}
