-- A configuration of a run in which each process keeps to itself: the processes are those of the design, each does its own, nobody waits
-- for another one, nobody is controlled by another one, and nobody asked to stop.
use Rattle.std.specs.Prelude.{◌≡◌, ◌⊎◌, ◌<◌, ⊤, ℕ, false, List, [], ◌∷◌, length, slice_get, Option, Some, None}
use Rattle.sim_model.specs.EventCore.declared.event.Ev.{Ev}
use Rattle.sim_model.specs.EventCore.declared.event.Ev.TheVariants as ev
use Rattle.sim_model.specs.FlatDesign.Typed.{EachOf}
use Rattle.sim_model.specs.FlatDesign.declared.design.ProcessPart.{ProcessPart}
use Rattle.sim_model.specs.FlatDesign.declared.design.Design.{Design}
use Rattle.sim_model.specs.Residual.{skip}
use Rattle.sim_model.specs.Configuration.{Config, Instance, Wait, waits_for_nothing, waits_statically, waits_for_any, waits_for_all, no_deadline, Trigger, first_instance}
use Rattle.sim_model.specs.declared.plain.Phase.TheVariants as phase
use Rattle.laws_order.specs.Own.{IsLeftOf}

-- an event of an object of the design: neither the end nor the reset of a process
abbrev pub IsFixed : Ev → Type 0
IsFixed (ev.Fixed e) = ⊤
IsFixed (ev.Terminated p) = ⊥
IsFixed (ev.Restarted p) = ⊥

-- whoever waits so hears such events alone, where its static sensitivity has no others
abbrev pub HearsFixed : Wait → Type 0
HearsFixed waits_for_nothing = ⊤
HearsFixed waits_statically = ⊤
HearsFixed (waits_for_any es) = EachOf IsFixed es
HearsFixed (waits_for_all es) = EachOf IsFixed es

abbrev pub TriggersFixed : Option Trigger → Type 0
TriggersFixed None = ⊤
TriggersFixed (Some t) = HearsFixed t.wait

-- an instance without what changes of it in a run
abbrev pub at_first : Instance → Instance
at_first i = record i {
  residual = skip;
  started = false;
  wait = waits_statically;
  deadline = no_deadline;
  trigger = None;
  suspended = false;
  kept = false;
  disabled = false;
  ended = false;
}

-- it is the process of the design that has its number: in its instance of a module, with its body and its static sensitivity
pub record IsProcessOf (d : Design) (p : ℕ) (i : Instance) : Type 0 where
  pub part : ProcessPart
  pub found : slice_get d.processes p ≡ Some part
  pub same : at_first i ≡ first_instance d part

-- and it keeps to itself: what is left of its body is its own; it waits, and will wait after its return, for no end and no reset of a
-- process; and nobody suspended or disabled it
pub record KeepsToItself (d : Design) (p : ℕ) (i : Instance) : Type 0 where
  pub process : IsProcessOf d p i
  pub left : IsLeftOf d p i.residual
  pub wait : HearsFixed i.wait
  pub trigger : TriggersFixed i.trigger
  pub suspended : i.suspended ≡ false
  pub disabled : i.disabled ≡ false

-- there are as many instances as processes of the design, and each keeps to itself
pub record AreOnTheirOwn (d : Design) (is : List Instance) : Type 0 where
  pub counted : length is ≡ length d.processes
  pub each : (p : ℕ) (i : Instance) → slice_get is p ≡ Some i → KeepsToItself d p i

-- nobody is on the stack, or one process of the design alone
abbrev pub HasOneAtMost : Design → List ℕ → Type 0
HasOneAtMost d stack = (stack ≡ []) ⊎ ((p : ℕ) × (stack ≡ p ∷ []) × (p < length d.processes))

pub record Fits (d : Design) (c : Config) : Type 0 where
  pub design : c.design ≡ d
  pub processes : AreOnTheirOwn d c.processes.instances
  pub stack : HasOneAtMost d c.processes.stack
  -- somebody is on the stack in an evaluation phase alone
  pub evaluates : (c.cycle.phase ≡ phase.Evaluate) ⊎ (c.processes.stack ≡ [])
  pub not_stopped : c.cycle.stopped ≡ false
  pub not_asked : c.cycle.stop_asked ≡ false
