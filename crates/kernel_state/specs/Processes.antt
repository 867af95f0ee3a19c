-- What a schedule stands for: the processes of a configuration.
use Rattle.std.specs.Prelude.{◌≡◌, ℕ, Bool, true, false, List, length, reverse, slice_get, Option, Some, None}
use Rattle.std.specs.FinSet as set
use Rattle.kernel_processes.specs.LogicValues.declared.kinds.Value.{Value}
use Rattle.kernel_processes.specs.SimModel.Residual.{Residual}
use Rattle.kernel_processes.specs.SimModel.Configuration.{Trigger, Instance, Processes, waits_for_nothing, no_deadline}
use Rattle.kernel_processes.specs.SimModel.Waits.{holds}
use Rattle.kernel_processes.specs.InstanceViews.{bare, shown_at, body_at}
use Rattle.kernel_processes.specs.declared.parts.Schedule.{Schedule}

-- what a schedule does not know of an instance: where it is, its path, its code and first arguments, what is left of its body, and
-- its next trigger
pub record Beside : Type 0 where
  pub home : ℕ
  pub path : List ℕ
  pub code : ℕ
  pub arguments : List Value
  pub residual : Residual
  pub trigger : Option Trigger

abbrev pub beside : Instance → Beside
beside i = record { home = i.home; path = i.path; code = i.code; arguments = i.arguments; residual = i.residual; trigger = i.trigger }

-- it waits for nothing, no time ends a wait of it, and it is not kept until it is resumed
abbrev pub Rests : Instance → Type 0
Rests i = (i.wait ≡ waits_for_nothing) × (i.deadline ≡ no_deadline) × (i.kept ≡ false)

-- this is shown by what is kept for it beside the schedule
module _ {B : Type 0} (Shows : B → Beside → Type 0) where
  -- of an instance that has not ended
  pub record IsLive (o : Option Instance) (b : Option B) (i : Instance) : Type 0 where
    pub shown : o ≡ Some (bare i)
    pub kept : (body : B) × ((b ≡ Some body) × Shows body (beside i))

  -- of an instance that has ended nothing is kept, and it has no wait, no deadline and no mark that it is kept
  abbrev pub TellsBy : Bool → Option Instance → Option B → Instance → Type 0
  TellsBy true o b i = (o ≡ None) × Rests i
  TellsBy false o b i = IsLive o b i

  abbrev pub Tells : Option Instance → Option B → Option Instance → Type 0
  Tells o b None = o ≡ None
  Tells o b (Some i) = TellsBy i.ended o b i

  -- the stack has its top last
  pub record StandsForProcesses (s : Schedule B) (x : Processes) : Type 0 where
    pub each : (q : ℕ) → Tells (shown_at s q) (body_at s q) (slice_get x.instances q)
    pub ready : (q : ℕ) → set.contains s.ready.members q ≡ holds x.runnable q
    pub stack : x.stack ≡ reverse s.stack.items
    pub next : s.table.next ≡ length x.instances
