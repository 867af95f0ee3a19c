-- A configuration in which everything has its type.
use Rattle.std.specs.Prelude.{◌≡◌, ◌≤◌, ⊤, ℕ, slice_get, Option, Some, None}
use Rattle.sim_model.specs.LogicValues.declared.kinds.Value.{Value}
use Rattle.sim_model.specs.FlatDesign.Code.{body_at}
use Rattle.sim_model.specs.FlatDesign.Typed.{EachOf}
use Rattle.sim_model.specs.FlatDesign.declared.value_types.ValueType.{ValueType}
use Rattle.sim_model.specs.FlatDesign.declared.value_types.ValueType.TheVariants as type
use Rattle.sim_model.specs.FlatDesign.declared.code.Local.{Local}
use Rattle.sim_model.specs.FlatDesign.declared.code.CodeBody.{CodeBody}
use Rattle.sim_model.specs.FlatDesign.declared.design.SignalPart.{SignalPart}
use Rattle.sim_model.specs.FlatDesign.declared.design.Visible.{Visible}
use Rattle.sim_model.specs.FlatDesign.declared.design.VisibleId.{VisibleId}
use Rattle.sim_model.specs.FlatDesign.declared.design.VisibleId.TheVariants as visible_id
use Rattle.sim_model.specs.FlatDesign.declared.design.Design.{Design}
use Rattle.sim_model.specs.Configuration.{Config}
use Rattle.sim_model.specs.declared.plain.Command.{Command}
use Rattle.sim_model.specs.declared.plain.Command.TheVariants as command
use Rattle.laws_runs.specs.Standing.{code_of}
use Rattle.laws_runs.specs.Contents.{IsOf, ContentsFit}
use Rattle.laws_runs.specs.Frames.{InstanceFits}

-- ---- the script fits the design: what it sets gets values of its type

abbrev pub FitsVisible : Design → Value → VisibleId → Type 0
FitsVisible d v (visible_id.Signal n) = (p : SignalPart) → slice_get d.signals n ≡ Some p → IsOf p.value_type v
FitsVisible d v (visible_id.Resolved n) = ⊤

abbrev pub FitsObject : Design → Value → Option Visible → Type 0
FitsObject d v None = ⊤
FitsObject d v (Some x) = FitsVisible d v x.id

abbrev pub CommandFits : Design → Command → Type 0
CommandFits d (command.Run t) = ⊤
CommandFits d (command.Set i v) = FitsObject d v (slice_get d.visible i)
CommandFits d (command.Show i) = ⊤

-- ---- types that have values: a vector has from 1 to 64 digits

abbrev pub HasValues : ValueType → Type 0
HasValues type.Bool = ⊤
HasValues (type.Int width) = ⊤
HasValues (type.Uint width) = ⊤
HasValues type.Logic = ⊤
HasValues (type.Vector width) = (1 ≤ width) × (width ≤ 64)
HasValues type.Time = ⊤
HasValues type.Process = ⊤
HasValues type.Payload = ⊤

abbrev pub AnswerHasValues : Option ValueType → Type 0
AnswerHasValues None = ⊤
AnswerHasValues (Some t) = HasValues t

-- the types of the parameters, of the local variables and of the answer of a body
pub record BodyHasValues (b : CodeBody) : Type 0 where
  pub locals : EachOf (λ (l : Local). HasValues l.value_type) b.locals
  pub answer : AnswerHasValues b.answer

-- each type that a body declares has values
pub record TypesHaveValues (d : Design) : Type 0 where
  pub bodies : (f : ℕ) (b : CodeBody) → body_at (code_of d) f ≡ Some b → BodyHasValues b

-- ---- a typed configuration

pub record IsTypedConfig (c : Config) : Type 0 where
  -- variables of modules, bytes of memories, signals with what is written to them, fifo entries and the bytes of payloads
  pub contents : ContentsFit c
  -- of each instance its first arguments, and of each call that is open in it parameters, local variables and the answer
  pub instances : EachOf (InstanceFits c.design) c.processes.instances
  -- what the script has yet to set
  pub script : EachOf (CommandFits c.design) c.script
