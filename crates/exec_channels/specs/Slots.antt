-- Where a statement puts a result.
use Rattle.std.specs.Prelude.{ℕ, Option, Some, None}
use Rattle.kernel_view.specs.LogicValues.declared.kinds.Value.{Value}
use Rattle.flat_design.specs.declared.value_types.ValueType.{ValueType}
use Rattle.flat_design.specs.declared.names.NameUse.{NameUse}
use Rattle.flat_design.specs.declared.names.NameUse.TheVariants as name_use
use Rattle.flat_design.specs.declared.code.Store.{Store as Target}
use Rattle.flat_design.specs.declared.design.Denoted.{Denoted}
use Rattle.flat_design.specs.declared.design.Denoted.TheVariants as denoted
use Rattle.kernel_view.specs.SimModel.Values.{cut_to}
use Rattle.kernel_view.specs.SimModel.Configuration.{Config}
use Rattle.kernel_view.specs.SimModel.Reading.{Here, denotes}
use Rattle.kernel_view.specs.SimModel.Storing.{set_local, set_variable}
use Rattle.exec_channels.specs.declared.slots.Slot.{Slot}
use Rattle.exec_channels.specs.declared.slots.Slot.TheVariants as slot

-- the slot of what a declared name stands for: only a variable has one
abbrev pub slot_of : Denoted → ValueType → Slot
slot_of denoted.Nothing t = slot.Nowhere
slot_of (denoted.Channel ch) t = slot.Nowhere
slot_of (denoted.Event e) t = slot.Nowhere
slot_of (denoted.Keeper k) t = slot.Nowhere
slot_of (denoted.Memory m) t = slot.Nowhere
slot_of (denoted.Variable n) t = slot.Variable n t
slot_of (denoted.Port n) t = slot.Nowhere
slot_of (denoted.Process p) t = slot.Nowhere
slot_of (denoted.Socket hop forward) t = slot.Nowhere

-- that of a variable, and of one that is written or not
abbrev pub slot_named : Here → NameUse → ValueType → Slot
slot_named h (name_use.Local n) t = slot.Local n t
slot_named h (name_use.Declared n) t = slot_of (denotes h n) t

abbrev pub slot_here : Here → Option Target → Slot
slot_here h None = slot.Nowhere
slot_here h (Some x) = slot_named h x.name x.value_type

-- a result goes into its slot, cut to the type of that
abbrev pub kept_in : Config → ℕ → Slot → Value → Config
kept_in c p slot.Nowhere v = c
kept_in c p (slot.Local n t) v = set_local c p n (cut_to t v)
kept_in c p (slot.Variable n t) v = set_variable c n (cut_to t v)
