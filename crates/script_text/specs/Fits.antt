-- Commands that fit a design: they name its objects that have values to be seen, and set a signal or a buffer to values of its type.
use Rattle.std.specs.Prelude.{◌≡◌, ℕ, ◌<◌, length, slice_get, Some, option_and_then, ⊤}
use Rattle.sim_model.specs.LogicValues.declared.kinds.Value.{Value}
use Rattle.sim_model.specs.FlatDesign.ValueTypes.{type_of_value}
use Rattle.sim_model.specs.FlatDesign.declared.design.Design.{Design}
use Rattle.sim_model.specs.declared.plain.Command.{Command}
use Rattle.sim_model.specs.declared.plain.Command.TheVariants as command
use Rattle.script_text.specs.NamedScript.{set_type}

-- the value is of the type of what may be set at a place
abbrev pub IsOfTypeAt : Design → ℕ → Value → Type 0
IsOfTypeAt d i v = option_and_then (set_type d) (slice_get d.visible i) ≡ Some (type_of_value v)

-- the command fits this design
abbrev pub Fits : Design → Command → Type 0
Fits d (command.Run time) = ⊤
Fits d (command.Set i v) = (i < length d.visible) × IsOfTypeAt d i v
Fits d (command.Show i) = i < length d.visible
