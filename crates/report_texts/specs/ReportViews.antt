-- What a show and the end of a session tell, in terms of a kernel.
use Rattle.std.specs.Prelude.{ℕ, List, [], ◌∷◌, ◌++◌, codes, slice_get, Option, Some, None}
use Rattle.std.specs.List.{flat_map}
use Rattle.kernel_state.specs.LogicValues.declared.kinds.Value.{Value}
use Rattle.kernel_state.specs.LogicValues.ValueText.{text_of}
use Rattle.flat_design.specs.declared.design.Visible.{Visible}
use Rattle.flat_design.specs.declared.design.VisibleId.{VisibleId}
use Rattle.flat_design.specs.declared.design.VisibleId.TheVariants as visible_id
use Rattle.kernel_state.specs.SimModel.Configuration.{Config, Channels, line, path_of, with_told}
use Rattle.kernel_state.specs.SimModel.Reading.{signal_value, resolved_value}
use Rattle.kernel_state.specs.SimModel.Steps.{show_line}
use Rattle.kernel_state.specs.SimModel.Texts.{end_line}
use Rattle.kernel_state.specs.SimModel.declared.plain.Stop.{Stop}
use Rattle.kernel_state.specs.declared.kernel.Kernel.{Kernel}

-- a line is told, where there is one
abbrev pub with_line : Config → Option (List ℕ) → Config
with_line c None = c
with_line c (Some text) = with_told c (line text)

-- the value of an object that has values to be seen
abbrev pub value_in : Channels → VisibleId → Value
value_in x (visible_id.Signal n) = signal_value (slice_get x.signals n)
value_in x (visible_id.Resolved n) = resolved_value (slice_get x.resolved n)

-- the line of a show
abbrev pub line_for : Kernel → Option Visible → Option (List ℕ)
line_for k None = None
line_for k (Some v) = Some (show_line k.cycle.now.0 (path_of k.design v.object) (value_in k.channels v.id))

-- the final lines of these objects
abbrev pub final_of : Kernel → Visible → List ℕ
final_of k v = codes "final " ++ path_of k.design v.object ++ codes " " ++ text_of (value_in k.channels v.id) ++ 10 ∷ []

abbrev pub finals_of : Kernel → List Visible → List ℕ
finals_of k vs = flat_map (final_of k) vs

-- what follows the lines of the run
abbrev pub closing_of : Kernel → Stop → List ℕ
closing_of k s = finals_of k k.design.visible ++ end_line k.design k.cycle.now.0 s
