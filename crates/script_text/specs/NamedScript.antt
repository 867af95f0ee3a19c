-- What the commands of a script name in a design, or the first of them that cannot be carried out.
use Rattle.std.specs.Prelude.{ℕ, Bool, true, false, ◌&&◌, is_some, List, [], ◌∷◌, slice_get, position, bytes_eq, codes, Option, Some, None, option_map, option_and_then, Result, Ok, Err}
use Rattle.sim_model.specs.LogicValues.declared.kinds.Value.{Value}
use Rattle.sim_model.specs.SimTime.Times.{ticks_of}
use Rattle.sim_model.specs.SimTime.declared.moments.Time.{Time}
use Rattle.sim_model.specs.SimTime.declared.moments.UnitStop.{UnitStop}
use Rattle.text_lines.specs.ModelTree.declared.faults.Fault.{Fault}
use Rattle.text_lines.specs.ModelTree.declared.faults.Kind.{Kind}
use Rattle.text_lines.specs.ModelTree.declared.faults.Kind.TheVariants as kind
use Rattle.sim_model.specs.FlatDesign.declared.objects.Object.{Object}
use Rattle.sim_model.specs.FlatDesign.declared.objects.ObjectForm.{ObjectForm}
use Rattle.sim_model.specs.FlatDesign.declared.objects.ObjectForm.TheVariants as object
use Rattle.sim_model.specs.FlatDesign.declared.value_types.ValueType.{ValueType}
use Rattle.sim_model.specs.FlatDesign.declared.design.Design.{Design}
use Rattle.sim_model.specs.FlatDesign.declared.design.SignalPart.{SignalPart}
use Rattle.sim_model.specs.FlatDesign.declared.design.Visible.{Visible}
use Rattle.sim_model.specs.FlatDesign.declared.design.VisibleId.{VisibleId}
use Rattle.sim_model.specs.FlatDesign.declared.design.VisibleId.TheVariants as visible_id
use Rattle.sim_model.specs.Configuration.{path_of}
use Rattle.sim_model.specs.declared.plain.Command.{Command}
use Rattle.sim_model.specs.declared.plain.Command.TheVariants as command
use Rattle.script_text.specs.declared.forms.CommandForm.{CommandForm}
use Rattle.script_text.specs.declared.forms.CommandForm.TheVariants as form
use Rattle.script_text.specs.declared.forms.TextCommand.{TextCommand}
use Rattle.script_text.specs.ValueTexts.{value_read}

-- whether a script may set an object that was declared so: a signal or a buffer
abbrev pub is_set_by_scripts : ObjectForm → Bool
is_set_by_scripts (object.Signal kind many value_type initial) = true
is_set_by_scripts (object.Instance m) = false
is_set_by_scripts object.Resolved = false
is_set_by_scripts (object.Clock period high start code) = false
is_set_by_scripts (object.Fifo value_type size) = false
is_set_by_scripts object.Mutex = false
is_set_by_scripts object.Event = false
is_set_by_scripts object.Keeper = false
is_set_by_scripts (object.Semaphore start) = false
is_set_by_scripts (object.Memory size) = false
is_set_by_scripts (object.Variable value_type initial) = false
is_set_by_scripts (object.Port leads_to size rule) = false
is_set_by_scripts (object.Export leads_to) = false
is_set_by_scripts (object.Initiator pass backward) = false
is_set_by_scripts (object.Target pass blocking forward) = false
is_set_by_scripts (object.Process kind code dont_initialize) = false

abbrev pub is_declared_set : Option Object → Bool
is_declared_set None = false
is_declared_set (Some o) = is_set_by_scripts o.form

-- the type of a signal, buffer or clock
abbrev pub signal_type : Design → VisibleId → Option ValueType
signal_type d (visible_id.Signal n) = option_map (λ (s : SignalPart). s.value_type) (slice_get d.signals n)
signal_type d (visible_id.Resolved n) = None

abbrev pub type_if : Bool → Option ValueType → Option ValueType
type_if true t = t
type_if false t = None

-- the type of what a script may set: none where it may only be shown
abbrev pub set_type : Design → Visible → Option ValueType
set_type d v = type_if (is_declared_set (slice_get d.objects.list v.object)) (signal_type d v.id)

-- whether an object is the one to be shown under a path
abbrev pub is_shown_at : Design → List ℕ → Visible → Bool
is_shown_at d path v = bytes_eq (path_of d v.object) path

-- whether an object is the one to be set under a path
abbrev pub is_set_at : Design → List ℕ → Visible → Bool
is_set_at d path v = bytes_eq (path_of d v.object) path && is_some (set_type d v)

-- the value that bytes spell for what a script may set, at a place among the objects that have values to be seen
abbrev pub value_at : Design → ℕ → List ℕ → Option Value
value_at d i text = option_and_then (λ t. value_read t text) (option_and_then (set_type d) (slice_get d.visible i))

abbrev pub fault : Kind → ℕ → List ℕ → Fault
fault k line name = record { kind = k; line = line; name = name }

-- a show of the object at a place, if there is one
abbrev pub show_named : ℕ → List ℕ → Option ℕ → Result Command Fault
show_named line path None = Err (fault kind.UnknownName line path)
show_named line path (Some i) = Ok (command.Show i)

-- a set of the object at a place to a value, if there is one
abbrev pub set_valued : ℕ → List ℕ → ℕ → Option Value → Result Command Fault
set_valued line path i None = Err (fault kind.BadValue line path)
set_valued line path i (Some v) = Ok (command.Set i v)

-- a set of the object at a place, if there is one
abbrev pub set_named : Design → ℕ → List ℕ → List ℕ → Option ℕ → Result Command Fault
set_named d line path text None = Err (fault kind.UnknownName line path)
set_named d line path text (Some i) = set_valued line path i (value_at d i text)

-- a run for a number of resolutions, where it is one below 2^64; else its name is `run`
abbrev pub run_timed : ℕ → Result Time UnitStop → Result Command Fault
run_timed line (Ok t) = Ok (command.Run (Some t))
run_timed line (Err stop) = Err (fault kind.BadValue line (codes "run"))

-- what a command on a line is over a design
abbrev pub named_form : Design → ℕ → CommandForm → Result Command Fault
named_form d line (form.Run None) = Ok (command.Run None)
named_form d line (form.Run (Some (n, unit))) = run_timed line (ticks_of n unit d.resolution)
named_form d line (form.Set path text) = set_named d line path text (position (is_set_at d path) d.visible)
named_form d line (form.Show path) = show_named line path (position (is_shown_at d path) d.visible)

abbrev pub named : Design → TextCommand → Result Command Fault
named d c = named_form d c.line c.form

-- a command in front of others; the first fault decides
abbrev pub in_front : Result Command Fault → Result (List Command) Fault → Result (List Command) Fault
in_front (Err f) later = Err f
in_front (Ok k) (Err f) = Err f
in_front (Ok k) (Ok ks) = Ok (k ∷ ks)

-- the commands of a script over a design, or the fault of the first that is refused
abbrev pub name_script : Design → List TextCommand → Result (List Command) Fault
name_script d [] = Ok []
name_script d (c ∷ cs) = in_front (named d c) (name_script d cs)
