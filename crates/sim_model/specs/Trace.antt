-- The trace: a text in the form of a value change dump (IEEE 1364-2005, 18) of what was seen of a run.
use Rattle.std.specs.Prelude.{ℕ, zero, suc, ◌+◌, ◌-◌, ◌/◌, ◌%◌, ◌^◌, ◌==◌, Bool, true, false, not, ◌&&◌, nat_lt, List, [], ◌∷◌, ◌++◌, map, reverse, length, slice_get, unwrap_or, codes, Option, Some, None, if◌then◌else◌}
use Rattle.std.specs.List.{flat_map}
use Rattle.std.specs.Fmt.{decimal}
use Rattle.signal_channel.specs.LogicValues.declared.kinds.Digit.{Digit}
use Rattle.signal_channel.specs.LogicValues.declared.kinds.Digit.TheVariants as digit
use Rattle.signal_channel.specs.LogicValues.declared.kinds.Value.{Value}
use Rattle.signal_channel.specs.LogicValues.declared.kinds.Value.TheVariants as value
use Rattle.signal_channel.specs.LogicValues.Digits.{digits}
use Rattle.signal_channel.specs.LogicValues.SameValue.{is_same}
use Rattle.flat_design.specs.SimTime.declared.moments.Resolution.{Resolution}
use Rattle.flat_design.specs.declared.design.Design.{Design}
use Rattle.flat_design.specs.declared.design.SignalPart.{SignalPart}
use Rattle.flat_design.specs.declared.design.Visible.{Visible}
use Rattle.flat_design.specs.declared.design.VisibleId.{VisibleId}
use Rattle.flat_design.specs.declared.design.VisibleId.TheVariants as visible_id
use Rattle.flat_design.specs.declared.objects.Object.{Object}
use Rattle.flat_design.specs.declared.objects.ObjectForm.{ObjectForm}
use Rattle.flat_design.specs.declared.objects.ObjectForm.TheVariants as form
use Rattle.flat_design.specs.declared.value_types.ValueType.{ValueType}
use Rattle.flat_design.specs.declared.value_types.ValueType.TheVariants as type
use Rattle.sim_model.specs.Configuration.{Config, Snapshot}
use Rattle.sim_model.specs.Phases.{with_snapshot}

-- the id of variable n: a character from `!` up to `~` for its place in its round of 94, and then the id of the round before it;
-- each id is of a lower number, so that as many characters as n and one suffice
abbrev pub id_from : ℕ → ℕ → List ℕ
id_from zero n = []
id_from (suc more) n = (33 + n % 94) ∷ (if nat_lt n 94 then [] else id_from more (n / 94 - 1))

abbrev pub id_of : ℕ → List ℕ
id_of n = id_from (suc n) n

-- values: a truth value or a logic digit is one character; any other has `b` before all its digits, the highest first

abbrev pub digit_letter : Digit → ℕ
digit_letter digit.Zero = 48
digit_letter digit.One = 49
digit_letter digit.Z = 122
digit_letter digit.X = 120

-- so many bits of a number, the highest first
abbrev pub bit_letters : ℕ → ℕ → List ℕ
bit_letters zero n = []
bit_letters (suc w) n = (48 + n / 2 ^ w % 2) ∷ bit_letters w n

abbrev pub bool_letter : Bool → ℕ
bool_letter true = 49
bool_letter false = 48

abbrev pub with_base : List ℕ → List ℕ
with_base letters = codes "b" ++ letters ++ codes " "

-- a handle is no value of a signal
abbrev pub value_letters : Value → List ℕ
value_letters (value.Bool b) = bool_letter b ∷ []
value_letters (value.Int width n) = with_base (bit_letters width n)
value_letters (value.Uint width n) = with_base (bit_letters width n)
value_letters (value.Logic d) = digit_letter d ∷ []
value_letters (value.Vector v) = with_base (map digit_letter (reverse (digits v)))
value_letters (value.Moment t) = with_base (bit_letters 64 t)
value_letters (value.Handle h) = []
value_letters (value.Pay p) = []

abbrev pub value_line : ℕ → Value → List ℕ
value_line n v = value_letters v ++ id_of n ++ 10 ∷ []

-- the header: the scopes of instances, with their variables and instances in text order

abbrev pub width_of : ValueType → ℕ
width_of type.Bool = 1
width_of (type.Int width) = width
width_of (type.Uint width) = width
width_of type.Logic = 1
width_of (type.Vector width) = width
width_of type.Time = 64
width_of type.Process = 0
width_of type.Payload = 0

abbrev pub signal_width : Option SignalPart → ℕ
signal_width None = 0
signal_width (Some s) = width_of s.value_type

abbrev pub visible_width : Design → VisibleId → ℕ
visible_width d (visible_id.Signal n) = signal_width (slice_get d.signals n)
visible_width d (visible_id.Resolved n) = 1

abbrev pub scope_line : List ℕ → List ℕ
scope_line name = codes "$scope module " ++ name ++ codes " $end" ++ 10 ∷ []

abbrev pub upscope_line : List ℕ
upscope_line = codes "$upscope $end" ++ 10 ∷ []

abbrev pub var_line : ℕ → ℕ → List ℕ → List ℕ
var_line width n name = codes "$var wire " ++ decimal width ++ codes " " ++ id_of n ++ codes " " ++ name ++ codes " $end" ++ 10 ∷ []

-- the variable of object i, where it has values to be seen; n is the number of the first of these
abbrev pub var_of : Design → ℕ → List ℕ → ℕ → List Visible → List ℕ
var_of d i name n [] = []
var_of d i name n (v ∷ vs) = if v.object == i then var_line (visible_width d v.id) n name else var_of d i name (suc n) vs

-- the objects that an instance has, by their numbers in object order; i is the number of the first of these
abbrev pub items_from : ℕ → ℕ → List Object → List ℕ
items_from at i [] = []
items_from at i (o ∷ os) = if (o.parent == at) && not (i == at) then i ∷ items_from at (suc i) os else items_from at (suc i) os

abbrev pub items_of : Design → ℕ → List ℕ
items_of d at = items_from at 0 d.objects.list

-- an instance is its own walk; of the other objects those that have values to be seen
abbrev pub form_walk : Design → ℕ → List ℕ → (ℕ → List ℕ) → ObjectForm → List ℕ
form_walk d i name walk (form.Instance m) = scope_line name ++ flat_map walk (items_of d i) ++ upscope_line
form_walk d i name walk (form.Signal kind many t v) = var_of d i name 0 d.visible
form_walk d i name walk form.Resolved = var_of d i name 0 d.visible
form_walk d i name walk (form.Clock period high start code) = var_of d i name 0 d.visible
form_walk d i name walk (form.Fifo t size) = []
form_walk d i name walk form.Mutex = []
form_walk d i name walk form.Event = []
form_walk d i name walk form.Keeper = []
form_walk d i name walk (form.Semaphore start) = []
form_walk d i name walk (form.Memory size) = []
form_walk d i name walk (form.Variable t v) = []
form_walk d i name walk (form.Port leads_to size rule) = []
form_walk d i name walk (form.Export leads_to) = []
form_walk d i name walk (form.Initiator pass backward) = []
form_walk d i name walk (form.Target pass blocking forward) = []
form_walk d i name walk (form.Process kind code dont_initialize) = []

abbrev pub object_walk : Design → ℕ → (ℕ → List ℕ) → Option Object → List ℕ
object_walk d i walk None = []
object_walk d i walk (Some o) = form_walk d i o.name walk o.form

-- what an instance has comes behind it, so that as many walks one inside another as there are objects suffice
abbrev pub walk_from : ℕ → Design → ℕ → List ℕ
walk_from zero d i = []
walk_from (suc more) d i = object_walk d i (walk_from more d) (slice_get d.objects.list i)

-- the resolution: 1, 10 or 100 of a unit
abbrev pub units : List (List ℕ)
units = codes "fs" ∷ codes "ps" ∷ codes "ns" ∷ codes "us" ∷ codes "ms" ∷ codes "s" ∷ []

abbrev pub resolution_text : Resolution → List ℕ
resolution_text r = decimal (10 ^ (r.power % 3)) ++ codes " " ++ unwrap_or (slice_get units (r.power / 3)) []

abbrev pub scale_line : Resolution → List ℕ
scale_line r = codes "$timescale " ++ resolution_text r ++ codes " $end" ++ 10 ∷ []

abbrev pub header : Design → List ℕ
header d = scale_line d.resolution ++ walk_from (length d.objects.list) d 0 ++ codes "$enddefinitions $end" ++ 10 ∷ []

-- the first snapshot has all values, and a later one those that differ from the one before; n is the number of the first

abbrev pub time_line : ℕ → List ℕ
time_line t = codes "#" ++ decimal t ++ 10 ∷ []

abbrev pub value_lines : ℕ → List Value → List ℕ
value_lines n [] = []
value_lines n (v ∷ vs) = value_line n v ++ value_lines (suc n) vs

abbrev pub first_values : Snapshot → List ℕ
first_values s = time_line s.time ++ codes "$dumpvars" ++ 10 ∷ value_lines 0 s.values ++ codes "$end" ++ 10 ∷ []

abbrev pub changed_lines : ℕ → List Value → List Value → List ℕ
changed_lines n old [] = []
changed_lines n [] (v ∷ vs) = value_line n v ++ changed_lines (suc n) [] vs
changed_lines n (u ∷ us) (v ∷ vs) = (if is_same u v then [] else value_line n v) ++ changed_lines (suc n) us vs

abbrev pub with_time : ℕ → List ℕ → List ℕ
with_time t [] = []
with_time t (b ∷ lines) = time_line t ++ b ∷ lines

abbrev pub later_values : Snapshot → Snapshot → List ℕ
later_values old new = with_time new.time (changed_lines 0 old.values new.values)

abbrev pub each_later : Snapshot → List Snapshot → List ℕ
each_later old [] = []
each_later old (s ∷ more) = later_values old s ++ each_later s more

abbrev pub all_values : List Snapshot → List ℕ
all_values [] = []
all_values (s ∷ more) = first_values s ++ each_later s more

abbrev pub vcd : Design → List Snapshot → List ℕ
vcd d snapshots = header d ++ all_values snapshots

-- the text of a session's trace: a snapshot is taken at its end too
abbrev pub trace_text : Config → List ℕ
trace_text c = vcd c.design (with_snapshot c).trace.snapshots
