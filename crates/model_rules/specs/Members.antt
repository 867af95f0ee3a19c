-- The table of members: for each kind of object the members that are values, and those that are events.
use Rattle.std.specs.Prelude.{ℕ, Bool, true, false, List, [], ◌∷◌, bytes_eq, codes, find, option_map, Option, Some, None}
use Rattle.flat_design.specs.declared.value_types.ValueType.{ValueType}
use Rattle.flat_design.specs.declared.value_types.ValueType.TheVariants as type
use Rattle.flat_design.specs.declared.names.Member.{Member}
use Rattle.flat_design.specs.declared.names.Member.TheVariants as member
use Rattle.flat_design.specs.declared.names.PayloadField.{PayloadField}
use Rattle.flat_design.specs.declared.names.PayloadField.TheVariants as field
use Rattle.flat_design.specs.declared.names.PayloadBytes.TheVariants as bytes
use Rattle.flat_design.specs.declared.names.EventMember.{EventMember}
use Rattle.flat_design.specs.declared.names.EventMember.TheVariants as event
use Rattle.model_rules.specs.declared.meanings.ExpressionType.{ExpressionType}
use Rattle.model_rules.specs.declared.meanings.ExpressionType.TheVariants as t
use Rattle.model_rules.specs.declared.meanings.Meaning.{Meaning}
use Rattle.model_rules.specs.declared.meanings.Meaning.TheVariants as meaning
use Rattle.model_rules.specs.declared.meanings.Row.{Row}
use Rattle.model_rules.specs.declared.meanings.Row.TheVariants as row
use Rattle.model_rules.specs.declared.meanings.ValueMember.{ValueMember}
use Rattle.model_rules.specs.declared.meanings.ValueMember.TheVariants as reached

-- a variable has a row where it holds the handle of a process or a payload
abbrev pub variable_row : Option ValueType → Option Row
variable_row None = None
variable_row (Some type.Bool) = None
variable_row (Some (type.Int width)) = None
variable_row (Some (type.Uint width)) = None
variable_row (Some type.Logic) = None
variable_row (Some (type.Vector width)) = None
variable_row (Some type.Time) = None
variable_row (Some type.Process) = Some row.Processes
variable_row (Some type.Payload) = Some row.Payloads

-- the row of a kind of object; none where it has no members
abbrev pub row_of : Meaning → Option Row
row_of (meaning.Signal s) = Some (row.Signals s)
row_of meaning.Resolved = Some (row.Signals (Some type.Logic))
row_of meaning.Clock = Some (row.Signals (Some type.Bool))
row_of (meaning.Fifo s) = Some row.Fifos
row_of meaning.Mutex = None
row_of meaning.Event = None
row_of meaning.Keeper = Some row.Keepers
row_of meaning.Semaphore = Some row.Semaphores
row_of meaning.Memory = None
row_of (meaning.Variable s) = variable_row s
row_of (meaning.In s size) = Some (row.Signals s)
row_of (meaning.Out s size) = Some (row.Signals s)
row_of (meaning.FifoIn s size) = Some row.Fifos
row_of (meaning.FifoOut s size) = Some row.Fifos
row_of (meaning.MutexPort size) = None
row_of (meaning.SemaphorePort size) = Some row.Semaphores
row_of meaning.Export = None
row_of (meaning.Initiator pass) = None
row_of (meaning.Target pass) = None
row_of meaning.Instance = None
row_of meaning.Function = None
row_of meaning.Process = Some row.Processes

abbrev pub value_members : Row → List (List ℕ × ValueMember)
value_members (row.Signals s) = (codes "changed", reached.One member.Changed) ∷ []
value_members row.Fifos = (codes "available", reached.One member.Available) ∷ (codes "free", reached.One member.Free) ∷ []
value_members row.Semaphores = (codes "value", reached.One member.Value) ∷ []
value_members row.Processes = (codes "valid", reached.One member.Valid) ∷ (codes "terminated", reached.One member.Terminated) ∷ []
value_members row.Payloads =
    (codes "live", reached.One member.Live)
    ∷ (codes "command", reached.One (member.Field field.Command))
    ∷ (codes "status", reached.One (member.Field field.Status))
    ∷ (codes "address", reached.One (member.Field field.Address))
    ∷ (codes "width", reached.One (member.Field field.Width))
    ∷ (codes "length", reached.One member.Length)
    ∷ (codes "enable_length", reached.One member.EnableLength)
    ∷ (codes "data", reached.Many bytes.Data)
    ∷ (codes "byte_enable", reached.Many bytes.ByteEnable)
    ∷ []
value_members row.Keepers = (codes "local", reached.One member.Local) ∷ (codes "next", reached.One member.Next) ∷ (codes "need_sync", reached.One member.NeedSync) ∷ []

abbrev pub event_members : Row → List (List ℕ × EventMember)
event_members (row.Signals s) = (codes "pos", event.Posedge) ∷ (codes "neg", event.Negedge) ∷ []
event_members row.Fifos = (codes "data_written", event.DataWritten) ∷ (codes "data_read", event.DataRead) ∷ []
event_members row.Semaphores = []
event_members row.Processes = (codes "terminated_event", event.Terminated) ∷ (codes "reset_event", event.Reset) ∷ []
event_members row.Payloads = []
event_members row.Keepers = []

-- an entry of the table by its name
abbrev pub entry : {A : Type 0} → List ℕ → List (List ℕ × A) → Option A
entry name entries = option_map (λ e. e.1) (find (λ e. bytes_eq e.0 name) entries)

abbrev pub value_member : Row → List ℕ → Option ValueMember
value_member r name = entry name (value_members r)

abbrev pub event_member : Row → List ℕ → Option EventMember
event_member r name = entry name (event_members r)

-- edges are those of truth values and logic digits: what a row's type says of them, where it says it
abbrev pub has_edges : ValueType → Bool
has_edges type.Bool = true
has_edges (type.Int width) = false
has_edges (type.Uint width) = false
has_edges type.Logic = true
has_edges (type.Vector width) = false
has_edges type.Time = false
has_edges type.Process = false
has_edges type.Payload = false

-- the types of members that are values
abbrev pub field_type : PayloadField → ExpressionType
field_type field.Command = t.Signed
field_type field.Status = t.Signed
field_type field.Address = t.Unsigned
field_type field.Width = t.Unsigned

abbrev pub member_type : Member → ExpressionType
member_type member.Changed = t.Bool
member_type member.Available = t.Unsigned
member_type member.Free = t.Unsigned
member_type member.Value = t.Unsigned
member_type member.Valid = t.Bool
member_type member.Terminated = t.Bool
member_type member.Live = t.Bool
member_type (member.Field f) = field_type f
member_type member.Length = t.Unsigned
member_type member.EnableLength = t.Unsigned
member_type member.Local = t.Time
member_type member.Next = t.Time
member_type member.NeedSync = t.Bool
