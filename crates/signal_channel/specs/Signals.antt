-- Signals and buffers: what a write and an update do, and what an update announces (IEEE 1666-2011, 6.4 and 6.6).
use Rattle.std.specs.Prelude.{ℕ, Bool, true, false, ◌&&◌, ◌||◌, ◌==◌, not, Option, Some, None, if◌then◌else◌}
use Rattle.logic_values.specs.declared.kinds.Value.{Value}
use Rattle.logic_values.specs.SameValue.{is_same}
use Rattle.signal_channel.specs.Edges.{is_one, is_zero}
use Rattle.signal_channel.specs.declared.signal.Policy.{Policy}
use Rattle.signal_channel.specs.declared.signal.Policy.TheVariants.{One, Many, Buffer, BufferMany}
use Rattle.signal_channel.specs.declared.signal.Signal.{Signal}
use Rattle.signal_channel.specs.declared.signal.WriterConflict.{WriterConflict}
use Rattle.signal_channel.specs.declared.signal.Changed.{Changed}

-- equal values are announced too
abbrev pub is_buffer : Policy → Bool
is_buffer One = false
is_buffer Many = false
is_buffer Buffer = true
is_buffer BufferMany = true

-- another process may write in another evaluation phase
abbrev pub is_many : Policy → Bool
is_many One = false
is_many Many = true
is_many Buffer = false
is_many BufferMany = true

-- a signal that nobody has written
abbrev pub unwritten : Policy → Value → Signal
unwritten policy v = record { policy = policy; value = v; next = v; asked = false; writer = None }

-- the conflict of a write by p with the writer that stands; a write with no process conflicts with none
abbrev pub conflict_of : Option ℕ → Option ℕ → Option WriterConflict
conflict_of None writer = None
conflict_of (Some p) None = None
conflict_of (Some p) (Some first) = if first == p then None else Some (record { first = first; second = p })

-- the writer after a write by p; a write with no process leaves it
abbrev pub writer_after : Option ℕ → Option ℕ → Option ℕ
writer_after None writer = writer
writer_after (Some p) writer = Some p

-- a write: the signal asks for an update with this value, and the last write counts
abbrev pub written : Option ℕ → Value → Signal → Signal
written p v s = record { policy = s.policy; value = s.value; next = v; asked = true; writer = writer_after p s.writer }

-- a write that is refused changes nothing
abbrev pub unless_conflict : Option WriterConflict → Signal → Signal → Signal
unless_conflict None old new = new
unless_conflict (Some conflict) old new = old

-- an update: the value becomes the next value, where one was written, and other processes may write where many may
abbrev pub settled : Signal → Signal
settled s = record {
  policy = s.policy;
  value = if s.asked then s.next else s.value;
  next = s.next;
  asked = false;
  writer = if is_many s.policy then None else s.writer;
}

-- whether the update changes the value
abbrev pub differs : Signal → Bool
differs s = s.asked && not (is_same s.value s.next)

-- what the update announces: the value changed, or was written to a buffer; it became 1; it became 0
abbrev pub change_of : Signal → Changed
change_of s = record {
  changed = s.asked && (is_buffer s.policy || not (is_same s.value s.next));
  pos = differs s && is_one s.next;
  neg = differs s && is_zero s.next;
}

-- the same of an old and a new value, of a signal that asked or did not, and that is a buffer or is not
abbrev pub change_between : Bool → Bool → Value → Value → Changed
change_between asked buffer old new = record {
  changed = asked && (buffer || not (is_same old new));
  pos = (asked && not (is_same old new)) && is_one new;
  neg = (asked && not (is_same old new)) && is_zero new;
}
