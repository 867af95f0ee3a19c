-- Writes of a signal that one process may write (IEEE 1666-2011, 6.4.4).
use Rattle.std.specs.Prelude.{ℕ, Option, Some, None}
use Rattle.kernel_events.specs.LogicValues.declared.kinds.Value.{Value}
use Rattle.kernel_events.specs.SignalChannel.Signals.{written, conflict_of, unless_conflict}
use Rattle.kernel_events.specs.SignalChannel.declared.signal.Signal.{Signal}
use Rattle.kernel_events.specs.SignalChannel.declared.signal.WriterConflict.{WriterConflict}

-- the conflict of a write by p, where there is such a signal
abbrev pub conflict_at : Option ℕ → Option Signal → Option WriterConflict
conflict_at p None = None
conflict_at p (Some s) = conflict_of p s.writer

-- the signal with the value that p wrote, where that is no conflict
abbrev pub written_unless : Option ℕ → Value → Signal → Signal
written_unless p v s = unless_conflict (conflict_of p s.writer) s (written p v s)
