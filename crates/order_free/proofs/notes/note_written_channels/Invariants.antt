use Rattle.std.proofs.Common.{take}
use Rattle.std.specs.List.{flat_map}
use Rattle.order_free.specs.Uses.{written_to}
use Rattle.order_free.specs.Tables.{Took, claims}
use Rattle.order_free.proofs.notes.note_written_channels.Given as goal

abbrev pub invariant-loop-channel : goal.invariant-loop-channel
invariant-loop-channel l = Took (claims l.x (flat_map written_to (take l.channel-index l.channels))) l.fn.tables l.tables
