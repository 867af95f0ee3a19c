use Rattle.std.proofs.Common.{take}
use Rattle.std.specs.List.{flat_map}
use Rattle.order_free.specs.Uses.{uses_of_deed}
use Rattle.order_free.specs.Tables.{Took, claims}
use Rattle.order_free.proofs.notes.note_deeds.Given as goal

abbrev pub invariant-loop-deed : goal.invariant-loop-deed
invariant-loop-deed l = Took (claims l.x (flat_map (uses_of_deed l.design l.home) (take l.deed-index l.deeds))) l.fn.tables l.tables
