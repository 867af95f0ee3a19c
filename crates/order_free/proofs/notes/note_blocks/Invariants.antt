use Rattle.std.proofs.Common.{take}
use Rattle.order_free.specs.Tables.{Took, claims_in}
use Rattle.order_free.proofs.notes.note_blocks.Given as goal

abbrev pub invariant-loop-block : goal.invariant-loop-block
invariant-loop-block l = Took (claims_in l.design l.home l.parts l.labels (take l.block-index l.blocks)) l.fn.tables l.tables
