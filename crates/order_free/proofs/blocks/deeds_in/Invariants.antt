use Rattle.std.proofs.Common.{◌≡◌, take}
use Rattle.std.specs.List.{flat_map}
use Rattle.flat_design.specs.Code.{arena_of}
use Rattle.order_free.specs.Blocks.{deeds_at}
use Rattle.order_free.proofs.blocks.deeds_in.Given as goal

abbrev pub invariant-loop-n : goal.invariant-loop-n
invariant-loop-n l = l.deeds.items ≡ flat_map (deeds_at (arena_of l.code)) (take l.n-index l.block)
