use Rattle.std.proofs.Common.{◌≡◌, ◌++◌, take}
use Rattle.std.specs.List.{flat_map}
use Rattle.bus_router.specs.Times.{row_at}
use Rattle.bus_router.specs.Pools.{payload_with}
use Rattle.result_texts.specs.Lines.{access_line}
use Rattle.result_texts.proofs.texts.push_lines.Given as goal

abbrev pub invariant-loop-k : goal.invariant-loop-k
invariant-loop-k l = l.text.items ≡ l.initial.text.items ++ flat_map (λ k. access_line l.bus (row_at l.rows k) k (payload_with l.pool k)) (take l.k-index l.order)
