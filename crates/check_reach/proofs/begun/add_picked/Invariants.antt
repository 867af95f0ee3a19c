use Rattle.std.proofs.Common.{◌≡◌, ◌++◌, ℕ, List, map, filter_map, drop}
use Rattle.std.specs.Borrow.{Bor}
use Rattle.check_reach.specs.Flat.{picked, placed_list}
use Rattle.check_reach.proofs.begun.add_picked.Given as goal

abbrev pub invariant-loop-placed : goal.invariant-loop-placed
invariant-loop-placed l = map (λ (n : Bor (List ℕ)). n.now) l.names.items ++ filter_map (picked l.begin l.kind) (placed_list (drop l.placed-index l.statements)) ≡ map (λ (n : Bor (List ℕ)). n.now) l.fn.names.items ++ filter_map (picked l.begin l.kind) (placed_list l.statements)
