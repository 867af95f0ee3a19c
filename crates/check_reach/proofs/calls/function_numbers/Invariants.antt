use Rattle.std.proofs.Common.{◌≡◌, ◌++◌, ℕ, List, map, drop}
use Rattle.std.specs.Borrow.{Bor}
use Rattle.check_expressions.specs.CheckNames.ModuleNames.{items_of}
use Rattle.check_reach.specs.Sets.{function_numbers}
use Rattle.check_reach.proofs.calls.function_numbers.Given as goal

abbrev pub invariant-loop-name : goal.invariant-loop-name
invariant-loop-name l = l.numbers.items ++ function_numbers (items_of l.names) (map (λ (n : Bor (List ℕ)). n.now) (drop l.name-index l.functions)) ≡ function_numbers (items_of l.names) (map (λ (n : Bor (List ℕ)). n.now) l.functions)
