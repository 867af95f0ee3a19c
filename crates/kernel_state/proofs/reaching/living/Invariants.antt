use Rattle.std.proofs.Common.{◌≡◌, [], drop}
use Rattle.std.specs.FinMap as map
use Rattle.kernel_state.specs.Added.{all_added}
use Rattle.kernel_state.proofs.reaching.living.Given as goal

abbrev pub invariant-loop-n : goal.invariant-loop-n
invariant-loop-n l = all_added (λ n. map.contains_key l.k.schedule.table.live n) (drop l.n-index l.serials) l.found.items ≡ all_added (λ n. map.contains_key l.k.schedule.table.live n) l.serials []
