use Rattle.std.proofs.Common.{◌≡◌, ◌==◌, not, [], ◌∷◌, drop}
use Rattle.kernel_state.specs.Added.{all_added}
use Rattle.kernel_state.proofs.reaching.behind.Given as goal

abbrev pub invariant-loop-n : goal.invariant-loop-n
invariant-loop-n l = all_added (λ n. not (n == l.p)) (drop l.n-index l.serials) l.found.items ≡ all_added (λ n. not (n == l.p)) l.serials (l.p ∷ [])
