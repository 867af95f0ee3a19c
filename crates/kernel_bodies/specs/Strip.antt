-- A residual without the numbers of its guards: what a body keeps of it.
use Rattle.sim_model.specs.Residual.{Residual, skip, one, batch, seq, owing, guard, try_, frame, shell, run, goal}

-- Guards have numbers for the marks of a run alone: nothing that a body does depends on them.
abbrev pub strip : Residual → Residual
strip skip = skip
strip (one s) = one s
strip (batch s qs) = batch s qs
strip (seq r ss) = seq (strip r) ss
strip (owing r g u) = owing (strip r) 0 u
strip (guard r g u) = guard (strip r) 0 u
strip (try_ r handlers) = try_ (strip r) handlers
strip (frame r x) = frame (strip r) x
strip (shell r x) = shell (strip r) x
strip (run g r) = run 0 (strip r)
strip (goal r k) = goal (strip r) k
