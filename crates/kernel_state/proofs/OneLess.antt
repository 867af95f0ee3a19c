-- A call that is owed to one less, without the numbers of guards.
use Rattle.std.proofs.Common.{◌≡◌, refl, ap}
use Rattle.kernel_processes.specs.SimModel.Residual.{Residual, skip, one, batch, seq, owing, guard, try_, frame, shell, run, goal, taken_off}
use Rattle.process_bodies.specs.KernelBodies.Strip.{strip}

pub strip-taken : (r : Residual) → strip (taken_off r) ≡ taken_off (strip r)
strip-taken skip = refl
strip-taken (one s) = refl
strip-taken (batch s qs) = refl
strip-taken (seq r ss) = ap (λ x. seq x ss) (strip-taken r)
strip-taken (owing r g u) = ap (λ x. owing x 0 u) (strip-taken r)
strip-taken (guard r g u) = ap (λ x. guard x 0 u) (strip-taken r)
strip-taken (try_ r handlers) = ap (λ x. try_ x handlers) (strip-taken r)
strip-taken (frame r x) = ap (λ y. frame y x) (strip-taken r)
strip-taken (shell r x) = ap (λ y. shell y x) (strip-taken r)
strip-taken (run g r) = ap (run 0) (strip-taken r)
strip-taken (goal r k) = ap (λ x. goal x k) (strip-taken r)
