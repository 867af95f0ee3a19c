-- Settling, unwinding and catching, part by part of a residual.
use Rattle.std.proofs.Common.{◌≡◌, ℕ, List, [], ◌∷◌, false, refl, ap}
use Rattle.sim_model.specs.FlatDesign.Code.{Arena, block_at}
use Rattle.sim_model.specs.FlatDesign.declared.code.Handler.{Handler}
use Rattle.sim_model.specs.Residual.{Residual, Frame, skip, one, batch, seq, owing, guard, try_, frame, shell, run, goal, statements, block, then_on, in_run, then_owed, in_guard, in_try, in_shell, settle}
use Rattle.sim_model.specs.Unwinding.{unw, catches}
use Rattle.sim_model.specs.Clean.{guards_of}

-- ---- settling twice

statements-settled : (a : Arena) (ss : List ℕ) → settle a (statements ss) ≡ statements ss
statements-settled a [] = refl
statements-settled a (s ∷ []) = refl
statements-settled a (s ∷ t ∷ ss) = refl

module _ (a : Arena) where
  seq-settled : (r : Residual) (ss : List ℕ) → settle a r ≡ r → settle a (then_on r ss) ≡ then_on r ss
  seq-settled skip ss h = statements-settled a ss
  seq-settled (one s) [] h = h
  seq-settled (batch s qs) [] h = h
  seq-settled (one s) (t ∷ ss) h = refl
  seq-settled (batch s qs) (t ∷ ss) h = ap (λ x. then_on x (t ∷ ss)) h
  seq-settled (seq r us) [] h = h
  seq-settled (seq r us) (t ∷ ss) h = ap (λ x. then_on x (t ∷ ss)) h
  seq-settled (owing r g u) [] h = h
  seq-settled (owing r g u) (t ∷ ss) h = ap (λ x. then_on x (t ∷ ss)) h
  seq-settled (guard r g u) [] h = h
  seq-settled (guard r g u) (t ∷ ss) h = ap (λ x. then_on x (t ∷ ss)) h
  seq-settled (try_ r handlers) [] h = h
  seq-settled (try_ r handlers) (t ∷ ss) h = ap (λ x. then_on x (t ∷ ss)) h
  seq-settled (frame r x) [] h = h
  seq-settled (frame r x) (t ∷ ss) h = ap (λ x. then_on x (t ∷ ss)) h
  seq-settled (shell r x) [] h = h
  seq-settled (shell r x) (t ∷ ss) h = ap (λ x. then_on x (t ∷ ss)) h
  seq-settled (run g r) [] h = h
  seq-settled (run g r) (t ∷ ss) h = ap (λ x. then_on x (t ∷ ss)) h
  seq-settled (goal r k) [] h = h
  seq-settled (goal r k) (t ∷ ss) h = ap (λ x. then_on x (t ∷ ss)) h

  run-settled : (g : ℕ) (r : Residual) → settle a r ≡ r → settle a (in_run g r) ≡ in_run g r
  run-settled g skip h = refl
  run-settled g other h = ap (in_run g) h

  owed-settled : (r : Residual) (g u : ℕ) → settle a r ≡ r → settle a (then_owed a r g u) ≡ then_owed a r g u
  owed-settled skip g u h = run-settled g (block a u) (statements-settled a (block_at a u))
  owed-settled other g u h = ap (λ x. then_owed a x g u) h

  guard-settled : (r : Residual) (g u : ℕ) → settle a r ≡ r → settle a (in_guard r g u) ≡ in_guard r g u
  guard-settled skip g u h = refl
  guard-settled other g u h = ap (λ x. in_guard x g u) h

  try-settled : (r : Residual) (handlers : List Handler) → settle a r ≡ r → settle a (in_try r handlers) ≡ in_try r handlers
  try-settled skip handlers h = refl
  try-settled other handlers h = ap (λ x. in_try x handlers) h

  shell-settled : (r : Residual) (x : Frame) → settle a r ≡ r → settle a (in_shell r x) ≡ in_shell r x
  shell-settled skip x h = refl
  shell-settled other x h = ap (λ y. in_shell y x) h

  pub settle-settled : (r : Residual) → settle a (settle a r) ≡ settle a r
  settle-settled skip = refl
  settle-settled (one s) = refl
  settle-settled (batch s []) = refl
  settle-settled (batch s (q ∷ qs)) = refl
  settle-settled (seq r ss) = seq-settled (settle a r) ss (settle-settled r)
  settle-settled (owing r g u) = owed-settled (settle a r) g u (settle-settled r)
  settle-settled (guard r g u) = guard-settled (settle a r) g u (settle-settled r)
  settle-settled (try_ r handlers) = try-settled (settle a r) handlers (settle-settled r)
  settle-settled (frame r x) = ap (λ y. frame y x) (settle-settled r)
  settle-settled (shell r x) = shell-settled (settle a r) x (settle-settled r)
  settle-settled (run g r) = run-settled g (settle a r) (settle-settled r)
  settle-settled (goal r k) = ap (λ y. goal y k) (settle-settled r)

-- ---- unwinding

pub unw-unwound : (r : Residual) → unw (unw r) ≡ unw r
unw-unwound skip = refl
unw-unwound (one s) = refl
unw-unwound (batch s qs) = refl
unw-unwound (seq r ss) = unw-unwound r
unw-unwound (owing r g u) = ap (λ x. owing x g u) (unw-unwound r)
unw-unwound (guard r g u) = ap (λ x. owing x g u) (unw-unwound r)
unw-unwound (try_ r handlers) = unw-unwound r
unw-unwound (frame r x) = ap (λ y. shell y x) (unw-unwound r)
unw-unwound (shell r x) = ap (λ y. shell y x) (unw-unwound r)
unw-unwound (run g r) = ap (run g) (unw-unwound r)
unw-unwound (goal r k) = unw-unwound r

pub guards-unwound : (r : Residual) → guards_of (unw r) ≡ guards_of r
guards-unwound skip = refl
guards-unwound (one s) = refl
guards-unwound (batch s qs) = refl
guards-unwound (seq r ss) = guards-unwound r
guards-unwound (owing r g u) = ap (λ gs. g ∷ gs) (guards-unwound r)
guards-unwound (guard r g u) = ap (λ gs. g ∷ gs) (guards-unwound r)
guards-unwound (try_ r handlers) = guards-unwound r
guards-unwound (frame r x) = guards-unwound r
guards-unwound (shell r x) = guards-unwound r
guards-unwound (run g r) = ap (λ gs. g ∷ gs) (guards-unwound r)
guards-unwound (goal r k) = guards-unwound r

pub nothing-caught : (r : Residual) (e : ℕ) → catches (unw r) e ≡ false
nothing-caught skip e = refl
nothing-caught (one s) e = refl
nothing-caught (batch s qs) e = refl
nothing-caught (seq r ss) e = nothing-caught r e
nothing-caught (owing r g u) e = nothing-caught r e
nothing-caught (guard r g u) e = nothing-caught r e
nothing-caught (try_ r handlers) e = nothing-caught r e
nothing-caught (frame r x) e = nothing-caught r e
nothing-caught (shell r x) e = nothing-caught r e
nothing-caught (run g r) e = nothing-caught r e
nothing-caught (goal r k) e = nothing-caught r e
