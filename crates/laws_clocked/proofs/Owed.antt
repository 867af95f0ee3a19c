-- What is left of a thread's own statements that are unwound: unwind blocks, and calls that are left; and as these go on, the rest stays.
use Rattle.std.proofs.Common.{◌≡◌, ℕ, Bool, true, false, cond, [], ◌∷◌, Option, refl, ap, inl, inr, ◌⊎◌}
use Rattle.laws_runs.specs.LogicValues.declared.kinds.Value.{Value}
use Rattle.laws_runs.specs.FlatDesign.Code.{Arena}
use Rattle.laws_runs.specs.SimModel.Residual.{Residual, Frame, skip, one, batch, seq, owing, guard, try_, frame, shell, run, goal, block, in_run, then_owed, in_shell, settle, goal_or, put, taken_off, Next, in_frame, before_goal, next_of, statement, owes, leaves, done, reaches, nothing, innermost, changed_if, in_innermost}
use Rattle.laws_runs.specs.SimModel.Unwinding.{unw, has_exit, returned}
use Rattle.laws_runs.specs.SimModel.declared.plain.Goal.{Goal}
use Rattle.laws_runs.specs.SimModel.declared.plain.Goal.TheVariants as goal_of
use Rattle.laws_clocked.specs.Spots.{IsLeft}
use Rattle.laws_clocked.specs.Again.{Around, unwinding}

abbrev pub IsOwed : Residual → Type 0
IsOwed skip = Unit {0}
IsOwed (owing r g u) = IsOwed r
IsOwed (shell r x) = IsOwed r
IsOwed (run g r) = Unit {0}
IsOwed other = ⊥

pub owed-unw : (r : Residual) → IsOwed (unw r)
owed-unw skip = tt
owed-unw (one s) = tt
owed-unw (batch s qs) = tt
owed-unw (seq r ss) = owed-unw r
owed-unw (owing r g u) = owed-unw r
owed-unw (guard r g u) = owed-unw r
owed-unw (try_ r handlers) = owed-unw r
owed-unw (frame r x) = owed-unw r
owed-unw (shell r x) = owed-unw r
owed-unw (run g r) = tt
owed-unw (goal r k) = owed-unw r

pub skip-or_left : (r : Residual) → (r ≡ skip) ⊎ IsLeft r
skip-or_left skip = inl refl
skip-or_left (one s) = inr tt
skip-or_left (batch s qs) = inr tt
skip-or_left (seq r ss) = inr tt
skip-or_left (owing r g u) = inr tt
skip-or_left (guard r g u) = inr tt
skip-or_left (try_ r handlers) = inr tt
skip-or_left (frame r x) = inr tt
skip-or_left (shell r x) = inr tt
skip-or_left (run g r) = inr tt
skip-or_left (goal r k) = inr tt

-- ---- finished parts fall away

owed_run : (g : ℕ) (r : Residual) → IsOwed (in_run g r)
owed_run g skip = tt
owed_run g other = tt

owed_then : (a : Arena) (r : Residual) (g u : ℕ) → IsOwed r → IsOwed (then_owed a r g u)
owed_then a skip g u h = owed_run g (block a u)
owed_then a other g u h = h

owed_shell : (r : Residual) (x : Frame) → IsOwed r → IsOwed (in_shell r x)
owed_shell skip x h = tt
owed_shell other x h = h

pub owed-settled : (a : Arena) (r : Residual) → IsOwed r → IsOwed (settle a r)
owed-settled a skip h = tt
owed-settled a (owing r g u) h = owed_then a (settle a r) g u (owed-settled a r h)
owed-settled a (shell r x) h = owed_shell (settle a r) x (owed-settled a r h)
owed-settled a (run g r) h = owed_run g (settle a r)
owed-settled a other h = absurd h

-- ---- what the steps of the thread make of it

pub owed-put : (r n : Residual) → IsOwed r → IsOwed (put r n)
owed-put skip n h = tt
owed-put (owing r g u) n h = owed-put r n h
owed-put (shell r x) n h = owed-put r n h
owed-put (run g r) n h = tt
owed-put other n h = absurd h

pub left-put : (r n : Residual) → IsOwed r → IsLeft r → IsLeft (put r n)
left-put skip n h l = absurd l
left-put (owing r g u) n h l = tt
left-put (shell r x) n h l = tt
left-put (run g r) n h l = tt
left-put other n h l = absurd h

pub owed-off : (r : Residual) → IsOwed r → IsOwed (taken_off r)
owed-off skip h = tt
owed-off (owing r g u) h = owed-off r h
owed-off (shell r x) h = owed-off r h
owed-off (run g r) h = tt
owed-off other h = absurd h

pub left-off : (r : Residual) → IsOwed r → IsLeft r → IsLeft (taken_off r)
left-off skip h l = absurd l
left-off (owing r g u) h l = tt
left-off (shell r x) h l = tt
left-off (run g r) h l = tt
left-off other h l = absurd h

either_run : (b : Bool) (g : ℕ) (q r : Residual) → IsOwed (cond b (run g q) (run g r)) × IsLeft (cond b (run g q) (run g r))
either_run true g q r = (tt, tt)
either_run false g q r = (tt, tt)

pub owed-returned : (v : Option Value) (r : Residual) → IsOwed r → IsOwed (returned v r)
owed-returned v skip h = tt
owed-returned v (owing r g u) h = owed-returned v r h
owed-returned v (shell r x) h = owed-returned v r h
owed-returned v (run g r) h = (either_run (has_exit r) g (returned v r) skip).0
owed-returned v other h = absurd h

pub left-returned : (v : Option Value) (r : Residual) → IsOwed r → IsLeft r → IsLeft (returned v r)
left-returned v skip h l = absurd l
left-returned v (owing r g u) h l = tt
left-returned v (shell r x) h l = tt
left-returned v (run g r) h l = (either_run (has_exit r) g (returned v r) skip).1
left-returned v other h l = absurd h

pub owed-local : (f : Frame → Frame) (r : Residual) → IsOwed r → IsOwed (in_innermost f r)
owed-local f skip h = tt
owed-local f (owing r g u) h = owed-local f r h
owed-local f (shell r x) h = owed-local f r h
owed-local f (run g r) h = tt
owed-local f other h = absurd h

pub left-local : (f : Frame → Frame) (r : Residual) → IsOwed r → IsLeft r → IsLeft (in_innermost f r)
left-local f skip h l = absurd l
left-local f (owing r g u) h l = tt
left-local f (shell r x) h l = tt
left-local f (run g r) h l = tt
left-local f other h l = absurd h

-- a statement stands in an unwind block that is begun
pub owed-exit : (r : Residual) (n : ℕ) → IsOwed r → next_of r ≡ statement n → has_exit r ≡ true
owed-exit skip n h is = absurd (no is)
  where
    no : nothing ≡ statement n → ⊥
    no e = cc
owed-exit (owing r g u) n h is = owed-exit r n h is
owed-exit (shell r x) n h is = owed-exit r n h is
owed-exit (run g r) n h is = refl
owed-exit other n h is = absurd h

-- ---- in the whole of what is left of the thread

pub left_goal : (r : Residual) (k : Goal) (n inside : Residual) → IsLeft r → goal_or r k n inside ≡ goal inside k
left_goal skip k n inside l = absurd l
left_goal (one s) k n inside l = refl
left_goal (batch s qs) k n inside l = refl
left_goal (seq r ss) k n inside l = refl
left_goal (owing r g u) k n inside l = refl
left_goal (guard r g u) k n inside l = refl
left_goal (try_ r handlers) k n inside l = refl
left_goal (frame r x) k n inside l = refl
left_goal (shell r x) k n inside l = refl
left_goal (run g r) k n inside l = refl
left_goal (goal r j) k n inside l = refl

module _ (b : Around) (y : Frame) (r : Residual) where
  pub put-unwinding : (n : Residual) → IsLeft r → put (unwinding b y r) n ≡ unwinding b y (put r n)
  put-unwinding n l = ap (λ z. frame (seq z (b.loops ∷ [])) y) (left_goal r goal_of.Thrown n (put r n) l)

  pub returned-unwinding : (v : Option Value) → has_exit r ≡ true → returned v (unwinding b y r) ≡ unwinding b y (returned v r)
  returned-unwinding v exit = ap (λ c. cond c (unwinding b y (returned v r)) (frame skip (record y { answer = v }))) exit

  pub local-unwinding : (f : Frame → Frame) → in_innermost f (unwinding b y r) ≡ unwinding b (changed_if (innermost r) f y) (in_innermost f r)
  local-unwinding f = refl

  pub next-unwinding : (n : ℕ) → next_of (unwinding b y r) ≡ statement n → next_of r ≡ statement n
  next-unwinding n = by (next_of r)
    where
      no : reaches goal_of.Thrown ≡ statement n → ⊥
      no e = cc

      by : (m : Next) → in_frame (before_goal m goal_of.Thrown) y ≡ statement n → m ≡ statement n
      by (statement k) is = is
      by (owes k q) is = is
      by (leaves x) is = is
      by done is = is
      by (reaches k) is = is
      by nothing is = absurd (no is)
