-- What has settled shows what comes next: nothing comes next only where nothing is left. So a goal that is reached is gone.
use Rattle.std.proofs.Common.{◌≡◌, ℕ, false, List, [], ◌∷◌, Option, Some, None, refl, ◌∙◌}
use Rattle.sim_model.specs.FlatDesign.Code.{Arena, block_at}
use Rattle.sim_model.specs.FlatDesign.declared.code.Handler.{Handler}
use Rattle.sim_model.specs.FlatDesign.declared.design.Design.{Design}
use Rattle.sim_model.specs.Residual.{Residual, Frame, Next, skip, one, batch, seq, owing, guard, try_, frame, shell, run, goal, followed, statements, block, then_on, in_run, then_owed, in_guard, in_try, in_shell, settle, frame_or, goal_or, put, in_innermost, in_frame, frame_end, before_goal, next_of, statement, owes, leaves, done, reaches, nothing, has_goal}
use Rattle.sim_model.specs.Reading.{home_of_via}
use Rattle.sim_model.specs.declared.plain.Goal.{Goal}
use Rattle.laws_runs.specs.Standing.{OfUnwindBlock, IsOrdinary, IsUnwinding, IsStanding}

abbrev pub IsLeft : Residual → Type 0
IsLeft skip = ⊥
IsLeft (one s) = Unit {0}
IsLeft (batch s qs) = Unit {0}
IsLeft (seq r ss) = Unit {0}
IsLeft (owing r g u) = Unit {0}
IsLeft (guard r g u) = Unit {0}
IsLeft (try_ r handlers) = Unit {0}
IsLeft (frame r x) = Unit {0}
IsLeft (shell r x) = Unit {0}
IsLeft (run g r) = Unit {0}
IsLeft (goal r k) = Unit {0}

-- no part is finished
abbrev pub IsTight : Residual → Type 0
IsTight skip = Unit {0}
IsTight (one s) = Unit {0}
IsTight (batch s []) = ⊥
IsTight (batch s (q ∷ qs)) = Unit {0}
IsTight (seq r ss) = IsLeft r × IsTight r
IsTight (owing r g u) = IsLeft r × IsTight r
IsTight (guard r g u) = IsLeft r × IsTight r
IsTight (try_ r handlers) = IsLeft r × IsTight r
IsTight (frame r x) = IsTight r
IsTight (shell r x) = IsLeft r × IsTight r
IsTight (run g r) = IsLeft r × IsTight r
IsTight (goal r k) = IsTight r

statements_tight : (ss : List ℕ) → IsTight (statements ss)
statements_tight [] = tt
statements_tight (s ∷ []) = tt
statements_tight (s ∷ t ∷ ss) = (tt, tt)

followed_tight : (r : Residual) (ss : List ℕ) → IsLeft r → IsTight r → IsTight (followed r ss)
followed_tight r [] l h = h
followed_tight r (s ∷ ss) l h = (l, h)

module _ (a : Arena) where
  then_tight : (r : Residual) (ss : List ℕ) → IsTight r → IsTight (then_on r ss)
  then_tight skip ss h = statements_tight ss
  then_tight (one s) ss h = followed_tight (one s) ss tt h
  then_tight (batch s qs) ss h = followed_tight (batch s qs) ss tt h
  then_tight (seq r us) ss h = followed_tight (seq r us) ss tt h
  then_tight (owing r g u) ss h = followed_tight (owing r g u) ss tt h
  then_tight (guard r g u) ss h = followed_tight (guard r g u) ss tt h
  then_tight (try_ r handlers) ss h = followed_tight (try_ r handlers) ss tt h
  then_tight (frame r x) ss h = followed_tight (frame r x) ss tt h
  then_tight (shell r x) ss h = followed_tight (shell r x) ss tt h
  then_tight (run g r) ss h = followed_tight (run g r) ss tt h
  then_tight (goal r k) ss h = followed_tight (goal r k) ss tt h

  run_tight : (g : ℕ) (r : Residual) → IsTight r → IsTight (in_run g r)
  run_tight g skip h = tt
  run_tight g other h = (tt, h)

  owed_tight : (r : Residual) (g u : ℕ) → IsTight r → IsTight (then_owed a r g u)
  owed_tight skip g u h = run_tight g (block a u) (statements_tight (block_at a u))
  owed_tight other g u h = (tt, h)

  guard_tight : (r : Residual) (g u : ℕ) → IsTight r → IsTight (in_guard r g u)
  guard_tight skip g u h = tt
  guard_tight other g u h = (tt, h)

  try_tight : (r : Residual) (handlers : List Handler) → IsTight r → IsTight (in_try r handlers)
  try_tight skip handlers h = tt
  try_tight other handlers h = (tt, h)

  shell_tight : (r : Residual) (x : Frame) → IsTight r → IsTight (in_shell r x)
  shell_tight skip x h = tt
  shell_tight other x h = (tt, h)

  pub settle-tight : (r : Residual) → IsTight (settle a r)
  settle-tight skip = tt
  settle-tight (one s) = tt
  settle-tight (batch s []) = tt
  settle-tight (batch s (q ∷ qs)) = tt
  settle-tight (seq r ss) = then_tight (settle a r) ss (settle-tight r)
  settle-tight (owing r g u) = owed_tight (settle a r) g u (settle-tight r)
  settle-tight (guard r g u) = guard_tight (settle a r) g u (settle-tight r)
  settle-tight (try_ r handlers) = try_tight (settle a r) handlers (settle-tight r)
  settle-tight (frame r x) = settle-tight r
  settle-tight (shell r x) = shell_tight (settle a r) x (settle-tight r)
  settle-tight (run g r) = run_tight g (settle a r) (settle-tight r)
  settle-tight (goal r k) = settle-tight r

-- ---- where nothing comes next nothing is left

in_frame_some : (n : Next) (x : Frame) → in_frame n x ≡ nothing → ⊥
in_frame_some (statement s) x is = cc
in_frame_some (owes s q) x is = cc
in_frame_some (leaves y) x is = cc
in_frame_some done x is = cc
in_frame_some (reaches k) x is = cc
in_frame_some nothing x is = ends x.call is
  where
    ends : (call : Option ℕ) → frame_end call x ≡ nothing → ⊥
    ends None e = cc
    ends (Some t) e = cc

before_some : (n : Next) (k : Goal) → before_goal n k ≡ nothing → ⊥
before_some (statement s) k is = cc
before_some (owes s q) k is = cc
before_some (leaves y) k is = cc
before_some done k is = cc
before_some (reaches j) k is = cc
before_some nothing k is = cc

something : (r : Residual) → IsTight r → next_of r ≡ nothing → IsLeft r → ⊥
something skip t is l = l
something (one s) t is l = cc
something (batch s []) t is l = t
something (batch s (q ∷ qs)) t is l = cc
something (seq r ss) t is l = something r t.1 is t.0
something (owing r g u) t is l = something r t.1 is t.0
something (guard r g u) t is l = something r t.1 is t.0
something (try_ r handlers) t is l = something r t.1 is t.0
something (frame r x) t is l = in_frame_some (next_of r) x is
something (shell r x) t is l = something r t.1 is t.0
something (run g r) t is l = something r t.1 is t.0
something (goal r k) t is l = before_some (next_of r) k is

-- ---- what is ordinary, and what is unwinding, reaches no goal by itself

in_frame_reaches : (n : Next) (x : Frame) (k : Goal) → in_frame n x ≡ reaches k → n ≡ reaches k
in_frame_reaches (statement s) x k is = cc
in_frame_reaches (owes s q) x k is = cc
in_frame_reaches (leaves y) x k is = cc
in_frame_reaches done x k is = cc
in_frame_reaches (reaches j) x k is = is
in_frame_reaches nothing x k is = absurd (ends x.call is)
  where
    ends : (call : Option ℕ) → frame_end call x ≡ reaches k → ⊥
    ends None e = cc
    ends (Some t) e = cc

pub ordinary-goalless : (P : ℕ → ℕ → Type 0) (d : Design) (home : ℕ) (r : Residual) → IsOrdinary P d home r → has_goal r ≡ false
ordinary-goalless P d home skip h = refl
ordinary-goalless P d home (one s) h = refl
ordinary-goalless P d home (batch s qs) h = refl
ordinary-goalless P d home (seq r ss) h = ordinary-goalless P d home r h.0
ordinary-goalless P d home (owing r g u) h = absurd h
ordinary-goalless P d home (guard r g u) h = ordinary-goalless P d home r h.0
ordinary-goalless P d home (try_ r handlers) h = ordinary-goalless P d home r h.0
ordinary-goalless P d home (frame r x) h = ordinary-goalless P d (home_of_via d home x.via) r h.1
ordinary-goalless P d home (shell r x) h = absurd h
ordinary-goalless P d home (run g r) h = absurd h
ordinary-goalless P d home (goal r k) h = absurd h

ordinary_reaches : (P : ℕ → ℕ → Type 0) (d : Design) (home : ℕ) (r : Residual) (k : Goal) → IsOrdinary P d home r → next_of r ≡ reaches k → ⊥
ordinary_reaches P d home skip k h is = cc
ordinary_reaches P d home (one s) k h is = cc
ordinary_reaches P d home (batch s []) k h is = cc
ordinary_reaches P d home (batch s (q ∷ qs)) k h is = cc
ordinary_reaches P d home (seq r ss) k h is = ordinary_reaches P d home r k h.0 is
ordinary_reaches P d home (owing r g u) k h is = h
ordinary_reaches P d home (guard r g u) k h is = ordinary_reaches P d home r k h.0 is
ordinary_reaches P d home (try_ r handlers) k h is = ordinary_reaches P d home r k h.0 is
ordinary_reaches P d home (frame r x) k h is = ordinary_reaches P d (home_of_via d home x.via) r k h.1 (in_frame_reaches (next_of r) x k is)
ordinary_reaches P d home (shell r x) k h is = h
ordinary_reaches P d home (run g r) k h is = h
ordinary_reaches P d home (goal r j) k h is = h

unwinding_reaches : (d : Design) (home : ℕ) (r : Residual) (k : Goal) → IsUnwinding d home r → next_of r ≡ reaches k → ⊥
unwinding_reaches d home skip k h is = cc
unwinding_reaches d home (one s) k h is = h
unwinding_reaches d home (batch s qs) k h is = h
unwinding_reaches d home (seq r ss) k h is = h
unwinding_reaches d home (owing r g u) k h is = unwinding_reaches d home r k h.0 is
unwinding_reaches d home (guard r g u) k h is = h
unwinding_reaches d home (try_ r handlers) k h is = h
unwinding_reaches d home (frame r x) k h is = h
unwinding_reaches d home (shell r x) k h is = unwinding_reaches d (home_of_via d home x.via) r k h.1 is
unwinding_reaches d home (run g r) k h is = ordinary_reaches (OfUnwindBlock d) d home r k h is
unwinding_reaches d home (goal r j) k h is = h

-- ---- a goal that is reached is gone

before_reaches : (r : Residual) (j k : Goal) (inside : Residual) → IsTight r → (n : Next) → next_of r ≡ n → (n ≡ reaches k → ⊥) → before_goal n j ≡ reaches k → has_goal (goal_or r j skip inside) ≡ false
before_reaches r j k inside t (statement s) is not e = cc
before_reaches r j k inside t (owes s q) is not e = cc
before_reaches r j k inside t (leaves x) is not e = cc
before_reaches r j k inside t done is not e = cc
before_reaches r j k inside t (reaches i) is not e = absurd (not e)
before_reaches skip j k inside t nothing is not e = refl
before_reaches (one s) j k inside t nothing is not e = cc
before_reaches (batch s qs) j k inside t nothing is not e = absurd (something (batch s qs) t is tt)
before_reaches (seq r ss) j k inside t nothing is not e = absurd (something (seq r ss) t is tt)
before_reaches (owing r g u) j k inside t nothing is not e = absurd (something (owing r g u) t is tt)
before_reaches (guard r g u) j k inside t nothing is not e = absurd (something (guard r g u) t is tt)
before_reaches (try_ r handlers) j k inside t nothing is not e = absurd (something (try_ r handlers) t is tt)
before_reaches (frame r x) j k inside t nothing is not e = absurd (something (frame r x) t is tt)
before_reaches (shell r x) j k inside t nothing is not e = absurd (something (shell r x) t is tt)
before_reaches (run g r) j k inside t nothing is not e = absurd (something (run g r) t is tt)
before_reaches (goal r i) j k inside t nothing is not e = absurd (something (goal r i) t is tt)

followed_goal : (r : Residual) (ss : List ℕ) → has_goal (followed r ss) ≡ has_goal r
followed_goal r [] = refl
followed_goal r (s ∷ ss) = refl

frame_goal : (r : Residual) (x : Frame) (inside : Residual) → has_goal inside ≡ false → has_goal (frame_or r x skip inside) ≡ false
frame_goal skip x inside h = refl
frame_goal other x inside h = h

pub goal-gone : (d : Design) (home : ℕ) (r : Residual) (k : Goal) → IsStanding d home r → IsTight r → next_of r ≡ reaches k → has_goal (put r skip) ≡ false
goal-gone d home skip k h t is = refl
goal-gone d home (one s) k h t is = refl
goal-gone d home (batch s qs) k h t is = refl
goal-gone d home (seq r ss) k h t is = followed_goal (put r skip) ss ∙ goal-gone d home r k h.0 t.1 is
goal-gone d home (owing r g u) k h t is = absurd h
goal-gone d home (guard r g u) k h t is = goal-gone d home r k h.0 t.1 is
goal-gone d home (try_ r handlers) k h t is = goal-gone d home r k h.0 t.1 is
goal-gone d home (frame r x) k h t is = frame_goal r x (put r skip) (goal-gone d (home_of_via d home x.via) r k h.1 t (in_frame_reaches (next_of r) x k is))
goal-gone d home (shell r x) k h t is = absurd h
goal-gone d home (run g r) k h t is = absurd h
goal-gone d home (goal r j) k h t is = before_reaches r j k (put r skip) t (next_of r) refl (unwinding_reaches d home r k h) is

-- ---- a local variable that is set changes no goal

pub goal-local : (f : Frame → Frame) (r : Residual) → has_goal (in_innermost f r) ≡ has_goal r
goal-local f skip = refl
goal-local f (one s) = refl
goal-local f (batch s qs) = refl
goal-local f (seq r ss) = goal-local f r
goal-local f (owing r g u) = goal-local f r
goal-local f (guard r g u) = goal-local f r
goal-local f (try_ r handlers) = goal-local f r
goal-local f (frame r x) = goal-local f r
goal-local f (shell r x) = goal-local f r
goal-local f (run g r) = goal-local f r
goal-local f (goal r k) = refl
