-- What each move of a residual does to its guards.
use Rattle.std.proofs.Common.{◌≡◌, ℕ, Bool, true, false, cond, List, [], ◌∷◌, ◌++◌, refl, ap, ◌∙◌}
use Rattle.sim_model.specs.FlatDesign.Code.{Arena}
use Rattle.sim_model.specs.FlatDesign.declared.code.Handler.{Handler}
use Rattle.sim_model.specs.Residual.{Residual, Frame, skip, one, batch, seq, owing, guard, try_, frame, shell, run, goal, followed, frame_or, goal_or, put, in_innermost, next_of, statement}
use Rattle.sim_model.specs.Unwinding.{unw, catches, handles, handler_block, handler_of, handled, raise}
use Rattle.sim_model.specs.Clean.{guards_of}
use Rattle.sim_model.specs.declared.plain.Goal.{Goal}
use Rattle.laws_runs.proofs.ResidualLemmas.{guards-unwound}
use Rattle.laws_runs.proofs.MarkLemmas.{frame_statement, before_statement}

followed_guards : (r : Residual) (ss : List ℕ) → guards_of (followed r ss) ≡ guards_of r
followed_guards r [] = refl
followed_guards r (s ∷ ss) = refl

-- ---- nothing in place of what comes next

past_frame : (r : Residual) (x : Frame) (inside : Residual) → guards_of inside ≡ guards_of r → guards_of (frame_or r x skip inside) ≡ guards_of r
past_frame skip x inside h = refl
past_frame other x inside h = h

past_goal : (r : Residual) (k : Goal) (inside : Residual) → guards_of inside ≡ guards_of r → guards_of (goal_or r k skip inside) ≡ guards_of r
past_goal skip k inside h = refl
past_goal other k inside h = h

pub guards-past : (r : Residual) → guards_of (put r skip) ≡ guards_of r
guards-past skip = refl
guards-past (one s) = refl
guards-past (batch s qs) = refl
guards-past (seq r ss) = followed_guards (put r skip) ss ∙ guards-past r
guards-past (owing r g u) = ap (λ gs. g ∷ gs) (guards-past r)
guards-past (guard r g u) = ap (λ gs. g ∷ gs) (guards-past r)
guards-past (try_ r handlers) = guards-past r
guards-past (frame r x) = past_frame r x (put r skip) (guards-past r)
guards-past (shell r x) = guards-past r
guards-past (run g r) = ap (λ gs. g ∷ gs) (guards-past r)
guards-past (goal r k) = past_goal r k (put r skip) (guards-past r)

-- ---- something in place of a statement

frame_kept : (r : Residual) (x : Frame) (n inside : Residual) (s : ℕ) → next_of r ≡ statement s → guards_of (frame_or r x n inside) ≡ guards_of inside
frame_kept skip x n inside s is = cc
frame_kept other x n inside s is = refl

goal_kept : (r : Residual) (k : Goal) (n inside : Residual) (s : ℕ) → next_of r ≡ statement s → guards_of (goal_or r k n inside) ≡ guards_of inside
goal_kept skip k n inside s is = cc
goal_kept other k n inside s is = refl

pub guards-put : (r n : Residual) (s : ℕ) → next_of r ≡ statement s → guards_of (put r n) ≡ guards_of r ++ guards_of n
guards-put skip n s is = cc
guards-put (one t) n s is = refl
guards-put (batch t qs) n s is = refl
guards-put (seq r ss) n s is = followed_guards (put r n) ss ∙ guards-put r n s is
guards-put (owing r g u) n s is = ap (λ gs. g ∷ gs) (guards-put r n s is)
guards-put (guard r g u) n s is = ap (λ gs. g ∷ gs) (guards-put r n s is)
guards-put (try_ r handlers) n s is = guards-put r n s is
guards-put (frame r x) n s is = let there = frame_statement (next_of r) x s is in frame_kept r x n (put r n) s there ∙ guards-put r n s there
guards-put (shell r x) n s is = guards-put r n s is
guards-put (run g r) n s is = ap (λ gs. g ∷ gs) (guards-put r n s is)
guards-put (goal r k) n s is = let there = before_statement (next_of r) k s is in goal_kept r k n (put r n) s there ∙ guards-put r n s there

-- ---- a local variable, and an exception

pub guards-local : (f : Frame → Frame) (r : Residual) → guards_of (in_innermost f r) ≡ guards_of r
guards-local f skip = refl
guards-local f (one s) = refl
guards-local f (batch s qs) = refl
guards-local f (seq r ss) = guards-local f r
guards-local f (owing r g u) = ap (λ gs. g ∷ gs) (guards-local f r)
guards-local f (guard r g u) = ap (λ gs. g ∷ gs) (guards-local f r)
guards-local f (try_ r handlers) = guards-local f r
guards-local f (frame r x) = guards-local f r
guards-local f (shell r x) = guards-local f r
guards-local f (run g r) = ap (λ gs. g ∷ gs) (guards-local f r)
guards-local f (goal r k) = guards-local f r

module _ (a : Arena) (e : ℕ) (k : Goal) where
  try_guards : (b c : Bool) (r : Residual) (handlers : List Handler) → guards_of (raise a r e k) ≡ guards_of r → guards_of (cond b (try_ (raise a r e k) handlers) (cond c (handled a r handlers e k) (try_ r handlers))) ≡ guards_of r
  try_guards true c r handlers h = h
  try_guards false true r handlers h = followed_guards (goal (unw r) k) (handler_block a (handler_of handlers e)) ∙ guards-unwound r
  try_guards false false r handlers h = refl

  pub guards-raise : (r : Residual) → guards_of (raise a r e k) ≡ guards_of r
  guards-raise skip = refl
  guards-raise (one s) = refl
  guards-raise (batch s qs) = refl
  guards-raise (seq r ss) = guards-raise r
  guards-raise (owing r g u) = ap (λ gs. g ∷ gs) (guards-raise r)
  guards-raise (guard r g u) = ap (λ gs. g ∷ gs) (guards-raise r)
  guards-raise (try_ r handlers) = try_guards (catches r e) (handles handlers e) r handlers (guards-raise r)
  guards-raise (frame r x) = guards-raise r
  guards-raise (shell r x) = guards-raise r
  guards-raise (run g r) = ap (λ gs. g ∷ gs) (guards-raise r)
  guards-raise (goal r j) = guards-raise r
