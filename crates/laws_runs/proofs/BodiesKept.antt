-- Each move of what is left of a body keeps it standing in the bodies of the design.
use Rattle.std.proofs.Common.{◌≡◌, ◌==◌, ℕ, Bool, true, false, cond, List, [], ◌∷◌, Option, Some, None, refl, sym, subst, true≢false}
use Rattle.sim_model.specs.LogicValues.declared.kinds.Value.{Value}
use Rattle.sim_model.specs.FlatDesign.Code.{block_at}
use Rattle.sim_model.specs.FlatDesign.Typed.{EachOf}
use Rattle.sim_model.specs.FlatDesign.declared.code.Handler.{Handler}
use Rattle.sim_model.specs.FlatDesign.declared.design.Design.{Design}
use Rattle.sim_model.specs.Residual.{Residual, Frame, skip, one, batch, seq, owing, guard, try_, frame, shell, run, goal, followed, statements, block, then_on, in_run, then_owed, in_guard, in_try, in_shell, settle, changed_if, innermost, taken_off, in_innermost, has_goal}
use Rattle.sim_model.specs.Unwinding.{unw, catches, handles, handler_block, handler_of, handled, raise, has_exit, returned}
use Rattle.sim_model.specs.Reading.{home_of_via}
use Rattle.sim_model.specs.Storing.{with_local}
use Rattle.sim_model.specs.Clean.{EachInBlock, EachInHandlers}
use Rattle.sim_model.specs.declared.plain.Goal.{Goal}
use Rattle.laws_runs.specs.Standing.{code_of, IsUnwindBlock, OfBody, OfUnwindBlock, IsOverHop, IsOrdinary, IsUnwinding, IsStanding}
use Rattle.laws_runs.proofs.Blocks.{unwind-block}

-- ---- what is ordinary stands, and what has no goal is ordinary

pub ordinary-standing : (d : Design) (home : ℕ) (r : Residual) → IsOrdinary (OfBody d) d home r → IsStanding d home r
ordinary-standing d home skip h = tt
ordinary-standing d home (one s) h = h
ordinary-standing d home (batch s qs) h = h
ordinary-standing d home (seq r ss) h = (ordinary-standing d home r h.0, h.1)
ordinary-standing d home (owing r g u) h = absurd h
ordinary-standing d home (guard r g u) h = (ordinary-standing d home r h.0, h.1)
ordinary-standing d home (try_ r handlers) h = (ordinary-standing d home r h.0, h.1)
ordinary-standing d home (frame r x) h = (h.0, ordinary-standing d (home_of_via d home x.via) r h.1)
ordinary-standing d home (shell r x) h = absurd h
ordinary-standing d home (run g r) h = absurd h
ordinary-standing d home (goal r k) h = absurd h

pub goalless-ordinary : (d : Design) (home : ℕ) (r : Residual) → IsStanding d home r → has_goal r ≡ false → IsOrdinary (OfBody d) d home r
goalless-ordinary d home skip h none = tt
goalless-ordinary d home (one s) h none = h
goalless-ordinary d home (batch s qs) h none = h
goalless-ordinary d home (seq r ss) h none = (goalless-ordinary d home r h.0 none, h.1)
goalless-ordinary d home (owing r g u) h none = absurd h
goalless-ordinary d home (guard r g u) h none = (goalless-ordinary d home r h.0 none, h.1)
goalless-ordinary d home (try_ r handlers) h none = (goalless-ordinary d home r h.0 none, h.1)
goalless-ordinary d home (frame r x) h none = (h.0, goalless-ordinary d (home_of_via d home x.via) r h.1 none)
goalless-ordinary d home (shell r x) h none = absurd h
goalless-ordinary d home (run g r) h none = absurd h
goalless-ordinary d home (goal r k) h none = absurd (true≢false none)

-- ---- statements, and what follows

module _ (P : ℕ → ℕ → Type 0) (d : Design) (home : ℕ) where
  pub followed-ordinary : (r : Residual) (ss : List ℕ) → IsOrdinary P d home r → EachOf (P home) ss → IsOrdinary P d home (followed r ss)
  followed-ordinary r [] h e = h
  followed-ordinary r (s ∷ ss) h e = (h, e)

  pub statements-ordinary : (ss : List ℕ) → EachOf (P home) ss → IsOrdinary P d home (statements ss)
  statements-ordinary [] e = tt
  statements-ordinary (s ∷ ss) e = followed-ordinary (one s) ss e.0 e.1

  then_ordinary : (r : Residual) (ss : List ℕ) → IsOrdinary P d home r → EachOf (P home) ss → IsOrdinary P d home (then_on r ss)
  then_ordinary skip ss h e = statements-ordinary ss e
  then_ordinary other ss h e = followed-ordinary other ss h e

  guard_ordinary : (r : Residual) (g u : ℕ) → IsOrdinary P d home r → IsUnwindBlock d home u → IsOrdinary P d home (in_guard r g u)
  guard_ordinary skip g u h e = tt
  guard_ordinary other g u h e = (h, e)

  try_ordinary : (r : Residual) (handlers : List Handler) → IsOrdinary P d home r → EachInHandlers (P home) (code_of d) handlers → IsOrdinary P d home (in_try r handlers)
  try_ordinary skip handlers h e = tt
  try_ordinary other handlers h e = (h, e)

pub followed-standing : (d : Design) (home : ℕ) (r : Residual) (ss : List ℕ) → IsStanding d home r → EachOf (OfBody d home) ss → IsStanding d home (followed r ss)
followed-standing d home r [] h e = h
followed-standing d home r (s ∷ ss) h e = (h, e)

-- ---- settling

pub settle-ordinary : (P : ℕ → ℕ → Type 0) (d : Design) (home : ℕ) (r : Residual) → IsOrdinary P d home r → IsOrdinary P d home (settle (code_of d) r)
settle-ordinary P d home skip h = tt
settle-ordinary P d home (one s) h = h
settle-ordinary P d home (batch s []) h = tt
settle-ordinary P d home (batch s (q ∷ qs)) h = h
settle-ordinary P d home (seq r ss) h = then_ordinary P d home (settle (code_of d) r) ss (settle-ordinary P d home r h.0) h.1
settle-ordinary P d home (owing r g u) h = absurd h
settle-ordinary P d home (guard r g u) h = guard_ordinary P d home (settle (code_of d) r) g u (settle-ordinary P d home r h.0) h.1
settle-ordinary P d home (try_ r handlers) h = try_ordinary P d home (settle (code_of d) r) handlers (settle-ordinary P d home r h.0) h.1
settle-ordinary P d home (frame r x) h = (h.0, settle-ordinary P d (home_of_via d home x.via) r h.1)
settle-ordinary P d home (shell r x) h = absurd h
settle-ordinary P d home (run g r) h = absurd h
settle-ordinary P d home (goal r k) h = absurd h

module _ (d : Design) where
  run_unwinding : (home g : ℕ) (r : Residual) → IsOrdinary (OfUnwindBlock d) d home r → IsUnwinding d home (in_run g r)
  run_unwinding home g skip h = tt
  run_unwinding home g other h = h

  owed_unwinding : (home : ℕ) (r : Residual) (g u : ℕ) → IsUnwinding d home r → IsUnwindBlock d home u → IsUnwinding d home (then_owed (code_of d) r g u)
  owed_unwinding home skip g u h e = run_unwinding home g (block (code_of d) u) (statements-ordinary (OfUnwindBlock d) d home (block_at (code_of d) u) (unwind-block d home u e))
  owed_unwinding home other g u h e = (h, e)

  shell_unwinding : (home : ℕ) (r : Residual) (x : Frame) → IsOverHop d x.via → IsUnwinding d (home_of_via d home x.via) r → IsUnwinding d home (in_shell r x)
  shell_unwinding home skip x o h = tt
  shell_unwinding home other x o h = (o, h)

  pub settle-unwinding : (home : ℕ) (r : Residual) → IsUnwinding d home r → IsUnwinding d home (settle (code_of d) r)
  settle-unwinding home skip h = tt
  settle-unwinding home (one s) h = absurd h
  settle-unwinding home (batch s qs) h = absurd h
  settle-unwinding home (seq r ss) h = absurd h
  settle-unwinding home (owing r g u) h = owed_unwinding home (settle (code_of d) r) g u (settle-unwinding home r h.0) h.1
  settle-unwinding home (guard r g u) h = absurd h
  settle-unwinding home (try_ r handlers) h = absurd h
  settle-unwinding home (frame r x) h = absurd h
  settle-unwinding home (shell r x) h = shell_unwinding home (settle (code_of d) r) x h.0 (settle-unwinding (home_of_via d home x.via) r h.1)
  settle-unwinding home (run g r) h = run_unwinding home g (settle (code_of d) r) (settle-ordinary (OfUnwindBlock d) d home r h)
  settle-unwinding home (goal r k) h = absurd h

  then_standing : (home : ℕ) (r : Residual) (ss : List ℕ) → IsStanding d home r → EachOf (OfBody d home) ss → IsStanding d home (then_on r ss)
  then_standing home skip ss h e = ordinary-standing d home (statements ss) (statements-ordinary (OfBody d) d home ss e)
  then_standing home other ss h e = followed-standing d home other ss h e

  guard_standing : (home : ℕ) (r : Residual) (g u : ℕ) → IsStanding d home r → IsUnwindBlock d home u → IsStanding d home (in_guard r g u)
  guard_standing home skip g u h e = tt
  guard_standing home other g u h e = (h, e)

  try_standing : (home : ℕ) (r : Residual) (handlers : List Handler) → IsStanding d home r → EachInHandlers (OfBody d home) (code_of d) handlers → IsStanding d home (in_try r handlers)
  try_standing home skip handlers h e = tt
  try_standing home other handlers h e = (h, e)

  pub settle-standing : (home : ℕ) (r : Residual) → IsStanding d home r → IsStanding d home (settle (code_of d) r)
  settle-standing home skip h = tt
  settle-standing home (one s) h = h
  settle-standing home (batch s []) h = tt
  settle-standing home (batch s (q ∷ qs)) h = h
  settle-standing home (seq r ss) h = then_standing home (settle (code_of d) r) ss (settle-standing home r h.0) h.1
  settle-standing home (owing r g u) h = absurd h
  settle-standing home (guard r g u) h = guard_standing home (settle (code_of d) r) g u (settle-standing home r h.0) h.1
  settle-standing home (try_ r handlers) h = try_standing home (settle (code_of d) r) handlers (settle-standing home r h.0) h.1
  settle-standing home (frame r x) h = (h.0, settle-standing (home_of_via d home x.via) r h.1)
  settle-standing home (shell r x) h = absurd h
  settle-standing home (run g r) h = absurd h
  settle-standing home (goal r k) h = settle-unwinding home r h

-- ---- a return, and a local variable that is set

module _ (v : Option Value) where
  ordinary_if : (b : Bool) (P : ℕ → ℕ → Type 0) (d : Design) (home : ℕ) (r s : Residual) → IsOrdinary P d home r → IsOrdinary P d home s → IsOrdinary P d home (cond b r s)
  ordinary_if true P d home r s one_ two = one_
  ordinary_if false P d home r s one_ two = two

  returned_ordinary : (P : ℕ → ℕ → Type 0) (d : Design) (home : ℕ) (r : Residual) → IsOrdinary P d home r → IsOrdinary P d home (returned v r)
  returned_ordinary P d home skip h = tt
  returned_ordinary P d home (one s) h = h
  returned_ordinary P d home (batch s qs) h = h
  returned_ordinary P d home (seq r ss) h = (returned_ordinary P d home r h.0, h.1)
  returned_ordinary P d home (owing r g u) h = absurd h
  returned_ordinary P d home (guard r g u) h = (returned_ordinary P d home r h.0, h.1)
  returned_ordinary P d home (try_ r handlers) h = (returned_ordinary P d home r h.0, h.1)
  returned_ordinary P d home (frame r x) h =
      ordinary_if (has_exit r) P d home (frame (returned v r) x) (frame skip (record x { answer = v })) (h.0, returned_ordinary P d (home_of_via d home x.via) r h.1) (h.0, tt)
  returned_ordinary P d home (shell r x) h = absurd h
  returned_ordinary P d home (run g r) h = absurd h
  returned_ordinary P d home (goal r k) h = absurd h

  unwinding_if : (b : Bool) (d : Design) (home : ℕ) (r s : Residual) → IsUnwinding d home r → IsUnwinding d home s → IsUnwinding d home (cond b r s)
  unwinding_if true d home r s one_ two = one_
  unwinding_if false d home r s one_ two = two

  returned_unwinding : (d : Design) (home : ℕ) (r : Residual) → IsUnwinding d home r → IsUnwinding d home (returned v r)
  returned_unwinding d home skip h = tt
  returned_unwinding d home (one s) h = absurd h
  returned_unwinding d home (batch s qs) h = absurd h
  returned_unwinding d home (seq r ss) h = absurd h
  returned_unwinding d home (owing r g u) h = (returned_unwinding d home r h.0, h.1)
  returned_unwinding d home (guard r g u) h = absurd h
  returned_unwinding d home (try_ r handlers) h = absurd h
  returned_unwinding d home (frame r x) h = absurd h
  returned_unwinding d home (shell r x) h = (h.0, returned_unwinding d (home_of_via d home x.via) r h.1)
  returned_unwinding d home (run g r) h = unwinding_if (has_exit r) d home (run g (returned v r)) (run g skip) (returned_ordinary (OfUnwindBlock d) d home r h) tt
  returned_unwinding d home (goal r k) h = absurd h

  standing_if : (b : Bool) (d : Design) (home : ℕ) (r s : Residual) → IsStanding d home r → IsStanding d home s → IsStanding d home (cond b r s)
  standing_if true d home r s one_ two = one_
  standing_if false d home r s one_ two = two

  pub returned-standing : (d : Design) (home : ℕ) (r : Residual) → IsStanding d home r → IsStanding d home (returned v r)
  returned-standing d home skip h = tt
  returned-standing d home (one s) h = h
  returned-standing d home (batch s qs) h = h
  returned-standing d home (seq r ss) h = (returned-standing d home r h.0, h.1)
  returned-standing d home (owing r g u) h = absurd h
  returned-standing d home (guard r g u) h = (returned-standing d home r h.0, h.1)
  returned-standing d home (try_ r handlers) h = (returned-standing d home r h.0, h.1)
  returned-standing d home (frame r x) h =
      standing_if (has_exit r) d home (frame (returned v r) x) (frame skip (record x { answer = v })) (h.0, returned-standing d (home_of_via d home x.via) r h.1) (h.0, tt)
  returned-standing d home (shell r x) h = absurd h
  returned-standing d home (run g r) h = absurd h
  returned-standing d home (goal r k) h = returned_unwinding d home r h

module _ (n : ℕ) (v : Value) where
  same_via : (o : Option Frame) (x : Frame) → (changed_if o (with_local n v) x).via ≡ x.via
  same_via None x = refl
  same_via (Some y) x = refl

  local_ordinary : (P : ℕ → ℕ → Type 0) (d : Design) (home : ℕ) (r : Residual) → IsOrdinary P d home r → IsOrdinary P d home (in_innermost (with_local n v) r)
  local_ordinary P d home skip h = tt
  local_ordinary P d home (one s) h = h
  local_ordinary P d home (batch s qs) h = h
  local_ordinary P d home (seq r ss) h = (local_ordinary P d home r h.0, h.1)
  local_ordinary P d home (owing r g u) h = absurd h
  local_ordinary P d home (guard r g u) h = (local_ordinary P d home r h.0, h.1)
  local_ordinary P d home (try_ r handlers) h = (local_ordinary P d home r h.0, h.1)
  local_ordinary P d home (frame r x) h =
      subst (λ via. IsOverHop d via × IsOrdinary P d (home_of_via d home via) (in_innermost (with_local n v) r)) (sym (same_via (innermost r) x)) (h.0, local_ordinary P d (home_of_via d home x.via) r h.1)
  local_ordinary P d home (shell r x) h = absurd h
  local_ordinary P d home (run g r) h = absurd h
  local_ordinary P d home (goal r k) h = absurd h

  local_unwinding : (d : Design) (home : ℕ) (r : Residual) → IsUnwinding d home r → IsUnwinding d home (in_innermost (with_local n v) r)
  local_unwinding d home skip h = tt
  local_unwinding d home (one s) h = absurd h
  local_unwinding d home (batch s qs) h = absurd h
  local_unwinding d home (seq r ss) h = absurd h
  local_unwinding d home (owing r g u) h = (local_unwinding d home r h.0, h.1)
  local_unwinding d home (guard r g u) h = absurd h
  local_unwinding d home (try_ r handlers) h = absurd h
  local_unwinding d home (frame r x) h = absurd h
  local_unwinding d home (shell r x) h =
      subst (λ via. IsOverHop d via × IsUnwinding d (home_of_via d home via) (in_innermost (with_local n v) r)) (sym (same_via (innermost r) x)) (h.0, local_unwinding d (home_of_via d home x.via) r h.1)
  local_unwinding d home (run g r) h = local_ordinary (OfUnwindBlock d) d home r h
  local_unwinding d home (goal r k) h = absurd h

  pub local-standing : (d : Design) (home : ℕ) (r : Residual) → IsStanding d home r → IsStanding d home (in_innermost (with_local n v) r)
  local-standing d home skip h = tt
  local-standing d home (one s) h = h
  local-standing d home (batch s qs) h = h
  local-standing d home (seq r ss) h = (local-standing d home r h.0, h.1)
  local-standing d home (owing r g u) h = absurd h
  local-standing d home (guard r g u) h = (local-standing d home r h.0, h.1)
  local-standing d home (try_ r handlers) h = (local-standing d home r h.0, h.1)
  local-standing d home (frame r x) h =
      subst (λ via. IsOverHop d via × IsStanding d (home_of_via d home via) (in_innermost (with_local n v) r)) (sym (same_via (innermost r) x)) (h.0, local-standing d (home_of_via d home x.via) r h.1)
  local-standing d home (shell r x) h = absurd h
  local-standing d home (run g r) h = absurd h
  local-standing d home (goal r k) h = local_unwinding d home r h

-- ---- a call that is owed to one instance less

off_ordinary : (P : ℕ → ℕ → Type 0) (d : Design) (home : ℕ) (r : Residual) → IsOrdinary P d home r → IsOrdinary P d home (taken_off r)
off_ordinary P d home skip h = tt
off_ordinary P d home (one s) h = h
off_ordinary P d home (batch s qs) h = h
off_ordinary P d home (seq r ss) h = (off_ordinary P d home r h.0, h.1)
off_ordinary P d home (owing r g u) h = absurd h
off_ordinary P d home (guard r g u) h = (off_ordinary P d home r h.0, h.1)
off_ordinary P d home (try_ r handlers) h = (off_ordinary P d home r h.0, h.1)
off_ordinary P d home (frame r x) h = (h.0, off_ordinary P d (home_of_via d home x.via) r h.1)
off_ordinary P d home (shell r x) h = absurd h
off_ordinary P d home (run g r) h = absurd h
off_ordinary P d home (goal r k) h = absurd h

off_unwinding : (d : Design) (home : ℕ) (r : Residual) → IsUnwinding d home r → IsUnwinding d home (taken_off r)
off_unwinding d home skip h = tt
off_unwinding d home (one s) h = absurd h
off_unwinding d home (batch s qs) h = absurd h
off_unwinding d home (seq r ss) h = absurd h
off_unwinding d home (owing r g u) h = (off_unwinding d home r h.0, h.1)
off_unwinding d home (guard r g u) h = absurd h
off_unwinding d home (try_ r handlers) h = absurd h
off_unwinding d home (frame r x) h = absurd h
off_unwinding d home (shell r x) h = (h.0, off_unwinding d (home_of_via d home x.via) r h.1)
off_unwinding d home (run g r) h = off_ordinary (OfUnwindBlock d) d home r h
off_unwinding d home (goal r k) h = absurd h

pub off-standing : (d : Design) (home : ℕ) (r : Residual) → IsStanding d home r → IsStanding d home (taken_off r)
off-standing d home skip h = tt
off-standing d home (one s) h = h
off-standing d home (batch s qs) h = h
off-standing d home (seq r ss) h = (off-standing d home r h.0, h.1)
off-standing d home (owing r g u) h = absurd h
off-standing d home (guard r g u) h = (off-standing d home r h.0, h.1)
off-standing d home (try_ r handlers) h = (off-standing d home r h.0, h.1)
off-standing d home (frame r x) h = (h.0, off-standing d (home_of_via d home x.via) r h.1)
off-standing d home (shell r x) h = absurd h
off-standing d home (run g r) h = absurd h
off-standing d home (goal r k) h = off_unwinding d home r h

-- ---- unwinding, and exceptions

pub unw-unwinding : (P : ℕ → ℕ → Type 0) (d : Design) (home : ℕ) (r : Residual) → IsOrdinary P d home r → IsUnwinding d home (unw r)
unw-unwinding P d home skip h = tt
unw-unwinding P d home (one s) h = tt
unw-unwinding P d home (batch s qs) h = tt
unw-unwinding P d home (seq r ss) h = unw-unwinding P d home r h.0
unw-unwinding P d home (owing r g u) h = absurd h
unw-unwinding P d home (guard r g u) h = (unw-unwinding P d home r h.0, h.1)
unw-unwinding P d home (try_ r handlers) h = unw-unwinding P d home r h.0
unw-unwinding P d home (frame r x) h = (h.0, unw-unwinding P d (home_of_via d home x.via) r h.1)
unw-unwinding P d home (shell r x) h = absurd h
unw-unwinding P d home (run g r) h = absurd h
unw-unwinding P d home (goal r k) h = absurd h

module _ (d : Design) (e : ℕ) (k : Goal) where
  handler_either : (b : Bool) (home : ℕ) (x : Handler) (o : Option Handler) → EachInBlock (OfBody d home) (code_of d) x.block → EachOf (OfBody d home) (handler_block (code_of d) o) → EachOf (OfBody d home) (handler_block (code_of d) (cond b (Some x) o))
  handler_either true home x o one_ two = one_
  handler_either false home x o one_ two = two

  handler_each : (home : ℕ) (handlers : List Handler) → EachInHandlers (OfBody d home) (code_of d) handlers → EachOf (OfBody d home) (handler_block (code_of d) (handler_of handlers e))
  handler_each home [] h = tt
  handler_each home (x ∷ xs) h = handler_either (x.exception == e) home x (handler_of xs e) h.0 (handler_each home xs h.1)

  try_raised : (b c : Bool) (home : ℕ) (r : Residual) (handlers : List Handler) → IsOrdinary (OfBody d) d home r → EachInHandlers (OfBody d home) (code_of d) handlers → IsStanding d home (raise (code_of d) r e k)
      → IsStanding d home (cond b (try_ (raise (code_of d) r e k) handlers) (cond c (handled (code_of d) r handlers e k) (try_ r handlers)))
  try_raised true c home r handlers h each later = (later, each)
  try_raised false true home r handlers h each later = followed-standing d home (goal (unw r) k) (handler_block (code_of d) (handler_of handlers e)) (unw-unwinding (OfBody d) d home r h) (handler_each home handlers each)
  try_raised false false home r handlers h each later = (ordinary-standing d home r h, each)

  pub raise-standing : (home : ℕ) (r : Residual) → IsOrdinary (OfBody d) d home r → IsStanding d home (raise (code_of d) r e k)
  raise-standing home skip h = tt
  raise-standing home (one s) h = h
  raise-standing home (batch s qs) h = h
  raise-standing home (seq r ss) h = (raise-standing home r h.0, h.1)
  raise-standing home (owing r g u) h = absurd h
  raise-standing home (guard r g u) h = (raise-standing home r h.0, h.1)
  raise-standing home (try_ r handlers) h = try_raised (catches r e) (handles handlers e) home r handlers h.0 h.1 (raise-standing home r h.0)
  raise-standing home (frame r x) h = (h.0, raise-standing (home_of_via d home x.via) r h.1)
  raise-standing home (shell r x) h = absurd h
  raise-standing home (run g r) h = absurd h
  raise-standing home (goal r j) h = absurd h
