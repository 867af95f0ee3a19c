-- Each move of a residual keeps its shape.
use Rattle.std.proofs.Common.{◌≡◌, ◌≤◌, ℕ, Bool, true, false, cond, List, [], ◌∷◌, Option, Some, None, refl, arith, true≢false}
use Rattle.sim_model.specs.LogicValues.declared.kinds.Value.{Value}
use Rattle.sim_model.specs.FlatDesign.Code.{Arena, block_at, body_at}
use Rattle.sim_model.specs.FlatDesign.declared.code.CodeBody.{CodeBody}
use Rattle.sim_model.specs.FlatDesign.declared.code.Handler.{Handler}
use Rattle.sim_model.specs.Residual.{Residual, Frame, skip, one, batch, seq, owing, guard, try_, frame, shell, run, goal, followed, statements, block, then_on, in_run, then_owed, in_guard, in_try, in_shell, settle, frame_or, goal_or, put, in_innermost, has_goal, entered_in, entered}
use Rattle.sim_model.specs.Unwinding.{unw, catches, handles, handler_block, handler_of, handled, raise, has_exit, returned}
use Rattle.sim_model.specs.Clean.{goals_in, owes, OneAtATime}
use Rattle.sim_model.specs.declared.plain.Goal.{Goal}
use Rattle.sim_model.specs.declared.plain.Via.{Via}
use Rattle.laws_runs.specs.Shapes.{IsNormal, IsUnwound, IsShaped}

-- ---- what is normal is shaped, and what has no goal is normal

pub normal-shaped : (r : Residual) → IsNormal r → IsShaped r
normal-shaped skip h = tt
normal-shaped (one s) h = tt
normal-shaped (batch s qs) h = tt
normal-shaped (seq r ss) h = normal-shaped r h
normal-shaped (owing r g u) h = absurd h
normal-shaped (guard r g u) h = normal-shaped r h
normal-shaped (try_ r handlers) h = normal-shaped r h
normal-shaped (frame r x) h = normal-shaped r h
normal-shaped (shell r x) h = absurd h
normal-shaped (run g r) h = absurd h
normal-shaped (goal r k) h = absurd h

pub goalless-normal : (r : Residual) → IsShaped r → has_goal r ≡ false → IsNormal r
goalless-normal skip h none = tt
goalless-normal (one s) h none = tt
goalless-normal (batch s qs) h none = tt
goalless-normal (seq r ss) h none = goalless-normal r h none
goalless-normal (owing r g u) h none = absurd h
goalless-normal (guard r g u) h none = goalless-normal r h none
goalless-normal (try_ r handlers) h none = goalless-normal r h none
goalless-normal (frame r x) h none = goalless-normal r h none
goalless-normal (shell r x) h none = absurd h
goalless-normal (run g r) h none = absurd h
goalless-normal (goal r k) h none = absurd (true≢false none)

-- ---- statements, blocks and bodies that begin

pub followed-shaped : (r : Residual) (ss : List ℕ) → IsShaped r → IsShaped (followed r ss)
followed-shaped r [] h = h
followed-shaped r (s ∷ ss) h = h

pub followed-normal : (r : Residual) (ss : List ℕ) → IsNormal r → IsNormal (followed r ss)
followed-normal r [] h = h
followed-normal r (s ∷ ss) h = h

statements-normal : (ss : List ℕ) → IsNormal (statements ss)
statements-normal [] = tt
statements-normal (s ∷ ss) = followed-normal (one s) ss tt

pub block-normal : (a : Arena) (b : ℕ) → IsNormal (block a b)
block-normal a b = statements-normal (block_at a b)

entered_normal : (a : Arena) (f : ℕ) (args : List Value) (call : Option ℕ) (via : Option Via) (b : Option CodeBody) → IsNormal (entered_in a f args call via b)
entered_normal a f args call via None = tt
entered_normal a f args call via (Some b) = block-normal a b.block

pub entered-normal : (a : Arena) (f : ℕ) (args : List Value) (call : Option ℕ) (via : Option Via) → IsNormal (entered a f args call via)
entered-normal a f args call via = entered_normal a f args call via (body_at a f)

-- ---- settling

module _ (a : Arena) where
  then_normal : (r : Residual) (ss : List ℕ) → IsNormal r → IsNormal (then_on r ss)
  then_normal skip ss h = statements-normal ss
  then_normal other ss h = followed-normal other ss h

  guard_normal : (r : Residual) (g u : ℕ) → IsNormal r → IsNormal (in_guard r g u)
  guard_normal skip g u h = tt
  guard_normal other g u h = h

  try_normal : (r : Residual) (handlers : List Handler) → IsNormal r → IsNormal (in_try r handlers)
  try_normal skip handlers h = tt
  try_normal other handlers h = h

  pub settle-normal : (r : Residual) → IsNormal r → IsNormal (settle a r)
  settle-normal skip h = tt
  settle-normal (one s) h = tt
  settle-normal (batch s []) h = tt
  settle-normal (batch s (q ∷ qs)) h = tt
  settle-normal (seq r ss) h = then_normal (settle a r) ss (settle-normal r h)
  settle-normal (owing r g u) h = absurd h
  settle-normal (guard r g u) h = guard_normal (settle a r) g u (settle-normal r h)
  settle-normal (try_ r handlers) h = try_normal (settle a r) handlers (settle-normal r h)
  settle-normal (frame r x) h = settle-normal r h
  settle-normal (shell r x) h = absurd h
  settle-normal (run g r) h = absurd h
  settle-normal (goal r k) h = absurd h

  run_unwound : (g : ℕ) (r : Residual) → IsNormal r → IsUnwound (in_run g r)
  run_unwound g skip h = tt
  run_unwound g other h = h

  owed_unwound : (r : Residual) (g u : ℕ) → IsUnwound r → IsUnwound (then_owed a r g u)
  owed_unwound skip g u h = run_unwound g (block a u) (block-normal a u)
  owed_unwound other g u h = h

  shell_unwound : (r : Residual) (x : Frame) → IsUnwound r → IsUnwound (in_shell r x)
  shell_unwound skip x h = tt
  shell_unwound other x h = h

  pub settle-unwound : (r : Residual) → IsUnwound r → IsUnwound (settle a r)
  settle-unwound skip h = tt
  settle-unwound (one s) h = absurd h
  settle-unwound (batch s qs) h = absurd h
  settle-unwound (seq r ss) h = absurd h
  settle-unwound (owing r g u) h = owed_unwound (settle a r) g u (settle-unwound r h)
  settle-unwound (guard r g u) h = absurd h
  settle-unwound (try_ r handlers) h = absurd h
  settle-unwound (frame r x) h = absurd h
  settle-unwound (shell r x) h = shell_unwound (settle a r) x (settle-unwound r h)
  settle-unwound (run g r) h = run_unwound g (settle a r) (settle-normal r h)
  settle-unwound (goal r k) h = absurd h

  then_shaped : (r : Residual) (ss : List ℕ) → IsShaped r → IsShaped (then_on r ss)
  then_shaped skip ss h = normal-shaped (statements ss) (statements-normal ss)
  then_shaped other ss h = followed-shaped other ss h

  guard_shaped : (r : Residual) (g u : ℕ) → IsShaped r → IsShaped (in_guard r g u)
  guard_shaped skip g u h = tt
  guard_shaped other g u h = h

  try_shaped : (r : Residual) (handlers : List Handler) → IsShaped r → IsShaped (in_try r handlers)
  try_shaped skip handlers h = tt
  try_shaped other handlers h = h

  pub settle-shaped : (r : Residual) → IsShaped r → IsShaped (settle a r)
  settle-shaped skip h = tt
  settle-shaped (one s) h = tt
  settle-shaped (batch s []) h = tt
  settle-shaped (batch s (q ∷ qs)) h = tt
  settle-shaped (seq r ss) h = then_shaped (settle a r) ss (settle-shaped r h)
  settle-shaped (owing r g u) h = absurd h
  settle-shaped (guard r g u) h = guard_shaped (settle a r) g u (settle-shaped r h)
  settle-shaped (try_ r handlers) h = try_shaped (settle a r) handlers (settle-shaped r h)
  settle-shaped (frame r x) h = settle-shaped r h
  settle-shaped (shell r x) h = absurd h
  settle-shaped (run g r) h = absurd h
  settle-shaped (goal r k) h = settle-unwound r h

-- ---- what comes next is put

module _ (n : Residual) (normal : IsNormal n) where
  frame_normal : (r : Residual) (x : Frame) (inside : Residual) → IsNormal inside → IsNormal (frame_or r x n inside)
  frame_normal skip x inside h = normal
  frame_normal other x inside h = h

  put-normal : (r : Residual) → IsNormal r → IsNormal (put r n)
  put-normal skip h = tt
  put-normal (one s) h = normal
  put-normal (batch s qs) h = normal
  put-normal (seq r ss) h = followed-normal (put r n) ss (put-normal r h)
  put-normal (owing r g u) h = absurd h
  put-normal (guard r g u) h = put-normal r h
  put-normal (try_ r handlers) h = put-normal r h
  put-normal (frame r x) h = frame_normal r x (put r n) (put-normal r h)
  put-normal (shell r x) h = absurd h
  put-normal (run g r) h = absurd h
  put-normal (goal r k) h = absurd h

  put-unwound : (r : Residual) → IsUnwound r → IsUnwound (put r n)
  put-unwound skip h = tt
  put-unwound (one s) h = absurd h
  put-unwound (batch s qs) h = absurd h
  put-unwound (seq r ss) h = absurd h
  put-unwound (owing r g u) h = put-unwound r h
  put-unwound (guard r g u) h = absurd h
  put-unwound (try_ r handlers) h = absurd h
  put-unwound (frame r x) h = absurd h
  put-unwound (shell r x) h = put-unwound r h
  put-unwound (run g r) h = put-normal r h
  put-unwound (goal r k) h = absurd h

  frame_shaped : (r : Residual) (x : Frame) (inside : Residual) → IsShaped inside → IsShaped (frame_or r x n inside)
  frame_shaped skip x inside h = normal-shaped n normal
  frame_shaped other x inside h = h

  goal_shaped : (r : Residual) (k : Goal) (inside : Residual) → IsUnwound inside → IsShaped (goal_or r k n inside)
  goal_shaped skip k inside h = normal-shaped n normal
  goal_shaped other k inside h = h

  pub put-shaped : (r : Residual) → IsShaped r → IsShaped (put r n)
  put-shaped skip h = tt
  put-shaped (one s) h = normal-shaped n normal
  put-shaped (batch s qs) h = normal-shaped n normal
  put-shaped (seq r ss) h = followed-shaped (put r n) ss (put-shaped r h)
  put-shaped (owing r g u) h = absurd h
  put-shaped (guard r g u) h = put-shaped r h
  put-shaped (try_ r handlers) h = put-shaped r h
  put-shaped (frame r x) h = frame_shaped r x (put r n) (put-shaped r h)
  put-shaped (shell r x) h = absurd h
  put-shaped (run g r) h = absurd h
  put-shaped (goal r k) h = goal_shaped r k (put r n) (put-unwound r h)

-- ---- a return, and a local variable that is set

module _ (v : Option Value) where
  normal_if : (b : Bool) (r s : Residual) → IsNormal r → IsNormal s → IsNormal (cond b r s)
  normal_if true r s one_ two = one_
  normal_if false r s one_ two = two

  returned-normal : (r : Residual) → IsNormal r → IsNormal (returned v r)
  returned-normal skip h = tt
  returned-normal (one s) h = tt
  returned-normal (batch s qs) h = tt
  returned-normal (seq r ss) h = returned-normal r h
  returned-normal (owing r g u) h = absurd h
  returned-normal (guard r g u) h = returned-normal r h
  returned-normal (try_ r handlers) h = returned-normal r h
  returned-normal (frame r x) h = normal_if (has_exit r) (frame (returned v r) x) (frame skip _) (returned-normal r h) tt
  returned-normal (shell r x) h = absurd h
  returned-normal (run g r) h = absurd h
  returned-normal (goal r k) h = absurd h

  unwound_if : (b : Bool) (r s : Residual) → IsUnwound r → IsUnwound s → IsUnwound (cond b r s)
  unwound_if true r s one_ two = one_
  unwound_if false r s one_ two = two

  returned-unwound : (r : Residual) → IsUnwound r → IsUnwound (returned v r)
  returned-unwound skip h = tt
  returned-unwound (one s) h = absurd h
  returned-unwound (batch s qs) h = absurd h
  returned-unwound (seq r ss) h = absurd h
  returned-unwound (owing r g u) h = returned-unwound r h
  returned-unwound (guard r g u) h = absurd h
  returned-unwound (try_ r handlers) h = absurd h
  returned-unwound (frame r x) h = absurd h
  returned-unwound (shell r x) h = returned-unwound r h
  returned-unwound (run g r) h = unwound_if (has_exit r) (run g (returned v r)) (run g skip) (returned-normal r h) tt
  returned-unwound (goal r k) h = absurd h

  shaped_if : (b : Bool) (r s : Residual) → IsShaped r → IsShaped s → IsShaped (cond b r s)
  shaped_if true r s one_ two = one_
  shaped_if false r s one_ two = two

  pub returned-shaped : (r : Residual) → IsShaped r → IsShaped (returned v r)
  returned-shaped skip h = tt
  returned-shaped (one s) h = tt
  returned-shaped (batch s qs) h = tt
  returned-shaped (seq r ss) h = returned-shaped r h
  returned-shaped (owing r g u) h = absurd h
  returned-shaped (guard r g u) h = returned-shaped r h
  returned-shaped (try_ r handlers) h = returned-shaped r h
  returned-shaped (frame r x) h = shaped_if (has_exit r) (frame (returned v r) x) (frame skip _) (returned-shaped r h) tt
  returned-shaped (shell r x) h = absurd h
  returned-shaped (run g r) h = absurd h
  returned-shaped (goal r k) h = returned-unwound r h

module _ (f : Frame → Frame) where
  local_normal : (r : Residual) → IsNormal r → IsNormal (in_innermost f r)
  local_normal skip h = tt
  local_normal (one s) h = tt
  local_normal (batch s qs) h = tt
  local_normal (seq r ss) h = local_normal r h
  local_normal (owing r g u) h = absurd h
  local_normal (guard r g u) h = local_normal r h
  local_normal (try_ r handlers) h = local_normal r h
  local_normal (frame r x) h = local_normal r h
  local_normal (shell r x) h = absurd h
  local_normal (run g r) h = absurd h
  local_normal (goal r k) h = absurd h

  local_unwound : (r : Residual) → IsUnwound r → IsUnwound (in_innermost f r)
  local_unwound skip h = tt
  local_unwound (one s) h = absurd h
  local_unwound (batch s qs) h = absurd h
  local_unwound (seq r ss) h = absurd h
  local_unwound (owing r g u) h = local_unwound r h
  local_unwound (guard r g u) h = absurd h
  local_unwound (try_ r handlers) h = absurd h
  local_unwound (frame r x) h = absurd h
  local_unwound (shell r x) h = local_unwound r h
  local_unwound (run g r) h = local_normal r h
  local_unwound (goal r k) h = absurd h

  pub local-shaped : (r : Residual) → IsShaped r → IsShaped (in_innermost f r)
  local-shaped skip h = tt
  local-shaped (one s) h = tt
  local-shaped (batch s qs) h = tt
  local-shaped (seq r ss) h = local-shaped r h
  local-shaped (owing r g u) h = absurd h
  local-shaped (guard r g u) h = local-shaped r h
  local-shaped (try_ r handlers) h = local-shaped r h
  local-shaped (frame r x) h = local-shaped r h
  local-shaped (shell r x) h = absurd h
  local-shaped (run g r) h = absurd h
  local-shaped (goal r k) h = local_unwound r h

-- ---- unwinding

pub unw-unwound : (r : Residual) → IsNormal r → IsUnwound (unw r)
unw-unwound skip h = tt
unw-unwound (one s) h = tt
unw-unwound (batch s qs) h = tt
unw-unwound (seq r ss) h = unw-unwound r h
unw-unwound (owing r g u) h = absurd h
unw-unwound (guard r g u) h = unw-unwound r h
unw-unwound (try_ r handlers) h = unw-unwound r h
unw-unwound (frame r x) h = unw-unwound r h
unw-unwound (shell r x) h = absurd h
unw-unwound (run g r) h = absurd h
unw-unwound (goal r k) h = absurd h

module _ (a : Arena) (e : ℕ) (k : Goal) where
  try_raised : (b c : Bool) (r : Residual) (handlers : List Handler) → IsNormal r → IsShaped (raise a r e k) → IsShaped (cond b (try_ (raise a r e k) handlers) (cond c (handled a r handlers e k) (try_ r handlers)))
  try_raised true c r handlers h later = later
  try_raised false true r handlers h later = followed-shaped (goal (unw r) k) (handler_block a (handler_of handlers e)) (unw-unwound r h)
  try_raised false false r handlers h later = normal-shaped r h

  pub raise-shaped : (r : Residual) → IsNormal r → IsShaped (raise a r e k)
  raise-shaped skip h = tt
  raise-shaped (one s) h = tt
  raise-shaped (batch s qs) h = tt
  raise-shaped (seq r ss) h = raise-shaped r h
  raise-shaped (owing r g u) h = absurd h
  raise-shaped (guard r g u) h = raise-shaped r h
  raise-shaped (try_ r handlers) h = try_raised (catches r e) (handles handlers e) r handlers h (raise-shaped r h)
  raise-shaped (frame r x) h = raise-shaped r h
  raise-shaped (shell r x) h = absurd h
  raise-shaped (run g r) h = absurd h
  raise-shaped (goal r h0) h = absurd h

-- ---- what a shape says

normal_goals : (r : Residual) → IsNormal r → goals_in r ≡ 0
normal_goals skip h = refl
normal_goals (one s) h = refl
normal_goals (batch s qs) h = refl
normal_goals (seq r ss) h = normal_goals r h
normal_goals (owing r g u) h = absurd h
normal_goals (guard r g u) h = normal_goals r h
normal_goals (try_ r handlers) h = normal_goals r h
normal_goals (frame r x) h = normal_goals r h
normal_goals (shell r x) h = absurd h
normal_goals (run g r) h = absurd h
normal_goals (goal r k) h = absurd h

unwound_goals : (r : Residual) → IsUnwound r → goals_in r ≡ 0
unwound_goals skip h = refl
unwound_goals (one s) h = absurd h
unwound_goals (batch s qs) h = absurd h
unwound_goals (seq r ss) h = absurd h
unwound_goals (owing r g u) h = unwound_goals r h
unwound_goals (guard r g u) h = absurd h
unwound_goals (try_ r handlers) h = absurd h
unwound_goals (frame r x) h = absurd h
unwound_goals (shell r x) h = unwound_goals r h
unwound_goals (run g r) h = normal_goals r h
unwound_goals (goal r k) h = absurd h

pub shaped-goals : (r : Residual) → IsShaped r → goals_in r ≤ 1
shaped-goals skip h = omega arith
shaped-goals (one s) h = omega arith
shaped-goals (batch s qs) h = omega arith
shaped-goals (seq r ss) h = shaped-goals r h
shaped-goals (owing r g u) h = absurd h
shaped-goals (guard r g u) h = shaped-goals r h
shaped-goals (try_ r handlers) h = shaped-goals r h
shaped-goals (frame r x) h = shaped-goals r h
shaped-goals (shell r x) h = absurd h
shaped-goals (run g r) h = absurd h
shaped-goals (goal r k) h = let none = unwound_goals r h in omega (arith, none)

normal_owes : (r : Residual) → IsNormal r → owes r ≡ false
normal_owes skip h = refl
normal_owes (one s) h = refl
normal_owes (batch s qs) h = refl
normal_owes (seq r ss) h = normal_owes r h
normal_owes (owing r g u) h = absurd h
normal_owes (guard r g u) h = normal_owes r h
normal_owes (try_ r handlers) h = normal_owes r h
normal_owes (frame r x) h = normal_owes r h
normal_owes (shell r x) h = absurd h
normal_owes (run g r) h = absurd h
normal_owes (goal r k) h = absurd h

unwound_one : (r : Residual) → IsUnwound r → OneAtATime r
unwound_one skip h = tt
unwound_one (one s) h = absurd h
unwound_one (batch s qs) h = absurd h
unwound_one (seq r ss) h = absurd h
unwound_one (owing r g u) h = unwound_one r h
unwound_one (guard r g u) h = absurd h
unwound_one (try_ r handlers) h = absurd h
unwound_one (frame r x) h = absurd h
unwound_one (shell r x) h = unwound_one r h
unwound_one (run g r) h = normal_owes r h
unwound_one (goal r k) h = absurd h

pub shaped-one : (r : Residual) → IsShaped r → OneAtATime r
shaped-one skip h = tt
shaped-one (one s) h = tt
shaped-one (batch s qs) h = tt
shaped-one (seq r ss) h = shaped-one r h
shaped-one (owing r g u) h = absurd h
shaped-one (guard r g u) h = shaped-one r h
shaped-one (try_ r handlers) h = shaped-one r h
shaped-one (frame r x) h = shaped-one r h
shaped-one (shell r x) h = absurd h
shaped-one (run g r) h = absurd h
shaped-one (goal r k) h = unwound_one r h
