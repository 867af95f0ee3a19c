-- What is left of a body stays one's own when finished parts fall away, when what comes next is replaced, and when calls, returns and
-- exceptions change it.
use Rattle.std.proofs.Common.{◌≡◌, ℕ, ◌==◌, Bool, true, false, cond, List, [], ◌∷◌, Option, Some, None, refl}
use Rattle.sim_model.specs.LogicValues.declared.kinds.Value.{Value}
use Rattle.sim_model.specs.FlatDesign.Code.{Arena, arena_of, block_at, body_at}
use Rattle.sim_model.specs.FlatDesign.Typed.{EachOf}
use Rattle.sim_model.specs.FlatDesign.declared.code.CodeBody.{CodeBody}
use Rattle.sim_model.specs.FlatDesign.declared.code.Handler.{Handler}
use Rattle.sim_model.specs.FlatDesign.declared.design.Design.{Design}
use Rattle.sim_model.specs.Residual.{Residual, Frame, Next, skip, one, batch, seq, owing, guard, try_, frame, shell, run, goal, statement, owes, leaves, done, reaches, nothing, followed, statements, block, then_on, in_run, then_owed, in_guard, in_try, in_shell, settle, frame_end, in_frame, before_goal, next_of, frame_or, goal_or, put, innermost, changed_if, in_innermost, entered_in, entered}
use Rattle.sim_model.specs.Unwinding.{unw, catches, handles, handler_of, handler_block, handled, raise, has_exit, returned}
use Rattle.sim_model.specs.Storing.{with_local}
use Rattle.sim_model.specs.Clean.{EachInBlock, EachInHandlers}
use Rattle.sim_model.specs.declared.plain.Goal.{Goal}
use Rattle.sim_model.specs.declared.plain.Goal.TheVariants as goal_of
use Rattle.laws_order.specs.Own.{IsOf, IsCallOf, IsThrown, IsLeftOf}

module _ (d : Design) (p : ℕ) where
  abbrev a : Arena
  a = arena_of d.code

  -- ---- statements, and what follows

  pub followed-left : (r : Residual) (ss : List ℕ) → IsLeftOf d p r → EachOf (IsOf d p) ss → IsLeftOf d p (followed r ss)
  followed-left r [] h e = h
  followed-left r (s ∷ ss) h e = (h, e)

  pub statements-left : (ss : List ℕ) → EachOf (IsOf d p) ss → IsLeftOf d p (statements ss)
  statements-left [] e = tt
  statements-left (s ∷ ss) e = followed-left (one s) ss e.0 e.1

  pub block-left : (b : ℕ) → EachInBlock (IsOf d p) a b → IsLeftOf d p (block a b)
  block-left b e = statements-left (block_at a b) e

  -- ---- finished parts fall away

  then_left : (r : Residual) (ss : List ℕ) → IsLeftOf d p r → EachOf (IsOf d p) ss → IsLeftOf d p (then_on r ss)
  then_left skip ss h e = statements-left ss e
  then_left other ss h e = followed-left other ss h e

  run_left : (g : ℕ) (r : Residual) → IsLeftOf d p r → IsLeftOf d p (in_run g r)
  run_left g skip h = tt
  run_left g other h = h

  owed_left : (r : Residual) (g u : ℕ) → IsLeftOf d p r → EachInBlock (IsOf d p) a u → IsLeftOf d p (then_owed a r g u)
  owed_left skip g u h e = run_left g (block a u) (block-left u e)
  owed_left other g u h e = (h, e)

  guard_left : (r : Residual) (g u : ℕ) → IsLeftOf d p r → EachInBlock (IsOf d p) a u → IsLeftOf d p (in_guard r g u)
  guard_left skip g u h e = tt
  guard_left other g u h e = (h, e)

  try_left : (r : Residual) (handlers : List Handler) → IsLeftOf d p r → EachInHandlers (IsOf d p) a handlers → IsLeftOf d p (in_try r handlers)
  try_left skip handlers h e = tt
  try_left other handlers h e = (h, e)

  shell_left : (r : Residual) (x : Frame) → IsLeftOf d p r → IsCallOf d p x → IsLeftOf d p (in_shell r x)
  shell_left skip x h call = tt
  shell_left other x h call = (h, call)

  pub settle-left : (r : Residual) → IsLeftOf d p r → IsLeftOf d p (settle a r)
  settle-left skip h = tt
  settle-left (one s) h = h
  settle-left (batch s qs) h = absurd h
  settle-left (seq r ss) h = then_left (settle a r) ss (settle-left r h.0) h.1
  settle-left (owing r g u) h = owed_left (settle a r) g u (settle-left r h.0) h.1
  settle-left (guard r g u) h = guard_left (settle a r) g u (settle-left r h.0) h.1
  settle-left (try_ r handlers) h = try_left (settle a r) handlers (settle-left r h.0) h.1
  settle-left (frame r x) h = (settle-left r h.0, h.1)
  settle-left (shell r x) h = shell_left (settle a r) x (settle-left r h.0) h.1
  settle-left (run g r) h = run_left g (settle a r) (settle-left r h)
  settle-left (goal r k) h = (settle-left r h.0, h.1)

  -- ---- what comes next is one's own

  abbrev pub IsNextOf : Next → Type 0
  IsNextOf (statement n) = IsOf d p n
  IsNextOf (owes n q) = ⊥
  IsNextOf (leaves x) = IsCallOf d p x
  IsNextOf done = Unit {0}
  IsNextOf (reaches k) = IsThrown k
  IsNextOf nothing = Unit {0}

  end_next : (call : Option ℕ) (x : Frame) → IsCallOf d p x → IsNextOf (frame_end call x)
  end_next None x h = tt
  end_next (Some n) x h = h

  frame_next : (next : Next) (x : Frame) → IsNextOf next → IsCallOf d p x → IsNextOf (in_frame next x)
  frame_next nothing x h call = end_next x.call x call
  frame_next other x h call = h

  goal_next : (next : Next) (k : Goal) → IsNextOf next → IsThrown k → IsNextOf (before_goal next k)
  goal_next nothing k h thrown = thrown
  goal_next other k h thrown = h

  pub next-left : (r : Residual) → IsLeftOf d p r → IsNextOf (next_of r)
  next-left skip h = tt
  next-left (one s) h = h
  next-left (batch s qs) h = absurd h
  next-left (seq r ss) h = next-left r h.0
  next-left (owing r g u) h = next-left r h.0
  next-left (guard r g u) h = next-left r h.0
  next-left (try_ r handlers) h = next-left r h.0
  next-left (frame r x) h = frame_next (next_of r) x (next-left r h.0) h.1
  next-left (shell r x) h = next-left r h.0
  next-left (run g r) h = next-left r h
  next-left (goal r k) h = goal_next (next_of r) k (next-left r h.0) h.1

  -- ---- what comes next is replaced

  frame_or_left : (r : Residual) (x : Frame) (n inside : Residual) → IsLeftOf d p n → IsLeftOf d p inside → IsCallOf d p x → IsLeftOf d p (frame_or r x n inside)
  frame_or_left skip x n inside h k call = h
  frame_or_left other x n inside h k call = (k, call)

  goal_or_left : (r : Residual) (g : Goal) (n inside : Residual) → IsLeftOf d p n → IsLeftOf d p inside → IsThrown g → IsLeftOf d p (goal_or r g n inside)
  goal_or_left skip g n inside h k thrown = h
  goal_or_left other g n inside h k thrown = (k, thrown)

  pub put-left : (r n : Residual) → IsLeftOf d p r → IsLeftOf d p n → IsLeftOf d p (put r n)
  put-left skip n h k = tt
  put-left (one s) n h k = k
  put-left (batch s qs) n h k = k
  put-left (seq r ss) n h k = followed-left (put r n) ss (put-left r n h.0 k) h.1
  put-left (owing r g u) n h k = (put-left r n h.0 k, h.1)
  put-left (guard r g u) n h k = (put-left r n h.0 k, h.1)
  put-left (try_ r handlers) n h k = (put-left r n h.0 k, h.1)
  put-left (frame r x) n h k = frame_or_left r x n (put r n) k (put-left r n h.0 k) h.1
  put-left (shell r x) n h k = (put-left r n h.0 k, h.1)
  put-left (run g r) n h k = put-left r n h k
  put-left (goal r g) n h k = goal_or_left r g n (put r n) k (put-left r n h.0 k) h.1

  -- ---- a local variable gets a value

  local_call : (n : ℕ) (v : Value) (o : Option Frame) (x : Frame) → IsCallOf d p x → IsCallOf d p (changed_if o (with_local n v) x)
  local_call n v None x h = record { via = h.via; call = h.call }
  local_call n v (Some y) x h = h

  pub local-left : (n : ℕ) (v : Value) (r : Residual) → IsLeftOf d p r → IsLeftOf d p (in_innermost (with_local n v) r)
  local-left n v skip h = tt
  local-left n v (one s) h = h
  local-left n v (batch s qs) h = h
  local-left n v (seq r ss) h = (local-left n v r h.0, h.1)
  local-left n v (owing r g u) h = (local-left n v r h.0, h.1)
  local-left n v (guard r g u) h = (local-left n v r h.0, h.1)
  local-left n v (try_ r handlers) h = (local-left n v r h.0, h.1)
  local-left n v (frame r x) h = (local-left n v r h.0, local_call n v (innermost r) x h.1)
  local-left n v (shell r x) h = (local-left n v r h.0, local_call n v (innermost r) x h.1)
  local-left n v (run g r) h = local-left n v r h
  local-left n v (goal r k) h = (local-left n v r h.0, h.1)

  -- ---- a body begins

  entered_left : (f : ℕ) (args : List Value) (call : Option ℕ) → ((n : ℕ) → call ≡ Some n → IsOf d p n) → ((body : CodeBody) → body_at a f ≡ Some body → EachInBlock (IsOf d p) a body.block) → (o : Option CodeBody) → body_at a f ≡ o
      → IsLeftOf d p (entered_in a f args call None o)
  entered_left f args call own inside None is = (tt, record { via = refl; call = own })
  entered_left f args call own inside (Some b) is = (block-left b.block (inside b is), record { via = refl; call = own })

  pub entered-left : (f : ℕ) (args : List Value) (call : Option ℕ) → ((n : ℕ) → call ≡ Some n → IsOf d p n) → ((body : CodeBody) → body_at a f ≡ Some body → EachInBlock (IsOf d p) a body.block) → IsLeftOf d p (entered a f args call None)
  entered-left f args call own inside = entered_left f args call own inside (body_at a f) refl

  -- ---- a return

  return_frame : (b : Bool) (v : Option Value) (r : Residual) (x : Frame) → IsLeftOf d p (returned v r) → IsCallOf d p x → IsLeftOf d p (cond b (frame (returned v r) x) (frame skip (record x { answer = v })))
  return_frame true v r x h call = (h, call)
  return_frame false v r x h call = (tt, record { via = call.via; call = call.call })

  return_run : (b : Bool) (g : ℕ) (v : Option Value) (r : Residual) → IsLeftOf d p (returned v r) → IsLeftOf d p (cond b (run g (returned v r)) (run g skip))
  return_run true g v r h = h
  return_run false g v r h = tt

  pub returned-left : (v : Option Value) (r : Residual) → IsLeftOf d p r → IsLeftOf d p (returned v r)
  returned-left v skip h = tt
  returned-left v (one s) h = h
  returned-left v (batch s qs) h = h
  returned-left v (seq r ss) h = (returned-left v r h.0, h.1)
  returned-left v (owing r g u) h = (returned-left v r h.0, h.1)
  returned-left v (guard r g u) h = (returned-left v r h.0, h.1)
  returned-left v (try_ r handlers) h = (returned-left v r h.0, h.1)
  returned-left v (frame r x) h = return_frame (has_exit r) v r x (returned-left v r h.0) h.1
  returned-left v (shell r x) h = (returned-left v r h.0, h.1)
  returned-left v (run g r) h = return_run (has_exit r) g v r (returned-left v r h)
  returned-left v (goal r k) h = (returned-left v r h.0, h.1)

  -- ---- an exception

  unw_left : (r : Residual) → IsLeftOf d p r → IsLeftOf d p (unw r)
  unw_left skip h = tt
  unw_left (one s) h = tt
  unw_left (batch s qs) h = tt
  unw_left (seq r ss) h = unw_left r h.0
  unw_left (owing r g u) h = (unw_left r h.0, h.1)
  unw_left (guard r g u) h = (unw_left r h.0, h.1)
  unw_left (try_ r handlers) h = unw_left r h.0
  unw_left (frame r x) h = (unw_left r h.0, h.1)
  unw_left (shell r x) h = (unw_left r h.0, h.1)
  unw_left (run g r) h = unw_left r h
  unw_left (goal r k) h = unw_left r h.0

  module _ (e : ℕ) where
    handler_either : (b : Bool) (x : Handler) (o : Option Handler) → EachInBlock (IsOf d p) a x.block → EachOf (IsOf d p) (handler_block a o) → EachOf (IsOf d p) (handler_block a (cond b (Some x) o))
    handler_either true x o h k = h
    handler_either false x o h k = k

    handler_each : (handlers : List Handler) → EachInHandlers (IsOf d p) a handlers → EachOf (IsOf d p) (handler_block a (handler_of handlers e))
    handler_each [] h = tt
    handler_each (x ∷ xs) h = handler_either (x.exception == e) x (handler_of xs e) h.0 (handler_each xs h.1)

    raise_try : (b c : Bool) (r : Residual) (handlers : List Handler) → IsLeftOf d p r → IsLeftOf d p (raise a r e goal_of.Thrown) → EachInHandlers (IsOf d p) a handlers
        → IsLeftOf d p (cond b (try_ (raise a r e goal_of.Thrown) handlers) (cond c (handled a r handlers e goal_of.Thrown) (try_ r handlers)))
    raise_try true c r handlers h k each = (k, each)
    raise_try false true r handlers h k each = followed-left (goal (unw r) goal_of.Thrown) (handler_block a (handler_of handlers e)) (unw_left r h, tt) (handler_each handlers each)
    raise_try false false r handlers h k each = (h, each)

    pub raise-left : (r : Residual) → IsLeftOf d p r → IsLeftOf d p (raise a r e goal_of.Thrown)
    raise-left skip h = tt
    raise-left (one s) h = h
    raise-left (batch s qs) h = h
    raise-left (seq r ss) h = (raise-left r h.0, h.1)
    raise-left (owing r g u) h = (raise-left r h.0, h.1)
    raise-left (guard r g u) h = (raise-left r h.0, h.1)
    raise-left (try_ r handlers) h = raise_try (catches r e) (handles handlers e) r handlers h.0 (raise-left r h.0) h.1
    raise-left (frame r x) h = (raise-left r h.0, h.1)
    raise-left (shell r x) h = (raise-left r h.0, h.1)
    raise-left (run g r) h = raise-left r h
    raise-left (goal r k) h = (raise-left r h.0, h.1)
