-- What is left of a body is a body: its own call is the outermost, and goals that end it or begin it anew stand only there.
use Rattle.std.proofs.Common.{◌≡◌, ℕ, Bool, true, false, cond, List, [], ◌∷◌, Option, Some, None, refl, sym, ap, ◌∙◌, subst, true≢false}
use Rattle.sim_model.specs.LogicValues.declared.kinds.Value.{Value}
use Rattle.sim_model.specs.FlatDesign.Code.{Arena, block_at, body_at}
use Rattle.sim_model.specs.FlatDesign.declared.code.CodeBody.{CodeBody}
use Rattle.sim_model.specs.FlatDesign.declared.code.Handler.{Handler}
use Rattle.sim_model.specs.FlatDesign.declared.design.Design.{Design}
use Rattle.sim_model.specs.Residual.{Residual, Frame, Next, skip, one, batch, seq, owing, guard, try_, frame, shell, run, goal, followed, statements, block, then_on, in_run, then_owed, in_guard, in_try, in_shell, settle, frame_or, goal_or, put, innermost, changed_if, in_innermost, taken_off, in_frame, frame_end, before_goal, next_of, statement, owes, leaves, done, reaches, nothing, has_goal, entered, entered_in, begun}
use Rattle.sim_model.specs.Unwinding.{unw, catches, handles, handler_block, handler_of, handled, raise, has_exit, returned}
use Rattle.sim_model.specs.Storing.{with_local}
use Rattle.sim_model.specs.declared.plain.Goal.{Goal}
use Rattle.sim_model.specs.declared.plain.Goal.TheVariants as goal_of
use Rattle.sim_model.specs.declared.plain.Via.{Via}
use Rattle.laws_runs.specs.Shapes.{IsNormal}
use Rattle.laws_runs.proofs.Tight.{IsLeft, IsTight}
use Rattle.laws_runs.proofs.GoalParts.{MayPass, IsOver, IsOuter, IsInner, IsCalled, OnlyCalls}

-- inside a body each call was made by a statement, and each goal goes on in a handler
abbrev pub IsInside : Residual → Type 0
IsInside skip = Unit {0}
IsInside (one s) = Unit {0}
IsInside (batch s qs) = Unit {0}
IsInside (seq r ss) = IsInside r
IsInside (owing r g u) = IsInside r
IsInside (guard r g u) = IsInside r
IsInside (try_ r handlers) = IsInside r
IsInside (frame r x) = IsCalled x.call × IsInside r
IsInside (shell r x) = IsCalled x.call × IsInside r
IsInside (run g r) = IsInside r
IsInside (goal r k) = IsInner k × IsInside r

-- a body that is being unwound
abbrev pub IsShell : Residual → Type 0
IsShell skip = Unit {0}
IsShell (shell r x) = IsInside r
IsShell other = ⊥

-- one that was not begun has at most a goal
abbrev pub IsRooted : Bool → Residual → Type 0
IsRooted b skip = Unit {0}
IsRooted true (frame r x) = (x.call ≡ None) × IsInside r
IsRooted true (goal r k) = IsOuter k × IsShell r
IsRooted false (goal r k) = IsOuter k × (r ≡ skip)
IsRooted b other = ⊥

-- ---- where a body is over nothing is left of it

called_over : (call : Option ℕ) (x : Frame) → IsCalled call → IsOver (frame_end call x) → ⊥
called_over None x called over = called
called_over (Some s) x called over = over

in_called : (n : Next) (x : Frame) → IsCalled x.call → IsOver (in_frame n x) → IsOver n × (n ≡ nothing → ⊥)
in_called (statement s) x called over = absurd over
in_called (owes s q) x called over = absurd over
in_called (leaves y) x called over = absurd over
in_called done x called over = (tt, λ e. cc)
in_called (reaches k) x called over = (over, λ e. cc)
in_called nothing x called over = absurd (called_over x.call x called over)

in_inner : (n : Next) (k : Goal) → IsInner k → IsOver (before_goal n k) → IsOver n × (n ≡ nothing → ⊥)
in_inner (statement s) k inner over = absurd over
in_inner (owes s q) k inner over = absurd over
in_inner (leaves y) k inner over = absurd over
in_inner done k inner over = (tt, λ e. cc)
in_inner (reaches j) k inner over = (over, λ e. cc)
in_inner nothing goal_of.End inner over = absurd inner
in_inner nothing goal_of.Restart inner over = absurd inner
in_inner nothing goal_of.Thrown inner over = absurd over
in_inner nothing goal_of.Injected inner over = absurd over

not_left : (r : Residual) → r ≡ skip → IsLeft r → ⊥
not_left r is left = subst IsLeft is left

pub inside-over : (r : Residual) → IsInside r → IsTight r → IsOver (next_of r) → r ≡ skip
inside-over skip inside tight over = refl
inside-over (one s) inside tight over = absurd over
inside-over (batch s []) inside tight over = absurd tight
inside-over (batch s (q ∷ qs)) inside tight over = absurd over
inside-over (seq r ss) inside tight over = absurd (not_left r (inside-over r inside tight.1 over) tight.0)
inside-over (owing r g u) inside tight over = absurd (not_left r (inside-over r inside tight.1 over) tight.0)
inside-over (guard r g u) inside tight over = absurd (not_left r (inside-over r inside tight.1 over) tight.0)
inside-over (try_ r handlers) inside tight over = absurd (not_left r (inside-over r inside tight.1 over) tight.0)
inside-over (frame r x) inside tight over = let there = in_called (next_of r) x inside.0 over in absurd (there.1 (ap next_of (inside-over r inside.1 tight there.0)))
inside-over (shell r x) inside tight over = absurd (not_left r (inside-over r inside.1 tight.1 over) tight.0)
inside-over (run g r) inside tight over = absurd (not_left r (inside-over r inside tight.1 over) tight.0)
inside-over (goal r k) inside tight over = let there = in_inner (next_of r) k inside.0 over in absurd (there.1 (ap next_of (inside-over r inside.1 tight there.0)))

in_root : (n : Next) (x : Frame) → IsOver (in_frame n x) → IsOver n
in_root (statement s) x over = over
in_root (owes s q) x over = over
in_root (leaves y) x over = over
in_root done x over = tt
in_root (reaches k) x over = over
in_root nothing x over = tt

in_outer : (n : Next) (k : Goal) → IsOver (before_goal n k) → IsOver n
in_outer (statement s) k over = over
in_outer (owes s q) k over = over
in_outer (leaves y) k over = over
in_outer done k over = tt
in_outer (reaches j) k over = over
in_outer nothing k over = tt

-- nothing but the body's own call, or its goal
pub data IsBare : Residual → Type 0 where
  over_skip : IsBare skip
  over_frame : (x : Frame) → IsBare (frame skip x)
  over_goal : (k : Goal) → IsBare (goal skip k)

bare_frame : (r : Residual) (x : Frame) → r ≡ skip → IsBare (frame r x)
bare_frame r x is = subst (λ q. IsBare (frame q x)) (sym is) (over_frame x)

bare_goal : (r : Residual) (k : Goal) → r ≡ skip → IsBare (goal r k)
bare_goal r k is = subst (λ q. IsBare (goal q k)) (sym is) (over_goal k)

shell_over : (r : Residual) (k : Goal) → IsShell r → IsTight r → IsOver (before_goal (next_of r) k) → r ≡ skip
shell_over skip k is tight over = refl
shell_over (shell r x) k is tight over = absurd (not_left r (inside-over r is tight.1 (in_outer (next_of r) k over)) tight.0)
shell_over other k is tight over = absurd is

pub rooted-over : (b : Bool) (r : Residual) → IsRooted b r → IsTight r → IsOver (next_of r) → IsBare r
rooted-over b skip is tight over = over_skip
rooted-over true (frame r x) is tight over = bare_frame r x (inside-over r is.1 tight (in_root (next_of r) x over))
rooted-over false (frame r x) is tight over = absurd is
rooted-over true (goal r k) is tight over = bare_goal r k (shell_over r k is.1 tight over)
rooted-over false (goal r k) is tight over = bare_goal r k is.1
rooted-over true other is tight over = absurd is
rooted-over false other is tight over = absurd is

-- one that was not begun
pub rooted-unbegun : (r : Residual) → IsRooted false r → IsBare r
rooted-unbegun skip is = over_skip
rooted-unbegun (goal r k) is = bare_goal r k is.1
rooted-unbegun other is = absurd is

-- ---- what each move keeps inside

pub normal-inside : (r : Residual) → IsNormal r → OnlyCalls r → IsInside r
normal-inside skip n c = tt
normal-inside (one s) n c = tt
normal-inside (batch s qs) n c = tt
normal-inside (seq r ss) n c = normal-inside r n c
normal-inside (owing r g u) n c = absurd n
normal-inside (guard r g u) n c = normal-inside r n c
normal-inside (try_ r handlers) n c = normal-inside r n c
normal-inside (frame r x) n c = (c.0, normal-inside r n c.2)
normal-inside (shell r x) n c = absurd n
normal-inside (run g r) n c = absurd n
normal-inside (goal r k) n c = absurd n

followed_inside : (r : Residual) (ss : List ℕ) → IsInside r → IsInside (followed r ss)
followed_inside r [] h = h
followed_inside r (s ∷ ss) h = h

statements_inside : (ss : List ℕ) → IsInside (statements ss)
statements_inside [] = tt
statements_inside (s ∷ []) = tt
statements_inside (s ∷ t ∷ ss) = tt

pub block-inside : (a : Arena) (b : ℕ) → IsInside (block a b)
block-inside a b = statements_inside (block_at a b)

module _ (a : Arena) where
  then_inside : (r : Residual) (ss : List ℕ) → IsInside r → IsInside (then_on r ss)
  then_inside skip ss h = statements_inside ss
  then_inside (one s) ss h = followed_inside (one s) ss h
  then_inside (batch s qs) ss h = followed_inside (batch s qs) ss h
  then_inside (seq r us) ss h = followed_inside (seq r us) ss h
  then_inside (owing r g u) ss h = followed_inside (owing r g u) ss h
  then_inside (guard r g u) ss h = followed_inside (guard r g u) ss h
  then_inside (try_ r handlers) ss h = followed_inside (try_ r handlers) ss h
  then_inside (frame r x) ss h = followed_inside (frame r x) ss h
  then_inside (shell r x) ss h = followed_inside (shell r x) ss h
  then_inside (run g r) ss h = followed_inside (run g r) ss h
  then_inside (goal r k) ss h = followed_inside (goal r k) ss h

  run_inside : (g : ℕ) (r : Residual) → IsInside r → IsInside (in_run g r)
  run_inside g skip h = tt
  run_inside g other h = h

  owed_inside : (r : Residual) (g u : ℕ) → IsInside r → IsInside (then_owed a r g u)
  owed_inside skip g u h = run_inside g (block a u) (block-inside a u)
  owed_inside other g u h = h

  guard_inside : (r : Residual) (g u : ℕ) → IsInside r → IsInside (in_guard r g u)
  guard_inside skip g u h = tt
  guard_inside other g u h = h

  try_inside : (r : Residual) (handlers : List Handler) → IsInside r → IsInside (in_try r handlers)
  try_inside skip handlers h = tt
  try_inside other handlers h = h

  shell_inside : (r : Residual) (x : Frame) → IsCalled x.call → IsInside r → IsInside (in_shell r x)
  shell_inside skip x called h = tt
  shell_inside other x called h = (called, h)

  pub settle-inside : (r : Residual) → IsInside r → IsInside (settle a r)
  settle-inside skip h = tt
  settle-inside (one s) h = tt
  settle-inside (batch s []) h = tt
  settle-inside (batch s (q ∷ qs)) h = tt
  settle-inside (seq r ss) h = then_inside (settle a r) ss (settle-inside r h)
  settle-inside (owing r g u) h = owed_inside (settle a r) g u (settle-inside r h)
  settle-inside (guard r g u) h = guard_inside (settle a r) g u (settle-inside r h)
  settle-inside (try_ r handlers) h = try_inside (settle a r) handlers (settle-inside r h)
  settle-inside (frame r x) h = (h.0, settle-inside r h.1)
  settle-inside (shell r x) h = shell_inside (settle a r) x h.0 (settle-inside r h.1)
  settle-inside (run g r) h = run_inside g (settle a r) (settle-inside r h)
  settle-inside (goal r k) h = (h.0, settle-inside r h.1)

  shell_shell : (r : Residual) (x : Frame) → IsInside r → IsShell (in_shell r x)
  shell_shell skip x h = tt
  shell_shell other x h = h

  settle_shell : (r : Residual) → IsShell r → IsShell (settle a r)
  settle_shell skip h = tt
  settle_shell (shell r x) h = shell_shell (settle a r) x (settle-inside r h)
  settle_shell other h = absurd h

  pub settle-rooted : (b : Bool) (r : Residual) → IsRooted b r → IsRooted b (settle a r)
  settle-rooted b skip h = tt
  settle-rooted true (frame r x) h = (h.0, settle-inside r h.1)
  settle-rooted true (goal r k) h = (h.0, settle_shell r h.1)
  settle-rooted false (frame r x) h = absurd h
  settle-rooted false (goal r k) h = (h.0, ap (settle a) h.1)
  settle-rooted true other h = absurd h
  settle-rooted false other h = absurd h

-- ---- something in place of what comes next

module _ (n : Residual) (new : IsInside n) where
  frame_inside : (r : Residual) (x : Frame) (inside : Residual) → IsCalled x.call → IsInside inside → IsInside (frame_or r x n inside)
  frame_inside skip x inside called h = new
  frame_inside other x inside called h = (called, h)

  goal_inside : (r : Residual) (k : Goal) (inside : Residual) → IsInner k → IsInside inside → IsInside (goal_or r k n inside)
  goal_inside skip k inside inner h = new
  goal_inside other k inside inner h = (inner, h)

  pub put-inside : (r : Residual) → IsInside r → IsInside (put r n)
  put-inside skip h = tt
  put-inside (one s) h = new
  put-inside (batch s qs) h = new
  put-inside (seq r ss) h = followed_inside (put r n) ss (put-inside r h)
  put-inside (owing r g u) h = put-inside r h
  put-inside (guard r g u) h = put-inside r h
  put-inside (try_ r handlers) h = put-inside r h
  put-inside (frame r x) h = frame_inside r x (put r n) h.0 (put-inside r h.1)
  put-inside (shell r x) h = (h.0, put-inside r h.1)
  put-inside (run g r) h = put-inside r h
  put-inside (goal r k) h = goal_inside r k (put r n) h.0 (put-inside r h.1)

  root_frame : (r : Residual) (x : Frame) → (x.call ≡ None) × IsInside r → (IsOver (in_frame (next_of r) x) → ⊥) → IsRooted true (frame_or r x n (put r n))
  root_frame skip x h not = absurd (not (subst (λ o. IsOver (frame_end o x)) (sym h.0) tt))
  root_frame other x h not = (h.0, put-inside other h.1)

  root_goal : (r : Residual) (k : Goal) → IsOuter k → IsShell r → (IsOver (before_goal (next_of r) k) → ⊥) → IsRooted true (goal_or r k n (put r n))
  root_goal skip goal_of.End outer h not = absurd (not tt)
  root_goal skip goal_of.Restart outer h not = absurd (not tt)
  root_goal skip goal_of.Thrown outer h not = absurd outer
  root_goal skip goal_of.Injected outer h not = absurd outer
  root_goal (shell r x) k outer h not = (outer, put-inside r h)
  root_goal other k outer h not = absurd h

  bare_put : (r : Residual) (k : Goal) → IsOuter k → r ≡ skip → (IsOver (before_goal (next_of r) k) → ⊥) → IsRooted false (goal_or r k n (put r n))
  bare_put skip goal_of.End outer h not = absurd (not tt)
  bare_put skip goal_of.Restart outer h not = absurd (not tt)
  bare_put skip goal_of.Thrown outer h not = absurd outer
  bare_put skip goal_of.Injected outer h not = absurd outer
  bare_put other k outer h not = cc

  pub put-rooted : (b : Bool) (r : Residual) → IsRooted b r → (IsOver (next_of r) → ⊥) → IsRooted b (put r n)
  put-rooted b skip h not = tt
  put-rooted true (frame r x) h not = root_frame r x h not
  put-rooted true (goal r k) h not = root_goal r k h.0 h.1 not
  put-rooted false (goal r k) h not = bare_put r k h.0 h.1 not
  put-rooted true other h not = absurd h
  put-rooted false other h not = absurd h

-- what may pass is not over
pub passes-not_over : (d : Design) (n : Next) → MayPass d n → IsOver n → ⊥
passes-not_over d (statement s) may over = over
passes-not_over d (owes s q) may over = over
passes-not_over d (leaves y) may over = over
passes-not_over d done may over = may
passes-not_over d (reaches goal_of.End) may over = may
passes-not_over d (reaches goal_of.Restart) may over = may
passes-not_over d (reaches goal_of.Thrown) may over = over
passes-not_over d (reaches goal_of.Injected) may over = over
passes-not_over d nothing may over = may

-- ---- a return

module _ (v : Option Value) where
  inside_if : (b : Bool) (r s : Residual) → IsInside r → IsInside s → IsInside (cond b r s)
  inside_if true r s one_ two = one_
  inside_if false r s one_ two = two

  returned_inside : (r : Residual) → IsInside r → IsInside (returned v r)
  returned_inside skip h = tt
  returned_inside (one s) h = tt
  returned_inside (batch s qs) h = tt
  returned_inside (seq r ss) h = returned_inside r h
  returned_inside (owing r g u) h = returned_inside r h
  returned_inside (guard r g u) h = returned_inside r h
  returned_inside (try_ r handlers) h = returned_inside r h
  returned_inside (frame r x) h = inside_if (has_exit r) (frame (returned v r) x) (frame skip (record x { answer = v })) (h.0, returned_inside r h.1) (h.0, tt)
  returned_inside (shell r x) h = (h.0, returned_inside r h.1)
  returned_inside (run g r) h = inside_if (has_exit r) (run g (returned v r)) (run g skip) (returned_inside r h) tt
  returned_inside (goal r k) h = (h.0, returned_inside r h.1)

  rooted_if : (b : Bool) (r s : Residual) → IsRooted true r → IsRooted true s → IsRooted true (cond b r s)
  rooted_if true r s one_ two = one_
  rooted_if false r s one_ two = two

  returned_shell : (r : Residual) → IsShell r → IsShell (returned v r)
  returned_shell skip h = tt
  returned_shell (shell r x) h = returned_inside r h
  returned_shell other h = absurd h

  pub returned-rooted : (b : Bool) (r : Residual) → IsRooted b r → IsRooted b (returned v r)
  returned-rooted b skip h = tt
  returned-rooted true (frame r x) h = rooted_if (has_exit r) (frame (returned v r) x) (frame skip (record x { answer = v })) (h.0, returned_inside r h.1) (h.0, tt)
  returned-rooted true (goal r k) h = (h.0, returned_shell r h.1)
  returned-rooted false (goal r k) h = (h.0, ap (returned v) h.1)
  returned-rooted true other h = absurd h
  returned-rooted false other h = absurd h

-- ---- a local variable that is set

module _ (n : ℕ) (v : Value) where
  same_call : (o : Option Frame) (x : Frame) → (changed_if o (with_local n v) x).call ≡ x.call
  same_call None x = refl
  same_call (Some y) x = refl

  local_inside : (r : Residual) → IsInside r → IsInside (in_innermost (with_local n v) r)
  local_inside skip h = tt
  local_inside (one s) h = tt
  local_inside (batch s qs) h = tt
  local_inside (seq r ss) h = local_inside r h
  local_inside (owing r g u) h = local_inside r h
  local_inside (guard r g u) h = local_inside r h
  local_inside (try_ r handlers) h = local_inside r h
  local_inside (frame r x) h = (subst IsCalled (sym (same_call (innermost r) x)) h.0, local_inside r h.1)
  local_inside (shell r x) h = (subst IsCalled (sym (same_call (innermost r) x)) h.0, local_inside r h.1)
  local_inside (run g r) h = local_inside r h
  local_inside (goal r k) h = (h.0, local_inside r h.1)

  local_shell : (r : Residual) → IsShell r → IsShell (in_innermost (with_local n v) r)
  local_shell skip h = tt
  local_shell (shell r x) h = local_inside r h
  local_shell other h = absurd h

  pub local-rooted : (b : Bool) (r : Residual) → IsRooted b r → IsRooted b (in_innermost (with_local n v) r)
  local-rooted b skip h = tt
  local-rooted true (frame r x) h = (same_call (innermost r) x ∙ h.0, local_inside r h.1)
  local-rooted true (goal r k) h = (h.0, local_shell r h.1)
  local-rooted false (goal r k) h = (h.0, ap (in_innermost (with_local n v)) h.1)
  local-rooted true other h = absurd h
  local-rooted false other h = absurd h

-- ---- a call that is owed to one instance less

off_inside : (r : Residual) → IsInside r → IsInside (taken_off r)
off_inside skip h = tt
off_inside (one s) h = tt
off_inside (batch s qs) h = tt
off_inside (seq r ss) h = off_inside r h
off_inside (owing r g u) h = off_inside r h
off_inside (guard r g u) h = off_inside r h
off_inside (try_ r handlers) h = off_inside r h
off_inside (frame r x) h = (h.0, off_inside r h.1)
off_inside (shell r x) h = (h.0, off_inside r h.1)
off_inside (run g r) h = off_inside r h
off_inside (goal r k) h = (h.0, off_inside r h.1)

off_shell : (r : Residual) → IsShell r → IsShell (taken_off r)
off_shell skip h = tt
off_shell (shell r x) h = off_inside r h
off_shell other h = absurd h

pub off-rooted : (b : Bool) (r : Residual) → IsRooted b r → IsRooted b (taken_off r)
off-rooted b skip h = tt
off-rooted true (frame r x) h = (h.0, off_inside r h.1)
off-rooted true (goal r k) h = (h.0, off_shell r h.1)
off-rooted false (goal r k) h = (h.0, ap taken_off h.1)
off-rooted true other h = absurd h
off-rooted false other h = absurd h

-- ---- a kill, a reset and an exception

pub unw-inside : (r : Residual) → IsInside r → IsInside (unw r)
unw-inside skip h = tt
unw-inside (one s) h = tt
unw-inside (batch s qs) h = tt
unw-inside (seq r ss) h = unw-inside r h
unw-inside (owing r g u) h = unw-inside r h
unw-inside (guard r g u) h = unw-inside r h
unw-inside (try_ r handlers) h = unw-inside r h
unw-inside (frame r x) h = (h.0, unw-inside r h.1)
unw-inside (shell r x) h = (h.0, unw-inside r h.1)
unw-inside (run g r) h = unw-inside r h
unw-inside (goal r k) h = unw-inside r h.1

pub unwound-rooted : (b : Bool) (r : Residual) (k : Goal) → IsRooted b r → has_goal r ≡ false → IsOuter k → IsRooted b (goal (unw r) k)
unwound-rooted true skip k h none outer = (outer, tt)
unwound-rooted false skip k h none outer = (outer, refl)
unwound-rooted true (frame r x) k h none outer = (outer, unw-inside r h.1)
unwound-rooted true (goal r j) k h none outer = absurd (true≢false none)
unwound-rooted false (goal r j) k h none outer = absurd (true≢false none)
unwound-rooted true other k h none outer = absurd h
unwound-rooted false other k h none outer = absurd h

module _ (a : Arena) (e : ℕ) (k : Goal) (inner : IsInner k) where
  try_raised : (b c : Bool) (r : Residual) (handlers : List Handler) → IsInside r → IsInside (raise a r e k) → IsInside (cond b (try_ (raise a r e k) handlers) (cond c (handled a r handlers e k) (try_ r handlers)))
  try_raised true c r handlers h later = later
  try_raised false true r handlers h later = followed_inside (goal (unw r) k) (handler_block a (handler_of handlers e)) (inner, unw-inside r h)
  try_raised false false r handlers h later = h

  raised_inside : (r : Residual) → IsInside r → IsInside (raise a r e k)
  raised_inside skip h = tt
  raised_inside (one s) h = tt
  raised_inside (batch s qs) h = tt
  raised_inside (seq r ss) h = raised_inside r h
  raised_inside (owing r g u) h = raised_inside r h
  raised_inside (guard r g u) h = raised_inside r h
  raised_inside (try_ r handlers) h = try_raised (catches r e) (handles handlers e) r handlers h (raised_inside r h)
  raised_inside (frame r x) h = (h.0, raised_inside r h.1)
  raised_inside (shell r x) h = (h.0, raised_inside r h.1)
  raised_inside (run g r) h = raised_inside r h
  raised_inside (goal r j) h = (h.0, raised_inside r h.1)

  pub raised-rooted : (b : Bool) (r : Residual) → IsRooted b r → has_goal r ≡ false → IsRooted b (raise a r e k)
  raised-rooted b skip h none = tt
  raised-rooted true (frame r x) h none = (h.0, raised_inside r h.1)
  raised-rooted true (goal r j) h none = absurd (true≢false none)
  raised-rooted false (goal r j) h none = absurd (true≢false none)
  raised-rooted true other h none = absurd h
  raised-rooted false other h none = absurd h

-- ---- bodies that begin

pub called-inside : (a : Arena) (f : ℕ) (args : List Value) (s : ℕ) (via : Option Via) → IsInside (entered a f args (Some s) via)
called-inside a f args s via = by (body_at a f)
  where
    by : (o : Option CodeBody) → IsInside (entered_in a f args (Some s) via o)
    by None = (tt, tt)
    by (Some b) = (tt, block-inside a b.block)

pub begun-rooted : (a : Arena) (f : ℕ) (args : List Value) → IsRooted true (begun a f args)
begun-rooted a f args = by (body_at a f)
  where
    by : (o : Option CodeBody) → IsRooted true (entered_in a f args None None o)
    by None = (refl, tt)
    by (Some b) = (refl, block-inside a b.block)
