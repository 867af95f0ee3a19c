-- Whether a guard stands in what is left of a body and is not being unwound: no move but its entering puts it there.
use Rattle.std.proofs.Common.{◌≡◌, ◌==◌, ◌||◌, ℕ, Bool, true, false, cond, List, [], ◌∷◌, ◌++◌, Option, Some, None, refl, ap, ◌∙◌, true≢false}
use Rattle.std.specs.List.{list_any}
use Rattle.std.proofs.lemmas.List.Folds.{list_any-append}
use Rattle.sim_model.specs.LogicValues.declared.kinds.Value.{Value}
use Rattle.sim_model.specs.FlatDesign.Code.{Arena, block_at, body_at}
use Rattle.sim_model.specs.FlatDesign.declared.code.CodeBody.{CodeBody}
use Rattle.sim_model.specs.FlatDesign.declared.code.Handler.{Handler}
use Rattle.sim_model.specs.Residual.{Residual, Frame, Mark, skip, one, batch, seq, owing, guard, try_, frame, shell, run, goal, enter, leave, begin, finish, followed, statements, block, then_on, in_run, then_owed, in_guard, in_try, in_shell, settle, finished_if, begun_if, left_if, fall, frame_or, goal_or, put, taken_off, in_innermost, entered, entered_in}
use Rattle.sim_model.specs.Unwinding.{unw, catches, handles, handler_block, handler_of, handled, raise, has_exit, returned, guards_left, return_marks}
use Rattle.sim_model.specs.Clean.{guards_of}
use Rattle.sim_model.specs.declared.plain.Goal.{Goal}
use Rattle.sim_model.specs.declared.plain.Via.{Via}

abbrev pub is_inside : ℕ → Residual → Bool
is_inside g skip = false
is_inside g (one s) = false
is_inside g (batch s qs) = false
is_inside g (seq r ss) = is_inside g r
is_inside g (owing r n u) = is_inside g r
is_inside g (guard r n u) = (n == g) || is_inside g r
is_inside g (try_ r handlers) = is_inside g r
is_inside g (frame r x) = is_inside g r
is_inside g (shell r x) = is_inside g r
is_inside g (run n r) = is_inside g r
is_inside g (goal r k) = is_inside g r

abbrev pub leaves_of : ℕ → Mark → Bool
leaves_of g (enter p n) = false
leaves_of g (leave p n) = n == g
leaves_of g (begin p n) = false
leaves_of g (finish p n) = false

abbrev pub unleft : ℕ → List Mark → Type 0
unleft g ms = list_any (leaves_of g) ms ≡ false

pub or-left : (a b : Bool) → (a || b) ≡ false → a ≡ false
or-left true b h = absurd (true≢false h)
or-left false b h = refl

pub or-right : (a b : Bool) → (a || b) ≡ false → b ≡ false
or-right true b h = absurd (true≢false h)
or-right false b h = h

neither : (a b : Bool) → a ≡ false → b ≡ false → (a || b) ≡ false
neither a b one_ two = ap (λ x. x || b) one_ ∙ two

module _ (g : ℕ) where
  pub unleft-append : (ms ns : List Mark) → unleft g ms → unleft g ns → unleft g (ms ++ ns)
  unleft-append ms ns a b = list_any-append (leaves_of g) ms ns ∙ neither _ _ a b

  pub guardless : (r : Residual) → guards_of r ≡ [] → is_inside g r ≡ false
  guardless skip h = refl
  guardless (one s) h = refl
  guardless (batch s qs) h = refl
  guardless (seq r ss) h = guardless r h
  guardless (owing r n u) h = cc
  guardless (guard r n u) h = cc
  guardless (try_ r handlers) h = guardless r h
  guardless (frame r x) h = guardless r h
  guardless (shell r x) h = guardless r h
  guardless (run n r) h = cc
  guardless (goal r k) h = guardless r h

  followed_inside : (r : Residual) (ss : List ℕ) → is_inside g (followed r ss) ≡ is_inside g r
  followed_inside r [] = refl
  followed_inside r (s ∷ ss) = refl

  statements_inside : (ss : List ℕ) → is_inside g (statements ss) ≡ false
  statements_inside [] = refl
  statements_inside (s ∷ []) = refl
  statements_inside (s ∷ t ∷ ss) = refl

  pub block-inside : (a : Arena) (b : ℕ) → is_inside g (block a b) ≡ false
  block-inside a b = statements_inside (block_at a b)

  pub entered-inside : (a : Arena) (f : ℕ) (args : List Value) (call : Option ℕ) (via : Option Via) → is_inside g (entered a f args call via) ≡ false
  entered-inside a f args call via = by (body_at a f)
    where
      by : (o : Option CodeBody) → is_inside g (entered_in a f args call via o) ≡ false
      by None = refl
      by (Some b) = block-inside a b.block

  -- ---- settling

  module _ (a : Arena) where
    then_inside : (r : Residual) (ss : List ℕ) → is_inside g r ≡ false → is_inside g (then_on r ss) ≡ false
    then_inside skip ss h = statements_inside ss
    then_inside (one s) ss h = followed_inside (one s) ss ∙ h
    then_inside (batch s qs) ss h = followed_inside (batch s qs) ss ∙ h
    then_inside (seq r us) ss h = followed_inside (seq r us) ss ∙ h
    then_inside (owing r n u) ss h = followed_inside (owing r n u) ss ∙ h
    then_inside (guard r n u) ss h = followed_inside (guard r n u) ss ∙ h
    then_inside (try_ r handlers) ss h = followed_inside (try_ r handlers) ss ∙ h
    then_inside (frame r x) ss h = followed_inside (frame r x) ss ∙ h
    then_inside (shell r x) ss h = followed_inside (shell r x) ss ∙ h
    then_inside (run n r) ss h = followed_inside (run n r) ss ∙ h
    then_inside (goal r k) ss h = followed_inside (goal r k) ss ∙ h

    run_inside : (n : ℕ) (r : Residual) → is_inside g r ≡ false → is_inside g (in_run n r) ≡ false
    run_inside n skip h = refl
    run_inside n other h = h

    owed_inside : (r : Residual) (n u : ℕ) → is_inside g r ≡ false → is_inside g (then_owed a r n u) ≡ false
    owed_inside skip n u h = run_inside n (block a u) (block-inside a u)
    owed_inside other n u h = h

    guard_inside : (r : Residual) (n u : ℕ) → (n == g) ≡ false → is_inside g r ≡ false → is_inside g (in_guard r n u) ≡ false
    guard_inside skip n u e h = refl
    guard_inside other n u e h = neither (n == g) _ e h

    try_inside : (r : Residual) (handlers : List Handler) → is_inside g r ≡ false → is_inside g (in_try r handlers) ≡ false
    try_inside skip handlers h = refl
    try_inside other handlers h = h

    shell_inside : (r : Residual) (x : Frame) → is_inside g r ≡ false → is_inside g (in_shell r x) ≡ false
    shell_inside skip x h = refl
    shell_inside other x h = h

    pub settle-inside : (r : Residual) → is_inside g r ≡ false → is_inside g (settle a r) ≡ false
    settle-inside skip h = refl
    settle-inside (one s) h = refl
    settle-inside (batch s []) h = refl
    settle-inside (batch s (q ∷ qs)) h = refl
    settle-inside (seq r ss) h = then_inside (settle a r) ss (settle-inside r h)
    settle-inside (owing r n u) h = owed_inside (settle a r) n u (settle-inside r h)
    settle-inside (guard r n u) h = guard_inside (settle a r) n u (or-left (n == g) (is_inside g r) h) (settle-inside r (or-right (n == g) (is_inside g r) h))
    settle-inside (try_ r handlers) h = try_inside (settle a r) handlers (settle-inside r h)
    settle-inside (frame r x) h = settle-inside r h
    settle-inside (shell r x) h = shell_inside (settle a r) x (settle-inside r h)
    settle-inside (run n r) h = run_inside n (settle a r) (settle-inside r h)
    settle-inside (goal r k) h = settle-inside r h

    finished_unleft : (p n : ℕ) (r : Residual) → unleft g (finished_if p n r)
    finished_unleft p n skip = refl
    finished_unleft p n other = refl

    begun_unleft : (p n u : ℕ) (r : Residual) → unleft g (begun_if p a r n u)
    begun_unleft p n u skip = finished_unleft p n (block a u)
    begun_unleft p n u other = refl

    left_unleft : (p n : ℕ) (r : Residual) → (n == g) ≡ false → unleft g (left_if p r n)
    left_unleft p n skip e = ap (λ b. b || false) e
    left_unleft p n other e = refl

    pub fall-unleft : (p : ℕ) (r : Residual) → is_inside g r ≡ false → unleft g (fall p a r)
    fall-unleft p skip h = refl
    fall-unleft p (one s) h = refl
    fall-unleft p (batch s qs) h = refl
    fall-unleft p (seq r ss) h = fall-unleft p r h
    fall-unleft p (owing r n u) h = unleft-append (fall p a r) (begun_if p a (settle a r) n u) (fall-unleft p r h) (begun_unleft p n u (settle a r))
    fall-unleft p (guard r n u) h =
        unleft-append (fall p a r) (left_if p (settle a r) n) (fall-unleft p r (or-right (n == g) (is_inside g r) h)) (left_unleft p n (settle a r) (or-left (n == g) (is_inside g r) h))
    fall-unleft p (try_ r handlers) h = fall-unleft p r h
    fall-unleft p (frame r x) h = fall-unleft p r h
    fall-unleft p (shell r x) h = fall-unleft p r h
    fall-unleft p (run n r) h = unleft-append (fall p a r) (finished_if p n (settle a r)) (fall-unleft p r h) (finished_unleft p n (settle a r))
    fall-unleft p (goal r k) h = fall-unleft p r h

  -- ---- something in place of what comes next

  module _ (new : Residual) (is_new : is_inside g new ≡ false) where
    frame_inside : (r : Residual) (x : Frame) (inside : Residual) → is_inside g inside ≡ false → is_inside g (frame_or r x new inside) ≡ false
    frame_inside skip x inside h = is_new
    frame_inside other x inside h = h

    goal_inside : (r : Residual) (k : Goal) (inside : Residual) → is_inside g inside ≡ false → is_inside g (goal_or r k new inside) ≡ false
    goal_inside skip k inside h = is_new
    goal_inside other k inside h = h

    pub put-inside : (r : Residual) → is_inside g r ≡ false → is_inside g (put r new) ≡ false
    put-inside skip h = refl
    put-inside (one s) h = is_new
    put-inside (batch s qs) h = is_new
    put-inside (seq r ss) h = followed_inside (put r new) ss ∙ put-inside r h
    put-inside (owing r n u) h = put-inside r h
    put-inside (guard r n u) h = neither (n == g) _ (or-left (n == g) (is_inside g r) h) (put-inside r (or-right (n == g) (is_inside g r) h))
    put-inside (try_ r handlers) h = put-inside r h
    put-inside (frame r x) h = frame_inside r x (put r new) (put-inside r h)
    put-inside (shell r x) h = put-inside r h
    put-inside (run n r) h = put-inside r h
    put-inside (goal r k) h = goal_inside r k (put r new) (put-inside r h)

  -- ---- a return

  module _ (v : Option Value) where
    inside_if : (b : Bool) (r s : Residual) → is_inside g r ≡ false → is_inside g s ≡ false → is_inside g (cond b r s) ≡ false
    inside_if true r s one_ two = one_
    inside_if false r s one_ two = two

    pub returned-inside : (r : Residual) → is_inside g r ≡ false → is_inside g (returned v r) ≡ false
    returned-inside skip h = refl
    returned-inside (one s) h = refl
    returned-inside (batch s qs) h = refl
    returned-inside (seq r ss) h = returned-inside r h
    returned-inside (owing r n u) h = returned-inside r h
    returned-inside (guard r n u) h = neither (n == g) _ (or-left (n == g) (is_inside g r) h) (returned-inside r (or-right (n == g) (is_inside g r) h))
    returned-inside (try_ r handlers) h = returned-inside r h
    returned-inside (frame r x) h = inside_if (has_exit r) (frame (returned v r) x) (frame skip (record x { answer = v })) (returned-inside r h) refl
    returned-inside (shell r x) h = returned-inside r h
    returned-inside (run n r) h = inside_if (has_exit r) (run n (returned v r)) (run n skip) (returned-inside r h) refl
    returned-inside (goal r k) h = returned-inside r h

  left_marks_unleft : (p : ℕ) (r : Residual) → is_inside g r ≡ false → unleft g (guards_left p r)
  left_marks_unleft p skip h = refl
  left_marks_unleft p (one s) h = refl
  left_marks_unleft p (batch s qs) h = refl
  left_marks_unleft p (seq r ss) h = left_marks_unleft p r h
  left_marks_unleft p (owing r n u) h = left_marks_unleft p r h
  left_marks_unleft p (guard r n u) h =
      unleft-append (guards_left p r) (leave p n ∷ []) (left_marks_unleft p r (or-right (n == g) (is_inside g r) h)) (ap (λ b. b || false) (or-left (n == g) (is_inside g r) h))
  left_marks_unleft p (try_ r handlers) h = left_marks_unleft p r h
  left_marks_unleft p (frame r x) h = left_marks_unleft p r h
  left_marks_unleft p (shell r x) h = left_marks_unleft p r h
  left_marks_unleft p (run n r) h = left_marks_unleft p r h
  left_marks_unleft p (goal r k) h = left_marks_unleft p r h

  unleft_if : (b : Bool) (ms ns : List Mark) → unleft g ms → unleft g ns → unleft g (cond b ms ns)
  unleft_if true ms ns one_ two = one_
  unleft_if false ms ns one_ two = two

  pub return-unleft : (p : ℕ) (r : Residual) → is_inside g r ≡ false → unleft g (return_marks p r)
  return-unleft p skip h = refl
  return-unleft p (one s) h = refl
  return-unleft p (batch s qs) h = refl
  return-unleft p (seq r ss) h = return-unleft p r h
  return-unleft p (owing r n u) h = return-unleft p r h
  return-unleft p (guard r n u) h = return-unleft p r (or-right (n == g) (is_inside g r) h)
  return-unleft p (try_ r handlers) h = return-unleft p r h
  return-unleft p (frame r x) h = unleft_if (has_exit r) (return_marks p r) (guards_left p r) (return-unleft p r h) (left_marks_unleft p r h)
  return-unleft p (shell r x) h = return-unleft p r h
  return-unleft p (run n r) h = unleft_if (has_exit r) (return_marks p r) (guards_left p r) (return-unleft p r h) (left_marks_unleft p r h)
  return-unleft p (goal r k) h = return-unleft p r h

  -- ---- a local variable, a kill, a reset and an exception

  pub local-inside : (f : Frame → Frame) (r : Residual) → is_inside g (in_innermost f r) ≡ is_inside g r
  local-inside f skip = refl
  local-inside f (one s) = refl
  local-inside f (batch s qs) = refl
  local-inside f (seq r ss) = local-inside f r
  local-inside f (owing r n u) = local-inside f r
  local-inside f (guard r n u) = ap (λ b. (n == g) || b) (local-inside f r)
  local-inside f (try_ r handlers) = local-inside f r
  local-inside f (frame r x) = local-inside f r
  local-inside f (shell r x) = local-inside f r
  local-inside f (run n r) = local-inside f r
  local-inside f (goal r k) = local-inside f r

  -- a call that is owed to one instance less
  pub off-inside : (r : Residual) → is_inside g (taken_off r) ≡ is_inside g r
  off-inside skip = refl
  off-inside (one s) = refl
  off-inside (batch s qs) = refl
  off-inside (seq r ss) = off-inside r
  off-inside (owing r n u) = off-inside r
  off-inside (guard r n u) = ap (λ b. (n == g) || b) (off-inside r)
  off-inside (try_ r handlers) = off-inside r
  off-inside (frame r x) = off-inside r
  off-inside (shell r x) = off-inside r
  off-inside (run n r) = off-inside r
  off-inside (goal r k) = off-inside r

  pub unw-inside : (r : Residual) → is_inside g (unw r) ≡ false
  unw-inside skip = refl
  unw-inside (one s) = refl
  unw-inside (batch s qs) = refl
  unw-inside (seq r ss) = unw-inside r
  unw-inside (owing r n u) = unw-inside r
  unw-inside (guard r n u) = unw-inside r
  unw-inside (try_ r handlers) = unw-inside r
  unw-inside (frame r x) = unw-inside r
  unw-inside (shell r x) = unw-inside r
  unw-inside (run n r) = unw-inside r
  unw-inside (goal r k) = unw-inside r

  module _ (a : Arena) (e : ℕ) (k : Goal) where
    try_inside_too : (b c : Bool) (r : Residual) (handlers : List Handler) → is_inside g r ≡ false → is_inside g (raise a r e k) ≡ false → is_inside g (cond b (try_ (raise a r e k) handlers) (cond c (handled a r handlers e k) (try_ r handlers))) ≡ false
    try_inside_too true c r handlers h later = later
    try_inside_too false true r handlers h later = followed_inside (goal (unw r) k) (handler_block a (handler_of handlers e)) ∙ unw-inside r
    try_inside_too false false r handlers h later = h

    pub raise-inside : (r : Residual) → is_inside g r ≡ false → is_inside g (raise a r e k) ≡ false
    raise-inside skip h = refl
    raise-inside (one s) h = refl
    raise-inside (batch s qs) h = refl
    raise-inside (seq r ss) h = raise-inside r h
    raise-inside (owing r n u) h = raise-inside r h
    raise-inside (guard r n u) h = neither (n == g) _ (or-left (n == g) (is_inside g r) h) (raise-inside r (or-right (n == g) (is_inside g r) h))
    raise-inside (try_ r handlers) h = try_inside_too (catches r e) (handles handlers e) r handlers h (raise-inside r h)
    raise-inside (frame r x) h = raise-inside r h
    raise-inside (shell r x) h = raise-inside r h
    raise-inside (run n r) h = raise-inside r h
    raise-inside (goal r j) h = raise-inside r h
