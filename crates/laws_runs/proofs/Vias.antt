-- The transport calls that are open in what is left of a body, the innermost first, and what each move makes of them.
use Rattle.std.proofs.Common.{◌≡◌, ℕ, Bool, true, false, cond, List, [], ◌∷◌, ◌++◌, Option, Some, None, refl, sym, ap, ◌∙◌, subst, true≢false, append-nil, append_assoc}
use Rattle.sim_model.specs.LogicValues.declared.kinds.Value.{Value}
use Rattle.sim_model.specs.FlatDesign.Code as code
use Rattle.sim_model.specs.FlatDesign.Code.{Arena, Statement, block_at, body_at}
use Rattle.sim_model.specs.FlatDesign.declared.code.CodeBody.{CodeBody}
use Rattle.sim_model.specs.FlatDesign.declared.code.Handler.{Handler}
use Rattle.sim_model.specs.FlatDesign.declared.design.Design.{Design}
use Rattle.sim_model.specs.Residual.{Residual, Frame, Next, skip, one, batch, seq, owing, guard, try_, frame, shell, run, goal, followed, statements, block, then_on, in_run, then_owed, in_guard, in_try, in_shell, settle, frame_or, goal_or, put, taken_off, innermost, changed_if, in_innermost, in_frame, frame_end, before_goal, next_of, statement, owes, leaves, done, reaches, nothing, entered, entered_in}
use Rattle.sim_model.specs.Unwinding.{unw, catches, handles, handler_block, handler_of, handled, raise, left_via, left_by_unw, left_by_raise, has_exit, returned}
use Rattle.sim_model.specs.Storing.{with_local}
use Rattle.sim_model.specs.declared.plain.Goal.{Goal}
use Rattle.sim_model.specs.declared.plain.Via.{Via}
use Rattle.laws_runs.proofs.MarkLemmas.{before_statement, frame_statement}
use Rattle.laws_runs.specs.Standing.{code_of}
use Rattle.laws_runs.proofs.Tight.{IsLeft, IsTight}
use Rattle.laws_runs.proofs.GoalParts.{OnlyCalls, MayPass, is_transport, caller}

-- ---- settling

followed_vias : (r : Residual) (ss : List ℕ) → left_by_unw (followed r ss) ≡ left_by_unw r
followed_vias r [] = refl
followed_vias r (s ∷ ss) = refl

statements_vias : (ss : List ℕ) → left_by_unw (statements ss) ≡ []
statements_vias [] = refl
statements_vias (s ∷ []) = refl
statements_vias (s ∷ t ∷ ss) = refl

pub block-vias : (a : Arena) (b : ℕ) → left_by_unw (block a b) ≡ []
block-vias a b = statements_vias (block_at a b)

module _ (a : Arena) where
  then_vias : (r : Residual) (ss : List ℕ) → left_by_unw (then_on r ss) ≡ left_by_unw r
  then_vias skip ss = statements_vias ss
  then_vias (one s) ss = followed_vias (one s) ss
  then_vias (batch s qs) ss = followed_vias (batch s qs) ss
  then_vias (seq r us) ss = followed_vias (seq r us) ss
  then_vias (owing r g u) ss = followed_vias (owing r g u) ss
  then_vias (guard r g u) ss = followed_vias (guard r g u) ss
  then_vias (try_ r handlers) ss = followed_vias (try_ r handlers) ss
  then_vias (frame r x) ss = followed_vias (frame r x) ss
  then_vias (shell r x) ss = followed_vias (shell r x) ss
  then_vias (run g r) ss = followed_vias (run g r) ss
  then_vias (goal r k) ss = followed_vias (goal r k) ss

  run_vias : (g : ℕ) (r : Residual) → left_by_unw (in_run g r) ≡ left_by_unw r
  run_vias g skip = refl
  run_vias g other = refl

  owed_vias : (r : Residual) (g u : ℕ) → left_by_unw (then_owed a r g u) ≡ left_by_unw r
  owed_vias skip g u = run_vias g (block a u) ∙ block-vias a u
  owed_vias other g u = refl

  guard_vias : (r : Residual) (g u : ℕ) → left_by_unw (in_guard r g u) ≡ left_by_unw r
  guard_vias skip g u = refl
  guard_vias other g u = refl

  try_vias : (r : Residual) (handlers : List Handler) → left_by_unw (in_try r handlers) ≡ left_by_unw r
  try_vias skip handlers = refl
  try_vias other handlers = refl

  shell_vias : (r : Residual) (x : Frame) → left_by_unw (in_shell r x) ≡ left_by_unw r
  shell_vias skip x = refl
  shell_vias other x = refl

  pub settle-vias : (r : Residual) → left_by_unw (settle a r) ≡ left_by_unw r
  settle-vias skip = refl
  settle-vias (one s) = refl
  settle-vias (batch s []) = refl
  settle-vias (batch s (q ∷ qs)) = refl
  settle-vias (seq r ss) = then_vias (settle a r) ss ∙ settle-vias r
  settle-vias (owing r g u) = owed_vias (settle a r) g u ∙ settle-vias r
  settle-vias (guard r g u) = guard_vias (settle a r) g u ∙ settle-vias r
  settle-vias (try_ r handlers) = try_vias (settle a r) handlers ∙ settle-vias r
  settle-vias (frame r x) = ap (λ vs. vs ++ left_via x.via) (settle-vias r)
  settle-vias (shell r x) = shell_vias (settle a r) x ∙ settle-vias r
  settle-vias (run g r) = run_vias g (settle a r) ∙ settle-vias r
  settle-vias (goal r k) = settle-vias r

-- ---- something in place of a statement

more_behind : (new xs ys out : List Via) → out ≡ new ++ xs → out ++ ys ≡ new ++ (xs ++ ys)
more_behind new xs ys out h = ap (λ zs. zs ++ ys) h ∙ append_assoc new xs ys

frame_kept : (r : Residual) (x : Frame) (n inside : Residual) (s : ℕ) → next_of r ≡ statement s → left_by_unw (frame_or r x n inside) ≡ left_by_unw inside ++ left_via x.via
frame_kept skip x n inside s is = cc
frame_kept other x n inside s is = refl

goal_kept : (r : Residual) (k : Goal) (n inside : Residual) (s : ℕ) → next_of r ≡ statement s → left_by_unw (goal_or r k n inside) ≡ left_by_unw inside
goal_kept skip k n inside s is = cc
goal_kept other k n inside s is = refl

pub put-vias : (r n : Residual) (s : ℕ) → next_of r ≡ statement s → left_by_unw (put r n) ≡ left_by_unw n ++ left_by_unw r
put-vias skip n s is = cc
put-vias (one t) n s is = sym (append-nil (left_by_unw n))
put-vias (batch t qs) n s is = sym (append-nil (left_by_unw n))
put-vias (seq r ss) n s is = followed_vias (put r n) ss ∙ put-vias r n s is
put-vias (owing r g u) n s is = put-vias r n s is
put-vias (guard r g u) n s is = put-vias r n s is
put-vias (try_ r handlers) n s is = put-vias r n s is
put-vias (frame r x) n s is =
    let there = frame_statement (next_of r) x s is in
    frame_kept r x n (put r n) s there ∙ more_behind (left_by_unw n) (left_by_unw r) (left_via x.via) (left_by_unw (put r n)) (put-vias r n s there)
put-vias (shell r x) n s is = put-vias r n s is
put-vias (run g r) n s is = put-vias r n s is
put-vias (goal r k) n s is = let there = before_statement (next_of r) k s is in goal_kept r k n (put r n) s there ∙ put-vias r n s there

-- ---- where nothing comes next nothing is left

in_frame_some : (n : Next) (x : Frame) → in_frame n x ≡ nothing → ⊥
in_frame_some (statement s) x is = cc
in_frame_some (owes s q) x is = cc
in_frame_some (leaves y) x is = cc
in_frame_some done x is = cc
in_frame_some (reaches k) x is = cc
in_frame_some nothing x is = ends x.call is
  where
    ends : (call : Option ℕ) → frame_end call x ≡ nothing → ⊥
    ends None e = cc
    ends (Some t) e = cc

before_some : (n : Next) (k : Goal) → before_goal n k ≡ nothing → ⊥
before_some (statement s) k is = cc
before_some (owes s q) k is = cc
before_some (leaves y) k is = cc
before_some done k is = cc
before_some (reaches j) k is = cc
before_some nothing k is = cc

not_left : (r : Residual) → r ≡ skip → IsLeft r → ⊥
not_left r is left = subst IsLeft is left

tight_nothing : (r : Residual) → IsTight r → next_of r ≡ nothing → r ≡ skip
tight_nothing skip t is = refl
tight_nothing (one s) t is = cc
tight_nothing (batch s []) t is = absurd t
tight_nothing (batch s (q ∷ qs)) t is = cc
tight_nothing (seq r ss) t is = absurd (not_left r (tight_nothing r t.1 is) t.0)
tight_nothing (owing r g u) t is = absurd (not_left r (tight_nothing r t.1 is) t.0)
tight_nothing (guard r g u) t is = absurd (not_left r (tight_nothing r t.1 is) t.0)
tight_nothing (try_ r handlers) t is = absurd (not_left r (tight_nothing r t.1 is) t.0)
tight_nothing (frame r x) t is = absurd (in_frame_some (next_of r) x is)
tight_nothing (shell r x) t is = absurd (not_left r (tight_nothing r t.1 is) t.0)
tight_nothing (run g r) t is = absurd (not_left r (tight_nothing r t.1 is) t.0)
tight_nothing (goal r k) t is = absurd (before_some (next_of r) k is)

-- ---- a call that ends: its frame is gone

same_leaves : (x y : Frame) → ◌≡◌ {A = Next} (leaves x) (leaves y) → x ≡ y
same_leaves x y e = cc

ends_with : (call : Option ℕ) (x y : Frame) → frame_end call x ≡ leaves y → x ≡ y
ends_with None x y e = cc
ends_with (Some s) x y e = same_leaves x y e

inner_leaves : (n : Next) (x y : Frame) → in_frame n x ≡ leaves y → (n ≡ nothing → ⊥) → n ≡ leaves y
inner_leaves (statement s) x y e some = cc
inner_leaves (owes s q) x y e some = cc
inner_leaves (leaves z) x y e some = e
inner_leaves done x y e some = cc
inner_leaves (reaches k) x y e some = cc
inner_leaves nothing x y e some = absurd (some refl)

frame_case : (r : Residual) (x y : Frame) → IsTight r → in_frame (next_of r) x ≡ leaves y → (next_of r ≡ leaves y → left_by_unw r ≡ left_via y.via ++ left_by_unw (put r skip))
    → left_by_unw r ++ left_via x.via ≡ left_via y.via ++ left_by_unw (frame_or r x skip (put r skip))
frame_case skip x y t e later = ap (λ (z : Frame). left_via z.via) (ends_with x.call x y e) ∙ sym (append-nil (left_via y.via))
frame_case other x y t e later =
    more_behind (left_via y.via) (left_by_unw (put other skip)) (left_via x.via) (left_by_unw other) (later (inner_leaves (next_of other) x y e (λ none. not_left other (tight_nothing other t none) tt)))

goal_leaves : (n : Next) (k : Goal) (y : Frame) → before_goal n k ≡ leaves y → n ≡ leaves y
goal_leaves (statement s) k y e = cc
goal_leaves (owes s q) k y e = cc
goal_leaves (leaves z) k y e = e
goal_leaves done k y e = cc
goal_leaves (reaches j) k y e = cc
goal_leaves nothing k y e = cc

goal_case : (r : Residual) (k : Goal) (y : Frame) → next_of r ≡ leaves y → left_by_unw r ≡ left_via y.via ++ left_by_unw (put r skip) → left_by_unw r ≡ left_via y.via ++ left_by_unw (goal_or r k skip (put r skip))
goal_case skip k y e later = cc
goal_case other k y e later = later

pub leaves-vias : (r : Residual) (y : Frame) → IsTight r → next_of r ≡ leaves y → left_by_unw r ≡ left_via y.via ++ left_by_unw (put r skip)
leaves-vias skip y t e = cc
leaves-vias (one s) y t e = cc
leaves-vias (batch s []) y t e = cc
leaves-vias (batch s (q ∷ qs)) y t e = cc
leaves-vias (seq r ss) y t e = leaves-vias r y t.1 e ∙ ap (λ vs. left_via y.via ++ vs) (sym (followed_vias (put r skip) ss))
leaves-vias (owing r g u) y t e = leaves-vias r y t.1 e
leaves-vias (guard r g u) y t e = leaves-vias r y t.1 e
leaves-vias (try_ r handlers) y t e = leaves-vias r y t.1 e
leaves-vias (frame r x) y t e = frame_case r x y t e (leaves-vias r y t)
leaves-vias (shell r x) y t e = leaves-vias r y t.1 e
leaves-vias (run g r) y t e = leaves-vias r y t.1 e
leaves-vias (goal r k) y t e = let inner = goal_leaves (next_of r) k y e in goal_case r k y inner (leaves-vias r y t inner)

-- ---- a goal that is reached

frame_reaches : (n : Next) (x : Frame) (k : Goal) → in_frame n x ≡ reaches k → n ≡ reaches k
frame_reaches (statement s) x k e = cc
frame_reaches (owes s q) x k e = cc
frame_reaches (leaves y) x k e = cc
frame_reaches done x k e = cc
frame_reaches (reaches j) x k e = e
frame_reaches nothing x k e = absurd (ends x.call e)
  where
    ends : (call : Option ℕ) → frame_end call x ≡ reaches k → ⊥
    ends None i = cc
    ends (Some s) i = cc

frame_same : (r : Residual) (x : Frame) (k : Goal) → next_of r ≡ reaches k → left_by_unw (put r skip) ≡ left_by_unw r → left_by_unw (frame_or r x skip (put r skip)) ≡ left_by_unw r ++ left_via x.via
frame_same skip x k e later = cc
frame_same other x k e later = ap (λ vs. vs ++ left_via x.via) later

goal_same : (r : Residual) (j : Goal) → left_by_unw (put r skip) ≡ left_by_unw r → left_by_unw (goal_or r j skip (put r skip)) ≡ left_by_unw r
goal_same skip j later = refl
goal_same other j later = later

goal_reached : (n : Next) (r : Residual) (j k : Goal) → next_of r ≡ n → IsTight r → before_goal n j ≡ reaches k → (n ≡ reaches k → left_by_unw (put r skip) ≡ left_by_unw r) → left_by_unw (goal_or r j skip (put r skip)) ≡ left_by_unw r
goal_reached (statement s) r j k is t e later = cc
goal_reached (owes s q) r j k is t e later = cc
goal_reached (leaves y) r j k is t e later = cc
goal_reached done r j k is t e later = cc
goal_reached (reaches i) r j k is t e later = goal_same r j (later e)
goal_reached nothing r j k is t e later = subst (λ q. left_by_unw (goal_or q j skip (put q skip)) ≡ left_by_unw q) (sym (tight_nothing r t is)) refl

pub reaches-vias : (r : Residual) (k : Goal) → IsTight r → next_of r ≡ reaches k → left_by_unw (put r skip) ≡ left_by_unw r
reaches-vias skip k t e = refl
reaches-vias (one s) k t e = refl
reaches-vias (batch s qs) k t e = refl
reaches-vias (seq r ss) k t e = followed_vias (put r skip) ss ∙ reaches-vias r k t.1 e
reaches-vias (owing r g u) k t e = reaches-vias r k t.1 e
reaches-vias (guard r g u) k t e = reaches-vias r k t.1 e
reaches-vias (try_ r handlers) k t e = reaches-vias r k t.1 e
reaches-vias (frame r x) k t e = let inner = frame_reaches (next_of r) x k e in frame_same r x k inner (reaches-vias r k t inner)
reaches-vias (shell r x) k t e = reaches-vias r k t.1 e
reaches-vias (run g r) k t e = reaches-vias r k t.1 e
reaches-vias (goal r j) k t e = goal_reached (next_of r) r j k refl t e (reaches-vias r k t)

-- ---- a return, a local variable, a kill, a reset and an exception

no_exit : (r : Residual) → has_exit r ≡ false → left_by_unw r ≡ []
no_exit skip h = refl
no_exit (one s) h = refl
no_exit (batch s qs) h = refl
no_exit (seq r ss) h = no_exit r h
no_exit (owing r g u) h = no_exit r h
no_exit (guard r g u) h = no_exit r h
no_exit (try_ r handlers) h = no_exit r h
no_exit (frame r x) h = absurd (true≢false h)
no_exit (shell r x) h = no_exit r h
no_exit (run g r) h = absurd (true≢false h)
no_exit (goal r k) h = no_exit r h

module _ (v : Option Value) where
  frame_returned : (b : Bool) (r : Residual) (x : Frame) → has_exit r ≡ b → left_by_unw (returned v r) ≡ left_by_unw r → left_by_unw (cond b (frame (returned v r) x) (frame skip (record x { answer = v }))) ≡ left_by_unw r ++ left_via x.via
  frame_returned true r x is later = ap (λ vs. vs ++ left_via x.via) later
  frame_returned false r x is later = ap (λ vs. vs ++ left_via x.via) (sym (no_exit r is))

  run_returned : (b : Bool) (g : ℕ) (r : Residual) → has_exit r ≡ b → left_by_unw (returned v r) ≡ left_by_unw r → left_by_unw (cond b (run g (returned v r)) (run g skip)) ≡ left_by_unw r
  run_returned true g r is later = later
  run_returned false g r is later = sym (no_exit r is)

  pub returned-vias : (r : Residual) → left_by_unw (returned v r) ≡ left_by_unw r
  returned-vias skip = refl
  returned-vias (one s) = refl
  returned-vias (batch s qs) = refl
  returned-vias (seq r ss) = returned-vias r
  returned-vias (owing r g u) = returned-vias r
  returned-vias (guard r g u) = returned-vias r
  returned-vias (try_ r handlers) = returned-vias r
  returned-vias (frame r x) = frame_returned (has_exit r) r x refl (returned-vias r)
  returned-vias (shell r x) = returned-vias r
  returned-vias (run g r) = run_returned (has_exit r) g r refl (returned-vias r)
  returned-vias (goal r k) = returned-vias r

module _ (n : ℕ) (v : Value) where
  same_via : (o : Option Frame) (x : Frame) → (changed_if o (with_local n v) x).via ≡ x.via
  same_via None x = refl
  same_via (Some y) x = refl

  pub local-vias : (r : Residual) → left_by_unw (in_innermost (with_local n v) r) ≡ left_by_unw r
  local-vias skip = refl
  local-vias (one s) = refl
  local-vias (batch s qs) = refl
  local-vias (seq r ss) = local-vias r
  local-vias (owing r g u) = local-vias r
  local-vias (guard r g u) = local-vias r
  local-vias (try_ r handlers) = local-vias r
  local-vias (frame r x) = ap (λ vs. vs ++ left_via (changed_if (innermost r) (with_local n v) x).via) (local-vias r) ∙ ap (λ o. left_by_unw r ++ left_via o) (same_via (innermost r) x)
  local-vias (shell r x) = local-vias r
  local-vias (run g r) = local-vias r
  local-vias (goal r k) = local-vias r

-- ---- a call that is owed to one instance less

pub off-vias : (r : Residual) → left_by_unw (taken_off r) ≡ left_by_unw r
off-vias skip = refl
off-vias (one s) = refl
off-vias (batch s qs) = refl
off-vias (seq r ss) = off-vias r
off-vias (owing r g u) = off-vias r
off-vias (guard r g u) = off-vias r
off-vias (try_ r handlers) = off-vias r
off-vias (frame r x) = ap (λ vs. vs ++ left_via x.via) (off-vias r)
off-vias (shell r x) = off-vias r
off-vias (run g r) = off-vias r
off-vias (goal r k) = off-vias r

pub unw-vias : (r : Residual) → left_by_unw (unw r) ≡ []
unw-vias skip = refl
unw-vias (one s) = refl
unw-vias (batch s qs) = refl
unw-vias (seq r ss) = unw-vias r
unw-vias (owing r g u) = unw-vias r
unw-vias (guard r g u) = unw-vias r
unw-vias (try_ r handlers) = unw-vias r
unw-vias (frame r x) = unw-vias r
unw-vias (shell r x) = unw-vias r
unw-vias (run g r) = unw-vias r
unw-vias (goal r k) = unw-vias r

module _ (a : Arena) (e : ℕ) (k : Goal) where
  try_raised : (b c : Bool) (r : Residual) (handlers : List Handler) → left_by_unw r ≡ left_by_raise r e ++ left_by_unw (raise a r e k)
      → left_by_unw r ≡ cond b (left_by_raise r e) (cond c (left_by_unw r) []) ++ left_by_unw (cond b (try_ (raise a r e k) handlers) (cond c (handled a r handlers e k) (try_ r handlers)))
  try_raised true c r handlers later = later
  try_raised false true r handlers later =
      sym (append-nil (left_by_unw r)) ∙ ap (λ vs. left_by_unw r ++ vs) (sym (followed_vias (goal (unw r) k) (handler_block a (handler_of handlers e)) ∙ unw-vias r))
  try_raised false false r handlers later = refl

  pub raise-vias : (r : Residual) → left_by_unw r ≡ left_by_raise r e ++ left_by_unw (raise a r e k)
  raise-vias skip = refl
  raise-vias (one s) = refl
  raise-vias (batch s qs) = refl
  raise-vias (seq r ss) = raise-vias r
  raise-vias (owing r g u) = raise-vias r
  raise-vias (guard r g u) = raise-vias r
  raise-vias (try_ r handlers) = try_raised (catches r e) (handles handlers e) r handlers (raise-vias r)
  raise-vias (frame r x) = more_behind (left_by_raise r e) (left_by_unw (raise a r e k)) (left_via x.via) (left_by_unw r) (raise-vias r)
  raise-vias (shell r x) = raise-vias r
  raise-vias (run g r) = raise-vias r
  raise-vias (goal r j) = raise-vias r

-- ---- bodies

pub calls-vias : (r : Residual) → OnlyCalls r → left_by_unw r ≡ []
calls-vias skip h = refl
calls-vias (one s) h = refl
calls-vias (batch s qs) h = refl
calls-vias (seq r ss) h = calls-vias r h
calls-vias (owing r g u) h = calls-vias r h
calls-vias (guard r g u) h = calls-vias r h
calls-vias (try_ r handlers) h = calls-vias r h
calls-vias (frame r x) h = ap (λ vs. vs ++ left_via x.via) (calls-vias r h.2) ∙ ap left_via h.1
calls-vias (shell r x) h = calls-vias r h.2
calls-vias (run g r) h = calls-vias r h
calls-vias (goal r k) h = calls-vias r h

pub entered-vias : (a : Arena) (f : ℕ) (args : List Value) (call : Option ℕ) (via : Option Via) → left_by_unw (entered a f args call via) ≡ left_via via
entered-vias a f args call via = by (body_at a f)
  where
    by : (o : Option CodeBody) → left_by_unw (entered_in a f args call via o) ≡ left_via via
    by None = refl
    by (Some b) = ap (λ vs. vs ++ left_via via) (block-vias a b.block)

-- ---- which statement made a transport call

abbrev pub IsCallOver : Option Statement → Bool → Type 0
IsCallOver (Some (code.b_transport s n d)) b = b ≡ true
IsCallOver (Some (code.nb_transport y s n phase d)) b = b ≡ false
IsCallOver other b = ⊥

abbrev pub KindFor : Option Statement → Option Via → Type 0
KindFor s None = Unit {0}
KindFor s (Some via) = IsCallOver s via.blocking

-- each open transport call was made by a statement of its kind
abbrev pub Kinds : Design → Residual → Type 0
Kinds d skip = Unit {0}
Kinds d (one s) = Unit {0}
Kinds d (batch s qs) = Unit {0}
Kinds d (seq r ss) = Kinds d r
Kinds d (owing r g u) = Kinds d r
Kinds d (guard r g u) = Kinds d r
Kinds d (try_ r handlers) = Kinds d r
Kinds d (frame r x) = KindFor (caller d x.call) x.via × Kinds d r
Kinds d (shell r x) = Kinds d r
Kinds d (run g r) = Kinds d r
Kinds d (goal r k) = Kinds d r

module _ (d : Design) where
  abbrev a : Arena
  a = code_of d

  followed_kinds : (r : Residual) (ss : List ℕ) → Kinds d r → Kinds d (followed r ss)
  followed_kinds r [] h = h
  followed_kinds r (s ∷ ss) h = h

  statements_kinds : (ss : List ℕ) → Kinds d (statements ss)
  statements_kinds [] = tt
  statements_kinds (s ∷ []) = tt
  statements_kinds (s ∷ t ∷ ss) = tt

  pub block-kinds : (b : ℕ) → Kinds d (block a b)
  block-kinds b = statements_kinds (block_at a b)

  then_kinds : (r : Residual) (ss : List ℕ) → Kinds d r → Kinds d (then_on r ss)
  then_kinds skip ss h = statements_kinds ss
  then_kinds (one s) ss h = followed_kinds (one s) ss h
  then_kinds (batch s qs) ss h = followed_kinds (batch s qs) ss h
  then_kinds (seq r us) ss h = followed_kinds (seq r us) ss h
  then_kinds (owing r g u) ss h = followed_kinds (owing r g u) ss h
  then_kinds (guard r g u) ss h = followed_kinds (guard r g u) ss h
  then_kinds (try_ r handlers) ss h = followed_kinds (try_ r handlers) ss h
  then_kinds (frame r x) ss h = followed_kinds (frame r x) ss h
  then_kinds (shell r x) ss h = followed_kinds (shell r x) ss h
  then_kinds (run g r) ss h = followed_kinds (run g r) ss h
  then_kinds (goal r k) ss h = followed_kinds (goal r k) ss h

  run_kinds : (g : ℕ) (r : Residual) → Kinds d r → Kinds d (in_run g r)
  run_kinds g skip h = tt
  run_kinds g other h = h

  owed_kinds : (r : Residual) (g u : ℕ) → Kinds d r → Kinds d (then_owed a r g u)
  owed_kinds skip g u h = run_kinds g (block a u) (block-kinds u)
  owed_kinds other g u h = h

  guard_kinds : (r : Residual) (g u : ℕ) → Kinds d r → Kinds d (in_guard r g u)
  guard_kinds skip g u h = tt
  guard_kinds other g u h = h

  try_kinds : (r : Residual) (handlers : List Handler) → Kinds d r → Kinds d (in_try r handlers)
  try_kinds skip handlers h = tt
  try_kinds other handlers h = h

  shell_kinds : (r : Residual) (x : Frame) → Kinds d r → Kinds d (in_shell r x)
  shell_kinds skip x h = tt
  shell_kinds other x h = h

  pub settle-kinds : (r : Residual) → Kinds d r → Kinds d (settle a r)
  settle-kinds skip h = tt
  settle-kinds (one s) h = tt
  settle-kinds (batch s []) h = tt
  settle-kinds (batch s (q ∷ qs)) h = tt
  settle-kinds (seq r ss) h = then_kinds (settle a r) ss (settle-kinds r h)
  settle-kinds (owing r g u) h = owed_kinds (settle a r) g u (settle-kinds r h)
  settle-kinds (guard r g u) h = guard_kinds (settle a r) g u (settle-kinds r h)
  settle-kinds (try_ r handlers) h = try_kinds (settle a r) handlers (settle-kinds r h)
  settle-kinds (frame r x) h = (h.0, settle-kinds r h.1)
  settle-kinds (shell r x) h = shell_kinds (settle a r) x (settle-kinds r h)
  settle-kinds (run g r) h = run_kinds g (settle a r) (settle-kinds r h)
  settle-kinds (goal r k) h = settle-kinds r h

  module _ (n : Residual) (new : Kinds d n) where
    frame_kinds : (r : Residual) (x : Frame) (inside : Residual) → KindFor (caller d x.call) x.via → Kinds d inside → Kinds d (frame_or r x n inside)
    frame_kinds skip x inside kind h = new
    frame_kinds other x inside kind h = (kind, h)

    goal_kinds : (r : Residual) (k : Goal) (inside : Residual) → Kinds d inside → Kinds d (goal_or r k n inside)
    goal_kinds skip k inside h = new
    goal_kinds other k inside h = h

    pub put-kinds : (r : Residual) → Kinds d r → Kinds d (put r n)
    put-kinds skip h = tt
    put-kinds (one s) h = new
    put-kinds (batch s qs) h = new
    put-kinds (seq r ss) h = followed_kinds (put r n) ss (put-kinds r h)
    put-kinds (owing r g u) h = put-kinds r h
    put-kinds (guard r g u) h = put-kinds r h
    put-kinds (try_ r handlers) h = put-kinds r h
    put-kinds (frame r x) h = frame_kinds r x (put r n) h.0 (put-kinds r h.1)
    put-kinds (shell r x) h = put-kinds r h
    put-kinds (run g r) h = put-kinds r h
    put-kinds (goal r k) h = goal_kinds r k (put r n) (put-kinds r h)

  module _ (v : Option Value) where
    kinds_if : (b : Bool) (r s : Residual) → Kinds d r → Kinds d s → Kinds d (cond b r s)
    kinds_if true r s one_ two = one_
    kinds_if false r s one_ two = two

    pub returned-kinds : (r : Residual) → Kinds d r → Kinds d (returned v r)
    returned-kinds skip h = tt
    returned-kinds (one s) h = tt
    returned-kinds (batch s qs) h = tt
    returned-kinds (seq r ss) h = returned-kinds r h
    returned-kinds (owing r g u) h = returned-kinds r h
    returned-kinds (guard r g u) h = returned-kinds r h
    returned-kinds (try_ r handlers) h = returned-kinds r h
    returned-kinds (frame r x) h = kinds_if (has_exit r) (frame (returned v r) x) (frame skip (record x { answer = v })) (h.0, returned-kinds r h.1) (h.0, tt)
    returned-kinds (shell r x) h = returned-kinds r h
    returned-kinds (run g r) h = kinds_if (has_exit r) (run g (returned v r)) (run g skip) (returned-kinds r h) tt
    returned-kinds (goal r k) h = returned-kinds r h

  module _ (n : ℕ) (v : Value) where
    kind_kept : (o : Option Frame) (x : Frame) → KindFor (caller d x.call) x.via → KindFor (caller d (changed_if o (with_local n v) x).call) (changed_if o (with_local n v) x).via
    kind_kept None x h = h
    kind_kept (Some y) x h = h

    pub local-kinds : (r : Residual) → Kinds d r → Kinds d (in_innermost (with_local n v) r)
    local-kinds skip h = tt
    local-kinds (one s) h = tt
    local-kinds (batch s qs) h = tt
    local-kinds (seq r ss) h = local-kinds r h
    local-kinds (owing r g u) h = local-kinds r h
    local-kinds (guard r g u) h = local-kinds r h
    local-kinds (try_ r handlers) h = local-kinds r h
    local-kinds (frame r x) h = (kind_kept (innermost r) x h.0, local-kinds r h.1)
    local-kinds (shell r x) h = local-kinds r h
    local-kinds (run g r) h = local-kinds r h
    local-kinds (goal r k) h = local-kinds r h

  pub off-kinds : (r : Residual) → Kinds d r → Kinds d (taken_off r)
  off-kinds skip h = tt
  off-kinds (one s) h = tt
  off-kinds (batch s qs) h = tt
  off-kinds (seq r ss) h = off-kinds r h
  off-kinds (owing r g u) h = off-kinds r h
  off-kinds (guard r g u) h = off-kinds r h
  off-kinds (try_ r handlers) h = off-kinds r h
  off-kinds (frame r x) h = (h.0, off-kinds r h.1)
  off-kinds (shell r x) h = off-kinds r h
  off-kinds (run g r) h = off-kinds r h
  off-kinds (goal r k) h = off-kinds r h

  pub unw-kinds : (r : Residual) → Kinds d r → Kinds d (unw r)
  unw-kinds skip h = tt
  unw-kinds (one s) h = tt
  unw-kinds (batch s qs) h = tt
  unw-kinds (seq r ss) h = unw-kinds r h
  unw-kinds (owing r g u) h = unw-kinds r h
  unw-kinds (guard r g u) h = unw-kinds r h
  unw-kinds (try_ r handlers) h = unw-kinds r h
  unw-kinds (frame r x) h = unw-kinds r h.1
  unw-kinds (shell r x) h = unw-kinds r h
  unw-kinds (run g r) h = unw-kinds r h
  unw-kinds (goal r k) h = unw-kinds r h

  module _ (e : ℕ) (k : Goal) where
    try_kinds_raised : (b c : Bool) (r : Residual) (handlers : List Handler) → Kinds d r → Kinds d (raise a r e k) → Kinds d (cond b (try_ (raise a r e k) handlers) (cond c (handled a r handlers e k) (try_ r handlers)))
    try_kinds_raised true c r handlers h later = later
    try_kinds_raised false true r handlers h later = followed_kinds (goal (unw r) k) (handler_block a (handler_of handlers e)) (unw-kinds r h)
    try_kinds_raised false false r handlers h later = h

    pub raise-kinds : (r : Residual) → Kinds d r → Kinds d (raise a r e k)
    raise-kinds skip h = tt
    raise-kinds (one s) h = tt
    raise-kinds (batch s qs) h = tt
    raise-kinds (seq r ss) h = raise-kinds r h
    raise-kinds (owing r g u) h = raise-kinds r h
    raise-kinds (guard r g u) h = raise-kinds r h
    raise-kinds (try_ r handlers) h = try_kinds_raised (catches r e) (handles handlers e) r handlers h (raise-kinds r h)
    raise-kinds (frame r x) h = (h.0, raise-kinds r h.1)
    raise-kinds (shell r x) h = raise-kinds r h
    raise-kinds (run g r) h = raise-kinds r h
    raise-kinds (goal r j) h = raise-kinds r h

  pub calls-kinds : (r : Residual) → OnlyCalls r → Kinds d r
  calls-kinds skip h = tt
  calls-kinds (one s) h = tt
  calls-kinds (batch s qs) h = tt
  calls-kinds (seq r ss) h = calls-kinds r h
  calls-kinds (owing r g u) h = calls-kinds r h
  calls-kinds (guard r g u) h = calls-kinds r h
  calls-kinds (try_ r handlers) h = calls-kinds r h
  calls-kinds (frame r x) h = (subst (KindFor (caller d x.call)) (sym h.1) tt, calls-kinds r h.2)
  calls-kinds (shell r x) h = calls-kinds r h.2
  calls-kinds (run g r) h = calls-kinds r h
  calls-kinds (goal r k) h = calls-kinds r h

  pub entered-kinds : (f : ℕ) (args : List Value) (call : Option ℕ) (via : Option Via) → KindFor (caller d call) via → Kinds d (entered a f args call via)
  entered-kinds f args call via kind = by (body_at a f)
    where
      by : (o : Option CodeBody) → Kinds d (entered_in a f args call via o)
      by None = (kind, tt)
      by (Some b) = (kind, block-kinds b.block)

  -- the call that ends is one of them
  frame_kind : (n : Next) (x y : Frame) → in_frame n x ≡ leaves y → KindFor (caller d x.call) x.via → (n ≡ leaves y → KindFor (caller d y.call) y.via) → KindFor (caller d y.call) y.via
  frame_kind (statement s) x y e kind later = cc
  frame_kind (owes s q) x y e kind later = cc
  frame_kind (leaves z) x y e kind later = later e
  frame_kind done x y e kind later = cc
  frame_kind (reaches k) x y e kind later = cc
  frame_kind nothing x y e kind later = subst (λ (z : Frame). KindFor (caller d z.call) z.via) (ends_with x.call x y e) kind

  pub leaves-kind : (r : Residual) (y : Frame) → Kinds d r → next_of r ≡ leaves y → KindFor (caller d y.call) y.via
  leaves-kind skip y h e = cc
  leaves-kind (one s) y h e = cc
  leaves-kind (batch s []) y h e = cc
  leaves-kind (batch s (q ∷ qs)) y h e = cc
  leaves-kind (seq r ss) y h e = leaves-kind r y h e
  leaves-kind (owing r g u) y h e = leaves-kind r y h e
  leaves-kind (guard r g u) y h e = leaves-kind r y h e
  leaves-kind (try_ r handlers) y h e = leaves-kind r y h e
  leaves-kind (frame r x) y h e = frame_kind (next_of r) x y e h.0 (leaves-kind r y h.1)
  leaves-kind (shell r x) y h e = leaves-kind r y h e
  leaves-kind (run g r) y h e = leaves-kind r y h e
  leaves-kind (goal r k) y h e = leaves-kind r y h (goal_leaves (next_of r) k y e)

  -- what may pass takes no open call away
  no_via : (s : Option Statement) (o : Option Via) → KindFor s o → (is_transport s ≡ true → o ≡ None) → left_via o ≡ []
  no_via s None kind may = refl
  no_via (Some (code.b_transport x n t)) (Some via) kind may = ap left_via (may refl)
  no_via (Some (code.nb_transport y x n phase t)) (Some via) kind may = ap left_via (may refl)
  no_via other (Some via) kind may = absurd kind

  pub passes-vias : (r : Residual) (n : Next) → next_of r ≡ n → IsTight r → Kinds d r → MayPass d n → left_by_unw (put r skip) ≡ left_by_unw r
  passes-vias r (statement s) is t kinds may = put-vias r skip s is
  passes-vias r (owes s q) is t kinds may = absurd may
  passes-vias r (leaves y) is t kinds may =
      sym (leaves-vias r y t is ∙ ap (λ vs. vs ++ left_by_unw (put r skip)) (no_via (caller d y.call) y.via (leaves-kind r y kinds is) may))
  passes-vias r done is t kinds may = absurd may
  passes-vias r (reaches k) is t kinds may = reaches-vias r k t is
  passes-vias r nothing is t kinds may = absurd may
