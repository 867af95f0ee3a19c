-- Each definition on residuals is the same without the numbers of guards.
use Rattle.std.proofs.Common.{◌≡◌, ℕ, ◌+◌, Bool, true, false, List, [], ◌∷◌, ◌++◌, Option, Some, None, refl, sym, ap, ◌∙◌}
use Rattle.std.specs.Prelude.{if◌then◌else◌, ◌||◌}
use Rattle.sim_model.specs.LogicValues.declared.kinds.Value.{Value}
use Rattle.sim_model.specs.FlatDesign.Code.{Arena, block_at}
use Rattle.sim_model.specs.FlatDesign.declared.code.Handler.{Handler}
use Rattle.sim_model.specs.Residual as residual
use Rattle.sim_model.specs.Residual.{Residual, Frame, Next, skip, one, batch, seq, owing, guard, try_, frame, shell, run, goal, followed, statements, block, then_on, in_run, then_owed, in_guard, in_try, in_shell, settle, next_of, in_frame, before_goal, put, frame_or, goal_or, innermost, or_frame, in_innermost, changed_if, within, or_via, open_frames, counted_call, in_nb, is_nonblocking, has_goal, entered, entered_in}
use Rattle.sim_model.specs.Unwinding.{unw, catches, handles, handled, handler_of, handler_block, raise, left_by_unw, left_via, left_by_raise, has_exit, returned}
use Rattle.sim_model.specs.declared.plain.Goal.{Goal}
use Rattle.sim_model.specs.declared.plain.Via.{Via}
use Rattle.sim_model.specs.FlatDesign.declared.code.CodeBody.{CodeBody}
use Rattle.sim_model.specs.FlatDesign.Code.{body_at}
use Rattle.kernel_bodies.specs.Strip.{strip}

-- once is enough
pub strip-strip : (r : Residual) → strip (strip r) ≡ strip r
strip-strip skip = refl
strip-strip (one s) = refl
strip-strip (batch s qs) = refl
strip-strip (seq r ss) = ap (λ x. seq x ss) (strip-strip r)
strip-strip (owing r g u) = ap (λ x. owing x 0 u) (strip-strip r)
strip-strip (guard r g u) = ap (λ x. guard x 0 u) (strip-strip r)
strip-strip (try_ r handlers) = ap (λ x. try_ x handlers) (strip-strip r)
strip-strip (frame r x) = ap (λ y. frame y x) (strip-strip r)
strip-strip (shell r x) = ap (λ y. shell y x) (strip-strip r)
strip-strip (run g r) = ap (run 0) (strip-strip r)
strip-strip (goal r k) = ap (λ x. goal x k) (strip-strip r)

-- pieces of the code have no guards yet

pub strip-followed : (r : Residual) (ss : List ℕ) → strip (followed r ss) ≡ followed (strip r) ss
strip-followed r [] = refl
strip-followed r (s ∷ ss) = refl

pub strip-statements : (ss : List ℕ) → strip (statements ss) ≡ statements ss
strip-statements [] = refl
strip-statements (s ∷ ss) = strip-followed (one s) ss

pub strip-block : (a : Arena) (b : ℕ) → strip (block a b) ≡ block a b
strip-block a b = strip-statements (block_at a b)

entered_in_same : (a : Arena) (f : ℕ) (args : List Value) (call : Option ℕ) (via : Option Via) (b : Option CodeBody) → strip (entered_in a f args call via b) ≡ entered_in a f args call via b
entered_in_same a f args call via None = refl
entered_in_same a f args call via (Some b) = ap (λ r. frame r (residual.frame_of f args call via b.locals)) (strip-block a b.block)

pub strip-entered : (a : Arena) (f : ℕ) (args : List Value) (call : Option ℕ) (via : Option Via) → strip (entered a f args call via) ≡ entered a f args call via
strip-entered a f args call via = entered_in_same a f args call via (body_at a f)

-- finished parts fall away alike

then_on_same : (r : Residual) (ss : List ℕ) → strip (then_on r ss) ≡ then_on (strip r) ss
then_on_same skip ss = strip-statements ss
then_on_same (one s) ss = strip-followed (one s) ss
then_on_same (batch s qs) ss = strip-followed (batch s qs) ss
then_on_same (seq r q) ss = strip-followed (seq r q) ss
then_on_same (owing r g u) ss = strip-followed (owing r g u) ss
then_on_same (guard r g u) ss = strip-followed (guard r g u) ss
then_on_same (try_ r handlers) ss = strip-followed (try_ r handlers) ss
then_on_same (frame r x) ss = strip-followed (frame r x) ss
then_on_same (shell r x) ss = strip-followed (shell r x) ss
then_on_same (run g r) ss = strip-followed (run g r) ss
then_on_same (goal r k) ss = strip-followed (goal r k) ss

in_run_same : (g : ℕ) (r : Residual) → strip (in_run g r) ≡ in_run 0 (strip r)
in_run_same g skip = refl
in_run_same g r = refl

then_owed_same : (a : Arena) (r : Residual) (g u : ℕ) → strip (then_owed a r g u) ≡ then_owed a (strip r) 0 u
then_owed_same a skip g u = in_run_same g (block a u) ∙ ap (in_run 0) (strip-block a u)
then_owed_same a r g u = refl

in_guard_same : (r : Residual) (g u : ℕ) → strip (in_guard r g u) ≡ in_guard (strip r) 0 u
in_guard_same skip g u = refl
in_guard_same r g u = refl

in_try_same : (r : Residual) (handlers : List Handler) → strip (in_try r handlers) ≡ in_try (strip r) handlers
in_try_same skip handlers = refl
in_try_same r handlers = refl

in_shell_same : (r : Residual) (x : Frame) → strip (in_shell r x) ≡ in_shell (strip r) x
in_shell_same skip x = refl
in_shell_same r x = refl

pub strip-settle : (a : Arena) (r : Residual) → strip (settle a r) ≡ settle a (strip r)
strip-settle a skip = refl
strip-settle a (one s) = refl
strip-settle a (batch s []) = refl
strip-settle a (batch s (q ∷ qs)) = refl
strip-settle a (seq r ss) = then_on_same (settle a r) ss ∙ ap (λ x. then_on x ss) (strip-settle a r)
strip-settle a (owing r g u) = then_owed_same a (settle a r) g u ∙ ap (λ x. then_owed a x 0 u) (strip-settle a r)
strip-settle a (guard r g u) = in_guard_same (settle a r) g u ∙ ap (λ x. in_guard x 0 u) (strip-settle a r)
strip-settle a (try_ r handlers) = in_try_same (settle a r) handlers ∙ ap (λ x. in_try x handlers) (strip-settle a r)
strip-settle a (frame r x) = ap (λ y. frame y x) (strip-settle a r)
strip-settle a (shell r x) = in_shell_same (settle a r) x ∙ ap (λ y. in_shell y x) (strip-settle a r)
strip-settle a (run g r) = in_run_same g (settle a r) ∙ ap (in_run 0) (strip-settle a r)
strip-settle a (goal r k) = ap (λ x. goal x k) (strip-settle a r)

pub strip-next : (r : Residual) → next_of (strip r) ≡ next_of r
strip-next skip = refl
strip-next (one s) = refl
strip-next (batch s []) = refl
strip-next (batch s (q ∷ qs)) = refl
strip-next (seq r ss) = strip-next r
strip-next (owing r g u) = strip-next r
strip-next (guard r g u) = strip-next r
strip-next (try_ r handlers) = strip-next r
strip-next (frame r x) = ap (λ n. in_frame n x) (strip-next r)
strip-next (shell r x) = strip-next r
strip-next (run g r) = strip-next r
strip-next (goal r k) = ap (λ n. before_goal n k) (strip-next r)

-- another residual in place of what comes next

frame_or_same : (r : Residual) (x : Frame) (n inside : Residual) → strip (frame_or r x n inside) ≡ frame_or (strip r) x (strip n) (strip inside)
frame_or_same skip x n inside = refl
frame_or_same r x n inside = refl

goal_or_same : (r : Residual) (k : Goal) (n inside : Residual) → strip (goal_or r k n inside) ≡ goal_or (strip r) k (strip n) (strip inside)
goal_or_same skip k n inside = refl
goal_or_same r k n inside = refl

pub strip-put : (r n : Residual) → strip (put r n) ≡ put (strip r) (strip n)
strip-put skip n = refl
strip-put (one s) n = refl
strip-put (batch s qs) n = refl
strip-put (seq r ss) n = strip-followed (put r n) ss ∙ ap (λ x. followed x ss) (strip-put r n)
strip-put (owing r g u) n = ap (λ x. owing x 0 u) (strip-put r n)
strip-put (guard r g u) n = ap (λ x. guard x 0 u) (strip-put r n)
strip-put (try_ r handlers) n = ap (λ x. try_ x handlers) (strip-put r n)
strip-put (frame r x) n = frame_or_same r x n (put r n) ∙ ap (λ y. frame_or (strip r) x (strip n) y) (strip-put r n)
strip-put (shell r x) n = ap (λ y. shell y x) (strip-put r n)
strip-put (run g r) n = ap (run 0) (strip-put r n)
strip-put (goal r k) n = goal_or_same r k n (put r n) ∙ ap (λ y. goal_or (strip r) k (strip n) y) (strip-put r n)

-- calls

pub strip-innermost : (r : Residual) → innermost (strip r) ≡ innermost r
strip-innermost skip = refl
strip-innermost (one s) = refl
strip-innermost (batch s qs) = refl
strip-innermost (seq r ss) = strip-innermost r
strip-innermost (owing r g u) = strip-innermost r
strip-innermost (guard r g u) = strip-innermost r
strip-innermost (try_ r handlers) = strip-innermost r
strip-innermost (frame r x) = ap (λ o. or_frame o x) (strip-innermost r)
strip-innermost (shell r x) = ap (λ o. or_frame o x) (strip-innermost r)
strip-innermost (run g r) = strip-innermost r
strip-innermost (goal r k) = strip-innermost r

pub strip-in_innermost : (f : Frame → Frame) (r : Residual) → strip (in_innermost f r) ≡ in_innermost f (strip r)
strip-in_innermost f skip = refl
strip-in_innermost f (one s) = refl
strip-in_innermost f (batch s qs) = refl
strip-in_innermost f (seq r ss) = ap (λ x. seq x ss) (strip-in_innermost f r)
strip-in_innermost f (owing r g u) = ap (λ x. owing x 0 u) (strip-in_innermost f r)
strip-in_innermost f (guard r g u) = ap (λ x. guard x 0 u) (strip-in_innermost f r)
strip-in_innermost f (try_ r handlers) = ap (λ x. try_ x handlers) (strip-in_innermost f r)
strip-in_innermost f (frame r x) = ap (λ y. frame y (changed_if (innermost r) f x)) (strip-in_innermost f r) ∙ ap (λ o. frame (in_innermost f (strip r)) (changed_if o f x)) (sym (strip-innermost r))
strip-in_innermost f (shell r x) = ap (λ y. shell y (changed_if (innermost r) f x)) (strip-in_innermost f r) ∙ ap (λ o. shell (in_innermost f (strip r)) (changed_if o f x)) (sym (strip-innermost r))
strip-in_innermost f (run g r) = ap (run 0) (strip-in_innermost f r)
strip-in_innermost f (goal r k) = ap (λ x. goal x k) (strip-in_innermost f r)

pub strip-within : (r : Residual) → within (strip r) ≡ within r
strip-within skip = refl
strip-within (one s) = refl
strip-within (batch s qs) = refl
strip-within (seq r ss) = strip-within r
strip-within (owing r g u) = strip-within r
strip-within (guard r g u) = strip-within r
strip-within (try_ r handlers) = strip-within r
strip-within (frame r x) = ap (λ o. or_via o x.via) (strip-within r)
strip-within (shell r x) = ap (λ o. or_via o x.via) (strip-within r)
strip-within (run g r) = strip-within r
strip-within (goal r k) = strip-within r

pub strip-open_frames : (r : Residual) → open_frames (strip r) ≡ open_frames r
strip-open_frames skip = refl
strip-open_frames (one s) = refl
strip-open_frames (batch s qs) = refl
strip-open_frames (seq r ss) = strip-open_frames r
strip-open_frames (owing r g u) = strip-open_frames r
strip-open_frames (guard r g u) = strip-open_frames r
strip-open_frames (try_ r handlers) = strip-open_frames r
strip-open_frames (frame r x) = ap (λ n. n + counted_call x.call) (strip-open_frames r)
strip-open_frames (shell r x) = ap (λ n. n + counted_call x.call) (strip-open_frames r)
strip-open_frames (run g r) = strip-open_frames r
strip-open_frames (goal r k) = strip-open_frames r

pub strip-in_nb : (r : Residual) → in_nb (strip r) ≡ in_nb r
strip-in_nb skip = refl
strip-in_nb (one s) = refl
strip-in_nb (batch s qs) = refl
strip-in_nb (seq r ss) = strip-in_nb r
strip-in_nb (owing r g u) = strip-in_nb r
strip-in_nb (guard r g u) = strip-in_nb r
strip-in_nb (try_ r handlers) = strip-in_nb r
strip-in_nb (frame r x) = ap (λ b. b || is_nonblocking x.via) (strip-in_nb r)
strip-in_nb (shell r x) = strip-in_nb r
strip-in_nb (run g r) = strip-in_nb r
strip-in_nb (goal r k) = strip-in_nb r

pub strip-has_goal : (r : Residual) → has_goal (strip r) ≡ has_goal r
strip-has_goal skip = refl
strip-has_goal (one s) = refl
strip-has_goal (batch s qs) = refl
strip-has_goal (seq r ss) = strip-has_goal r
strip-has_goal (owing r g u) = strip-has_goal r
strip-has_goal (guard r g u) = strip-has_goal r
strip-has_goal (try_ r handlers) = strip-has_goal r
strip-has_goal (frame r x) = strip-has_goal r
strip-has_goal (shell r x) = strip-has_goal r
strip-has_goal (run g r) = strip-has_goal r
strip-has_goal (goal r k) = refl

-- unwinding

pub strip-unw : (r : Residual) → strip (unw r) ≡ unw (strip r)
strip-unw skip = refl
strip-unw (one s) = refl
strip-unw (batch s qs) = refl
strip-unw (seq r ss) = strip-unw r
strip-unw (owing r g u) = ap (λ x. owing x 0 u) (strip-unw r)
strip-unw (guard r g u) = ap (λ x. owing x 0 u) (strip-unw r)
strip-unw (try_ r handlers) = strip-unw r
strip-unw (frame r x) = ap (λ y. shell y x) (strip-unw r)
strip-unw (shell r x) = ap (λ y. shell y x) (strip-unw r)
strip-unw (run g r) = ap (run 0) (strip-unw r)
strip-unw (goal r k) = strip-unw r

pub strip-catches : (r : Residual) (e : ℕ) → catches (strip r) e ≡ catches r e
strip-catches skip e = refl
strip-catches (one s) e = refl
strip-catches (batch s qs) e = refl
strip-catches (seq r ss) e = strip-catches r e
strip-catches (owing r g u) e = strip-catches r e
strip-catches (guard r g u) e = strip-catches r e
strip-catches (try_ r handlers) e = ap (λ b. b || handles handlers e) (strip-catches r e)
strip-catches (frame r x) e = strip-catches r e
strip-catches (shell r x) e = strip-catches r e
strip-catches (run g r) e = strip-catches r e
strip-catches (goal r k) e = strip-catches r e

handled_same : (a : Arena) (r : Residual) (handlers : List Handler) (e : ℕ) (k : Goal) → strip (handled a r handlers e k) ≡ handled a (strip r) handlers e k
handled_same a r handlers e k =
    strip-followed (goal (unw r) k) (handler_block a (handler_of handlers e))
    ∙ ap (λ x. followed (goal x k) (handler_block a (handler_of handlers e))) (strip-unw r)

if_same : (caught here : Bool) (x y z : Residual) → strip (if caught then x else if here then y else z) ≡ (if caught then strip x else if here then strip y else strip z)
if_same true here x y z = refl
if_same false true x y z = refl
if_same false false x y z = refl

pub strip-raise : (a : Arena) (r : Residual) (e : ℕ) (k : Goal) → strip (raise a r e k) ≡ raise a (strip r) e k
strip-raise a skip e k = refl
strip-raise a (one s) e k = refl
strip-raise a (batch s qs) e k = refl
strip-raise a (seq r ss) e k = ap (λ x. seq x ss) (strip-raise a r e k)
strip-raise a (owing r g u) e k = ap (λ x. owing x 0 u) (strip-raise a r e k)
strip-raise a (guard r g u) e k = ap (λ x. guard x 0 u) (strip-raise a r e k)
strip-raise a (try_ r handlers) e k =
    if_same (catches r e) (handles handlers e) (try_ (raise a r e k) handlers) (handled a r handlers e k) (try_ r handlers)
    ∙ ap (λ b. if b then try_ (strip (raise a r e k)) handlers else if handles handlers e then strip (handled a r handlers e k) else try_ (strip r) handlers) (sym (strip-catches r e))
    ∙ ap (λ x. if catches (strip r) e then try_ x handlers else if handles handlers e then strip (handled a r handlers e k) else try_ (strip r) handlers) (strip-raise a r e k)
    ∙ ap (λ x. if catches (strip r) e then try_ (raise a (strip r) e k) handlers else if handles handlers e then x else try_ (strip r) handlers) (handled_same a r handlers e k)
strip-raise a (frame r x) e k = ap (λ y. frame y x) (strip-raise a r e k)
strip-raise a (shell r x) e k = ap (λ y. shell y x) (strip-raise a r e k)
strip-raise a (run g r) e k = ap (run 0) (strip-raise a r e k)
strip-raise a (goal r h) e k = ap (λ x. goal x h) (strip-raise a r e k)

pub strip-left_by_unw : (r : Residual) → left_by_unw (strip r) ≡ left_by_unw r
strip-left_by_unw skip = refl
strip-left_by_unw (one s) = refl
strip-left_by_unw (batch s qs) = refl
strip-left_by_unw (seq r ss) = strip-left_by_unw r
strip-left_by_unw (owing r g u) = strip-left_by_unw r
strip-left_by_unw (guard r g u) = strip-left_by_unw r
strip-left_by_unw (try_ r handlers) = strip-left_by_unw r
strip-left_by_unw (frame r x) = ap (λ vs. vs ++ left_via x.via) (strip-left_by_unw r)
strip-left_by_unw (shell r x) = strip-left_by_unw r
strip-left_by_unw (run g r) = strip-left_by_unw r
strip-left_by_unw (goal r k) = strip-left_by_unw r

pub strip-left_by_raise : (r : Residual) (e : ℕ) → left_by_raise (strip r) e ≡ left_by_raise r e
strip-left_by_raise skip e = refl
strip-left_by_raise (one s) e = refl
strip-left_by_raise (batch s qs) e = refl
strip-left_by_raise (seq r ss) e = strip-left_by_raise r e
strip-left_by_raise (owing r g u) e = strip-left_by_raise r e
strip-left_by_raise (guard r g u) e = strip-left_by_raise r e
strip-left_by_raise (try_ r handlers) e =
    ap (λ b. if b then left_by_raise (strip r) e else if handles handlers e then left_by_unw (strip r) else []) (strip-catches r e)
    ∙ ap (λ vs. if catches r e then vs else if handles handlers e then left_by_unw (strip r) else []) (strip-left_by_raise r e)
    ∙ ap (λ vs. if catches r e then left_by_raise r e else if handles handlers e then vs else []) (strip-left_by_unw r)
strip-left_by_raise (frame r x) e = strip-left_by_raise r e
strip-left_by_raise (shell r x) e = strip-left_by_raise r e
strip-left_by_raise (run g r) e = strip-left_by_raise r e
strip-left_by_raise (goal r k) e = strip-left_by_raise r e

-- returns

pub strip-has_exit : (r : Residual) → has_exit (strip r) ≡ has_exit r
strip-has_exit skip = refl
strip-has_exit (one s) = refl
strip-has_exit (batch s qs) = refl
strip-has_exit (seq r ss) = strip-has_exit r
strip-has_exit (owing r g u) = strip-has_exit r
strip-has_exit (guard r g u) = strip-has_exit r
strip-has_exit (try_ r handlers) = strip-has_exit r
strip-has_exit (frame r x) = refl
strip-has_exit (shell r x) = strip-has_exit r
strip-has_exit (run g r) = refl
strip-has_exit (goal r k) = strip-has_exit r

choice_same : (b : Bool) (x y : Residual) → strip (if b then x else y) ≡ (if b then strip x else strip y)
choice_same true x y = refl
choice_same false x y = refl

pub strip-returned : (v : Option Value) (r : Residual) → strip (returned v r) ≡ returned v (strip r)
strip-returned v skip = refl
strip-returned v (one s) = refl
strip-returned v (batch s qs) = refl
strip-returned v (seq r ss) = ap (λ x. seq x ss) (strip-returned v r)
strip-returned v (owing r g u) = ap (λ x. owing x 0 u) (strip-returned v r)
strip-returned v (guard r g u) = ap (λ x. guard x 0 u) (strip-returned v r)
strip-returned v (try_ r handlers) = ap (λ x. try_ x handlers) (strip-returned v r)
strip-returned v (frame r x) =
    choice_same (has_exit r) (frame (returned v r) x) (frame skip (record x { answer = v }))
    ∙ ap (λ b. if b then frame (strip (returned v r)) x else frame skip (record x { answer = v })) (sym (strip-has_exit r))
    ∙ ap (λ y. if has_exit (strip r) then frame y x else frame skip (record x { answer = v })) (strip-returned v r)
strip-returned v (shell r x) = ap (λ y. shell y x) (strip-returned v r)
strip-returned v (run g r) =
    choice_same (has_exit r) (run g (returned v r)) (run g skip)
    ∙ ap (λ b. if b then run 0 (strip (returned v r)) else run 0 skip) (sym (strip-has_exit r))
    ∙ ap (λ y. if has_exit (strip r) then run 0 y else run 0 skip) (strip-returned v r)
strip-returned v (goal r k) = ap (λ x. goal x k) (strip-returned v r)
