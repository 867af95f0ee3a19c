-- What is left of a body shows alike whether its statement in place owes its call to several or not; and what a body that owes a
-- call settles to, comes to and becomes.
use Rattle.std.proofs.Common.{◌≡◌, ℕ, ◌+◌, Bool, true, false, List, [], ◌∷◌, ◌++◌, reverse, Option, Some, None, refl, sym, ap, ◌∙◌}
use Rattle.std.specs.Prelude.{if◌then◌else◌, ◌||◌}
use Rattle.kernel_bodies.specs.LogicValues.declared.kinds.Value.{Value}
use Rattle.kernel_bodies.specs.FlatDesign.Code.{Arena, block_at}
use Rattle.kernel_bodies.specs.FlatDesign.declared.code.Handler.{Handler}
use Rattle.kernel_bodies.specs.SimModel.Residual as residual
use Rattle.kernel_bodies.specs.SimModel.Residual.{Residual, Frame, Next, skip, one, batch, seq, owing, guard, try_, frame, shell, run, goal, followed, then_on, in_run, then_owed, in_guard, in_try, in_shell, settle, next_of, in_frame, before_goal, put, taken_off, statements, innermost, or_frame, in_innermost, changed_if, within, or_via, open_frames, counted_call, in_nb, is_nonblocking, has_goal}
use Rattle.kernel_bodies.specs.SimModel.Unwinding.{unw, catches, handles, handled, handler_of, handler_block, raise, left_by_unw, left_via, left_by_raise}
use Rattle.kernel_bodies.specs.SimModel.declared.plain.Goal.{Goal}
use Rattle.process_bodies.specs.declared.body.Owed.{Owed}
use Rattle.process_bodies.specs.Bodies.{owed_in, in_place}

if_raises : (b t : Bool) (x x2 y y2 z z2 : Residual) → (b ≡ true → x ≡ x2) → y ≡ y2 → (b || t) ≡ true → (if b then x else if t then y else z) ≡ (if b then x2 else if t then y2 else z2)
if_raises true t x x2 y y2 z z2 f g h = f refl
if_raises false true x x2 y y2 z z2 f g h = g
if_raises false false x x2 y y2 z z2 f g h = cc

-- a sequence has statements behind it
abbrev pub Plain : Residual → Type 0
Plain skip = Unit {0}
Plain (one s) = Unit {0}
Plain (batch s qs) = Unit {0}
Plain (seq r []) = ⊥
Plain (seq r (s ∷ ss)) = Plain r
Plain (owing r g u) = Plain r
Plain (guard r g u) = Plain r
Plain (try_ r handlers) = Plain r
Plain (frame r x) = Plain r
Plain (shell r x) = Plain r
Plain (run g r) = Plain r
Plain (goal r k) = Plain r

plain_followed : (r : Residual) (ss : List ℕ) → Plain r → Plain (followed r ss)
plain_followed r [] h = h
plain_followed r (s ∷ ss) h = h

plain_statements : (ss : List ℕ) → Plain (statements ss)
plain_statements [] = tt
plain_statements (s ∷ ss) = plain_followed (one s) ss tt

plain_then_on : (r : Residual) (ss : List ℕ) → Plain r → Plain (then_on r ss)
plain_then_on skip ss h = plain_statements ss
plain_then_on (one s) ss h = plain_followed (one s) ss h
plain_then_on (batch s qs) ss h = plain_followed (batch s qs) ss h
plain_then_on (seq r ts) ss h = plain_followed (seq r ts) ss h
plain_then_on (owing r g u) ss h = plain_followed (owing r g u) ss h
plain_then_on (guard r g u) ss h = plain_followed (guard r g u) ss h
plain_then_on (try_ r hs) ss h = plain_followed (try_ r hs) ss h
plain_then_on (frame r x) ss h = plain_followed (frame r x) ss h
plain_then_on (shell r x) ss h = plain_followed (shell r x) ss h
plain_then_on (run g r) ss h = plain_followed (run g r) ss h
plain_then_on (goal r k) ss h = plain_followed (goal r k) ss h

plain_run : (g : ℕ) (r : Residual) → Plain r → Plain (in_run g r)
plain_run g skip h = tt
plain_run g r h = h

plain_owed : (a : Arena) (r : Residual) (g u : ℕ) → Plain r → Plain (then_owed a r g u)
plain_owed a skip g u h = plain_run g (residual.block a u) (plain_statements (block_at a u))
plain_owed a r g u h = h

plain_guard : (r : Residual) (g u : ℕ) → Plain r → Plain (in_guard r g u)
plain_guard skip g u h = tt
plain_guard r g u h = h

plain_try : (r : Residual) (handlers : List Handler) → Plain r → Plain (in_try r handlers)
plain_try skip handlers h = tt
plain_try r handlers h = h

plain_shell : (r : Residual) (x : Frame) → Plain r → Plain (in_shell r x)
plain_shell skip x h = tt
plain_shell r x h = h

pub plain_settled : (a : Arena) (r : Residual) → Plain (settle a r)
plain_settled a skip = tt
plain_settled a (one s) = tt
plain_settled a (batch s []) = tt
plain_settled a (batch s (q ∷ qs)) = tt
plain_settled a (seq r ss) = plain_then_on (settle a r) ss (plain_settled a r)
plain_settled a (owing r g u) = plain_owed a (settle a r) g u (plain_settled a r)
plain_settled a (guard r g u) = plain_guard (settle a r) g u (plain_settled a r)
plain_settled a (try_ r handlers) = plain_try (settle a r) handlers (plain_settled a r)
plain_settled a (frame r x) = plain_settled a r
plain_settled a (shell r x) = plain_shell (settle a r) x (plain_settled a r)
plain_settled a (run g r) = plain_run g (settle a r) (plain_settled a r)
plain_settled a (goal r k) = plain_settled a r

-- a statement shows where it is in place

end_is_none : (c : Option ℕ) (x : Frame) (s : ℕ) → residual.frame_end c x ≡ residual.statement s → residual.nothing ≡ residual.statement s
end_is_none None x s e = cc
end_is_none (Some call) x s e = cc

in_frame_shows : (n : Next) (x : Frame) (s : ℕ) → in_frame n x ≡ residual.statement s → n ≡ residual.statement s
in_frame_shows residual.nothing x s e = end_is_none x.call x s e
in_frame_shows (residual.statement t) x s e = e
in_frame_shows (residual.owes t q) x s e = e
in_frame_shows (residual.leaves y) x s e = e
in_frame_shows residual.done x s e = e
in_frame_shows (residual.reaches k) x s e = e

before_goal_shows : (n : Next) (k : Goal) (s : ℕ) → before_goal n k ≡ residual.statement s → n ≡ residual.statement s
before_goal_shows residual.nothing k s e = cc
before_goal_shows (residual.statement t) k s e = e
before_goal_shows (residual.owes t q) k s e = e
before_goal_shows (residual.leaves y) k s e = e
before_goal_shows residual.done k s e = e
before_goal_shows (residual.reaches j) k s e = e

pub shows_place : (r : Residual) (s : ℕ) → next_of r ≡ residual.statement s → in_place r ≡ Some s
shows_place skip s e = cc
shows_place (one t) s e = cc
shows_place (batch t []) s e = cc
shows_place (batch t (q ∷ qs)) s e = cc
shows_place (seq r ss) s e = shows_place r s e
shows_place (owing r g u) s e = shows_place r s e
shows_place (guard r g u) s e = shows_place r s e
shows_place (try_ r handlers) s e = shows_place r s e
shows_place (frame r x) s e = shows_place r s (in_frame_shows (next_of r) x s e)
shows_place (shell r x) s e = shows_place r s e
shows_place (run g r) s e = shows_place r s e
shows_place (goal r k) s e = shows_place r s (before_goal_shows (next_of r) k s e)

pub place_shows : (r : Residual) (s : ℕ) → in_place r ≡ Some s → next_of r ≡ residual.statement s
place_shows skip s e = cc
place_shows (one t) s e = cc
place_shows (batch t qs) s e = cc
place_shows (seq r ss) s e = place_shows r s e
place_shows (owing r g u) s e = place_shows r s e
place_shows (guard r g u) s e = place_shows r s e
place_shows (try_ r handlers) s e = place_shows r s e
place_shows (frame r x) s e = ap (λ n. in_frame n x) (place_shows r s e)
place_shows (shell r x) s e = place_shows r s e
place_shows (run g r) s e = place_shows r s e
place_shows (goal r k) s e = ap (λ n. before_goal n k) (place_shows r s e)

-- what comes next has frames and goals around it that stay
frame_or_place : (r : Residual) (x : Frame) (n m : Residual) (s : ℕ) → in_place r ≡ Some s → residual.frame_or r x n m ≡ frame m x
frame_or_place skip x n m s e = cc
frame_or_place (one t) x n m s e = refl
frame_or_place (batch t qs) x n m s e = refl
frame_or_place (seq r ts) x n m s e = refl
frame_or_place (owing r g u) x n m s e = refl
frame_or_place (guard r g u) x n m s e = refl
frame_or_place (try_ r hs) x n m s e = refl
frame_or_place (frame r y) x n m s e = refl
frame_or_place (shell r y) x n m s e = refl
frame_or_place (run g r) x n m s e = refl
frame_or_place (goal r k) x n m s e = refl

goal_or_place : (r : Residual) (k : Goal) (n m : Residual) (s : ℕ) → in_place r ≡ Some s → residual.goal_or r k n m ≡ goal m k
goal_or_place skip k n m s e = cc
goal_or_place (one t) k n m s e = refl
goal_or_place (batch t qs) k n m s e = refl
goal_or_place (seq r ts) k n m s e = refl
goal_or_place (owing r g u) k n m s e = refl
goal_or_place (guard r g u) k n m s e = refl
goal_or_place (try_ r hs) k n m s e = refl
goal_or_place (frame r y) k n m s e = refl
goal_or_place (shell r y) k n m s e = refl
goal_or_place (run g r) k n m s e = refl
goal_or_place (goal r j) k n m s e = refl

-- another value of a local variable leaves it in place
pub place_innermost : (f : Frame → Frame) (r : Residual) → in_place (in_innermost f r) ≡ in_place r
place_innermost f skip = refl
place_innermost f (one s) = refl
place_innermost f (batch s qs) = refl
place_innermost f (seq r ss) = place_innermost f r
place_innermost f (owing r g u) = place_innermost f r
place_innermost f (guard r g u) = place_innermost f r
place_innermost f (try_ r handlers) = place_innermost f r
place_innermost f (frame r x) = place_innermost f r
place_innermost f (shell r x) = place_innermost f r
place_innermost f (run g r) = place_innermost f r
place_innermost f (goal r k) = place_innermost f r

module _ (o : Owed) where
  pub owed_followed : (r : Residual) (ss : List ℕ) → owed_in (followed r ss) o ≡ followed (owed_in r o) ss
  owed_followed r [] = refl
  owed_followed r (s ∷ ss) = refl

  pub place_followed : (r : Residual) (ss : List ℕ) → in_place (followed r ss) ≡ in_place r
  place_followed r [] = refl
  place_followed r (s ∷ ss) = refl

  -- a call that is owed to nobody falls away as nothing does
  module _ (a : Arena) where
    pub over_settles : (r : Residual) → in_place r ≡ None → settle a (owed_in r o) ≡ settle a r
    over_settles skip e = refl
    over_settles (one s) e = cc
    over_settles (batch s qs) e = refl
    over_settles (seq r ss) e = ap (λ x. then_on x ss) (over_settles r e)
    over_settles (owing r g u) e = ap (λ x. then_owed a x g u) (over_settles r e)
    over_settles (guard r g u) e = ap (λ x. in_guard x g u) (over_settles r e)
    over_settles (try_ r handlers) e = ap (λ x. in_try x handlers) (over_settles r e)
    over_settles (frame r x) e = ap (λ y. frame y x) (over_settles r e)
    over_settles (shell r x) e = ap (λ y. in_shell y x) (over_settles r e)
    over_settles (run g r) e = ap (in_run g) (over_settles r e)
    over_settles (goal r k) e = ap (λ x. goal x k) (over_settles r e)

    -- one that is owed to somebody stands as a statement does

    then_on_owed : (r : Residual) (s : ℕ) (ss : List ℕ) → in_place r ≡ Some s → then_on (owed_in r o) ss ≡ owed_in (then_on r ss) o
    then_on_owed skip s ss e = cc
    then_on_owed (one t) s ss e = sym (owed_followed (one t) ss)
    then_on_owed (batch t qs) s ss e = cc
    then_on_owed (seq r ts) s ss e = sym (owed_followed (seq r ts) ss)
    then_on_owed (owing r g u) s ss e = sym (owed_followed (owing r g u) ss)
    then_on_owed (guard r g u) s ss e = sym (owed_followed (guard r g u) ss)
    then_on_owed (try_ r handlers) s ss e = sym (owed_followed (try_ r handlers) ss)
    then_on_owed (frame r x) s ss e = sym (owed_followed (frame r x) ss)
    then_on_owed (shell r x) s ss e = sym (owed_followed (shell r x) ss)
    then_on_owed (run g r) s ss e = sym (owed_followed (run g r) ss)
    then_on_owed (goal r k) s ss e = sym (owed_followed (goal r k) ss)

    then_on_place : (r : Residual) (s : ℕ) (ss : List ℕ) → in_place r ≡ Some s → in_place (then_on r ss) ≡ Some s
    then_on_place skip s ss e = cc
    then_on_place (one t) s ss e = place_followed (one t) ss ∙ e
    then_on_place (batch t qs) s ss e = cc
    then_on_place (seq r ts) s ss e = place_followed (seq r ts) ss ∙ e
    then_on_place (owing r g u) s ss e = place_followed (owing r g u) ss ∙ e
    then_on_place (guard r g u) s ss e = place_followed (guard r g u) ss ∙ e
    then_on_place (try_ r handlers) s ss e = place_followed (try_ r handlers) ss ∙ e
    then_on_place (frame r x) s ss e = place_followed (frame r x) ss ∙ e
    then_on_place (shell r x) s ss e = place_followed (shell r x) ss ∙ e
    then_on_place (run g r) s ss e = place_followed (run g r) ss ∙ e
    then_on_place (goal r k) s ss e = place_followed (goal r k) ss ∙ e

    then_due_owed : (r : Residual) (s : ℕ) (g u : ℕ) → in_place r ≡ Some s → then_owed a (owed_in r o) g u ≡ owed_in (then_owed a r g u) o
    then_due_owed skip s g u e = cc
    then_due_owed (one t) s g u e = refl
    then_due_owed (batch t qs) s g u e = cc
    then_due_owed (seq r ts) s g u e = refl
    then_due_owed (owing r h v) s g u e = refl
    then_due_owed (guard r h v) s g u e = refl
    then_due_owed (try_ r hs) s g u e = refl
    then_due_owed (frame r y) s g u e = refl
    then_due_owed (shell r y) s g u e = refl
    then_due_owed (run h r) s g u e = refl
    then_due_owed (goal r k) s g u e = refl

    then_due_place : (r : Residual) (s : ℕ) (g u : ℕ) → in_place r ≡ Some s → in_place (then_owed a r g u) ≡ Some s
    then_due_place skip s g u e = cc
    then_due_place (one t) s g u e = e
    then_due_place (batch t qs) s g u e = cc
    then_due_place (seq r ts) s g u e = e
    then_due_place (owing r h v) s g u e = e
    then_due_place (guard r h v) s g u e = e
    then_due_place (try_ r hs) s g u e = e
    then_due_place (frame r y) s g u e = e
    then_due_place (shell r y) s g u e = e
    then_due_place (run h r) s g u e = e
    then_due_place (goal r k) s g u e = e

    in_run_owed : (r : Residual) (s : ℕ) (g : ℕ) → in_place r ≡ Some s → in_run g (owed_in r o) ≡ owed_in (in_run g r) o
    in_run_owed skip s g e = cc
    in_run_owed (one t) s g e = refl
    in_run_owed (batch t qs) s g e = cc
    in_run_owed (seq r ts) s g e = refl
    in_run_owed (owing r h v) s g e = refl
    in_run_owed (guard r h v) s g e = refl
    in_run_owed (try_ r hs) s g e = refl
    in_run_owed (frame r y) s g e = refl
    in_run_owed (shell r y) s g e = refl
    in_run_owed (run h r) s g e = refl
    in_run_owed (goal r k) s g e = refl

    in_run_place : (r : Residual) (s : ℕ) (g : ℕ) → in_place r ≡ Some s → in_place (in_run g r) ≡ Some s
    in_run_place skip s g e = cc
    in_run_place (one t) s g e = e
    in_run_place (batch t qs) s g e = cc
    in_run_place (seq r ts) s g e = e
    in_run_place (owing r h v) s g e = e
    in_run_place (guard r h v) s g e = e
    in_run_place (try_ r hs) s g e = e
    in_run_place (frame r y) s g e = e
    in_run_place (shell r y) s g e = e
    in_run_place (run h r) s g e = e
    in_run_place (goal r k) s g e = e

    in_guard_owed : (r : Residual) (s : ℕ) (g u : ℕ) → in_place r ≡ Some s → in_guard (owed_in r o) g u ≡ owed_in (in_guard r g u) o
    in_guard_owed skip s g u e = cc
    in_guard_owed (one t) s g u e = refl
    in_guard_owed (batch t qs) s g u e = cc
    in_guard_owed (seq r ts) s g u e = refl
    in_guard_owed (owing r h v) s g u e = refl
    in_guard_owed (guard r h v) s g u e = refl
    in_guard_owed (try_ r hs) s g u e = refl
    in_guard_owed (frame r y) s g u e = refl
    in_guard_owed (shell r y) s g u e = refl
    in_guard_owed (run h r) s g u e = refl
    in_guard_owed (goal r k) s g u e = refl

    in_guard_place : (r : Residual) (s : ℕ) (g u : ℕ) → in_place r ≡ Some s → in_place (in_guard r g u) ≡ Some s
    in_guard_place skip s g u e = cc
    in_guard_place (one t) s g u e = e
    in_guard_place (batch t qs) s g u e = cc
    in_guard_place (seq r ts) s g u e = e
    in_guard_place (owing r h v) s g u e = e
    in_guard_place (guard r h v) s g u e = e
    in_guard_place (try_ r hs) s g u e = e
    in_guard_place (frame r y) s g u e = e
    in_guard_place (shell r y) s g u e = e
    in_guard_place (run h r) s g u e = e
    in_guard_place (goal r k) s g u e = e

    in_try_owed : (r : Residual) (s : ℕ) (handlers : List Handler) → in_place r ≡ Some s → in_try (owed_in r o) handlers ≡ owed_in (in_try r handlers) o
    in_try_owed skip s handlers e = cc
    in_try_owed (one t) s handlers e = refl
    in_try_owed (batch t qs) s handlers e = cc
    in_try_owed (seq r ts) s handlers e = refl
    in_try_owed (owing r h v) s handlers e = refl
    in_try_owed (guard r h v) s handlers e = refl
    in_try_owed (try_ r hs) s handlers e = refl
    in_try_owed (frame r y) s handlers e = refl
    in_try_owed (shell r y) s handlers e = refl
    in_try_owed (run h r) s handlers e = refl
    in_try_owed (goal r k) s handlers e = refl

    in_try_place : (r : Residual) (s : ℕ) (handlers : List Handler) → in_place r ≡ Some s → in_place (in_try r handlers) ≡ Some s
    in_try_place skip s handlers e = cc
    in_try_place (one t) s handlers e = e
    in_try_place (batch t qs) s handlers e = cc
    in_try_place (seq r ts) s handlers e = e
    in_try_place (owing r h v) s handlers e = e
    in_try_place (guard r h v) s handlers e = e
    in_try_place (try_ r hs) s handlers e = e
    in_try_place (frame r y) s handlers e = e
    in_try_place (shell r y) s handlers e = e
    in_try_place (run h r) s handlers e = e
    in_try_place (goal r k) s handlers e = e

    in_shell_owed : (r : Residual) (s : ℕ) (x : Frame) → in_place r ≡ Some s → in_shell (owed_in r o) x ≡ owed_in (in_shell r x) o
    in_shell_owed skip s x e = cc
    in_shell_owed (one t) s x e = refl
    in_shell_owed (batch t qs) s x e = cc
    in_shell_owed (seq r ts) s x e = refl
    in_shell_owed (owing r h v) s x e = refl
    in_shell_owed (guard r h v) s x e = refl
    in_shell_owed (try_ r hs) s x e = refl
    in_shell_owed (frame r y) s x e = refl
    in_shell_owed (shell r y) s x e = refl
    in_shell_owed (run h r) s x e = refl
    in_shell_owed (goal r k) s x e = refl

    in_shell_place : (r : Residual) (s : ℕ) (x : Frame) → in_place r ≡ Some s → in_place (in_shell r x) ≡ Some s
    in_shell_place skip s x e = cc
    in_shell_place (one t) s x e = e
    in_shell_place (batch t qs) s x e = cc
    in_shell_place (seq r ts) s x e = e
    in_shell_place (owing r h v) s x e = e
    in_shell_place (guard r h v) s x e = e
    in_shell_place (try_ r hs) s x e = e
    in_shell_place (frame r y) s x e = e
    in_shell_place (shell r y) s x e = e
    in_shell_place (run h r) s x e = e
    in_shell_place (goal r k) s x e = e

    pub place_stands : (r : Residual) (s : ℕ) → in_place r ≡ Some s → in_place (settle a r) ≡ Some s
    place_stands skip s e = cc
    place_stands (one t) s e = e
    place_stands (batch t qs) s e = cc
    place_stands (seq r ss) s e = then_on_place (settle a r) s ss (place_stands r s e)
    place_stands (owing r g u) s e = then_due_place (settle a r) s g u (place_stands r s e)
    place_stands (guard r g u) s e = in_guard_place (settle a r) s g u (place_stands r s e)
    place_stands (try_ r handlers) s e = in_try_place (settle a r) s handlers (place_stands r s e)
    place_stands (frame r x) s e = place_stands r s e
    place_stands (shell r x) s e = in_shell_place (settle a r) s x (place_stands r s e)
    place_stands (run g r) s e = in_run_place (settle a r) s g (place_stands r s e)
    place_stands (goal r k) s e = place_stands r s e

    pub owed_stands : (r : Residual) (s : ℕ) → in_place r ≡ Some s → settle a (owed_in r o) ≡ owed_in (settle a r) o
    owed_stands skip s e = cc
    owed_stands (one t) s e = refl
    owed_stands (batch t qs) s e = cc
    owed_stands (seq r ss) s e = ap (λ x. then_on x ss) (owed_stands r s e) ∙ then_on_owed (settle a r) s ss (place_stands r s e)
    owed_stands (owing r g u) s e = ap (λ x. then_owed a x g u) (owed_stands r s e) ∙ then_due_owed (settle a r) s g u (place_stands r s e)
    owed_stands (guard r g u) s e = ap (λ x. in_guard x g u) (owed_stands r s e) ∙ in_guard_owed (settle a r) s g u (place_stands r s e)
    owed_stands (try_ r handlers) s e = ap (λ x. in_try x handlers) (owed_stands r s e) ∙ in_try_owed (settle a r) s handlers (place_stands r s e)
    owed_stands (frame r x) s e = ap (λ y. frame y x) (owed_stands r s e)
    owed_stands (shell r x) s e = ap (λ y. in_shell y x) (owed_stands r s e) ∙ in_shell_owed (settle a r) s x (place_stands r s e)
    owed_stands (run g r) s e = ap (in_run g) (owed_stands r s e) ∙ in_run_owed (settle a r) s g (place_stands r s e)
    owed_stands (goal r k) s e = ap (λ x. goal x k) (owed_stands r s e)

  -- the place shows in no answer but what comes next

  pub owed_innermost : (r : Residual) → innermost (owed_in r o) ≡ innermost r
  owed_innermost skip = refl
  owed_innermost (one s) = refl
  owed_innermost (batch s qs) = refl
  owed_innermost (seq r ss) = owed_innermost r
  owed_innermost (owing r g u) = owed_innermost r
  owed_innermost (guard r g u) = owed_innermost r
  owed_innermost (try_ r handlers) = owed_innermost r
  owed_innermost (frame r x) = ap (λ o. or_frame o x) (owed_innermost r)
  owed_innermost (shell r x) = ap (λ o. or_frame o x) (owed_innermost r)
  owed_innermost (run g r) = owed_innermost r
  owed_innermost (goal r k) = owed_innermost r

  pub owed_within : (r : Residual) → within (owed_in r o) ≡ within r
  owed_within skip = refl
  owed_within (one s) = refl
  owed_within (batch s qs) = refl
  owed_within (seq r ss) = owed_within r
  owed_within (owing r g u) = owed_within r
  owed_within (guard r g u) = owed_within r
  owed_within (try_ r handlers) = owed_within r
  owed_within (frame r x) = ap (λ o. or_via o x.via) (owed_within r)
  owed_within (shell r x) = ap (λ o. or_via o x.via) (owed_within r)
  owed_within (run g r) = owed_within r
  owed_within (goal r k) = owed_within r

  pub owed_frames : (r : Residual) → open_frames (owed_in r o) ≡ open_frames r
  owed_frames skip = refl
  owed_frames (one s) = refl
  owed_frames (batch s qs) = refl
  owed_frames (seq r ss) = owed_frames r
  owed_frames (owing r g u) = owed_frames r
  owed_frames (guard r g u) = owed_frames r
  owed_frames (try_ r handlers) = owed_frames r
  owed_frames (frame r x) = ap (λ n. n + counted_call x.call) (owed_frames r)
  owed_frames (shell r x) = ap (λ n. n + counted_call x.call) (owed_frames r)
  owed_frames (run g r) = owed_frames r
  owed_frames (goal r k) = owed_frames r

  pub owed_nb : (r : Residual) → in_nb (owed_in r o) ≡ in_nb r
  owed_nb skip = refl
  owed_nb (one s) = refl
  owed_nb (batch s qs) = refl
  owed_nb (seq r ss) = owed_nb r
  owed_nb (owing r g u) = owed_nb r
  owed_nb (guard r g u) = owed_nb r
  owed_nb (try_ r handlers) = owed_nb r
  owed_nb (frame r x) = ap (λ b. b || is_nonblocking x.via) (owed_nb r)
  owed_nb (shell r x) = owed_nb r
  owed_nb (run g r) = owed_nb r
  owed_nb (goal r k) = owed_nb r

  pub owed_goal : (r : Residual) → has_goal (owed_in r o) ≡ has_goal r
  owed_goal skip = refl
  owed_goal (one s) = refl
  owed_goal (batch s qs) = refl
  owed_goal (seq r ss) = owed_goal r
  owed_goal (owing r g u) = owed_goal r
  owed_goal (guard r g u) = owed_goal r
  owed_goal (try_ r handlers) = owed_goal r
  owed_goal (frame r x) = owed_goal r
  owed_goal (shell r x) = owed_goal r
  owed_goal (run g r) = owed_goal r
  owed_goal (goal r k) = refl

  pub owed_catches : (r : Residual) (e : ℕ) → catches (owed_in r o) e ≡ catches r e
  owed_catches skip e = refl
  owed_catches (one s) e = refl
  owed_catches (batch s qs) e = refl
  owed_catches (seq r ss) e = owed_catches r e
  owed_catches (owing r g u) e = owed_catches r e
  owed_catches (guard r g u) e = owed_catches r e
  owed_catches (try_ r handlers) e = ap (λ b. b || handles handlers e) (owed_catches r e)
  owed_catches (frame r x) e = owed_catches r e
  owed_catches (shell r x) e = owed_catches r e
  owed_catches (run g r) e = owed_catches r e
  owed_catches (goal r k) e = owed_catches r e

  pub owed_left : (r : Residual) → left_by_unw (owed_in r o) ≡ left_by_unw r
  owed_left skip = refl
  owed_left (one s) = refl
  owed_left (batch s qs) = refl
  owed_left (seq r ss) = owed_left r
  owed_left (owing r g u) = owed_left r
  owed_left (guard r g u) = owed_left r
  owed_left (try_ r handlers) = owed_left r
  owed_left (frame r x) = ap (λ vs. vs ++ left_via x.via) (owed_left r)
  owed_left (shell r x) = owed_left r
  owed_left (run g r) = owed_left r
  owed_left (goal r k) = owed_left r

  pub owed_raised : (r : Residual) (e : ℕ) → left_by_raise (owed_in r o) e ≡ left_by_raise r e
  owed_raised skip e = refl
  owed_raised (one s) e = refl
  owed_raised (batch s qs) e = refl
  owed_raised (seq r ss) e = owed_raised r e
  owed_raised (owing r g u) e = owed_raised r e
  owed_raised (guard r g u) e = owed_raised r e
  owed_raised (try_ r handlers) e =
      ap (λ b. if b then left_by_raise (owed_in r o) e else if handles handlers e then left_by_unw (owed_in r o) else []) (owed_catches r e)
      ∙ ap (λ vs. if catches r e then vs else if handles handlers e then left_by_unw (owed_in r o) else []) (owed_raised r e)
      ∙ ap (λ vs. if catches r e then left_by_raise r e else if handles handlers e then vs else []) (owed_left r)
  owed_raised (frame r x) e = owed_raised r e
  owed_raised (shell r x) e = owed_raised r e
  owed_raised (run g r) e = owed_raised r e
  owed_raised (goal r k) e = owed_raised r e

  -- an unwinding lets it go
  pub owed_unwinds : (r : Residual) → unw (owed_in r o) ≡ (unw r)
  owed_unwinds skip = refl
  owed_unwinds (one s) = refl
  owed_unwinds (batch s qs) = refl
  owed_unwinds (seq r ss) = owed_unwinds r
  owed_unwinds (owing r g u) = ap (λ x. owing x g u) (owed_unwinds r)
  owed_unwinds (guard r g u) = ap (λ x. owing x g u) (owed_unwinds r)
  owed_unwinds (try_ r handlers) = owed_unwinds r
  owed_unwinds (frame r x) = ap (λ y. shell y x) (owed_unwinds r)
  owed_unwinds (shell r x) = ap (λ y. shell y x) (owed_unwinds r)
  owed_unwinds (run g r) = ap (run g) (owed_unwinds r)
  owed_unwinds (goal r k) = owed_unwinds r

  handled_owed : (a : Arena) (r : Residual) (handlers : List Handler) (e : ℕ) (k : Goal) → handled a (owed_in r o) handlers e k ≡ handled a r handlers e k
  handled_owed a r handlers e k = ap (λ x. followed (goal x k) (handler_block a (handler_of handlers e))) (owed_unwinds r)

  pub owed_raises : (a : Arena) (r : Residual) (e : ℕ) (k : Goal) → catches r e ≡ true → raise a (owed_in r o) e k ≡ raise a r e k
  owed_raises a skip e k h = cc
  owed_raises a (one s) e k h = cc
  owed_raises a (batch s qs) e k h = cc
  owed_raises a (seq r ss) e k h = ap (λ x. seq x ss) (owed_raises a r e k h)
  owed_raises a (owing r g u) e k h = ap (λ x. owing x g u) (owed_raises a r e k h)
  owed_raises a (guard r g u) e k h = ap (λ x. guard x g u) (owed_raises a r e k h)
  owed_raises a (try_ r handlers) e k h =
      ap (λ b. if b then try_ (raise a (owed_in r o) e k) handlers else if handles handlers e then handled a (owed_in r o) handlers e k else try_ (owed_in r o) handlers) (owed_catches r e)
      ∙ if_raises (catches r e) (handles handlers e) _ _ _ _ (try_ (owed_in r o) handlers) (try_ r handlers) (λ c. ap (λ x. try_ x handlers) (owed_raises a r e k c)) (handled_owed a r handlers e k) h
  owed_raises a (frame r x) e k h = ap (λ y. frame y x) (owed_raises a r e k h)
  owed_raises a (shell r x) e k h = ap (λ y. shell y x) (owed_raises a r e k h)
  owed_raises a (run g r) e k h = ap (run g) (owed_raises a r e k h)
  owed_raises a (goal r m) e k h = ap (λ x. goal x m) (owed_raises a r e k h)

  pub owed_in_innermost : (f : Frame → Frame) (r : Residual) → in_innermost f (owed_in r o) ≡ owed_in (in_innermost f r) o
  owed_in_innermost f skip = refl
  owed_in_innermost f (one s) = refl
  owed_in_innermost f (batch s qs) = refl
  owed_in_innermost f (seq r ss) = ap (λ x. seq x ss) (owed_in_innermost f r)
  owed_in_innermost f (owing r g u) = ap (λ x. owing x g u) (owed_in_innermost f r)
  owed_in_innermost f (guard r g u) = ap (λ x. guard x g u) (owed_in_innermost f r)
  owed_in_innermost f (try_ r handlers) = ap (λ x. try_ x handlers) (owed_in_innermost f r)
  owed_in_innermost f (frame r x) = ap (λ y. frame y (changed_if (innermost (owed_in r o)) f x)) (owed_in_innermost f r) ∙ ap (λ p. frame (owed_in (in_innermost f r) o) (changed_if p f x)) (owed_innermost r)
  owed_in_innermost f (shell r x) = ap (λ y. shell y (changed_if (innermost (owed_in r o)) f x)) (owed_in_innermost f r) ∙ ap (λ p. shell (owed_in (in_innermost f r) o) (changed_if p f x)) (owed_innermost r)
  owed_in_innermost f (run g r) = ap (run g) (owed_in_innermost f r)
  owed_in_innermost f (goal r k) = ap (λ x. goal x k) (owed_in_innermost f r)

  -- it comes next
  pub owed_shows : (r : Residual) (s : ℕ) → in_place r ≡ Some s → next_of (owed_in r o) ≡ residual.owes o.statement o.first
  owed_shows skip s e = cc
  owed_shows (one t) s e = refl
  owed_shows (batch t qs) s e = cc
  owed_shows (seq r ss) s e = owed_shows r s e
  owed_shows (owing r g u) s e = owed_shows r s e
  owed_shows (guard r g u) s e = owed_shows r s e
  owed_shows (try_ r handlers) s e = owed_shows r s e
  owed_shows (frame r x) s e = ap (λ n. in_frame n x) (owed_shows r s e)
  owed_shows (shell r x) s e = owed_shows r s e
  owed_shows (run g r) s e = owed_shows r s e
  owed_shows (goal r k) s e = ap (λ n. before_goal n k) (owed_shows r s e)

  -- a statement in place comes to owe its call
  pub put_owed : (r : Residual) (s t : ℕ) (qs : List ℕ) → in_place r ≡ Some s → Plain r → t ≡ o.statement → qs ≡ o.first ∷ reverse o.rest.items → put r (batch t qs) ≡ owed_in r o
  put_owed skip s t qs e k h f = cc
  put_owed (one n) s t qs e k h f = ap (λ m. batch m qs) h ∙ ap (batch o.statement) f
  put_owed (batch n ps) s t qs e k h f = cc
  put_owed (seq r []) s t qs e k h f = absurd k
  put_owed (seq r (n ∷ ss)) s t qs e k h f = ap (λ x. seq x (n ∷ ss)) (put_owed r s t qs e k h f)
  put_owed (owing r g u) s t qs e k h f = ap (λ x. owing x g u) (put_owed r s t qs e k h f)
  put_owed (guard r g u) s t qs e k h f = ap (λ x. guard x g u) (put_owed r s t qs e k h f)
  put_owed (try_ r handlers) s t qs e k h f = ap (λ x. try_ x handlers) (put_owed r s t qs e k h f)
  put_owed (frame r x) s t qs e k h f = frame_or_place r x (batch t qs) (put r (batch t qs)) s e ∙ ap (λ y. frame y x) (put_owed r s t qs e k h f)
  put_owed (shell r x) s t qs e k h f = ap (λ y. shell y x) (put_owed r s t qs e k h f)
  put_owed (run g r) s t qs e k h f = ap (run g) (put_owed r s t qs e k h f)
  put_owed (goal r j) s t qs e k h f = goal_or_place r j (batch t qs) (put r (batch t qs)) s e ∙ ap (λ x. goal x j) (put_owed r s t qs e k h f)

  pub put_over : (r : Residual) (s t : ℕ) (qs : List ℕ) → in_place r ≡ Some s → t ≡ o.statement → qs ≡ [] → put r (batch t qs) ≡ owed_in (put r skip) o
  put_over skip s t qs e h f = cc
  put_over (one n) s t qs e h f = ap (λ m. batch m qs) h ∙ ap (batch o.statement) f
  put_over (batch n ps) s t qs e h f = cc
  put_over (seq r ss) s t qs e h f = ap (λ x. followed x ss) (put_over r s t qs e h f) ∙ sym (owed_followed (put r skip) ss)
  put_over (owing r g u) s t qs e h f = ap (λ x. owing x g u) (put_over r s t qs e h f)
  put_over (guard r g u) s t qs e h f = ap (λ x. guard x g u) (put_over r s t qs e h f)
  put_over (try_ r handlers) s t qs e h f = ap (λ x. try_ x handlers) (put_over r s t qs e h f)
  put_over (frame r x) s t qs e h f = frame_or_place r x (batch t qs) (put r (batch t qs)) s e ∙ ap (λ y. frame y x) (put_over r s t qs e h f) ∙ sym (ap (λ y. owed_in y o) (frame_or_place r x skip (put r skip) s e))
  put_over (shell r x) s t qs e h f = ap (λ y. shell y x) (put_over r s t qs e h f)
  put_over (run g r) s t qs e h f = ap (run g) (put_over r s t qs e h f)
  put_over (goal r j) s t qs e h f = goal_or_place r j (batch t qs) (put r (batch t qs)) s e ∙ ap (λ x. goal x j) (put_over r s t qs e h f) ∙ sym (ap (λ y. owed_in y o) (goal_or_place r j skip (put r skip) s e))

-- a call that is owed to one less is owed to those behind the first
pub taken_put : (o : Owed) (r : Residual) (s : ℕ) → in_place r ≡ Some s → Plain r → taken_off (owed_in r o) ≡ put r (batch o.statement (reverse o.rest.items))
taken_put o skip s e k = cc
taken_put o (one t) s e k = refl
taken_put o (batch t qs) s e k = cc
taken_put o (seq r []) s e k = absurd k
taken_put o (seq r (n ∷ ss)) s e k = ap (λ x. seq x (n ∷ ss)) (taken_put o r s e k)
taken_put o (owing r g u) s e k = ap (λ x. owing x g u) (taken_put o r s e k)
taken_put o (guard r g u) s e k = ap (λ x. guard x g u) (taken_put o r s e k)
taken_put o (try_ r handlers) s e k = ap (λ x. try_ x handlers) (taken_put o r s e k)
taken_put o (frame r x) s e k = ap (λ y. frame y x) (taken_put o r s e k) ∙ sym (frame_or_place r x (batch o.statement (reverse o.rest.items)) (put r (batch o.statement (reverse o.rest.items))) s e)
taken_put o (shell r x) s e k = ap (λ y. shell y x) (taken_put o r s e k)
taken_put o (run g r) s e k = ap (run g) (taken_put o r s e k)
taken_put o (goal r j) s e k = ap (λ x. goal x j) (taken_put o r s e k) ∙ sym (goal_or_place r j (batch o.statement (reverse o.rest.items)) (put r (batch o.statement (reverse o.rest.items))) s e)

-- a statement that is past is in place no more
past_followed : (r : Residual) (ss : List ℕ) → in_place (followed r ss) ≡ in_place r
past_followed r [] = refl
past_followed r (s ∷ ss) = refl

pub place_past : (r : Residual) (s : ℕ) → in_place r ≡ Some s → in_place (put r skip) ≡ None
place_past skip s e = cc
place_past (one t) s e = refl
place_past (batch t qs) s e = cc
place_past (seq r ss) s e = past_followed (put r skip) ss ∙ place_past r s e
place_past (owing r g u) s e = place_past r s e
place_past (guard r g u) s e = place_past r s e
place_past (try_ r handlers) s e = place_past r s e
place_past (frame r x) s e = ap in_place (frame_or_place r x skip (put r skip) s e) ∙ place_past r s e
place_past (shell r x) s e = place_past r s e
place_past (run g r) s e = place_past r s e
place_past (goal r k) s e = ap in_place (goal_or_place r k skip (put r skip) s e) ∙ place_past r s e
