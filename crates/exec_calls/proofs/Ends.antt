-- The call that ends is the innermost one.
use Rattle.std.proofs.Common.{◌≡◌, ℕ, List, [], ◌∷◌, Option, Some, None, refl, sym, ap, ◌∙◌}
use Rattle.flat_design.specs.Code.{Arena, block_at}
use Rattle.flat_design.specs.declared.code.Handler.{Handler}
use Rattle.exec_data.specs.KernelBodies.Layers.{shown}
use Rattle.exec_data.specs.KernelBodies.declared.layers.Next.TheVariants as next
use Rattle.exec_data.specs.SimModel.Residual as residual
use Rattle.exec_data.specs.SimModel.Residual.{Residual, Frame, Next, skip, one, batch, seq, owing, guard, try_, frame, shell, run, goal, settle, next_of, innermost, or_frame, statements, followed, then_on, then_owed, in_guard, in_try, in_shell, in_run, in_frame, frame_end, before_goal, block}
use Rattle.exec_data.specs.SimModel.declared.plain.Goal.{Goal}

followed_next : (r : Residual) (ss : List ℕ) → next_of (followed r ss) ≡ next_of r
followed_next r [] = refl
followed_next r (s ∷ ss) = refl

-- ---- where nothing comes next nothing is left

frame_shows : (o : Option ℕ) (x : Frame) → frame_end o x ≡ residual.nothing → ⊥
frame_shows None x is = cc
frame_shows (Some call) x is = cc

in_frame_shows : (n : Next) (x : Frame) → in_frame n x ≡ residual.nothing → ⊥
in_frame_shows (residual.statement s) x is = cc
in_frame_shows (residual.owes s q) x is = cc
in_frame_shows (residual.leaves y) x is = cc
in_frame_shows residual.done x is = cc
in_frame_shows (residual.reaches k) x is = cc
in_frame_shows residual.nothing x is = frame_shows x.call x is

before_shows : (n : Next) (k : Goal) → before_goal n k ≡ residual.nothing → ⊥
before_shows (residual.statement s) k is = cc
before_shows (residual.owes s q) k is = cc
before_shows (residual.leaves y) k is = cc
before_shows residual.done k is = cc
before_shows (residual.reaches g) k is = cc
before_shows residual.nothing k is = cc

-- what is left is over, if nothing comes next
abbrev Over : Residual → Type 0
Over q = next_of q ≡ residual.nothing → q ≡ skip

statements_over : (ss : List ℕ) → Over (statements ss)
statements_over [] is = refl
statements_over (s ∷ ss) is = let e : residual.statement s ≡ residual.nothing = sym (followed_next (one s) ss) ∙ is in absurd cc

then_on_over : (q : Residual) (ss : List ℕ) → Over q → Over (then_on q ss)
then_on_over skip ss ih is = statements_over ss is
then_on_over q [] ih is = ih is
then_on_over q (s ∷ ss) ih is = let e = ih is in absurd cc

in_run_over : (g : ℕ) (q : Residual) → Over q → Over (in_run g q)
in_run_over g skip ih is = refl
in_run_over g q ih is = let e = ih is in absurd cc

then_owed_over : (a : Arena) (q : Residual) (g u : ℕ) → Over q → Over (then_owed a q g u)
then_owed_over a skip g u ih is = in_run_over g (block a u) (statements_over (block_at a u)) is
then_owed_over a q g u ih is = let e = ih is in absurd cc

in_guard_over : (q : Residual) (g u : ℕ) → Over q → Over (in_guard q g u)
in_guard_over skip g u ih is = refl
in_guard_over q g u ih is = let e = ih is in absurd cc

in_try_over : (q : Residual) (handlers : List Handler) → Over q → Over (in_try q handlers)
in_try_over skip handlers ih is = refl
in_try_over q handlers ih is = let e = ih is in absurd cc

in_shell_over : (q : Residual) (x : Frame) → Over q → Over (in_shell q x)
in_shell_over skip x ih is = refl
in_shell_over q x ih is = let e = ih is in absurd cc

nothing_left : (a : Arena) (r : Residual) → Over (settle a r)
nothing_left a skip is = refl
nothing_left a (one s) is = absurd cc
nothing_left a (batch s []) is = refl
nothing_left a (batch s (q ∷ qs)) is = absurd cc
nothing_left a (seq r ss) is = then_on_over (settle a r) ss (nothing_left a r) is
nothing_left a (owing r g u) is = then_owed_over a (settle a r) g u (nothing_left a r) is
nothing_left a (guard r g u) is = in_guard_over (settle a r) g u (nothing_left a r) is
nothing_left a (try_ r handlers) is = in_try_over (settle a r) handlers (nothing_left a r) is
nothing_left a (frame r x) is = absurd (in_frame_shows (next_of (settle a r)) x is)
nothing_left a (shell r x) is = in_shell_over (settle a r) x (nothing_left a r) is
nothing_left a (run g r) is = in_run_over g (settle a r) (nothing_left a r) is
nothing_left a (goal r k) is = absurd (before_shows (next_of (settle a r)) k is)

-- ---- where a call ends next, it is the innermost one

module _ (x : Frame) where
  abbrev Inner : Residual → Type 0
  Inner q = next_of q ≡ residual.leaves x → innermost q ≡ Some x

  statements_inner : (ss : List ℕ) → Inner (statements ss)
  statements_inner [] is = absurd cc
  statements_inner (s ∷ ss) is = let e : residual.statement s ≡ residual.leaves x = sym (followed_next (one s) ss) ∙ is in absurd cc

  then_on_inner : (q : Residual) (ss : List ℕ) → Inner q → Inner (then_on q ss)
  then_on_inner skip ss ih is = statements_inner ss is
  then_on_inner q [] ih is = ih is
  then_on_inner q (s ∷ ss) ih is = ih is

  in_run_inner : (g : ℕ) (q : Residual) → Inner q → Inner (in_run g q)
  in_run_inner g skip ih is = absurd cc
  in_run_inner g q ih is = ih is

  then_owed_inner : (a : Arena) (q : Residual) (g u : ℕ) → Inner q → Inner (then_owed a q g u)
  then_owed_inner a skip g u ih is = in_run_inner g (block a u) (statements_inner (block_at a u)) is
  then_owed_inner a q g u ih is = ih is

  in_guard_inner : (q : Residual) (g u : ℕ) → Inner q → Inner (in_guard q g u)
  in_guard_inner skip g u ih is = absurd cc
  in_guard_inner q g u ih is = ih is

  in_try_inner : (q : Residual) (handlers : List Handler) → Inner q → Inner (in_try q handlers)
  in_try_inner skip handlers ih is = absurd cc
  in_try_inner q handlers ih is = ih is

  in_shell_inner : (q : Residual) (y : Frame) → Inner q → Inner (in_shell q y)
  in_shell_inner skip y ih is = absurd cc
  in_shell_inner q y ih is = ap (λ o. or_frame o y) (ih is)

  frame_is : (o : Option ℕ) (y : Frame) → frame_end o y ≡ residual.leaves x → Some y ≡ Some x
  frame_is None y is = absurd cc
  frame_is (Some call) y is = cc

  frame_inner : (q : Residual) (y : Frame) (n : Next) → next_of q ≡ n → Over q → Inner q → in_frame n y ≡ residual.leaves x → or_frame (innermost q) y ≡ Some x
  frame_inner q y (residual.statement s) next over ih is = absurd cc
  frame_inner q y (residual.owes s m) next over ih is = absurd cc
  frame_inner q y (residual.leaves z) next over ih is = ap (λ o. or_frame o y) (ih (next ∙ is))
  frame_inner q y residual.done next over ih is = absurd cc
  frame_inner q y (residual.reaches k) next over ih is = absurd cc
  frame_inner q y residual.nothing next over ih is = ap (λ r. or_frame (innermost r) y) (over next) ∙ frame_is y.call y is

  goal_inner : (q : Residual) (k : Goal) (n : Next) → next_of q ≡ n → Inner q → before_goal n k ≡ residual.leaves x → innermost q ≡ Some x
  goal_inner q k (residual.statement s) next ih is = absurd cc
  goal_inner q k (residual.owes s m) next ih is = absurd cc
  goal_inner q k (residual.leaves z) next ih is = ih (next ∙ is)
  goal_inner q k residual.done next ih is = absurd cc
  goal_inner q k (residual.reaches g) next ih is = absurd cc
  goal_inner q k residual.nothing next ih is = absurd cc

  inner : (a : Arena) (r : Residual) → Inner (settle a r)
  inner a skip is = absurd cc
  inner a (one s) is = absurd cc
  inner a (batch s []) is = absurd cc
  inner a (batch s (q ∷ qs)) is = absurd cc
  inner a (seq r ss) is = then_on_inner (settle a r) ss (inner a r) is
  inner a (owing r g u) is = then_owed_inner a (settle a r) g u (inner a r) is
  inner a (guard r g u) is = in_guard_inner (settle a r) g u (inner a r) is
  inner a (try_ r handlers) is = in_try_inner (settle a r) handlers (inner a r) is
  inner a (frame r y) is = frame_inner (settle a r) y (next_of (settle a r)) refl (nothing_left a r) (inner a r) is
  inner a (shell r y) is = in_shell_inner (settle a r) y (inner a r) is
  inner a (run g r) is = in_run_inner g (settle a r) (inner a r) is
  inner a (goal r k) is = goal_inner (settle a r) k (next_of (settle a r)) refl (inner a r) is

-- the call that ends next, once finished parts have fallen away, is the innermost one
pub leaves_innermost : (a : Arena) (r : Residual) (x : Frame) → next_of (settle a r) ≡ residual.leaves x → innermost (settle a r) ≡ Some x
leaves_innermost a r x is = inner x a r is

-- ---- the end of a call that is shown

pub ends_as : (n : Next) → shown n ≡ next.Leave → (x : Frame) × (n ≡ residual.leaves x)
ends_as (residual.statement s) is = absurd cc
ends_as (residual.owes s q) is = absurd cc
ends_as (residual.leaves x) is = (x, refl)
ends_as residual.done is = absurd cc
ends_as (residual.reaches k) is = absurd cc
ends_as residual.nothing is = absurd cc
