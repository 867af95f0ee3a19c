-- A step that begins an unwinding begins no unwind block of it yet.
use Rattle.std.proofs.Common.{◌≡◌, ℕ, Bool, true, false, cond, List, [], ◌∷◌, slice_get, Option, Some, None, refl, sym, ap, ◌∙◌, subst, true≢false}
use Rattle.std.specs.Result.{IfOk}
use Rattle.std.proofs.lemmas.Option.{same_Some}
use Rattle.sim_model.specs.LogicValues.declared.kinds.Value.{Value}
use Rattle.sim_model.specs.FlatDesign.Code.{Arena, block_at, body_at}
use Rattle.sim_model.specs.FlatDesign.declared.code.CodeBody.{CodeBody}
use Rattle.sim_model.specs.FlatDesign.declared.code.Handler.{Handler}
use Rattle.sim_model.specs.Residual.{Residual, Frame, skip, one, batch, seq, owing, guard, try_, frame, shell, run, goal, followed, statements, block, frame_or, goal_or, put, taken_off, in_innermost, entered, entered_in, settle, has_goal}
use Rattle.sim_model.specs.Unwinding.{unw, catches, handles, handler_block, handler_of, handled, raise, has_exit, returned}
use Rattle.sim_model.specs.Configuration.{Config, Instance, instance_at, arena}
use Rattle.sim_model.specs.Storing.{with_local}
use Rattle.sim_model.specs.Statements.{settled_in, step_by}
use Rattle.sim_model.specs.Steps.{went, step}
use Rattle.sim_model.specs.declared.plain.Goal.{Goal}
use Rattle.sim_model.specs.declared.plain.Via.{Via}
use Rattle.laws_runs.specs.Shapes.{IsNormal}
use Rattle.laws_runs.proofs.ShapeLemmas.{goalless-normal, settle-normal}
use Rattle.laws_runs.specs.Standing.{code_of}
use Rattle.laws_runs.proofs.Fine.{fine-at}
use Rattle.laws_runs.proofs.GoalMoves.{Sound}
use Rattle.laws_runs.proofs.GoalSteps.{IfWent}
use Rattle.laws_runs.proofs.GoalParts.{Parts, parts, Kept, residual_in, IsKept, IsKeptBetween}
use Rattle.laws_runs.proofs.Each.{Each, each-change, each-last, each-map}
use Rattle.laws_runs.proofs.KeptStatements.{moved-kept}
use Rattle.laws_runs.proofs.KeptSteps as steps
use Rattle.laws_runs.proofs.Shaped.{standing-shaped}

-- whether an unwind block is begun
abbrev pub runs : Residual → Bool
runs skip = false
runs (one s) = false
runs (batch s qs) = false
runs (seq r ss) = runs r
runs (owing r g u) = runs r
runs (guard r g u) = runs r
runs (try_ r handlers) = runs r
runs (frame r x) = runs r
runs (shell r x) = runs r
runs (run g r) = true
runs (goal r k) = runs r

normal_runs : (r : Residual) → IsNormal r → runs r ≡ false
normal_runs skip h = refl
normal_runs (one s) h = refl
normal_runs (batch s qs) h = refl
normal_runs (seq r ss) h = normal_runs r h
normal_runs (owing r g u) h = absurd h
normal_runs (guard r g u) h = normal_runs r h
normal_runs (try_ r handlers) h = normal_runs r h
normal_runs (frame r x) h = normal_runs r h
normal_runs (shell r x) h = absurd h
normal_runs (run g r) h = absurd h
normal_runs (goal r k) h = absurd h

followed_runs : (r : Residual) (ss : List ℕ) → runs (followed r ss) ≡ runs r
followed_runs r [] = refl
followed_runs r (s ∷ ss) = refl

block_runs : (a : Arena) (b : ℕ) → runs (block a b) ≡ false
block_runs a b = by (block_at a b)
  where
    by : (ss : List ℕ) → runs (statements ss) ≡ false
    by [] = refl
    by (s ∷ []) = refl
    by (s ∷ t ∷ ss) = refl

entered_runs : (a : Arena) (f : ℕ) (args : List Value) (call : Option ℕ) (via : Option Via) → runs (entered a f args call via) ≡ false
entered_runs a f args call via = by (body_at a f)
  where
    by : (o : Option CodeBody) → runs (entered_in a f args call via o) ≡ false
    by None = refl
    by (Some b) = block_runs a b.block

module _ (new : Residual) (is_new : runs new ≡ false) where
  frame_runs : (r : Residual) (x : Frame) (inside : Residual) → runs inside ≡ false → runs (frame_or r x new inside) ≡ false
  frame_runs skip x inside h = is_new
  frame_runs other x inside h = h

  goal_runs : (r : Residual) (k : Goal) (inside : Residual) → runs inside ≡ false → runs (goal_or r k new inside) ≡ false
  goal_runs skip k inside h = is_new
  goal_runs other k inside h = h

  put_runs : (r : Residual) → runs r ≡ false → runs (put r new) ≡ false
  put_runs skip h = refl
  put_runs (one s) h = is_new
  put_runs (batch s qs) h = is_new
  put_runs (seq r ss) h = followed_runs (put r new) ss ∙ put_runs r h
  put_runs (owing r g u) h = put_runs r h
  put_runs (guard r g u) h = put_runs r h
  put_runs (try_ r handlers) h = put_runs r h
  put_runs (frame r x) h = frame_runs r x (put r new) (put_runs r h)
  put_runs (shell r x) h = put_runs r h
  put_runs (run g r) h = absurd (true≢false h)
  put_runs (goal r k) h = goal_runs r k (put r new) (put_runs r h)

module _ (v : Option Value) where
  runs_if : (b : Bool) (r s : Residual) → runs r ≡ false → runs s ≡ false → runs (cond b r s) ≡ false
  runs_if true r s one_ two = one_
  runs_if false r s one_ two = two

  returned_runs : (r : Residual) → runs r ≡ false → runs (returned v r) ≡ false
  returned_runs skip h = refl
  returned_runs (one s) h = refl
  returned_runs (batch s qs) h = refl
  returned_runs (seq r ss) h = returned_runs r h
  returned_runs (owing r g u) h = returned_runs r h
  returned_runs (guard r g u) h = returned_runs r h
  returned_runs (try_ r handlers) h = returned_runs r h
  returned_runs (frame r x) h = runs_if (has_exit r) (frame (returned v r) x) (frame skip (record x { answer = v })) (returned_runs r h) refl
  returned_runs (shell r x) h = returned_runs r h
  returned_runs (run g r) h = absurd (true≢false h)
  returned_runs (goal r k) h = returned_runs r h

local_runs : (f : Frame → Frame) (r : Residual) → runs (in_innermost f r) ≡ runs r
local_runs f skip = refl
local_runs f (one s) = refl
local_runs f (batch s qs) = refl
local_runs f (seq r ss) = local_runs f r
local_runs f (owing r g u) = local_runs f r
local_runs f (guard r g u) = local_runs f r
local_runs f (try_ r handlers) = local_runs f r
local_runs f (frame r x) = local_runs f r
local_runs f (shell r x) = local_runs f r
local_runs f (run g r) = refl
local_runs f (goal r k) = local_runs f r

off_runs : (r : Residual) → runs (taken_off r) ≡ runs r
off_runs skip = refl
off_runs (one s) = refl
off_runs (batch s qs) = refl
off_runs (seq r ss) = off_runs r
off_runs (owing r g u) = off_runs r
off_runs (guard r g u) = off_runs r
off_runs (try_ r handlers) = off_runs r
off_runs (frame r x) = off_runs r
off_runs (shell r x) = off_runs r
off_runs (run g r) = refl
off_runs (goal r k) = off_runs r

unw_runs : (r : Residual) → runs (unw r) ≡ runs r
unw_runs skip = refl
unw_runs (one s) = refl
unw_runs (batch s qs) = refl
unw_runs (seq r ss) = unw_runs r
unw_runs (owing r g u) = unw_runs r
unw_runs (guard r g u) = unw_runs r
unw_runs (try_ r handlers) = unw_runs r
unw_runs (frame r x) = unw_runs r
unw_runs (shell r x) = unw_runs r
unw_runs (run g r) = refl
unw_runs (goal r k) = unw_runs r

module _ (a : Arena) (e : ℕ) (k : Goal) where
  try_runs : (b c : Bool) (r : Residual) (handlers : List Handler) → runs r ≡ false → runs (raise a r e k) ≡ false → runs (cond b (try_ (raise a r e k) handlers) (cond c (handled a r handlers e k) (try_ r handlers))) ≡ false
  try_runs true c r handlers h later = later
  try_runs false true r handlers h later = followed_runs (goal (unw r) k) (handler_block a (handler_of handlers e)) ∙ unw_runs r ∙ h
  try_runs false false r handlers h later = h

  raise_runs : (r : Residual) → runs r ≡ false → runs (raise a r e k) ≡ false
  raise_runs skip h = refl
  raise_runs (one s) h = refl
  raise_runs (batch s qs) h = refl
  raise_runs (seq r ss) h = raise_runs r h
  raise_runs (owing r g u) h = raise_runs r h
  raise_runs (guard r g u) h = raise_runs r h
  raise_runs (try_ r handlers) h = try_runs (catches r e) (handles handlers e) r handlers h (raise_runs r h)
  raise_runs (frame r x) h = raise_runs r h
  raise_runs (shell r x) h = raise_runs r h
  raise_runs (run g r) h = absurd (true≢false h)
  raise_runs (goal r j) h = raise_runs r h

-- ---- none of q is begun, once finished parts fell away

module _ (q : ℕ) where
  abbrev IsIdle : ℕ → Instance → Type 0
  IsIdle n i = n ≡ q → runs i.residual ≡ false

  abbrev Idle : Parts → Type 0
  Idle x = Each IsIdle x.instances

  idle_here : (x : Parts) (n : ℕ) (i : Instance) (r s : Residual) → slice_get x.instances n ≡ Some i → i.residual ≡ r → (runs r ≡ false → runs s ≡ false) → Idle x → Idle (residual_in x n s)
  idle_here x n i r s at is becomes h = each-change IsIdle x.instances n (λ j. record j { residual = s }) (λ j there k e. becomes (ap runs (sym is) ∙ ap (λ (z : Instance). runs z.residual) (same_Some i j (sym at ∙ there)) ∙ k e)) h

  idle-kept : (p : ℕ) → IsKept p Idle
  idle-kept p = record {
    same = λ x n f alike h. each-change IsIdle x.instances n f (λ i at k e. ap runs (alike i).residual ∙ k e) h;
    leaves = λ x more top none h. h;
    pushes = λ x n more top off h. h;
    passes = λ x i r at may h. idle_here x p i r (put r skip) at.here at.is (put_runs skip refl r) h;
    puts = λ x i r n at next new is_new h. idle_here x p i r (put r new) at.here at.is (put_runs new (normal_runs new is_new.normal) r) h;
    takes_off = λ x i r at h. idle_here x p i r (taken_off r) at.here at.is (λ e. off_runs r ∙ e) h;
    guards = λ x i r n at next b u h. idle_here x p i r (put r (guard (block (code_of x.design) b) x.next_guard u)) at.here at.is (put_runs (guard (block (code_of x.design) b) x.next_guard u) (block_runs (code_of x.design) b) r) h;
    returns = λ x i r n at next v h. idle_here x p i r (returned v r) at.here at.is (returned_runs v r) h;
    locals = λ x n v h. each-change IsIdle x.instances p (λ j. record j { residual = in_innermost (with_local n v) j.residual }) (λ i at k e. local_runs (with_local n v) i.residual ∙ k e) h;
    raises = λ x n i r e k at is stands none caught inner h. idle_here x n i r (raise (code_of x.design) r e k) at is (raise_runs (code_of x.design) e k r) h;
    unwinds = λ x n i k at stands none outer h. idle_here x n i i.residual (goal (unw i.residual) k) at refl (λ f. unw_runs i.residual ∙ f) h;
    over = λ x i r at over f none stays h. each-change IsIdle x.instances p f (λ j there k e. ap runs (none j)) h;
    begins = λ x n i f args at left h. each-change IsIdle x.instances n _ (λ j there k e. entered_runs (code_of x.design) f args None None) h;
    spawned = λ x new none begun lives h. each-last IsIdle x.instances new (λ e. ap runs none) h;
    tries_hop = λ x s hop t e blocking entry unbroken h. h;
    calls_hop = λ x i r n at next via f args e hop entry unbroken h.
        idle_here x p i r (put r (entered (code_of x.design) f args (Some n) (Some via))) at.here at.is (put_runs (entered (code_of x.design) f args (Some n) (Some via)) (entered_runs (code_of x.design) f args (Some n) (Some via)) r) h;
    returns_hop = λ x i r y at next via e over entry unbroken h. idle_here x p i r (put r skip) at.here at.is (put_runs skip refl r) h;
  }

  idle-between : IsKeptBetween Idle
  idle-between = record {
    same = λ x n f alike h. each-change IsIdle x.instances n f (λ i at k e. ap runs (alike i).residual ∙ k e) h;
    alike = λ x f alike h. each-map IsIdle x.instances f (λ n i k e. ap runs (alike i).residual ∙ k e) h;
  }

  module _ (c : Config) (s : Sound c) (i : Instance) (at : instance_at c q ≡ Some i) (none : has_goal i.residual ≡ false) where
    normal : IsNormal i.residual
    normal = goalless-normal i.residual (standing-shaped c.design i.home i.residual (fine-at c.design c.processes q i at s.1).standing) none

    idle_first : Idle (parts c)
    idle_first n j there e = ap (λ (z : Instance). runs z.residual) (same_Some j i (sym there ∙ subst (λ m. instance_at c m ≡ Some i) (sym e) at)) ∙ normal_runs i.residual normal

    idle_settled : (p : ℕ) (j : Instance) → instance_at c p ≡ Some j → Kept Idle (settled_in c p j.residual)
    idle_settled p j there = each-change IsIdle c.processes.instances p (λ k. record k { residual = settle (arena c) j.residual })
        (λ k here_ h e. normal_runs (settle (arena c) j.residual) (settle-normal (arena c) j.residual (subst (λ (z : Instance). IsNormal z.residual) (same_Some i j (sym at ∙ subst (λ m. instance_at c m ≡ Some j) e there)) normal)))
        idle_first

    statement_idle : (p : ℕ) (rest : List ℕ) → c.processes.stack ≡ p ∷ rest → (o : Option Instance) → instance_at c p ≡ o → IfOk (step_by c p o) (Kept Idle)
    statement_idle p rest top None there = idle_first
    statement_idle p rest top (Some j) there = moved-kept p Idle (idle-kept p) c rest top s j there (idle_settled p j there)

    pub idle-step : (d : Config) → step c ≡ went d → Kept Idle d
    idle-step d now = subst (λ o. IfWent o (Kept Idle)) now (steps.step-by Idle idle-between c (λ p rest top. statement_idle p rest top (instance_at c p) refl) idle_first)
