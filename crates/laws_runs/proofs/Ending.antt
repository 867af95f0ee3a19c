-- The goal of a kill or a reset is the outermost part of what is left.
use Rattle.std.proofs.Common.{◌≡◌, ◌||◌, ℕ, Bool, true, false, cond, List, [], ◌∷◌, slice_get, Option, Some, None, option_map, refl, sym, ap, ◌∙◌, subst, true≢false}
use Rattle.std.proofs.lemmas.Option.{none-some, same_Some, slice_get-map}
use Rattle.sim_model.specs.LogicValues.declared.kinds.Value.{Value}
use Rattle.sim_model.specs.FlatDesign.Code.{Arena}
use Rattle.sim_model.specs.FlatDesign.Sound.{SoundDesign}
use Rattle.sim_model.specs.FlatDesign.declared.design.ProcessPart.{ProcessPart}
use Rattle.sim_model.specs.FlatDesign.declared.design.Design.{Design}
use Rattle.sim_model.specs.FlatDesign.declared.code.Handler.{Handler}
use Rattle.sim_model.specs.Residual.{Residual, Frame, skip, one, batch, seq, owing, guard, try_, frame, shell, run, goal, followed, statements, block, then_on, in_run, then_owed, in_guard, in_try, in_shell, settle, frame_or, goal_or, put, taken_off, in_innermost, entered}
use Rattle.sim_model.specs.Unwinding.{unw, catches, handles, handler_block, handler_of, handled, raise, has_exit, returned}
use Rattle.sim_model.specs.Configuration.{Config, Instance, first_instance, instance_at, start}
use Rattle.sim_model.specs.Storing.{with_local}
use Rattle.sim_model.specs.Runs.{after}
use Rattle.sim_model.specs.Clean.{open_guards}
use Rattle.sim_model.specs.declared.plain.Command.{Command}
use Rattle.sim_model.specs.declared.plain.Goal.{Goal}
use Rattle.sim_model.specs.declared.plain.Goal.TheVariants as goal_of
use Rattle.laws_runs.specs.Shapes.{IsNormal}
use Rattle.laws_runs.specs.Standing.{code_of}
use Rattle.laws_runs.proofs.ShapeLemmas.{block-normal, entered-normal}
use Rattle.laws_runs.proofs.GoalSteps.{start-sound}
use Rattle.laws_runs.proofs.GoalParts.{Parts, Kept, residual_in, IsInner, IsKept, IsSettled, IsKeptBetween, IsKeptByTakings}
use Rattle.laws_runs.proofs.KeptRuns.{kept-after}
use Rattle.laws_runs.proofs.Each.{Each, each-change, each-last, each-map}
use Rattle.laws_runs.specs.Once.{guards_below}
use Rattle.laws_runs.specs.UnwindingCalls.{is_outer, has_outer_goal}
use Rattle.laws_runs.proofs.Callers.{all-open}

or_right : (a b : Bool) → (a || b) ≡ false → b ≡ false
or_right true b h = absurd (true≢false h)
or_right false b h = h

or_both : (a b : Bool) → (a || b) ≡ false → (c : Bool) → c ≡ false → (a || c) ≡ false
or_both true b h c none = absurd (true≢false h)
or_both false b h c none = none

-- ---- parts without such a goal

normal_outer : (r : Residual) → IsNormal r → has_outer_goal r ≡ false
normal_outer skip h = refl
normal_outer (one s) h = refl
normal_outer (batch s qs) h = refl
normal_outer (seq r ss) h = normal_outer r h
normal_outer (owing r g u) h = absurd h
normal_outer (guard r g u) h = normal_outer r h
normal_outer (try_ r handlers) h = normal_outer r h
normal_outer (frame r x) h = normal_outer r h
normal_outer (shell r x) h = absurd h
normal_outer (run g r) h = absurd h
normal_outer (goal r k) h = absurd h

followed_outer : (r : Residual) (ss : List ℕ) → has_outer_goal (followed r ss) ≡ has_outer_goal r
followed_outer r [] = refl
followed_outer r (s ∷ ss) = refl

statements_outer : (ss : List ℕ) → has_outer_goal (statements ss) ≡ false
statements_outer [] = refl
statements_outer (s ∷ ss) = followed_outer (one s) ss

unw_outer : (r : Residual) → has_outer_goal (unw r) ≡ false
unw_outer skip = refl
unw_outer (one s) = refl
unw_outer (batch s qs) = refl
unw_outer (seq r ss) = unw_outer r
unw_outer (owing r g u) = unw_outer r
unw_outer (guard r g u) = unw_outer r
unw_outer (try_ r handlers) = unw_outer r
unw_outer (frame r x) = unw_outer r
unw_outer (shell r x) = unw_outer r
unw_outer (run g r) = unw_outer r
unw_outer (goal r k) = unw_outer r

local_outer : (f : Frame → Frame) (r : Residual) → has_outer_goal (in_innermost f r) ≡ has_outer_goal r
local_outer f skip = refl
local_outer f (one s) = refl
local_outer f (batch s qs) = refl
local_outer f (seq r ss) = local_outer f r
local_outer f (owing r g u) = local_outer f r
local_outer f (guard r g u) = local_outer f r
local_outer f (try_ r handlers) = local_outer f r
local_outer f (frame r x) = local_outer f r
local_outer f (shell r x) = local_outer f r
local_outer f (run g r) = local_outer f r
local_outer f (goal r k) = ap (λ b. is_outer k || b) (local_outer f r)

off_outer : (r : Residual) → has_outer_goal (taken_off r) ≡ has_outer_goal r
off_outer skip = refl
off_outer (one s) = refl
off_outer (batch s qs) = refl
off_outer (seq r ss) = off_outer r
off_outer (owing r g u) = off_outer r
off_outer (guard r g u) = off_outer r
off_outer (try_ r handlers) = off_outer r
off_outer (frame r x) = off_outer r
off_outer (shell r x) = off_outer r
off_outer (run g r) = off_outer r
off_outer (goal r k) = ap (λ b. is_outer k || b) (off_outer r)

module _ (a : Arena) where
  then_outer : (r : Residual) (ss : List ℕ) → has_outer_goal r ≡ false → has_outer_goal (then_on r ss) ≡ false
  then_outer skip ss h = statements_outer ss
  then_outer other ss h = followed_outer other ss ∙ h

  run_outer : (g : ℕ) (r : Residual) → has_outer_goal r ≡ false → has_outer_goal (in_run g r) ≡ false
  run_outer g skip h = refl
  run_outer g other h = h

  owed_outer : (r : Residual) (g u : ℕ) → has_outer_goal r ≡ false → has_outer_goal (then_owed a r g u) ≡ false
  owed_outer skip g u h = run_outer g (block a u) (normal_outer (block a u) (block-normal a u))
  owed_outer other g u h = h

  guard_outer : (r : Residual) (g u : ℕ) → has_outer_goal r ≡ false → has_outer_goal (in_guard r g u) ≡ false
  guard_outer skip g u h = refl
  guard_outer other g u h = h

  try_outer : (r : Residual) (handlers : List Handler) → has_outer_goal r ≡ false → has_outer_goal (in_try r handlers) ≡ false
  try_outer skip handlers h = refl
  try_outer other handlers h = h

  shell_outer : (r : Residual) (x : Frame) → has_outer_goal r ≡ false → has_outer_goal (in_shell r x) ≡ false
  shell_outer skip x h = refl
  shell_outer other x h = h

  settle_outer : (r : Residual) → has_outer_goal r ≡ false → has_outer_goal (settle a r) ≡ false
  settle_outer skip h = refl
  settle_outer (one s) h = refl
  settle_outer (batch s []) h = refl
  settle_outer (batch s (q ∷ qs)) h = refl
  settle_outer (seq r ss) h = then_outer (settle a r) ss (settle_outer r h)
  settle_outer (owing r g u) h = owed_outer (settle a r) g u (settle_outer r h)
  settle_outer (guard r g u) h = guard_outer (settle a r) g u (settle_outer r h)
  settle_outer (try_ r handlers) h = try_outer (settle a r) handlers (settle_outer r h)
  settle_outer (frame r x) h = settle_outer r h
  settle_outer (shell r x) h = shell_outer (settle a r) x (settle_outer r h)
  settle_outer (run g r) h = run_outer g (settle a r) (settle_outer r h)
  settle_outer (goal r k) h = or_both (is_outer k) (has_outer_goal r) h (has_outer_goal (settle a r)) (settle_outer r (or_right (is_outer k) (has_outer_goal r) h))

module _ (new : Residual) (none : has_outer_goal new ≡ false) where
  frame_outer : (r : Residual) (x : Frame) (inside : Residual) → has_outer_goal inside ≡ false → has_outer_goal (frame_or r x new inside) ≡ false
  frame_outer skip x inside h = none
  frame_outer other x inside h = h

  goal_outer : (r : Residual) (k : Goal) (inside : Residual) → (is_outer k || has_outer_goal inside) ≡ false → has_outer_goal (goal_or r k new inside) ≡ false
  goal_outer skip k inside h = none
  goal_outer other k inside h = h

  put_outer : (r : Residual) → has_outer_goal r ≡ false → has_outer_goal (put r new) ≡ false
  put_outer skip h = refl
  put_outer (one s) h = none
  put_outer (batch s qs) h = none
  put_outer (seq r ss) h = followed_outer (put r new) ss ∙ put_outer r h
  put_outer (owing r g u) h = put_outer r h
  put_outer (guard r g u) h = put_outer r h
  put_outer (try_ r handlers) h = put_outer r h
  put_outer (frame r x) h = frame_outer r x (put r new) (put_outer r h)
  put_outer (shell r x) h = put_outer r h
  put_outer (run g r) h = put_outer r h
  put_outer (goal r k) h = goal_outer r k (put r new) (or_both (is_outer k) (has_outer_goal r) h (has_outer_goal (put r new)) (put_outer r (or_right (is_outer k) (has_outer_goal r) h)))

module _ (v : Option Value) where
  outer_if : (b : Bool) (r s : Residual) → has_outer_goal r ≡ false → has_outer_goal s ≡ false → has_outer_goal (cond b r s) ≡ false
  outer_if true r s one_ two = one_
  outer_if false r s one_ two = two

  returned_outer : (r : Residual) → has_outer_goal r ≡ false → has_outer_goal (returned v r) ≡ false
  returned_outer skip h = refl
  returned_outer (one s) h = refl
  returned_outer (batch s qs) h = refl
  returned_outer (seq r ss) h = returned_outer r h
  returned_outer (owing r g u) h = returned_outer r h
  returned_outer (guard r g u) h = returned_outer r h
  returned_outer (try_ r handlers) h = returned_outer r h
  returned_outer (frame r x) h = outer_if (has_exit r) (frame (returned v r) x) (frame skip (record x { answer = v })) (returned_outer r h) refl
  returned_outer (shell r x) h = returned_outer r h
  returned_outer (run g r) h = outer_if (has_exit r) (run g (returned v r)) (run g skip) (returned_outer r h) refl
  returned_outer (goal r k) h = or_both (is_outer k) (has_outer_goal r) h (has_outer_goal (returned v r)) (returned_outer r (or_right (is_outer k) (has_outer_goal r) h))

inner_none : (k : Goal) → IsInner k → is_outer k ≡ false
inner_none goal_of.End h = absurd h
inner_none goal_of.Restart h = absurd h
inner_none goal_of.Thrown h = refl
inner_none goal_of.Injected h = refl

module _ (a : Arena) (e : ℕ) (k : Goal) (inner : IsInner k) where
  handled_outer : (r : Residual) → has_outer_goal (goal (unw r) k) ≡ false
  handled_outer r = ap (λ b. b || has_outer_goal (unw r)) (inner_none k inner) ∙ unw_outer r

  try_raised : (b c : Bool) (r : Residual) (handlers : List Handler) → has_outer_goal r ≡ false → has_outer_goal (raise a r e k) ≡ false
      → has_outer_goal (cond b (try_ (raise a r e k) handlers) (cond c (handled a r handlers e k) (try_ r handlers))) ≡ false
  try_raised true c r handlers h later = later
  try_raised false true r handlers h later = followed_outer (goal (unw r) k) (handler_block a (handler_of handlers e)) ∙ handled_outer r
  try_raised false false r handlers h later = h

  raise_outer : (r : Residual) → has_outer_goal r ≡ false → has_outer_goal (raise a r e k) ≡ false
  raise_outer skip h = refl
  raise_outer (one s) h = refl
  raise_outer (batch s qs) h = refl
  raise_outer (seq r ss) h = raise_outer r h
  raise_outer (owing r g u) h = raise_outer r h
  raise_outer (guard r g u) h = raise_outer r h
  raise_outer (try_ r handlers) h = try_raised (catches r e) (handles handlers e) r handlers h (raise_outer r h)
  raise_outer (frame r x) h = raise_outer r h
  raise_outer (shell r x) h = raise_outer r h
  raise_outer (run g r) h = raise_outer r h
  raise_outer (goal r j) h = or_both (is_outer j) (has_outer_goal r) h (has_outer_goal (raise a r e k)) (raise_outer r (or_right (is_outer j) (has_outer_goal r) h))

-- ---- such a goal is the outermost part, or there is none

abbrev Outside : Residual → Type 0
Outside (goal r k) = has_outer_goal r ≡ false
Outside other = has_outer_goal other ≡ false

none_outside : (r : Residual) → has_outer_goal r ≡ false → Outside r
none_outside (goal r k) h = or_right (is_outer k) (has_outer_goal r) h
none_outside other h = h

normal_outside : (r : Residual) → IsNormal r → Outside r
normal_outside r h = none_outside r (normal_outer r h)

settle_outside : (a : Arena) (r : Residual) → Outside r → Outside (settle a r)
settle_outside a (goal r k) h = settle_outer a r h
settle_outside a other h = none_outside (settle a other) (settle_outer a other h)

module _ (new : Residual) (none : has_outer_goal new ≡ false) where
  goal_outside : (r : Residual) (k : Goal) → has_outer_goal r ≡ false → Outside (goal_or r k new (put r new))
  goal_outside skip k h = none_outside new none
  goal_outside other k h = put_outer new none other h

  put_outside : (r : Residual) → Outside r → Outside (put r new)
  put_outside (goal r k) h = goal_outside r k h
  put_outside other h = none_outside (put other new) (put_outer new none other h)

returned_outside : (v : Option Value) (r : Residual) → Outside r → Outside (returned v r)
returned_outside v (goal r k) h = returned_outer v r h
returned_outside v other h = none_outside (returned v other) (returned_outer v other h)

local_outside : (f : Frame → Frame) (r : Residual) → Outside r → Outside (in_innermost f r)
local_outside f (goal r k) h = local_outer f r ∙ h
local_outside f other h = none_outside (in_innermost f other) (local_outer f other ∙ h)

off_outside : (r : Residual) → Outside r → Outside (taken_off r)
off_outside (goal r k) h = off_outer r ∙ h
off_outside other h = none_outside (taken_off other) (off_outer other ∙ h)

-- raised in the goal of another, it stays so
raise_outside : (a : Arena) (e : ℕ) (k : Goal) → IsInner k → (r : Residual) → Outside r → Outside (raise a r e k)
raise_outside a e k inner (goal r j) h = raise_outer a e k inner r h
raise_outside a e k inner other h = none_outside (raise a other e k) (raise_outer a e k inner other h)

-- ---- in each configuration of a run

abbrev IsOutside : ℕ → Instance → Type 0
IsOutside n i = Outside i.residual

abbrev AllOutside : Parts → Type 0
AllOutside x = Each IsOutside x.instances

outside_here : (x : Parts) (n : ℕ) (i : Instance) (r s : Residual) → slice_get x.instances n ≡ Some i → i.residual ≡ r → (Outside r → Outside s) → AllOutside x → AllOutside (residual_in x n s)
outside_here x n i r s at is becomes h =
    each-change IsOutside x.instances n (λ j. record j { residual = s }) (λ j there k. becomes (subst Outside (ap (λ (z : Instance). z.residual) (same_Some j i (sym there ∙ at)) ∙ is) k)) h

outside-settled : (p : ℕ) → IsSettled p AllOutside
outside-settled p x i at h = outside_here x p i i.residual (settle (code_of x.design) i.residual) at refl (settle_outside (code_of x.design) i.residual) h

outside-kept : (p : ℕ) → IsKept p AllOutside
outside-kept p = record {
  same = λ x n f alike h. each-change IsOutside x.instances n f (λ i at k. subst Outside (sym (alike i).residual) k) h;
  leaves = λ x more top none h. h;
  pushes = λ x n more top off h. h;
  passes = λ x i r at may h. outside_here x p i r (put r skip) at.here at.is (put_outside skip refl r) h;
  puts = λ x i r n at next new is_new h. outside_here x p i r (put r new) at.here at.is (put_outside new (normal_outer new is_new.normal) r) h;
  takes_off = λ x i r at h. outside_here x p i r (taken_off r) at.here at.is (off_outside r) h;
  guards = λ x i r n at next b u h. outside_here x p i r (put r (guard (block (code_of x.design) b) x.next_guard u)) at.here at.is (put_outside (guard (block (code_of x.design) b) x.next_guard u) (normal_outer (block (code_of x.design) b) (block-normal (code_of x.design) b)) r) h;
  returns = λ x i r n at next v h. outside_here x p i r (returned v r) at.here at.is (returned_outside v r) h;
  locals = λ x n v h. each-change IsOutside x.instances p (λ j. record j { residual = in_innermost (with_local n v) j.residual }) (λ i at k. local_outside (with_local n v) i.residual k) h;
  raises = λ x n i r e k at is stands none caught inner h. outside_here x n i r (raise (code_of x.design) r e k) at is (raise_outside (code_of x.design) e k inner r) h;
  unwinds = λ x n i k at stands none outer h. outside_here x n i i.residual (goal (unw i.residual) k) at refl (λ f. unw_outer i.residual) h;
  over = λ x i r at over f none stays h. each-change IsOutside x.instances p f (λ j there k. subst Outside (sym (none j)) refl) h;
  begins = λ x n i f args at left h. each-change IsOutside x.instances n _ (λ j there k. normal_outside (entered (code_of x.design) f args None None) (entered-normal (code_of x.design) f args None None)) h;
  spawned = λ x new none begun lives h. each-last IsOutside x.instances new (subst Outside (sym none) refl) h;
  tries_hop = λ x s hop t e blocking entry unbroken h. h;
  calls_hop = λ x i r n at next via f args e hop entry unbroken h.
      outside_here x p i r (put r (entered (code_of x.design) f args (Some n) (Some via))) at.here at.is
      (put_outside (entered (code_of x.design) f args (Some n) (Some via)) (normal_outer (entered (code_of x.design) f args (Some n) (Some via)) (entered-normal (code_of x.design) f args (Some n) (Some via))) r) h;
  returns_hop = λ x i r y at next via e over entry unbroken h. outside_here x p i r (put r skip) at.here at.is (put_outside skip refl r) h;
}

outside-between : IsKeptBetween AllOutside
outside-between = record {
  same = λ x n f alike h. each-change IsOutside x.instances n f (λ i at k. subst Outside (sym (alike i).residual) k) h;
  alike = λ x f alike h. each-map IsOutside x.instances f (λ n i k. subst Outside (sym (alike i).residual) k) h;
}

outside-taken : IsKeptByTakings AllOutside
outside-taken = record {
  taken = λ x p empty h. h;
  begins = λ x n i f args at left h. each-change IsOutside x.instances n _ (λ j there k. normal_outside (entered (code_of x.design) f args None None) (entered-normal (code_of x.design) f args None None)) h;
}

first_outside : (d : Design) (o : Option ProcessPart) (i : Instance) → option_map (first_instance d) o ≡ Some i → Outside i.residual
first_outside d None i at = absurd (none-some i at)
first_outside d (Some x) i at = subst (λ (j : Instance). Outside j.residual) (same_Some (first_instance d x) i at) refl

module _ (design : Design) (script : List Command) (sound : SoundDesign design) (n : ℕ) (choices : List ℕ) (c : Config) (reached : after n choices (start design script) ≡ Some c) where
  outside_after : Kept AllOutside c
  outside_after =
      kept-after AllOutside outside-kept outside-settled outside-between outside-taken n choices (start design script) c (start-sound design script sound)
      (λ p i at. first_outside design (slice_get design.processes p) i (sym (slice_get-map (first_instance design) design.processes p) ∙ at)) reached

  pub all-below : (q : ℕ) (i : Instance) → instance_at c q ≡ Some i → has_outer_goal i.residual ≡ true → guards_below i.residual ≡ open_guards q c.trace.marks
  all-below q i at ends = by i.residual refl (outside_after q i at) ends
    where
      by : (r : Residual) → i.residual ≡ r → Outside r → has_outer_goal r ≡ true → guards_below i.residual ≡ open_guards q c.trace.marks
      by (goal r k) is none is_one = all-open design script sound n choices c reached q i r k at is
      by other is none is_one = absurd (true≢false (sym is_one ∙ none))
