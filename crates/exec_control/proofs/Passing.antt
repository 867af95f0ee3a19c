-- A statement that is past leaves tries and goals where they are; and what an exception makes of an instance then.
use Rattle.std.proofs.Common.{◌≡◌, ◌≢◌, ◌||◌, ◌&&◌, not, ℕ, Bool, true, false, List, [], ◌∷◌, Option, Some, None, option_map, refl, sym, ap, ◌∙◌, subst, true≢false}
use Rattle.std.specs.Prelude.{if◌then◌else◌, is_some, Ok, Err}
use Rattle.flat_design.specs.declared.faults.RunFault.TheVariants as fault
use Rattle.exec_data.specs.KernelBodies.Strip.{strip}
use Rattle.exec_data.proofs.KernelBodies.Strips.{strip-next}
use Rattle.exec_data.specs.KernelBodies.Layers.{shown}
use Rattle.exec_data.specs.SimModel.Residual as residual
use Rattle.exec_data.specs.SimModel.Residual.{Residual, Frame, Next, skip, one, batch, seq, owing, guard, try_, frame, shell, run, goal, followed, next_of, frame_end, in_frame, before_goal, put, taken_off, frame_or, goal_or, settle, has_goal}
use Rattle.exec_data.specs.SimModel.Unwinding.{catches, handles}
use Rattle.exec_data.specs.SimModel.Configuration.{Config, Instance, change, instance_at, arena}
use Rattle.exec_data.specs.SimModel.Calls.{thrown}
use Rattle.exec_data.specs.SimModel.Control.{is_thread, is_top, is_below_top, throws_at, injected, unless_ended, throw_call}
use Rattle.exec_data.specs.SimModel.declared.plain.Goal.{Goal}
use Rattle.exec_data.specs.ProcessBodies.Bodies as bodies
use Rattle.exec_data.proofs.KernelProcesses.Wakes.{change-here, change-other}
use Rattle.std.specs.FinMap as map
use Rattle.exec_data.specs.InstanceTable.declared.instances.Instance.{Instance as Entry}
use Rattle.exec_data.specs.KernelProcesses.declared.parts.Process.{Process}
use Rattle.exec_data.specs.KernelState.Moves.{Lives}
use Rattle.exec_data.specs.KernelState.declared.kernel.Kept.{Kept}
use Rattle.exec_data.specs.KernelState.Ways.{moved}
use Rattle.exec_data.specs.KernelState.declared.kernel.Kernel.{Kernel}
use Rattle.exec_data.specs.KernelState.declared.ways.Way.{Way}
use Rattle.exec_data.specs.KernelState.declared.ways.Way.TheVariants as way
use Rattle.exec_control.specs.Thrown.{past, injects}

-- ---- tries

followed_catches : (r : Residual) (ss : List ℕ) (e : ℕ) → catches (followed r ss) e ≡ catches r e
followed_catches r [] e = refl
followed_catches r (s ∷ ss) e = refl

frame_catches : (r : Residual) (x : Frame) (inside : Residual) (e : ℕ) → catches inside e ≡ catches r e → catches (frame_or r x skip inside) e ≡ catches r e
frame_catches skip x inside e same = refl
frame_catches r x inside e same = same

goal_catches : (r : Residual) (k : Goal) (inside : Residual) (e : ℕ) → catches inside e ≡ catches r e → catches (goal_or r k skip inside) e ≡ catches r e
goal_catches skip k inside e same = refl
goal_catches r k inside e same = same

pub put_catches : (r : Residual) (e : ℕ) → catches (put r skip) e ≡ catches r e
put_catches skip e = refl
put_catches (one s) e = refl
put_catches (batch s qs) e = refl
put_catches (seq r ss) e = followed_catches (put r skip) ss e ∙ put_catches r e
put_catches (owing r g u) e = put_catches r e
put_catches (guard r g u) e = put_catches r e
put_catches (try_ r handlers) e = ap (λ b. b || handles handlers e) (put_catches r e)
put_catches (frame r x) e = frame_catches r x (put r skip) e (put_catches r e)
put_catches (shell r x) e = put_catches r e
put_catches (run g r) e = put_catches r e
put_catches (goal r k) e = goal_catches r k (put r skip) e (put_catches r e)

-- ---- goals

followed_goal : (r : Residual) (ss : List ℕ) → has_goal (followed r ss) ≡ has_goal r
followed_goal r [] = refl
followed_goal r (s ∷ ss) = refl

frame_goal : (r : Residual) (x : Frame) (inside : Residual) → has_goal inside ≡ has_goal r → has_goal (frame_or r x skip inside) ≡ has_goal r
frame_goal skip x inside same = refl
frame_goal r x inside same = same

-- nothing is no statement, whatever it is the end of
no_statement : (o : Option ℕ) (x : Frame) → bodies.IsStatement (shown (frame_end o x)) → ⊥
no_statement None x is = is
no_statement (Some s) x is = is

in_frame_too : (n : Next) (x : Frame) → bodies.IsStatement (shown (in_frame n x)) → bodies.IsStatement (shown n)
in_frame_too residual.nothing x is = no_statement x.call x is
in_frame_too (residual.statement s) x is = is
in_frame_too (residual.owes s q) x is = is
in_frame_too (residual.leaves y) x is = is
in_frame_too residual.done x is = is
in_frame_too (residual.reaches k) x is = is

goal_goal : (r : Residual) (k : Goal) (inside : Residual) → bodies.IsStatement (shown (before_goal (next_of r) k)) → has_goal (goal_or r k skip inside) ≡ true
goal_goal skip k inside is = absurd is
goal_goal r k inside is = refl

pub put_goal : (r : Residual) → bodies.IsStatement (shown (next_of r)) → has_goal (put r skip) ≡ has_goal r
put_goal skip is = refl
put_goal (one s) is = refl
put_goal (batch s qs) is = refl
put_goal (seq r ss) is = followed_goal (put r skip) ss ∙ put_goal r is
put_goal (owing r g u) is = put_goal r is
put_goal (guard r g u) is = put_goal r is
put_goal (try_ r handlers) is = put_goal r is
put_goal (frame r x) is = frame_goal r x (put r skip) (put_goal r (in_frame_too (next_of r) x is))
put_goal (shell r x) is = put_goal r is
put_goal (run g r) is = put_goal r is
put_goal (goal r k) is = goal_goal r k (put r skip) is

-- ---- a call that is owed to one less

pub taken_catches : (r : Residual) (e : ℕ) → catches (taken_off r) e ≡ catches r e
taken_catches skip e = refl
taken_catches (one s) e = refl
taken_catches (batch s qs) e = refl
taken_catches (seq r ss) e = taken_catches r e
taken_catches (owing r g u) e = taken_catches r e
taken_catches (guard r g u) e = taken_catches r e
taken_catches (try_ r handlers) e = ap (λ b. b || handles handlers e) (taken_catches r e)
taken_catches (frame r x) e = taken_catches r e
taken_catches (shell r x) e = taken_catches r e
taken_catches (run g r) e = taken_catches r e
taken_catches (goal r k) e = taken_catches r e

pub taken_goal : (r : Residual) → has_goal (taken_off r) ≡ has_goal r
taken_goal skip = refl
taken_goal (one s) = refl
taken_goal (batch s qs) = refl
taken_goal (seq r ss) = taken_goal r
taken_goal (owing r g u) = taken_goal r
taken_goal (guard r g u) = taken_goal r
taken_goal (try_ r handlers) = taken_goal r
taken_goal (frame r x) = taken_goal r
taken_goal (shell r x) = taken_goal r
taken_goal (run g r) = taken_goal r
taken_goal (goal r k) = refl

pub moved_catches : (w : Way) (r : Residual) (e : ℕ) → catches (moved w r) e ≡ catches r e
moved_catches way.Past r e = put_catches r e
moved_catches way.TakenOff r e = taken_catches r e

-- the same of what a body stands for
pub statement_in : (r q : Residual) → strip r ≡ q → bodies.IsStatement (shown (next_of q)) → bodies.IsStatement (shown (next_of r))
statement_in r q same is = subst (λ n. bodies.IsStatement (shown n)) (strip-next r) (subst (λ x. bodies.IsStatement (shown (next_of x))) (sym same) is)

-- the entry of a live instance
pub live_entry : (k : Kernel) (p : ℕ) → Lives k p → (x : Entry (Process Kept)) × (map.get k.schedule.table.live p ≡ Some x)
live_entry k p lives = by (map.get k.schedule.table.live p) refl lives
  where
    by : (o : Option (Entry (Process Kept))) → map.get k.schedule.table.live p ≡ o → is_some o ≡ true → (x : Entry (Process Kept)) × (map.get k.schedule.table.live p ≡ Some x)
    by None none is = absurd (true≢false (sym is))
    by (Some x) at is = (x, at)

-- ---- an instance that is past its call

module _ (w : Way) (c : Config) (p : ℕ) (i : Instance) (there : instance_at c p ≡ Some i) where
  abbrev pub passed : Instance
  passed = record i { residual = moved w (settle (arena c) i.residual) }

  pub there_passed : instance_at (past w c p i) p ≡ Some passed
  there_passed = change-here (change c.processes.instances p (λ j. record j { residual = settle (arena c) i.residual })) p (λ j. record j { residual = moved w (settle (arena c) i.residual) })
      ∙ ap (option_map (λ (j : Instance). record j { residual = moved w (settle (arena c) i.residual) })) (change-here c.processes.instances p (λ j. record j { residual = settle (arena c) i.residual })
      ∙ ap (option_map (λ (j : Instance). record j { residual = settle (arena c) i.residual })) there)

  pub others_passed : (q : ℕ) → q ≢ p → instance_at (past w c p i) q ≡ instance_at c q
  others_passed q apart = change-other (change c.processes.instances p (λ j. record j { residual = settle (arena c) i.residual })) p q (λ j. record j { residual = moved w (settle (arena c) i.residual) }) apart
      ∙ change-other c.processes.instances p q (λ j. record j { residual = settle (arena c) i.residual }) apart

-- ---- what is thrown at an instance

either_not : (a b : Bool) → (not a || not b) ≡ not (a && b)
either_not true b = refl
either_not false b = refl

module _ (c : Config) (q : ℕ) (i : Instance) (e : ℕ) (at : instance_at c q ≡ Some i) (alive : i.ended ≡ false) where
  goes : throw_call c q e ≡ throws_at c q i e
  goes = ap (λ o. unless_ended c o (λ j. throws_at c q j e)) at ∙ ap (λ b. if b then Ok c else throws_at c q i e) alive

  pub is_refused : is_below_top c q ≡ true → throw_call c q e ≡ Err (fault.ControlOnActive q)
  is_refused below = goes ∙ ap (λ b. if b then Err (fault.ControlOnActive q) else if is_top c q then (if has_goal i.residual then Ok c else thrown c q i.residual e) else injected c q i e) below

  pub to_itself : is_below_top c q ≡ false → is_top c q ≡ true → throw_call c q e ≡ (if has_goal i.residual then Ok c else thrown c q i.residual e)
  to_itself below top = goes ∙ ap (λ b. if b then Err (fault.ControlOnActive q) else if is_top c q then (if has_goal i.residual then Ok c else thrown c q i.residual e) else injected c q i e) below
      ∙ ap (λ b. if b then (if has_goal i.residual then Ok c else thrown c q i.residual e) else injected c q i e) top

  pub to_other : is_below_top c q ≡ false → is_top c q ≡ false → throw_call c q e ≡ injected c q i e
  to_other below top = goes ∙ ap (λ b. if b then Err (fault.ControlOnActive q) else if is_top c q then (if has_goal i.residual then Ok c else thrown c q i.residual e) else injected c q i e) below
      ∙ ap (λ b. if b then (if has_goal i.residual then Ok c else thrown c q i.residual e) else injected c q i e) top

  pub nothing_thrown : (is_thread i.kind && i.started) ≡ false → injected c q i e ≡ Ok c
  nothing_thrown none = ap (λ b. if b then Ok c else injects c q i e) (either_not (is_thread i.kind) i.started ∙ ap not none)

  pub is_injected : (is_thread i.kind && i.started) ≡ true → injected c q i e ≡ injects c q i e
  is_injected both = ap (λ b. if b then Ok c else injects c q i e) (either_not (is_thread i.kind) i.started ∙ ap not both)
