-- An exception in another instance, before and behind the statement that throws it.
use Rattle.std.proofs.Common.{◌≡◌, ◌≢◌, ℕ, zero, suc, true, false, List, [], ◌∷◌, slice_get, Option, Some, None, option_map, refl, sym, ap, ◌∙◌, subst}
use Rattle.std.specs.Prelude.{is_some, if◌then◌else◌, Ok, Err}
use Rattle.std.specs.FinMap as map
use Rattle.flat_design.specs.declared.faults.RunFault.TheVariants as fault
use Rattle.exec_data.specs.SimModel.Residual.{settle}
use Rattle.exec_data.specs.SimModel.Unwinding.{catches, raise, left_by_raise}
use Rattle.exec_data.specs.SimModel.Configuration.{Config, Instance, changed_at, change, instance_at, with_residual, arena}
use Rattle.exec_data.specs.SimModel.Waits.{freed, without}
use Rattle.exec_data.specs.SimModel.Calls.{with_left}
use Rattle.exec_data.specs.SimModel.Control.{pushed}
use Rattle.exec_data.specs.SimModel.Statements.{settled_in}
use Rattle.exec_data.specs.SimModel.declared.plain.Goal.TheVariants as goal_of
use Rattle.exec_data.proofs.KernelProcesses.Wakes.{change-other}
use Rattle.exec_data.specs.ProcessBodies.Bodies as bodies
use Rattle.exec_data.specs.KernelTransactions.Board.{left}
use Rattle.exec_data.specs.KernelState.Kernel.{StandsFor}
use Rattle.exec_data.specs.KernelState.Moves.{Lives}
use Rattle.exec_data.specs.KernelState.Ways.{moved, MayMoveOn}
use Rattle.exec_data.specs.KernelState.declared.kernel.Kernel.{Kernel}
use Rattle.exec_data.specs.KernelState.declared.ways.Way.{Way}
use Rattle.exec_data.specs.KernelState.declared.ways.Way.TheVariants as way
use Rattle.exec_data.proofs.KernelState.Leaving.{LeftCallsEnd}
use Rattle.exec_control.specs.Others.{KeepsOthers}
use Rattle.exec_control.proofs.OneInstance.{change_same}
use Rattle.exec_control.proofs.Throwing.{raise_nothing, left_nothing}
use Rattle.exec_control.specs.Thrown.{past, injects}

-- ---- two elements are changed in any order

module _ {A : Type 0} where
  behind : (x : A) (xs : List A) (n : ℕ) (f : A → A) → change (x ∷ xs) (suc n) f ≡ x ∷ change xs n f
  behind x xs n f = by (slice_get xs n)
    where
      by : (o : Option A) → changed_at (x ∷ xs) (suc n) f o ≡ x ∷ changed_at xs n f o
      by None = refl
      by (Some y) = refl

  swapped : (xs : List A) (n m : ℕ) (f g : A → A) → n ≢ m → change (change xs n f) m g ≡ change (change xs m g) n f
  swapped [] n m f g apart = refl
  swapped (x ∷ xs) zero zero f g apart = absurd (apart refl)
  swapped (x ∷ xs) zero (suc m) f g apart = behind (f x) xs m g ∙ sym (ap (λ ys. change ys zero f) (behind x xs m g))
  swapped (x ∷ xs) (suc n) zero f g apart = ap (λ ys. change ys zero g) (behind x xs n f) ∙ sym (behind (g x) xs n f)
  swapped (x ∷ xs) (suc n) (suc m) f g apart = ap (λ ys. change ys (suc m) g) (behind x xs n f) ∙ behind x (change xs n f) m g ∙ ap (λ ys. x ∷ ys) (swapped xs n m f g (λ same. apart (ap suc same)))
      ∙ sym (ap (λ ys. change ys (suc n) f) (behind x xs m g) ∙ behind x (change xs m g) n f)

-- ---- what is kept of the other

there_as : {A B : Type 0} (f : A → B) (o : Option A) → is_some (option_map f o) ≡ is_some o
there_as f None = refl
there_as f (Some a) = refl

module _ (q : ℕ) (old new : Kernel) (keeps : KeepsOthers q old new) (p : ℕ) (apart : p ≢ q) where
  pub others_live : Lives old p → Lives new p
  others_live lives = sym (there_as (λ z. z.body.body) (map.get new.schedule.table.live p)) ∙ ap is_some (keeps.bodies p apart) ∙ there_as (λ z. z.body.body) (map.get old.schedule.table.live p) ∙ lives

  pub others_state : (w : Way) → MayMoveOn w old p → MayMoveOn w new p
  others_state way.Past shows = λ kept at. subst (λ x. bodies.IsStatement (bodies.next_in x kept.body)) (sym keeps.program) (shows kept (sym (keeps.bodies p apart) ∙ at))
  others_state way.TakenOff shows = λ kept at. subst (λ x. bodies.IsOwed (bodies.next_in x kept.body)) (sym keeps.program) (shows kept (sym (keeps.bodies p apart) ∙ at))

-- ---- the exception comes first, and then the statement is past

module _ (w : Way) (calls : LeftCallsEnd) (c : Config) (p q : ℕ) (apart : q ≢ p) (i j : Instance) (e : ℕ) where
  abbrev pub raised : Config
  raised = with_left (with_residual c q (raise (arena c) j.residual e goal_of.Injected)) (left_by_raise j.residual e)

  pub there_still : instance_at c p ≡ Some i → instance_at raised p ≡ Some i
  there_still there = ap (λ d. instance_at d p) (calls (with_residual c q (raise (arena c) j.residual e goal_of.Injected)) (left_by_raise j.residual e))
      ∙ change-other c.processes.instances q p (λ x. record x { residual = raise (arena c) j.residual e goal_of.Injected }) (λ same. apart (sym same)) ∙ there

  abbrev first : List Instance
  first = change (change (change c.processes.instances q (λ x. record x { residual = raise (arena c) j.residual e goal_of.Injected })) p (λ x. record x { residual = settle (arena c) i.residual })) p (λ x. record x { residual = moved w (settle (arena c) i.residual) })

  abbrev last : List Instance
  last = change (change (change c.processes.instances p (λ x. record x { residual = settle (arena c) i.residual })) p (λ x. record x { residual = moved w (settle (arena c) i.residual) })) q (λ x. record x { residual = raise (arena c) j.residual e goal_of.Injected })

  both_ways : first ≡ last
  both_ways = ap (λ is. change is p (λ x. record x { residual = moved w (settle (arena c) i.residual) }))
      (swapped c.processes.instances q p (λ x. record x { residual = raise (arena c) j.residual e goal_of.Injected }) (λ x. record x { residual = settle (arena c) i.residual }) apart)
      ∙ swapped (change c.processes.instances p (λ x. record x { residual = settle (arena c) i.residual })) q p (λ x. record x { residual = raise (arena c) j.residual e goal_of.Injected }) (λ x. record x { residual = moved w (settle (arena c) i.residual) }) apart

  -- the whole, by its instances
  abbrev whole : List Instance → Config
  whole is = record c {
    processes = record c.processes { instances = change is q (λ x. record (freed x) { kept = false; trigger = None }); runnable = without c.processes.runnable q; stack = q ∷ c.processes.stack };
    transactions = left c.transactions (left_by_raise j.residual e);
    trace = (settled_in c p i.residual).trace;
  }

  all_the_same : pushed (past w raised p i) q ≡ with_left (pushed (with_residual (past w c p i) q (raise (arena c) j.residual e goal_of.Injected)) q) (left_by_raise j.residual e)
  all_the_same = ap (λ d. pushed (past w d p i) q) (calls (with_residual c q (raise (arena c) j.residual e goal_of.Injected)) (left_by_raise j.residual e))
      ∙ ap whole both_ways ∙ sym (calls (pushed (with_residual (past w c p i) q (raise (arena c) j.residual e goal_of.Injected)) q) (left_by_raise j.residual e))

  pub is_injected : catches j.residual e ≡ true → injects (past w c p i) q j e ≡ Ok (pushed (past w raised p i) q)
  is_injected caught = ap (λ b. if b then Ok (with_left (pushed (with_residual (past w c p i) q (raise (arena c) j.residual e goal_of.Injected)) q) (left_by_raise j.residual e)) else Err (fault.Uncaught e)) caught
      ∙ ap Ok (sym all_the_same)

  pub is_uncaught : catches j.residual e ≡ false → injects (past w c p i) q j e ≡ Err (fault.Uncaught e)
  is_uncaught none = ap (λ b. if b then Ok (with_left (pushed (with_residual (past w c p i) q (raise (arena c) j.residual e goal_of.Injected)) q) (left_by_raise j.residual e)) else Err (fault.Uncaught e)) none

  -- where nothing names it nothing changes
  pub nothing_raised : (l : Kernel) → instance_at c q ≡ Some j → catches j.residual e ≡ false → StandsFor l raised → StandsFor l c
  nothing_raised l there none h =
      subst (λ is. StandsFor l (record c { processes = record c.processes { instances = is } }))
      (change_same c.processes.instances q (λ x. record x { residual = raise (arena c) j.residual e goal_of.Injected }) j there (ap (λ x. record j { residual = x }) (raise_nothing (arena c) j.residual e goal_of.Injected none)))
      (subst (λ vs. StandsFor l (with_left (with_residual c q (raise (arena c) j.residual e goal_of.Injected)) vs)) (left_nothing j.residual e none) h)
