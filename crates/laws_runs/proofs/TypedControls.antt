-- Control calls and exceptions keep everything typed, whichever instance they are made for.
use Rattle.std.proofs.Common.{◌≡◌, ◌||◌, ◌&&◌, not, ℕ, Bool, true, false, cond, List, [], ◌∷◌, ◌++◌, Option, Some, None, refl, sym, ◌∙◌, subst}
use Rattle.std.specs.Prelude.{Result, Ok, Err, IfOk}
use Rattle.std.proofs.lemmas.Option.{same_Some}
use Rattle.sim_model.specs.ModelTree.declared.statements.Control.{Control}
use Rattle.sim_model.specs.ModelTree.declared.statements.Control.TheVariants as control
use Rattle.sim_model.specs.FlatDesign.declared.design.Design.{Design}
use Rattle.sim_model.specs.FlatDesign.declared.faults.RunFault.{RunFault}
use Rattle.sim_model.specs.Residual.{Residual, goal, has_goal}
use Rattle.sim_model.specs.Unwinding.{unw, catches, raise, left_by_unw, left_by_raise}
use Rattle.sim_model.specs.Configuration.{Config, Instance, arena, change_instance, instance_at, with_runnable, with_residual}
use Rattle.sim_model.specs.Waits.{freed, holds, without, leaves_stack}
use Rattle.sim_model.specs.Calls.{with_entry, with_left, thrown}
use Rattle.sim_model.specs.Control.{is_top, is_below_top, is_thread, with_kept, yields, suspends, resumes, pushed, pushed_unless_top, unwinds, ends_or_restarts, injected, throws_at, controlled_by, unless_ended, control_call, throw_call}
use Rattle.sim_model.specs.declared.plain.Goal.{Goal}
use Rattle.sim_model.specs.declared.plain.Goal.TheVariants as goal_of
use Rattle.sim_model.specs.declared.plain.Via.{Via}
use Rattle.sim_model.specs.TransportPhases.History.{Left}
use Rattle.laws_runs.specs.Standing.{code_of}
use Rattle.laws_runs.specs.Frames.{LeftFits}
use Rattle.laws_runs.proofs.TypedUnwound.{unw-fits, raise-fits}
use Rattle.laws_runs.proofs.TypedMoves.{Fits, same-fits, residual-fits}

module _ (d : Design) where
  fits-if : (b : Bool) (c e : Config) → Fits d c → Fits d e → Fits d (cond b c e)
  fits-if true c e one two = one
  fits-if false c e one two = two

  ok_if : (b : Bool) (m n : Result Config RunFault) → IfOk m (Fits d) → IfOk n (Fits d) → IfOk (cond b m n) (Fits d)
  ok_if true m n one two = one
  ok_if false m n one two = two

  -- entries of calls that are left
  pub left-entries : (vias : List Via) (c : Config) → Fits d c → Fits d (with_left c vias)
  left-entries [] c k = k
  left-entries (via ∷ more) c k = left-entries more (with_entry c via.hop (Left via.payload)) k

  flags_fit : (c : Config) (q : ℕ) (i : Instance) → Fits d c → Fits d (suspends c q i)
  flags_fit c q i k =
      let e = change_instance c q (λ j. record j { suspended = true }) in
      let one = same-fits d c q (λ j. record j { suspended = true }) (λ j. record { home = refl; code = refl; arguments = refl; residual = refl }) k in
      let two = same-fits d e q (λ j. record j { kept = true }) (λ j. record { home = refl; code = refl; arguments = refl; residual = refl }) one in
      fits-if (holds c.processes.runnable q) (with_runnable (with_kept e q) (without c.processes.runnable q)) _ two (fits-if (yields e q i) (leaves_stack (with_kept e q)) e two one)

  resumes_fit : (c : Config) (q : ℕ) (i : Instance) → Fits d c → Fits d (resumes c q i)
  resumes_fit c q i k =
      let e = change_instance c q (λ j. record j { suspended = false; kept = false }) in
      let one = same-fits d c q (λ j. record j { suspended = false; kept = false }) (λ j. record { home = refl; code = refl; arguments = refl; residual = refl }) k in
      fits-if i.kept (with_runnable e (c.processes.runnable ++ q ∷ [])) e one one

  pushed_fits : (c : Config) (q : ℕ) → Fits d c → Fits d (pushed c q)
  pushed_fits c q k = same-fits d c q (λ j. record (freed j) { kept = false; trigger = None }) (λ j. record { home = refl; code = refl; arguments = refl; residual = refl }) k

  module _ (c : Config) (same : c.design ≡ d) (k : Fits d c) (q : ℕ) (i : Instance) (at : instance_at c q ≡ Some i) where
    unwinds_fits : (g : Goal) → Fits d (unwinds c q i g)
    unwinds_fits g =
        let e = with_residual c q (goal (unw i.residual) g) in
        let one = residual-fits d c q (goal (unw i.residual) g) (λ j there fits. unw-fits d None j.home i.residual (subst (λ (x : Instance). LeftFits d None j.home x.residual) (same_Some j i (sym there ∙ at)) fits.left)) k in
        left-entries (left_by_unw i.residual) (pushed_unless_top e q) (fits-if (is_top e q) e (pushed e q) one (pushed_fits e q one))

    ends_fit : (g : Goal) → IfOk (ends_or_restarts c q i g) (Fits d)
    ends_fit g = ok_if (is_below_top c q) (Err _) _ tt (ok_if (is_top c q && has_goal i.residual) (Ok c) (Ok (unwinds c q i g)) k (unwinds_fits g))

    raised : (e : ℕ) (g : Goal) (r : Residual) → i.residual ≡ r → Fits d (with_residual c q (raise (arena c) r e g))
    raised e g r is =
        residual-fits d c q (raise (arena c) r e g)
        (λ j there fits. subst (λ x. LeftFits d None j.home (raise (code_of x) r e g)) (sym same)
        (raise-fits d e g None j.home r (subst (LeftFits d None j.home) is (subst (λ (x : Instance). LeftFits d None j.home x.residual) (same_Some j i (sym there ∙ at)) fits.left)))) k

    pub thrown-fits : (r : Residual) (e : ℕ) → i.residual ≡ r → IfOk (thrown c q r e) (Fits d)
    thrown-fits r e is = ok_if (catches r e) (Ok _) (Err _) (left-entries (left_by_raise r e) (with_residual c q (raise (arena c) r e goal_of.Thrown)) (raised e goal_of.Thrown r is)) tt

    injected_fits : (e : ℕ) → IfOk (injected c q i e) (Fits d)
    injected_fits e =
        ok_if (not (is_thread i.kind) || not i.started) (Ok c) _ k
        (ok_if (catches i.residual e) (Ok _) (Err _)
        (left-entries (left_by_raise i.residual e) (pushed (with_residual c q (raise (arena c) i.residual e goal_of.Injected)) q) (pushed_fits (with_residual c q (raise (arena c) i.residual e goal_of.Injected)) q (raised e goal_of.Injected i.residual refl))) tt)

    throws_fit : (e : ℕ) → IfOk (throws_at c q i e) (Fits d)
    throws_fit e = ok_if (is_below_top c q) (Err _) _ tt (ok_if (is_top c q) _ _ (ok_if (has_goal i.residual) (Ok c) _ k (thrown-fits i.residual e refl)) (injected_fits e))

    controlled_fits : (x : Control) → IfOk (controlled_by c q i x) (Fits d)
    controlled_fits control.Suspend = flags_fit c q i k
    controlled_fits control.Resume = resumes_fit c q i k
    controlled_fits control.Disable = same-fits d c q (λ j. record j { disabled = true }) (λ j. record { home = refl; code = refl; arguments = refl; residual = refl }) k
    controlled_fits control.Enable = same-fits d c q (λ j. record j { disabled = false }) (λ j. record { home = refl; code = refl; arguments = refl; residual = refl }) k
    controlled_fits control.Kill = ends_fit goal_of.End
    controlled_fits control.Reset = ends_fit goal_of.Restart

  of_live : (c : Config) (q : ℕ) (f : Instance → Result Config RunFault) (o : Option Instance) → instance_at c q ≡ o → Fits d c → ((i : Instance) → instance_at c q ≡ Some i → IfOk (f i) (Fits d)) → IfOk (unless_ended c o f) (Fits d)
  of_live c q f None at k live = k
  of_live c q f (Some i) at k live = ok_if i.ended (Ok c) (f i) k (live i at)

  pub control-fits : (c : Config) → c.design ≡ d → Fits d c → (q : ℕ) (x : Control) → IfOk (control_call c q x) (Fits d)
  control-fits c same k q x = of_live c q _ (instance_at c q) refl k (λ i at. controlled_fits c same k q i at x)

  pub throw-fits : (c : Config) → c.design ≡ d → Fits d c → (q e : ℕ) → IfOk (throw_call c q e) (Fits d)
  throw-fits c same k q e = of_live c q _ (instance_at c q) refl k (λ i at. throws_fit c same k q i at e)
