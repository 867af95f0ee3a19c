-- Control calls are made of moves, whoever is called.
use Rattle.std.proofs.Common.{◌≡◌, ◌||◌, ◌&&◌, ℕ, Bool, true, false, cond, not, List, [], ◌∷◌, ◌++◌, Option, Some, None, refl, sym, ap, ◌∙◌, inl, true≢false, eqb-true}
use Rattle.std.specs.Prelude.{Result, Ok, Err}
use Rattle.std.specs.Result.{IfOk}
use Rattle.sim_model.specs.ModelTree.declared.statements.Control.{Control}
use Rattle.sim_model.specs.ModelTree.declared.statements.Control.TheVariants as control
use Rattle.sim_model.specs.FlatDesign.declared.faults.RunFault.{RunFault}
use Rattle.sim_model.specs.FlatDesign.declared.faults.RunFault.TheVariants as fault
use Rattle.sim_model.specs.Residual.{has_goal}
use Rattle.sim_model.specs.Unwinding.{catches, raise, left_by_raise}
use Rattle.sim_model.specs.Configuration.{Config, Instance, instance_at, with_residual, with_runnable, arena}
use Rattle.sim_model.specs.Waits.{holds, without, leaves_stack}
use Rattle.sim_model.specs.Calls.{with_left, thrown}
use Rattle.sim_model.specs.Control.{top_of, is_top, is_below_top, is_thread, with_kept, yields, pushed, unwinds, injected, controlled_by, unless_ended, control_call, throw_call}
use Rattle.sim_model.specs.declared.plain.Goal.{Goal}
use Rattle.sim_model.specs.declared.plain.Goal.TheVariants as goal_of
use Rattle.laws_runs.specs.Moves.{throwing, injecting, unwinding, suspending_runnable, yielding, suspending, resuming_kept, resuming, disabling, with_suspended, with_resumed, OnTop, Lives, IsOuter, Moves, then}
use Rattle.laws_runs.proofs.Values.{either_ok-moves}

or_false : (b : Bool) → (b || false) ≡ true → b ≡ true
or_false true h = refl
or_false false h = absurd (true≢false (sym h))

on_top : (c : Config) (q : ℕ) (stack : List ℕ) → c.processes.stack ≡ stack → holds (top_of stack) q ≡ true → (rest : List ℕ) × (c.processes.stack ≡ q ∷ rest)
on_top c q [] is h = absurd (true≢false (sym h))
on_top c q (x ∷ rest) is h = (rest, is ∙ ap (λ y. y ∷ rest) (eqb-true x q (or_false _ h)))

pub top-is : (c : Config) (q : ℕ) → is_top c q ≡ true → (rest : List ℕ) × (c.processes.stack ≡ q ∷ rest)
top-is c q h = on_top c q c.processes.stack refl h

same_first : (p q : ℕ) (rest more : List ℕ) → ◌≡◌ {A = List ℕ} (p ∷ rest) (q ∷ more) → p ≡ q
same_first p q rest more e = cc

module _ (who : Option ℕ) (o c : Config) (p : ℕ) (top : OnTop who c p) (m : Moves who o c) where
  module _ (q : ℕ) (i : Instance) (live : Lives c q i) where
    yields_or : (b : Bool) → holds c.processes.runnable q ≡ false → yields (with_suspended c q) q i ≡ b → Moves who o (cond b (leaves_stack (with_kept (with_suspended c q) q)) (with_suspended c q))
    yields_or true off is = then c (yielding q) m (p, top, i, live, off, is)
    yields_or false off is = then c (suspending q) m (p, top, i, live, off)

    suspends_if : (b : Bool) → holds c.processes.runnable q ≡ b
        → Moves who o (cond b (with_runnable (with_kept (with_suspended c q) q) (without c.processes.runnable q)) (cond (yields (with_suspended c q) q i) (leaves_stack (with_kept (with_suspended c q) q)) (with_suspended c q)))
    suspends_if true is = then c (suspending_runnable q) m (p, top, i, live, is)
    suspends_if false is = yields_or (yields (with_suspended c q) q i) is refl

    resumes_if : (b : Bool) → i.kept ≡ b → Moves who o (cond b (with_runnable (with_resumed c q) (c.processes.runnable ++ q ∷ [])) (with_resumed c q))
    resumes_if true is = then c (resuming_kept q) m (p, top, i, live, is)
    resumes_if false is = then c (resuming q) m (p, top, i, live, is)

    goal_or : (b : Bool) (k : Goal) → IsOuter k → is_below_top c q ≡ false → (is_top c q && has_goal i.residual) ≡ b → IfOk {E = RunFault} (cond b (Ok c) (Ok (unwinds c q i k))) (Moves who o)
    goal_or true k outer below is = m
    goal_or false k outer below is = then c (unwinding q i k) m (p, top, live, below, is, outer)

    ends_or : (b : Bool) (k : Goal) (f : RunFault) → IsOuter k → is_below_top c q ≡ b → IfOk (cond b (Err f) (cond (is_top c q && has_goal i.residual) (Ok c) (Ok (unwinds c q i k)))) (Moves who o)
    ends_or true k f outer is = tt
    ends_or false k f outer is = goal_or (is_top c q && has_goal i.residual) k outer is refl

    controlled_moves : (k : Control) → IfOk (controlled_by c q i k) (Moves who o)
    controlled_moves control.Suspend = suspends_if (holds c.processes.runnable q) refl
    controlled_moves control.Resume = resumes_if i.kept refl
    controlled_moves control.Disable = then c (disabling q true) m (p, top, i, live)
    controlled_moves control.Enable = then c (disabling q false) m (p, top, i, live)
    controlled_moves control.Kill = ends_or (is_below_top c q) goal_of.End (fault.ControlOnActive q) tt refl
    controlled_moves control.Reset = ends_or (is_below_top c q) goal_of.Restart (fault.ControlOnActive q) tt refl

    -- the one on top is the one whose turn it is
    self_top : is_top c q ≡ true → OnTop who c q
    self_top on = let t = top-is c q on in record { is_turn = top.is_turn ∙ ap Some (same_first p q top.rest t.0 (sym top.top ∙ t.1)); rest = t.0; top = t.1 }

    self_caught : (e : ℕ) → is_top c q ≡ true → has_goal i.residual ≡ false → (b : Bool) → catches i.residual e ≡ b
        → IfOk (cond b (Ok (with_left (with_residual c q (raise (arena c) i.residual e goal_of.Thrown)) (left_by_raise i.residual e))) (Err (fault.Uncaught e))) (Moves who o)
    self_caught e on none true caught = then c (throwing q i.residual e) m (self_top on, i, live.at, refl, caught, inl none)
    self_caught e on none false caught = tt

    self_or : (e : ℕ) → is_top c q ≡ true → (b : Bool) → has_goal i.residual ≡ b → IfOk (cond b (Ok c) (thrown c q i.residual e)) (Moves who o)
    self_or e on true is = m
    self_or e on false is = self_caught e on is (catches i.residual e) refl

    other_caught : (e : ℕ) → is_top c q ≡ false → is_below_top c q ≡ false → (b : Bool) → catches i.residual e ≡ b
        → IfOk (cond b (Ok (with_left (pushed (with_residual c q (raise (arena c) i.residual e goal_of.Injected)) q) (left_by_raise i.residual e))) (Err (fault.Uncaught e))) (Moves who o)
    other_caught e off below true caught = then c (injecting q i e) m (p, top, live, off, below, caught)
    other_caught e off below false caught = tt

    throws_top : (b : Bool) (e : ℕ) → is_below_top c q ≡ false → is_top c q ≡ b → IfOk (cond b (cond (has_goal i.residual) (Ok c) (thrown c q i.residual e)) (injected c q i e)) (Moves who o)
    throws_top true e below is = self_or e is (has_goal i.residual) refl
    throws_top false e below is = either_ok-moves who o (not (is_thread i.kind) || not i.started) (Ok c) _ m (other_caught e is below (catches i.residual e) refl)

    throws_or : (b : Bool) (e : ℕ) (f : RunFault) → is_below_top c q ≡ b → IfOk (cond b (Err f) (cond (is_top c q) (cond (has_goal i.residual) (Ok c) (thrown c q i.residual e)) (injected c q i e))) (Moves who o)
    throws_or true e f is = tt
    throws_or false e f is = throws_top (is_top c q) e is refl

  ended_or : (b : Bool) (n : Result Config RunFault) → (b ≡ false → IfOk n (Moves who o)) → IfOk (cond b (Ok c) n) (Moves who o)
  ended_or true n live = m
  ended_or false n live = live refl

  of_live : (q : ℕ) (f : Instance → Result Config RunFault) (x : Option Instance) → instance_at c q ≡ x → ((i : Instance) → Lives c q i → IfOk (f i) (Moves who o)) → IfOk (unless_ended c x f) (Moves who o)
  of_live q f None at each = m
  of_live q f (Some i) at each = ended_or i.ended (f i) (λ lives. each i (record { at = at; lives = lives }))

  pub control-moves : (q : ℕ) (k : Control) → IfOk (control_call c q k) (Moves who o)
  control-moves q k = of_live q _ (instance_at c q) refl (λ i live. controlled_moves q i live k)

  pub throw-moves : (q e : ℕ) → IfOk (throw_call c q e) (Moves who o)
  throw-moves q e = of_live q _ (instance_at c q) refl (λ i live. throws_or q i live (is_below_top c q) e (fault.ControlOnActive q) refl)
