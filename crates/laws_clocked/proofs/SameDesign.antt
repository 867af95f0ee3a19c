-- No step and no taking changes the design, and so no run does.
use Rattle.std.proofs.Common.{◌≡◌, ◌++◌, ℕ, suc, Bool, true, false, cond, List, [], ◌∷◌, length, Option, Some, None, refl}
use Rattle.laws_runs.specs.FlatDesign.declared.design.Design.{Design}
use Rattle.laws_runs.specs.FlatDesign.declared.design.ProcessPart.{ProcessPart}
use Rattle.laws_runs.specs.SimModel.Residual.{goal}
use Rattle.laws_runs.specs.SimModel.Unwinding.{unw, raise, left_by_unw, left_by_raise}
use Rattle.laws_runs.specs.SimModel.Configuration.{Config, arena, change_instance, with_residual, with_runnable, start}
use Rattle.laws_runs.specs.SimModel.Waits.{freed}
use Rattle.laws_runs.specs.SimModel.Storing.{passes}
use Rattle.laws_runs.specs.SimModel.Calls.{with_left, with_entry, new_instance, added, runnable_unless}
use Rattle.laws_runs.specs.SimModel.Control.{is_top, pushed, pushed_unless_top}
use Rattle.laws_runs.specs.SimModel.Statements.{settled_in}
use Rattle.laws_runs.specs.SimModel.Phases.{initialize_each}
use Rattle.laws_runs.specs.SimModel.Runs.{after}
use Rattle.laws_runs.specs.SimModel.declared.plain.Command.{Command}
use Rattle.laws_runs.specs.SimModel.declared.plain.Goal.TheVariants as goal_of
use Rattle.laws_runs.specs.SimModel.declared.plain.Via.{Via}
use Rattle.laws_runs.proofs.GoalRuns.{holds-after}
use Rattle.laws_runs.proofs.GoalSteps.{goes-to}
use Rattle.laws_runs.specs.Moves as move
use Rattle.laws_runs.specs.Moves.{Moves, StepMoves, in_turn, between, initializing, moving_now, TakingMoves, of_none, of_one, time_moved, turn_taken}
use Rattle.laws_runs.proofs.MovesKeep.{EachKeeps, moves-keep}
use Rattle.laws_runs.proofs.RunSteps.{taking-moves}

module _ (design : Design) where
  abbrev Is : Config → Type 0
  Is c = c.design ≡ design

  is_if : (b : Bool) (c d : Config) → Is c → Is d → Is (cond b c d)
  is_if true c d one_ two = one_
  is_if false c d one_ two = two

  left_is : (vias : List Via) (x : Config) → Is x → Is (with_left x vias)
  left_is [] x h = h
  left_is (via ∷ more) x h = left_is more (with_entry x via.hop _) h

  unless_is : (b : Bool) (q : ℕ) (x : Config) → Is x → Is (runnable_unless b q x)
  unless_is true q x h = h
  unless_is false q x h = h

  each : (who : Option ℕ) → EachKeeps who Is
  each who c (move.spawning q r k x args) may h = unless_is x.dont_initialize (length (passes c q r).processes.instances) (added (passes c q r) (new_instance (passes c q r) k x args)) h
  each who c (move.throwing q r e) may h = left_is (left_by_raise r e) (with_residual c q (raise (arena c) r e goal_of.Thrown)) h
  each who c (move.injecting q i e) may h = left_is (left_by_raise i.residual e) (pushed (with_residual c q (raise (arena c) i.residual e goal_of.Injected)) q) h
  each who c (move.unwinding q i k) may h =
      let x = with_residual c q (goal (unw i.residual) k) in
      left_is (left_by_unw i.residual) (pushed_unless_top x q) (is_if (is_top x q) x (pushed x q) h h)
  each who c m may h = h

  initialize_is : (p : ℕ) (xs : List ProcessPart) (c : Config) → Is c → Is (initialize_each p xs c)
  initialize_is p [] c h = h
  initialize_is p (x ∷ xs) c h =
      is_if x.dont_initialize (initialize_each (suc p) xs c) (initialize_each (suc p) xs (with_runnable (change_instance c p freed) (c.processes.runnable ++ p ∷ [])))
      (initialize_is (suc p) xs c h)
      (initialize_is (suc p) xs (with_runnable (change_instance c p freed) (c.processes.runnable ++ p ∷ [])) h)

  pub design-went : (c d : Config) → StepMoves c d → Is c → Is d
  design-went c _ (in_turn p rest i d now top at ms is) h = moves-keep (Some p) Is (each (Some p)) (settled_in c p i.residual) d ms h
  design-went c _ (between d later ms) h = moves-keep None Is (each None) c d ms h
  design-went c _ (initializing d e now ms same cycle more after) h =
      moves-keep None Is (each None) (initialize_each 0 c.design.processes d) e more (initialize_is 0 c.design.processes d (moves-keep None Is (each None) c d ms h))
  design-went c _ (moving_now t d now apart ms same) h = moves-keep None Is (each None) (time_moved c t) d ms h

  pub design-taken : (c d : Config) (p : ℕ) → TakingMoves c p d → Is c → Is d
  design-taken c _ p of_none h = h
  design-taken c _ p (of_one i d empty at is ms) h = moves-keep (Some p) Is (each (Some p)) (turn_taken c p) d ms h

pub design-after : (design : Design) (script : List Command) (n : ℕ) (choices : List ℕ) (c : Config) → after n choices (start design script) ≡ Some c → c.design ≡ design
design-after design script n choices c reached =
    holds-after (λ (x : Config). x.design ≡ design)
    (λ x h. goes-to x (λ (y : Config). y.design ≡ design) (λ y ms. design-went design x y ms h))
    (λ x q y now h to. design-taken design x y q (taking-moves x y q now to) h)
    n choices (start design script) c refl reached
