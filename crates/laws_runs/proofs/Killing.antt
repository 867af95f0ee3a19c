-- What a kill and a reset make of their target.
use Rattle.std.proofs.Common.{◌≡◌, ◌&&◌, ℕ, Bool, true, false, cond, ◌∷◌, slice_get, Some, None, refl, sym, ap, ◌∙◌}
use Rattle.std.specs.Prelude.{Result, Ok, Err}
use Rattle.sim_model.specs.ModelTree.declared.statements.Control.{Control}
use Rattle.sim_model.specs.ModelTree.declared.statements.Control.TheVariants as control
use Rattle.sim_model.specs.FlatDesign.declared.faults.RunFault.{RunFault}
use Rattle.sim_model.specs.FlatDesign.declared.faults.RunFault.TheVariants as fault
use Rattle.sim_model.specs.Residual.{goal, has_goal}
use Rattle.sim_model.specs.Unwinding.{unw, left_by_unw}
use Rattle.sim_model.specs.Configuration.{Config, Instance, change, instance_at, with_residual}
use Rattle.sim_model.specs.Waits.{freed}
use Rattle.sim_model.specs.Calls.{with_left}
use Rattle.sim_model.specs.Control.{is_top, is_below_top, pushed, pushed_unless_top, unwinds, ends_or_restarts, controlled_by, unless_ended, control_call}
use Rattle.sim_model.specs.declared.plain.Goal.{Goal}
use Rattle.sim_model.specs.declared.plain.Goal.TheVariants as goal_of
use Rattle.laws_runs.proofs.ResidualLemmas.{guards-unwound}
use Rattle.laws_runs.proofs.Changes.{change-here}
use Rattle.laws_runs.proofs.StackPlaces.{top-is}
use Rattle.laws_runs.proofs.GoalParts.{Parts}
use Rattle.laws_runs.proofs.KeptMoves.{left-parts}
use Rattle.laws_runs.specs.Once.{guards_below, IsOnTop, UnwindsAll}
use Rattle.laws_runs.specs.Tops.{topped_by}

module _ (c : Config) (q : ℕ) (i : Instance) (at : instance_at c q ≡ Some i) (k : Goal) where
  abbrev unwound_in : Config
  unwound_in = with_residual c q (goal (unw i.residual) k)

  there : instance_at unwound_in q ≡ Some (record i { residual = goal (unw i.residual) k })
  there = change-here c.processes.instances q (λ j. record j { residual = goal (unw i.residual) k }) i at

  record Placed (d : Config) : Type 0 where
    then : Instance
    is : instance_at d q ≡ Some then
    unwound : then.residual ≡ goal (unw i.residual) k
    marks : d.trace.marks ≡ c.trace.marks
    top : IsOnTop q d
    stack : d.processes.stack ≡ topped_by q c

  placed_if : (b : Bool) → is_top c q ≡ b → Placed (cond b unwound_in (pushed unwound_in q))
  placed_if true is = record { then = record i { residual = goal (unw i.residual) k }; is = there; unwound = refl; marks = refl; top = top-is c q is; stack = ap (λ b. cond b c.processes.stack (q ∷ c.processes.stack)) (sym is) }
  placed_if false is = record {
    then = record (freed (record i { residual = goal (unw i.residual) k })) { kept = false; trigger = None };
    is = change-here (change c.processes.instances q (λ j. record j { residual = goal (unw i.residual) k })) q (λ j. record (freed j) { kept = false; trigger = None }) (record i { residual = goal (unw i.residual) k }) there;
    unwound = refl;
    marks = refl;
    top = (c.processes.stack, refl);
    stack = ap (λ b. cond b c.processes.stack (q ∷ c.processes.stack)) (sym is);
  }

  left_in_place : (d : Config) → Placed d → UnwindsAll c (with_left d (left_by_unw i.residual)) q i k
  left_in_place d p =
      let same = left-parts (left_by_unw i.residual) d in
      record {
        then = p.then;
        is = ap (λ (x : Parts). slice_get x.instances q) same ∙ p.is;
        unwound = p.unwound;
        guards = ap guards_below p.unwound ∙ guards-unwound i.residual;
        marks = ap (λ (x : Parts). x.marks) same ∙ p.marks;
        top = (p.top.0, ap (λ (x : Parts). x.stack) same ∙ p.top.1);
        stack = ap (λ (x : Parts). x.stack) same ∙ p.stack;
      }

  unwinds_all : UnwindsAll c (unwinds c q i k) q i k
  unwinds_all = left_in_place (pushed_unless_top unwound_in q) (placed_if (is_top c q) refl)

  module _ (below : is_below_top c q ≡ false) (none : has_goal i.residual ≡ false) where
    and_false : (a : Bool) → (a && false) ≡ false
    and_false true = refl
    and_false false = refl

    ends_is : ends_or_restarts c q i k ≡ Ok (unwinds c q i k)
    ends_is =
        ap (λ b. cond b (Err (fault.ControlOnActive q)) (cond (is_top c q && has_goal i.residual) (Ok c) (Ok (unwinds c q i k)))) below
        ∙ ap (λ b. cond {A = Result Config RunFault} b (Ok c) (Ok (unwinds c q i k))) (ap (λ b. is_top c q && b) none ∙ and_false (is_top c q))

call_is : (c : Config) (q : ℕ) (i : Instance) (x : Control) → instance_at c q ≡ Some i → i.ended ≡ false → control_call c q x ≡ controlled_by c q i x
call_is c q i x at lives = ap (λ o. unless_ended c o (λ j. controlled_by c q j x)) at ∙ ap (λ b. cond b (Ok c) (controlled_by c q i x)) lives

pub kill-unwinds : (c : Config) (q : ℕ) (i : Instance) → instance_at c q ≡ Some i → i.ended ≡ false → is_below_top c q ≡ false → has_goal i.residual ≡ false → (d : Config) × (control_call c q control.Kill ≡ Ok d) × UnwindsAll c d q i goal_of.End
kill-unwinds c q i at lives below none = (unwinds c q i goal_of.End, call_is c q i control.Kill at lives ∙ ends_is c q i at goal_of.End below none, unwinds_all c q i at goal_of.End)

pub reset-unwinds : (c : Config) (q : ℕ) (i : Instance) → instance_at c q ≡ Some i → i.ended ≡ false → is_below_top c q ≡ false → has_goal i.residual ≡ false → (d : Config) × (control_call c q control.Reset ≡ Ok d) × UnwindsAll c d q i goal_of.Restart
reset-unwinds c q i at lives below none = (unwinds c q i goal_of.Restart, call_is c q i control.Reset at lives ∙ ends_is c q i at goal_of.Restart below none, unwinds_all c q i at goal_of.Restart)
