-- In every run of a sound design marks are nested.
use Rattle.std.proofs.Common.{◌≡◌, ℕ, List, [], slice_get, Option, Some, None, option_map, refl, sym, ap, ◌∙◌, subst}
use Rattle.std.proofs.lemmas.Option.{none-some, same_Some, slice_get-map}
use Rattle.sim_model.specs.FlatDesign.Sound.{SoundDesign}
use Rattle.sim_model.specs.FlatDesign.declared.design.ProcessPart.{ProcessPart}
use Rattle.sim_model.specs.FlatDesign.declared.design.Design.{Design}
use Rattle.sim_model.specs.Configuration.{Config, Instance, first_instance, start}
use Rattle.sim_model.specs.Runs.{after}
use Rattle.sim_model.specs.declared.plain.Command.{Command}
use Rattle.sim_model.specs.Clean.{open_guards, guards_of, Clean}
use Rattle.laws_runs.proofs.CleanRuns.{clean-after}
use Rattle.laws_runs.proofs.GoalSteps.{start-sound}
use Rattle.laws_runs.proofs.GoalRuns.{goals-after}
use Rattle.laws_runs.proofs.GoalParts.{parts}
use Rattle.laws_runs.proofs.KeptRuns.{kept-after}
use Rattle.laws_runs.specs.Nesting.{after_marks, parts_of, parts_at, numbers_entered, first_numbers}
use Rattle.laws_runs.proofs.Roots.{IsRooted}
use Rattle.laws_runs.proofs.Opened.{outside-parts, open-parts, clean-marks}
use Rattle.laws_runs.proofs.NestingKept.{Marked, marked-kept, marked-settled, marked-between, marked-taken}

first_rooted : (d : Design) (o : Option ProcessPart) (i : Instance) → option_map (first_instance d) o ≡ Some i → IsRooted i.started i.residual
first_rooted d None i at = absurd (none-some i at)
first_rooted d (Some x) i at = subst (λ (j : Instance). IsRooted j.started j.residual) (same_Some (first_instance d x) i at) tt

first_parts : (d : Design) (o : Option ProcessPart) → parts_at (option_map (first_instance d) o) ≡ []
first_parts d None = refl
first_parts d (Some x) = refl

none_numbered : [] ≡ first_numbers 0
unfolding first_numbers
none_numbered = refl

pub start-marked : (d : Design) (script : List Command) → Marked (parts (start d script))
start-marked d script = record {
  rooted = λ p i at. first_rooted d (slice_get d.processes p) i (sym (slice_get-map (first_instance d) d.processes p) ∙ at);
  nested = λ p. ap Some (sym (ap parts_at (slice_get-map (first_instance d) d.processes p) ∙ first_parts d (slice_get d.processes p)));
  numbered = none_numbered;
}

module _ (d : Design) (script : List Command) (sound : SoundDesign d) (n : ℕ) (choices : List ℕ) (last : Config) (reached : after n choices (start d script) ≡ Some last) where
  pub marked-after : Marked (parts last)
  marked-after = kept-after Marked marked-kept marked-settled marked-between marked-taken n choices (start d script) last (start-sound d script sound) (start-marked d script) reached

  pub nested-after : (p : ℕ) → after_marks p last.trace.marks [] ≡ Some (parts_at (slice_get last.processes.instances p))
  nested-after p = marked-after.nested p

  pub numbers-after : numbers_entered last.trace.marks ≡ first_numbers last.trace.next_guard
  numbers-after = marked-after.numbered

  open_after : (p : ℕ) (i : Instance) → slice_get last.processes.instances p ≡ Some i → open_guards p last.trace.marks ≡ guards_of i.residual
  open_after p i at =
      open-parts p last.trace.next_guard last.trace.marks (parts_of i.residual) (nested-after p ∙ ap (λ o. Some (parts_at o)) at) numbers-after ∙ outside-parts i.residual

  pub clean-whole : Clean last
  clean-whole =
      let goals = goals-after d script sound n choices last reached in
      record {
        processes = clean-after d script n choices last reached;
        guards = record {
          one_goal = goals.one_goal;
          goal_is_active = goals.goal_is_active;
          below_goal = goals.below_goal;
          guards = open_after;
          one_block = goals.one_block;
          marks = clean-marks last.trace (λ p. parts_at (slice_get last.processes.instances p)) nested-after numbers-after;
        };
      }
