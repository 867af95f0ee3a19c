-- The taking of an instance, and what is told of it.
use Rattle.std.proofs.Common.{◌≡◌, ◌++◌, ◌∷◌, [], ℕ, Bool, true, false, Some, None, refl, sym, ap, ◌∙◌, subst}
use Rattle.std.specs.Prelude.{option_map, if◌then◌else◌}
use Rattle.kernel_phases.proofs.KernelProcesses.Wakes.{change-here}
use Rattle.kernel_phases.specs.SimModel.Residual.{begun}
use Rattle.kernel_phases.specs.SimModel.Configuration.{Config, Instance, turn, instance_at, change_instance, with_runnable, with_stack, with_told, arena}
use Rattle.kernel_phases.specs.SimModel.Waits.{holds, without}
use Rattle.kernel_phases.specs.SimModel.Control.{begins}
use Rattle.kernel_phases.specs.SimModel.Steps.{turn_line, instance_taken, taken_if, taking}
use Rattle.kernel_runs.specs.Made.{TellsTurn}

-- an instance is there, with this path, at the same time, with the same rest of the script
record Rests (c d : Config) (p : ℕ) (i : Instance) : Type 0 where
  now : d.cycle.now ≡ c.cycle.now
  script : d.script ≡ c.script
  told : d.trace.told ≡ c.trace.told
  later : Instance
  there : instance_at d p ≡ Some later
  path : later.path ≡ i.path
  ended : later.ended ≡ i.ended

changed : (c : Config) (p : ℕ) (i : Instance) (f : Instance → Instance) → instance_at c p ≡ Some i → instance_at (change_instance c p f) p ≡ Some (f i)
changed c p i f there = change-here c.processes.instances p f ∙ ap (option_map f) there

begun_rests : (b : Bool) (c : Config) (p : ℕ) (i : Instance) → instance_at c p ≡ Some i → Rests c (if b then c else begins (change_instance c p (λ j. record j { trigger = None })) p i) p i
begun_rests true c p i there = record { now = refl; script = refl; told = refl; later = i; there = there; path = refl; ended = refl }
begun_rests false c p i there =
    let d = change_instance c p (λ j. record j { trigger = None }) in
    record {
      now = refl;
      script = refl;
      told = refl;
      later = record (record i { trigger = None }) { residual = begun (arena d) i.code i.arguments; started = true };
      there = changed d p (record i { trigger = None }) (λ j. record j { residual = begun (arena d) i.code i.arguments; started = true }) (changed c p i (λ j. record j { trigger = None }) there);
      path = refl;
      ended = refl;
    }

taken_there : (c : Config) (p : ℕ) (i : Instance) → i.ended ≡ false → instance_at c p ≡ Some i → ((instance_taken c p (Some i)).script ≡ c.script) × TellsTurn c (instance_taken c p (Some i)) p
taken_there c p i alive there =
    let t = turn (turn_line c.cycle.now i.path p) in
    let d = with_told (with_stack (with_runnable c (without c.processes.runnable p)) (p ∷ [])) t in
    let r = begun_rests i.started d p i there in (
      r.script,
      record {
        taken = r.later;
        there = r.there;
        lives = r.ended ∙ alive;
        told = r.told
            ∙ ap (λ now. c.trace.told ++ turn (turn_line now i.path p) ∷ []) (sym r.now)
            ∙ ap (λ path. c.trace.told ++ turn (turn_line (instance_taken c p (Some i)).cycle.now path p) ∷ []) (sym r.path);
      },
    )

same_there : (d e : Config) → Some d ≡ Some e → d ≡ e
same_there d e is = cc

-- a taking of an instance that is there and has not ended
pub taking_tells : (c d : Config) (p : ℕ) (i : Instance) → instance_at c p ≡ Some i → i.ended ≡ false → taking c p ≡ Some d → (d.script ≡ c.script) × TellsTurn c d p
taking_tells c d p i there alive is = by (holds c.processes.runnable p) is
  where
    by : (b : Bool) → taken_if c p b ≡ Some d → (d.script ≡ c.script) × TellsTurn c d p
    by true e = subst (λ x. (x.script ≡ c.script) × TellsTurn c x p) (ap (instance_taken c p) (sym there) ∙ same_there _ _ e) (taken_there c p i alive there)
    by false e = cc
