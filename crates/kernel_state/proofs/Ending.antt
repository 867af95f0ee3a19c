-- A kill and a reset, by where their target stands.
use Rattle.std.proofs.Common.{◌≡◌, ◌&&◌, ℕ, Bool, true, false, List, slice_get, Option, Some, None, option_map, refl, sym, ap, ◌∙◌, subst, true≢false, ⊎_elim}
use Rattle.std.specs.Prelude.{is_some, if◌then◌else◌, Result, Ok, Err}
use Rattle.std.proofs.lemmas.Bool.{cases_eq}
use Rattle.std.specs.FinMap as map
use Rattle.kernel_processes.specs.FlatDesign.declared.faults.RunFault.{RunFault}
use Rattle.kernel_processes.specs.FlatDesign.declared.faults.RunFault.TheVariants as fault
use Rattle.kernel_processes.specs.SimModel.Residual.{has_goal, goal}
use Rattle.kernel_processes.specs.SimModel.Unwinding.{unw, left_by_unw}
use Rattle.kernel_processes.specs.SimModel.Configuration.{Config, Instance, change, instance_at, with_residual}
use Rattle.kernel_processes.specs.SimModel.Calls.{with_left}
use Rattle.kernel_processes.specs.SimModel.Control.{is_top, is_below_top, pushed, pushed_unless_top, unwinds, ends_or_restarts, unless_ended}
use Rattle.kernel_processes.specs.SimModel.declared.plain.Goal.{Goal}
use Rattle.kernel_processes.proofs.Wakes.{change-here, change-other}
use Rattle.kernel_processes.specs.InstanceViews.{shown_at}
use Rattle.kernel_processes.specs.InstanceViews.{body_at as kept_at}
use Rattle.kernel_state.specs.Processes.{TellsBy, Tells}
use Rattle.kernel_state.specs.Kernel.{Shows, StandsFor, whole_design}
use Rattle.kernel_state.specs.Moves.{Follows, Lives}
use Rattle.kernel_state.specs.declared.kernel.Kernel.{Kernel}
use Rattle.kernel_state.proofs.ProcessFrames.{lives_that_shows}
use Rattle.kernel_state.proofs.Frames.{lives_by_kept, shown_where_lives}
use Rattle.kernel_state.proofs.Leaving.{LeftCallsEnd}

-- ---- whether it has ended

module _ (k : Kernel) (c : Config) (h : StandsFor k c) (q : ℕ) where
  pub alive_in : Lives k q → (i : Instance) × ((instance_at c q ≡ Some i) × (i.ended ≡ false))
  alive_in lives = by (instance_at c q) refl (h.processes.each q)
    where
      by : (o : Option Instance) → instance_at c q ≡ o → Tells (Shows (whole_design k) k.program.now) (shown_at k.schedule q) (kept_at k.schedule q) o → (i : Instance) × ((instance_at c q ≡ Some i) × (i.ended ≡ false))
      by None at none = absurd (true≢false (sym (shown_where_lives k q lives) ∙ ap is_some none))
      by (Some i) at tells = (i, (at, lives_that_shows (Shows (whole_design k) k.program.now) (shown_at k.schedule q) (kept_at k.schedule q) (Some i) (shown_where_lives k q lives) tells i refl))

  pub over_in : map.contains_key k.schedule.table.live q ≡ false → (f : Instance → Result Config RunFault) → unless_ended c (instance_at c q) f ≡ Ok c
  over_in none f = by (instance_at c q) refl (h.processes.each q)
    where
      by_end : (i : Instance) (e : Bool) → i.ended ≡ e → TellsBy (Shows (whole_design k) k.program.now) e (shown_at k.schedule q) (kept_at k.schedule q) i → (if i.ended then Ok c else f i) ≡ Ok c
      by_end i true is tells = ap (λ b. if b then Ok c else f i) is
      by_end i false is tells = absurd (true≢false (sym (lives_by_kept k.schedule q tells.kept.0 tells.kept.1.0) ∙ none))

      by : (o : Option Instance) → instance_at c q ≡ o → Tells (Shows (whole_design k) k.program.now) (shown_at k.schedule q) (kept_at k.schedule q) o → unless_ended c (instance_at c q) f ≡ Ok c
      by None at tells = ap (λ o. unless_ended c o f) at
      by (Some i) at tells = ap (λ o. unless_ended c o f) at ∙ by_end i i.ended refl tells

-- what has not ended has not ended where another residual is put somewhere
pub still_alive : (is : List Instance) (p q : ℕ) (f : Instance → Instance) → ((i : Instance) → (f i).ended ≡ i.ended) → (i : Instance) → slice_get is q ≡ Some i → i.ended ≡ false
    → (j : Instance) × ((slice_get (change is p f) q ≡ Some j) × (j.ended ≡ false))
still_alive is p q f keeps i at alive = ⊎_elim
    (λ same. (f i, (ap (slice_get (change is p f)) same ∙ change-here is p f ∙ ap (option_map f) (ap (slice_get is) (sym same) ∙ at), keeps i ∙ alive)))
    (λ apart. (i, (change-other is p q f apart ∙ at, alive)))
    (cases_eq q p)

-- ---- what becomes of it

module _ (c : Config) (q : ℕ) (end : Goal) (i : Instance) (at : instance_at c q ≡ Some i) (alive : i.ended ≡ false) where
  goes : unless_ended c (instance_at c q) (λ j. ends_or_restarts c q j end) ≡ ends_or_restarts c q i end
  goes = ap (λ o. unless_ended c o (λ j. ends_or_restarts c q j end)) at ∙ ap (λ b. if b then Ok c else ends_or_restarts c q i end) alive

  pub is_refused : is_below_top c q ≡ true → unless_ended c (instance_at c q) (λ j. ends_or_restarts c q j end) ≡ Err (fault.ControlOnActive q)
  is_refused below = goes ∙ ap (λ b. if b then Err (fault.ControlOnActive q) else (if is_top c q && has_goal i.residual then Ok c else Ok (unwinds c q i end))) below

  pub is_spared : is_below_top c q ≡ false → (is_top c q && has_goal i.residual) ≡ true → unless_ended c (instance_at c q) (λ j. ends_or_restarts c q j end) ≡ Ok c
  is_spared below spared = goes ∙ ap (λ b. if b then Err (fault.ControlOnActive q) else (if is_top c q && has_goal i.residual then Ok c else Ok (unwinds c q i end))) below
      ∙ ap (λ b. if b then Ok c else Ok (unwinds c q i end)) spared

  pub is_unwound : is_below_top c q ≡ false → (is_top c q && has_goal i.residual) ≡ false → unless_ended c (instance_at c q) (λ j. ends_or_restarts c q j end) ≡ Ok (unwinds c q i end)
  is_unwound below goes_on = goes ∙ ap (λ b. if b then Err (fault.ControlOnActive q) else (if is_top c q && has_goal i.residual then Ok c else Ok (unwinds c q i end))) below
      ∙ ap (λ b. if b then Ok c else Ok (unwinds c q i end)) goes_on

-- on top it stays where it is; else it gets there
module _ (calls : LeftCallsEnd) (c : Config) (q : ℕ) (i : Instance) (end : Goal) where
  pub unwound_on_top : is_top c q ≡ true → with_residual (with_left c (left_by_unw i.residual)) q (goal (unw i.residual) end) ≡ unwinds c q i end
  unwound_on_top top = ap (λ d. with_residual d q (goal (unw i.residual) end)) (calls c (left_by_unw i.residual))
      ∙ sym (calls (with_residual c q (goal (unw i.residual) end)) (left_by_unw i.residual))
      ∙ sym (ap (λ b. with_left (if b then with_residual c q (goal (unw i.residual) end) else pushed (with_residual c q (goal (unw i.residual) end)) q) (left_by_unw i.residual)) top)

  pub unwound_and_pushed : is_top c q ≡ false → pushed (with_residual (with_left c (left_by_unw i.residual)) q (goal (unw i.residual) end)) q ≡ unwinds c q i end
  unwound_and_pushed off = ap (λ d. pushed (with_residual d q (goal (unw i.residual) end)) q) (calls c (left_by_unw i.residual))
      ∙ sym (calls (pushed (with_residual c q (goal (unw i.residual) end)) q) (left_by_unw i.residual))
      ∙ sym (ap (λ b. with_left (if b then with_residual c q (goal (unw i.residual) end) else pushed (with_residual c q (goal (unw i.residual) end)) q) (left_by_unw i.residual)) off)

  pub still_there : instance_at c q ≡ Some i → instance_at (with_left c (left_by_unw i.residual)) q ≡ Some i
  still_there there = ap (λ d. instance_at d q) (calls c (left_by_unw i.residual)) ∙ there

-- ---- answers

-- what goes on does so from wherever it came
pub follows_any : (l : Kernel) (c d : Config) (x : Result Config RunFault) → Follows l (Ok tt) c x → Follows l (Ok tt) d x
follows_any l c d (Ok e) follows = follows
follows_any l c d (Err f) follows = follows

pub follows_as : (l : Kernel) (c : Config) (a : Result Unit RunFault) (x y : Result Config RunFault) → x ≡ y → Follows l a c y → Follows l a c x
follows_as l c a x y same follows = subst (Follows l a c) (sym same) follows
