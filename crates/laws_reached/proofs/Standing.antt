-- The instances of a kernel beside those of the configuration that it stands for.
use Rattle.std.proofs.Common.{◌≡◌, ◌+◌, ℕ, Bool, true, false, List, [], ◌∷◌, reverse, Option, Some, None, refl, sym, ap, ◌∙◌, subst, arith, true≢false}
use Rattle.std.specs.Prelude.{is_some, unwrap_or}
use Rattle.std.proofs.lemmas.List.{reverse-append, reverse-reverse}
use Rattle.laws_runs.specs.SimModel.Configuration.{Config, Instance, instance_at}
use Rattle.laws_runs.specs.SimModel.Waits.{holds}
use Rattle.laws_runs.specs.SimModel.Clean.{times, CleanProcesses}
use Rattle.laws_runs.proofs.Times.{times-here, times-lacks}
use Rattle.kernel_phases.specs.KernelProcesses.InstanceViews.{shown_at, is_on}
use Rattle.kernel_phases.specs.KernelProcesses.InstanceViews.{body_at as kept_at}
use Rattle.kernel_phases.specs.KernelState.Processes.{beside, IsLive, TellsBy, Tells}
use Rattle.kernel_phases.specs.KernelState.Kernel.{Shows, StandsFor, whole_design}
use Rattle.kernel_phases.specs.KernelState.Moves.{IsOnTop, Lives}
use Rattle.kernel_phases.specs.KernelState.declared.kernel.Kept.{Kept}
use Rattle.kernel_phases.specs.KernelState.declared.kernel.Kernel.{Kernel}
use Rattle.kernel_phases.proofs.KernelState.Frames.{lives_by_kept, shown_where_lives}
use Rattle.kernel_phases.proofs.KernelState.ProcessFrames.{on_reversed}

-- what is kept for p is of this instance, which has not ended
pub record IsKeptFor (k : Kernel) (c : Config) (p : ℕ) (kept : Kept) : Type 0 where
  pub instance : Instance
  pub there : instance_at c p ≡ Some instance
  pub lives : instance.ended ≡ false
  pub shows : Shows (whole_design k) k.program.now kept (beside instance)

module _ (k : Kernel) (c : Config) (h : StandsFor k c) where
  -- ---- who lives

  module _ (p : ℕ) (kept : Kept) (at : kept_at k.schedule p ≡ Some kept) where
    shown_there : is_some (shown_at k.schedule p) ≡ true
    shown_there = shown_where_lives k p (lives_by_kept k.schedule p kept at)

    by_end : (i : Instance) (e : Bool) → i.ended ≡ e → instance_at c p ≡ Some i → TellsBy (Shows (whole_design k) k.program.now) e (shown_at k.schedule p) (kept_at k.schedule p) i → IsKeptFor k c p kept
    by_end i true over there tells = absurd (true≢false (sym shown_there ∙ ap is_some tells.0))
    by_end i false lives there tells = record {
      instance = i;
      there = there;
      lives = lives;
      shows = subst (λ b. Shows (whole_design k) k.program.now b (beside i)) (ap (λ o. unwrap_or o kept) (sym tells.kept.1.0 ∙ at)) tells.kept.1.1;
    }

    by_there : (o : Option Instance) → instance_at c p ≡ o → Tells (Shows (whole_design k) k.program.now) (shown_at k.schedule p) (kept_at k.schedule p) o → IsKeptFor k c p kept
    by_there None none tells = absurd (true≢false (sym shown_there ∙ ap is_some tells))
    by_there (Some i) there tells = by_end i i.ended refl there tells

    pub kept-for : IsKeptFor k c p kept
    kept-for = by_there (instance_at c p) refl (h.processes.each p)

  module _ (p : ℕ) (i : Instance) (there : instance_at c p ≡ Some i) (lives : i.ended ≡ false) where
    pub told-live : IsLive (Shows (whole_design k) k.program.now) (shown_at k.schedule p) (kept_at k.schedule p) i
    told-live =
        subst (λ e. TellsBy (Shows (whole_design k) k.program.now) e (shown_at k.schedule p) (kept_at k.schedule p) i) lives
        (subst (Tells (Shows (whole_design k) k.program.now) (shown_at k.schedule p) (kept_at k.schedule p)) there (h.processes.each p))

    pub lives-there : Lives k p
    lives-there = lives_by_kept k.schedule p told-live.kept.0 told-live.kept.1.0

  -- ---- who is active

  pub stack-back : k.schedule.stack.items ≡ reverse c.processes.stack
  stack-back = sym (reverse-reverse k.schedule.stack.items) ∙ ap reverse (sym h.processes.stack)

  pub top-is-top : (p : ℕ) (rest : List ℕ) → c.processes.stack ≡ p ∷ rest → IsOnTop k p
  top-is-top p rest top = (reverse rest, stack-back ∙ ap reverse top ∙ reverse-append (p ∷ []) rest)

  pub empty-is-empty : c.processes.stack ≡ [] → k.schedule.stack.items ≡ []
  empty-is-empty none = stack-back ∙ ap reverse none

  pub empty-was-empty : k.schedule.stack.items ≡ [] → c.processes.stack ≡ []
  empty-was-empty none = h.processes.stack ∙ ap reverse none

  pub active-is : (q : ℕ) → is_on k.schedule.stack.items q ≡ holds c.processes.stack q
  active-is q = sym (on_reversed k.schedule.stack.items q) ∙ sym (ap (λ xs. holds xs q) h.processes.stack)

  pub off-stack : (q : ℕ) → is_on k.schedule.stack.items q ≡ false → times q c.processes.stack ≡ 0
  off-stack q off = times-lacks q c.processes.stack (sym (active-is q) ∙ off)

-- ---- the one on top of a clean configuration lives

pub lives-on-top : (k : Kernel) (c : Config) → StandsFor k c → CleanProcesses c.processes → (p : ℕ) (rest : List ℕ) → c.processes.stack ≡ p ∷ rest → Lives k p
lives-on-top k c h clean p rest top =
    let here : times p c.processes.stack ≡ 1 + times p rest = ap (times p) top ∙ times-here p rest in
    let live = clean.live p (omega (arith, here)) in
    lives-there k c h p live.instance live.made live.lives

pub kept-on-top : (k : Kernel) (c : Config) → StandsFor k c → CleanProcesses c.processes → (p : ℕ) → IsOnTop k p → (kept : Kept) × (kept_at k.schedule p ≡ Some kept)
kept-on-top k c h clean p top =
    let on : c.processes.stack ≡ p ∷ reverse top.0 = h.processes.stack ∙ ap reverse top.1 ∙ reverse-append top.0 (p ∷ []) in
    let here : times p c.processes.stack ≡ 1 + times p (reverse top.0) = ap (times p) on ∙ times-here p (reverse top.0) in
    let live = clean.live p (omega (arith, here)) in
    let told = told-live k c h p live.instance live.made live.lives in
    (told.kept.0, told.kept.1.0)
