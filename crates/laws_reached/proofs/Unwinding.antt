-- Who is being unwound, and what comes next there.
use Rattle.std.proofs.Common.{◌≡◌, ℕ, Bool, true, false, Some, refl, sym, ap, ◌∙◌, arith}
use Rattle.flat_design.specs.Code as code
use Rattle.flat_design.specs.Code.{arena_of, statement_at}
use Rattle.flat_design.specs.Sound.{SoundDesign}
use Rattle.flat_design.specs.declared.design.Design.{Design}
use Rattle.laws_runs.specs.SimModel.Residual as residual
use Rattle.laws_runs.specs.SimModel.Residual.{Residual, settle, next_of, has_goal}
use Rattle.laws_runs.specs.SimModel.Configuration.{Config}
use Rattle.kernel_phases.proofs.KernelBodies.Strips.{strip-settle, strip-next, strip-has_goal}
use Rattle.kernel_phases.specs.ProcessBodies.Bodies.{left_in, settled_in}
use Rattle.kernel_phases.specs.KernelProcesses.InstanceViews.{body_at as kept_at}
use Rattle.laws_runs.specs.Standing.{code_of, OfUnwindBlock, IsStanding, place_of}
use Rattle.laws_runs.proofs.BodiesKept.{settle-standing}
use Rattle.laws_runs.proofs.Places.{next-standing}
use Rattle.laws_runs.proofs.Fine.{fine-at}
use Rattle.kernel_phases.specs.KernelState.Kernel.{StandsFor}
use Rattle.kernel_phases.specs.KernelState.declared.kernel.Kept.{Kept}
use Rattle.kernel_phases.specs.KernelState.declared.kernel.Kernel.{Kernel}
use Rattle.exec_control.specs.ExecData.Entered.{Shows}
use Rattle.exec_control.specs.Unwound.{HasNoGoal, ThrowsFreeNext}
use Rattle.exec_control.proofs.Throwing.{settle_goal}
use Rattle.exec_control.specs.Thrown.{OthersHaveNoGoal}
use Rattle.laws_reached.specs.Reached.{IsReached}
use Rattle.laws_reached.proofs.Reaching.{sound-reached, design-sound, goals-reached}
use Rattle.laws_reached.proofs.Standing.{IsKeptFor, kept-for, off-stack}

-- ---- a throw stands in no unwind block, nor is it reached from one

plain_throws : (d : Design) (home n e : ℕ) → SoundDesign d → OfUnwindBlock d home n → statement_at (code_of d) n ≡ Some (code.throw e) → ⊥
plain_throws d home n e sound of there =
    let b = of.is_block in
    (sound.unwinding b.function b.body home b.block of.unwind (code.throw e) b.found b.home_of b.stands (of.reached (code.throw e) there)).1

goal_or_none : (b : Bool) → (b ≡ true → ⊥) → b ≡ false
goal_or_none true not = absurd (not refl)
goal_or_none false not = refl

-- so the instance in whose body it comes next has no goal
throws_goalless : (d : Design) (home : ℕ) (r : Residual) (n e : ℕ) → SoundDesign d → IsStanding d home r → next_of (settle (code_of d) r) ≡ residual.statement n
    → statement_at (code_of d) n ≡ Some (code.throw e) → has_goal r ≡ false
throws_goalless d home r n e sound stands is there =
    let place = next-standing d home (settle (code_of d) r) n (settle-standing d home r stands) is in
    sym (settle_goal (code_of d) r) ∙ goal_or_none (has_goal (settle (code_of d) r)) (λ has. plain_throws d (place_of d home (settle (code_of d) r)) n e sound (place.of_unwind has) there)

module _ (k : Kernel) (c : Config) (h : StandsFor k c) (r : IsReached c) where
  module _ (p : ℕ) (kept : Kept) (at : kept_at k.schedule p ≡ Some kept) where
    here : IsKeptFor k c p kept
    here = kept-for k c h p kept at

    goal_here : has_goal (left_in k.program.now kept.body) ≡ has_goal here.instance.residual
    goal_here = sym (ap has_goal here.shows.residual) ∙ strip-has_goal here.instance.residual

    code_is : arena_of k.program.now.code ≡ code_of c.design
    code_is = sym (ap (λ (d : Design). arena_of d.code) h.design)

    next_here : next_of (settled_in k.program.now kept.body) ≡ next_of (settle (code_of c.design) here.instance.residual)
    next_here =
        ap (λ a. next_of (settle a (left_in k.program.now kept.body))) code_is ∙ sym (ap (λ x. next_of (settle (code_of c.design) x)) here.shows.residual)
        ∙ sym (ap next_of (strip-settle (code_of c.design) here.instance.residual)) ∙ strip-next (settle (code_of c.design) here.instance.residual)

  pub throws-free : (p s e : ℕ) → Shows k p s → statement_at (arena_of k.program.now.code) s ≡ Some (code.throw e) → HasNoGoal k p
  throws-free p s e next there kept at =
      let i = here p kept at in
      goal_here p kept at
      ∙ throws_goalless c.design i.instance.home i.instance.residual s e (design-sound c r) (fine-at c.design c.processes p i.instance i.there (sound-reached c r).1).standing
      (sym (next_here p kept at) ∙ next kept at) (ap (λ a. statement_at a s) (sym (code_is p kept at)) ∙ there)

  pub throws-free-next : (p : ℕ) → ThrowsFreeNext k p
  throws-free-next p s next x there e is = throws-free p s e next (there ∙ ap Some is)

  -- ---- who is not active is not being unwound

  pub others-free : OthersHaveNoGoal k
  others-free q off kept at =
      let i = here q kept at in
      goal_here q kept at ∙ goal_or_none (has_goal i.instance.residual) (λ has.
      let active = (goals-reached c r).goal_is_active q i.instance i.there has in
      let none = off-stack k c h q off in
      absurd (omega (arith, active, none)))
