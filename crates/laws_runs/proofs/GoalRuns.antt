-- Every run of a sound design keeps goals on the stack, and below them unwind blocks alone.
use Rattle.std.proofs.Common.{◌≡◌, ℕ, zero, suc, List, [], ◌∷◌, Option, Some, None, refl, subst}
use Rattle.std.proofs.lemmas.Option.{none-some, same_Some}
use Rattle.sim_model.specs.FlatDesign.Sound.{SoundDesign}
use Rattle.sim_model.specs.FlatDesign.declared.design.Design.{Design}
use Rattle.sim_model.specs.Residual.{Residual, skip, one, batch, seq, owing, guard, try_, frame, shell, run, goal}
use Rattle.sim_model.specs.Reading.{home_of_via}
use Rattle.sim_model.specs.Configuration.{Config, arena, start}
use Rattle.sim_model.specs.Steps.{Outcome, went, faulted, takes, ended, step, taking}
use Rattle.sim_model.specs.Runs.{took, and_then, after}
use Rattle.sim_model.specs.declared.plain.Command.{Command}
use Rattle.laws_runs.specs.Shapes.{IsNormal, IsUnwound, IsShaped}
use Rattle.laws_runs.proofs.ShapeLemmas.{shaped-goals, shaped-one}
use Rattle.laws_runs.specs.Standing.{OfUnwindBlock, IsOrdinary, IsUnwinding, IsStanding}
use Rattle.laws_runs.proofs.Places.{standing-below}
use Rattle.laws_runs.specs.Goals.{CleanGoals}
use Rattle.laws_runs.proofs.Fine.{fine-at}
use Rattle.laws_runs.proofs.GoalMoves.{Sound}
use Rattle.laws_runs.proofs.GoalSteps.{IfWent, step-sound, taking-sound, start-sound, takes-empty}

-- ---- what stands has its shape

ordinary_normal : (P : ℕ → ℕ → Type 0) (d : Design) (home : ℕ) (r : Residual) → IsOrdinary P d home r → IsNormal r
ordinary_normal P d home skip h = tt
ordinary_normal P d home (one s) h = tt
ordinary_normal P d home (batch s qs) h = tt
ordinary_normal P d home (seq r ss) h = ordinary_normal P d home r h.0
ordinary_normal P d home (owing r g u) h = h
ordinary_normal P d home (guard r g u) h = ordinary_normal P d home r h.0
ordinary_normal P d home (try_ r handlers) h = ordinary_normal P d home r h.0
ordinary_normal P d home (frame r x) h = ordinary_normal P d (home_of_via d home x.via) r h.1
ordinary_normal P d home (shell r x) h = h
ordinary_normal P d home (run g r) h = h
ordinary_normal P d home (goal r k) h = h

unwinding_unwound : (d : Design) (home : ℕ) (r : Residual) → IsUnwinding d home r → IsUnwound r
unwinding_unwound d home skip h = tt
unwinding_unwound d home (one s) h = h
unwinding_unwound d home (batch s qs) h = h
unwinding_unwound d home (seq r ss) h = h
unwinding_unwound d home (owing r g u) h = unwinding_unwound d home r h.0
unwinding_unwound d home (guard r g u) h = h
unwinding_unwound d home (try_ r handlers) h = h
unwinding_unwound d home (frame r x) h = h
unwinding_unwound d home (shell r x) h = unwinding_unwound d (home_of_via d home x.via) r h.1
unwinding_unwound d home (run g r) h = ordinary_normal (OfUnwindBlock d) d home r h
unwinding_unwound d home (goal r k) h = h

standing_shaped : (d : Design) (home : ℕ) (r : Residual) → IsStanding d home r → IsShaped r
standing_shaped d home skip h = tt
standing_shaped d home (one s) h = tt
standing_shaped d home (batch s qs) h = tt
standing_shaped d home (seq r ss) h = standing_shaped d home r h.0
standing_shaped d home (owing r g u) h = h
standing_shaped d home (guard r g u) h = standing_shaped d home r h.0
standing_shaped d home (try_ r handlers) h = standing_shaped d home r h.0
standing_shaped d home (frame r x) h = standing_shaped d (home_of_via d home x.via) r h.1
standing_shaped d home (shell r x) h = h
standing_shaped d home (run g r) h = h
standing_shaped d home (goal r k) h = unwinding_unwound d home r h

-- ---- the induction, for any P that each step and each taking keeps

module _ (P : Config → Type 0) (steps : (c : Config) → P c → IfWent (step c) P) (takings : (c : Config) (p : ℕ) (d : Config) → step c ≡ takes → P c → taking c p ≡ Some d → P d) where
  holds_taken : (c last : Config) (p : ℕ) (t : Option Config) (on : Config → Option Config) → step c ≡ takes → taking c p ≡ t → P c → ((d : Config) → P d → on d ≡ Some last → P last) → took t on ≡ Some last → P last
  holds_taken c last p None on now e h later reached = absurd (none-some last reached)
  holds_taken c last p (Some d) on now e h later reached = later d (takings c p d now h e) reached

  holds_on : (c last : Config) (choices : List ℕ) (o : Outcome) (on : List ℕ → Config → Option Config) → step c ≡ o → P c → IfWent o P → ((left : List ℕ) (d : Config) → P d → on left d ≡ Some last → P last) → and_then o c choices on ≡ Some last → P last
  holds_on c last choices (went d) on now h kept later reached = later choices d kept reached
  holds_on c last choices (faulted f) on now h kept later reached = absurd (none-some last reached)
  holds_on c last [] takes on now h kept later reached = absurd (none-some last reached)
  holds_on c last (p ∷ choices) takes on now h kept later reached = holds_taken c last p (taking c p) (on choices) now refl h (later choices) reached
  holds_on c last choices ended on now h kept later reached = absurd (none-some last reached)

  pub holds-after : (n : ℕ) (choices : List ℕ) (first last : Config) → P first → after n choices first ≡ Some last → P last
  holds-after zero [] first last h reached = subst P (same_Some first last reached) h
  holds-after zero (p ∷ choices) first last h reached = absurd (none-some last reached)
  holds-after (suc n) choices first last h reached = holds_on first last choices (step first) (after n) refl h (steps first h) (λ left d. holds-after n left d last) reached

sound_after : (d : Design) (script : List Command) → SoundDesign d → (n : ℕ) (choices : List ℕ) (last : Config) → after n choices (start d script) ≡ Some last → Sound last
sound_after d script sound n choices last reached =
    holds-after Sound (step-sound) (λ c p e now h to. taking-sound c p e (takes-empty c now) h to) n choices (start d script) last (start-sound d script sound) reached

pub goals-after : (d : Design) (script : List Command) → SoundDesign d → (n : ℕ) (choices : List ℕ) (last : Config) → after n choices (start d script) ≡ Some last → CleanGoals (arena last) last.processes
goals-after d script sound n choices last reached =
    let s = sound_after d script sound n choices last reached in
    record {
      one_goal = λ p i at. let f = fine-at last.design last.processes p i at s.1 in shaped-goals i.residual (standing_shaped last.design i.home i.residual f.standing);
      goal_is_active = λ p i at g. (fine-at last.design last.processes p i at s.1).active g;
      below_goal = λ p i at. let f = fine-at last.design last.processes p i at s.1 in standing-below last.design i.home i.residual f.standing;
      one_block = λ p i at. let f = fine-at last.design last.processes p i at s.1 in shaped-one i.residual (standing_shaped last.design i.home i.residual f.standing);
    }
