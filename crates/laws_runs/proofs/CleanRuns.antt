-- What each step and each taking keeps is kept over a whole run; so every run from the start keeps processes clean.
use Rattle.std.proofs.Common.{◌≡◌, ℕ, zero, suc, true, List, [], ◌∷◌, slice_get, Option, Some, None, refl, sym, ap, ◌∙◌, subst, arith, true≢false}
use Rattle.std.proofs.lemmas.Option.{none-some, same_Some}
use Rattle.sim_model.specs.FlatDesign.declared.design.Design.{Design}
use Rattle.sim_model.specs.Residual.{skip}
use Rattle.sim_model.specs.Configuration.{Config, Instance, start}
use Rattle.sim_model.specs.Steps.{Outcome, went, faulted, takes, ended, step, taking}
use Rattle.sim_model.specs.Runs.{took, and_then, after}
use Rattle.sim_model.specs.Clean.{places, IsLive, IsFree, CleanProcesses}
use Rattle.sim_model.specs.declared.plain.Command.{Command}
use Rattle.laws_runs.proofs.Times.{times-holds}
use Rattle.laws_runs.proofs.InstancesFit.{nowhere-if, clean-from_fits}
use Rattle.laws_runs.proofs.RunStart.{first-fits}
use Rattle.laws_runs.proofs.Parents.{HaveParents, step-parents, taking-parents, first-parents}
use Rattle.laws_runs.proofs.StepsFit.{Good, IfWent, step-good, taking-good, taken-runnable}

-- ---- the induction, for any P that each step and each taking keeps

module _ (P : Config → Type 0) (steps : (c : Config) → P c → IfWent (step c) P) (takings : (c : Config) (p : ℕ) (d : Config) → P c → taking c p ≡ Some d → P d) where
  holds_taken : (c last : Config) (p : ℕ) (t : Option Config) (on : Config → Option Config) → taking c p ≡ t → P c → ((d : Config) → P d → on d ≡ Some last → P last) → took t on ≡ Some last → P last
  holds_taken c last p None on e h later reached = absurd (none-some last reached)
  holds_taken c last p (Some d) on e h later reached = later d (takings c p d h e) reached

  holds_on : (c last : Config) (choices : List ℕ) (o : Outcome) (on : List ℕ → Config → Option Config) → P c → IfWent o P → ((left : List ℕ) (d : Config) → P d → on left d ≡ Some last → P last) → and_then o c choices on ≡ Some last → P last
  holds_on c last choices (went d) on h kept later reached = later choices d kept reached
  holds_on c last choices (faulted f) on h kept later reached = absurd (none-some last reached)
  holds_on c last [] takes on h kept later reached = absurd (none-some last reached)
  holds_on c last (p ∷ choices) takes on h kept later reached = holds_taken c last p (taking c p) (on choices) refl h (later choices) reached
  holds_on c last choices ended on h kept later reached = absurd (none-some last reached)

  pub holds-after : (n : ℕ) (choices : List ℕ) (first last : Config) → P first → after n choices first ≡ Some last → P last
  holds-after zero [] first last h reached = subst P (same_Some first last reached) h
  holds-after zero (p ∷ choices) first last h reached = absurd (none-some last reached)
  holds-after (suc n) choices first last h reached = holds_on first last choices (step first) (after n) h (steps first h) (λ left d. holds-after n left d last) reached

pub good-after : (d : Design) (script : List Command) (n : ℕ) (choices : List ℕ) (last : Config) → after n choices (start d script) ≡ Some last → Good last
good-after d script n choices last reached = holds-after Good step-good taking-good n choices (start d script) last (first-fits d, λ e. refl) reached

pub clean-after : (d : Design) (script : List Command) (n : ℕ) (choices : List ℕ) (last : Config) → after n choices (start d script) ≡ Some last → CleanProcesses last.processes
clean-after d script n choices last reached = let h = holds-after (λ (c : Config). HaveParents c.processes) step-parents taking-parents n choices (start d script) last (first-parents d script) reached in clean-from_fits last.processes (good-after d script n choices last reached).0 h.0 h.1

-- what is taken was made and has not ended
pub live-taken : (d : Design) (script : List Command) (n : ℕ) (choices : List ℕ) (last : Config) → after n choices (start d script) ≡ Some last → (p : ℕ) (next : Config) → taking last p ≡ Some next → IsLive last.processes p
live-taken d script n choices last reached p next to =
    let n = times-holds p last.processes.runnable (taken-runnable last next p to) in
    (clean-after d script _ choices last reached).live p (omega (arith, n))

-- what has ended is nowhere
module _ (d : Design) (script : List Command) (n : ℕ) (choices : List ℕ) (last : Config) (reached : after n choices (start d script) ≡ Some last) (p : ℕ) (i : Instance) (at : slice_get last.processes.instances p ≡ Some i) (over : i.ended ≡ true) where
  pub ended-nowhere : places last.processes p ≡ 0
  ended-nowhere =
      nowhere-if (places last.processes p)
      (λ stands. let live = (clean-after d script n choices last reached).live p stands in
      true≢false (sym over ∙ ap (λ (j : Instance). j.ended) (same_Some i live.instance (sym at ∙ live.made)) ∙ live.lives))

  pub ended-free : IsFree i
  ended-free = (clean-after d script n choices last reached).over p i at over

  pub ended-left : i.residual ≡ skip
  ended-left = (clean-after d script n choices last reached).nothing_left p i at over
