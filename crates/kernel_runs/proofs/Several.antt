-- Several steps, one after another.
use Rattle.std.proofs.Common.{◌≡◌, ◌+◌, ℕ, suc, Bool, true, false, List, Option, subst, arith}
use Rattle.kernel_phases.specs.SimModel.Steps.{step}
use Rattle.kernel_phases.specs.SimModel.declared.plain.Command.{Command}
use Rattle.kernel_phases.specs.KernelState.declared.kernel.Kernel.{Kernel}
use Rattle.kernel_runs.specs.Made.{StepsOn, Asks, Quietly, Stepped}
use Rattle.kernel_runs.specs.declared.answers.Telling.TheVariants as telling
use Rattle.kernel_runs.specs.declared.answers.Made.{Made}
use Rattle.kernel_runs.specs.declared.answers.Made.TheVariants as made

module _ {C : Type 0} (picks : C → List ℕ → Option ℕ) (later : C → List ℕ → C) where
  -- while it goes on all steps were quiet, and behind that the last one is this
  abbrev pub SoFar : Bool → Kernel → Kernel → List Command → List Command → C → C → ℕ → Made → Type 0
  SoFar true old new before after held next many result = Quietly picks later old before held many new after next
  SoFar false old new before after held next many result = Stepped picks later old new before after held next many result

  module _ (old k k' : Kernel) (script before after : List Command) (held h h' : C) (many : ℕ) (result : Made) (q : Quietly picks later old script held many k before h)
      (steps : StepsOn k k' before after result step) (asks : Asks picks later k h h' result step) where
    pub one_more : result ≡ made.Went telling.Nothing → Quietly picks later old script held (many + 1) k' after h'
    one_more is =
        let next : suc many ≡ many + 1 = omega arith in
        subst (λ n. Quietly picks later old script held n k' after h') next
        (k, before, h, q, subst (λ r. StepsOn k k' before after r step) is steps, subst (λ r. Asks picks later k h h' r step) is asks)

    pub last_one : Stepped picks later old k' script after held h' many result
    last_one = record { there = k; left = before; chooser = h; quietly = q; last = steps; asks = asks }
