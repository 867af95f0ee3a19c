-- A turn of the loop of a session: a step that went or a taking, and what was given of it.
use Rattle.std.proofs.Common.{◌≡◌, ◌≤◌, ◌+◌, ℕ, List, [], ◌∷◌, ◌++◌, Ok, Err, sym, subst}
use Rattle.sim_io.specs.declared.outside.Trouble.{Trouble}
use Rattle.vcd_trace.specs.SimModel.Configuration.{Config}
use Rattle.vcd_trace.specs.SimModel.Steps.{step}
use Rattle.vcd_trace.specs.SimModel.Runs.{Chooser}
use Rattle.vcd_trace.specs.SimModel.declared.plain.Command.{Command}
use Rattle.kernel_start.specs.KernelState.Kernel.{StandsFor}
use Rattle.kernel_start.specs.KernelState.declared.kernel.Kernel.{Kernel}
use Rattle.kernel_runs.specs.Made.{StepsOn}
use Rattle.kernel_runs.specs.declared.answers.Telling.{Telling}
use Rattle.kernel_runs.specs.declared.answers.Made.TheVariants as made
use Rattle.kernel_runs.proofs.Ruled.{AsksRule}
use Rattle.vcd_trace.specs.declared.tracing.Tracing.{Tracing}
use Rattle.session.specs.Begun.{GoesOn}
use Rattle.session.specs.Cut.{cut_by}
use Rattle.session.specs.Outputs.{FitsRoom, Outer, Names, Texts, Took}
use Rattle.session.specs.Telling.{TextOf, TextOfTurn, TextFor, PointOf, IsLineOf, Recorded, Nothing}
use Rattle.session.specs.Course.{Ran}
use Rattle.session.specs.declared.plans.Plan.{Plan}
use Rattle.session.proofs.Going.{Going, as_before, went_on, took_one, goes_one_on, cut_in_texts}

module _ (goes_on : GoesOn) (plan : Plan) (first : Config) (held : Chooser) (choices : List ℕ) (steps : ℕ) (k k' : Kernel) (script script' : List Command) (before after : Tracing) (AreNamed : Names → Type 0) (old mid now : Outer) (due left : Texts) (g : Going plan first held choices steps k script before AreNamed old mid due) where
  module _ (t : Telling) (time : ℕ) (at_time : (c : Config) → StandsFor k c → time ≡ c.cycle.now) (moves : StepsOn k k' script script' (made.Went t) step) where
    pub told_on : (next : Chooser) → AsksRule k held next (made.Went t) → Recorded (TextOf k' t) (TextFor plan.vcd (PointOf k' time before after)) Nothing AreNamed mid now due left (Ok tt) → Going plan first next choices (steps + 1) k' script' after AreNamed old now left
    told_on next asks tells =
        subst (λ x. Going plan first x choices (steps + 1) k' script' after AreNamed old now left) (sym (as_before goes_on plan first held choices steps k k' script script' before after AreNamed old mid due g t next moves asks))
        (goes_one_on plan first held held choices choices steps (steps + 1) k k' script script' before after AreNamed old mid now due left (TextOf k' t) (TextFor plan.vcd (PointOf k' time before after)) Nothing g
        (went_on goes_on plan first held choices steps k k' script script' before after AreNamed old mid due g t time at_time moves) tells)

    pub told_cut : (e : Trouble) → steps + 1 ≤ plan.budget → FitsRoom due → Recorded (TextOf k' t) (TextFor plan.vcd (PointOf k' time before after)) Nothing AreNamed mid now due left (Err e) → Ran first plan choices (steps + 1) (cut_by e) (Took AreNamed old now)
    told_cut e within few tells =
        cut_in_texts plan first held held choices choices steps (steps + 1) k k' script script' before after AreNamed old mid now due left (TextOf k' t) (TextFor plan.vcd (PointOf k' time before after)) Nothing g
        (went_on goes_on plan first held choices steps k k' script script' before after AreNamed old mid due g t time at_time moves) e within few tells

  module _ (p : ℕ) (next : Chooser) (later : List ℕ) (one_more : later ≡ choices ++ p ∷ []) (moves : StepsOn k k' script script' (made.Took p) step) (asks : AsksRule k held next (made.Took p)) where
    pub took_on : Recorded (TextOfTurn k' plan.log p) Nothing (TextFor plan.choices (IsLineOf p)) AreNamed mid now due left (Ok tt) → Going plan first next later (steps + 1) k' script' before AreNamed old now left
    took_on tells =
        subst (λ cs. Going plan first next cs (steps + 1) k' script' before AreNamed old now left) (sym one_more)
        (goes_one_on plan first held next choices (choices ++ p ∷ []) steps (steps + 1) k k' script script' before before AreNamed old mid now due left (TextOfTurn k' plan.log p) Nothing (TextFor plan.choices (IsLineOf p)) g
        (took_one goes_on plan first held choices steps k k' script script' before before AreNamed old mid due g p next moves asks) tells)

    pub took_cut : (e : Trouble) → steps + 1 ≤ plan.budget → FitsRoom due → Recorded (TextOfTurn k' plan.log p) Nothing (TextFor plan.choices (IsLineOf p)) AreNamed mid now due left (Err e) → Ran first plan later (steps + 1) (cut_by e) (Took AreNamed old now)
    took_cut e within few tells =
        subst (λ cs. Ran first plan cs (steps + 1) (cut_by e) (Took AreNamed old now)) (sym one_more)
        (cut_in_texts plan first held next choices (choices ++ p ∷ []) steps (steps + 1) k k' script script' before before AreNamed old mid now due left (TextOfTurn k' plan.log p) Nothing (TextFor plan.choices (IsLineOf p)) g
        (took_one goes_on plan first held choices steps k k' script script' before before AreNamed old mid due g p next moves asks) e within few tells)
