-- How much was taken of a file that is too large, as each answer hands it on.
use Rattle.std.proofs.Common.{◌≡◌, ⊎_elim, ◌∙◌, ℕ, List, Option, Some, Result, Ok, Err, arith, subst, sym}
use Rattle.std.specs.Prelude.{IfErr}
use Rattle.session.specs.SimIo.Contents.{Files}
use Rattle.command_line.specs.Line.{Mode}
use Rattle.command_line.specs.SimModel.declared.plain.Stop.{Stop}
use Rattle.command_line.specs.SimModel.declared.plain.Stop.TheVariants as stop
use Rattle.command_line.specs.declared.modes.PageKind.{PageKind}
use Rattle.run_input.specs.Loaded.{IfTooLarge, TookOnePast}
use Rattle.run_input.specs.ResultTexts.declared.refusals.Refusal.{Refusal}
use Rattle.run_input.specs.ResultTexts.declared.refusals.Refusal.TheVariants as refusal
use Rattle.run_input.specs.declared.loading.LoadStop.{LoadStop}
use Rattle.run_input.specs.declared.loading.LoadStop.TheVariants as load_stop
use Rattle.run_input.specs.declared.judging.JudgeStop.{JudgeStop}
use Rattle.run_input.specs.declared.judging.JudgeStop.TheVariants as judge_stop
use Rattle.session.specs.declared.plans.Outcome.{Outcome}
use Rattle.tlmsim.specs.Requests.{IsLimitIn, IsLimitOf}
use Rattle.tlmsim.specs.Headline.{stop_status}
use Rattle.tlmsim.specs.Telling.{Tells, refusal_status}
use Rattle.tlmsim.specs.Worked.{HasNoPage, IfLarge, unfit, unread}
use Rattle.tlmsim.specs.declared.working.WorkStop.{WorkStop}
use Rattle.tlmsim.specs.declared.working.WorkStop.TheVariants as work_stop

-- of the reading
pub large_unread : (st : LoadStop) (P : List ℕ → Type 0) → IfTooLarge st P → IfLarge (unread st) P
large_unread (load_stop.Failed file) P h = tt
large_unread (load_stop.TooLarge file) P h = h
large_unread load_stop.NoMemory P h = tt

-- what is judged is not too large
pub small_unfit : (st : JudgeStop) (P : List ℕ → Type 0) → IfLarge (unfit st) P
small_unfit (judge_stop.Model f) P = tt
small_unfit (judge_stop.Script f) P = tt
small_unfit (judge_stop.Replay at) P = tt
small_unfit judge_stop.NoMemory P = tt

pub small_page : (kind : PageKind) (text : List ℕ) (st : WorkStop) (P : List ℕ → Type 0) → HasNoPage kind text st → IfLarge st P
small_page kind text (work_stop.Refused refusal.Usage) P none = tt
small_page kind text (work_stop.Refused (refusal.Read file)) P none = tt
small_page kind text (work_stop.Refused (refusal.Model f)) P none = tt
small_page kind text (work_stop.Refused (refusal.Script f)) P none = tt
small_page kind text (work_stop.Refused (refusal.Replay at)) P none = tt
small_page kind text (work_stop.Refused (refusal.Bus f)) P none = tt
small_page kind text (work_stop.Refused (refusal.TooLarge file)) P none = absurd none
small_page kind text work_stop.NoMemory P none = tt

-- by what the words ask for
pub large_asked : {S : Type 0} (Reading : S → ℕ → Type 0) (left : S → ℕ → Option (List ℕ)) (shelf : S) (old new : Option Files) (asked : Option Mode) (mode : Mode) (r : Result Outcome WorkStop) → asked ≡ Some mode
    → IfErr r (λ st. IfLarge st (TookOnePast Reading left shelf old new (IsLimitIn mode))) → IfErr r (λ st. IfLarge st (TookOnePast Reading left shelf old new (IsLimitOf asked)))
large_asked Reading left shelf old new asked mode r is h =
    let P : Option Mode → Type 0 = λ o. IfErr r (λ st. IfLarge st (TookOnePast Reading left shelf old new (IsLimitOf o))) in
    subst P (sym is) h

-- a generated model is never too large
none_large : (st : WorkStop) (P : List ℕ → Type 0) → IfLarge st (λ file. ⊥) → IfLarge st P
none_large (work_stop.Refused refusal.Usage) P h = tt
none_large (work_stop.Refused (refusal.Read file)) P h = tt
none_large (work_stop.Refused (refusal.Model f)) P h = tt
none_large (work_stop.Refused (refusal.Script f)) P h = tt
none_large (work_stop.Refused (refusal.Replay at)) P h = tt
none_large (work_stop.Refused (refusal.Bus f)) P h = tt
none_large (work_stop.Refused (refusal.TooLarge file)) P h = absurd h
none_large work_stop.NoMemory P h = tt

pub never_large : (r : Result Outcome WorkStop) (P : List ℕ → Type 0) → IfErr r (λ st. IfLarge st (λ file. ⊥)) → IfErr r (λ st. IfLarge st P)
never_large (Ok o) P h = tt
never_large (Err st) P h = none_large st P h

-- the status of a file that is too large is that of no other refusal
large_by : (r : Refusal) (P : List ℕ → Type 0) → IfLarge (work_stop.Refused r) P → refusal_status r ≡ 10 → (file : List ℕ) × P file
large_by refusal.Usage P h e = absurd (omega (arith, e))
large_by (refusal.Read file) P h e = absurd (omega (arith, e))
large_by (refusal.Model f) P h e = absurd (omega (arith, e))
large_by (refusal.Script f) P h e = absurd (omega (arith, e))
large_by (refusal.Replay at) P h e = absurd (omega (arith, e))
large_by (refusal.Bus f) P h e = absurd (omega (arith, e))
large_by (refusal.TooLarge file) P h e = (file, h)

pub large_told : (r : Refusal) (old new : Option (List ℕ)) (faults faults' status : ℕ) (P : List ℕ → Type 0) → Tells r old new faults faults' status → IfLarge (work_stop.Refused r) P → status ≡ 10 → (file : List ℕ) × P file
large_told r old new faults faults' status P told h e =
    ⊎_elim (λ whole. large_by r P h (sym whole.0 ∙ e))
    (⊎_elim (λ cut. absurd (omega (arith, cut.0, e))) (λ cut. absurd (omega (arith, cut.0, e)))) told

-- nor that of a session
pub large_never_ends : (s : Stop) → stop_status s ≡ 10 → ⊥
large_never_ends stop.Done e = omega (arith, e)
large_never_ends stop.Stopped e = omega (arith, e)
large_never_ends stop.Budget e = omega (arith, e)
large_never_ends (stop.Replay place) e = omega (arith, e)
large_never_ends (stop.Fault f) e = omega (arith, e)
large_never_ends stop.WriteFault e = omega (arith, e)
large_never_ends stop.NoMemory e = omega (arith, e)
