-- Each status from its cause.
use Rattle.std.proofs.Common.{◌≡◌, ◌≤◌, inl, inr, ⊎_elim, ℕ, Bool, true, false, ◌||◌, nat_eq, nat_le, List, if◌then◌else◌, length, slice_get, ◌+◌, Option, Some, None, Ok, Err, subst, sym, ◌∙◌, ap, arith, refl}
use Rattle.std.proofs.lemmas.Bool.{false≢true}
use Rattle.std.proofs.lemmas.Bool.Decides.{nat_tests}
use Rattle.flat_design.specs.declared.faults.RunFault.{RunFault}
use Rattle.command_line.specs.SimModel.Configuration.{Config}
use Rattle.command_line.specs.SimModel.Steps.{Outcome, went, faulted, takes, ended, step}
use Rattle.command_line.specs.SimModel.Runs.{missing, stop_within}
use Rattle.command_line.specs.SimModel.declared.plain.Rule.{Rule}
use Rattle.command_line.specs.SimModel.declared.plain.Rule.TheVariants as rule
use Rattle.command_line.specs.SimModel.declared.plain.Stop.{Stop}
use Rattle.command_line.specs.SimModel.declared.plain.Stop.TheVariants as stop
use Rattle.command_line.specs.Line.{Mode, Simulate, Page, Generate, line_of}
use Rattle.session.specs.Course.{IsEnd}
use Rattle.session.specs.Fronts.{WroteFront}
use Rattle.session.specs.declared.plans.Plan.{Plan}
use Rattle.session.specs.declared.plans.Outcome.{Outcome as SessionOutcome}
use Rattle.run_input.specs.ResultTexts.ErrLines.{usage_line, read_line, model_line, large_line, err_line, memory_line}
use Rattle.run_input.specs.ResultTexts.declared.refusals.ModelFault.{ModelFault}
use Rattle.run_input.specs.ResultTexts.declared.refusals.Refusal.{Refusal}
use Rattle.run_input.specs.ResultTexts.declared.refusals.Refusal.TheVariants as refusal
use Rattle.run_input.proofs.Apart.{OneTree}
use Rattle.tlmsim.specs.Requests.{IsPlan, budget_of}
use Rattle.tlmsim.specs.Call.{Call, Keeps}
use Rattle.tlmsim.specs.Telling.{Tells, TellsStop, refusal_status}
use Rattle.tlmsim.specs.Headline.{ReadFailed, TooLarge, ModelRefused, RefusedFor, Ended, NoRun, Finished, TextCut, TextLacking, LineCut, LineLacking, ScriptTold, ModelTold, Untouched, Gets, Gives, IsSilent, Answers, IsRefusal, IsRunStatus, stop_status}
use Rattle.tlmsim.specs.Worked.{EndedSo, Unmoved, Works}
use Rattle.tlmsim.specs.declared.working.WorkStop.{WorkStop}
use Rattle.tlmsim.specs.declared.working.WorkStop.TheVariants as work_stop
use Rattle.tlmsim.proofs.Lines.{end_of, told_no_end, memory_no_end}
use Rattle.tlmsim.proofs.Comes.{Comes, of_end, of_want, of_refused}

-- ---- the statuses of what was begun

-- none of them is one of a refusal
is_refusal : ℕ → Bool
is_refusal n = nat_eq n 1 || (nat_eq n 2 || (nat_eq n 3 || (nat_eq n 4 || nat_eq n 10)))

never : (s : Stop) → is_refusal (stop_status s) ≡ false
unfolding is_refusal
never stop.Done = refl
never stop.Stopped = refl
never stop.Budget = refl
never (stop.Replay place) = refl
never (stop.Fault f) = refl
never stop.WriteFault = refl
never stop.NoMemory = refl

not_refusal : (s : Stop) (n : ℕ) → is_refusal n ≡ true → stop_status s ≡ n → ⊥
not_refusal s n yes_it_is e = false≢true (sym (never s) ∙ ap is_refusal e ∙ yes_it_is)

no_refusal : (s : Stop) → IsRefusal (stop_status s) → ⊥
unfolding is_refusal
no_refusal s h = ⊎_elim (not_refusal s 1 refl) (⊎_elim (not_refusal s 2 refl) (⊎_elim (not_refusal s 3 refl) (⊎_elim (not_refusal s 4 refl) (not_refusal s 10 refl)))) h

bound_of : (s : Stop) → stop_status s ≤ 10
bound_of stop.Done = omega arith
bound_of stop.Stopped = omega arith
bound_of stop.Budget = omega arith
bound_of (stop.Replay place) = omega arith
bound_of (stop.Fault f) = omega arith
bound_of stop.WriteFault = omega arith
bound_of stop.NoMemory = omega arith

-- the budget ends only a run that has used it up
ended_apart : (b : Bool) → Some (if b then stop.Stopped else stop.Done) ≡ Some stop.Budget → ⊥
ended_apart true e = cc
ended_apart false e = cc

missed_apart : (b : Bool) (place : ℕ) → (if b then Some (stop.Replay place) else None) ≡ Some stop.Budget → ⊥
missed_apart true place e = cc
missed_apart false place e = cc

spent : (c : Config) (r : Rule) (t : ℕ) (o : Outcome) (b : Bool) → stop_within c r t b o ≡ Some stop.Budget → b ≡ true
spent c r t o true e = refl
spent c r t (went d) false e = cc
spent c r t (faulted f) false e = cc
spent c rule.First t takes false e = cc
spent c rule.Last t takes false e = cc
spent c (rule.Seed seed) t takes false e = cc
spent c (rule.Replay choices) t takes false e = absurd (missed_apart (missing c.processes.runnable (slice_get choices t)) (t + 1) e)
spent c r t ended false e = absurd (ended_apart c.cycle.stopped e)

used_up : (budget steps : ℕ) → nat_le budget steps ≡ true → budget ≤ steps
used_up budget steps h = grind (arith, nat_tests)

plan_budget : (mode : Mode) (listed : Option (List ℕ)) (p : Plan) → IsPlan mode listed p → p.budget ≡ budget_of mode
plan_budget (Simulate s) listed p is = is.budget_is
plan_budget (Page kind name) listed p is = absurd is
plan_budget (Generate g) listed p is = ap (λ (q : Plan). q.budget) is

all_steps : (c : Call) (choices : List ℕ) (steps : ℕ) → (x : Ended c choices steps stop.Budget) → steps ≡ budget_of x.accepted.mode
all_steps c choices steps x =
    let budget = x.plan.budget in
    let spent_here : budget ≤ steps = used_up budget steps (spent x.ran.last x.plan.rule (length choices) (step x.ran.last) (nat_le budget steps) x.ran.wrote.0) in
    let within : steps ≤ budget = x.ran.within in
    let all : steps ≡ budget = omega arith in
    all ∙ plan_budget x.accepted.mode x.accepted.listed x.plan x.planned

done_of : (c : Call) (choices : List ℕ) (steps : ℕ) (s : Stop) → EndedSo c choices steps s → stop_status s ≡ 0 → Finished c choices steps
done_of c choices steps stop.Done h e = ⊎_elim (λ x. inl x) (λ l. inr (inr l)) h
done_of c choices steps stop.Stopped h e = inr (inl h)
done_of c choices steps stop.Budget h e = absurd (omega arith)
done_of c choices steps (stop.Replay place) h e = absurd (omega arith)
done_of c choices steps (stop.Fault f) h e = absurd (omega arith)
done_of c choices steps stop.WriteFault h e = absurd (omega arith)
done_of c choices steps stop.NoMemory h e = absurd (omega arith)

fault_of : (c : Call) (choices : List ℕ) (steps : ℕ) (s : Stop) → EndedSo c choices steps s → stop_status s ≡ 5 → (f : RunFault) × Ended c choices steps (stop.Fault f)
fault_of c choices steps (stop.Fault f) h e = (f, h)
fault_of c choices steps stop.Done h e = absurd (omega arith)
fault_of c choices steps stop.Stopped h e = absurd (omega arith)
fault_of c choices steps stop.Budget h e = absurd (omega arith)
fault_of c choices steps (stop.Replay place) h e = absurd (omega arith)
fault_of c choices steps stop.WriteFault h e = absurd (omega arith)
fault_of c choices steps stop.NoMemory h e = absurd (omega arith)

budget_used : (c : Call) (choices : List ℕ) (steps : ℕ) (s : Stop) → EndedSo c choices steps s → stop_status s ≡ 6 → (x : Ended c choices steps stop.Budget) × (steps ≡ budget_of x.accepted.mode)
budget_used c choices steps stop.Budget h e = (h, all_steps c choices steps h)
budget_used c choices steps stop.Done h e = absurd (omega arith)
budget_used c choices steps stop.Stopped h e = absurd (omega arith)
budget_used c choices steps (stop.Replay place) h e = absurd (omega arith)
budget_used c choices steps (stop.Fault f) h e = absurd (omega arith)
budget_used c choices steps stop.WriteFault h e = absurd (omega arith)
budget_used c choices steps stop.NoMemory h e = absurd (omega arith)

missed_at : (c : Call) (choices : List ℕ) (steps : ℕ) (s : Stop) → EndedSo c choices steps s → stop_status s ≡ 9 → (place : ℕ) × Ended c choices steps (stop.Replay place)
missed_at c choices steps (stop.Replay place) h e = (place, h)
missed_at c choices steps stop.Done h e = absurd (omega arith)
missed_at c choices steps stop.Stopped h e = absurd (omega arith)
missed_at c choices steps stop.Budget h e = absurd (omega arith)
missed_at c choices steps (stop.Fault f) h e = absurd (omega arith)
missed_at c choices steps stop.WriteFault h e = absurd (omega arith)
missed_at c choices steps stop.NoMemory h e = absurd (omega arith)

cut_of : (c : Call) (choices : List ℕ) (steps : ℕ) (s : Stop) → EndedSo c choices steps s → TellsStop s c.before.err c.after.err → stop_status s ≡ 7 → TextCut c choices steps
cut_of c choices steps stop.WriteFault h told e = record { cut = h.0; rose = h.1; told = told }
cut_of c choices steps stop.Done h told e = absurd (omega arith)
cut_of c choices steps stop.Stopped h told e = absurd (omega arith)
cut_of c choices steps stop.Budget h told e = absurd (omega arith)
cut_of c choices steps (stop.Replay place) h told e = absurd (omega arith)
cut_of c choices steps (stop.Fault f) h told e = absurd (omega arith)
cut_of c choices steps stop.NoMemory h told e = absurd (omega arith)

lacking_of : (c : Call) (choices : List ℕ) (steps : ℕ) (s : Stop) → EndedSo c choices steps s → TellsStop s c.before.err c.after.err → stop_status s ≡ 8 → TextLacking c choices steps
lacking_of c choices steps stop.NoMemory h told e = record { cut = h; told = told }
lacking_of c choices steps stop.Done h told e = absurd (omega arith)
lacking_of c choices steps stop.Stopped h told e = absurd (omega arith)
lacking_of c choices steps stop.Budget h told e = absurd (omega arith)
lacking_of c choices steps (stop.Replay place) h told e = absurd (omega arith)
lacking_of c choices steps (stop.Fault f) h told e = absurd (omega arith)
lacking_of c choices steps stop.WriteFault h told e = absurd (omega arith)

-- what has an end of the run itself leaves `err` alone
silent_of : (c : Call) (s : Stop) → TellsStop s c.before.err c.after.err → (IsEnd s → c.after.err_faults ≡ c.before.err_faults) → IsEnd s → IsSilent c
silent_of c stop.Done told faults end = record { err = told; faults = faults end }
silent_of c stop.Stopped told faults end = record { err = told; faults = faults end }
silent_of c stop.Budget told faults end = record { err = told; faults = faults end }
silent_of c (stop.Replay place) told faults end = record { err = told; faults = faults end }
silent_of c (stop.Fault f) told faults end = record { err = told; faults = faults end }
silent_of c stop.WriteFault told faults end = absurd end
silent_of c stop.NoMemory told faults end = absurd end

-- the answers of what was begun
of_stop : OneTree → (c : Call) (choices : List ℕ) (steps : ℕ) (s : Stop) → EndedSo c choices steps s → TellsStop s c.before.err c.after.err → (IsEnd s → c.after.err_faults ≡ c.before.err_faults) → Keeps c → Answers c (stop_status s) choices steps
unfolding is_refusal
of_stop one c choices steps s h told faults kept =
    let comes = of_end one c choices steps s h in
    record {
      done = done_of c choices steps s h;
      usage = λ e. absurd (not_refusal s 1 refl e);
      read = λ e. absurd (not_refusal s 2 refl e);
      model = λ e. absurd (not_refusal s 3 refl e);
      script = λ e. absurd (not_refusal s 4 refl e);
      fault = fault_of c choices steps s h;
      budget = budget_used c choices steps s h;
      write = λ e. inl (cut_of c choices steps s h told e);
      memory = λ e. inl (lacking_of c choices steps s h told e);
      replay = missed_at c choices steps s h;
      large = λ e. absurd (not_refusal s 10 refl e);
      refused = λ r. absurd (no_refusal s r);
      silent = λ r. silent_of c s told faults (end_of s r);
      bound = bound_of s;
      kept = kept;
      usage_comes = comes.usage;
      large_comes = comes.large;
      large_model_comes = comes.long;
      model_comes = comes.model;
      script_comes = comes.script;
      replay_comes = comes.replay;
      page_refused_comes = comes.page_refused;
      complete = comes.complete;
      generates = comes.generates;
      page_comes = comes.tells;
    }

-- ---- the statuses where nothing was begun

record Refused (c : Call) (choices : List ℕ) (steps : ℕ) (status : ℕ) : Type 0 where
  usage : status ≡ 1 → (line_of c.words ≡ None) × Gets c usage_line
  read : status ≡ 2 → (file : List ℕ) × ReadFailed c file × Gets c (read_line file)
  model : status ≡ 3 → ModelTold c
  script : status ≡ 4 → ScriptTold c
  write : status ≡ 7 → LineCut c choices steps
  memory : status ≡ 8 → LineLacking c choices steps
  large : status ≡ 10 → (file : List ℕ) × TooLarge c file × Gets c (large_line file)
  bound : status ≤ 10

usage_cause : (c : Call) (choices : List ℕ) (steps : ℕ) → line_of c.words ≡ None → Gets c usage_line → Refused c choices steps 1
usage_cause c choices steps h told = record { usage = λ e. (h, told); read = λ e. absurd (omega arith); model = λ e. absurd (omega arith); script = λ e. absurd (omega arith); write = λ e. absurd (omega arith); memory = λ e. absurd (omega arith); large = λ e. absurd (omega arith); bound = omega arith }

read_cause : (c : Call) (choices : List ℕ) (steps : ℕ) (file : List ℕ) → ReadFailed c file → Gets c (read_line file) → Refused c choices steps 2
read_cause c choices steps file h told = record { usage = λ e. absurd (omega arith); read = λ e. (file, h, told); model = λ e. absurd (omega arith); script = λ e. absurd (omega arith); write = λ e. absurd (omega arith); memory = λ e. absurd (omega arith); large = λ e. absurd (omega arith); bound = omega arith }

model_cause : (c : Call) (choices : List ℕ) (steps : ℕ) → ModelTold c → Refused c choices steps 3
model_cause c choices steps h = record { usage = λ e. absurd (omega arith); read = λ e. absurd (omega arith); model = λ e. h; script = λ e. absurd (omega arith); write = λ e. absurd (omega arith); memory = λ e. absurd (omega arith); large = λ e. absurd (omega arith); bound = omega arith }

script_cause : (c : Call) (choices : List ℕ) (steps : ℕ) → ScriptTold c → Refused c choices steps 4
script_cause c choices steps h = record { usage = λ e. absurd (omega arith); read = λ e. absurd (omega arith); model = λ e. absurd (omega arith); script = λ e. h; write = λ e. absurd (omega arith); memory = λ e. absurd (omega arith); large = λ e. absurd (omega arith); bound = omega arith }

cut_cause : (c : Call) (choices : List ℕ) (steps : ℕ) → LineCut c choices steps → Refused c choices steps 7
cut_cause c choices steps h = record { usage = λ e. absurd (omega arith); read = λ e. absurd (omega arith); model = λ e. absurd (omega arith); script = λ e. absurd (omega arith); write = λ e. h; memory = λ e. absurd (omega arith); large = λ e. absurd (omega arith); bound = omega arith }

memory_cause : (c : Call) (choices : List ℕ) (steps : ℕ) → LineLacking c choices steps → Refused c choices steps 8
memory_cause c choices steps h = record { usage = λ e. absurd (omega arith); read = λ e. absurd (omega arith); model = λ e. absurd (omega arith); script = λ e. absurd (omega arith); write = λ e. absurd (omega arith); memory = λ e. h; large = λ e. absurd (omega arith); bound = omega arith }

large_cause : (c : Call) (choices : List ℕ) (steps : ℕ) (file : List ℕ) → TooLarge c file → Gets c (large_line file) → Refused c choices steps 10
large_cause c choices steps file h told = record { usage = λ e. absurd (omega arith); read = λ e. absurd (omega arith); model = λ e. absurd (omega arith); script = λ e. absurd (omega arith); write = λ e. absurd (omega arith); memory = λ e. absurd (omega arith); large = λ e. (file, h, told); bound = omega arith }

cause_of : (c : Call) (choices : List ℕ) (steps : ℕ) (r : Refusal) → RefusedFor c r → Gets c (err_line r) → Refused c choices steps (refusal_status r)
cause_of c choices steps refusal.Usage h told = usage_cause c choices steps h told
cause_of c choices steps (refusal.Read file) h told = read_cause c choices steps file h told
cause_of c choices steps (refusal.Model f) h told = model_cause c choices steps (inl (f, h, told))
cause_of c choices steps (refusal.Bus f) h told = model_cause c choices steps (inr (f, h, told))
cause_of c choices steps (refusal.Script f) h told = script_cause c choices steps (inl (f, h, told))
cause_of c choices steps (refusal.Replay at) h told = script_cause c choices steps (inr (at, h, told))
cause_of c choices steps (refusal.TooLarge file) h told = large_cause c choices steps file h told

-- the answers where nothing was begun
of_none : (c : Call) (choices : List ℕ) (steps : ℕ) (status : ℕ) → (IsRunStatus status → ⊥) → Refused c choices steps status → Comes c status → Untouched c choices steps → Keeps c → Answers c status choices steps
of_none c choices steps status no_end cause comes untouched kept =
    record {
      done = λ e. absurd (no_end (inl e));
      usage = cause.usage;
      read = cause.read;
      model = cause.model;
      script = cause.script;
      fault = λ e. absurd (no_end (inr (inl e)));
      budget = λ e. absurd (no_end (inr (inr (inl e))));
      write = λ e. inr (cause.write e);
      memory = λ e. inr (cause.memory e);
      replay = λ e. absurd (no_end (inr (inr (inr e))));
      large = cause.large;
      refused = λ e. untouched;
      silent = λ e. absurd (no_end e);
      bound = cause.bound;
      kept = kept;
      usage_comes = comes.usage;
      large_comes = comes.large;
      large_model_comes = comes.long;
      model_comes = comes.model;
      script_comes = comes.script;
      replay_comes = comes.replay;
      page_refused_comes = comes.page_refused;
      complete = comes.complete;
      generates = comes.generates;
      page_comes = comes.tells;
    }

-- the answers of a refusal, as it was told
told_cause : (c : Call) (choices : List ℕ) (steps : ℕ) (status : ℕ) (r : Refusal) → RefusedFor c r → Untouched c choices steps → Tells r c.before.err c.after.err c.before.err_faults c.after.err_faults status → Refused c choices steps status
told_cause c choices steps status r h untouched told =
    let P : ℕ → Type 0 = λ n. Refused c choices steps n in
    ⊎_elim (λ whole. subst P (sym whole.0) (cause_of c choices steps r h whole.1))
    (⊎_elim (λ cut. subst P (sym cut.0) (cut_cause c choices steps (record { untouched = untouched; refused = r; cause = h; rose = cut.1; told = cut.2 })))
    (λ cut. subst P (sym cut.0) (memory_cause c choices steps (record { untouched = untouched; told = inr (r, h, cut.1) })))) told

told_gives : (c : Call) (status : ℕ) (r : Refusal) → Tells r c.before.err c.after.err c.before.err_faults c.after.err_faults status → Gives c status (refusal_status r)
told_gives c status r told = ⊎_elim (λ whole. inl whole.0) (⊎_elim (λ cut. inr (inr (cut.0, cut.1))) (λ cut. inr (inl cut.0))) told

-- nothing was touched
untouched_by : (c : Call) (choices : List ℕ) (steps : ℕ) → NoRun choices steps → Unmoved c → Untouched c choices steps
untouched_by c choices steps none u = record { no_run = none; out = u.out; files = u.files }

-- ---- the answers from what the work below comes to

pub of_outcome : OneTree → (c : Call) (o : SessionOutcome) → Works c (Ok o) → TellsStop o.stop c.before.err c.after.err → (IsEnd o.stop → c.after.err_faults ≡ c.before.err_faults) → Keeps c → Answers c (stop_status o.stop) o.choices o.steps
of_outcome one c o works told faults kept = of_stop one c o.choices o.steps o.stop works told faults kept

pub of_refusal : OneTree → (c : Call) (choices : List ℕ) (steps : ℕ) (status : ℕ) (s : WorkStop) (r : Refusal) → s ≡ work_stop.Refused r → Works c (Err s) → NoRun choices steps
    → Tells r c.before.err c.after.err c.before.err_faults c.after.err_faults status → Keeps c → Answers c status choices steps
of_refusal one c choices steps status s r e works none told kept =
    let P : WorkStop → Type 0 = λ x. Works c (Err x) in
    let here : Works c (Err (work_stop.Refused r)) = subst P e works in
    let untouched = untouched_by c choices steps none here.1 in
    of_none c choices steps status (told_no_end r c.before.err c.after.err c.before.err_faults c.after.err_faults status told)
    (told_cause c choices steps status r here.0 untouched told) (of_refused one c status r here.0 (told_gives c status r told)) untouched kept

-- want of memory before a refusal was known
pub of_memory : (c : Call) (choices : List ℕ) (steps : ℕ) (s : WorkStop) → s ≡ work_stop.NoMemory → Works c (Err s) → NoRun choices steps → WroteFront c.before.err c.after.err memory_line → Keeps c → Answers c 8 choices steps
of_memory c choices steps s e works none told kept =
    let P : WorkStop → Type 0 = λ x. Works c (Err x) in
    let here : Works c (Err work_stop.NoMemory) = subst P e works in
    let untouched = untouched_by c choices steps none here in
    of_none c choices steps 8 memory_no_end (memory_cause c choices steps (record { untouched = untouched; told = inl told })) (of_want c) untouched kept
