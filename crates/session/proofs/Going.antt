-- A session as far as it has come, and how it may end there.
use Rattle.std.proofs.Common.{◌≡◌, ◌<◌, ◌≤◌, ◌+◌, ℕ, zero, suc, true, false, nat_le, List, [], ◌∷◌, ◌++◌, length, drop, Option, Some, None, Result, Ok, Err, refl, sym, ◌∙◌, ap, subst, arith, append_assoc, append-nil, length-append}
use Rattle.std.specs.Prelude.{slice_get, if◌then◌else◌}
use Rattle.std.specs.List.{flat_map}
use Rattle.std.proofs.lemmas.Bool.Decides.{nat_tests}
use Rattle.sim_io.specs.declared.outside.Trouble.{Trouble}
use Rattle.sim_io.specs.declared.outside.Trouble.TheVariants as trouble
use Rattle.flat_design.specs.declared.faults.RunFault.{RunFault}
use Rattle.flat_design.specs.declared.design.Design.{Design}
use Rattle.flat_design.specs.declared.design.Visible.{Visible}
use Rattle.vcd_trace.specs.SimModel.Configuration.{Config, Snapshot, Told}
use Rattle.vcd_trace.specs.SimModel.Steps.{Outcome, went, faulted, takes, ended, step}
use Rattle.vcd_trace.specs.SimModel.Runs as run
use Rattle.vcd_trace.specs.SimModel.Runs.{after, Chooser, least, greatest, seeded, listed, chooser_of, picked, held_then, first_of, rest_of, missing, stop_at, stop_taking, stop_within}
use Rattle.vcd_trace.specs.SimModel.Texts.{shown, closing, choice_text}
use Rattle.vcd_trace.specs.SimModel.Trace.{header, all_values, each_later, first_values, later_values, trace_text}
use Rattle.vcd_trace.specs.SimModel.declared.plain.Command.{Command}
use Rattle.vcd_trace.specs.SimModel.declared.plain.Log.{Log}
use Rattle.vcd_trace.specs.SimModel.declared.plain.Rule.{Rule}
use Rattle.vcd_trace.specs.SimModel.declared.plain.Rule.TheVariants as rule_of
use Rattle.vcd_trace.specs.SimModel.declared.plain.Stop.{Stop}
use Rattle.vcd_trace.specs.SimModel.declared.plain.Stop.TheVariants as stop
use Rattle.laws_reached.specs.KernelPhases.Own.{ChoosesItself}
use Rattle.kernel_start.specs.KernelState.declared.kernel.Kernel.{Kernel}
use Rattle.kernel_start.specs.KernelState.Kernel.{StandsFor}
use Rattle.laws_reached.specs.Reached.{IsReached}
use Rattle.vcd_trace.specs.LawsRuns.AddedStanding.{added}
use Rattle.vcd_trace.specs.Traced.{trace_so_far, Keeps}
use Rattle.vcd_trace.specs.declared.tracing.Tracing.{Tracing}
use Rattle.kernel_runs.specs.Made.{StepsOn, GoesTo, TookTo, TookIt, IsFault, IsUntaken, IsOver, TellsOf, told_by_show}
use Rattle.kernel_runs.specs.declared.answers.Telling.{Telling}
use Rattle.kernel_runs.specs.declared.answers.Telling.TheVariants as telling
use Rattle.kernel_runs.specs.declared.answers.Made.TheVariants as made
use Rattle.kernel_runs.proofs.Ruled.{AskedRule, AsksRule, rule_picked, rule_missed, only_lists_miss}
use Rattle.session.specs.Cut.{cut_by}
use Rattle.session.specs.Outputs.{Texts, behind, no_texts, Outer, Names, Took, IsFront, AreFronts, IsNear, Given, FitsRoom, LetGo, text_for}
use Rattle.session.specs.Telling.{text_so_far, TextOf, TextOfTurn, TextFor, KeepsIf, HeaderOf, PointOf, LastPointOf, IsClosing, IsLineOf, Recorded, Nothing, AllOut, Closes, Finishes, stopped_by}
use Rattle.session.specs.Begun.{GoesOn}
use Rattle.session.specs.Course.{Ran, Wrote, LacksLittle, IsEnd, IsEndedAs, texts_at, end_of}
use Rattle.session.specs.declared.plans.Plan.{Plan}
use Rattle.session.proofs.Outputs.{cut_short, cut_somewhere, front_as, front_on, front_same, given_on, near_given, only_let_go, took_nothing, took_on, took_whole}
use Rattle.session.proofs.Reached.{Reached, held_after, starts, by_step, by_taking, run_of, run_once, ruled_of}
use Rattle.session.proofs.Fronts.{choices-push, texts-push}

-- the texts so far
abbrev pub so_far : Plan → Config → List ℕ → Texts
so_far plan c choices = texts_at plan c choices None

-- each text is no longer than the other
pub record NoLonger (a b : Texts) : Type 0 where
  pub report : length a.report ≤ length b.report
  pub trace : length a.trace ≤ length b.trace
  pub choices : length a.choices ≤ length b.choices

-- the texts of all steps but the last are no longer than these
abbrev pub Lasts : Plan → Config → List ℕ → ℕ → Texts → Type 0
Lasts plan first choices steps base = (m : ℕ) → steps ≡ suc m → (before : Config) (used left : List ℕ) → choices ≡ used ++ left → after m used first ≡ Some before → NoLonger (so_far plan before used) base

pub record Going (plan : Plan) (first : Config) (held : Chooser) (choices : List ℕ) (steps : ℕ) (k : Kernel) (script : List Command) (tracing : Tracing) (AreNamed : Names → Type 0) (old now : Outer) (due : Texts) : Type 0 where
  pub at : Config
  pub stands : StandsFor k at
  pub left : at.script ≡ script
  pub reached : Reached plan.rule first held choices steps at
  pub sound : IsReached at
  pub counted : sound.steps ≡ steps
  pub design : at.design ≡ first.design
  pub keeps : KeepsIf plan.vcd tracing at.trace.snapshots
  pub given : Given AreNamed old now due (so_far plan at choices)
  pub lasts : Lasts plan first choices steps (so_far plan at choices)

-- ---- what a step adds

-- to what was told at most one is added
longer_by_one : (log : Log) (at to : Config) (t : Told) → to.trace.told ≡ at.trace.told ++ t ∷ [] → IsFront (text_so_far log at) (text_so_far log to)
longer_by_one log at to t is = (shown log t, ap (flat_map (shown log)) is ∙ texts-push log at.trace.told t)

longer_by_none : (log : Log) (at to : Config) → to.trace.told ≡ at.trace.told → IsFront (text_so_far log at) (text_so_far log to)
longer_by_none log at to is = ([], ap (flat_map (shown log)) is ∙ sym (append-nil _))

longer_by_show : (log : Log) (at to : Config) (o : Option Visible) → to.trace.told ≡ at.trace.told ++ told_by_show to o → IsFront (text_so_far log at) (text_so_far log to)
longer_by_show log at to None is = longer_by_none log at to (is ∙ append-nil _)
longer_by_show log at to (Some v) is = longer_by_one log at to _ is

longer : (log : Log) (at to : Config) (t : Telling) → TellsOf at to t → IsFront (text_so_far log at) (text_so_far log to)
longer log at to telling.Nothing is = longer_by_none log at to is
longer log at to (telling.Print p s v) adds = longer_by_one log at to _ adds.told
longer log at to (telling.Show i) is = longer_by_show log at to (slice_get to.design.visible i) is

-- ---- the trace

-- the values of more snapshots begin with those of the first ones
later_begin : (s : Snapshot) (ss more : List Snapshot) → IsFront (each_later s ss) (each_later s (ss ++ more))
later_begin s [] more = (each_later s more, refl)
later_begin s (t ∷ ss) more =
    let (rest, is) = later_begin t ss more in
    (rest, ap (λ x. later_values s t ++ x) is ∙ sym (append_assoc (later_values s t) (each_later t ss) rest))

values_begin : (ss more : List Snapshot) → IsFront (all_values ss) (all_values (ss ++ more))
values_begin [] more = (all_values more, refl)
values_begin (s ∷ ss) more =
    let (rest, is) = later_begin s ss more in
    (rest, ap (λ x. first_values s ++ x) is ∙ sym (append_assoc (first_values s) (each_later s ss) rest))

-- a trace with more snapshots is longer
trace_front : (d : Design) (ss more : List Snapshot) → IsFront (header d ++ all_values ss) (header d ++ all_values (ss ++ more))
trace_front d ss more =
    let (rest, is) = values_begin ss more in
    (rest, ap (λ x. header d ++ x) is ∙ sym (append_assoc (header d) (all_values ss) rest))

-- the trace so far of a configuration of the same design, whose snapshots are these
so_traced : (d : Design) (ss : List Snapshot) (to : Config) → to.design ≡ d → to.trace.snapshots ≡ ss → trace_so_far to ≡ header d ++ all_values ss
so_traced d ss to same seen = ap (λ x. header x ++ all_values to.trace.snapshots) same ∙ ap (λ x. header d ++ all_values x) seen

trace_on : (v : Option ℕ) (at to : Config) (more : List Snapshot) → to.design ≡ at.design → to.trace.snapshots ≡ at.trace.snapshots ++ more → IsFront (text_for v (trace_so_far at)) (text_for v (trace_so_far to))
trace_on None at to more same seen = ([], refl)
trace_on (Some id) at to more same seen =
    let (rest, is) = trace_front at.design at.trace.snapshots more in
    (rest, so_traced at.design (at.trace.snapshots ++ more) to same seen ∙ is)

-- what a point adds to the trace, and what is kept behind it
pub record Traced (v : Option ℕ) (at to : Config) (after : Tracing) (text : List ℕ) : Type 0 where
  pub adds : text_for v (trace_so_far to) ≡ text_for v (trace_so_far at) ++ text
  pub keeps : KeepsIf v after to.trace.snapshots

point_on : (v : Option ℕ) (k : Kernel) (time : ℕ) (before after : Tracing) (at to : Config) → step at ≡ went to → StandsFor k to → at.cycle.now ≡ time → to.design ≡ at.design
    → KeepsIf v before at.trace.snapshots → (text : List ℕ) → TextFor v (PointOf k time before after) text → Traced v at to after text
point_on None k time before after at to goes stands now same keeps text is = record { adds = sym is; keeps = tt }
point_on (Some id) k time before after at to goes stands now same keeps text is = record {
  adds = is.adds at to goes stands now same keeps;
  keeps = is.keeps at to goes stands now keeps;
}

nothing_on : (v : Option ℕ) (tracing : Tracing) (at to : Config) → to.design ≡ at.design → to.trace.snapshots ≡ at.trace.snapshots → KeepsIf v tracing at.trace.snapshots → (text : List ℕ) → Nothing text → Traced v at to tracing text
nothing_on None tracing at to same seen keeps text none = record { adds = sym none; keeps = tt }
nothing_on (Some id) tracing at to same seen keeps text none = record {
  adds = so_traced at.design at.trace.snapshots to same seen ∙ sym (ap (λ x. trace_so_far at ++ x) none ∙ append-nil (trace_so_far at));
  keeps = subst (Keeps tracing) (sym seen) keeps;
}

-- ---- the choices

-- what the line of a choice adds to the list
pub listed_on : (v : Option ℕ) (choices : List ℕ) (p : ℕ) (text : List ℕ) → TextFor v (IsLineOf p) text → text_for v (choice_text (choices ++ p ∷ [])) ≡ text_for v (choice_text choices) ++ text
listed_on None choices p text none = sym none
listed_on (Some id) choices p text is = choices-push choices p ∙ ap (λ x. choice_text choices ++ x) (sym is)

listed_front : (v : Option ℕ) (choices : List ℕ) (p : ℕ) → IsFront (text_for v (choice_text choices)) (text_for v (choice_text (choices ++ p ∷ [])))
listed_front None choices p = ([], refl)
listed_front (Some id) choices p = (choice_text (p ∷ []), choices-push choices p)

-- ---- one step more

no_longer_same : (a : Texts) → NoLonger a a
no_longer_same a = record { report = omega arith; trace = omega arith; choices = omega arith }

front_length : (a b : List ℕ) → IsFront a b → length a ≤ length b
front_length a b (rest, is) = omega (arith, ap length is, length-append a rest)

no_longer_on : (a b c : Texts) → NoLonger a b → AreFronts b c → NoLonger a c
no_longer_on a b c less fronts = record {
  report = omega (arith, less.report, front_length b.report c.report fronts.report);
  trace = omega (arith, less.trace, front_length b.trace c.trace fronts.trace);
  choices = omega (arith, less.choices, front_length b.choices c.choices fronts.choices);
}

-- the configuration before the last step is the one that it was made in
before_last : (plan : Plan) (first : Config) (choices more later : List ℕ) (steps : ℕ) (at : Config) → after steps choices first ≡ Some at → later ≡ choices ++ more → Lasts plan first later (steps + 1) (so_far plan at choices)
before_last plan first choices more later steps at run is m one before used left splits there =
    let same_steps : m ≡ steps = omega (arith, one) in
    let same = run_once steps choices used more left first at before run (subst (λ n. after n used first ≡ Some before) same_steps there) (sym is ∙ splits) in
    subst (λ c. NoLonger (so_far plan c used) (so_far plan at choices)) (sym same.config)
    (subst (λ cs. NoLonger (so_far plan at cs) (so_far plan at choices)) (sym same.choices) (no_longer_same (so_far plan at choices)))

-- a step led here, and of the texts that it adds this is known
pub record Advanced (plan : Plan) (first : Config) (held : Chooser) (choices later : List ℕ) (steps : ℕ) (at : Config) (k : Kernel) (script : List Command) (after : Tracing) (T P C : List ℕ → Type 0) : Type 0 where
  pub to : Config
  pub stands : StandsFor k to
  pub left : to.script ≡ script
  pub reached : Reached plan.rule first held later steps to
  pub sound : IsReached to
  pub counted : sound.steps ≡ steps
  pub design : to.design ≡ at.design
  pub grown : AreFronts (so_far plan at choices) (so_far plan to later)
  pub lasts : Lasts plan first later steps (so_far plan at choices)
  pub adds : (text : List ℕ) → T text → text_so_far plan.log to ≡ text_so_far plan.log at ++ text
  pub traces : (text : List ℕ) → P text → Traced plan.vcd at to after text
  pub lists : (text : List ℕ) → C text → (so_far plan to later).choices ≡ (so_far plan at choices).choices ++ text

module _ (goes_on : GoesOn) (plan : Plan) (first : Config) (held : Chooser) (choices : List ℕ) (steps : ℕ) (k k' : Kernel) (script script' : List Command) (before after : Tracing) (AreNamed : Names → Type 0) (old mid : Outer) (due : Texts) (g : Going plan first held choices steps k script before AreNamed old mid due) where
  run_here : run.after steps choices first ≡ Some g.at
  run_here = run_of plan.rule first held choices steps g.at g.reached

  pub went_on : (t : Telling) (time : ℕ) → ((c : Config) → StandsFor k c → time ≡ c.cycle.now) → StepsOn k k' script script' (made.Went t) step
      → Advanced plan first held choices choices (steps + 1) g.at k' script' after (TextOf k' t) (TextFor plan.vcd (PointOf k' time before after)) Nothing
  went_on t time now moves = from (step g.at) refl (moves g.at g.stands g.left)
    where
      from : (o : Outcome) → step g.at ≡ o → GoesTo k' t (record g.at { script = script' }) o → Advanced plan first held choices choices (steps + 1) g.at k' script' after (TextOf k' t) (TextFor plan.vcd (PointOf k' time before after)) Nothing
      from (went d) e h = record {
        to = d;
        stands = h.0;
        left = h.1;
        reached = by_step plan.rule first held choices steps g.at d g.reached e;
        sound = (goes_on.steps g.at d g.sound e).next;
        counted = (goes_on.steps g.at d g.sound e).steps ∙ ap (λ n. n + 1) g.counted;
        design = goes_on.keeps g.at d g.sound e;
        grown = record {
          report = longer plan.log (record g.at { script = script' }) d t h.2;
          trace = trace_on plan.vcd g.at d (added g.at d) (goes_on.keeps g.at d g.sound e) (goes_on.sees g.at d e);
          choices = front_same _;
        };
        lasts = before_last plan first choices [] choices steps g.at run_here (sym (append-nil choices));
        adds = λ text is. is plan.log (record g.at { script = script' }) d h.0 h.2;
        traces = point_on plan.vcd k' time before after g.at d e h.0 (sym (now g.at g.stands)) (goes_on.keeps g.at d g.sound e) g.keeps;
        lists = λ text none. sym (ap (λ x. text_for plan.choices (choice_text choices) ++ x) none ∙ append-nil _);
      }
      from (faulted f) e h = absurd h
      from takes e h = absurd h
      from ended e h = absurd h

  -- the rule was not asked
  pub as_before : (t : Telling) (next : Chooser) → StepsOn k k' script script' (made.Went t) step → AsksRule k held next (made.Went t) → next ≡ held
  as_before t next moves asks = from (step g.at) (moves g.at g.stands g.left) (asks g.at g.stands)
    where
      from : (o : Outcome) → GoesTo k' t (record g.at { script = script' }) o → AskedRule held next g.at (made.Went t) o → next ≡ held
      from (went d) h asked = asked
      from (faulted f) h asked = absurd h
      from takes h asked = absurd h
      from ended h asked = absurd h

  pub took_one : (p : ℕ) (next : Chooser) → StepsOn k k' script script' (made.Took p) step → AsksRule k held next (made.Took p)
      → Advanced plan first next choices (choices ++ p ∷ []) (steps + 1) g.at k' script' before (TextOfTurn k' plan.log p) Nothing (TextFor plan.choices (IsLineOf p))
  took_one p next moves asks = from (step g.at) refl (moves g.at g.stands g.left)
    where
      from : (o : Outcome) → step g.at ≡ o → TookTo k' p g.at o × (script' ≡ g.at.script) → Advanced plan first next choices (choices ++ p ∷ []) (steps + 1) g.at k' script' before (TextOfTurn k' plan.log p) Nothing (TextFor plan.choices (IsLineOf p))
      from (went d) e h = absurd h.0
      from (faulted f) e h = absurd h.0
      from takes e h =
          let took : TookIt k' p g.at = h.0 in
          let asked = subst (AskedRule held next g.at (made.Took p)) e (asks g.at g.stands) in
          let picks : picked held g.at.processes.runnable ≡ Some p = rule_picked g.at (goes_on.once g.at g.sound) held p asked.0 in
          let same : took.to.design ≡ g.at.design = goes_on.takings_keep g.at took.to p g.sound e took.taken in
          let seen : took.to.trace.snapshots ≡ g.at.trace.snapshots = goes_on.takings_see g.at took.to p took.taken in
          record {
            to = took.to;
            stands = took.stands;
            left = took.script ∙ sym h.1;
            reached = subst (λ x. Reached plan.rule first x (choices ++ p ∷ []) (steps + 1) took.to) (sym asked.1) (by_taking plan.rule first held choices steps g.at took.to p g.reached e took.taken picks);
            sound = (goes_on.takings g.at took.to p g.sound e took.taken).next;
            counted = (goes_on.takings g.at took.to p g.sound e took.taken).steps ∙ ap (λ n. n + 1) g.counted;
            design = same;
            grown = record {
              report = longer_by_one plan.log g.at took.to _ took.turn.told;
              trace = trace_on plan.vcd g.at took.to [] same (seen ∙ sym (append-nil g.at.trace.snapshots));
              choices = listed_front plan.choices choices p;
            };
            lasts = before_last plan first choices (p ∷ []) (choices ++ p ∷ []) steps g.at run_here refl;
            adds = λ text is. is g.at took.to took.stands took.turn;
            traces = nothing_on plan.vcd before g.at took.to same seen g.keeps;
            lists = listed_on plan.choices choices p;
          }
      from ended e h = absurd h.0

-- ---- the texts of a session in a configuration begin with the texts so far

report_begins : (plan : Plan) (c : Config) (choices : List ℕ) (e : Option Stop) → IsFront (text_so_far plan.log c) (texts_at plan c choices e).report
report_begins plan c choices None = ([], sym (append-nil _))
report_begins plan c choices (Some s) = (closing c s, refl)

last_values : (c : Config) → IsFront (trace_so_far c) (trace_text c)
last_values c = trace_front c.design c.trace.snapshots _

trace_whole : (v : Option ℕ) (c : Config) → IsFront (text_for v (trace_so_far c)) (text_for v (trace_text c))
trace_whole None c = ([], refl)
trace_whole (Some id) c = last_values c

trace_begins : (plan : Plan) (c : Config) (choices : List ℕ) (e : Option Stop) → IsFront (text_for plan.vcd (trace_so_far c)) (texts_at plan c choices e).trace
trace_begins plan c choices None = ([], sym (append-nil _))
trace_begins plan c choices (Some s) = trace_whole plan.vcd c

choices_begin : (plan : Plan) (c : Config) (choices : List ℕ) (e : Option Stop) → IsFront (text_for plan.choices (choice_text choices)) (texts_at plan c choices e).choices
choices_begin plan c choices None = front_same _
choices_begin plan c choices (Some s) = front_same _

texts_begin : (plan : Plan) (c : Config) (choices : List ℕ) (e : Option Stop) → AreFronts (so_far plan c choices) (texts_at plan c choices e)
texts_begin plan c choices e = record { report = report_begins plan c choices e; trace = trace_begins plan c choices e; choices = choices_begin plan c choices e }

nothing_more : (base text whole : List ℕ) → Nothing text → IsFront base whole → IsFront (base ++ text) whole
nothing_more base text whole none front = subst (λ x. IsFront x whole) (sym (ap (λ x. base ++ x) none ∙ append-nil base)) front

fronts_on : (a b c : Texts) → AreFronts a b → AreFronts b c → AreFronts a c
fronts_on a b c x y = record { report = front_on a.report b.report c.report x.report y.report; trace = front_on a.trace b.trace c.trace x.trace y.trace; choices = front_on a.choices b.choices c.choices x.choices y.choices }

-- ---- how little was not taken

longer_still : (n a b c : ℕ) → a ≤ b → b ≤ c + n → a ≤ c + n
longer_still n a b c h k = omega (arith, h, k)

near_from : (plan : Plan) (first : Config) (choices : List ℕ) (steps : ℕ) (TookIt : Texts → Type 0) (base front : Texts) → Lasts plan first choices steps base → TookIt front → IsNear 65536 front base → LacksLittle plan first choices steps TookIt
near_from plan first choices steps TookIt base front lasts took near m one before used left splits there =
    let less = lasts m one before used left splits there in (
      front,
      took,
      record {
        report = longer_still 65536 _ _ (length front.report) less.report near.report;
        trace = longer_still 65536 _ _ (length front.trace) less.trace near.trace;
        choices = longer_still 65536 _ _ (length front.choices) less.choices near.choices;
      },
    )

module _ (plan : Plan) (first : Config) (held next : Chooser) (choices later : List ℕ) (steps now_steps : ℕ) (k k' : Kernel) (script script' : List Command) (before after : Tracing) (AreNamed : Names → Type 0) (old mid now : Outer) (due left : Texts) (T P C : List ℕ → Type 0)
    (g : Going plan first held choices steps k script before AreNamed old mid due) (a : Advanced plan first next choices later now_steps g.at k' script' after T P C) where
  -- its texts were given whole
  pub goes_one_on : Recorded T P C AreNamed mid now due left (Ok tt) → Going plan first next later now_steps k' script' after AreNamed old now left
  goes_one_on r = record {
    at = a.to;
    stands = a.stands;
    left = a.left;
    reached = a.reached;
    sound = a.sound;
    counted = a.counted;
    design = a.design ∙ g.design;
    keeps = (a.traces r.parts.1.0 r.parts.1.1).keeps;
    given = given_on T P C AreNamed old mid now due left (so_far plan g.at choices) (so_far plan a.to later) a.adds (λ text is. (a.traces text is).adds) a.lists g.given r;
    lasts = λ m one c used rest splits there. no_longer_on (so_far plan c used) (so_far plan g.at choices) (so_far plan a.to later) (a.lasts m one c used rest splits there) a.grown;
  }

  ending : Option Stop
  ending = end_of plan a.to later now_steps

  whole : Texts
  whole = texts_at plan a.to later ending

  begun : AreFronts (so_far plan g.at choices) whole
  unfolding whole ending
  begun = fronts_on (so_far plan g.at choices) (so_far plan a.to later) (texts_at plan a.to later (end_of plan a.to later now_steps)) a.grown (texts_begin plan a.to later (end_of plan a.to later now_steps))

  reports : (text : List ℕ) → T text → IsFront ((so_far plan g.at choices).report ++ text) whole.report
  unfolding whole ending
  reports text is = front_as _ _ _ (sym (a.adds text is)) (report_begins plan a.to later ending)

  traces : (text : List ℕ) → P text → IsFront ((so_far plan g.at choices).trace ++ text) whole.trace
  unfolding whole ending
  traces text is = front_as _ _ _ (sym (a.traces text is).adds) (trace_begins plan a.to later ending)

  lists : (text : List ℕ) → C text → IsFront ((so_far plan g.at choices).choices ++ text) whole.choices
  unfolding whole ending
  lists text is = front_as _ _ _ (sym (a.lists text is)) (choices_begin plan a.to later ending)

  ran_so : (s : Stop) → now_steps ≤ plan.budget → Wrote (Took AreNamed old now) (end_of plan a.to later now_steps) (texts_at plan a.to later (end_of plan a.to later now_steps)) s → FitsRoom due → (t : Texts) → Took AreNamed mid now t → Ran first plan later now_steps s (Took AreNamed old now)
  ran_so s within wrote few t more = record {
    last = a.to;
    is_run = run_of plan.rule first next later now_steps a.to a.reached;
    ruled = ruled_of plan.rule first next later now_steps a.to a.reached;
    within = within;
    wrote = wrote;
    near = near_from plan first later now_steps (Took AreNamed old now) (so_far plan g.at choices) (behind g.given.front t) a.lasts (took_on AreNamed old mid now g.given.front t g.given.took more) (near_given AreNamed old mid due (so_far plan g.at choices) t g.given few);
  }

  -- it was cut while they were given
  pub cut_in_texts : (e : Trouble) → now_steps ≤ plan.budget → FitsRoom due → Recorded T P C AreNamed mid now due left (Err e) → Ran first plan later now_steps (cut_by e) (Took AreNamed old now)
  unfolding whole ending
  cut_in_texts trouble.Failed within few r =
      ran_so stop.WriteFault within (cut_short T P C AreNamed old mid now due left (so_far plan g.at choices) whole begun reports traces lists g.given r) few r.taken r.took
  cut_in_texts trouble.NoMemory within few r =
      ran_so stop.NoMemory within (cut_somewhere T P C AreNamed old mid now due left (so_far plan g.at choices) whole begun reports traces lists g.given r) few r.taken r.took

-- ---- a rule that picked none that is runnable is a replayed list, whose next choice is missing or not runnable

own_then : (k : Chooser) → ChoosesItself k → ChoosesItself (held_then k)
own_then least own = own
own_then greatest own = own
own_then (seeded g) own = own
own_then (listed choices) own = absurd own

own_after : (n : ℕ) (k : Chooser) → ChoosesItself k → ChoosesItself (held_after n k)
own_after zero k own = own
own_after (suc n) k own = own_then (held_after n k) (own_after n k own)

rest_dropped : (n : ℕ) (xs : List ℕ) → rest_of (drop n xs) ≡ drop (suc n) xs
rest_dropped zero [] = refl
rest_dropped zero (x ∷ xs) = refl
rest_dropped (suc n) [] = refl
rest_dropped (suc n) (x ∷ xs) = rest_dropped n xs

listed_after : (n : ℕ) (choices : List ℕ) → held_after n (listed choices) ≡ listed (drop n choices)
listed_after zero choices = refl
listed_after (suc n) choices = ap held_then (listed_after n choices) ∙ ap listed (rest_dropped n choices)

first_dropped : (n : ℕ) (xs : List ℕ) → first_of (drop n xs) ≡ slice_get xs n
first_dropped zero [] = refl
first_dropped zero (x ∷ xs) = refl
first_dropped (suc n) [] = refl
first_dropped (suc n) (x ∷ xs) = first_dropped n xs

not_taken : (rule : Rule) (n : ℕ) (c : Config) (held : Chooser) → held ≡ held_after n (chooser_of rule) → missing c.processes.runnable (picked held c.processes.runnable) ≡ true → (ChoosesItself held → ⊥) → stop_taking c rule n ≡ Some (stop.Replay (n + 1))
not_taken rule_of.First n c held same none other = absurd (other (subst ChoosesItself (sym same) (own_after n least tt)))
not_taken rule_of.Last n c held same none other = absurd (other (subst ChoosesItself (sym same) (own_after n greatest tt)))
not_taken (rule_of.Seed seed) n c held same none other = absurd (other (subst ChoosesItself (sym same) (own_after n (chooser_of (rule_of.Seed seed)) tt)))
not_taken (rule_of.Replay choices) n c held same none other =
    let picks : picked held c.processes.runnable ≡ slice_get choices n = ap (λ x. picked x c.processes.runnable) (same ∙ listed_after n choices) ∙ first_dropped n choices in
    ap (λ b. if b then Some (stop.Replay (n + 1)) else None) (ap (missing c.processes.runnable) (sym picks) ∙ none)

-- ---- ends

not_used_up : (steps budget : ℕ) → steps < budget → nat_le budget steps ≡ false
not_used_up steps budget h = grind (arith, nat_tests)

used_up : (steps budget : ℕ) → budget ≤ steps → nat_le budget steps ≡ true
used_up steps budget h = grind (arith, nat_tests)

-- an end that is no cut, with its whole texts
wrote_whole : (TookIt : Texts → Type 0) (s : Stop) (texts : Texts) → IsEnd s → TookIt texts → Wrote TookIt (Some s) texts s
wrote_whole TookIt stop.WriteFault texts end took = absurd end
wrote_whole TookIt stop.NoMemory texts end took = absurd end
wrote_whole TookIt stop.Done texts end took = (refl, took)
wrote_whole TookIt stop.Stopped texts end took = (refl, took)
wrote_whole TookIt stop.Budget texts end took = (refl, took)
wrote_whole TookIt (stop.Replay place) texts end took = (refl, took)
wrote_whole TookIt (stop.Fault f) texts end took = (refl, took)

last_point : (v : Option ℕ) (k : Kernel) (tracing : Tracing) (c : Config) → StandsFor k c → KeepsIf v tracing c.trace.snapshots → (text : List ℕ) → TextFor v (LastPointOf k tracing) text → text_for v (trace_text c) ≡ text_for v (trace_so_far c) ++ text
last_point None k tracing c stands keeps text none = sym none
last_point (Some id) k tracing c stands keeps text is = sym (is c stands keeps)

module _ (plan : Plan) (first : Config) (held : Chooser) (choices : List ℕ) (steps : ℕ) (AreNamed : Names → Type 0) (old : Outer) (due : Texts) where
  Ends : Kernel → Tracing → Outer → Outer → Stop → Stop → Type 0
  Ends k tracing mid now s s' = Finishes (Closes (IsClosing k s) (TextFor plan.vcd (LastPointOf k tracing)) plan.vcd plan.choices AreNamed mid now due) s s'

  module _ (k : Kernel) (script : List Command) (tracing : Tracing) (mid now : Outer) (s : Stop) (g : Going plan first held choices steps k script tracing AreNamed old mid due) where
    T : List ℕ → Type 0
    T = IsClosing k s

    P : List ℕ → Type 0
    P = TextFor plan.vcd (LastPointOf k tracing)

    all_texts : Texts
    all_texts = texts_at plan g.at choices (Some s)

    report_whole : (text : List ℕ) → T text → all_texts.report ≡ (so_far plan g.at choices).report ++ text
    unfolding T all_texts
    report_whole text is = ap (λ x. text_so_far plan.log g.at ++ x) (sym (is g.at g.stands))

    trace_of : (text : List ℕ) → P text → all_texts.trace ≡ (so_far plan g.at choices).trace ++ text
    unfolding P all_texts
    trace_of text is = last_point plan.vcd k tracing g.at g.stands g.keeps text is

    list_of : (text : List ℕ) → Nothing text → all_texts.choices ≡ (so_far plan g.at choices).choices ++ text
    unfolding all_texts
    list_of text none = sym (ap (λ x. text_for plan.choices (choice_text choices) ++ x) none ∙ append-nil _)

    as_front : (a b : List ℕ) → b ≡ a → IsFront a b
    as_front a b same = ([], same ∙ sym (append-nil a))

    ran_to : (x : Stop) → steps ≤ plan.budget → end_of plan g.at choices steps ≡ Some s → Wrote (Took AreNamed old now) (Some s) all_texts x → FitsRoom due → (t : Texts) → Took AreNamed mid now t → Ran first plan choices steps x (Took AreNamed old now)
    unfolding all_texts
    ran_to x within ending wrote few t more = record {
      last = g.at;
      is_run = run_of plan.rule first held choices steps g.at g.reached;
      ruled = ruled_of plan.rule first held choices steps g.at g.reached;
      within = within;
      wrote = subst (λ e. Wrote (Took AreNamed old now) e (texts_at plan g.at choices e) x) (sym ending) wrote;
      near = near_from plan first choices steps (Took AreNamed old now) (so_far plan g.at choices) (behind g.given.front t) g.lasts (took_on AreNamed old mid now g.given.front t g.given.took more) (near_given AreNamed old mid due (so_far plan g.at choices) t g.given few);
    }

    ends_by : (s' : Stop) (written : Result Unit Trouble) → IsEnd s → steps ≤ plan.budget → end_of plan g.at choices steps ≡ Some s → FitsRoom due → (left : Texts) → Recorded T P Nothing AreNamed mid now due left written → AllOut plan.vcd plan.choices left written → s' ≡ stopped_by s written → Ran first plan choices steps s' (Took AreNamed old now)
    unfolding all_texts
    ends_by s' (Ok u) end within ending few left r out is = subst (λ x. Ran first plan choices steps x (Took AreNamed old now)) (sym is)
        (ran_to s within ending (wrote_whole (Took AreNamed old now) s all_texts end
        (took_whole plan.vcd plan.choices AreNamed old now left all_texts.report (trace_text g.at) (choice_text choices) out (given_on T P Nothing AreNamed old mid now due left (so_far plan g.at choices) all_texts report_whole trace_of list_of g.given r))) few r.taken r.took)
    ends_by s' (Err trouble.Failed) end within ending few left r out is = subst (λ x. Ran first plan choices steps x (Took AreNamed old now)) (sym is)
        (ran_to stop.WriteFault within ending (cut_short T P Nothing AreNamed old mid now due left (so_far plan g.at choices) all_texts (texts_begin plan g.at choices (Some s)) (λ text h. as_front _ _ (report_whole text h)) (λ text h. as_front _ _ (trace_of text h)) (λ text h. as_front _ _ (list_of text h)) g.given r) few r.taken r.took)
    ends_by s' (Err trouble.NoMemory) end within ending few left r out is = subst (λ x. Ran first plan choices steps x (Took AreNamed old now)) (sym is)
        (ran_to stop.NoMemory within ending (cut_somewhere T P Nothing AreNamed old mid now due left (so_far plan g.at choices) all_texts (texts_begin plan g.at choices (Some s)) (λ text h. as_front _ _ (report_whole text h)) (λ text h. as_front _ _ (trace_of text h)) (λ text h. as_front _ _ (list_of text h)) g.given r) few r.taken r.took)

  -- a session that has come to an end of its own
  finished : (k : Kernel) (script : List Command) (tracing : Tracing) (mid now : Outer) (s s' : Stop) (g : Going plan first held choices steps k script tracing AreNamed old mid due) → IsEnd s → steps ≤ plan.budget → end_of plan g.at choices steps ≡ Some s → FitsRoom due
      → Ends k tracing mid now s s' → Ran first plan choices steps s' (Took AreNamed old now)
  unfolding Ends T P
  finished k script tracing mid now s s' g end within ending few (written, (left, recorded, out), is) = ends_by k script tracing mid now s g s' written end within ending few left recorded out is

  -- out of memory between two steps, and what was due let go
  pub cut_before_step : (k : Kernel) (script : List Command) (tracing : Tracing) (mid now : Outer) → Going plan first held choices steps k script tracing AreNamed old mid due → steps ≤ plan.budget → FitsRoom due → LetGo AreNamed mid now due → Ran first plan choices steps stop.NoMemory (Took AreNamed old now)
  cut_before_step k script tracing mid now g within few goes =
      let r = only_let_go Nothing Nothing Nothing AreNamed mid now due goes in
      let whole = texts_at plan g.at choices (end_of plan g.at choices steps) in
      let fronts = texts_begin plan g.at choices (end_of plan g.at choices steps) in
      record {
        last = g.at;
        is_run = run_of plan.rule first held choices steps g.at g.reached;
        ruled = ruled_of plan.rule first held choices steps g.at g.reached;
        within = within;
        wrote = cut_somewhere Nothing Nothing Nothing AreNamed old mid now due no_texts (so_far plan g.at choices) whole fronts (λ text none. nothing_more _ text _ none fronts.report) (λ text none. nothing_more _ text _ none fronts.trace) (λ text none. nothing_more _ text _ none fronts.choices) g.given r;
        near = near_from plan first choices steps (Took AreNamed old now) (so_far plan g.at choices) (behind g.given.front r.taken) g.lasts (took_on AreNamed old mid now g.given.front r.taken g.given.took r.took) (near_given AreNamed old mid due (so_far plan g.at choices) r.taken g.given few);
      }

  module _ (goes_on : GoesOn) (k k' : Kernel) (script script' : List Command) (tracing : Tracing) (mid now : Outer) (s' : Stop) (few : FitsRoom due) (g : Going plan first held choices steps k script tracing AreNamed old mid due) where
    -- a kernel that stands for the same configuration
    moved : StandsFor k' g.at → script' ≡ g.at.script → Going plan first held choices steps k' script' tracing AreNamed old mid due
    moved stands same = record { at = g.at; stands = stands; left = sym same; reached = g.reached; sound = g.sound; counted = g.counted; design = g.design; keeps = g.keeps; given = g.given; lasts = g.lasts }

    ends_so : (s : Stop) → IsEnd s → StandsFor k' g.at → script' ≡ g.at.script → steps < plan.budget → end_of plan g.at choices steps ≡ Some s → Ends k' tracing mid now s s' → Ran first plan choices steps s' (Took AreNamed old now)
    unfolding moved
    ends_so s end stands same below ending closes = finished k' script' tracing mid now s s' (moved stands same) end (omega (arith, below)) ending few closes

    -- no step is left
    pub ended_run : (s : Stop) → IsEnd s → StepsOn k k' script script' made.Ended step → steps < plan.budget → IsEndedAs k' s
        → Finishes (Closes (IsClosing k' s) (TextFor plan.vcd (LastPointOf k' tracing)) plan.vcd plan.choices AreNamed mid now due) s s' → Ran first plan choices steps s' (Took AreNamed old now)
    unfolding Ends
    ended_run s end over below how closes = from (step g.at) refl (over g.at g.stands g.left)
      where
        from : (o : Outcome) → step g.at ≡ o → IsOver k' g.at o × (script' ≡ g.at.script) → Ran first plan choices steps s' (Took AreNamed old now)
        from (went d) e h = absurd h.0
        from (faulted f) e h = absurd h.0
        from takes e h = absurd h.0
        from ended e h =
            ends_so s end h.0 h.1 below
            (ap (λ b. stop_within g.at plan.rule (length choices) b (step g.at)) (not_used_up steps plan.budget below) ∙ ap (stop_at g.at plan.rule (length choices)) e
            ∙ ap (λ b. Some (if b then stop.Stopped else stop.Done)) (ap (λ x. x.stopped) h.0.cycle) ∙ ap (λ t. Some t) (sym how)) closes

    -- the next step is a fault
    pub faulted_run : (f : RunFault) → StepsOn k k' script script' (made.Fault f) step → steps < plan.budget
        → Finishes (Closes (IsClosing k' (stop.Fault f)) (TextFor plan.vcd (LastPointOf k' tracing)) plan.vcd plan.choices AreNamed mid now due) (stop.Fault f) s' → Ran first plan choices steps s' (Took AreNamed old now)
    unfolding Ends
    faulted_run f fault below closes = from (step g.at) refl (fault g.at g.stands g.left)
      where
        from : (o : Outcome) → step g.at ≡ o → IsFault k' f g.at o × (script' ≡ g.at.script) → Ran first plan choices steps s' (Took AreNamed old now)
        from (went d) e h = absurd h.0
        from (faulted x) e h =
            ends_so (stop.Fault f) tt h.0.1 h.1 below
            (ap (λ b. stop_within g.at plan.rule (length choices) b (step g.at)) (not_used_up steps plan.budget below) ∙ ap (stop_at g.at plan.rule (length choices)) e
            ∙ ap (λ y. Some (stop.Fault y)) (sym h.0.0)) closes
        from takes e h = absurd h.0
        from ended e h = absurd h.0

    -- a listed choice is missing or not runnable
    pub unready_run : (place : ℕ) (next : Chooser) → place ≡ length choices + 1 → StepsOn k k' script script' made.NotReady step → AsksRule k held next made.NotReady → steps < plan.budget
        → Finishes (Closes (IsClosing k' (stop.Replay place)) (TextFor plan.vcd (LastPointOf k' tracing)) plan.vcd plan.choices AreNamed mid now due) (stop.Replay place) s' → Ran first plan choices steps s' (Took AreNamed old now)
    unfolding Ends
    unready_run place next at_place none asks below closes = from (step g.at) refl (none g.at g.stands g.left)
      where
        missed : step g.at ≡ takes → missing g.at.processes.runnable (picked held g.at.processes.runnable) ≡ true
        missed e = rule_missed g.at (goes_on.once g.at g.sound) held (subst (AskedRule held next g.at made.NotReady) e (asks g.at g.stands)).0

        ending : step g.at ≡ takes → stop_taking g.at plan.rule (length choices) ≡ Some (stop.Replay (length choices + 1))
        ending e = not_taken plan.rule (length choices) g.at held g.reached.holds (missed e) (only_lists_miss g.at (goes_on.once g.at g.sound) held k g.stands e (missed e))

        from : (o : Outcome) → step g.at ≡ o → IsUntaken k' g.at o × (script' ≡ g.at.script) → Ran first plan choices steps s' (Took AreNamed old now)
        from (went d) e h = absurd h.0
        from (faulted x) e h = absurd h.0
        from takes e h =
            ends_so (stop.Replay place) tt h.0 h.1 below
            (ap (λ b. stop_within g.at plan.rule (length choices) b (step g.at)) (not_used_up steps plan.budget below) ∙ ap (stop_at g.at plan.rule (length choices)) e
            ∙ ending e ∙ ap (λ n. Some (stop.Replay n)) (sym at_place)) closes
        from ended e h = absurd h.0

  -- the budget is used up
  pub spent_run : (k : Kernel) (script : List Command) (tracing : Tracing) (mid now : Outer) (s s' : Stop) (g : Going plan first held choices steps k script tracing AreNamed old mid due) → FitsRoom due → IsEnd s → steps ≤ plan.budget → plan.budget ≤ steps → stop_within g.at plan.rule (length choices) true (step g.at) ≡ Some s
      → Finishes (Closes (IsClosing k s) (TextFor plan.vcd (LastPointOf k tracing)) plan.vcd plan.choices AreNamed mid now due) s s' → Ran first plan choices steps s' (Took AreNamed old now)
  unfolding Ends
  spent_run k script tracing mid now s s' g few end within spent ending closes =
      finished k script tracing mid now s s' g end within (ap (λ b. stop_within g.at plan.rule (length choices) b (step g.at)) (used_up steps plan.budget spent) ∙ ending) few closes

-- ---- the beginning

first_report : (plan : Plan) (first : Config) → first.trace.told ≡ [] → text_so_far plan.log first ≡ []
first_report plan first none = ap (flat_map (shown plan.log)) none

first_trace : (v : Option ℕ) (k : Kernel) (first : Config) → StandsFor k first → first.trace.snapshots ≡ [] → (text : List ℕ) → TextFor v (HeaderOf k) text → text_for v (trace_so_far first) ≡ text
first_trace None k first stands none text is = sym is
first_trace (Some id) k first stands none text is = ap (λ ss. header first.design ++ all_values ss) none ∙ append-nil (header first.design) ∙ sym (is first stands)

pub first_keeps : (v : Option ℕ) (tracing : Tracing) (ss : List Snapshot) → Keeps tracing [] → ss ≡ [] → KeepsIf v tracing ss
first_keeps None tracing ss keeps none = tt
first_keeps (Some id) tracing ss keeps none = subst (Keeps tracing) (sym none) keeps

-- before the first step there is nothing
nothing_given : (AreNamed : Names → Type 0) (outer : Outer) → Given AreNamed outer outer no_texts no_texts
nothing_given AreNamed outer = record { front = no_texts; took = took_nothing AreNamed outer; report = refl; trace = refl; choices = refl }

none_before : (plan : Plan) (first : Config) (base : Texts) → Lasts plan first [] 0 base
none_before plan first base m one = absurd (omega (arith, one))

no_choices : (v : Option ℕ) → text_for v (choice_text []) ≡ []
no_choices None = refl
no_choices (Some id) = refl

module _ (plan : Plan) (first : Config) (k : Kernel) (script : List Command) (tracing : Tracing) (AreNamed : Names → Type 0) (old now : Outer) (left : Texts) (stands : StandsFor k first) (nothing_told : first.trace.told ≡ []) (nothing_seen : first.trace.snapshots ≡ []) where
  -- with the header of the trace given
  pub begins : first.script ≡ script → (sound : IsReached first) → sound.steps ≡ 0 → KeepsIf plan.vcd tracing first.trace.snapshots → Recorded Nothing (TextFor plan.vcd (HeaderOf k)) Nothing AreNamed old now no_texts left (Ok tt) → Going plan first (chooser_of plan.rule) [] 0 k script tracing AreNamed old now left
  begins is_left sound none keeps r = record {
    at = first;
    stands = stands;
    left = is_left;
    reached = starts plan.rule first;
    sound = sound;
    counted = none;
    design = refl;
    keeps = keeps;
    given = given_on Nothing (TextFor plan.vcd (HeaderOf k)) Nothing AreNamed old old now no_texts left no_texts (so_far plan first []) (λ text none. first_report plan first nothing_told ∙ sym none) (first_trace plan.vcd k first stands nothing_seen) (λ text none. no_choices plan.choices ∙ sym none) (nothing_given AreNamed old) r;
    lasts = none_before plan first (so_far plan first []);
  }

  header_ends : Option Stop
  header_ends = end_of plan first [] 0

  header_texts : Texts
  header_texts = texts_at plan first [] header_ends

  header_begun : AreFronts no_texts header_texts
  header_begun = record { report = (_, refl); trace = (_, refl); choices = (_, refl) }

  header_traces : (text : List ℕ) → TextFor plan.vcd (HeaderOf k) text → IsFront text header_texts.trace
  unfolding header_texts header_ends
  header_traces text is = front_as _ _ _ (sym (first_trace plan.vcd k first stands nothing_seen text is)) (trace_begins plan first [] (end_of plan first [] 0))

  header_nothing : (text other : List ℕ) → Nothing text → IsFront text other
  header_nothing text other none = front_as _ _ _ none (other, refl)

  header_ran : (s : Stop) → Wrote (Took AreNamed old now) header_ends header_texts s → Ran first plan [] 0 s (Took AreNamed old now)
  unfolding header_texts header_ends
  header_ran s wrote = record {
    last = first;
    is_run = refl;
    ruled = refl;
    within = omega arith;
    wrote = wrote;
    near = λ m one. absurd (omega (arith, one));
  }

  -- cut in that header
  pub cut_in_header : (e : Trouble) → Recorded Nothing (TextFor plan.vcd (HeaderOf k)) Nothing AreNamed old now no_texts left (Err e) → Ran first plan [] 0 (cut_by e) (Took AreNamed old now)
  cut_in_header trouble.Failed r = header_ran stop.WriteFault (cut_short Nothing (TextFor plan.vcd (HeaderOf k)) Nothing AreNamed old old now no_texts left no_texts header_texts header_begun (λ text h. header_nothing text _ h) header_traces (λ text h. header_nothing text _ h) (nothing_given AreNamed old) r)
  cut_in_header trouble.NoMemory r = header_ran stop.NoMemory (cut_somewhere Nothing (TextFor plan.vcd (HeaderOf k)) Nothing AreNamed old old now no_texts left no_texts header_texts header_begun (λ text h. header_nothing text _ h) header_traces (λ text h. header_nothing text _ h) (nothing_given AreNamed old) r)

-- out of memory before the first step
pub never_began : (plan : Plan) (first : Config) (AreNamed : Names → Type 0) (outer : Outer) → Ran first plan [] 0 stop.NoMemory (Took AreNamed outer outer)
never_began plan first AreNamed outer = record {
  last = first;
  is_run = refl;
  ruled = refl;
  within = omega arith;
  wrote = record { front = no_texts; fronts = record { report = (_, refl); trace = (_, refl); choices = (_, refl) }; took = took_nothing AreNamed outer };
  near = λ m one. absurd (omega (arith, one));
}
