use Rattle.std.proofs.Common.{◌<◌, ◌+◌, ◌-◌, ◌^◌, All, length, refl, sym, subst, arith}
use Rattle.std.proofs.lemmas.Option.{IfSome_then}
use Rattle.flat_design.specs.declared.design.SemaphorePart.{SemaphorePart}
use Rattle.sim_io.proofs.Chains.{write_keeps_on}
use Rattle.session.specs.Outputs.{AreNames}
use Rattle.session.proofs.Outputs.{finishes_from, let_go_from, recorded_from}
use Rattle.session.proofs.Going.{begins, cut_before_step, cut_in_header, never_began, ended_run, faulted_run, first_keeps, unready_run, spent_run}
use Rattle.session.proofs.Quietly.{come_on, from_there}
use Rattle.session.proofs.Turning.{told_on, told_cut, took_on, took_cut}
use Rattle.session.proofs.looping.run_on.Goals as goal

pub returns-in_default-clause-ran : goal.returns-in_default-clause-ran
returns-in_default-clause-ran g c = λ first h s r z. rw (c.cut.ensures, c.new-in_default.ensures)
    (never_began c.args.plan first (AreNames g.S.Shelf.stands c.args.shelf.now c.args.plan.vcd c.args.plan.choices) _)

pub returns-in-Err-clause-ran : goal.returns-in-Err-clause-ran
returns-in-Err-clause-ran g c = λ first h s r z. rw (c.cut-in-Err.ensures, c.from_vec.ensures, c.new-choices.ensures.items)
    (cut_in_header c.args.plan first c.args.k.now.kernel c.args.script.now c.new-tracing.result (AreNames g.S.Shelf.stands c.args.shelf.now c.args.plan.vcd c.args.plan.choices) _ _ _ h s.nothing_told s.nothing_seen c.in-Err.trouble (rw c.in-Ok.ensures at c.in-Err.ensures.records))

pub loop-steps-init : goal.loop-steps-init
loop-steps-init g c = record {
  within = omega arith;
  made = omega (arith, c.requires.begun.made);
  in_script = omega arith;
  none = c.new-events.ensures.items;
  faults_later = omega arith;
  writes_later = c.in-Ok-record_begin.ensures.cause.writes_later;
  kept = c.in-Ok-record_begin.ensures.kept;
  going = λ first h s r z. rw (c.new-choosing.ensures, c.new-choices.ensures.items)
      (begins c.args.plan first c.args.k.now.kernel c.args.script.now c.new-tracing.result (AreNames g.S.Shelf.stands c.args.shelf.now c.args.plan.vcd c.args.plan.choices) _ _ _ h s.nothing_told s.nothing_seen s.script_left r z
      (first_keeps c.args.plan.vcd c.new-tracing.result first.trace.snapshots c.new-tracing.ensures s.nothing_seen) (rw c.in-Ok.ensures at c.in-Ok-record_begin.ensures.records));
}

pub make_steps-requires-clause-asked : goal.make_steps-requires-clause-asked
make_steps-requires-clause-asked g c = λ n there left h q less.
    let begun = c.requires.begun in
    let here = c.loop-steps.invariant.going begun.first begun.stands begun.is_first begun.reached begun.no_steps in
    let so_far = come_on c.sound_runs_go_on.ensures c.args.plan begun.first _ _ _ _ _ _ (AreNames g.S.Shelf.stands c.args.shelf.now c.args.plan.vcd c.args.plan.choices) _ _ _ here c.at_once-most.result n c.at_once-most.ensures.alone less there left h q in
    c.runs_may_step.ensures there so_far.at so_far.stands so_far.sound
    (subst (λ d. d.events < 2 ^ 32 - 1) (sym so_far.design) begun.events)
    (subst (λ d. All (λ (p : SemaphorePart). p.start < 2 ^ 31) d.semaphores) (sym so_far.design) begun.starts)
    (omega (arith, so_far.counted, c.requires.budget, c.loop-steps-test.true, less, c.at_once-most.ensures.within))

pub make_steps-requires-clause-room : goal.make_steps-requires-clause-room
make_steps-requires-clause-room g c = omega (arith, c.requires.budget, c.loop-steps.invariant.made, c.loop-steps-test.true, c.at_once-most.ensures.within)

pub loop-steps-preserved-in-Ok-record_step : goal.loop-steps-preserved-in-Ok-record_step
loop-steps-preserved-in-Ok-record_step g c = record {
  within = omega (arith, c.in-Went.ensures.few, c.at_once-most.ensures.within, c.loop-steps-test.true);
  made = omega (arith, c.in-Went.ensures.made, c.loop-steps.invariant.made);
  in_script = c.in-Went.ensures.within;
  none = c.in-Went.ensures.none;
  faults_later = omega (arith, c.in-Ok-record_step.ensures.cause.faults_later);
  writes_later = omega (arith, c.in-Ok-record_step.ensures.cause.writes_later);
  kept = write_keeps_on _ _ _ _ _ _ _ _ c.loop-steps.invariant.kept c.in-Ok-record_step.ensures.kept;
  going = λ first h s r z.
      let at = from_there c.sound_runs_go_on.ensures c.args.plan first _ _ _ _ _ _ (AreNames g.S.Shelf.stands c.args.shelf.now c.args.plan.vcd c.args.plan.choices) _ _ _ (c.loop-steps.invariant.going first h s r z) c.at_once-most.result _ c.at_once-most.ensures.alone c.in-Went.ensures.few _ _ _ c.in-Went.ensures.stepped.quietly _ _ c.in-Went.told _ _ _ c.now-time.result.0 c.now-time.ensures (recorded_from g.S.Shelf.stands c.args.shelf.now c.loop-steps.shelf c.args.plan.vcd c.args.plan.choices c.loop-steps.invariant.kept.ids.stands _ _ _ _ _ _ _ _ c.in-Ok-record_step.ensures.records) in
      rw c.make_place.ensures.items
      (told_on c.sound_runs_go_on.ensures c.args.plan first _ _ _ _ _ _ _ _ _ (AreNames g.S.Shelf.stands c.args.shelf.now c.args.plan.vcd c.args.plan.choices) _ _ _ _ _ (come_on c.sound_runs_go_on.ensures c.args.plan first _ _ _ _ _ _ (AreNames g.S.Shelf.stands c.args.shelf.now c.args.plan.vcd c.args.plan.choices) _ _ _ (c.loop-steps.invariant.going first h s r z) c.at_once-most.result _ c.at_once-most.ensures.alone c.in-Went.ensures.few _ _ _ c.in-Went.ensures.stepped.quietly)
      c.in-Went.told at.0 at.1 c.in-Went.ensures.stepped.last _ c.in-Went.ensures.stepped.asks at.2);
}

pub returns-in-Err-record_step-clause-ran : goal.returns-in-Err-record_step-clause-ran
returns-in-Err-record_step-clause-ran g c = λ first h s r z.
    let at = from_there c.sound_runs_go_on.ensures c.args.plan first _ _ _ _ _ _ (AreNames g.S.Shelf.stands c.args.shelf.now c.args.plan.vcd c.args.plan.choices) _ _ _ (c.loop-steps.invariant.going first h s r z) c.at_once-most.result _ c.at_once-most.ensures.alone c.in-Went.ensures.few _ _ _ c.in-Went.ensures.stepped.quietly _ _ c.in-Went.told _ _ _ c.now-time.result.0 c.now-time.ensures (recorded_from g.S.Shelf.stands c.args.shelf.now c.loop-steps.shelf c.args.plan.vcd c.args.plan.choices c.loop-steps.invariant.kept.ids.stands _ _ _ _ _ _ _ _ c.in-Err-record_step.ensures.records) in
    rw (c.cut-in-Err-record_step.ensures, c.from_vec-in-Err-record_step.ensures, c.make_place.ensures.items)
    (told_cut c.sound_runs_go_on.ensures c.args.plan first _ _ _ _ _ _ _ _ _ (AreNames g.S.Shelf.stands c.args.shelf.now c.args.plan.vcd c.args.plan.choices) _ _ _ _ _ (come_on c.sound_runs_go_on.ensures c.args.plan first _ _ _ _ _ _ (AreNames g.S.Shelf.stands c.args.shelf.now c.args.plan.vcd c.args.plan.choices) _ _ _ (c.loop-steps.invariant.going first h s r z) c.at_once-most.result _ c.at_once-most.ensures.alone c.in-Went.ensures.few _ _ _ c.in-Went.ensures.stepped.quietly)
    c.in-Went.told at.0 at.1 c.in-Went.ensures.stepped.last c.in-Err-record_step.trouble (omega (arith, c.in-Went.ensures.few, c.at_once-most.ensures.within, c.loop-steps-test.true)) c.hold_little.ensures at.2)

pub returns-in-Err-record_step-clause-kept : goal.returns-in-Err-record_step-clause-kept
returns-in-Err-record_step-clause-kept g c = write_keeps_on _ _ _ _ _ _ _ _ c.loop-steps.invariant.kept c.in-Err-record_step.ensures.kept

pub returns-in-Err-make_place-clause-ran : goal.returns-in-Err-make_place-clause-ran
returns-in-Err-make_place-clause-ran g c = λ first h s r z. rw (c.cut_between.ensures.cut, c.make_place.ensures.items)
    (cut_before_step c.args.plan first _ _ _ (AreNames g.S.Shelf.stands c.args.shelf.now c.args.plan.vcd c.args.plan.choices) _ _ _ _ _ _ _ (c.loop-steps.invariant.going first h s r z) (omega arith) c.hold_little.ensures
    (let_go_from g.S.Shelf.stands c.args.shelf.now c.loop-steps.shelf c.args.plan.vcd c.args.plan.choices c.loop-steps.invariant.kept.ids.stands _ _ _ c.cut_between.ensures.goes))

pub loop-steps-preserved : goal.loop-steps-preserved
loop-steps-preserved g c = record {
  within = omega (arith, c.in-Took.ensures.few, c.at_once-most.ensures.within, c.loop-steps-test.true);
  made = omega (arith, c.in-Took.ensures.made, c.loop-steps.invariant.made);
  in_script = c.in-Took.ensures.within;
  none = c.in-Took.ensures.none;
  faults_later = omega (arith, c.in-Ok-record_turn.ensures.cause.faults_later);
  writes_later = omega (arith, c.in-Ok-record_turn.ensures.cause.writes_later);
  kept = write_keeps_on _ _ _ _ _ _ _ _ c.loop-steps.invariant.kept c.in-Ok-record_turn.ensures.kept;
  going = λ first h s r z.
      took_on c.sound_runs_go_on.ensures c.args.plan first _ _ _ _ _ _ _ _ c.loop-steps.tracing (AreNames g.S.Shelf.stands c.args.shelf.now c.args.plan.vcd c.args.plan.choices) _ _ _ _ _ (come_on c.sound_runs_go_on.ensures c.args.plan first _ _ _ _ _ _ (AreNames g.S.Shelf.stands c.args.shelf.now c.args.plan.vcd c.args.plan.choices) _ _ _ (c.loop-steps.invariant.going first h s r z) c.at_once-most.result _ c.at_once-most.ensures.alone c.in-Took.ensures.few _ _ _ c.in-Took.ensures.stepped.quietly)
      c.in-Took.serial _ _ (rw c.make_place.ensures.items at c.add_choice.ensures) c.in-Took.ensures.stepped.last c.in-Took.ensures.stepped.asks
      (recorded_from g.S.Shelf.stands c.args.shelf.now c.loop-steps.shelf c.args.plan.vcd c.args.plan.choices c.loop-steps.invariant.kept.ids.stands _ _ _ _ _ _ _ _ c.in-Ok-record_turn.ensures.records);
}

pub record_turn-requires-clause-created : goal.record_turn-requires-clause-created
record_turn-requires-clause-created g c = IfSome_then c.args.plan.vcd c.requires.created (λ id is. c.loop-steps.invariant.kept.ids.created id is)

pub record_turn-requires-clause-listed : goal.record_turn-requires-clause-listed
record_turn-requires-clause-listed g c = IfSome_then c.args.plan.choices c.requires.listed (λ id is. c.loop-steps.invariant.kept.ids.created id is)

pub returns-in-Err-record_turn-clause-ran : goal.returns-in-Err-record_turn-clause-ran
returns-in-Err-record_turn-clause-ran g c = λ first h s r z. rw (c.cut-in-Err-record_turn.ensures, c.from_vec-in-Err-record_turn.ensures)
    (took_cut c.sound_runs_go_on.ensures c.args.plan first _ _ _ _ _ _ _ _ c.loop-steps.tracing (AreNames g.S.Shelf.stands c.args.shelf.now c.args.plan.vcd c.args.plan.choices) _ _ _ _ _ (come_on c.sound_runs_go_on.ensures c.args.plan first _ _ _ _ _ _ (AreNames g.S.Shelf.stands c.args.shelf.now c.args.plan.vcd c.args.plan.choices) _ _ _ (c.loop-steps.invariant.going first h s r z) c.at_once-most.result _ c.at_once-most.ensures.alone c.in-Took.ensures.few _ _ _ c.in-Took.ensures.stepped.quietly)
    c.in-Took.serial _ _ (rw c.make_place.ensures.items at c.add_choice.ensures) c.in-Took.ensures.stepped.last c.in-Took.ensures.stepped.asks c.in-Err-record_turn.trouble (omega (arith, c.in-Took.ensures.few, c.at_once-most.ensures.within, c.loop-steps-test.true)) c.hold_little.ensures
    (recorded_from g.S.Shelf.stands c.args.shelf.now c.loop-steps.shelf c.args.plan.vcd c.args.plan.choices c.loop-steps.invariant.kept.ids.stands _ _ _ _ _ _ _ _ c.in-Err-record_turn.ensures.records))

pub returns-in-Ended-clause-ran : goal.returns-in-Ended-clause-ran
returns-in-Ended-clause-ran g c = λ first h s r z. rw (c.finish.ensures.choices, c.finish.ensures.steps, c.make_place.ensures.items)
    (ended_run c.args.plan first _ _ _ (AreNames g.S.Shelf.stands c.args.shelf.now c.args.plan.vcd c.args.plan.choices) _ _ c.sound_runs_go_on.ensures _ _ _ _ _ _ _ _ c.hold_little.ensures (come_on c.sound_runs_go_on.ensures c.args.plan first _ _ _ _ _ _ (AreNames g.S.Shelf.stands c.args.shelf.now c.args.plan.vcd c.args.plan.choices) _ _ _ (c.loop-steps.invariant.going first h s r z) c.at_once-most.result _ c.at_once-most.ensures.alone c.in-Ended.ensures.few _ _ _ c.in-Ended.ensures.stepped.quietly)
    _ c.ended_as-ending.ensures.end c.in-Ended.ensures.stepped.last (omega (arith, c.in-Ended.ensures.few, c.at_once-most.ensures.within, c.loop-steps-test.true)) c.ended_as-ending.ensures.ended
    (finishes_from g.S.Shelf.stands c.args.shelf.now c.loop-steps.shelf c.args.plan.vcd c.args.plan.choices c.loop-steps.invariant.kept.ids.stands _ _ _ _ _ _ _ c.finish.ensures.finishes))

pub returns-in-Fault-clause-ran : goal.returns-in-Fault-clause-ran
returns-in-Fault-clause-ran g c = λ first h s r z. rw (c.finish-in-Fault.ensures.choices, c.finish-in-Fault.ensures.steps, c.make_place.ensures.items)
    (faulted_run c.args.plan first _ _ _ (AreNames g.S.Shelf.stands c.args.shelf.now c.args.plan.vcd c.args.plan.choices) _ _ c.sound_runs_go_on.ensures _ _ _ _ _ _ _ _ c.hold_little.ensures (come_on c.sound_runs_go_on.ensures c.args.plan first _ _ _ _ _ _ (AreNames g.S.Shelf.stands c.args.shelf.now c.args.plan.vcd c.args.plan.choices) _ _ _ (c.loop-steps.invariant.going first h s r z) c.at_once-most.result _ c.at_once-most.ensures.alone c.in-Fault.ensures.few _ _ _ c.in-Fault.ensures.stepped.quietly)
    _ c.in-Fault.ensures.stepped.last (omega (arith, c.in-Fault.ensures.few, c.at_once-most.ensures.within, c.loop-steps-test.true))
    (finishes_from g.S.Shelf.stands c.args.shelf.now c.loop-steps.shelf c.args.plan.vcd c.args.plan.choices c.loop-steps.invariant.kept.ids.stands _ _ _ _ _ _ _ c.finish-in-Fault.ensures.finishes))

pub returns-in-NotReady-clause-ran : goal.returns-in-NotReady-clause-ran
returns-in-NotReady-clause-ran g c = λ first h s r z. rw (c.finish-in-NotReady.ensures.choices, c.finish-in-NotReady.ensures.steps, c.make_place.ensures.items)
    (unready_run c.args.plan first _ _ _ (AreNames g.S.Shelf.stands c.args.shelf.now c.args.plan.vcd c.args.plan.choices) _ _ c.sound_runs_go_on.ensures _ _ _ _ _ _ _ _ c.hold_little.ensures (come_on c.sound_runs_go_on.ensures c.args.plan first _ _ _ _ _ _ (AreNames g.S.Shelf.stands c.args.shelf.now c.args.plan.vcd c.args.plan.choices) _ _ _ (c.loop-steps.invariant.going first h s r z) c.at_once-most.result _ c.at_once-most.ensures.alone c.in-NotReady.ensures.few _ _ _ c.in-NotReady.ensures.stepped.quietly)
    (length c.loop-steps.choices.items + 1) c.make_steps.new.chooser refl c.in-NotReady.ensures.stepped.last c.in-NotReady.ensures.stepped.asks (omega (arith, c.in-NotReady.ensures.few, c.at_once-most.ensures.within, c.loop-steps-test.true))
    (finishes_from g.S.Shelf.stands c.args.shelf.now c.loop-steps.shelf c.args.plan.vcd c.args.plan.choices c.loop-steps.invariant.kept.ids.stands _ _ _ _ _ _ _ (rw (c.not_ready-ending.ensures.place, c.as_slice.ensures.value, c.make_place.ensures.items) at c.finish-in-NotReady.ensures.finishes)))

pub returns-in-NoMemory-clause-ran : goal.returns-in-NoMemory-clause-ran
returns-in-NoMemory-clause-ran g c = λ first h s r z. rw (c.cut_between-in-NoMemory.ensures.cut, c.make_place.ensures.items)
    (cut_before_step c.args.plan first _ _ _ (AreNames g.S.Shelf.stands c.args.shelf.now c.args.plan.vcd c.args.plan.choices) _ _ _ _ _ _ _ (come_on c.sound_runs_go_on.ensures c.args.plan first _ _ _ _ _ _ (AreNames g.S.Shelf.stands c.args.shelf.now c.args.plan.vcd c.args.plan.choices) _ _ _ (c.loop-steps.invariant.going first h s r z) c.at_once-most.result _ c.at_once-most.ensures.alone c.in-NoMemory.ensures.few _ _ _ c.in-NoMemory.ensures.stepped.quietly) (omega (arith, c.in-NoMemory.ensures.few, c.at_once-most.ensures.within, c.loop-steps-test.true)) c.hold_little.ensures
    (let_go_from g.S.Shelf.stands c.args.shelf.now c.loop-steps.shelf c.args.plan.vcd c.args.plan.choices c.loop-steps.invariant.kept.ids.stands _ _ _ c.cut_between-in-NoMemory.ensures.goes))

pub returns-clause-ran : goal.returns-clause-ran
returns-clause-ran g c = λ first h s r z.
    let so_far = c.loop-steps.invariant.going first h s r z in
    rw (c.finish-2.ensures.choices, c.finish-2.ensures.steps)
    (spent_run c.args.plan first _ _ _ (AreNames g.S.Shelf.stands c.args.shelf.now c.args.plan.vcd c.args.plan.choices) _ _ _ _ _ _ _ _ _ so_far c.hold_little-2.ensures c.end_at_budget-ending.ensures.end c.loop-steps.invariant.within c.loop-steps-test.false
    (c.end_at_budget-ending.ensures.ending so_far.at c.args.plan.rule (length c.loop-steps.choices.items) so_far.stands so_far.left)
    (finishes_from g.S.Shelf.stands c.args.shelf.now c.loop-steps.shelf c.args.plan.vcd c.args.plan.choices c.loop-steps.invariant.kept.ids.stands _ _ _ _ _ _ _ c.finish-2.ensures.finishes))
