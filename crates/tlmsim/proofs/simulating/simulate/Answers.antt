use Rattle.std.proofs.Common.{◌≡◌, Err, ap, arith, inl, inr, refl, ⊎_elim}
use Rattle.session.proofs.SimIo.Chains.{rose_on, were_told_on}
use Rattle.command_line.specs.Line.{Simulate}
use Rattle.command_line.specs.Views.{simulation_of}
use Rattle.session.specs.Outputs.{AreNames}
use Rattle.tlmsim.specs.Call.{names_in}
use Rattle.tlmsim.proofs.Courses.{holds_by, ran_some, ran_with}
use Rattle.tlmsim.proofs.Ends.{copied_text, made_on, named_by, not_begun, only_held, simulated, spared_on, texts_later, unfit_works}
use Rattle.tlmsim.proofs.Holding.{held_by}
use Rattle.tlmsim.proofs.Large.{large_unread, small_unfit}
use Rattle.tlmsim.proofs.simulating.simulate.Goals as goal

pub returns-in-Err-judge-clause-works : goal.returns-in-Err-judge-clause-works
returns-in-Err-judge-clause-works g c = λ words err err' faults faults' line. rw c.unfit.ensures
    (unfit_works _ (simulation_of c.args.simulation) line c.in-Ok.texts.model c.in-Ok.texts.script c.in-Ok.texts.replay (rw c.replay_file.ensures at c.in-Ok.ensures.texts) c.in-Err-judge.stop c.in-Err-judge.ensures.fault
    (record { out = refl; files = c.in-Ok.ensures.files }))

pub returns-in-Err-create_files-clause-works : goal.returns-in-Err-create_files-clause-works
returns-in-Err-create_files-clause-works g c = λ words err err' faults faults' line. rw (c.cut.ensures, c.new.ensures)
    (not_begun _
    (record {
      mode = Simulate (simulation_of c.args.simulation);
      line = line;
      model = c.in-Ok.texts.model;
      script = c.in-Ok.texts.script;
      replay = c.in-Ok.texts.replay;
      texts = texts_later _ _ _ _ _ _ _ _ _ c.in-Err-create_files.ensures.kept.told (rw c.replay_file.ensures at c.in-Ok.ensures.texts);
      m = c.in-Ok-judge.ensures.accepted.0;
      design = c.in-Ok-judge.judged.design;
      commands = c.in-Ok-judge.judged.script;
      accepts = c.in-Ok-judge.ensures.accepted.1;
      listed = c.in-Ok-judge.judged.replay;
      reads = c.in-Ok-judge.ensures.replay;
      sound = c.in-Ok-judge.ensures.runs.sound;
    })
    (rw (copied_text c.args.simulation.vcd, copied_text c.args.simulation.choices) at c.in-Err-create_files.ensures.refused)
    (record {
      out = refl;
      files = spared_on (names_in (Simulate (simulation_of c.args.simulation))) _ _ _ c.in-Ok.ensures.files (rw (copied_text c.args.simulation.vcd, copied_text c.args.simulation.choices) at c.in-Err-create_files.ensures.spared);
    })
    c.in-Err-create_files.trouble (λ is. rw c.in-Ok.ensures.writes at (c.in-Err-create_files.ensures.cause.rose (ap (λ e. Err e) is))))

pub returns-clause-works : goal.returns-clause-works
returns-clause-works g c = λ words err err' faults faults' line.
    let names = names_in (Simulate (simulation_of c.args.simulation)) in
    let ran = c.run.ensures.ran in
    simulated _ (simulation_of c.args.simulation) line c.in-Ok.texts.model c.in-Ok.texts.script c.in-Ok.texts.replay
    (texts_later _ _ _ _ _ _ _ _ _ (were_told_on _ _ _ c.in-Ok-create_files.ensures.kept.told c.run.ensures.kept.told) (rw c.replay_file.ensures at c.in-Ok.ensures.texts))
    c.in-Ok-judge.ensures.accepted.0 c.in-Ok-judge.judged.design c.in-Ok-judge.judged.script c.in-Ok-judge.ensures.accepted.1 c.in-Ok-judge.judged.replay c.in-Ok-judge.ensures.replay c.in-Ok-judge.ensures.runs.sound c.run.ensures.orderly
    c.plan_of-plan.result c.plan_of-plan.ensures.plans c.run.result.choices c.run.result.steps c.run.result.stop
    (ran_with _ _ _ _ _ _ _ (holds_by _ (AreNames g.S.Shelf.stands c.create_files.new.shelf c.plan_of-plan.result.vcd c.plan_of-plan.result.choices) names _ _ refl refl refl (made_on names _ _ _ c.in-Ok.ensures.files (rw (copied_text c.args.simulation.vcd, copied_text c.args.simulation.choices) at c.in-Ok-create_files.ensures.made)) c.run.ensures.kept.told (named_by g.S.Shelf.stands c.create_files.new.shelf _ _ _ _ names _ c.plan_of-plan.ensures.vcd c.plan_of-plan.ensures.choices (rw (copied_text c.args.simulation.vcd, copied_text c.args.simulation.choices) at c.in-Ok-create_files.ensures.named))) ran)
    c.run.ensures.no_end_before
    (λ is. ⊎_elim (λ r. inl r) (λ r. inr (rose_on _ _ _ _ (omega (arith, c.in-Ok.ensures.writes, c.in-Ok-create_files.ensures.cause.later)) r (omega arith))) (c.run.ensures.cause.rose is))
    c.run.ensures.alone

pub returns-clause-files : goal.returns-clause-files
returns-clause-files g c =
    let names = names_in (Simulate (simulation_of c.args.simulation)) in
    let taken = ran_some _ _ _ _ _ _ c.run.ensures.ran in
    only_held names taken.0 _ _ (held_by (AreNames g.S.Shelf.stands c.create_files.new.shelf c.plan_of-plan.result.vcd c.plan_of-plan.result.choices) names taken.0 _ _ _ (made_on names _ _ _ c.in-Ok.ensures.files (rw (copied_text c.args.simulation.vcd, copied_text c.args.simulation.choices) at c.in-Ok-create_files.ensures.made)) c.run.ensures.kept.told (named_by g.S.Shelf.stands c.create_files.new.shelf _ _ _ _ names _ c.plan_of-plan.ensures.vcd c.plan_of-plan.ensures.choices (rw (copied_text c.args.simulation.vcd, copied_text c.args.simulation.choices) at c.in-Ok-create_files.ensures.named)) (λ named. taken.1.files names named))

pub returns-in-Err-clause-no_more : goal.returns-in-Err-clause-no_more
returns-in-Err-clause-no_more g c = rw c.unread.ensures (large_unread c.in-Err.stop _ (rw c.replay_file.ensures at c.in-Err.ensures.no_more))

pub returns-in-Err-judge-clause-no_more : goal.returns-in-Err-judge-clause-no_more
returns-in-Err-judge-clause-no_more g c = rw c.unfit.ensures (small_unfit c.in-Err-judge.stop _)

pub run-requires-clause-budget : goal.run-requires-clause-budget
run-requires-clause-budget g c =
    let same : c.plan_of-plan.result.budget ≡ c.args.simulation.budget = c.plan_of-plan.ensures.plans.budget_is in
    omega (arith, same, c.requires.budget)
