use Rattle.std.proofs.Common.{◌≡◌, ap, arith}
use Rattle.session.specs.SimIo.Contents.{Grew}
use Rattle.session.specs.declared.plans.Plan.{Plan}
use Rattle.tlmsim.proofs.Courses.{ran_some, ran_with}
use Rattle.tlmsim.proofs.Ends.{files_stay, generated_so, steps_rose}
use Rattle.tlmsim.proofs.Large.{small_unfit}
use Rattle.tlmsim.proofs.generating.generate.Goals as goal

pub returns-clause-files : goal.returns-clause-files
returns-clause-files g c =
    let taken = ran_some _ _ _ _ _ _ (rw c.plan_of.ensures at c.run-outcome.ensures.ran) in
    files_stay g.S.Shelf.stands c.args.shelf.now _ _ taken.0 taken.1

pub returns-clause-works : goal.returns-clause-works
returns-clause-works g c = λ words err err' faults faults' line.
    let accepted = rw c.as_slice.ensures at c.in-Ok-judge_text.ensures.accepted in
    let taken = ran_some _ _ _ _ _ _ (rw c.plan_of.ensures at c.run-outcome.ensures.ran) in
    generated_so _ c.args.generated line c.in-Ok.model c.in-Ok.ensures.model accepted.0 c.in-Ok-judge_text.judged.design c.in-Ok-judge_text.judged.script accepted.1 c.in-Ok-judge_text.ensures.runs.sound c.run-outcome.ensures.orderly
    _ c.plan_of.ensures c.run-outcome.result c.tell_steps.result (g.O.Sink.holds c.run-outcome.new.out) c.tell_steps.ensures.tells
    (ran_with _ _ _ _ _ _ (λ t. Grew (g.O.Sink.holds c.args.out.now) (g.O.Sink.holds c.run-outcome.new.out) t.report) (λ t took. took.report) c.run-outcome.ensures.ran)
    c.run-outcome.ensures.no_end_before
    (files_stay g.S.Shelf.stands c.args.shelf.now _ _ taken.0 taken.1)
    (steps_rose _ _ _ _ _ _ _ c.tell_steps.ensures.tells c.run-outcome.ensures.cause.faults_later c.tell_steps.ensures.cause.later (c.run-outcome.ensures.alone (ap (λ (p : Plan). p.vcd) c.plan_of.ensures) (ap (λ (p : Plan). p.choices) c.plan_of.ensures)) c.tell_steps.ensures.cause.rose)

pub returns-in-Err-clause-no_more : goal.returns-in-Err-clause-no_more
returns-in-Err-clause-no_more g c = rw c.unfit.ensures (small_unfit c.in-Err.stop _)

pub run-outcome-requires-clause-budget : goal.run-outcome-requires-clause-budget
run-outcome-requires-clause-budget g c =
    let same : c.plan_of.result.budget ≡ c.args.generated.budget = ap (λ (p : Plan). p.budget) c.plan_of.ensures in
    omega (arith, same, c.requires.budget)
