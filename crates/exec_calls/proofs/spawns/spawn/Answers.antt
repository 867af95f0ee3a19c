use Rattle.std.proofs.Common.{Ok, Err, map, subst}
use Rattle.flat_design.specs.Code.{spawn_term, term_of}
use Rattle.exec_calls.specs.Valued.{JudgesFirst, AreFirst}
use Rattle.exec_calls.proofs.SpawnHanding.{argument_at_fault, too_many, lacks, spawned_with}
use Rattle.exec_calls.proofs.spawns.spawn.Goals as goal

pub returns-in-Err-clause-does : goal.returns-in-Err-clause-does
returns-in-Err-clause-does c = argument_at_fault c.args.k.now c.args.p (spawn_term c.args.form.now) c.in-Err.fault
    (subst (λ es. JudgesFirst c.args.k.now c.args.p (Err c.in-Err.fault) (map term_of es)) c.as_slice.ensures.value c.in-Err.ensures)

pub returns-in-Err-judge_number-clause-does : goal.returns-in-Err-judge_number-clause-does
returns-in-Err-judge_number-clause-does c = too_many c.args.k.now c.args.p (spawn_term c.args.form.now) (subst (λ es. JudgesFirst c.args.k.now c.args.p (Ok tt) (map term_of es)) c.as_slice.ensures.value c.in-Ok.ensures)
    c.in-Err-judge_number.fault c.in-Err-judge_number.ensures

pub returns-in-Err-first_arguments-clause-does : goal.returns-in-Err-first_arguments-clause-does
returns-in-Err-first_arguments-clause-does c = lacks c.args.k.now c.args.p (spawn_term c.args.form.now) (subst (λ es. JudgesFirst c.args.k.now c.args.p (Ok tt) (map term_of es)) c.as_slice.ensures.value c.in-Ok.ensures)
    c.in-Ok-judge_number.ensures c.args.k.now (λ d h. h)

pub returns-in-Ok-spawn_with-clause-does : goal.returns-in-Ok-spawn_with-clause-does
returns-in-Ok-spawn_with-clause-does c = spawned_with c.args.k.now c.args.p (spawn_term c.args.form.now) (subst (λ es. JudgesFirst c.args.k.now c.args.p (Ok tt) (map term_of es)) c.as_slice.ensures.value c.in-Ok.ensures)
    c.in-Ok-judge_number.ensures c.spawn_with.new.k c.in-Ok-first_arguments.arguments
    (subst (λ es. AreFirst c.args.k.now c.args.p c.in-Ok-first_arguments.arguments c.args.form.now.function (map term_of es)) c.as_slice-2.ensures.value c.in-Ok-first_arguments.ensures)
    c.in-Ok-spawn_with.ensures.steps

pub returns-in-Err-spawn_with-clause-does : goal.returns-in-Err-spawn_with-clause-does
returns-in-Err-spawn_with-clause-does c = lacks c.args.k.now c.args.p (spawn_term c.args.form.now) (subst (λ es. JudgesFirst c.args.k.now c.args.p (Ok tt) (map term_of es)) c.as_slice.ensures.value c.in-Ok.ensures)
    c.in-Ok-judge_number.ensures c.spawn_with.new.k c.in-Err-spawn_with.ensures.stays
