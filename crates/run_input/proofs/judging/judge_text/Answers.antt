use Rattle.run_input.proofs.judging.judge_text.Goals as goal

pub returns-in-Err-Fault-clause-fault : goal.returns-in-Err-Fault-clause-fault
returns-in-Err-Fault-clause-fault c = rw c.in-Err-Fault.field-0-is (rw c.in-Err-Fault.field-0-is at c.in-Err-Fault.ensures.fault)

pub returns-in-Err-Fault-judge_script-clause-fault : goal.returns-in-Err-Fault-judge_script-clause-fault
returns-in-Err-Fault-judge_script-clause-fault c =
    let accepted = c.in-Ok.ensures.accepted in
    (accepted.0, c.in-Ok.design, accepted.1, accepted.2, rw c.in-Err-Fault-judge_script.field-0-is at c.in-Err-Fault-judge_script.ensures.fault)

pub returns-in-Ok-judge_script-clause-accepted : goal.returns-in-Ok-judge_script-clause-accepted
returns-in-Ok-judge_script-clause-accepted c =
    let accepted = c.in-Ok.ensures.accepted in
    (accepted.0, record { accepted = accepted.1; is_design = accepted.2; named = c.in-Ok-judge_script.ensures.accepted })
