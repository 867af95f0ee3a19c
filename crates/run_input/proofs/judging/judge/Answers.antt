use Rattle.std.proofs.Common.{subst, List, ℕ, None}
use Rattle.run_input.specs.Acceptance.{Accepts}
use Rattle.run_input.specs.Refused.{HasTextFault}
use Rattle.run_input.proofs.Refusals.{beside_replay}
use Rattle.run_input.proofs.judging.judge.Goals as goal

pub returns-in-Err-clause-fault : goal.returns-in-Err-clause-fault
returns-in-Err-clause-fault c =
    let P : List ℕ → Type 0 = λ text. HasTextFault text c.as_slice-2.result.now None c.in-Err.stop in
    let Q : List ℕ → Type 0 = λ text. HasTextFault c.args.texts.now.model text None c.in-Err.stop in
    beside_replay c.args.texts.now.model c.args.texts.now.script c.args.texts.now.replay c.in-Err.stop (subst Q c.as_slice-2.ensures (subst P c.as_slice.ensures c.in-Err.ensures.fault))

pub returns-in-Ok-judge_replay-clause-accepted : goal.returns-in-Ok-judge_replay-clause-accepted
returns-in-Ok-judge_replay-clause-accepted c =
    let accepted = c.in-Ok.ensures.accepted in
    let judged = c.in-Ok.judged in
    let P : List ℕ → Type 0 = λ text. Accepts text c.as_slice-2.result.now accepted.0 judged.design judged.script in
    let Q : List ℕ → Type 0 = λ text. Accepts c.args.texts.now.model text accepted.0 judged.design judged.script in
    (accepted.0, subst Q c.as_slice-2.ensures (subst P c.as_slice.ensures accepted.1))

pub returns-in-Err-Syntax-clause-fault : goal.returns-in-Err-Syntax-clause-fault
returns-in-Err-Syntax-clause-fault c =
    let accepted = c.in-Ok.ensures.accepted in
    let judged = c.in-Ok.judged in
    let P : List ℕ → Type 0 = λ text. Accepts text c.as_slice-2.result.now accepted.0 judged.design judged.script in
    let Q : List ℕ → Type 0 = λ text. Accepts c.args.texts.now.model text accepted.0 judged.design judged.script in
    (accepted.0, judged.design, judged.script, subst Q c.as_slice-2.ensures (subst P c.as_slice.ensures accepted.1), rw c.in-Err-Syntax.field-0-is at c.in-Err-Syntax.ensures.fault)
