use Rattle.std.proofs.Common.{Ok}
use Rattle.exec_calls.specs.SimModel.Values.{on_ok}
use Rattle.exec_calls.specs.SimModel.Payloads.{with_released}
use Rattle.exec_calls.specs.SimModel.Reading.{payload_number, live_payload}
use Rattle.exec_calls.specs.SimModel.Storing.{passes}
use Rattle.exec_calls.specs.SimModel.Transport.{with_pool}
use Rattle.exec_calls.proofs.ExecData.Following.{evaluated, at_fault}
use Rattle.exec_transactions.proofs.payloads.release.Goals as goal

pub returns-in-Ok-clause-does : goal.returns-in-Ok-clause-does
returns-in-Ok-clause-does c = evaluated c.args.k.now c.args.p c.payload_at.result (λ h. payload_number h c.args.n) c.payload_at.ensures
    (λ d q i r t. on_ok (live_payload d t) (λ x. Ok (with_pool (passes d q r) (with_released d.transactions.pool t)))) c.release.new.k c.release.result c.in-Ok.t c.in-Ok.is c.release.ensures.does

pub returns-in-Err-clause-does : goal.returns-in-Err-clause-does
returns-in-Err-clause-does c = at_fault c.args.k.now c.args.p c.payload_at.result (λ h. payload_number h c.args.n) c.payload_at.ensures
    (λ d q i r t. on_ok (live_payload d t) (λ x. Ok (with_pool (passes d q r) (with_released d.transactions.pool t)))) c.in-Err.fault c.in-Err.is
