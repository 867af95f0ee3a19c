use Rattle.std.proofs.Common.{Ok, ap, ◌∙◌, subst}
use Rattle.exec_calls.specs.PayloadPool.Transfer.{carried, memory_after}
use Rattle.exec_calls.specs.SimModel.Values.{on_ok}
use Rattle.exec_calls.specs.SimModel.Residual.{settle}
use Rattle.exec_calls.specs.SimModel.Configuration.{arena}
use Rattle.exec_calls.specs.SimModel.Statements.{settled_in}
use Rattle.exec_calls.specs.SimModel.Reading.{here, denotes, payload_number, live_payload, memory_at, memory_number}
use Rattle.exec_calls.specs.SimModel.Storing.{passes, set_memory, set_payload}
use Rattle.exec_calls.specs.KernelState.Moves.{Follows}
use Rattle.exec_calls.proofs.ExecData.Following.{evaluated, at_fault}
use Rattle.exec_transactions.proofs.carrying.carry.Goals as goal

pub returns-in-Ok-clause-does : goal.returns-in-Ok-clause-does
returns-in-Ok-clause-does c = evaluated c.args.k.now c.args.p c.payload_at.result (λ h. payload_number h c.args.n) c.payload_at.ensures
    (λ d q i r t. on_ok (live_payload d t) (λ x. Ok (set_payload (set_memory (passes d q r) (memory_number (denotes (here d q i r) c.args.m)) (memory_after x (memory_at d (memory_number (denotes (here d q i r) c.args.m))))) t (carried x (memory_at d (memory_number (denotes (here d q i r) c.args.m)))))))
    c.carry_known.new.k c.carry_known.result c.in-Ok.t c.in-Ok.is
    (λ d i h there.
    let e = settled_in d c.args.p i.residual in
    let past = passes e c.args.p (settle (arena d) i.residual) in
    subst (λ o. Follows c.carry_known.new.k c.carry_known.result d (on_ok (live_payload e c.in-Ok.t) (λ x. Ok (set_payload (set_memory past o (memory_after x (memory_at e o))) c.in-Ok.t (carried x (memory_at e o))))))
    (c.memory_number-memory.ensures ∙ ap memory_number (c.denoted_at.ensures d i h there)) (c.carry_known.ensures.does d i h there))

pub returns-in-Err-clause-does : goal.returns-in-Err-clause-does
returns-in-Err-clause-does c = at_fault c.args.k.now c.args.p c.payload_at.result (λ h. payload_number h c.args.n) c.payload_at.ensures
    (λ d q i r t. on_ok (live_payload d t) (λ x. Ok (set_payload (set_memory (passes d q r) (memory_number (denotes (here d q i r) c.args.m)) (memory_after x (memory_at d (memory_number (denotes (here d q i r) c.args.m))))) t (carried x (memory_at d (memory_number (denotes (here d q i r) c.args.m)))))))
    c.in-Err.fault c.in-Err.is
