use Rattle.std.proofs.Common.{Err, Ok, length, subst}
use Rattle.kernel_view.specs.SimModel.Values.{on_ok, bits, index_within}
use Rattle.kernel_view.specs.SimModel.Reading.{val, payload_number, live_payload}
use Rattle.kernel_view.specs.SimModel.Storing.{passes, set_payload, with_byte, bytes_in}
use Rattle.kernel_view.specs.KernelState.Moves.{Does}
use Rattle.exec_data.proofs.Following.{evaluated, at_fault}
use Rattle.exec_data.proofs.Payloads.{byte_of, byte_by, byte_at}
use Rattle.exec_data.proofs.assignments.assign_payload_byte.Goals as goal

pub returns-in-Ok-payload_at-clause-does : goal.returns-in-Ok-payload_at-clause-does
returns-in-Ok-payload_at-clause-does c = λ at e index gives.
    evaluated c.args.k.now c.args.p c.args.index (λ h. val h at) index (byte_at c.args.n c.args.part e) c.set_byte.new.k c.set_byte.result c.in-Ok.i c.in-Ok.is
    (evaluated c.args.k.now c.args.p c.args.v (λ h. val h e) gives (byte_by c.args.n c.args.part c.in-Ok.i) c.set_byte.new.k c.set_byte.result c.in-Ok-v.x c.in-Ok-v.is
    (evaluated c.args.k.now c.args.p c.payload_at.result (λ h. payload_number h c.args.n) c.payload_at.ensures (byte_of c.args.part c.in-Ok.i c.in-Ok-v.x) c.set_byte.new.k c.set_byte.result c.in-Ok-payload_at.t c.in-Ok-payload_at.is
    (subst (λ w. Does c.args.k.now c.set_byte.new.k c.set_byte.result c.args.p (λ d q i r. on_ok (live_payload d c.in-Ok-payload_at.t) (λ y. on_ok (index_within (bits c.in-Ok.i) (length (bytes_in c.args.part y))) (λ k. Ok (set_payload (passes d q r) c.in-Ok-payload_at.t (with_byte c.args.part k w y)))))) c.low_byte.ensures
    (subst (λ b. Does c.args.k.now c.set_byte.new.k c.set_byte.result c.args.p (λ d q i r. on_ok (live_payload d c.in-Ok-payload_at.t) (λ y. on_ok (index_within b (length (bytes_in c.args.part y))) (λ k. Ok (set_payload (passes d q r) c.in-Ok-payload_at.t (with_byte c.args.part k c.low_byte.result y)))))) c.bits.ensures c.set_byte.ensures.does))))

pub returns-in-Err-payload_at-clause-does : goal.returns-in-Err-payload_at-clause-does
returns-in-Err-payload_at-clause-does c = λ at e index gives.
    evaluated c.args.k.now c.args.p c.args.index (λ h. val h at) index (byte_at c.args.n c.args.part e) c.args.k.now (Err c.in-Err-payload_at.fault) c.in-Ok.i c.in-Ok.is
    (evaluated c.args.k.now c.args.p c.args.v (λ h. val h e) gives (byte_by c.args.n c.args.part c.in-Ok.i) c.args.k.now (Err c.in-Err-payload_at.fault) c.in-Ok-v.x c.in-Ok-v.is
    (at_fault c.args.k.now c.args.p c.payload_at.result (λ h. payload_number h c.args.n) c.payload_at.ensures (byte_of c.args.part c.in-Ok.i c.in-Ok-v.x) c.in-Err-payload_at.fault c.in-Err-payload_at.is))

pub returns-in-Err-v-clause-does : goal.returns-in-Err-v-clause-does
returns-in-Err-v-clause-does c = λ at e index gives.
    evaluated c.args.k.now c.args.p c.args.index (λ h. val h at) index (byte_at c.args.n c.args.part e) c.args.k.now (Err c.in-Err-v.fault) c.in-Ok.i c.in-Ok.is
    (at_fault c.args.k.now c.args.p c.args.v (λ h. val h e) gives (byte_by c.args.n c.args.part c.in-Ok.i) c.in-Err-v.fault c.in-Err-v.is)

pub returns-in-Err-clause-does : goal.returns-in-Err-clause-does
returns-in-Err-clause-does c = λ at e index gives.
    at_fault c.args.k.now c.args.p c.args.index (λ h. val h at) index (byte_at c.args.n c.args.part e) c.in-Err.fault c.in-Err.is
