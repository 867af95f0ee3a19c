use Rattle.std.proofs.Common.{Err, sym}
use Rattle.kernel_view.specs.SimModel.Reading.{val, payload_number}
use Rattle.exec_data.proofs.Following.{evaluated, at_fault}
use Rattle.exec_data.proofs.Payloads.{field_of, field_by}
use Rattle.exec_data.proofs.assignments.assign_field.Goals as goal

pub returns-in-Ok-payload_at-clause-does : goal.returns-in-Ok-payload_at-clause-does
returns-in-Ok-payload_at-clause-does c = λ e gives.
    evaluated c.args.k.now c.args.p c.args.v (λ h. val h e) gives (field_by c.args.n c.args.field) c.set_field.new.k c.set_field.result c.in-Ok.x c.in-Ok.is
    (evaluated c.args.k.now c.args.p c.payload_at.result (λ h. payload_number h c.args.n) c.payload_at.ensures (field_of c.args.field c.in-Ok.x) c.set_field.new.k c.set_field.result c.in-Ok-payload_at.t c.in-Ok-payload_at.is
    (c.set_field.ensures.does c.in-Ok.x (sym c.bits.ensures)))

pub returns-in-Err-payload_at-clause-does : goal.returns-in-Err-payload_at-clause-does
returns-in-Err-payload_at-clause-does c = λ e gives.
    evaluated c.args.k.now c.args.p c.args.v (λ h. val h e) gives (field_by c.args.n c.args.field) c.args.k.now (Err c.in-Err-payload_at.fault) c.in-Ok.x c.in-Ok.is
    (at_fault c.args.k.now c.args.p c.payload_at.result (λ h. payload_number h c.args.n) c.payload_at.ensures (field_of c.args.field c.in-Ok.x) c.in-Err-payload_at.fault c.in-Err-payload_at.is)

pub returns-in-Err-clause-does : goal.returns-in-Err-clause-does
returns-in-Err-clause-does c = λ e gives.
    at_fault c.args.k.now c.args.p c.args.v (λ h. val h e) gives (field_by c.args.n c.args.field) c.in-Err.fault c.in-Err.is
