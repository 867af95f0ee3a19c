use Rattle.std.proofs.Common.{true, ◌∷◌, [], Some, sym, ap, ◌∙◌, subst}
use Rattle.std.specs.Prelude.{slice_get}
use Rattle.exec_calls.specs.LogicValues.declared.kinds.Value.TheVariants as value
use Rattle.exec_calls.specs.SimModel.Residual.{settle}
use Rattle.exec_calls.specs.SimModel.Configuration.{arena}
use Rattle.exec_calls.specs.SimModel.Statements.{settled_in}
use Rattle.exec_calls.specs.SimModel.Reading.{payload_number}
use Rattle.exec_calls.specs.SimModel.Transport.{blocking_handler}
use Rattle.exec_calls.specs.SimModel.declared.plain.Via.{Via}
use Rattle.exec_calls.specs.KernelState.Stopping.{FollowsBut}
use Rattle.exec_transactions.specs.Calling.{IsOfProtocol}
use Rattle.exec_calls.proofs.KernelView.Stopped.{evaluated, at_fault}
use Rattle.exec_transactions.proofs.Called.{on_payload, b_call}
use Rattle.exec_transactions.proofs.statements.b_transport_on.Goals as goal

pub returns-clause-calls : goal.returns-clause-calls
returns-clause-calls c =
    let k = c.args.k.now in
    let p = c.args.p in
    let s = c.args.s in
    let hop = c.args.end.0 in
    evaluated IsOfProtocol k p c.payload_at.result (λ h. payload_number h c.args.n) c.payload_at.ensures (b_call s hop c.args.d) c.call.new.k c.call.result c.in-Ok.t c.in-Ok.is
    (λ d i h there.
    let first = settled_in d p i.residual in
    let left = settle (arena d) i.residual in
    let via : Via = record { hop = hop; forward = true; blocking = true; payload = c.in-Ok.t } in
    subst (λ v. FollowsBut IsOfProtocol c.call.new.k c.call.result d (on_payload k p s (blocking_handler (slice_get d.design.hops hop)) via v (value.Pay (Some c.in-Ok.t) ∷ v ∷ []) first p (record i { residual = left }) left))
    (c.value_at-delay.ensures d i h there)
    (subst (λ o. FollowsBut IsOfProtocol c.call.new.k c.call.result d (on_payload k p s o via c.value_at-delay.result (value.Pay (Some c.in-Ok.t) ∷ c.value_at-delay.result ∷ []) first p (record i { residual = left }) left))
    (c.blocking_handler-handler.ensures ∙ ap (λ e. blocking_handler (slice_get e.hops hop)) (sym h.design)) (c.call.ensures.calls d i h there)))

pub returns-in-Err-clause-calls : goal.returns-in-Err-clause-calls
returns-in-Err-clause-calls c = at_fault IsOfProtocol c.args.k.now c.args.p c.payload_at.result (λ h. payload_number h c.args.n) c.payload_at.ensures (b_call c.args.s c.args.end.0 c.args.d) c.in-Err.fault c.in-Err.is
