use Rattle.std.proofs.Common.{◌≡◌, Ok, option_map, sym, ap, ◌∙◌, subst}
use Rattle.flat_design.specs.Code.{statement_of}
use Rattle.exec_data.specs.KernelBodies.Layers.{call_of}
use Rattle.exec_data.specs.SimModel.Residual.{settle, put, skip, next_of}
use Rattle.exec_data.specs.SimModel.Configuration.{arena}
use Rattle.exec_data.specs.SimModel.Reading.{here}
use Rattle.exec_data.specs.SimModel.Statements.{settled_in, handed_back, calling_statement}
use Rattle.exec_data.specs.KernelState.Moves.{Follows}
use Rattle.exec_calls.specs.Leaving.{IsNoTransport, statement_if}
use Rattle.exec_calls.proofs.Handing.{called_kept, calling_in, same_frame, left_behind, there_behind}
use Rattle.exec_calls.proofs.returns.leave_plain_call.Goals as goal

pub hand_back_to-requires-clause-plain : goal.hand_back_to-requires-clause-plain
hand_back_to-requires-clause-plain c =
    subst IsNoTransport (sym c.calling_statement.ensures ∙ ap (option_map (λ z. statement_of z.now)) c.in-Some.is)
    (called_kept c.args.k.now c.args.p c.requires.lives IsNoTransport c.requires.called (call_of c.leave_call-frame.result) c.leave_call-frame.ensures.ends)

pub returns-in-Some-clause-does : goal.returns-in-Some-clause-does
returns-in-Some-clause-does c = λ d i h there x shows.
    let after = left_behind d c.args.p i there in
    let r = put (settle (arena d) i.residual) skip in
    let stands = here after c.args.p i r in
    let same : call_of c.leave_call-frame.result ≡ x = same_frame (next_of (settle (arena d) i.residual)) (call_of c.leave_call-frame.result) x (c.leave_call-frame.ensures.frame d i h there) shows in
    subst (λ y. Follows c.hand_back_to.new.k (Ok tt) d (handed_back after c.args.p stands y (calling_statement (settled_in d c.args.p i.residual) y.call))) same
    (subst (λ s. Follows c.hand_back_to.new.k (Ok tt) d (handed_back after c.args.p stands (call_of c.leave_call-frame.result) s))
    (sym (calling_in c.args.k.now c.args.p d i h c.leave_call-frame.result.call ∙ sym c.calling_statement.ensures ∙ ap (option_map (λ z. statement_of z.now)) c.in-Some.is))
    (c.hand_back_to.ensures.hands after (record i { residual = r }) (c.leave_call-frame.ensures.steps d i h there) (there_behind d c.args.p i there)))

pub returns-clause-does : goal.returns-clause-does
returns-clause-does c = λ d i h there x shows.
    let after = left_behind d c.args.p i there in
    let r = put (settle (arena d) i.residual) skip in
    let stands = here after c.args.p i r in
    let same : call_of c.leave_call-frame.result ≡ x = same_frame (next_of (settle (arena d) i.residual)) (call_of c.leave_call-frame.result) x (c.leave_call-frame.ensures.frame d i h there) shows in
    subst (λ y. Follows c.leave_call-frame.new.k (Ok tt) d (handed_back after c.args.p stands y (calling_statement (settled_in d c.args.p i.residual) y.call))) same
    (subst (λ s. Follows c.leave_call-frame.new.k (Ok tt) d (handed_back after c.args.p stands (call_of c.leave_call-frame.result) s))
    (sym (calling_in c.args.k.now c.args.p d i h c.leave_call-frame.result.call ∙ sym c.calling_statement.ensures ∙ ap (option_map (λ z. statement_of z.now)) c.in-None.is))
    (c.leave_call-frame.ensures.steps d i h there))
