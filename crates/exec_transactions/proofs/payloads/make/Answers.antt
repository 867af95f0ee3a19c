use Rattle.std.proofs.Common.{Err, option_map, subst}
use Rattle.flat_design.specs.Code.{term_of}
use Rattle.exec_calls.specs.SimModel.Values.{on_ok, bits}
use Rattle.exec_calls.specs.SimModel.Reading.{here, val, val_if}
use Rattle.exec_calls.specs.SimModel.Transport.{size_or}
use Rattle.exec_calls.specs.KernelState.Stopping.{DoesOrStops, NoFault}
use Rattle.exec_calls.specs.KernelState.declared.stops.StatementStop.TheVariants as stop
use Rattle.exec_calls.proofs.KernelView.Stopped.{evaluated, at_fault}
use Rattle.exec_transactions.specs.Sized.{makes_sized}
use Rattle.exec_transactions.proofs.payloads.make.Goals as goal

pub returns-in-Ok-eval_if_at-clause-does : goal.returns-in-Ok-eval_if_at-clause-does
returns-in-Ok-eval_if_at-clause-does c =
    let e = term_of c.args.len.now in
    let m = option_map term_of c.args.enables.now in
    evaluated NoFault c.args.k.now c.args.p c.eval_at.result (λ h. val h e) c.eval_at.ensures
    (λ d q i r v. on_ok (val_if (here d q i r) m) (λ w. makes_sized d q r (here d q i r) c.args.n (bits v) (size_or w)))
    c.make_sized.new.k c.make_sized.result c.in-Ok.size c.in-Ok.is
    (evaluated NoFault c.args.k.now c.args.p c.eval_if_at.result (λ h. val_if h m) c.eval_if_at.ensures
    (λ d q i r w. makes_sized d q r (here d q i r) c.args.n (bits c.in-Ok.size) (size_or w))
    c.make_sized.new.k c.make_sized.result c.in-Ok-eval_if_at.more c.in-Ok-eval_if_at.is
    (subst (λ b. DoesOrStops c.args.k.now c.make_sized.new.k c.make_sized.result c.args.p (λ d q i r. makes_sized d q r (here d q i r) c.args.n (bits c.in-Ok.size) b)) c.size_or.ensures
    (subst (λ a. DoesOrStops c.args.k.now c.make_sized.new.k c.make_sized.result c.args.p (λ d q i r. makes_sized d q r (here d q i r) c.args.n a c.size_or.result)) c.bits.ensures c.make_sized.ensures.does)))

pub returns-in-Err-eval_if_at-clause-does : goal.returns-in-Err-eval_if_at-clause-does
returns-in-Err-eval_if_at-clause-does c =
    let e = term_of c.args.len.now in
    let m = option_map term_of c.args.enables.now in
    evaluated NoFault c.args.k.now c.args.p c.eval_at.result (λ h. val h e) c.eval_at.ensures
    (λ d q i r v. on_ok (val_if (here d q i r) m) (λ w. makes_sized d q r (here d q i r) c.args.n (bits v) (size_or w)))
    c.args.k.now (Err (stop.Fault c.in-Err-eval_if_at.fault)) c.in-Ok.size c.in-Ok.is
    (at_fault NoFault c.args.k.now c.args.p c.eval_if_at.result (λ h. val_if h m) c.eval_if_at.ensures
    (λ d q i r w. makes_sized d q r (here d q i r) c.args.n (bits c.in-Ok.size) (size_or w)) c.in-Err-eval_if_at.fault c.in-Err-eval_if_at.is)

pub returns-in-Err-clause-does : goal.returns-in-Err-clause-does
returns-in-Err-clause-does c =
    let m = option_map term_of c.args.enables.now in
    at_fault NoFault c.args.k.now c.args.p c.eval_at.result (λ h. val h (term_of c.args.len.now)) c.eval_at.ensures
    (λ d q i r v. on_ok (val_if (here d q i r) m) (λ w. makes_sized d q r (here d q i r) c.args.n (bits v) (size_or w))) c.in-Err.fault c.in-Err.is
