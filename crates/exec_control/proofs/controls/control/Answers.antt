use Rattle.std.proofs.Common.{Bool, true, false, Ok, Err, sym, ◌∙◌, subst, true≢false}
use Rattle.exec_data.specs.SimModel.Reading.{here}
use Rattle.exec_data.specs.SimModel.Storing.{passes}
use Rattle.exec_data.specs.SimModel.Control.{control_call, do_control, target_of, targets, with_owed}
use Rattle.exec_data.specs.KernelState.Stopping.{DoesOrStops, NoFault}
use Rattle.exec_data.specs.KernelState.declared.stops.StatementStop.TheVariants as stop
use Rattle.exec_data.proofs.KernelView.Stopped.{evaluated, at_fault}
use Rattle.exec_control.proofs.Owes.{has_statement}
use Rattle.exec_control.proofs.controls.control.Goals as goal

pub returns-then-descendants-clause-does : goal.returns-then-descendants-clause-does
returns-then-descendants-clause-does c =
    subst (λ all. DoesOrStops c.args.k.now c.owe.new.k c.owe.result c.args.p (λ d q i r. do_control d q r (here d q i r) c.args.s c.args.order c.args.who all)) (sym c.if-descendants.true)
    (evaluated NoFault c.args.k.now c.args.p c.target_at.result (λ h. target_of h c.args.p c.args.who) c.target_at.ensures (λ d t i r q. Ok (with_owed d t r c.args.s (targets d q t))) c.owe.new.k c.owe.result c.in-Ok.q c.in-Ok.is c.owe.ensures.does)

pub returns-else-descendants-clause-does : goal.returns-else-descendants-clause-does
returns-else-descendants-clause-does c =
    subst (λ all. DoesOrStops c.args.k.now c.control_one.new.k c.control_one.result c.args.p (λ d q i r. do_control d q r (here d q i r) c.args.s c.args.order c.args.who all)) (sym c.if-descendants.false)
    (evaluated NoFault c.args.k.now c.args.p c.target_at.result (λ h. target_of h c.args.p c.args.who) c.target_at.ensures (λ d t i r q. control_call (passes d t r) q c.args.order) c.control_one.new.k c.control_one.result c.in-Ok.q c.in-Ok.is c.control_one.ensures.does)

pub returns-in-Err-clause-does : goal.returns-in-Err-clause-does
returns-in-Err-clause-does c = by c.args.descendants
  where
    by : (all : Bool) → DoesOrStops c.args.k.now c.args.k.now (Err (stop.Fault c.in-Err.fault)) c.args.p (λ d q i r. do_control d q r (here d q i r) c.args.s c.args.order c.args.who all)
    by true = at_fault NoFault c.args.k.now c.args.p c.target_at.result (λ h. target_of h c.args.p c.args.who) c.target_at.ensures (λ d t i r q. Ok (with_owed d t r c.args.s (targets d q t))) c.in-Err.fault c.in-Err.is
    by false = at_fault NoFault c.args.k.now c.args.p c.target_at.result (λ h. target_of h c.args.p c.args.who) c.target_at.ensures (λ d t i r q. control_call (passes d t r) q c.args.order) c.in-Err.fault c.in-Err.is

pub control_one-requires-clause-statement : goal.control_one-requires-clause-statement
control_one-requires-clause-statement c = has_statement c.args.k.now c.args.p c.args.s c.requires.next

pub returns-then-descendants-clause-alone : goal.returns-then-descendants-clause-alone
returns-then-descendants-clause-alone c = λ e. absurd (true≢false (sym c.if-descendants.true ∙ e))

pub returns-else-descendants-clause-alone : goal.returns-else-descendants-clause-alone
returns-else-descendants-clause-alone c = λ e. c.control_one.ensures.alone

pub returns-in-Err-clause-alone : goal.returns-in-Err-clause-alone
returns-in-Err-clause-alone c = λ e f. cc
