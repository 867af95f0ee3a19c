use Rattle.std.proofs.Common.{subst}
use Rattle.exec_data.specs.SimModel.Storing.{passes}
use Rattle.exec_data.specs.SimModel.Control.{control_call}
use Rattle.exec_data.specs.KernelState.Moves.{Does}
use Rattle.exec_control.proofs.Stops.{plain_stops, fault_stops}
use Rattle.exec_control.proofs.controls.control_one.Goals as goal

pub control_serial-requires-clause-may : goal.control_serial-requires-clause-may
control_serial-requires-clause-may c = c.requires.statement

pub returns-in-Ok-clause-does : goal.returns-in-Ok-clause-does
returns-in-Ok-clause-does c = plain_stops c.args.k.now c.control_serial.new.k c.args.p (λ d s i r. control_call (passes d s r) c.args.q c.args.order)
    (subst (λ a. Does c.args.k.now c.control_serial.new.k a c.args.p (λ d s i r. control_call (passes d s r) c.args.q c.args.order)) c.in-Ok.is c.control_serial.ensures.does)

pub returns-in-Err-clause-does : goal.returns-in-Err-clause-does
returns-in-Err-clause-does c = fault_stops c.args.k.now c.control_serial.new.k c.args.p (λ d s i r. control_call (passes d s r) c.args.q c.args.order) c.in-Err.fault
    (subst (λ a. Does c.args.k.now c.control_serial.new.k a c.args.p (λ d s i r. control_call (passes d s r) c.args.q c.args.order)) c.in-Err.is c.control_serial.ensures.does)

pub returns-in-Ok-clause-alone : goal.returns-in-Ok-clause-alone
returns-in-Ok-clause-alone c = λ e. cc

pub returns-in-Err-clause-alone : goal.returns-in-Err-clause-alone
returns-in-Err-clause-alone c = λ e. cc
