use Rattle.std.proofs.Common.{sym, subst}
use Rattle.exec_data.specs.SimModel.Control.{control_call}
use Rattle.exec_data.specs.KernelState.Ways.{moved_on}
use Rattle.std.specs.Prelude.{Ok}
use Rattle.exec_data.specs.KernelState.Moves.{Does}
use Rattle.exec_control.proofs.controls.control_serial.Goals as goal

pub returns-in-Suspend-clause-does : goal.returns-in-Suspend-clause-does
returns-in-Suspend-clause-does c = subst (λ o. Does c.args.k.now c.suspend.new.k (Ok tt) c.args.p (λ d s i r. control_call (moved_on c.args.way d s r) c.args.q o)) (sym c.in-Suspend.is) c.suspend.ensures.does

pub returns-in-Resume-clause-does : goal.returns-in-Resume-clause-does
returns-in-Resume-clause-does c = subst (λ o. Does c.args.k.now c.resume.new.k (Ok tt) c.args.p (λ d s i r. control_call (moved_on c.args.way d s r) c.args.q o)) (sym c.in-Resume.is) c.resume.ensures.does

pub returns-in-Disable-clause-does : goal.returns-in-Disable-clause-does
returns-in-Disable-clause-does c = subst (λ o. Does c.args.k.now c.disable.new.k (Ok tt) c.args.p (λ d s i r. control_call (moved_on c.args.way d s r) c.args.q o)) (sym c.in-Disable.is) c.disable.ensures.does

pub returns-in-Enable-clause-does : goal.returns-in-Enable-clause-does
returns-in-Enable-clause-does c = subst (λ o. Does c.args.k.now c.enable.new.k (Ok tt) c.args.p (λ d s i r. control_call (moved_on c.args.way d s r) c.args.q o)) (sym c.in-Enable.is) c.enable.ensures.does

pub returns-in-Kill-clause-does : goal.returns-in-Kill-clause-does
returns-in-Kill-clause-does c = subst (λ o. Does c.args.k.now c.kill.new.k c.kill.result c.args.p (λ d s i r. control_call (moved_on c.args.way d s r) c.args.q o)) (sym c.in-Kill.is) c.kill.ensures.does

pub returns-in-Reset-clause-does : goal.returns-in-Reset-clause-does
returns-in-Reset-clause-does c = subst (λ o. Does c.args.k.now c.reset.new.k c.reset.result c.args.p (λ d s i r. control_call (moved_on c.args.way d s r) c.args.q o)) (sym c.in-Reset.is) c.reset.ensures.does
