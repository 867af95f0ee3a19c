use Rattle.std.proofs.Common.{Ok, Err, map, subst}
use Rattle.flat_design.specs.Code.{argument_term}
use Rattle.exec_data.specs.SimModel.Residual.{settle}
use Rattle.exec_data.specs.SimModel.Configuration.{arena}
use Rattle.exec_data.specs.SimModel.Calls.{may_enter}
use Rattle.exec_calls.specs.Calling.{TellsDepth}
use Rattle.exec_calls.proofs.Judging.{argument_at_fault, too_deep, lacks, enters_it}
use Rattle.exec_calls.proofs.calls.call.Goals as goal

pub returns-in-Err-clause-does : goal.returns-in-Err-clause-does
returns-in-Err-clause-does c = argument_at_fault c.args.k.now c.args.p c.args.s c.args.f (map argument_term c.args.arguments.now) c.in-Err.fault c.in-Err.ensures

pub returns-in-Err-TooDeep-clause-does : goal.returns-in-Err-TooDeep-clause-does
returns-in-Err-TooDeep-clause-does c = too_deep c.args.k.now c.args.p c.args.s c.args.f (map argument_term c.args.arguments.now) c.in-Ok.ensures c.reserve_call.new.k c.reserve_call.ensures.stays
    (λ d i h there. subst (λ s. TellsDepth (Err s) (may_enter (settle (arena d) i.residual))) c.in-Err-TooDeep.field-0-is (c.in-Err-TooDeep.ensures.depth d i h there))

pub returns-in-Err-NoMemory-clause-does : goal.returns-in-Err-NoMemory-clause-does
returns-in-Err-NoMemory-clause-does c = lacks c.args.k.now c.args.p c.args.s c.args.f (map argument_term c.args.arguments.now) c.in-Ok.ensures c.reserve_call.new.k c.reserve_call.ensures.stays
    (λ d i h there. subst (λ s. TellsDepth (Err s) (may_enter (settle (arena d) i.residual))) c.in-Err-NoMemory.field-0-is (c.in-Err-NoMemory.ensures.depth d i h there))

pub returns-in-Ok-argument_values-clause-does : goal.returns-in-Ok-argument_values-clause-does
returns-in-Ok-argument_values-clause-does c = enters_it c.args.k.now c.args.p c.args.s c.args.f (map argument_term c.args.arguments.now) c.in-Ok.ensures c.reserve_call.new.k c.reserve_call.ensures.stays
    c.in-Ok-reserve_call.ensures.depth c.enter_ready_call.new.k c.in-Ok-argument_values.values.items c.in-Ok-argument_values.ensures.values (c.enter_ready_call.ensures.enters c.args.s (c.reserve_call.ensures.shows c.args.s c.requires.next))

pub returns-in-Err-argument_values-clause-does : goal.returns-in-Err-argument_values-clause-does
returns-in-Err-argument_values-clause-does c = lacks c.args.k.now c.args.p c.args.s c.args.f (map argument_term c.args.arguments.now) c.in-Ok.ensures c.reserve_call.new.k c.reserve_call.ensures.stays c.in-Ok-reserve_call.ensures.depth
