use Rattle.std.proofs.Common.{true, subst, Some, Ok, Err}
use Rattle.exec_calls.specs.SimModel.Residual.{settle}
use Rattle.exec_calls.specs.SimModel.Configuration.{arena}
use Rattle.exec_calls.specs.SimModel.Statements.{settled_in}
use Rattle.exec_calls.specs.SimModel.Calls.{enters, may_enter}
use Rattle.exec_calls.specs.KernelTransactions.Answers.{complete_in}
use Rattle.exec_calls.specs.Calling.{TellsDepth}
use Rattle.exec_calls.specs.KernelState.declared.stops.StatementStop.TheVariants as stop
use Rattle.exec_transactions.specs.Entries.{entry_of}
use Rattle.exec_transactions.proofs.Called.{lacks, refused, board_stays, board_sound, too_deep, entered_by, entered_then}
use Rattle.exec_transactions.proofs.entering.enter.Goals as goal

pub returns-in-Err-TooDeep-clause-calls : goal.returns-in-Err-TooDeep-clause-calls
returns-in-Err-TooDeep-clause-calls c = λ d i h there.
    too_deep c.reserve_call.new.k c.args.p c.args.s c.args.f c.args.asked.via c.args.asked.phase c.args.values.now c.reserve_call.new.k (Err stop.NoMemory) d i (subst (λ s. TellsDepth (Err s) (may_enter (settle (arena d) i.residual))) c.in-Err-TooDeep.field-0-is (c.in-Err-TooDeep.ensures.depth d i h there)) (c.reserve_call.ensures.stays d h)

pub returns-in-Err-NoMemory-clause-calls : goal.returns-in-Err-NoMemory-clause-calls
returns-in-Err-NoMemory-clause-calls c = λ d i h there.
    let via = c.args.asked.via in
    entered_by c.reserve_call.new.k c.args.p c.args.s c.args.f via c.args.asked.phase c.args.values.now c.reserve_call.new.k (Err stop.NoMemory) d i (subst (λ s. TellsDepth (Err s) (may_enter (settle (arena d) i.residual))) c.in-Err-NoMemory.field-0-is (c.in-Err-NoMemory.ensures.depth d i h there))
    (lacks c.reserve_call.new.k d (settled_in d c.args.p i.residual) via.hop via.payload (entry_of via c.args.asked.phase (complete_in d.transactions via.payload) true)
    (λ x. enters x c.args.p (settle (arena d) i.residual) c.args.s c.args.f c.args.values.now (Some via)) (c.reserve_call.ensures.stays d h))

pub returns-in-Err-clause-calls : goal.returns-in-Err-clause-calls
returns-in-Err-clause-calls c = λ d i h there.
    let via = c.args.asked.via in
    entered_by c.reserve_call.new.k c.args.p c.args.s c.args.f via c.args.asked.phase c.args.values.now c.reserve_call.new.k (Err stop.NoMemory) d i (c.in-Ok.ensures.depth d i h there)
    (lacks c.reserve_call.new.k d (settled_in d c.args.p i.residual) via.hop via.payload (entry_of via c.args.asked.phase (complete_in d.transactions via.payload) true)
    (λ x. enters x c.args.p (settle (arena d) i.residual) c.args.s c.args.f c.args.values.now (Some via)) (c.reserve_call.ensures.stays d h))

pub enter_ready_call-requires-clause-sound : goal.enter_ready_call-requires-clause-sound
enter_ready_call-requires-clause-sound c = board_sound c.reserve_call.new.k c.judge.new.board c.reserve_call.ensures.sound c.judge.ensures.within

pub returns-in-Ok-judge-clause-calls : goal.returns-in-Ok-judge-clause-calls
returns-in-Ok-judge-clause-calls c = λ d i h there.
    let via = c.args.asked.via in
    let k = c.reserve_call.new.k in
    let first = c.reserve_call.ensures.stays d h in
    entered_by k c.args.p c.args.s c.args.f via c.args.asked.phase c.args.values.now c.enter_ready_call.new.k (Ok tt) d i (c.in-Ok.ensures.depth d i h there)
    (entered_then k c.args.p c.args.s c.args.f via c.args.asked.phase c.args.values.now c.judge.new.board c.in-Ok-judge.ensures.moves c.judge.ensures.quantum c.in-Ok-arguments_for.arguments.items c.in-Ok-arguments_for.ensures.items
    c.enter_ready_call.new.k (c.enter_ready_call.ensures.enters c.args.s (c.reserve_call.ensures.shows c.args.s c.requires.next)) d i first there (c.in-Ok-judge.ensures.answer (settled_in d c.args.p i.residual) first.transactions))

pub returns-in-Err-judge-clause-calls : goal.returns-in-Err-judge-clause-calls
returns-in-Err-judge-clause-calls c = λ d i h there.
    let via = c.args.asked.via in
    let k = c.reserve_call.new.k in
    let first = settled_in d c.args.p i.residual in
    let left = settle (arena d) i.residual in
    entered_by k c.args.p c.args.s c.args.f via c.args.asked.phase c.args.values.now (record k { transactions = c.judge.new.board }) (Err c.in-Err-judge.stop) d i (c.in-Ok.ensures.depth d i h there)
    (refused (record k { transactions = c.judge.new.board }) d first via.hop via.payload (entry_of via c.args.asked.phase (complete_in d.transactions via.payload) true)
    (λ x. enters x c.args.p left c.args.s c.args.f c.args.values.now (Some via)) (board_stays k c.judge.new.board c.in-Err-judge.ensures.stays c.judge.ensures.quantum d (c.reserve_call.ensures.stays d h))
    c.in-Err-judge.stop (c.in-Err-judge.ensures.answer first (c.reserve_call.ensures.stays d h).transactions))

pub returns-in-Err-judge-clause-sound : goal.returns-in-Err-judge-clause-sound
returns-in-Err-judge-clause-sound c = board_sound c.reserve_call.new.k c.judge.new.board c.reserve_call.ensures.sound c.judge.ensures.within
