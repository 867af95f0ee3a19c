use Rattle.std.proofs.Common.{false}
use Rattle.exec_calls.specs.SimModel.Statements.{settled_in}
use Rattle.exec_calls.specs.KernelTransactions.Answers.{complete_in}
use Rattle.exec_transactions.specs.Entries.{entry_of}
use Rattle.exec_transactions.proofs.Called.{refused, board_stays, board_sound, unhandled_then}
use Rattle.exec_transactions.proofs.entering.unhandled.Goals as goal

pub settle-requires-clause-sound : goal.settle-requires-clause-sound
settle-requires-clause-sound c = board_sound c.args.k.now c.judge.new.board c.requires.sound c.judge.ensures.within

pub returns-in-Ok-clause-calls : goal.returns-in-Ok-clause-calls
returns-in-Ok-clause-calls c = λ d i h there.
    unhandled_then c.args.k.now c.args.p c.args.asked.via c.args.asked.phase c.judge.new.board c.in-Ok.ensures.moves c.judge.ensures.quantum c.settle.new.k c.settle.ensures.steps d i h there
    (c.in-Ok.ensures.answer (settled_in d c.args.p i.residual) h.transactions)

pub returns-in-Err-clause-calls : goal.returns-in-Err-clause-calls
returns-in-Err-clause-calls c = λ d i h there.
    let via = c.args.asked.via in
    let first = settled_in d c.args.p i.residual in
    refused (record c.args.k.now { transactions = c.judge.new.board }) d first via.hop via.payload (entry_of via c.args.asked.phase (complete_in d.transactions via.payload) false) (λ x. x)
    (board_stays c.args.k.now c.judge.new.board c.in-Err.ensures.stays c.judge.ensures.quantum d h) c.in-Err.stop (c.in-Err.ensures.answer first h.transactions)

pub returns-in-Err-clause-sound : goal.returns-in-Err-clause-sound
returns-in-Err-clause-sound c = board_sound c.args.k.now c.judge.new.board c.requires.sound c.judge.ensures.within
