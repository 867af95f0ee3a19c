use Rattle.exec_calls.specs.TransportPhases.History.{BReturn}
use Rattle.exec_calls.specs.SimModel.Storing.{set_name}
use Rattle.exec_calls.specs.KernelTransactions.Answers.{complete_in}
use Rattle.exec_transactions.proofs.Called.{board_sound}
use Rattle.exec_transactions.proofs.Ended.{returned_does, refused_does}
use Rattle.exec_transactions.proofs.returning.return_blocking.Goals as goal

pub leave-requires-clause-sound : goal.leave-requires-clause-sound
leave-requires-clause-sound c = board_sound c.args.k.now c.b_returned.new.self c.requires.sound c.b_returned.ensures.within

pub returns-in-Ok-clause-does : goal.returns-in-Ok-clause-does
returns-in-Ok-clause-does c =
    returned_does c.args.k.now c.b_returned.new.self c.args.p c.args.via.hop c.args.via.payload (λ x. BReturn c.args.via.payload (complete_in x c.args.via.payload)) (λ d h. set_name d c.args.p h c.args.d c.args.delay)
    c.in-Ok.ensures.answer c.in-Ok.ensures.moves c.b_returned.ensures.quantum c.leave.new.k c.leave.ensures.steps c.hand_back_delay.new.k c.hand_back_delay.ensures.moves

pub returns-in-Err-clause-does : goal.returns-in-Err-clause-does
returns-in-Err-clause-does c =
    refused_does c.args.k.now c.b_returned.new.self c.args.p c.args.via.hop c.args.via.payload (λ x. BReturn c.args.via.payload (complete_in x c.args.via.payload)) (λ d h. set_name d c.args.p h c.args.d c.args.delay)
    c.in-Err.fault c.in-Err.ensures.answer c.in-Err.ensures.refused

pub returns-in-Err-clause-sound : goal.returns-in-Err-clause-sound
returns-in-Err-clause-sound c = board_sound c.args.k.now c.b_returned.new.self c.requires.sound c.b_returned.ensures.within
