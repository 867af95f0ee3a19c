use Rattle.exec_calls.specs.TransportPhases.History.{Return}
use Rattle.exec_calls.specs.SimModel.Storing.{set_name, stored_if}
use Rattle.exec_calls.specs.SimModel.Transport.{int_of}
use Rattle.exec_calls.specs.KernelTransactions.Answers.{complete_in}
use Rattle.exec_transactions.proofs.Called.{board_sound}
use Rattle.exec_transactions.proofs.Ended.{returned_does, refused_does}
use Rattle.exec_transactions.proofs.returning.return_nonblocking.Goals as goal

pub leave-requires-clause-sound : goal.leave-requires-clause-sound
leave-requires-clause-sound c = board_sound c.args.k.now c.nb_returned.new.board c.requires.sound c.nb_returned.ensures.within

pub returns-in-Ok-clause-does : goal.returns-in-Ok-clause-does
returns-in-Ok-clause-does c =
    returned_does c.args.k.now c.nb_returned.new.board c.args.p c.args.via.hop c.args.via.payload (λ x. Return c.args.via.payload (int_of c.args.v.answer) (int_of c.args.v.phase) (complete_in x c.args.via.payload))
    (λ d h. stored_if (set_name (set_name d c.args.p h c.args.to.phase c.args.v.phase) c.args.p h c.args.to.delay c.args.v.delay) c.args.p h c.args.to.target c.args.v.answer)
    c.in-Ok.ensures.answer c.in-Ok.ensures.moves c.nb_returned.ensures.quantum c.leave.new.k c.leave.ensures.steps c.hand_back.new.k c.hand_back.ensures.moves

pub returns-in-Err-clause-does : goal.returns-in-Err-clause-does
returns-in-Err-clause-does c =
    refused_does c.args.k.now c.nb_returned.new.board c.args.p c.args.via.hop c.args.via.payload (λ x. Return c.args.via.payload (int_of c.args.v.answer) (int_of c.args.v.phase) (complete_in x c.args.via.payload))
    (λ d h. stored_if (set_name (set_name d c.args.p h c.args.to.phase c.args.v.phase) c.args.p h c.args.to.delay c.args.v.delay) c.args.p h c.args.to.target c.args.v.answer)
    c.in-Err.fault c.in-Err.ensures.answer c.in-Err.ensures.refused

pub returns-in-Err-clause-sound : goal.returns-in-Err-clause-sound
returns-in-Err-clause-sound c = board_sound c.args.k.now c.nb_returned.new.board c.requires.sound c.nb_returned.ensures.within
