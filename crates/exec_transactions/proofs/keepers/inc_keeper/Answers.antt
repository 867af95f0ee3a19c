use Rattle.std.proofs.Common.{Some, Ok, ap, ◌∙◌}
use Rattle.exec_calls.specs.QuantumKeeper.Keepers.{after_inc}
use Rattle.exec_calls.specs.SimModel.Values.{on_ok}
use Rattle.exec_calls.specs.SimModel.Residual.{settle}
use Rattle.exec_calls.specs.SimModel.Configuration.{arena}
use Rattle.exec_calls.specs.SimModel.Statements.{settled_in}
use Rattle.exec_calls.specs.SimModel.Reading.{keeper_at}
use Rattle.exec_calls.specs.SimModel.Storing.{passes}
use Rattle.exec_calls.specs.SimModel.Transport.{kept, on_keeper}
use Rattle.exec_calls.specs.KernelTransactions.Board.{quantum_of}
use Rattle.exec_transactions.proofs.Keeping.{quantum_sound, keeper_does}
use Rattle.exec_transactions.proofs.keepers.inc_keeper.Goals as goal

pub pass-requires-clause-sound : goal.pass-requires-clause-sound
pass-requires-clause-sound c = quantum_sound c.args.k.now c.inc.new.self c.inc.ensures.transactions c.requires.sound

pub returns-in-Ok-clause-does : goal.returns-in-Ok-clause-does
returns-in-Ok-clause-does c = λ d i h there.
    let past = passes (settled_in d c.args.p i.residual) c.args.p (settle (arena d) i.residual) in
    keeper_does c.args.k.now c.inc.new.self c.inc.ensures.transactions c.args.p c.pass.new.k c.pass.ensures.steps d i h there
    (on_keeper past (keeper_at past (Some c.args.n)) (λ x. kept past (Some c.args.n) (after_inc x c.args.t.0)))
    (c.inc.ensures.steps past h.quantum ∙ ap (λ o. on_ok o (λ ok. Ok (record past { quantum = quantum_of c.inc.new.self }))) c.in-Ok.is)

pub returns-in-Err-clause-sound : goal.returns-in-Err-clause-sound
returns-in-Err-clause-sound c = quantum_sound c.args.k.now c.inc.new.self c.inc.ensures.transactions c.requires.sound
