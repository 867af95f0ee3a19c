use Rattle.std.proofs.Common.{Some, Ok}
use Rattle.exec_calls.specs.QuantumKeeper.Keepers.{with_local}
use Rattle.exec_calls.specs.SimModel.Residual.{settle}
use Rattle.exec_calls.specs.SimModel.Configuration.{arena}
use Rattle.exec_calls.specs.SimModel.Statements.{settled_in}
use Rattle.exec_calls.specs.SimModel.Reading.{keeper_at}
use Rattle.exec_calls.specs.SimModel.Storing.{passes}
use Rattle.exec_calls.specs.SimModel.Transport.{on_keeper, with_keeper}
use Rattle.exec_transactions.proofs.Keeping.{quantum_sound, keeper_does}
use Rattle.exec_transactions.proofs.keepers.set_keeper.Goals as goal

pub pass-requires-clause-sound : goal.pass-requires-clause-sound
pass-requires-clause-sound c = quantum_sound c.args.k.now c.set_local.new.self c.set_local.ensures.transactions c.requires.sound

pub returns-clause-does : goal.returns-clause-does
returns-clause-does c = λ d i h there.
    let past = passes (settled_in d c.args.p i.residual) c.args.p (settle (arena d) i.residual) in
    keeper_does c.args.k.now c.set_local.new.self c.set_local.ensures.transactions c.args.p c.pass.new.k c.pass.ensures.steps d i h there
    (on_keeper past (keeper_at past (Some c.args.n)) (λ x. Ok (with_keeper past (Some c.args.n) (with_local x c.args.t.0))))
    (c.set_local.ensures.steps past h.quantum)
