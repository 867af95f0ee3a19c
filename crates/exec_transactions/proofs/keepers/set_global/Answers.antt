use Rattle.exec_transactions.proofs.Keeping.{quantum_sound}
use Rattle.exec_transactions.proofs.keepers.set_global.Goals as goal

pub returns-clause-sound : goal.returns-clause-sound
returns-clause-sound c = quantum_sound c.args.k.now c.set_global.new.self c.set_global.ensures.transactions c.requires
