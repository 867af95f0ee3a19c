use Rattle.std.proofs.Common.{◌+◌, Err, arith, sym, subst}
use Rattle.exec_calls.specs.SimModel.Reading.{here}
use Rattle.exec_calls.specs.KernelState.Stopping.{DoesOrStops}
use Rattle.exec_calls.proofs.KernelState.Uses.{within_room, pool_sound}
use Rattle.exec_transactions.specs.Sized.{makes_sized}
use Rattle.exec_transactions.proofs.Making.{made_does, unmade}
use Rattle.exec_transactions.proofs.payloads.make_sized.Goals as goal

pub make-requires : goal.make-requires
make-requires c = within_room c.args.k.now c.requires.sound c.requires.room

pub store-requires-clause-sound : goal.store-requires-clause-sound
store-requires-clause-sound c = pool_sound c.args.k.now c.make.new.self (c.args.k.now.made + 1) c.requires.sound (omega arith) (c.make.ensures.raised c.args.k.now.made c.requires.sound.payloads)

pub returns-in-Ok-clause-does : goal.returns-in-Ok-clause-does
returns-in-Ok-clause-does c = made_does c.args.k.now c.make.new.self c.args.len c.args.enables c.payloads_are_made.ensures c.args.p c.args.n c.in-Ok.ensures.moves c.make.ensures.quantum (c.args.k.now.made + 1) c.in-Ok.t c.in-Ok.ensures.number c.in-Ok.ensures.answer c.store.new.k c.store.ensures.steps

pub returns-in-Err-clause-does : goal.returns-in-Err-clause-does
returns-in-Err-clause-does c =
    subst (λ s. DoesOrStops c.args.k.now (record c.args.k.now { transactions = c.make.new.self }) (Err s) c.args.p (λ d q i r. makes_sized d q r (here d q i r) c.args.n c.args.len c.args.enables)) (sym c.stopped_by.ensures)
    (unmade c.args.k.now c.make.new.self c.args.len c.args.enables c.payloads_are_made.ensures c.args.p c.args.n c.in-Err.ensures.refused c.in-Err.stop c.in-Err.ensures.answer)
