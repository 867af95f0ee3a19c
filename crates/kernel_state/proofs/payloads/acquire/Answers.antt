use Rattle.std.proofs.Common.{◌+◌, sym, ◌∙◌, arith}
use Rattle.std.specs.Prelude.{Ok}
use Rattle.kernel_processes.specs.SimModel.Payloads.{with_acquired}
use Rattle.kernel_processes.specs.SimModel.Storing.{passes}
use Rattle.kernel_processes.specs.SimModel.Transport.{with_pool}
use Rattle.kernel_state.proofs.Uses.{within_room, pool_sound, pool_does, refused_sound, refused_does}
use Rattle.kernel_state.proofs.payloads.acquire.Goals as goal

pub acquire-requires : goal.acquire-requires
acquire-requires c = within_room c.args.k.now c.requires.sound c.requires.room

pub pass-requires-clause-sound : goal.pass-requires-clause-sound
pass-requires-clause-sound c = pool_sound c.args.k.now c.acquire.new.self (c.args.k.now.made + 1) c.requires.sound (omega arith) (c.acquire.ensures.raised c.args.k.now.made c.requires.sound.payloads)

pub returns-in-Ok-clause-does : goal.returns-in-Ok-clause-does
returns-in-Ok-clause-does c = pool_does c.args.k.now c.acquire.new.self (c.args.k.now.made + 1) (λ ps. with_acquired ps c.args.t) c.acquire.ensures.moves c.acquire.ensures.quantum c.args.t c.args.p c.pass.new.k
    (λ d h. sym (c.acquire.ensures.answer d h) ∙ c.in-Ok.is) c.pass.ensures.steps

pub returns-in-Err-clause-does : goal.returns-in-Err-clause-does
returns-in-Err-clause-does c = refused_does c.args.k.now c.acquire.new.self c.in-Err.ensures.refused c.args.t c.args.p c.in-Err.fault (λ d q i r x. Ok (with_pool (passes d q r) (with_acquired d.transactions.pool c.args.t)))
    (λ d h. sym (c.acquire.ensures.answer d h) ∙ c.in-Err.is)

pub returns-in-Err-clause-sound : goal.returns-in-Err-clause-sound
returns-in-Err-clause-sound c = refused_sound c.args.k.now c.acquire.new.self c.in-Err.ensures.refused c.requires.sound
