use Rattle.std.proofs.Common.{sym, ◌∙◌, arith}
use Rattle.kernel_state.proofs.Uses.{pool_sound, refused_sound}
use Rattle.kernel_state.proofs.Bytes.{byte_does, byte_refused}
use Rattle.kernel_state.proofs.payloads.set_byte.Goals as goal

pub pass-requires-clause-sound : goal.pass-requires-clause-sound
pass-requires-clause-sound c = pool_sound c.args.k.now c.set_byte.new.self c.args.k.now.made c.requires.sound (omega arith) (c.set_byte.ensures.within c.args.k.now.made c.requires.sound.payloads)

pub returns-in-Ok-clause-does : goal.returns-in-Ok-clause-does
returns-in-Ok-clause-does c = byte_does c.args.k.now c.set_byte.new.self c.args.k.now.made c.args.t c.args.part c.args.at c.args.byte c.in-Ok.ensures.moves c.set_byte.ensures.quantum c.args.p c.pass.new.k
    c.live_payloads_are_used.ensures.found (λ d h. sym (c.set_byte.ensures.answer d h) ∙ c.in-Ok.is) c.pass.ensures.steps

pub returns-in-Err-clause-does : goal.returns-in-Err-clause-does
returns-in-Err-clause-does c = byte_refused c.args.k.now c.set_byte.new.self c.in-Err.ensures.refused c.args.t c.args.part c.args.at c.args.byte c.args.p c.in-Err.fault (λ d h. sym (c.set_byte.ensures.answer d h) ∙ c.in-Err.is)

pub returns-in-Err-clause-sound : goal.returns-in-Err-clause-sound
returns-in-Err-clause-sound c = refused_sound c.args.k.now c.set_byte.new.self c.in-Err.ensures.refused c.requires.sound
