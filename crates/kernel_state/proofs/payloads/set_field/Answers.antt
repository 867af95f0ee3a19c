use Rattle.std.proofs.Common.{sym, ◌∙◌, arith}
use Rattle.std.specs.Prelude.{Ok}
use Rattle.kernel_processes.specs.SimModel.Storing.{passes, set_payload, with_field}
use Rattle.kernel_state.proofs.Uses.{pool_sound, write_does, refused_sound, refused_does}
use Rattle.kernel_state.proofs.payloads.set_field.Goals as goal

pub pass-requires-clause-sound : goal.pass-requires-clause-sound
pass-requires-clause-sound c = pool_sound c.args.k.now c.set_field.new.self c.args.k.now.made c.requires.sound (omega arith) (c.set_field.ensures.within c.args.k.now.made c.requires.sound.payloads)

pub returns-in-Ok-clause-does : goal.returns-in-Ok-clause-does
returns-in-Ok-clause-does c v same = write_does c.args.k.now c.set_field.new.self c.args.k.now.made c.args.t (with_field c.args.field v) (c.set_field.ensures.moves v same) c.set_field.ensures.quantum c.args.p c.pass.new.k
    c.live_payloads_are_used.ensures.found (λ d h. sym (c.set_field.ensures.answer d h) ∙ c.in-Ok.is) c.pass.ensures.steps

pub returns-in-Err-clause-does : goal.returns-in-Err-clause-does
returns-in-Err-clause-does c v same = refused_does c.args.k.now c.set_field.new.self c.in-Err.ensures.refused c.args.t c.args.p c.in-Err.fault (λ d q i r x. Ok (set_payload (passes d q r) c.args.t (with_field c.args.field v x)))
    (λ d h. sym (c.set_field.ensures.answer d h) ∙ c.in-Err.is)

pub returns-in-Err-clause-sound : goal.returns-in-Err-clause-sound
returns-in-Err-clause-sound c = refused_sound c.args.k.now c.set_field.new.self c.in-Err.ensures.refused c.requires.sound
