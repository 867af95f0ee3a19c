use Rattle.std.proofs.Common.{sym, ◌∙◌}
use Rattle.exec_transactions.proofs.Transfers.{carried_sound, carry_does, carry_refused}
use Rattle.exec_transactions.proofs.carrying.carry_known.Goals as goal

pub pass-requires-clause-sound : goal.pass-requires-clause-sound
pass-requires-clause-sound c = carried_sound c.args.k.now c.carry_to.new.board c.carry_to.new.memories c.requires.sound c.carry_to.ensures.within

pub returns-in-Ok-clause-does : goal.returns-in-Ok-clause-does
returns-in-Ok-clause-does c = carry_does c.args.k.now c.carry_to.new.board c.carry_to.new.memories c.carry_to.ensures.quantum c.args.t c.args.p c.args.m c.carry_to.ensures.moves c.carry_to.ensures.memory
    c.live_payloads_are_used.ensures.found (λ d h. sym (c.carry_to.ensures.answer d h) ∙ c.in-Ok.is) c.pass.new.k c.pass.ensures.steps

pub returns-in-Err-clause-does : goal.returns-in-Err-clause-does
returns-in-Err-clause-does c = carry_refused c.args.k.now c.carry_to.new.board c.carry_to.new.memories c.carry_to.ensures.quantum c.args.t c.args.p c.args.m c.in-Err.ensures.refused c.in-Err.ensures.left c.in-Err.fault
    (λ d h. sym (c.carry_to.ensures.answer d h) ∙ c.in-Err.is)

pub returns-in-Err-clause-sound : goal.returns-in-Err-clause-sound
returns-in-Err-clause-sound c = carried_sound c.args.k.now c.carry_to.new.board c.carry_to.new.memories c.requires.sound c.carry_to.ensures.within
