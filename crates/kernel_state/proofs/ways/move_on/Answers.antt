use Rattle.std.proofs.Common.{sym, subst}
use Rattle.kernel_state.specs.Moves.{Steps}
use Rattle.kernel_state.specs.Ways.{moved_on, MayMoveOn}
use Rattle.kernel_state.proofs.ways.move_on.Goals as goal

pub pass-requires-clause-statement : goal.pass-requires-clause-statement
pass-requires-clause-statement c = subst (λ w. MayMoveOn w c.args.k.now c.args.p) c.in-Past.is c.requires.may

pub take_off-requires-clause-owes : goal.take_off-requires-clause-owes
take_off-requires-clause-owes c = subst (λ w. MayMoveOn w c.args.k.now c.args.p) c.in-TakenOff.is c.requires.may

pub returns-in-Past-clause-steps : goal.returns-in-Past-clause-steps
returns-in-Past-clause-steps c = subst (λ w. Steps c.args.k.now c.pass.new.k c.args.p (λ d q i r. moved_on w d q r)) (sym c.in-Past.is) c.pass.ensures.steps

pub returns-in-TakenOff-clause-steps : goal.returns-in-TakenOff-clause-steps
returns-in-TakenOff-clause-steps c = subst (λ w. Steps c.args.k.now c.take_off.new.k c.args.p (λ d q i r. moved_on w d q r)) (sym c.in-TakenOff.is) c.take_off.ensures.steps
