use Rattle.std.proofs.Common.{reverse}
use Rattle.exec_control.proofs.Owes.{owes_targets}
use Rattle.exec_control.proofs.owing.owe.Goals as goal

pub returns-in-Ok-clause-does : goal.returns-in-Ok-clause-does
returns-in-Ok-clause-does c d i h there =
    owes_targets c.owe_to.new.k d c.args.p c.args.s c.args.q i (reverse c.in-Ok.list.items) (c.in-Ok.ensures d h) (c.owe_to.ensures.steps d i h there)

pub returns-in-Err-clause-does : goal.returns-in-Err-clause-does
returns-in-Err-clause-does c d i h there = h
