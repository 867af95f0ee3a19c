use Rattle.std.proofs.Common.{sym, subst}
use Rattle.exec_data.specs.SimModel.Control.{reaches_goal}
use Rattle.exec_data.specs.KernelState.Moves.{Steps}
use Rattle.exec_control.proofs.goals.reach_goal.Goals as goal

pub returns-in-Thrown-clause-steps : goal.returns-in-Thrown-clause-steps
returns-in-Thrown-clause-steps c = subst (λ g. Steps c.args.k.now c.pass_goal.new.k c.args.p (λ d q i r. reaches_goal d q i r g)) (sym c.in-Thrown.is) c.pass_goal.ensures.steps
