use Rattle.std.proofs.Common.{◌≡◌, false, sym, ap, ◌∙◌, subst}
use Rattle.std.specs.FinMap as map
use Rattle.exec_data.specs.SimModel.Residual.{has_goal}
use Rattle.exec_data.specs.SimModel.Unwinding.{left_by_raise}
use Rattle.exec_data.specs.SimModel.Calls.{with_left}
use Rattle.exec_data.specs.ProcessBodies.Bodies.{left_in}
use Rattle.exec_data.specs.KernelProcesses.InstanceViews.{body_at as kept_at}
use Rattle.exec_data.specs.KernelState.Kernel.{StandsFor}
use Rattle.exec_control.proofs.Throwing.{left_still, left_then_raised}
use Rattle.exec_control.proofs.throws.raise_at.Goals as goal

pub raise-requires-clause-lives : goal.raise-requires-clause-lives
raise-requires-clause-lives c = ap (λ s. map.contains_key s.table.live c.args.q) c.leave.ensures.schedule ∙ c.requires.lives

pub raise-requires-clause-free : goal.raise-requires-clause-free
raise-requires-clause-free c = λ kept at. subst (λ program. has_goal (left_in program kept.body) ≡ false) (sym c.leave.ensures.program) (c.requires.free kept (ap (λ s. kept_at s c.args.q) (sym c.leave.ensures.schedule) ∙ at))

pub returns-clause-caught : goal.returns-clause-caught
returns-clause-caught c = λ d i h there. c.raise.ensures.caught (with_left d (left_by_raise i.residual c.args.e)) i (c.leave.ensures.moves d i h there) (left_still c.left_calls_end.ensures.calls d c.args.q i c.args.e there)

pub returns-clause-moves : goal.returns-clause-moves
returns-clause-moves c = λ d i h there. subst (StandsFor c.raise.new.k) (left_then_raised c.left_calls_end.ensures.calls d c.args.q i c.args.e c.args.end)
    (c.raise.ensures.moves (with_left d (left_by_raise i.residual c.args.e)) i (c.leave.ensures.moves d i h there) (left_still c.left_calls_end.ensures.calls d c.args.q i c.args.e there))

pub returns-clause-stack : goal.returns-clause-stack
returns-clause-stack c = c.raise.ensures.stack ∙ ap (λ s. s.stack) c.leave.ensures.schedule

pub returns-clause-others : goal.returns-clause-others
returns-clause-others c = record {
  bodies = λ r apart. c.raise.ensures.others.bodies r apart ∙ ap (λ s. kept_at s r) c.leave.ensures.schedule;
  program = c.raise.ensures.others.program ∙ c.leave.ensures.program;
}
