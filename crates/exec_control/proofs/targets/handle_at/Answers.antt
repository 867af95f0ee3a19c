use Rattle.std.proofs.Common.{◌∙◌}
use Rattle.exec_data.specs.KernelView.Standings.{next_here}
use Rattle.exec_control.proofs.Handles.{held}
use Rattle.exec_control.proofs.targets.handle_at.Goals as goal

pub returns : goal.returns
returns c = λ d i h there. c.process_in.ensures ∙ held (next_here d c.args.p i) c.args.n c.eval_at.result (c.eval_at.ensures d i h there)
