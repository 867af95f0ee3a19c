use Rattle.std.proofs.Common.{ap, ◌∙◌}
use Rattle.kernel_view.specs.SimModel.Reading.{not_empty}
use Rattle.kernel_view.specs.Standings.{next_here}
use Rattle.exec_events.proofs.Handles.{held}
use Rattle.exec_events.proofs.events.process_at.Goals as goal

pub returns-in-Some : goal.returns-in-Some
returns-in-Some c = λ d i h there. ap not_empty (c.in-Some.ensures ∙ held (next_here d c.args.p i) c.args.n c.eval_at.result (c.eval_at.ensures d i h there))

pub returns : goal.returns
returns c = λ d i h there. ap not_empty (c.in-None.ensures ∙ held (next_here d c.args.p i) c.args.n c.eval_at.result (c.eval_at.ensures d i h there))
