use Rattle.std.proofs.Common.{sym, ap, ◌∙◌}
use Rattle.exec_data.specs.SimModel.Reading.{not_empty}
use Rattle.exec_data.specs.SimModel.Control.{target_of}
use Rattle.exec_data.specs.KernelView.Standings.{next_here}
use Rattle.exec_control.proofs.targets.target_at.Goals as goal

pub returns-in-Named : goal.returns-in-Named
returns-in-Named c = λ d i h there. c.not_empty.ensures ∙ ap not_empty (c.handle_at.ensures d i h there) ∙ ap (target_of (next_here d c.args.p i) c.args.p) (sym c.in-Named.is)

pub returns-in-Myself : goal.returns-in-Myself
returns-in-Myself c = λ d i h there. ap (target_of (next_here d c.args.p i) c.args.p) (sym c.in-Myself.is)
