use Rattle.std.proofs.Common.{sym, ap, ◌∙◌}
use Rattle.kernel_view.specs.Standings.{next_here}
use Rattle.exec_channels.specs.Slots.{slot_here}
use Rattle.exec_channels.proofs.slots.slot_at.Goals as goal

pub returns-in-Some : goal.returns-in-Some
returns-in-Some c = λ d i h there. c.slot_named.ensures d i h there ∙ ap (slot_here (next_here d c.args.p i)) (sym c.in-Some.is)
