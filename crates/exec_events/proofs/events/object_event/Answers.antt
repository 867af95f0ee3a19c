use Rattle.std.proofs.Common.{sym, ap, ◌∙◌}
use Rattle.kernel_view.specs.SimModel.Waiting.{named_object_event}
use Rattle.kernel_view.specs.Standings.{next_here}
use Rattle.exec_events.proofs.events.object_event.Goals as goal

pub returns-in-Declared : goal.returns-in-Declared
returns-in-Declared c = λ d i h there. c.declared_event.ensures d i h there ∙ sym (ap (named_object_event (next_here d c.args.p i) c.args.member c.args.place) c.in-Declared.is)
