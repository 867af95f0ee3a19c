use Rattle.std.proofs.Common.{◌∙◌}
use Rattle.exec_events.proofs.triggers.for_events.Goals as goal

pub returns-in-Ok : goal.returns-in-Ok
returns-in-Ok c = λ d i h there xs is. c.wait_for.ensures ∙ c.in-Ok.ensures d i h there xs is
