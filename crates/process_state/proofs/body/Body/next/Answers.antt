use Rattle.std.proofs.Common.{sym, ap}
use Rattle.kernel_bodies.specs.Layers.{shown}
use Rattle.process_state.proofs.body.Body.next.Goals as goal

pub returns-in-Some-clause-value : goal.returns-in-Some-clause-value
returns-in-Some-clause-value c = sym (ap shown c.in-Some.ensures)
