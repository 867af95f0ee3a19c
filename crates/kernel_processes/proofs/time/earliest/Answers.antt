use Rattle.std.proofs.Common.{refl}
use Rattle.kernel_processes.proofs.Takings.{no_times, earliest_time}
use Rattle.kernel_processes.proofs.time.earliest.Goals as goal

pub returns-in-Some-clause-least : goal.returns-in-Some-clause-least
returns-in-Some-clause-least g c = earliest_time c.args.s.now c.requires _ c.in-Some.ensures.least

pub returns-in-None-clause-none : goal.returns-in-None-clause-none
returns-in-None-clause-none g c = no_times c.args.s.now c.requires (c.in-None.ensures.empty.0 refl)
