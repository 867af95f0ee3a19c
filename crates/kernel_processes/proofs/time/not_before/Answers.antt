use Rattle.std.proofs.Common.{refl, true≢false}
use Rattle.kernel_processes.proofs.Takings.{no_times, no_queue, no_times_before}
use Rattle.kernel_processes.proofs.time.not_before.Goals as goal

pub returns-in-Some-clause-bound : goal.returns-in-Some-clause-bound
returns-in-Some-clause-bound g c = no_times_before c.args.s.now c.requires _ c.in-Some.ensures.bound

pub returns-in-None-clause-none : goal.returns-in-None-clause-none
returns-in-None-clause-none g c = no_times c.args.s.now c.requires (c.in-None.ensures.none.0 refl)

pub returns-in-Some-clause-nobody : goal.returns-in-Some-clause-nobody
returns-in-Some-clause-nobody g c = λ nobody. absurd (true≢false (c.in-Some.ensures.none.1 (no_queue c.args.s.now c.requires nobody)))
