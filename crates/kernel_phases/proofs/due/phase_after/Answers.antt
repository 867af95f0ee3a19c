use Rattle.std.proofs.Common.{sym, ap, ◌∙◌, nat_cmp}
use Rattle.std.specs.FinSet as set
use Rattle.kernel_phases.proofs.Phased.{nobody_runs, some_run}
use Rattle.kernel_phases.proofs.due.phase_after.Goals as goal

pub returns-then-runnable-eq0 : goal.returns-then-runnable-eq0
returns-then-runnable-eq0 c = λ d h. nobody_runs d.processes.runnable
    (λ q. sym (h.processes.ready q) ∙ ap (λ s. set.contains s q) (set.empty_of_len c.args.k.now.schedule.ready.members (sym c.len-runnable.ensures ∙ c.if-runnable-eq0.true)) ∙ set.contains-empty nat_cmp q)

pub returns-else-runnable-eq0 : goal.returns-else-runnable-eq0
returns-else-runnable-eq0 c = λ d h. some_run c.args.k.now.schedule.ready.members d.processes.runnable h.processes.ready
    (λ none. c.if-runnable-eq0.false (c.len-runnable.ensures ∙ none)) c.least_of_a_set.ensures.none c.least_of_a_set.ensures.least
