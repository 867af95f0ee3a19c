use Rattle.std.proofs.Common.{sym, ◌∙◌}
use Rattle.kernel_runs.proofs.stepping.make_steps.Goals as goal

pub returns-clause-stepped : goal.returns-clause-stepped
returns-clause-stepped g c = rw c.whole_of.ensures c.make_some-brief.ensures.stepped

pub returns-clause-refused : goal.returns-clause-refused
returns-clause-refused g c is = c.make_some-brief.ensures.refused (sym c.whole_of.ensures ∙ is)

pub returns-clause-faulted : goal.returns-clause-faulted
returns-clause-faulted g c f is = c.make_some-brief.ensures.faulted f (sym c.whole_of.ensures ∙ is)
