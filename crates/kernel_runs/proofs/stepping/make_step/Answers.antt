use Rattle.std.proofs.Common.{sym, ◌∙◌}
use Rattle.kernel_runs.proofs.stepping.make_step.Goals as goal

pub returns-clause-steps : goal.returns-clause-steps
returns-clause-steps g c = rw c.whole_of.ensures c.make-brief.ensures.steps

pub returns-clause-asks : goal.returns-clause-asks
returns-clause-asks g c = rw c.whole_of.ensures c.make-brief.ensures.asks

pub returns-clause-refused : goal.returns-clause-refused
returns-clause-refused g c = λ is. c.make-brief.ensures.refused (sym c.whole_of.ensures ∙ is)

pub returns-clause-faulted : goal.returns-clause-faulted
returns-clause-faulted g c = λ f is. c.make-brief.ensures.faulted f (sym c.whole_of.ensures ∙ is)
