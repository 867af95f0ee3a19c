use Rattle.session.proofs.traces.trace_step.Goals as goal

pub returns-in-Some-clause-traces : goal.returns-in-Some-clause-traces
returns-in-Some-clause-traces g c = rw c.in-Some.is c.trace_point.ensures.traces
