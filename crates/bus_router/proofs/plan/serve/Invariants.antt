use Rattle.bus_router.proofs.plan.serve.Given as goal

abbrev pub ghost-begin_next : goal.ghost-begin_next
ghost-begin_next g a = g.started
