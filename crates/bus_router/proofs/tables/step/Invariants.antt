use Rattle.std.proofs.Common.{length}
use Rattle.bus_router.proofs.tables.step.Given as goal

abbrev pub ghost-serve : goal.ghost-serve
ghost-serve a = length a.bus.now.initiators
