use Rattle.bus_router.specs.Pools.{IsPoolOf}
use Rattle.bus_router.proofs.pools.pool_of.Given as goal

abbrev pub invariant-loop-payload : goal.invariant-loop-payload
invariant-loop-payload l = IsPoolOf l.yielded l.pool
