use Rattle.std.proofs.Common.{◌++◌, ◌∷◌, [], sym, subst}
use Rattle.traffic_file.specs.PayloadPool.Payloads.{Payloads}
use Rattle.bus_router.specs.Pools.{IsPoolOf}
use Rattle.bus_router.proofs.Added.{pool_none, pool_more}
use Rattle.bus_router.proofs.pools.pool_of.Goals as goal

pub loop-payload-init : goal.loop-payload-init
loop-payload-init c = pool_none c.new-pool.result c.new-pool.ensures.empty c.new-pool.ensures.first

pub loop-payload-preserved : goal.loop-payload-preserved
loop-payload-preserved c =
    subst (λ (pool : Payloads). IsPoolOf (c.loop-payload.yielded ++ c.in-Some.payload ∷ []) pool) (sym c.in_ok-add_payload.ensures)
    (pool_more c.loop-payload.pool c.in-Some.payload c.loop-payload.yielded c.loop-payload.invariant)
