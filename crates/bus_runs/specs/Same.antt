-- Runs that are the same: their times, the entries of their hops, their payloads, and their grants in any order.
use Rattle.std.specs.Prelude.{◌≡◌, ℕ, count_by}
use Rattle.bus_router.specs.DmiMap.declared.grants.Region.{Region}
use Rattle.bus_router.specs.DmiMap.Regions.{same}
use Rattle.bus_router.specs.PayloadPool.Payloads.{payload_of}
use Rattle.bus_runs.specs.declared.runs.BusRun.{BusRun}

pub record AreSameRuns (one other : BusRun) : Type 0 where
  pub rows : one.rows ≡ other.rows
  pub hops : one.hops ≡ other.hops
  pub payloads : (k : ℕ) → payload_of one.pool k ≡ payload_of other.pool k
  pub made : one.pool.next ≡ other.pool.next
  pub grants : (region : Region) → count_by (same region) one.grants ≡ count_by (same region) other.grants
