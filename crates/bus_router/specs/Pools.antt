-- The payloads of accesses in a pool: each under the place of its access, and no other.
use Rattle.std.specs.Prelude.{◌≡◌, ℕ, ◌<◌, ◌≤◌, List, [], None, Some, length, unwrap_or}
use Rattle.std.specs.FinMap as map
use Rattle.traffic_file.specs.PayloadPool.Payloads.{Payloads, payload_of}
use Rattle.traffic_file.specs.PayloadPool.declared.payload.Payload.{Payload}
use Rattle.traffic_file.specs.PayloadPool.declared.payload.TheConstants.{IGNORE, INCOMPLETE}
use Rattle.bus_router.specs.Answers.{payload_at}

-- so many payloads were made, each of these is live under its place, held once, and no other is
pub record IsPoolOf (payloads : List Payload) (pool : Payloads) : Type 0 where
  pub made : pool.next ≡ length payloads
  pub each : (k : ℕ) → k < length payloads → map.get pool.live k ≡ Some (record { payload = payload_at payloads k; count = 1 })
  pub none : (k : ℕ) → length payloads ≤ k → map.get pool.live k ≡ None

-- the payload of a number; where none is live one that no definition looks at
abbrev pub payload_with : Payloads → ℕ → Payload
payload_with pool k = unwrap_or (payload_of pool k) (record { command = IGNORE; address = 0; bytes = []; enables = []; width = 0; status = INCOMPLETE })

-- the payload of the number is live
abbrev pub IsLive : Payloads → ℕ → Type 0
IsLive pool k = payload_of pool k ≡ Some (payload_with pool k)
