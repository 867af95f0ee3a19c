-- What a board stands for: the transactions and the quantum of a configuration.
use Rattle.std.specs.Prelude.{◌≡◌, ◌≤◌, ◌+◌, ℕ, List, [], ◌∷◌, ◌++◌, Some, length, slice_get}
use Rattle.std.specs.Option.{ForSome}
use Rattle.std.specs.FinMap as map
use Rattle.sim_model.specs.PayloadPool.Payloads as pool
use Rattle.sim_model.specs.PayloadPool.declared.payload.Payload.{Payload}
use Rattle.sim_model.specs.TransportPhases.Rows.{Rows}
use Rattle.sim_model.specs.TransportPhases.History.{Entry, Left}
use Rattle.sim_model.specs.Payloads.{Payloads, counted_at, payload_of, with_payload}
use Rattle.sim_model.specs.Configuration.{Transactions, Quantum, change}
use Rattle.sim_model.specs.Transport.{payload_limit}
use Rattle.sim_model.specs.declared.plain.Via.{Via}
use Rattle.kernel_transactions.specs.Hops.{StandsForHops, IsRegisteredOn}
use Rattle.kernel_transactions.specs.declared.TransactionBoard.{TransactionBoard}

-- the live payloads agree number by number, and the next number is how many were made
pub record StandsForPool (p : pool.Payloads) (ps : Payloads) : Type 0 where
  pub each : (t : ℕ) → map.get p.live t ≡ counted_at ps t
  pub next : p.next ≡ length ps

-- a pool and the rows of the hops, by number, are what is kept of these transactions
pub record AreKept (p : pool.Payloads) (rows : List Rows) (x : Transactions) : Type 0 where
  pub payloads : StandsForPool p x.pool
  pub hops : StandsForHops rows x.hops

abbrev pub StandsForTransactions : TransactionBoard → Transactions → Type 0
StandsForTransactions b x = AreKept b.pool b.hops x

-- the keepers and the global quantum
abbrev pub quantum_of : TransactionBoard → Quantum
quantum_of b = record { keepers = b.keepers.items; global = b.global.0 }

abbrev pub StandsForQuantum : TransactionBoard → Quantum → Type 0
StandsForQuantum b x = quantum_of b ≡ x

-- for all transactions that a board stood for, it now stands for what f makes of them
abbrev pub Moves : TransactionBoard → TransactionBoard → (Transactions → Transactions) → Type 0
Moves old new f = (x : Transactions) → StandsForTransactions old x → StandsForTransactions new (f x)

-- where the payload of the number is live, its count stays, and it is what f makes of it
abbrev pub Writes : TransactionBoard → TransactionBoard → ℕ → (Payload → Payload) → Type 0
Writes old new t f = (x : Transactions) (q : Payload) → StandsForTransactions old x → payload_of x.pool t ≡ Some q
    → StandsForTransactions new (record x { pool = with_payload x.pool t (f q) })

abbrev pub SameQuantum : TransactionBoard → TransactionBoard → Type 0
SameQuantum old new = quantum_of new ≡ quantum_of old

-- n is a bound of how many payloads were made and of how many hold each, and no more are live than may be
pub record AreWithin (n : ℕ) (p : pool.Payloads) : Type 0 where
  pub numbers : p.next ≤ n
  pub counts : (t : ℕ) → ForSome (map.get p.live t) (λ c. c.count ≤ n)
  pub live : map.len p.live ≤ payload_limit

abbrev pub IsWithin : ℕ → TransactionBoard → Type 0
IsWithin n b = AreWithin n b.pool

-- what is within a bound stays within it
abbrev pub StaysWithin : TransactionBoard → TransactionBoard → Type 0
StaysWithin old new = (n : ℕ) → IsWithin n old → IsWithin n new

-- or is within the next one
abbrev pub RisesByOne : TransactionBoard → TransactionBoard → Type 0
RisesByOne old new = (n : ℕ) → IsWithin n old → IsWithin (n + 1) new

abbrev pub IsRegisteredAt : TransactionBoard → ℕ → ℕ → Type 0
IsRegisteredAt b hop t = IsRegisteredOn (slice_get b.hops hop) t

-- all that is said of transactions stays
pub record SameTransactions (old new : TransactionBoard) : Type 0 where
  pub stands : (x : Transactions) → StandsForTransactions old x → StandsForTransactions new x
  pub within : StaysWithin old new
  pub registered : (hop t : ℕ) → IsRegisteredAt old hop t → IsRegisteredAt new hop t

-- an entry more in the history of a hop
abbrev pub entered : Transactions → ℕ → Entry → Transactions
entered x hop e = record x { hops = change x.hops hop (λ h. h ++ e ∷ []) }

-- transport calls that were left without a return
abbrev pub left : Transactions → List Via → Transactions
left x [] = x
left x (via ∷ more) = left (entered x via.hop (Left via.payload)) more
