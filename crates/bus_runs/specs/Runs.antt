-- The whole of a run of traffic: its one table, the entries of its hops, what its accesses read and write, and the grants that are left.
use Rattle.std.specs.Prelude.{◌≡◌, ℕ, List, Ok}
use Rattle.bus_router.specs.TrafficFile.declared.Bus.{Bus}
use Rattle.bus_router.specs.TrafficFile.BusText.{bus_of}
use Rattle.bus_router.specs.Times.{Table, row_at, IsTableOf}
use Rattle.bus_router.specs.PayloadPool.Payloads.{Payloads}
use Rattle.bus_router.specs.PayloadPool.declared.payload.Payload.{Payload}
use Rattle.bus_router.specs.Answers.{AreAnswers}
use Rattle.bus_router.specs.Leaving.{AreLeft}
use Rattle.bus_router.specs.Pools.{payload_with, IsPoolOf}
use Rattle.bus_runs.specs.Entries.{AreHops}
use Rattle.result_texts.specs.Lines.{IsTextOf}
use Rattle.bus_runs.specs.declared.runs.BusRun.{BusRun}

-- the pool has the payloads of all accesses, answered by the table
pub record AreAnswersIn (bus : Bus) (table : Table) (pool : Payloads) : Type 0 where
  pub payloads : List Payload
  pub answers : AreAnswers bus table payloads
  pub pooled : IsPoolOf payloads pool

-- it has the table of the bus, and the entries of hops, the answers and the grants by that table
pub record IsRunOf (bus : Bus) (run : BusRun) : Type 0 where
  pub table : IsTableOf bus run.rows
  pub hops : AreHops bus (row_at run.rows) run.hops
  pub answers : AreAnswersIn bus (row_at run.rows) run.pool
  pub grants : AreLeft bus (row_at run.rows) run.grants

-- the text of a run of the bus
pub record IsRunText (bus : Bus) (out : List ℕ) : Type 0 where
  pub run : BusRun
  pub is_run : IsRunOf bus run
  pub written : IsTextOf bus run.rows (payload_with run.pool) out

-- what is written for the text of a traffic file: that of a run of its bus
pub record IsWrittenFor (text out : List ℕ) : Type 0 where
  pub bus : Bus
  pub read : bus_of text ≡ Ok bus
  pub ran : IsRunText bus out
