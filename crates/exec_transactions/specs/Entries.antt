-- The entries that transport calls and their returns make in the histories of hops, and what comes of them.
use Rattle.std.specs.Prelude.{◌≡◌, ⊤, ℕ, Bool, true, false, Result, Ok, Err}
use Rattle.exec_calls.specs.LogicValues.declared.kinds.Value.{Value}
use Rattle.exec_calls.specs.TransportPhases.History.{Entry, Call, BCall}
use Rattle.exec_calls.specs.SimModel.declared.plain.Via.{Via}
use Rattle.exec_calls.specs.SimModel.Configuration.{Config}
use Rattle.exec_calls.specs.SimModel.Calls.{with_entry}
use Rattle.exec_calls.specs.SimModel.Transport.{path_of_call, int_of, judged}
use Rattle.exec_calls.specs.KernelState.declared.stops.StatementStop.{StatementStop}
use Rattle.exec_calls.specs.KernelState.declared.stops.StatementStop.TheVariants as stop

-- the entry of a call: a blocking one has no phase
abbrev pub entry_by : Bool → Via → Value → Bool → Bool → Entry
entry_by true via phase complete handled = BCall via.payload handled
entry_by false via phase complete handled = Call via.payload (path_of_call via.forward) (int_of phase) complete handled

abbrev pub entry_of : Via → Value → Bool → Bool → Entry
entry_of via phase complete handled = entry_by via.blocking via phase complete handled

-- the judgement of an entry is this answer, and adds the entry where there is no fault; where memory is refused nothing is said
abbrev pub JudgesOrLacks : Result Unit StatementStop → Config → ℕ → Entry → ℕ → Type 0
JudgesOrLacks (Ok u) c hop e t = judged c hop e t ≡ Ok (with_entry c hop e)
JudgesOrLacks (Err (stop.Fault f)) c hop e t = judged c hop e t ≡ Err f
JudgesOrLacks (Err stop.NoMemory) c hop e t = ⊤
