-- What the calls of a board answer.
use Rattle.std.specs.Prelude.{◌≡◌, ℕ, Bool, true, false, length, Result, Ok, Err, IsOk}
use Rattle.sim_model.specs.TransportPhases.declared.phases.Rule.{Rule}
use Rattle.sim_model.specs.TransportPhases.History.{Entry}
use Rattle.sim_model.specs.FlatDesign.declared.faults.RunFault.{RunFault}
use Rattle.sim_model.specs.FlatDesign.declared.faults.RunFault.TheVariants as fault
use Rattle.sim_model.specs.Values.{on_ok}
use Rattle.sim_model.specs.Payloads.{payload_of}
use Rattle.sim_model.specs.Configuration.{Config, Transactions}
use Rattle.sim_model.specs.Reading.{live_payload}
use Rattle.sim_model.specs.Calls.{with_entry}
use Rattle.sim_model.specs.Transport.{size_within, may_make, complete_if, judged, judged_return, rule_number, freed_fault}
use Rattle.kernel_transactions.specs.declared.payloads.MakeStop.{MakeStop}
use Rattle.kernel_transactions.specs.declared.payloads.MakeStop.TheVariants as stop

-- the payload is live
abbrev pub use_of : Config → ℕ → Result Unit RunFault
use_of c t = on_ok (live_payload c t) (λ q. Ok tt)

-- the number of a new payload
abbrev pub number_made : Config → ℕ → ℕ → Result ℕ RunFault
number_made c len enables =
    on_ok (size_within 1 len) (λ x. on_ok (size_within 0 enables) (λ y. on_ok (may_make c) (λ ok. Ok (length c.transactions.pool))))

-- where memory is refused there is no fault
abbrev pub Makes : Result ℕ MakeStop → Result ℕ RunFault → Type 0
Makes (Ok t) r = r ≡ Ok t
Makes (Err (stop.Fault f)) r = r ≡ Err f
Makes (Err stop.NoMemory) r = IsOk r

-- whether something was responded, as far as a payload says
abbrev pub complete_in : Transactions → ℕ → Bool
complete_in x t = complete_if (payload_of x.pool t)

-- the judgement of an entry is this answer, and adds the entry where there is no fault
abbrev pub Judges : Result Unit RunFault → Config → ℕ → Entry → ℕ → Type 0
Judges answer c hop e t = judged c hop e t ≡ on_ok answer (λ ok. Ok (with_entry c hop e))

abbrev pub JudgesReturn : Result Unit RunFault → Config → ℕ → Entry → ℕ → Type 0
JudgesReturn answer c hop e t = judged_return c hop e t ≡ on_ok answer (λ ok. Ok (with_entry c hop e))

-- the run fault of a rule that a call breaks, and of one that a return breaks, where the payload was freed or not
abbrev pub fault_of : ℕ → ℕ → Result Unit Rule → Result Unit RunFault
fault_of hop t (Ok u) = Ok u
fault_of hop t (Err p) = Err (fault.Protocol (rule_number p) hop t)

abbrev pub fault_at_return : Bool → ℕ → ℕ → Result Unit Rule → Result Unit RunFault
fault_at_return live hop t (Ok u) = Ok u
fault_at_return true hop t (Err p) = Err (fault.Protocol (rule_number p) hop t)
fault_at_return false hop t (Err p) = Err (freed_fault t (fault.Protocol (rule_number p) hop t))
