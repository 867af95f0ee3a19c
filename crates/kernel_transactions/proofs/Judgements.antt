-- The judgement of a hop as a run fault beside the judgement of the configuration.
use Rattle.std.proofs.Common.{◌≡◌, ℕ, Bool, Option, Some, None, Result, Ok, Err, refl, sym, ap, ◌∙◌}
use Rattle.std.specs.Prelude.{is_some}
use Rattle.sim_model.specs.PayloadPool.declared.payload.Payload.{Payload}
use Rattle.sim_model.specs.TransportPhases.declared.phases.Rule.{Rule}
use Rattle.sim_model.specs.TransportPhases.Phases.{verdict}
use Rattle.sim_model.specs.TransportPhases.History.{Entry, broken}
use Rattle.sim_model.specs.FlatDesign.declared.faults.RunFault.{RunFault}
use Rattle.sim_model.specs.FlatDesign.declared.faults.RunFault.TheVariants as fault
use Rattle.sim_model.specs.Values.{on_ok}
use Rattle.sim_model.specs.Payloads.{payload_of}
use Rattle.sim_model.specs.Configuration.{Config}
use Rattle.sim_model.specs.Calls.{with_entry}
use Rattle.sim_model.specs.Transport.{judged_by, of_freed, for_freed, rule_number, is_complete, complete_if}
use Rattle.sim_model.specs.Reading.{not_freed, live_payload}
use Rattle.kernel_transactions.specs.Hops.{history_at}
use Rattle.kernel_transactions.specs.Answers.{use_of, complete_in, Judges, JudgesReturn, fault_of, fault_at_return}

module _ (c : Config) (hop : ℕ) (e : Entry) (t : ℕ) where
  abbrev after : Result Unit RunFault → Result Config RunFault
  after answer = on_ok answer (λ ok. Ok (with_entry c hop e))

  call_by : (b : Option Rule) → judged_by c hop e t b ≡ after (fault_of hop t (verdict b))
  call_by None = refl
  call_by (Some p) = refl

  pub judged_as : (v : Result Unit Rule) → v ≡ verdict (broken (history_at c.transactions.hops hop) e) → (answer : Result Unit RunFault) → answer ≡ fault_of hop t v → Judges answer c hop e t
  judged_as v is answer same = call_by (broken (history_at c.transactions.hops hop) e) ∙ ap (λ v. after (fault_of hop t v)) (sym is) ∙ ap after (sym same)

  return_fault : (p : Rule) (q : Option Payload) → Err (of_freed t q (fault.Protocol (rule_number p) hop t)) ≡ after (fault_at_return (is_some q) hop t (Err p))
  return_fault p None = refl
  return_fault p (Some q) = refl

  return_by : (b : Option Rule) → for_freed c t (judged_by c hop e t b) ≡ after (fault_at_return (is_some (payload_of c.transactions.pool t)) hop t (verdict b))
  return_by None = refl
  return_by (Some p) = return_fault p (payload_of c.transactions.pool t)

  pub returned_as : (live : Bool) → live ≡ is_some (payload_of c.transactions.pool t) → (v : Result Unit Rule) → v ≡ verdict (broken (history_at c.transactions.hops hop) e)
      → (answer : Result Unit RunFault) → answer ≡ fault_at_return live hop t v → JudgesReturn answer c hop e t
  returned_as live lives v is answer same = return_by (broken (history_at c.transactions.hops hop) e)
      ∙ ap (λ v. after (fault_at_return (is_some (payload_of c.transactions.pool t)) hop t v)) (sym is)
      ∙ ap (λ b. after (fault_at_return b hop t v)) (sym lives) ∙ ap after (sym same)

-- a use of a payload that is live
used_by : (t : ℕ) (k : Result Config RunFault) (o : Option Payload) → on_ok (not_freed t o) (λ q. k) ≡ on_ok (on_ok {A = Payload} {B = Unit {0}} (not_freed t o) (λ q. Ok tt)) (λ ok. k)
used_by t k None = refl
used_by t k (Some q) = refl

pub used_as : (c : Config) (t : ℕ) (k : Result Config RunFault) → on_ok (live_payload c t) (λ q. k) ≡ on_ok (use_of c t) (λ ok. k)
used_as c t k = used_by t k (payload_of c.transactions.pool t)

found_by : (t : ℕ) (q : Payload) (o : Option Payload) → not_freed t o ≡ Ok q → o ≡ Some q
found_by t q None is = cc
found_by t q (Some p) is = cc

pub live_found : (c : Config) (t : ℕ) (q : Payload) → live_payload c t ≡ Ok q → payload_of c.transactions.pool t ≡ Some q
live_found c t q is = found_by t q (payload_of c.transactions.pool t) is

pub complete_read : (c : Config) (t : ℕ) (q : Payload) → live_payload c t ≡ Ok q → is_complete q ≡ complete_in c.transactions t
complete_read c t q is = sym (ap complete_if (live_found c t q is))
