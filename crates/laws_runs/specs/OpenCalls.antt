-- Whose calls are open on a hop.
use Rattle.std.specs.Prelude.{◌≡◌, ℕ, Bool, true, false, Contains, Some}
use Rattle.sim_model.specs.TransportPhases.declared.transaction.Open.{Open}
use Rattle.sim_model.specs.TransportPhases.declared.transaction.Open.TheVariants.{NonBlocking, Blocking}
use Rattle.sim_model.specs.Unwinding.{left_by_unw}
use Rattle.sim_model.specs.Configuration.{Config, Instance, instance_at}
use Rattle.sim_model.specs.declared.plain.Via.{Via}

abbrev pub call_of : Bool → Open
call_of true = Blocking
call_of false = NonBlocking

-- an instance is in a transport call of t over the hop: its frame stands in what is left of its body, and is not unwound
pub record IsInCall (c : Config) (hop t : ℕ) : Type 0 where
  pub serial : ℕ
  pub instance : Instance
  pub is : instance_at c serial ≡ Some instance
  pub call : Via
  pub stands : Contains (left_by_unw instance.residual) call
  pub over : call.hop ≡ hop
  pub of : call.payload ≡ t
