-- What a process sees of a configuration in its turn.
use Rattle.std.specs.Prelude.{◌≡◌, ℕ, List, take, slice_get, option_map}
use Rattle.sim_model.specs.LogicValues.declared.kinds.Value.{Value}
use Rattle.sim_model.specs.SignalChannel.Drivers.{Driven}
use Rattle.sim_model.specs.SignalChannel.declared.signal.Signal.{Signal}
use Rattle.sim_model.specs.FifoSync.Fifos.{Queued, available, free}
use Rattle.sim_model.specs.Configuration.{Config, Instance}
use Rattle.kernel_bodies.specs.Strip.{strip}
use Rattle.order_free.specs.declared.uses.Use.{Use}
use Rattle.order_free.specs.declared.uses.Use.TheVariants as used

-- an instance but for the numbers of its guards
abbrev pub unnumbered : Instance → Instance
unnumbered i = record i { residual = strip i.residual }

-- what can be read of a fifo now, the oldest first
abbrev pub in_reach : Queued → List Value
in_reach q = take (available q) q.unread

abbrev pub value_of : Signal → Value
value_of s = s.value

-- at this place both lists have what f shows alike, or both end before it
abbrev pub AlikeAt : {A B : Type 0} → (A → B) → List A → List A → ℕ → Type 0
AlikeAt f xs ys n = option_map f (slice_get ys n) ≡ option_map f (slice_get xs n)

-- The process of this serial, which has these uses, sees both configurations alike: nothing else in them shows in its turn.
pub record Sees (Has : Use → Type 0) (p : ℕ) (c e : Config) : Type 0 where
  -- all see the design, the time, values and what changed, and payloads, which nobody changes
  pub design : e.design ≡ c.design
  pub cycle : e.cycle ≡ c.cycle
  pub values : (n : ℕ) → AlikeAt value_of c.channels.signals e.channels.signals n
  pub resolved : (n : ℕ) → AlikeAt (λ (r : Driven). r.value) c.channels.resolved e.channels.resolved n
  pub changed : e.channels.changed ≡ c.channels.changed
  pub resolved_changed : e.channels.resolved_changed ≡ c.channels.resolved_changed
  pub transactions : e.transactions ≡ c.transactions
  -- it sees itself
  pub own : AlikeAt unnumbered c.processes.instances e.processes.instances p
  -- and what it uses: variables and memories, keepers, the signals that it writes, and its ends of fifos
  pub variables : (v : ℕ) → Has (used.Variable v) → slice_get e.store.variables v ≡ slice_get c.store.variables v
  pub memories : (m : ℕ) → Has (used.Memory m) → slice_get e.store.memories m ≡ slice_get c.store.memories m
  pub quantum : Has used.Quantum → e.quantum ≡ c.quantum
  pub written : (n : ℕ) → Has (used.WritesSignal n) → slice_get e.channels.signals n ≡ slice_get c.channels.signals n
  pub readable : (n : ℕ) → Has (used.ReadsFifo n) → AlikeAt in_reach c.channels.fifos e.channels.fifos n
  pub room : (n : ℕ) → Has (used.WritesFifo n) → AlikeAt free c.channels.fifos e.channels.fifos n
