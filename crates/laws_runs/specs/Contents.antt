-- What a configuration contains has the types that the design declares.
use Rattle.std.specs.Prelude.{◌≡◌, ◌<◌, ◌^◌, ⊤, ℕ, List, [], ◌∷◌, length, Option, Some, None}
use Rattle.sim_model.specs.LogicValues.declared.kinds.Value.{Value}
use Rattle.sim_model.specs.SignalChannel.declared.signal.Signal.{Signal}
use Rattle.sim_model.specs.FifoSync.Fifos.{Queued}
use Rattle.sim_model.specs.PayloadPool.declared.payload.Payload.{Payload}
use Rattle.sim_model.specs.PayloadPool.declared.pool.Counted.{Counted}
use Rattle.sim_model.specs.QuantumKeeper.declared.keeper.Keeper.{Keeper}
use Rattle.sim_model.specs.FlatDesign.ValueTypes.{type_of_value}
use Rattle.sim_model.specs.FlatDesign.Denotes.{Context}
use Rattle.sim_model.specs.FlatDesign.Typed.{EachOf}
use Rattle.sim_model.specs.FlatDesign.declared.value_types.ValueType.{ValueType}
use Rattle.sim_model.specs.FlatDesign.declared.code.Local.{Local}
use Rattle.sim_model.specs.FlatDesign.declared.design.SignalPart.{SignalPart}
use Rattle.sim_model.specs.FlatDesign.declared.design.FifoPart.{FifoPart}
use Rattle.sim_model.specs.FlatDesign.declared.design.MemoryPart.{MemoryPart}
use Rattle.sim_model.specs.FlatDesign.declared.design.VariablePart.{VariablePart}
use Rattle.sim_model.specs.FlatDesign.declared.design.Design.{Design}
use Rattle.sim_model.specs.Payloads.{Payloads}
use Rattle.sim_model.specs.Configuration.{Config, Store, Channels}
use Rattle.sim_model.specs.Reading.{Here}

-- two lists of one length, each element of the first with that of the second at the same place
abbrev pub Pairwise : {A B : Type 0} → (A → B → Type 0) → List A → List B → Type 0
Pairwise P [] [] = ⊤
Pairwise P [] (y ∷ ys) = ⊥
Pairwise P (x ∷ xs) [] = ⊥
Pairwise P (x ∷ xs) (y ∷ ys) = P x y × Pairwise P xs ys

-- a value of this type
abbrev pub IsOf : ValueType → Value → Type 0
IsOf t v = type_of_value v ≡ t

abbrev pub LocalFits : Local → Value → Type 0
LocalFits l v = IsOf l.value_type v

abbrev pub VariableFits : VariablePart → Value → Type 0
VariableFits p v = IsOf p.value_type v

-- the value of a signal, and the one that it gets at its next update
abbrev pub SignalFits : SignalPart → Signal → Type 0
SignalFits p s = IsOf p.value_type s.value × IsOf p.value_type s.next

-- the values in a fifo
abbrev pub FifoFits : FifoPart → Queued → Type 0
FifoFits p q = EachOf (IsOf p.value_type) q.unread

abbrev pub IsByte : ℕ → Type 0
IsByte n = n < 256

-- the bytes of a memory, as many as it has
abbrev pub MemoryFits : MemoryPart → List ℕ → Type 0
MemoryFits p bytes = (length bytes ≡ p.size) × EachOf IsByte bytes

-- the data and the enables of a payload are bytes, and its width is a number of 32 bits
pub record PayloadFits (q : Payload) : Type 0 where
  pub bytes : EachOf IsByte q.bytes
  pub enables : EachOf IsByte q.enables
  pub width : q.width < 2 ^ 32

abbrev pub CountedFits : Option Counted → Type 0
CountedFits None = ⊤
CountedFits (Some c) = PayloadFits c.payload

-- what the modules' variables, memories, channels, payloads and keepers hold
pub record Contents (d : Design) (store : Store) (channels : Channels) (pool : Payloads) (keepers : List Keeper) : Type 0 where
  pub variables : Pairwise VariableFits d.variables store.variables
  pub memories : Pairwise MemoryFits d.memories store.memories
  pub signals : Pairwise SignalFits d.signals channels.signals
  pub resolved : length channels.resolved ≡ length d.resolved
  pub fifos : Pairwise FifoFits d.fifos channels.fifos
  pub payloads : EachOf CountedFits pool
  pub keepers_there : length keepers ≡ d.keepers

abbrev pub ContentsFit : Config → Type 0
ContentsFit c = Contents c.design c.store c.channels c.transactions.pool c.quantum.keepers

-- a place among these local variables: they have their types, and all else has
pub record PlaceFits (locals : List Local) (h : Here) : Type 0 where
  pub contents : ContentsFit h.config
  pub locals_fit : Pairwise LocalFits locals h.locals

abbrev pub context_of : List Local → Here → Context
context_of locals h = record { design = h.config.design; home = h.home; locals = locals }
