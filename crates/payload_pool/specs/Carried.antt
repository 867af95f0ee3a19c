-- What a transfer comes to, byte by byte (IEEE 1666-2011, clause 14).
use Rattle.std.specs.Prelude.{◌≡◌, ℕ, ◌<◌, ◌≤◌, ◌^◌, ◌⊎◌, ℤ, true, length}
use Rattle.payload_pool.specs.declared.payload.Payload.{Payload}
use Rattle.payload_pool.specs.declared.payload.TheConstants.{OK}
use Rattle.payload_pool.specs.Transfer.{address_of, is_enabled, status_of}

-- the transfer is done, and was asked for by this command
pub record IsDone (p : Payload) (size : ℕ) (command : ℤ) : Type 0 where
  pub asked : p.command ≡ command
  pub done : status_of p size ≡ OK

-- byte i is enabled, and goes to the address a
pub record GoesTo (p : Payload) (i a : ℕ) : Type 0 where
  pub within : i < length p.bytes
  pub enabled : is_enabled p.enables i ≡ true
  pub address : address_of p i ≡ a

-- byte i goes to the address a, and no later byte goes there
pub record IsLastTo (p : Payload) (i a : ℕ) : Type 0 where
  pub goes : GoesTo p i a
  pub last : (j : ℕ) → i < j → GoesTo p j a → ⊥

-- byte i has no place in a memory of this size
pub record IsOutside (p : Payload) (size i : ℕ) : Type 0 where
  pub within : i < length p.bytes
  pub past : (2 ^ 64 ≤ address_of p i) ⊎ (size ≤ address_of p i)
