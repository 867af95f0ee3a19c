-- Two who use nothing together that one alone may use.
use Rattle.std.proofs.Common.{◌⊎◌, ℕ}
use Rattle.order_free.specs.declared.uses.Use.{Use}
use Rattle.order_free.specs.declared.uses.Use.TheVariants as used

-- neither has for a use what one alone may have and the other one has
pub record AreApart (Has Others : Use → Type 0) : Type 0 where
  pub variable : (v : ℕ) → Has (used.Variable v) → Others (used.Variable v) → ⊥
  pub memory : (m : ℕ) → Has (used.Memory m) → Others (used.Memory m) → ⊥
  pub quantum : Has used.Quantum → Others used.Quantum → ⊥
  pub signal : (n : ℕ) → Has (used.WritesSignal n) → Others (used.WritesSignal n) → ⊥
  pub reading : (n : ℕ) → Has (used.ReadsFifo n) → Others (used.ReadsFifo n) → ⊥
  pub writing : (n : ℕ) → Has (used.WritesFifo n) → Others (used.WritesFifo n) → ⊥
  pub cancelled : (e : ℕ) → Has (used.Cancels e) → Others (used.Cancels e) ⊎ Others (used.Notifies e) → ⊥
  pub cancelled_too : (e : ℕ) → Others (used.Cancels e) → Has (used.Notifies e) → ⊥
