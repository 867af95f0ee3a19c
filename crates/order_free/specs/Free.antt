-- The rule on what the processes of a design share, and what a verdict says of it.
use Rattle.std.specs.Prelude.{◌≡◌, ◌≢◌, ◌⊎◌, ◌<◌, ⊤, ℕ, slice_get, Some, Contains}
use Rattle.flat_design.specs.EventCore.declared.event.Ev.{Ev}
use Rattle.flat_design.specs.Code.{Statement, arena_of, body_at}
use Rattle.flat_design.specs.Reach.{Reached}
use Rattle.flat_design.specs.declared.code.CodeBody.{CodeBody}
use Rattle.flat_design.specs.declared.design.ProcessPart.{ProcessPart}
use Rattle.flat_design.specs.declared.design.Design.{Design}
use Rattle.order_free.specs.Uses.{uses_of, uses_of_event}
use Rattle.order_free.specs.declared.uses.Use.{Use}
use Rattle.order_free.specs.declared.uses.Use.TheVariants as used
use Rattle.order_free.specs.declared.verdicts.Verdict.{Verdict}
use Rattle.order_free.specs.declared.verdicts.Verdict.TheVariants as verdict

-- a process uses something: in a statement that it reaches, whatever the conditions on the way, or by its static sensitivity
pub data Uses (d : Design) (p : ℕ) (u : Use) : Type 0 where
  by_statement : (part : ProcessPart) (b : CodeBody) (s : Statement) → slice_get d.processes p ≡ Some part → body_at (arena_of d.code) part.code ≡ Some b
      → Reached (arena_of d.code) b.block s → Contains (uses_of d part.home s) u → Uses d p u
  by_sensitivity : (part : ProcessPart) (e : Ev) → slice_get d.processes p ≡ Some part → Contains part.sensitive e → Contains (uses_of_event e) u → Uses d p u

-- no two processes use it
abbrev pub HasOneUser : Design → Use → Type 0
HasOneUser d u = (p q : ℕ) → Uses d p u → Uses d q u → p ≡ q

-- a variable, a memory, or the keepers and the global quantum together
abbrev pub IsStored : Use → Type 0
IsStored used.Unfit = ⊥
IsStored used.Watches = ⊥
IsStored used.Quantum = ⊤
IsStored (used.Variable v) = ⊤
IsStored (used.Memory m) = ⊤
IsStored (used.WritesSignal n) = ⊥
IsStored (used.ReadsFifo n) = ⊥
IsStored (used.WritesFifo n) = ⊥
IsStored (used.Notifies e) = ⊥
IsStored (used.Cancels e) = ⊥

-- the writing of a signal or a buffer, or an end of a fifo
abbrev pub IsEnd : Use → Type 0
IsEnd used.Unfit = ⊥
IsEnd used.Watches = ⊥
IsEnd used.Quantum = ⊥
IsEnd (used.Variable v) = ⊥
IsEnd (used.Memory m) = ⊥
IsEnd (used.WritesSignal n) = ⊤
IsEnd (used.ReadsFifo n) = ⊤
IsEnd (used.WritesFifo n) = ⊤
IsEnd (used.Notifies e) = ⊥
IsEnd (used.Cancels e) = ⊥

-- a process notifies or cancels an event
abbrev pub Touches : Design → ℕ → ℕ → Type 0
Touches d e p = Uses d p (used.Cancels e) ⊎ Uses d p (used.Notifies e)

-- the rule, of five parts
pub record Free (d : Design) : Type 0 where
  pub acts : (p : ℕ) → Uses d p used.Unfit → ⊥
  pub watches : (p : ℕ) → Uses d p used.Watches → ⊥
  pub stores : (u : Use) → IsStored u → HasOneUser d u
  pub ends : (u : Use) → IsEnd u → HasOneUser d u
  pub cancelled : (e p q : ℕ) → Uses d p (used.Cancels e) → Touches d e q → p ≡ q

-- two processes use it
pub record IsShared (d : Design) (u : Use) : Type 0 where
  pub one : ℕ
  pub other : ℕ
  pub differ : one ≢ other
  pub uses : Uses d one u
  pub too : Uses d other u

-- one process cancels an event, and another one notifies or cancels it
pub record IsContested (d : Design) (e : ℕ) : Type 0 where
  pub one : ℕ
  pub other : ℕ
  pub differ : one ≢ other
  pub cancels : Uses d one (used.Cancels e)
  pub touches : Touches d e other

-- the part of this number is broken
pub data Breaks (d : Design) (rule : ℕ) : Type 0 where
  first : rule ≡ 1 → (p : ℕ) → Uses d p used.Unfit → Breaks d rule
  second : rule ≡ 2 → (p : ℕ) → Uses d p used.Watches → Breaks d rule
  third : rule ≡ 3 → (u : Use) → IsStored u → IsShared d u → Breaks d rule
  fourth : rule ≡ 4 → (u : Use) → IsEnd u → IsShared d u → Breaks d rule
  fifth : rule ≡ 5 → (e : ℕ) → IsContested d e → Breaks d rule

-- what a verdict says: that the rule is kept, or which part is the first that is broken
abbrev pub Says : Design → Verdict → Type 0
Says d verdict.Yes = Free d
Says d (verdict.No rule) = Breaks d rule × ((k : ℕ) → k < rule → Breaks d k → ⊥)
