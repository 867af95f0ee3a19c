-- A turn of a process: its steps, as long as it is on the stack.
use Rattle.std.specs.Prelude.{◌≡◌, ◌≢◌, ⊤, ℕ, suc, [], ◌∷◌, Some, Ok}
use Rattle.sim_model.specs.Residual.{settle, next_of}
use Rattle.sim_model.specs.Configuration.{Config, Instance, arena, instance_at}
use Rattle.sim_model.specs.Statements.{statement_step}
use Rattle.sim_model.specs.Steps.{taking}
use Rattle.order_free.specs.declared.uses.Use.{Use}
use Rattle.laws_order.specs.Alongside.{HasNoHops, OwnNext, AreUnheard}

-- the process of this serial, which has these uses, makes a step of its own: what comes next of it is its own, no transport call is open
-- in it, and nobody waits for its end or its reset
pub record IsOnItsOwn (Has : Use → Type 0) (p : ℕ) (c : Config) : Type 0 where
  pub instance : Instance
  pub found : instance_at c p ≡ Some instance
  pub none : HasNoHops instance.residual
  pub next : OwnNext Has c.design instance.home (next_of (settle (arena c) instance.residual))
  pub unheard : AreUnheard p c

-- so many steps of this process, which is alone on the stack, until the stack is empty
pub data Turn (p : ℕ) : ℕ → Config → Config → Type 0 where
  over : (c : Config) → c.processes.stack ≡ [] → Turn p 0 c c
  goes_on : (n : ℕ) (c d e : Config) → c.processes.stack ≡ p ∷ [] → statement_step c p ≡ Ok d → Turn p n d e → Turn p (suc n) c e

-- each of these steps is its own
abbrev pub EachIsOwn : (Use → Type 0) → (p : ℕ) → (n : ℕ) (c e : Config) → Turn p n c e → Type 0
EachIsOwn Has p _ _ _ (over c empty) = ⊤
EachIsOwn Has p _ _ _ (goes_on n c d e alone is more) = IsOnItsOwn Has p c × EachIsOwn Has p n d e more

-- the process of this serial is taken, and makes its turn of so many steps, each of which is its own
pub record TakesTurn (Has : Use → Type 0) (p n : ℕ) (c e : Config) : Type 0 where
  pub begun : Config
  pub taken : taking c p ≡ Some begun
  pub turn : Turn p n begun e
  pub own : EachIsOwn Has p n begun e turn

-- turns of others than this process, one after another, each with its own uses
pub data TurnsOfOthers (Has : ℕ → Use → Type 0) (p : ℕ) : Config → Config → Type 0 where
  no_turn : (c : Config) → TurnsOfOthers Has p c c
  turn_of : (q n : ℕ) (c e f : Config) → p ≢ q → TakesTurn (Has q) q n c e → TurnsOfOthers Has p e f → TurnsOfOthers Has p c f
