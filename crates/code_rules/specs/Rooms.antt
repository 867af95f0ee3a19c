-- The room of a body: the greatest number of events that a statement of its own or of any function can wait for.
use Rattle.std.specs.Prelude.{◌≡◌, ◌⊎◌, ◌≤◌, ◌<◌, ℕ, map, Contains, Some}
use Rattle.model_rules.specs.FlatDesign.Code.{Statement, Arena, body_at}
use Rattle.model_rules.specs.FlatDesign.Reach.{IsIn, InBody, inner_blocks}
use Rattle.model_rules.specs.FlatDesign.Sound.{events_of}
use Rattle.model_rules.specs.FlatDesign.declared.code.BodyKind.TheVariants as body_kind
use Rattle.model_rules.specs.FlatDesign.declared.code.CodeBody.{CodeBody}
use Rattle.model_rules.specs.FlatDesign.declared.code.Code.{Code}

-- the greatest number of events of the statements of a kind: no fewer than any of them has, and no more than one of them has;
-- 0 where there is none
pub record IsGreatest (P : Statement → Type 0) (n : ℕ) : Type 0 where
  pub suffices : (s : Statement) → P s → events_of s ≤ n
  pub needed : (n ≡ 0) ⊎ ((s : Statement) × P s × (events_of s ≡ n))

-- a statement of some function, at any depth
pub record InFunction (a : Arena) (s : Statement) : Type 0 where
  pub function : ℕ
  pub body : CodeBody
  pub found : body_at a function ≡ Some body
  pub is_function : body.kind ≡ body_kind.Function
  pub stands : InBody a body s

-- What a body has room for: its own statements, and those of functions, since nothing else is called. A function's own are
-- among these.
abbrev pub NeedsRoom : Arena → CodeBody → Statement → Type 0
NeedsRoom a b s = InBody a b s ⊎ InFunction a s

abbrev pub IsRoom : Arena → CodeBody → ℕ → Type 0
IsRoom a b room = IsGreatest (NeedsRoom a b) room

-- each body has its room
abbrev pub HasRooms : Arena → Type 0
HasRooms a = (f : ℕ) (b : CodeBody) → body_at a f ≡ Some b → IsRoom a b b.room

-- inner blocks have smaller numbers
abbrev pub IsNested : Arena → Type 0
IsNested a = (b j : ℕ) (s : Statement) → IsIn a b s → Contains (inner_blocks s) j → j < b

-- a body but for its room
abbrev pub without_room : CodeBody → CodeBody
without_room b = record b { room = 0 }

-- code that differs from other code in the rooms of its bodies alone
pub record DiffersInRooms (before after : Code) : Type 0 where
  pub blocks : after.blocks ≡ before.blocks
  pub statements : after.statements ≡ before.statements
  pub bodies : map without_room after.bodies ≡ map without_room before.bodies
