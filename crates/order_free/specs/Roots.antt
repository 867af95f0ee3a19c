-- Where the processes of each instance begin, and what is known of the uses of the first instances.
use Rattle.std.specs.Prelude.{◌≡◌, ◌<◌, ◌+◌, ℕ, true, List, [], length, min, slice_get, unwrap_or, Some, Contains}
use Rattle.flat_design.specs.Code.{Statement, arena_of, body_at}
use Rattle.flat_design.specs.Reach.{Reached}
use Rattle.flat_design.specs.declared.code.CodeBody.{CodeBody}
use Rattle.flat_design.specs.declared.design.ProcessPart.{ProcessPart}
use Rattle.flat_design.specs.declared.design.Design.{Design}
use Rattle.order_free.specs.Uses.{uses_of}
use Rattle.order_free.specs.declared.uses.Use.{Use}
use Rattle.order_free.specs.Free.{Uses}
use Rattle.order_free.specs.Users.{is_within, Shows}
use Rattle.order_free.specs.Tables.{users_at, uses_of_events}
use Rattle.order_free.specs.Spreading.{root}
use Rattle.order_free.specs.declared.users.Users.TheVariants as users
use Rattle.order_free.specs.declared.roots.Root.{Root}
use Rattle.order_free.specs.declared.tables.Tables.{Tables}

-- the instance of a process; all that are in none, where no name stands for anything, are taken together
abbrev pub home_of : Design → ProcessPart → ℕ
home_of d part = min part.home (length d.instances)

-- a process of this instance begins in this block
pub record IsRoot (d : Design) (home p b : ℕ) : Type 0 where
  pub part : ProcessPart
  pub body : CodeBody
  pub found : slice_get d.processes p ≡ Some part
  pub code : body_at (arena_of d.code) part.code ≡ Some body
  pub there : home_of d part ≡ home
  pub block : body.block ≡ b

abbrev pub roots_at : List (List Root) → ℕ → List Root
roots_at rows home = unwrap_or (slice_get rows home) []

-- these are the places where the processes of an instance begin
pub record AreRootsOf (d : Design) (home : ℕ) (roots : List Root) : Type 0 where
  pub are : (r : Root) → Contains roots r → IsRoot d home r.process r.block
  pub all : (p b : ℕ) → IsRoot d home p b → Contains roots (root p b)

-- where the first processes begin, instance by instance
pub record AreRoots (d : Design) (count : ℕ) (rows : List (List Root)) : Type 0 where
  pub many : length rows ≡ length d.instances + 1
  pub are : (home : ℕ) (r : Root) → Contains (roots_at rows home) r → IsRoot d home r.process r.block
  pub all : (home p b : ℕ) → p < count → IsRoot d home p b → Contains (roots_at rows home) (root p b)

-- a process uses something in a statement that it reaches
pub record Reaches (d : Design) (p : ℕ) (u : Use) (part : ProcessPart) : Type 0 where
  pub body : CodeBody
  pub statement : Statement
  pub found : slice_get d.processes p ≡ Some part
  pub code : body_at (arena_of d.code) part.code ≡ Some body
  pub reached : Reached (arena_of d.code) body.block statement
  pub used : Contains (uses_of d part.home statement) u

-- who is told to use something does so
abbrev pub AreShown : Design → Tables → Type 0
AreShown d t = (u : Use) → Shows (λ p. Uses d p u) (users_at t u)

-- what the static sensitivity of the first processes uses is told
pub record TellsSensitivity (d : Design) (count : ℕ) (t : Tables) : Type 0 where
  pub shown : AreShown d t
  pub told : (p : ℕ) (part : ProcessPart) → p < count → slice_get d.processes p ≡ Some part → (u : Use) → Contains (uses_of_events part.sensitive) u → is_within (users.One p) (users_at t u) ≡ true

-- so is what the processes of the first instances use in statements
pub record TellsHomes (d : Design) (count : ℕ) (t : Tables) : Type 0 where
  pub sensitivity : TellsSensitivity d (length d.processes) t
  pub told : (p : ℕ) (u : Use) (part : ProcessPart) → home_of d part < count → Reaches d p u part → is_within (users.One p) (users_at t u) ≡ true

-- everything is told
pub record Tells (d : Design) (t : Tables) : Type 0 where
  pub shown : AreShown d t
  pub told : (p : ℕ) (u : Use) → Uses d p u → is_within (users.One p) (users_at t u) ≡ true
