-- What was laid out so far, and what stands in it from now on.
use Rattle.std.specs.Prelude.{◌≡◌, ◌<◌, ◌≤◌, ℕ, List, ◌++◌, length, map, slice_get, Some, Contains}
use Rattle.std.specs.List.{AllByRecursion}
use Rattle.flat_design.specs.Code as code
use Rattle.flat_design.specs.Code.{Arena, statement_of, statement_at}
use Rattle.flat_design.specs.Reach.{Inside, inner_blocks}
use Rattle.flat_design.specs.declared.code.Handler.{Handler}
use Rattle.code_deeds.specs.CodeRules.Numbered.{IsFirst}
use Rattle.code_blocks.specs.declared.laid.Laid.{Laid}

-- that an arena has what was laid out so far, and maybe more behind it
pub record BeginsWith (l : Laid) (a : Arena) : Type 0 where
  pub blocks : (more : List (List ℕ)) × (a.blocks ≡ l.blocks ++ more)
  pub statements : (more : List code.Statement) × (a.statements ≡ map statement_of l.statements ++ more)

-- what was laid out stays
abbrev pub Grows : Laid → Laid → Type 0
Grows old new = (a : Arena) → BeginsWith new a → BeginsWith old a

-- P of each arena that has what was laid out so far
abbrev pub FromNowOn : Laid → (Arena → Type 0) → Type 0
FromNowOn l P = (a : Arena) → BeginsWith l a → P a

-- what a statement adds to the numbers of its block: P says that it is the first of the numbers, which leave the rest
abbrev pub Adds : Laid → List ℕ → List ℕ → (Arena → List ℕ → List ℕ → Type 0) → Type 0
Adds l old new P = (more : List ℕ) × (new ≡ old ++ more) × FromNowOn l (λ a. (rest : List ℕ) → P a (more ++ rest) rest)

-- a statement of the code that is not numbered yet: P is so once it is the first of the numbers
abbrev pub Forms : Laid → code.Statement → (Arena → List ℕ → List ℕ → Type 0) → Type 0
Forms l f P = FromNowOn l (λ a. (ids rest : List ℕ) → IsFirst a f ids rest → P a ids rest)

-- the inner blocks of a statement have smaller numbers than this
abbrev pub InnerBelow : ℕ → code.Statement → Type 0
InnerBelow b f = AllByRecursion (λ j. j < b) (inner_blocks f)

-- the statement of this number is there, and its inner blocks have smaller numbers than the block
abbrev pub StandsIn : Arena → ℕ → ℕ → Type 0
StandsIn a b n = (f : code.Statement) × (statement_at a n ≡ Some f) × InnerBelow b f

abbrev pub StandIn : Arena → ℕ → List ℕ → Type 0
StandIn a b ids = AllByRecursion (StandsIn a b) ids

-- so it is of each block that was laid out
abbrev pub IsNested : Laid → Type 0
IsNested l = (b : ℕ) (ids : List ℕ) → slice_get l.blocks b ≡ Some ids → FromNowOn l (λ a. StandIn a b ids)

-- and of one more block that would have these numbers
abbrev pub IsNext : Laid → List ℕ → Type 0
IsNext l ids = FromNowOn l (λ a. StandIn a (length l.blocks) ids)

-- the blocks of handlers
abbrev pub handler_blocks : List Handler → List ℕ
handler_blocks hs = map (λ (h : Handler). h.block) hs

-- a block stands inside one of some blocks
pub record StandsInside (a : Arena) (bs : List ℕ) (n : ℕ) : Type 0 where
  pub around : ℕ
  pub listed_there : Contains bs around
  pub inside : Inside a around n

-- a block stands inside an inner block of one of some statements
pub record HangsFrom (a : Arena) (ids : List ℕ) (n : ℕ) : Type 0 where
  pub number : ℕ
  pub listed_there : Contains ids number
  pub statement : code.Statement
  pub found : statement_at a number ≡ Some statement
  pub held : StandsInside a (inner_blocks statement) n

-- P of each block that was laid out from this number on, from now on
abbrev pub EachFrom : ℕ → Laid → (Arena → ℕ → Type 0) → Type 0
EachFrom first l P = FromNowOn l (λ a. (n : ℕ) → first ≤ n → n < length l.blocks → P a n)

-- P of none but those: each block that P is so of was laid out from this number on
abbrev pub OnlyFrom : ℕ → Laid → (Arena → ℕ → Type 0) → Type 0
OnlyFrom first l P = FromNowOn l (λ a. (n : ℕ) → P a n → (first ≤ n) × (n < length l.blocks))

-- what hung from some statements alone was laid out from a number on: so it is of what hangs from more of them, where more was laid out
abbrev pub HangsOnlyFromThere : Laid → List ℕ → Laid → List ℕ → Type 0
HangsOnlyFromThere old ids new more =
    (first : ℕ) → first ≤ length old.blocks → OnlyFrom first old (λ a n. HangsFrom a ids n) → OnlyFrom first new (λ a n. HangsFrom a more n)
