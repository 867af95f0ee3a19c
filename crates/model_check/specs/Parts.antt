-- The parts of the code of a model, as they are laid out one behind another.
use Rattle.std.specs.Prelude.{◌≡◌, ◌<◌, ℕ, true, false, List, [], ◌∷◌, ◌++◌, map, slice_get, Contains, Option, Some}
use Rattle.model_tree.specs.declared.types.VarType.{VarType}
use Rattle.flat_design.specs.Code as code
use Rattle.flat_design.specs.Code.{Arena, arena_of, body_at}
use Rattle.flat_design.specs.Reach.{InBody, Inside, IsIn, inner_blocks}
use Rattle.flat_design.specs.declared.code.CodeBody.{CodeBody}
use Rattle.flat_design.specs.declared.code.Code.{Code}
use Rattle.code_rules.specs.ModelRules.Scopes.{Scope}
use Rattle.code_rules.specs.Deeds.{Home}
use Rattle.code_rules.specs.Bodies.{wait_for, write_truth}
use Rattle.code_blocks.specs.declared.laid.Laid.{Laid}
use Rattle.code_blocks.specs.Laid.{FromNowOn, OnlyFrom, StandsInside}

-- where a function has this answer
abbrev pub answering : Option VarType → Scope → Scope
answering t s = record s { answer = t }

-- in the module whose first body has this number, among exceptions of these names
abbrev pub home_from : ℕ → List (List ℕ) → Home
home_from first names = record { first_body = first; exceptions = names }

-- a signal is 1 for a time and then 0 for another
abbrev pub high_and_low : ℕ → ℕ → ℕ → List code.Statement
high_and_low n high low = write_truth n true ∷ wait_for high ∷ write_truth n false ∷ wait_for low ∷ []

-- Bodies are put behind others: P holds of them from now on, whatever comes behind.
abbrev pub AddsBodies : Laid → List CodeBody → List CodeBody → (Arena → List CodeBody → List CodeBody → Type 0) → Type 0
AddsBodies l old new P = (more : List CodeBody) × (new ≡ old ++ more) × FromNowOn l (λ a. (rest : List CodeBody) → P a (more ++ rest) rest)

-- a block inside a block of the code has a smaller number
abbrev pub IsNestedCode : Code → Type 0
IsNestedCode c = (b j : ℕ) (s : code.Statement) → IsIn (arena_of c) b s → Contains (inner_blocks s) j → j < b

-- the blocks of bodies
abbrev pub body_blocks : List CodeBody → List ℕ
body_blocks bs = map (λ (b : CodeBody). b.block) bs

-- no block stands inside two of these
abbrev pub NoneInTwo : Arena → List ℕ → Type 0
NoneInTwo a bs = (i k b c n : ℕ) → slice_get bs i ≡ Some b → slice_get bs k ≡ Some c → Inside a b n → Inside a c n → i ≡ k

-- what stands inside these was laid out, and nothing stands inside two of them
abbrev pub AreLaidApart : Laid → List ℕ → Type 0
AreLaidApart l bs = OnlyFrom 0 l (λ a n. StandsInside a bs n) × FromNowOn l (λ a. NoneInTwo a bs)

-- a statement stands in some body
pub record IsInABody (a : Arena) (s : code.Statement) : Type 0 where
  pub function : ℕ
  pub body : CodeBody
  pub found : body_at a function ≡ Some body
  pub stands : InBody a body s

-- no statement of a block stands outside the bodies
abbrev pub AllStand : Code → Type 0
AllStand c = (b : ℕ) (s : code.Statement) → IsIn (arena_of c) b s → IsInABody (arena_of c) s
