-- What a body or a block reaches: the statements inside it, and those of the bodies that they call.
use Rattle.std.specs.Prelude.{◌≡◌, ℕ, List, [], ◌∷◌, map, Option, Some, Contains}
use Rattle.flat_design.specs.Code as code
use Rattle.flat_design.specs.Code.{Statement, Arena, block_at, statement_at, body_at}
pub use Rattle.flat_design.specs.Facts.{listed}
use Rattle.flat_design.specs.Facts.{Inner, no_block, choice, loop, guarded, handled, facts}
use Rattle.flat_design.specs.declared.code.Handler.{Handler}
use Rattle.flat_design.specs.declared.code.CodeBody.{CodeBody}

-- the blocks of a statement
abbrev pub blocks_in : Inner → List ℕ
blocks_in no_block = []
blocks_in (choice b other) = b ∷ listed other
blocks_in (loop b) = b ∷ []
blocks_in (guarded b u) = b ∷ u ∷ []
blocks_in (handled b handlers) = b ∷ map (λ (h : Handler). h.block) handlers

abbrev pub inner_blocks : Statement → List ℕ
inner_blocks s = blocks_in (facts s).inner

-- a statement of a block
pub record IsIn (a : Arena) (b : ℕ) (s : Statement) : Type 0 where
  pub number : ℕ
  pub listed_there : Contains (block_at a b) number
  pub found : statement_at a number ≡ Some s

-- a block inside a block, at any depth: the block itself, and those of its statements
pub data Inside (a : Arena) : ℕ → ℕ → Type 0 where
  itself : (b : ℕ) → Inside a b b
  deeper : (b k j : ℕ) (s : Statement) → Inside a b k → IsIn a k s → Contains (inner_blocks s) j → Inside a b j

-- a statement inside a block, at any depth
pub record Holds (a : Arena) (b : ℕ) (s : Statement) : Type 0 where
  pub block : ℕ
  pub inside : Inside a b block
  pub stands : IsIn a block s

-- a statement that is reached from a block: inside it, or through a call
pub data Reached (a : Arena) : ℕ → Statement → Type 0 where
  here : (b : ℕ) (s : Statement) → Holds a b s → Reached a b s
  through : (b f : ℕ) (x : Option _) (arguments : List _) (body : CodeBody) (s : Statement)
      → Holds a b (code.call x f arguments) → body_at a f ≡ Some body → Reached a body.block s → Reached a b s

-- a statement of a body
abbrev pub InBody : Arena → CodeBody → Statement → Type 0
InBody a b s = Holds a b.block s
