-- The inner blocks and the handlers of a statement, by its number; and how many layers a block may need inside it.
use Rattle.std.specs.Prelude.{◌<◌, ◌≤◌, ◌+◌, ℕ, List, [], ◌∷◌, Option, Some, None, slice_index, Contains}
use Rattle.sim_model.specs.FlatDesign.Code.{Arena, Statement, block_at, statement_at, body_at}
use Rattle.sim_model.specs.FlatDesign.Facts.{Inner, no_block, choice, loop, guarded, handled, facts}
use Rattle.sim_model.specs.FlatDesign.Reach.{inner_blocks}
use Rattle.sim_model.specs.FlatDesign.declared.code.Handler.{Handler}
use Rattle.sim_model.specs.FlatDesign.declared.code.CodeBody.{CodeBody}
use Rattle.sim_model.specs.FlatDesign.declared.code.Local.{Local}

abbrev pub blocks_in : Option Statement → List ℕ
blocks_in None = []
blocks_in (Some s) = inner_blocks s

abbrev pub blocks_of : Arena → ℕ → List ℕ
blocks_of a s = blocks_in (statement_at a s)

abbrev pub handlers_by : Inner → List Handler
handlers_by no_block = []
handlers_by (choice b other) = []
handlers_by (loop b) = []
handlers_by (guarded b u) = []
handlers_by (handled b handlers) = handlers

abbrev pub handlers_in : Statement → List Handler
handlers_in s = handlers_by (facts s).inner

abbrev pub handlers_if : Option Statement → List Handler
handlers_if None = []
handlers_if (Some s) = handlers_in s

abbrev pub handlers_of : Arena → ℕ → List Handler
handlers_of a s = handlers_if (statement_at a s)

-- the parameters and the local variables of a body, and its block
abbrev pub locals_in : Option CodeBody → List Local
locals_in None = []
locals_in (Some b) = b.locals

abbrev pub locals_at : Arena → ℕ → List Local
locals_at a f = locals_in (body_at a f)

-- the layers that a block may need inside it
abbrev pub depth_of : List ℕ → ℕ → ℕ
depth_of depths b = slice_index depths b

-- An inner block stands inside its outer one with one layer of its statement's, and one of its own.
abbrev pub IsDeep : Arena → List ℕ → Type 0
IsDeep a depths = (b s j : ℕ) → Contains (block_at a b) s → Contains (blocks_of a s) j → depth_of depths j + 2 ≤ depth_of depths b

-- the same of the blocks below n
abbrev pub IsDeepBelow : Arena → List ℕ → ℕ → Type 0
IsDeepBelow a depths n = (b s j : ℕ) → b < n → Contains (block_at a b) s → Contains (blocks_of a s) j → depth_of depths j + 2 ≤ depth_of depths b

-- numbers below n; blocks that need two layers less than these
abbrev pub EachBelow : ℕ → List ℕ → Type 0
EachBelow n [] = Unit {0}
EachBelow n (x ∷ xs) = (x < n) × EachBelow n xs

abbrev pub EachFits : List ℕ → ℕ → List ℕ → Type 0
EachFits depths most [] = Unit {0}
EachFits depths most (b ∷ bs) = (depth_of depths b + 2 ≤ most) × EachFits depths most bs
