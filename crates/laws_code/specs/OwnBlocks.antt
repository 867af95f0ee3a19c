-- Bodies that have their blocks for themselves.
use Rattle.std.specs.Prelude.{◌≡◌, ℕ, Some}
use Rattle.code_rules.specs.FlatDesign.Code.{arena_of, body_at}
use Rattle.code_rules.specs.FlatDesign.Reach.{Inside}
use Rattle.code_rules.specs.FlatDesign.declared.code.Code.{Code}
use Rattle.code_rules.specs.FlatDesign.declared.code.CodeBody.{CodeBody}

-- no block of the code stands inside two bodies
abbrev pub HaveOwnBlocks : Code → Type 0
HaveOwnBlocks c = (f g : ℕ) (x y : CodeBody) (n : ℕ) → body_at (arena_of c) f ≡ Some x → body_at (arena_of c) g ≡ Some y → Inside (arena_of c) x.block n → Inside (arena_of c) y.block n → f ≡ g
