-- The blocks of a statement.
use Rattle.std.proofs.Common.{ℕ, List, ◌∷◌, Option, Some, None, refl, arith}
use Rattle.std.specs.Prelude.{Contains, IfSome}
use Rattle.flat_design.specs.Reach.{listed}

pub is_first : (b : ℕ) (bs : List ℕ) → Contains (b ∷ bs) b
is_first b bs = (0, omega arith, refl)

pub is_other : (b : ℕ) (other : Option ℕ) → IfSome other (Contains (b ∷ listed other))
is_other b None = tt
is_other b (Some o) = (1, omega arith, refl)
