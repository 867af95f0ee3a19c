-- What is left of a body has one of few shapes: no unwinding; or one, inside what it leaves alone.
use Rattle.std.specs.Prelude.{⊤}
use Rattle.sim_model.specs.Residual.{Residual, skip, one, batch, seq, owing, guard, try_, frame, shell, run, goal}

-- nothing is being unwound
abbrev pub IsNormal : Residual → Type 0
IsNormal skip = ⊤
IsNormal (one s) = ⊤
IsNormal (batch s qs) = ⊤
IsNormal (seq r ss) = IsNormal r
IsNormal (owing r g u) = ⊥
IsNormal (guard r g u) = IsNormal r
IsNormal (try_ r handlers) = IsNormal r
IsNormal (frame r x) = IsNormal r
IsNormal (shell r x) = ⊥
IsNormal (run g r) = ⊥
IsNormal (goal r k) = ⊥

-- all is being unwound: unwind blocks that are owed and calls that end, around at most one unwind block that is begun, inside
-- which nothing is being unwound
abbrev pub IsUnwound : Residual → Type 0
IsUnwound skip = ⊤
IsUnwound (one s) = ⊥
IsUnwound (batch s qs) = ⊥
IsUnwound (seq r ss) = ⊥
IsUnwound (owing r g u) = IsUnwound r
IsUnwound (guard r g u) = ⊥
IsUnwound (try_ r handlers) = ⊥
IsUnwound (frame r x) = ⊥
IsUnwound (shell r x) = IsUnwound r
IsUnwound (run g r) = IsNormal r
IsUnwound (goal r k) = ⊥

-- nothing is being unwound but what is below a goal
abbrev pub IsShaped : Residual → Type 0
IsShaped skip = ⊤
IsShaped (one s) = ⊤
IsShaped (batch s qs) = ⊤
IsShaped (seq r ss) = IsShaped r
IsShaped (owing r g u) = ⊥
IsShaped (guard r g u) = IsShaped r
IsShaped (try_ r handlers) = IsShaped r
IsShaped (frame r x) = IsShaped r
IsShaped (shell r x) = ⊥
IsShaped (run g r) = ⊥
IsShaped (goal r k) = IsUnwound r
