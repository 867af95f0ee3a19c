-- What shows of what is left of a body, where nothing is being unwound: its innermost part, and what stands around it.
use Rattle.std.specs.Prelude.{⊤, ℕ, List}
use Rattle.laws_runs.specs.FlatDesign.declared.code.Handler.{Handler}
use Rattle.laws_runs.specs.SimModel.Residual.{Residual, Frame, skip, one, batch, seq, owing, guard, try_, frame, shell, run, goal}

-- something is left
abbrev pub IsLeft : Residual → Type 0
IsLeft skip = ⊥
IsLeft (one s) = ⊤
IsLeft (batch s qs) = ⊤
IsLeft (seq r ss) = ⊤
IsLeft (owing r g u) = ⊤
IsLeft (guard r g u) = ⊤
IsLeft (try_ r handlers) = ⊤
IsLeft (frame r x) = ⊤
IsLeft (shell r x) = ⊤
IsLeft (run g r) = ⊤
IsLeft (goal r k) = ⊤

-- x is what is left, or is left inside it: with statements behind it, in a guard, in a try, in a call or in the body
pub data Shows (x : Residual) : Residual → Type 0 where
  itself : Shows x x
  followed_by : (r : Residual) (ss : List ℕ) → Shows x r → Shows x (seq r ss)
  guarded : (r : Residual) (g u : ℕ) → Shows x r → Shows x (guard r g u)
  tried : (r : Residual) (handlers : List Handler) → Shows x r → Shows x (try_ r handlers)
  called : (r : Residual) (y : Frame) → Shows x r → Shows x (frame r y)
