-- What is left of the body of a process is its own: it reaches each statement of it.
use Rattle.std.specs.Prelude.{◌≡◌, ⊤, ℕ, slice_get, Some, None}
use Rattle.sim_model.specs.FlatDesign.Code.{Statement, arena_of, statement_at, body_at}
use Rattle.sim_model.specs.FlatDesign.Reach.{Reached}
use Rattle.sim_model.specs.FlatDesign.Typed.{EachOf}
use Rattle.sim_model.specs.FlatDesign.declared.code.CodeBody.{CodeBody}
use Rattle.sim_model.specs.FlatDesign.declared.design.ProcessPart.{ProcessPart}
use Rattle.sim_model.specs.FlatDesign.declared.design.Design.{Design}
use Rattle.sim_model.specs.Residual.{Residual, Frame, skip, one, batch, seq, owing, guard, try_, frame, shell, run, goal}
use Rattle.sim_model.specs.Clean.{EachInBlock, EachInHandlers}
use Rattle.sim_model.specs.declared.plain.Goal.{Goal}
use Rattle.sim_model.specs.declared.plain.Goal.TheVariants as goal_of

-- a statement that the process of this number reaches from its body, whatever the conditions on the way
pub record Reaches (d : Design) (p : ℕ) (s : Statement) : Type 0 where
  pub part : ProcessPart
  pub body : CodeBody
  pub found : slice_get d.processes p ≡ Some part
  pub begins : body_at (arena_of d.code) part.code ≡ Some body
  pub reached : Reached (arena_of d.code) body.block s

-- the statement of this number is such a one
abbrev pub IsOf : Design → ℕ → ℕ → Type 0
IsOf d p n = (s : Statement) → statement_at (arena_of d.code) n ≡ Some s → Reaches d p s

-- an open call, or the body: it is no transport call, and the statement that called is such a one
pub record IsCallOf (d : Design) (p : ℕ) (x : Frame) : Type 0 where
  pub via : x.via ≡ None
  pub call : (n : ℕ) → x.call ≡ Some n → IsOf d p n

-- an unwinding that goes on in a handler, for an exception that the process threw itself
abbrev pub IsThrown : Goal → Type 0
IsThrown goal_of.End = ⊥
IsThrown goal_of.Restart = ⊥
IsThrown goal_of.Thrown = ⊤
IsThrown goal_of.Injected = ⊥

-- Each statement that is left is such a one, those of unwind blocks and handlers among them, and so is each open call. No control call
-- is owed, and nothing is being unwound but before the handler of an exception that the process threw.
abbrev pub IsLeftOf : Design → ℕ → Residual → Type 0
IsLeftOf d p skip = ⊤
IsLeftOf d p (one s) = IsOf d p s
IsLeftOf d p (batch s qs) = ⊥
IsLeftOf d p (seq r ss) = IsLeftOf d p r × EachOf (IsOf d p) ss
IsLeftOf d p (owing r g u) = IsLeftOf d p r × EachInBlock (IsOf d p) (arena_of d.code) u
IsLeftOf d p (guard r g u) = IsLeftOf d p r × EachInBlock (IsOf d p) (arena_of d.code) u
IsLeftOf d p (try_ r handlers) = IsLeftOf d p r × EachInHandlers (IsOf d p) (arena_of d.code) handlers
IsLeftOf d p (frame r x) = IsLeftOf d p r × IsCallOf d p x
IsLeftOf d p (shell r x) = IsLeftOf d p r × IsCallOf d p x
IsLeftOf d p (run g r) = IsLeftOf d p r
IsLeftOf d p (goal r k) = IsLeftOf d p r × IsThrown k
