-- What is left of a body stands in the bodies of a design: each statement is one of a body of the module in whose instance it
-- runs, and below a goal each is one of an unwind block, or reached from there.
use Rattle.std.specs.Prelude.{◌≡◌, ℕ, ⊤, slice_get, Option, Some, None}
use Rattle.sim_model.specs.FlatDesign.Code as code
use Rattle.sim_model.specs.FlatDesign.Code.{Arena, Statement, arena_of, statement_at, body_at}
use Rattle.sim_model.specs.FlatDesign.Typed.{EachOf}
use Rattle.sim_model.specs.FlatDesign.Reach.{Reached, InBody}
use Rattle.sim_model.specs.FlatDesign.Sound.{IsHomeOf}
use Rattle.sim_model.specs.FlatDesign.declared.code.CodeBody.{CodeBody}
use Rattle.sim_model.specs.FlatDesign.declared.design.Hop.{Hop}
use Rattle.sim_model.specs.FlatDesign.declared.design.Design.{Design}
use Rattle.sim_model.specs.Residual.{Residual, skip, one, batch, seq, owing, guard, try_, frame, shell, run, goal, within}
use Rattle.sim_model.specs.Reading.{home_of_via}
use Rattle.sim_model.specs.Clean.{EachInHandlers}
use Rattle.sim_model.specs.declared.plain.Via.{Via}

abbrev pub code_of : Design → Arena
code_of d = arena_of d.code

-- a statement of a body of the module of this instance
pub record IsInBody (d : Design) (home : ℕ) (s : Statement) : Type 0 where
  pub function : ℕ
  pub body : CodeBody
  pub found : body_at (code_of d) function ≡ Some body
  pub home_of : IsHomeOf d home body
  pub stands : InBody (code_of d) body s

-- the unwind block of a guard that stands in such a body
pub record IsUnwindBlock (d : Design) (home : ℕ) (u : ℕ) : Type 0 where
  pub function : ℕ
  pub body : CodeBody
  pub block : ℕ
  pub found : body_at (code_of d) function ≡ Some body
  pub home_of : IsHomeOf d home body
  pub stands : InBody (code_of d) body (code.guard block u)

-- the statement of this number is one of a body; and one that is reached from an unwind block too
abbrev pub OfBody : Design → ℕ → ℕ → Type 0
OfBody d home n = (s : Statement) → statement_at (code_of d) n ≡ Some s → IsInBody d home s

pub record OfUnwindBlock (d : Design) (home : ℕ) (n : ℕ) : Type 0 where
  pub unwind : ℕ
  pub is_block : IsUnwindBlock d home unwind
  pub reached : (s : Statement) → statement_at (code_of d) n ≡ Some s → Reached (code_of d) unwind s
  pub of_body : OfBody d home n

-- a transport call goes over a hop of the design
abbrev pub IsOverHop : Design → Option Via → Type 0
IsOverHop d None = ⊤
IsOverHop d (Some via) = (h : Hop) × (slice_get d.hops via.hop ≡ Some h)

-- nothing is being unwound, and each statement is what P says of it, in the instance in which it runs
abbrev pub IsOrdinary : (ℕ → ℕ → Type 0) → Design → ℕ → Residual → Type 0
IsOrdinary P d home skip = ⊤
IsOrdinary P d home (one s) = P home s
IsOrdinary P d home (batch s qs) = P home s
IsOrdinary P d home (seq r ss) = IsOrdinary P d home r × EachOf (P home) ss
IsOrdinary P d home (owing r g u) = ⊥
IsOrdinary P d home (guard r g u) = IsOrdinary P d home r × IsUnwindBlock d home u
IsOrdinary P d home (try_ r handlers) = IsOrdinary P d home r × EachInHandlers (P home) (code_of d) handlers
IsOrdinary P d home (frame r x) = IsOverHop d x.via × IsOrdinary P d (home_of_via d home x.via) r
IsOrdinary P d home (shell r x) = ⊥
IsOrdinary P d home (run g r) = ⊥
IsOrdinary P d home (goal r k) = ⊥

-- all is being unwound, around an unwind block that is begun
abbrev pub IsUnwinding : Design → ℕ → Residual → Type 0
IsUnwinding d home skip = ⊤
IsUnwinding d home (one s) = ⊥
IsUnwinding d home (batch s qs) = ⊥
IsUnwinding d home (seq r ss) = ⊥
IsUnwinding d home (owing r g u) = IsUnwinding d home r × IsUnwindBlock d home u
IsUnwinding d home (guard r g u) = ⊥
IsUnwinding d home (try_ r handlers) = ⊥
IsUnwinding d home (frame r x) = ⊥
IsUnwinding d home (shell r x) = IsOverHop d x.via × IsUnwinding d (home_of_via d home x.via) r
IsUnwinding d home (run g r) = IsOrdinary (OfUnwindBlock d) d home r
IsUnwinding d home (goal r k) = ⊥

-- nothing is being unwound but what is below a goal
abbrev pub IsStanding : Design → ℕ → Residual → Type 0
IsStanding d home skip = ⊤
IsStanding d home (one s) = OfBody d home s
IsStanding d home (batch s qs) = OfBody d home s
IsStanding d home (seq r ss) = IsStanding d home r × EachOf (OfBody d home) ss
IsStanding d home (owing r g u) = ⊥
IsStanding d home (guard r g u) = IsStanding d home r × IsUnwindBlock d home u
IsStanding d home (try_ r handlers) = IsStanding d home r × EachInHandlers (OfBody d home) (code_of d) handlers
IsStanding d home (frame r x) = IsOverHop d x.via × IsStanding d (home_of_via d home x.via) r
IsStanding d home (shell r x) = ⊥
IsStanding d home (run g r) = ⊥
IsStanding d home (goal r k) = IsUnwinding d home r

-- the instance of a module in which the statement in place runs
abbrev pub place_of : Design → ℕ → Residual → ℕ
place_of d home r = home_of_via d home (within r)
