-- The expressions of a statement, and what the statement in place of an instance meets.
use Rattle.std.specs.Prelude.{◌≡◌, ℕ, List, Some}
use Rattle.sim_model.specs.FlatDesign.Code.{Term, Statement, statement_at}
use Rattle.sim_model.specs.FlatDesign.Facts.{facts}
use Rattle.sim_model.specs.FlatDesign.Typed.{EachOf, IsTyped}
use Rattle.sim_model.specs.FlatDesign.Sound.{IsHomeOf}
use Rattle.sim_model.specs.FlatDesign.declared.code.CodeBody.{CodeBody}
use Rattle.sim_model.specs.Residual as residual
use Rattle.sim_model.specs.Residual.{settle, next_of}
use Rattle.sim_model.specs.Configuration.{Config, Instance, arena}
use Rattle.sim_model.specs.Reading.{Here, here}
use Rattle.sim_model.specs.Statements.{settled_in}
use Rattle.laws_runs.specs.Contents.{PlaceFits, context_of}
use Rattle.laws_runs.specs.Operands.{OperandsFit}

-- in the order in which they are evaluated
abbrev pub terms_of : Statement → List Term
terms_of s = (facts s).terms

-- The next step of the instance p, which is i: where a statement comes next, once finished parts have fallen away, each of its
-- expressions meets operands of the types that its operators ask for.
abbrev pub MeetsItsTypes : Config → ℕ → Instance → Type 0
MeetsItsTypes c p i =
    (n : ℕ) (s : Statement) → next_of (settle (arena c) i.residual) ≡ residual.statement n → statement_at (arena c) n ≡ Some s
    → EachOf (OperandsFit (here (settled_in c p i.residual) p (record i { residual = settle (arena c) i.residual }) (settle (arena c) i.residual))) (terms_of s)

-- a statement is typed where it is carried out: it is one of a body of the module of the instance there, and its local variables
-- have the types that the body declares
pub record IsTypedAt (h : Here) (s : Statement) : Type 0 where
  pub body : CodeBody
  pub home_of : IsHomeOf h.config.design h.home body
  pub place_fits : PlaceFits body.locals h
  pub typed : IsTyped (arena h.config) body.module_place body.answer (context_of body.locals h) s

-- so is the statement of the next step of the instance p, which is i
abbrev pub NextIsTyped : Config → ℕ → Instance → Type 0
NextIsTyped c p i =
    (n : ℕ) (s : Statement) → next_of (settle (arena c) i.residual) ≡ residual.statement n → statement_at (arena c) n ≡ Some s
    → IsTypedAt (here (settled_in c p i.residual) p (record i { residual = settle (arena c) i.residual }) (settle (arena c) i.residual)) s
