-- The code of a clocked thread: its body declares a variable, and asks it in a loop; in that stands a try with the thread's own
-- statements, of which the last alone stores to that variable.
use Rattle.std.specs.Prelude.{◌≡◌, ℕ, true, false, List, [], ◌∷◌, ◌++◌, slice_get, Some, Contains}
use Rattle.laws_runs.specs.LogicValues.declared.kinds.Value.{Value}
use Rattle.laws_runs.specs.LogicValues.declared.kinds.Value.TheVariants as value
use Rattle.laws_runs.specs.FlatDesign.Code as code
use Rattle.laws_runs.specs.FlatDesign.Code.{Arena, Statement, block_at, body_at, statement_at}
use Rattle.laws_runs.specs.FlatDesign.Reach.{Holds, inner_blocks}
use Rattle.laws_runs.specs.FlatDesign.Typed.{EachOf}
use Rattle.laws_runs.specs.FlatDesign.declared.names.NameUse.TheVariants as name_use
use Rattle.laws_runs.specs.FlatDesign.declared.value_types.ValueType.TheVariants as type
use Rattle.laws_runs.specs.FlatDesign.declared.code.CodeBody.{CodeBody}
use Rattle.laws_runs.specs.FlatDesign.declared.code.Handler.{Handler}
use Rattle.laws_runs.specs.SimModel.Values.{truth}
use Rattle.laws_runs.specs.SimModel.Residual.{Frame}
use Rattle.laws_runs.specs.SimModel.Unwinding.{handles}
use Rattle.laws_clocked.specs.Again.{Around, HasAround}
use Rattle.laws_clocked.specs.Stores.{OnlyStores}

-- neither the statement of this number nor one inside it stores to the local variable k
pub record SparesIt (a : Arena) (k s : ℕ) : Type 0 where
  pub itself : (x : Statement) → statement_at a s ≡ Some x → OnlyStores (λ n. n ≡ k → ⊥) x
  pub inside : (x : Statement) (j : ℕ) (y : Statement) → statement_at a s ≡ Some x → Contains (inner_blocks x) j → Holds a j y → OnlyStores (λ n. n ≡ k → ⊥) y

-- the body f is such a one, around whose own statements the try catches the exception e and no other
pub record HasClocked (a : Arena) (b : Around) (e f : ℕ) : Type 0 where
  pub around : HasAround a b e
  pub body : CodeBody
  pub found : body_at a f ≡ Some body
  pub declares : ℕ
  pub begins : block_at a body.block ≡ declares ∷ b.loops ∷ []
  pub first_true : statement_at a declares ≡ Some (code.var b.again type.Bool (Some (code.literal (value.Bool true))))
  pub front : List ℕ
  pub last : ℕ
  pub own : b.first ∷ b.more ≡ front ++ last ∷ []
  pub spares : EachOf (SparesIt a b.again) front
  pub last_false : statement_at a last ≡ Some (code.assign (code.to_name (record { name = name_use.Local b.again; value_type = type.Bool })) (code.literal (value.Bool false)))
  pub handler : Handler
  pub only : b.handlers ≡ handler ∷ []
  pub does_nothing : block_at a handler.block ≡ []

-- no try among the thread's own statements, at any depth, has a handler for the exception e
abbrev pub UncaughtIn : Arena → Around → ℕ → Type 0
UncaughtIn a b e = (body : ℕ) (handlers : List Handler) → Holds a b.inside (code.try_ body handlers) → handles handlers e ≡ false

-- in this call of the body the variable that the loop asks is true
pub record AsksTrue (b : Around) (x : Frame) : Type 0 where
  pub answer : Value
  pub has : slice_get x.locals b.again ≡ Some answer
  pub is_true : truth answer ≡ true
