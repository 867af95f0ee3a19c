-- A tick in the code: which statements it is made of; and what is left of its thread inside it, at each of its statements.
use Rattle.std.specs.Prelude.{◌≡◌, ⊤, ℕ, ◌^◌, ◌<◌, true, List, [], ◌∷◌, ◌++◌, slice_get, Some, None}
use Rattle.laws_runs.specs.LogicValues.declared.kinds.Value.{Value}
use Rattle.laws_runs.specs.LogicValues.declared.kinds.Value.TheVariants as value
use Rattle.laws_runs.specs.ModelTree.declared.expressions.BinaryOp.TheVariants as op
use Rattle.laws_runs.specs.FlatDesign.Code as code
use Rattle.laws_runs.specs.FlatDesign.Code.{Arena, Term, block_at, body_at, statement_at}
use Rattle.laws_runs.specs.FlatDesign.Reach.{Inside}
use Rattle.laws_runs.specs.FlatDesign.declared.code.BodyKind.TheVariants as body_kind
use Rattle.laws_runs.specs.FlatDesign.declared.code.CodeBody.{CodeBody}
use Rattle.laws_runs.specs.FlatDesign.declared.names.NameUse.TheVariants as name_use
use Rattle.laws_runs.specs.FlatDesign.declared.value_types.ValueType.{ValueType}
use Rattle.laws_runs.specs.FlatDesign.declared.value_types.ValueType.TheVariants as type
use Rattle.laws_runs.specs.SimModel.Values.{bits}
use Rattle.laws_runs.specs.SimModel.Residual.{Residual, Frame, one, seq, followed, statements, settle, innermost}
use Rattle.laws_clocked.specs.Spots.{Shows}

-- ---- in the code

-- the test of a reset: its statement, what it tests, the block of its throw, and the exception
pub record Test : Type 0 where
  pub test : ℕ
  pub is_at_level : Term
  pub block : ℕ
  pub throws : ℕ
  pub exception : ℕ

-- A tick: how many edges it takes; the number of the local variable that counts them; the statement `if true`, and its block; in that
-- the declaration of the count, and the loop, with its block; in that the wait, the tests and what lowers the count.
pub record Tick : Type 0 where
  pub edges : ℕ
  pub local : ℕ
  pub whole : ℕ
  pub inside : ℕ
  pub declares : ℕ
  pub loops : ℕ
  pub round : ℕ
  pub waits : ℕ
  pub tests : List Test
  pub lowers : ℕ

abbrev pub numbers : List Test → List ℕ
numbers [] = []
numbers (x ∷ xs) = x.test ∷ numbers xs

-- what a round of the loop has behind its wait, where these tests are left
abbrev pub behind : Tick → List Test → List ℕ
behind t tests = numbers tests ++ t.lowers ∷ []

abbrev pub count_of : Tick → Term
count_of t = code.name (name_use.Local t.local)

pub record IsTest (a : Arena) (x : Test) : Type 0 where
  pub left : Term
  pub right : Term
  pub of_type : ValueType
  pub compares : x.is_at_level ≡ code.binary op.Equal of_type left right
  pub tests : statement_at a x.test ≡ Some (code.if_ x.is_at_level x.block None)
  pub inside : block_at a x.block ≡ x.throws ∷ []
  pub throw : statement_at a x.throws ≡ Some (code.throw x.exception)

abbrev pub AreTests : Arena → List Test → Type 0
AreTests a [] = ⊤
AreTests a (x ∷ xs) = IsTest a x × AreTests a xs

-- the code has this tick
pub record HasTick (a : Arena) (t : Tick) : Type 0 where
  pub fits : t.edges < 2 ^ 32
  pub whole : statement_at a t.whole ≡ Some (code.if_ (code.literal (value.Bool true)) t.inside None)
  pub inside : block_at a t.inside ≡ t.declares ∷ t.loops ∷ []
  pub first : Value
  pub edges : bits first ≡ t.edges
  pub declares : statement_at a t.declares ≡ Some (code.var t.local (type.Uint 32) (Some (code.literal first)))
  pub zero_width : ℕ
  pub zero : Value
  pub is_zero : bits zero ≡ 0
  pub loops : statement_at a t.loops ≡ Some (code.while_ (code.binary op.Greater (type.Uint zero_width) (count_of t) (code.literal zero)) t.round)
  pub round : block_at a t.round ≡ t.waits ∷ behind t t.tests
  pub waits : statement_at a t.waits ≡ Some (code.wait code.static)
  pub tests : AreTests a t.tests
  pub one_width : ℕ
  pub unit : Value
  pub is_one : bits unit ≡ 1
  pub lowers : statement_at a t.lowers ≡ Some (code.assign (code.to_name (record { name = name_use.Local t.local; value_type = type.Uint 32 })) (code.binary op.Subtract (type.Uint one_width) (count_of t) (code.literal unit)))

-- the tick stands in no function's body: its round does not
abbrev pub IsInNoFunction : Arena → Tick → Type 0
IsInNoFunction a t = (f : ℕ) (b : CodeBody) → body_at a f ≡ Some b → b.kind ≡ body_kind.Function → Inside a b.block t.round → ⊥

-- ---- what is left of the thread inside a tick

-- which statement of a tick comes next: the tick itself, the declaration of the count, the loop's test, the wait, behind the wait
-- these tests and then what lowers the count
pub data Spot : Type 0 where
  entering : Spot
  declaring : Spot
  testing : Spot
  waiting : Spot
  checking : List Test → Spot

abbrev pub left_at : Tick → Spot → Residual
left_at t entering = one t.whole
left_at t declaring = seq (one t.declares) (t.loops ∷ [])
left_at t testing = one t.loops
left_at t waiting = seq (followed (one t.waits) (behind t t.tests)) (t.loops ∷ [])
left_at t (checking tests) = seq (statements (behind t tests)) (t.loops ∷ [])

-- of a body r is left: once finished parts have fallen away that shows, and the count is v
pub record IsIn (a : Arena) (t : Tick) (spot : Spot) (v : Value) (r : Residual) : Type 0 where
  pub shows : Shows (left_at t spot) (settle a r)
  pub frame : Frame
  pub innermost_is : innermost (settle a r) ≡ Some frame
  pub counts : slice_get frame.locals t.local ≡ Some v
