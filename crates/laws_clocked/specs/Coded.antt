-- A clocked thread of a tree in the code: its body, and its ticks, each with its number and its tests.
use Rattle.std.specs.Prelude.{◌≡◌, ℕ, ◌+◌, false, List, take, bytes_eq, Contains, Some, None}
use Rattle.std.specs.List.{AllByRecursion, AllZip, sum_by}
use Rattle.code_rules.specs.LogicValues.declared.kinds.Value.TheVariants as value
use Rattle.code_rules.specs.ModelTree.Tree as tree
use Rattle.code_rules.specs.ModelTree.declared.expressions.BinaryOp.TheVariants as op
use Rattle.code_rules.specs.ModelTree.declared.types.TypeForm.TheVariants as type_form
use Rattle.code_rules.specs.FlatDesign.Code as code
use Rattle.code_rules.specs.FlatDesign.Code.{Arena, arena_of, block_at}
use Rattle.code_rules.specs.FlatDesign.Reach.{Inside}
use Rattle.code_rules.specs.FlatDesign.declared.names.NameUse.{NameUse}
use Rattle.code_rules.specs.FlatDesign.declared.value_types.ValueType.TheVariants as type
use Rattle.code_rules.specs.FlatDesign.declared.code.BodyKind.TheVariants as body_kind
use Rattle.code_rules.specs.FlatDesign.declared.code.Code.{Code}
use Rattle.code_rules.specs.ModelRules.Scopes.{Scope, item_scope, local_named, with_local, use_of}
use Rattle.code_rules.specs.ModelRules.Sites.{site, of_statement, block_sites}
use Rattle.code_rules.specs.Deeds.{Home, exception_number}
use Rattle.code_rules.specs.Numbered.{IsBlock}
use Rattle.code_rules.specs.Bodies.{LocalSource, variables_in_block, exceptions_of, body_count}
use Rattle.expanded_text.specs.Clocked.{Reset, Tick, IsTick, again_name, reset_name, plain_type}
use Rattle.laws_clocked.specs.Ticks as coded
use Rattle.laws_clocked.specs.Ticks.{Test, HasTick}
use Rattle.laws_clocked.specs.Again.{Around}
use Rattle.laws_clocked.specs.Clocked.{HasClocked, UncaughtIn}

-- ---- a tick

-- The test of a reset: it asks whether what the name of the signal stands for at the place of the tick is the level, and the exception
-- that it throws has this number.
pub record IsTestOf (s : Scope) (e : ℕ) (r : Reset) (x : Test) : Type 0 where
  pub reads : NameUse
  pub stands_for : use_of s r.signal ≡ Some reads
  pub asks : x.is_at_level ≡ code.binary op.Equal type.Bool (code.name reads) (code.literal (value.Bool r.level))
  pub throws : x.exception ≡ e

-- the statement of this number stands in the block, at any depth
pub record StandsIn (a : Arena) (b : ℕ) (n : ℕ) : Type 0 where
  pub block : ℕ
  pub inside : Inside a b block
  pub listed : Contains (block_at a block) n

-- no local variable that the block declares, at any depth, has this name
abbrev pub NoneNamed : List ℕ → tree.Block → Type 0
NoneNamed name body = AllByRecursion (λ (v : LocalSource). bytes_eq v.0 name ≡ false) (variables_in_block body)

-- A tick of the tree, which stands in the body at this place, is this one of the code: with the same number, and a test for each of its
-- resets. In the code it stands in the block b, and its count is the local variable that the body declares next there. A name that no
-- local variable of the body has stands there for what it stands for in the module.
pub record IsTickOf (a : Arena) (e : ℕ) (s : Scope) (body : tree.Block) (b : ℕ) (t : Tick) (u : coded.Tick) : Type 0 where
  pub line : ℕ
  pub statement : tree.Statement
  pub scope : Scope
  pub written : IsTick t statement
  pub place : Contains (block_sites body s) (site scope line (of_statement statement))
  pub items : scope.items ≡ s.items
  pub hides : (name : List ℕ) → NoneNamed name body → local_named s name ≡ None → local_named scope name ≡ None
  pub has : HasTick a u
  pub edges : u.edges ≡ t.edges
  pub local : u.local ≡ scope.count
  pub tests : AllZip (IsTestOf scope e) t.resets u.tests
  pub stands : StandsIn a b u.whole

-- ---- a clocked thread

-- where the thread's own statements stand: behind the declaration of the variable of its loop
abbrev pub own_scope : Scope → Scope
own_scope s = with_local s again_name (plain_type 0 type_form.Bool)

-- how many bodies modules have
abbrev pub bodies_in : List tree.Module → ℕ
bodies_in ms = sum_by (λ (m : tree.Module). body_count m.items) ms

-- In the code a clocked thread, the item n of the module at this place, has the body of a clocked one. Its number tells how many bodies
-- there are before it in the text. Among its own statements those of its block are read, and its ticks, in text order, stand in its try; and
-- no try among them has a handler for the exception of its resets.
pub record HasThread (m : tree.Model) (items : List tree.Item) (place n : ℕ) (p : tree.ProcessItem) (block : tree.Block) (ticks : List Tick) (c : Code) : Type 0 where
  pub function : ℕ
  pub number : function ≡ bodies_in (take place m.modules) + body_count (take n items)
  pub around : Around
  pub exception : ℕ
  pub has : HasClocked (arena_of c) around exception function
  pub uncaught : UncaughtIn (arena_of c) around exception
  pub kind : has.body.kind ≡ body_kind.Thread
  pub in_module : has.body.module_place ≡ place
  pub name : has.body.name ≡ p.name
  pub home : Home
  pub first_body : home.first_body ≡ bodies_in (take place m.modules)
  pub exceptions : home.exceptions ≡ exceptions_of m
  pub throws : exception_number home reset_name ≡ Some exception
  pub reads : IsBlock block home (arena_of c) (own_scope (item_scope m.modules items p.name)) has.front
  pub coded_ticks : List coded.Tick
  pub has_ticks : AllZip (IsTickOf (arena_of c) exception (item_scope m.modules items p.name) p.body around.inside) ticks coded_ticks
