-- Bodies written by hand: statements one inside another, which are laid out as numbered blocks of numbered statements.
use Rattle.std.specs.Prelude.{ℕ, false, List, [], ◌∷◌, ◌++◌, ◌^◌, ltb, length, refl, T, Some, None}
use Rattle.std.specs.Global.{Vec, Box}
use Rattle.std.proofs.Common.{le_refl, lit<}
use denote.RawPtr.{null_ptr}
use Rattle.sim_model.specs.LogicValues.declared.kinds.Value.TheVariants as value
use Rattle.sim_model.specs.ModelTree.declared.statements.Control.{Control}
use Rattle.sim_model.specs.ModelTree.declared.expressions.UnaryOp.{UnaryOp}
use Rattle.sim_model.specs.ModelTree.declared.expressions.BinaryOp.{BinaryOp}
use Rattle.sim_model.specs.FlatDesign.declared.value_types.ValueType.{ValueType}
use Rattle.sim_model.specs.FlatDesign.declared.names.NameUse.{NameUse}
use Rattle.sim_model.specs.FlatDesign.declared.names.NameUse.TheVariants as name_use
use Rattle.sim_model.specs.FlatDesign.declared.names.EventMember.TheVariants as event
use Rattle.sim_model.specs.FlatDesign.declared.terms.Expr.{Expr, Unary', Binary'}
use Rattle.sim_model.specs.FlatDesign.declared.terms.Expr.TheVariants as expr
use Rattle.sim_model.specs.FlatDesign.declared.code.Await.TheVariants as await
use Rattle.sim_model.specs.FlatDesign.declared.code.ChannelUse.{ChannelUse}
use Rattle.sim_model.specs.FlatDesign.declared.code.EventUse.{EventUse}
use Rattle.sim_model.specs.FlatDesign.declared.code.Store.{Store}
use Rattle.sim_model.specs.FlatDesign.declared.code.Controlled.TheVariants as controlled
use Rattle.sim_model.specs.FlatDesign.declared.code.Destination.TheVariants as destination
use Rattle.sim_model.specs.FlatDesign.declared.code.Statement.{Statement}
use Rattle.sim_model.specs.FlatDesign.declared.code.Statement.TheVariants as kept

-- what the text does not say of lists and boxes in memory

abbrev pub vec_of : {X : Type 0} (xs : List X) → T (ltb (length xs) (2 ^ 63)) → Vec X
vec_of xs few = record { ptr = null_ptr; len = length xs; cap = length xs; alloc = record { memory = record { seal = tt } }; items = xs; ok = (refl, le_refl (length xs)); small = lit< few }

abbrev pub boxed : Box Unit
boxed = record { ptr = null_ptr; alloc = record { memory = record { seal = tt } }; value = tt }

-- names that the module declares, by their places in it, and expressions

abbrev pub item : ℕ → NameUse
item n = name_use.Declared n

abbrev pub local : ℕ → NameUse
local n = name_use.Local n

abbrev pub named : NameUse → Expr
named n = expr.Name n

abbrev pub number : ℕ → Expr
number n = expr.Literal (value.Uint 64 n)

abbrev pub moment : ℕ → Expr
moment n = expr.Literal (value.Moment n)

abbrev pub unary : UnaryOp → ValueType → Expr → Expr
unary op t e = Unary' op t boxed e

abbrev pub binary : BinaryOp → ValueType → Expr → Expr → Expr
binary op t l r = Binary' op t boxed l boxed r

abbrev pub channel : ℕ → ChannelUse
channel n = record { name = n; place = None }

abbrev pub own_event : ℕ → EventUse
own_event n = record { name = item n; place = None; event = event.Own }

abbrev pub store : NameUse → ValueType → Store
store n t = record { name = n; value_type = t }

-- statements

abbrev pub assign : NameUse → ValueType → Expr → Statement
assign n t e = kept.Assign (destination.Name (store n t)) e

abbrev pub say : List ℕ → Statement
say text = kept.Print text None

abbrev pub say_value : List ℕ → Expr → Statement
say_value text e = kept.Print text (Some e)

abbrev pub write : ℕ → ValueType → Expr → Statement
write n t e = kept.Write (channel n) t e

abbrev pub wait_for : ℕ → Statement
wait_for t = kept.Wait (await.For (moment t))

abbrev pub wait_delta : Statement
wait_delta = kept.Wait await.Delta

abbrev pub wait_on : ℕ → Statement
wait_on e = kept.Wait (await.Any (vec_of (own_event e ∷ []) tt) None)

abbrev pub control : Control → ℕ → Statement
control c p = kept.Control c (controlled.Named (item p)) false

abbrev pub throw_at : ℕ → ℕ → Statement
throw_at p e = kept.ThrowIt (controlled.Named (item p)) e false

-- control of the instance itself
abbrev pub control_self : Control → Statement
control_self c = kept.Control c controlled.Myself false

abbrev pub throw_at_self : ℕ → Statement
throw_at_self e = kept.ThrowIt controlled.Myself e false

abbrev pub call : ℕ → Statement
call f = kept.Call None f (vec_of [] tt)

-- events by their places in the module
abbrev pub notify : ℕ → Statement
notify e = kept.Notify e

abbrev pub notify_delta : ℕ → Statement
notify_delta e = kept.NotifyDelta e

abbrev pub notify_after : ℕ → ℕ → Statement
notify_after e t = kept.NotifyAfter e (moment t)

abbrev pub cancel : ℕ → Statement
cancel e = kept.Cancel e

-- a body: nothing, or a statement and what follows it; a try has one handler
pub data Body : Type 0 where
  end : Body
  then : Statement → Body → Body
  branch : Expr → Body → Body → Body
  choice : Expr → Body → Body → Body → Body
  loop : Expr → Body → Body → Body
  guarded : Body → Body → Body → Body
  tried : Body → ℕ → Body → Body → Body

-- these statements, and what follows
abbrev pub does : List Statement → Body → Body
does [] rest = rest
does (s ∷ ss) rest = then s (does ss rest)

pub record Laid : Type 0 where
  pub blocks : List (List ℕ)
  pub statements : List Statement

abbrev pub with_statement : Laid → Statement → Laid
with_statement a s = record a { statements = a.statements ++ s ∷ [] }

abbrev pub with_block : Laid × List ℕ → Laid
with_block x = record x.0 { blocks = x.0.blocks ++ x.1 ∷ [] }

abbrev pub block_of : Laid × List ℕ → ℕ
block_of x = length x.0.blocks

-- the statement behind those that are laid, and then what follows
abbrev pub followed_by : Laid → Statement → (Laid → Laid × List ℕ) → Laid × List ℕ
followed_by a s rest = let x = rest (with_statement a s) in (x.0, length a.statements ∷ x.1)

-- the numbers of a body's statements, with these and the blocks in them laid
abbrev pub lay : Body → Laid → Laid × List ℕ
lay end a = (a, [])
lay (then s rest) a = followed_by a s (lay rest)
lay (branch e b rest) a = let x = lay b a in followed_by (with_block x) (kept.If e (block_of x) None) (lay rest)
lay (choice e b other rest) a =
    let x = lay b a in let y = lay other (with_block x) in followed_by (with_block y) (kept.If e (block_of x) (Some (block_of y))) (lay rest)
lay (loop e b rest) a = let x = lay b a in followed_by (with_block x) (kept.While e (block_of x)) (lay rest)
lay (guarded b u rest) a =
    let x = lay b a in let y = lay u (with_block x) in followed_by (with_block y) (kept.Guard (block_of x) (block_of y)) (lay rest)
lay (tried b e h rest) a =
    let x = lay b a in let y = lay h (with_block x) in followed_by (with_block y) (kept.Try (block_of x) ((record { exception = e; block = block_of y }) ∷ [])) (lay rest)
