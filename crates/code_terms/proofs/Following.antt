-- The statements of a block from one on.
use Rattle.std.proofs.Common.{◌≡◌, ℕ, ◌+◌, ◌<◌, List, ◌∷◌, Option, OnOk, Result, Ok, Err, map, length, get_or, drop, sym, ap, ◌∙◌}
use Rattle.std.specs.Prelude.{option_map}
use Rattle.std.proofs.lemmas.List.{at_drop_more}
use Rattle.model_tree.specs.Tree as tree
use Rattle.model_tree.specs.Views.{block_of, body_of, expression_of, statement_of, statement_step}
use Rattle.model_tree.specs.declared.types.VarType.{VarType}
use Rattle.model_tree.specs.declared.expressions.Expression.{Expression}
use Rattle.model_tree.specs.declared.statements.Statement.{Statement, Var, fold-roll-Statement}
use Rattle.model_tree.specs.declared.statements.Statement.TheVariants.{rolls-Var}
use Rattle.model_tree.specs.declared.statements.Statement.TheOpen.{Statement-F}

pub next_statement : (ss : List Statement) (i : ℕ) (x : Statement) → i < length ss → x ≡ get_or ss i x → body_of (drop i ss) ≡ tree.then (statement_of x) (body_of (drop (i + 1) ss))
next_statement ss i x within is = ap block_of (at_drop_more (map statement_of) ss i x within ∙ ap (λ y. y ∷ map statement_of (drop (i + 1) ss)) (ap statement_of (sym is)))

-- the same of a list that is seen by f
pub next_seen : {X Y : Type 0} (f : X → Y) (xs : List X) (i : ℕ) (x : X) → i < length xs → x ≡ get_or xs i x → map f (drop i xs) ≡ f x ∷ map f (drop (i + 1) xs)
next_seen f xs i x within is = at_drop_more (map f) xs i x within ∙ ap (λ y. y ∷ map f (drop (i + 1) xs)) (ap f (sym is))

-- what contracts see of a local variable
pub sees_var : (line : ℕ) (t : VarType) (name : List ℕ) (e : Option Expression) → statement_of (Var line t name e) ≡ tree.var line t name (option_map expression_of e)
sees_var line t name e = ap statement_of (sym (rolls-Var line t name e)) ∙ fold-roll-Statement tree.Statement statement_step (Statement-F.Var line t name e)

-- what a result's value brings
pub ok_then : {T E : Type 0} {A B : Type 0} → (r : Result T E) → (A → B) → OnOk r A → OnOk r B
ok_then (Ok x) f h = f h
ok_then (Err e) f h = tt
