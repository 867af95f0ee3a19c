-- Statements of a model by their parts, and what a call's result brings.
use Rattle.std.proofs.Common.{◌≡◌, ℕ, List, ◌++◌, Option, sym, ap, ◌∙◌, subst}
use Rattle.std.specs.Prelude.{option_map}
use Rattle.model_tree.specs.Tree as tree
use Rattle.model_tree.specs.declared.types.VarType.{VarType}
use Rattle.model_tree.specs.declared.expressions.Expression.{Expression}
use Rattle.model_tree.specs.declared.statements.Target.{Target}
use Rattle.model_tree.specs.declared.statements.Operation.{Operation}
use Rattle.model_tree.specs.declared.statements.Action.{Action}
use Rattle.model_tree.specs.declared.statements.Statement.{Var, Assign, Operate, Act, fold-roll-Statement}
use Rattle.model_tree.specs.declared.statements.Statement.TheVariants.{rolls-Var, rolls-Assign, rolls-Operate, rolls-Act}
use Rattle.model_tree.specs.declared.statements.Statement.TheOpen.{Statement-F}
use Rattle.model_tree.specs.Views.{expression_of, target_of, operation_of, action_of, statement_step, statement_of}
use Rattle.flat_design.specs.Code as code
use Rattle.code_deeds.specs.ModelRules.Scopes.{Scope, behind}
use Rattle.code_deeds.specs.CodeRules.Deeds.{Home}
use Rattle.code_deeds.specs.CodeRules.Numbered.{IsCoded, IsStatement}
use Rattle.laws_code.specs.HasCode.{HasCode}
use Rattle.code_blocks.specs.declared.laid.Laid.{Laid}
use Rattle.code_blocks.specs.Laid.{Adds}

pub sees_var : (line : ℕ) (t : VarType) (name : List ℕ) (e : Option Expression) → statement_of (Var line t name e) ≡ tree.var line t name (option_map expression_of e)
sees_var line t name e = ap statement_of (sym (rolls-Var line t name e)) ∙ fold-roll-Statement tree.Statement statement_step (Statement-F.Var line t name e)

pub sees_assign : (line : ℕ) (t : Target) (e : Expression) → statement_of (Assign line t e) ≡ tree.assign line (target_of t) (expression_of e)
sees_assign line t e = ap statement_of (sym (rolls-Assign line t e)) ∙ fold-roll-Statement tree.Statement statement_step (Statement-F.Assign line t e)

pub sees_operate : (line : ℕ) (name : Option (List ℕ)) (at : ℕ) (o : Operation) → statement_of (Operate line name at o) ≡ tree.operate line name at (operation_of o)
sees_operate line name at o = ap statement_of (sym (rolls-Operate line name at o)) ∙ fold-roll-Statement tree.Statement statement_step (Statement-F.Operate line name at o)

pub sees_act : (line : ℕ) (a : Action) → statement_of (Act line a) ≡ tree.act line (action_of a)
sees_act line a = ap statement_of (sym (rolls-Act line a)) ∙ fold-roll-Statement tree.Statement statement_step (Statement-F.Act line a)

-- a statement x, seen as y
module _ (h : Home) (x y : tree.Statement) (is : x ≡ y) (s : Scope) where
  pub seen_coded : HasCode x h s → HasCode y h s
  seen_coded has = subst (λ (z : tree.Statement). HasCode z h s) is has

  pub seen_moves : (u : Scope) → u ≡ behind y s → u ≡ behind x s
  seen_moves u e = e ∙ sym (ap (λ (z : tree.Statement). behind z s) is)

  pub seen_reads : (l : Laid) (old new : List ℕ) → Adds l old new (λ a ns rest. IsStatement y h a s ns rest) → Adds l old new (λ a ns rest. IsStatement x h a s ns rest)
  seen_reads l old new adds = (adds.0, adds.1, λ a begins rest. subst (λ (z : tree.Statement). IsStatement z h a s (adds.0 ++ rest) rest) (sym is) (adds.2 a begins rest))

-- statements that are told by an equal list
pub as_coded : (l : Laid) (old new : List ℕ) (fs gs : Option (List code.Statement)) → fs ≡ gs → Adds l old new (λ a ns rest. IsCoded a fs ns rest) → Adds l old new (λ a ns rest. IsCoded a gs ns rest)
as_coded l old new fs gs e adds = (adds.0, adds.1, λ a begins rest. subst (λ (xs : Option (List code.Statement)). IsCoded a xs (adds.0 ++ rest) rest) e (adds.2 a begins rest))
