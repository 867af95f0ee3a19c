-- A statement and those in it, behind others.
use Rattle.std.proofs.Common.{◌≡◌, Bool, List, [], ◌∷◌, ◌++◌, append_assoc, sym, ap, ◌∙◌}
use Rattle.std.specs.Prelude.{ℕ, option_map, Option}
use Rattle.model_tree.specs.Tree as tree
use Rattle.model_tree.specs.declared.types.VarType.{VarType}
use Rattle.model_tree.specs.declared.expressions.Expression.{Expression}
use Rattle.model_tree.specs.declared.statements.Target.{Target}
use Rattle.model_tree.specs.declared.statements.Operation.{Operation}
use Rattle.model_tree.specs.declared.statements.Action.{Action}
use Rattle.model_tree.specs.declared.statements.Statement.{Var, Assign, Operate, Act, fold-roll-Statement}
use Rattle.model_tree.specs.declared.statements.Statement.TheVariants.{rolls-Var, rolls-Assign, rolls-Operate, rolls-Act}
use Rattle.model_tree.specs.declared.statements.Statement.TheOpen.{Statement-F}
use Rattle.model_tree.specs.Views.{expression_of, target_of, operation_of, action_of, statement_step, statement_of}
use Rattle.check_expressions.specs.ModelRules.Reach.{Placed, all_in_statement}

-- t is what is known of the statement s, and rest what stands in it
pub whole : (s t : tree.Statement) (u : Bool) (old pushed new rest : List Placed) → s ≡ t → all_in_statement t u ≡ (t, u) ∷ rest → pushed ≡ old ++ (s, u) ∷ [] → new ≡ pushed ++ rest → new ≡ old ++ all_in_statement s u
whole s t u old pushed new rest same parts push h =
    h ∙ ap (λ xs. xs ++ rest) push ∙ append_assoc old ((s, u) ∷ []) rest
    ∙ ap (λ (x : tree.Statement). old ++ (x, u) ∷ rest) same ∙ ap (λ xs. old ++ xs) (sym parts)
    ∙ ap (λ (x : tree.Statement). old ++ all_in_statement x u) (sym same)

pub two : (pushed mid new xs ys : List Placed) → mid ≡ pushed ++ xs → new ≡ mid ++ ys → new ≡ pushed ++ (xs ++ ys)
two pushed mid new xs ys h k = k ∙ ap (λ zs. zs ++ ys) h ∙ append_assoc pushed xs ys

pub leaf : (s t : tree.Statement) (u : Bool) (old new : List Placed) → s ≡ t → all_in_statement t u ≡ (t, u) ∷ [] → new ≡ old ++ (s, u) ∷ [] → new ≡ old ++ all_in_statement s u
leaf s t u old new same parts h =
    h ∙ ap (λ (x : tree.Statement). old ++ (x, u) ∷ []) same ∙ ap (λ xs. old ++ xs) (sym parts) ∙ ap (λ (x : tree.Statement). old ++ all_in_statement x u) (sym same)

-- what contracts see of statements that hold no others

pub sees_var : (line : ℕ) (t : VarType) (name : List ℕ) (e : Option Expression) → statement_of (Var line t name e) ≡ tree.var line t name (option_map expression_of e)
sees_var line t name e = ap statement_of (sym (rolls-Var line t name e)) ∙ fold-roll-Statement tree.Statement statement_step (Statement-F.Var line t name e)

pub sees_assign : (line : ℕ) (t : Target) (e : Expression) → statement_of (Assign line t e) ≡ tree.assign line (target_of t) (expression_of e)
sees_assign line t e = ap statement_of (sym (rolls-Assign line t e)) ∙ fold-roll-Statement tree.Statement statement_step (Statement-F.Assign line t e)

pub sees_operate : (line : ℕ) (name : Option (List ℕ)) (at : ℕ) (o : Operation) → statement_of (Operate line name at o) ≡ tree.operate line name at (operation_of o)
sees_operate line name at o = ap statement_of (sym (rolls-Operate line name at o)) ∙ fold-roll-Statement tree.Statement statement_step (Statement-F.Operate line name at o)

pub sees_act : (line : ℕ) (a : Action) → statement_of (Act line a) ≡ tree.act line (action_of a)
sees_act line a = ap statement_of (sym (rolls-Act line a)) ∙ fold-roll-Statement tree.Statement statement_step (Statement-F.Act line a)
