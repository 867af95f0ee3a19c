-- The first that is found in a block and in handlers, from one on.
use Rattle.std.proofs.Common.{◌≡◌, ℕ, suc, ◌+◌, ◌<◌, List, get_or, drop, drop-cons, add-one, length, Option, sym, ap, ◌∙◌}
use Rattle.std.specs.Global.{Vec}
use Rattle.std.specs.Option.{option_or}
use Rattle.model_tree.specs.Tree as tree
use Rattle.model_tree.specs.Views.{body_of, expression_of, statement_of, statement_step, target_of}
use Rattle.model_tree.specs.declared.expressions.Expression.{Expression}
use Rattle.model_tree.specs.declared.statements.Statement.{Statement, Assign, fold-roll-Statement}
use Rattle.model_tree.specs.declared.statements.Statement.TheVariants.{rolls-Assign}
use Rattle.model_tree.specs.declared.statements.Statement.TheOpen.{Statement-F}
use Rattle.model_tree.specs.declared.statements.Target.{Target}
use Rattle.model_tree.proofs.Trees.{handlers_list, next_handler}
use Rattle.tick_trees.specs.Times.{Timed, in_statement, in_block, in_handlers}
use Rattle.tick_trees.specs.Unfit.{first}
use Rattle.tick_trees.proofs.Firsts.{first_append}

module _ {B : Type 0} (f : Timed → Option B) where
  pub from_statement : (ss : List Statement) (i : ℕ) (s : Statement) → i < length ss → s ≡ get_or ss i s
      → first f (in_block (body_of (drop i ss))) ≡ option_or (first f (in_statement (statement_of s))) (first f (in_block (body_of (drop (i + 1) ss))))
  from_statement ss i s within is = rw (add-one, drop-cons ss i s within, ← is) (first_append f (in_statement (statement_of s)) (in_block (body_of (drop (suc i) ss))))

  pub from_handler : (hs : List (List ℕ × Vec Statement)) (i : ℕ) (h : List ℕ × Vec Statement) → i < length hs → h ≡ get_or hs i h
      → first f (in_handlers (handlers_list (drop i hs))) ≡ option_or (first f (in_block (body_of h.1.items))) (first f (in_handlers (handlers_list (drop (i + 1) hs))))
  from_handler hs i h within is =
      ap (λ x. first f (in_handlers x)) (next_handler hs i h within is) ∙ first_append f (in_block (body_of h.1.items)) (in_handlers (handlers_list (drop (i + 1) hs)))

-- what contracts see of an assignment
pub sees_assign : (line : ℕ) (t : Target) (e : Expression) → statement_of (Assign line t e) ≡ tree.assign line (target_of t) (expression_of e)
sees_assign line t e = ap statement_of (sym (rolls-Assign line t e)) ∙ fold-roll-Statement tree.Statement statement_step (Statement-F.Assign line t e)
