use Rattle.std.proofs.Common.{◌≡◌, ◌++◌, drop}
use Rattle.model_tree.specs.Views.{body_of, statement_of}
use Rattle.model_tree.proofs.Trees.{handlers_list}
use Rattle.check_expressions.specs.ModelRules.Reach.{all_in_statement, all_in_block, all_in_handlers}
use Rattle.check_reach.specs.Flat.{placed_list}
use Rattle.check_reach.proofs.placed.+statements.Given as goal

abbrev pub invariant-add_block-loop-statement : goal.invariant-add_block-loop-statement
invariant-add_block-loop-statement l =
    placed_list l.placed.items ++ all_in_block (body_of (drop l.statement-index l.statement-items)) l.unwinding ≡ placed_list l.fn.placed.items ++ all_in_block (body_of l.body.items) l.unwinding

abbrev pub invariant-add_statement-loop-body : goal.invariant-add_statement-loop-body
invariant-add_statement-loop-body l =
    placed_list l.placed.items ++ all_in_handlers (handlers_list (drop l.body-index l.body-items)) l.unwinding ≡ placed_list l.fn.placed.items ++ all_in_statement (statement_of l.statement) l.unwinding
