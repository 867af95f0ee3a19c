use Rattle.std.proofs.Common.{◌≡◌, drop}
use Rattle.std.specs.Option.{option_or}
use Rattle.model_tree.specs.Views.{body_of, statement_of}
use Rattle.model_tree.proofs.Trees.{handlers_list}
use Rattle.tick_trees.specs.Times.{in_statement, in_block, in_handlers}
use Rattle.tick_trees.specs.Unfit.{first, unfit_in}
use Rattle.tick_trees.proofs.statements.+statements.Given as goal

-- what is found, if anything, is in what is left
abbrev pub invariant-in_block-loop-statement : goal.invariant-in_block-loop-statement
invariant-in_block-loop-statement l = first (unfit_in l.fn.r) (in_block (body_of l.body.items)) ≡ first (unfit_in l.fn.r) (in_block (body_of (drop l.statement-index l.statement-items)))

-- what is found so far, and else what is left
abbrev pub invariant-in_statement-loop-handler : goal.invariant-in_statement-loop-handler
invariant-in_statement-loop-handler l =
    option_or l.found (first (unfit_in l.fn.r) (in_handlers (handlers_list (drop l.handler-index l.handler-items)))) ≡ first (unfit_in l.fn.r) (in_statement (statement_of l.statement))
