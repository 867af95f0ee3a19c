use Rattle.model_tree.specs.Views.{statement_of}
use Rattle.tick_trees.specs.Retimed as retimed
use Rattle.tick_trees.specs.Ticks.{ticks_span}
use Rattle.tick_trees.proofs.Each.{Changed}
use Rattle.tick_rules.proofs.Blocks.{handler_of, retimed_handler}
use Rattle.tick_rules.proofs.statements.+statements.Given as goal

abbrev pub invariant-retime_block-loop-i : goal.invariant-retime_block-loop-i
invariant-retime_block-loop-i l =
    goal.unvisited-retime_block-loop-i l × Changed statement_of (retimed.statement (ticks_span l.fn.r)) l.body.items l.initial.body.items l.i

abbrev pub invariant-retime_statement-loop-i : goal.invariant-retime_statement-loop-i
invariant-retime_statement-loop-i l =
    goal.unvisited-retime_statement-loop-i l × Changed handler_of (retimed_handler (ticks_span l.fn.r)) l.handlers.items l.initial.handlers.items l.i
