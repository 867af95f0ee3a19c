use Rattle.std.proofs.Common.{◌≡◌, ◌++◌, drop}
use Rattle.model_tree.specs.Views.{body_of, statement_of}
use Rattle.model_tree.proofs.Trees.{handlers_list}
use Rattle.code_rules.specs.Bodies.{variables_in, variables_in_block, variables_in_handlers}
use Rattle.code_terms.specs.Sources.{sources_of}
use Rattle.code_terms.proofs.sources.+variables.Given as goal

abbrev pub invariant-add_block-loop-statement : goal.invariant-add_block-loop-statement
invariant-add_block-loop-statement l =
    sources_of l.sources.items ++ variables_in_block (body_of (drop l.statement-index l.statement-items)) ≡ sources_of l.fn.sources.items ++ variables_in_block (body_of l.body.items)

abbrev pub invariant-add_statement-loop-body : goal.invariant-add_statement-loop-body
invariant-add_statement-loop-body l =
    sources_of l.sources.items ++ variables_in_handlers (handlers_list (drop l.body-index l.body-items)) ≡ sources_of l.fn.sources.items ++ variables_in (statement_of l.statement)
