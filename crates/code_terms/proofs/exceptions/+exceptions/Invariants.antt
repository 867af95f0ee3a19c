use Rattle.std.proofs.Common.{◌≡◌, drop}
use Rattle.model_tree.specs.Views.{body_of, statement_of}
use Rattle.model_tree.proofs.Trees.{handlers_list}
use Rattle.code_rules.specs.Bodies.{exceptions_in, exceptions_in_block, exceptions_in_handlers}
use Rattle.code_terms.specs.Names.{with_all}
use Rattle.code_terms.proofs.exceptions.+exceptions.Given as goal

abbrev pub invariant-add_block-loop-statement : goal.invariant-add_block-loop-statement
invariant-add_block-loop-statement l =
    with_all l.names (exceptions_in_block (body_of (drop l.statement-index l.statement-items))) ≡ with_all l.fn.names (exceptions_in_block (body_of l.body.items))

abbrev pub invariant-add_statement-loop-name : goal.invariant-add_statement-loop-name
invariant-add_statement-loop-name l =
    with_all l.names (exceptions_in_handlers (handlers_list (drop l.name-index l.name-items))) ≡ with_all l.fn.names (exceptions_in (statement_of l.statement))
