use Rattle.std.proofs.Common.{◌≡◌, drop}
use Rattle.model_tree.specs.Views.{body_of, statement_of}
use Rattle.model_print.specs.Layout.{put_all}
use Rattle.model_print.specs.Printed.{statement, statements, handlers}
use Rattle.model_tree.proofs.Trees.{handlers_list}
use Rattle.model_print.proofs.statements.+statements.Given as goal

-- the page, with what is left, is the page at the end
abbrev pub invariant-statements-loop-one : goal.invariant-statements-loop-one
invariant-statements-loop-one l = put_all l.fn.page (statements (body_of l.body.items)) ≡ put_all l.page (statements (body_of (drop l.one-index l.body.items)))

abbrev pub invariant-statement-loop-exception : goal.invariant-statement-loop-exception
invariant-statement-loop-exception l = put_all l.fn.page (statement (statement_of l.one)) ≡ put_all l.page (handlers (handlers_list (drop l.exception-index l.exception-items)))
