use Rattle.std.proofs.Common.{◌≡◌, drop}
use Rattle.model_tree.specs.Views.{body_of, statement_of}
use Rattle.model_tree.proofs.Trees.{handlers_list}
use Rattle.check_actions.specs.ModelRules.Scopes.{locals_in_handlers, past, behind}
use Rattle.check_statements.specs.Behind.{behind_all}
use Rattle.check_statements.specs.Doubled.{in_statement, in_block, in_handlers, place_at}
use Rattle.check_statements.proofs.bodies.+statements.Given as goal

abbrev pub invariant-in_statements-loop-statement : goal.invariant-in_statements-loop-statement
invariant-in_statements-loop-statement l = record {
  found : in_block (body_of l.body.items) (place_at l.names l.fn.locals) ≡ in_block (body_of (drop l.statement-index l.statement-items)) (place_at l.names l.locals);
  behind : behind_all (body_of l.body.items) (place_at l.names l.fn.locals) ≡ behind_all (body_of (drop l.statement-index l.statement-items)) (place_at l.names l.locals);
}

abbrev pub invariant-in_statement-loop-body : goal.invariant-in_statement-loop-body
invariant-in_statement-loop-body l = record {
  found : in_statement (statement_of l.statement) (place_at l.names l.fn.locals) ≡ in_handlers (handlers_list (drop l.body-index l.body-items)) (place_at l.names l.locals);
  behind : behind (statement_of l.statement) (place_at l.names l.fn.locals) ≡ past (locals_in_handlers (handlers_list (drop l.body-index l.body-items))) (place_at l.names l.locals);
}
