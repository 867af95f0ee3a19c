use Rattle.std.proofs.Common.{ℕ, length, ap, ◌∙◌}
use Rattle.model_tree.specs.Tree as tree
use Rattle.model_tree.specs.Views.{body_of, statement_of}
use Rattle.model_tree.proofs.Trees.{handlers_list, sees_try}
use Rattle.check_actions.specs.ModelRules.Scopes.{Scope, locals_in_block, locals_in_handlers, past, behind}
use Rattle.check_actions.specs.CheckNames.Places.{scope_of, with_visible}
use Rattle.check_statements.specs.Behind.{behind_all}
use Rattle.check_statements.specs.Walked.{in_statement, in_block, in_handlers}
use Rattle.check_statements.proofs.Behind.{behind_block}
use Rattle.check_statements.proofs.Pieces.{passed, second_piece, behind_two}
use Rattle.check_statements.proofs.statements.+statements.Goals as goal

pub in_block-returns : goal.in_block-returns
in_block-returns t c =
    let s : Scope = scope_of c.args.place.now in
    let body : tree.Block = body_of c.args.body.now.items in
    let inside : Scope = scope_of c.in_statements.new.place in
    let h = passed (in_block body s) (behind_all body s) inside c.in_ok-finding.field-0 c.in_default.is c.in_ok-finding.ensures in (
      h.0,
      c.leave.ensures
          ∙ ap (λ (n : ℕ). with_visible n inside) c.mark-mark.ensures
          ∙ ap (with_visible (length s.locals)) h.1
          ∙ behind_block body s,
    )

pub in_statement-loop-body-init : goal.in_statement-loop-body-init
in_statement-loop-body-init t c =
    let s : Scope = scope_of c.args.place.now in
    let body : tree.Block = body_of c.in-Try.body.items in
    let handlers : tree.Handlers = handlers_list c.in-Try.handlers.items in
    let inside : Scope = scope_of c.in_block-in-Try.new.place in
    let sees = ap statement_of c.in-Try.is ∙ sees_try c.in-Try.field-0 c.in-Try.body c.in-Try.handlers in
    let h = passed (in_block body s) (past (locals_in_block body) s) inside c.in_ok-finding-in-Try.field-0 c.in_default-4.is c.in_ok-finding-in-Try.ensures in
    rw c.deref-body-items.ensures.value
    (record {
      found = ap (λ (x : tree.Statement). in_statement x s) sees ∙ second_piece (in_block body s) (in_handlers handlers) inside (past (locals_in_block body) s) h.0 h.1;
      behind = ap (λ (x : tree.Statement). behind x s) sees ∙ behind_two (locals_in_block body) (locals_in_handlers handlers) s inside h.1;
    })
