use Rattle.std.proofs.Common.{◌≡◌, ℕ, List, [], ◌∷◌, ◌++◌, false, Option, append_assoc, sym, ap, ◌∙◌}
use Rattle.std.specs.Global.{Vec}
use Rattle.std.proofs.lemmas.List.{map-append}
use Rattle.model_tree.specs.Views.{body_of, statement_of}
use Rattle.model_tree.specs.declared.statements.Statement.{Statement}
use Rattle.model_tree.proofs.Trees.{handlers_list, other_of, sees_guard, sees_if, sees_try}
use Rattle.code_rules.specs.Bodies.{variables_in, variables_in_block, variables_in_else, variables_in_handlers}
use Rattle.code_terms.specs.Sources.{source_of, sources_of}
use Rattle.code_terms.proofs.Following.{ok_then, sees_var}
use Rattle.code_terms.proofs.sources.+variables.Goals as goal

pub add_statement-loop-body-init : goal.add_statement-loop-body-init
add_statement-loop-body-init t c =
    let old = sources_of c.args.sources.now.items in
    let body = variables_in_block (body_of c.in-Try.body.items) in
    let more = variables_in_handlers (handlers_list c.in-Try.handlers.items) in
    rw c.deref-body-items.ensures.value
    (ap (λ xs. xs ++ more) c.in_ok-add_block-in-Try.ensures
    ∙ append_assoc old body more
    ∙ sym (ap (λ s. old ++ variables_in s) (ap statement_of c.in-Try.is ∙ sees_try c.in-Try.field-0 c.in-Try.body c.in-Try.handlers)))

pub add_statement-returns-in_ok-push-in-Var : goal.add_statement-returns-in_ok-push-in-Var
add_statement-returns-in_ok-push-in-Var t c =
    let old = c.args.sources.now.items in
    ap sources_of c.in_ok-push-in-Var.ensures.items
    ∙ map-append source_of old (_ ∷ [])
    ∙ ap (λ (n : List ℕ). sources_of old ++ (n, c.in-Var.var_type, false) ∷ []) c.bytes.ensures.value
    ∙ sym (ap (λ s. sources_of old ++ variables_in s) (ap statement_of c.in-Var.is ∙ sees_var c.in-Var.field-0 c.in-Var.var_type c.in-Var.name c.in-Var.field-3))

pub add_statement-returns-in-Some : goal.add_statement-returns-in-Some
add_statement-returns-in-Some t c =
    let old = sources_of c.args.sources.now.items in
    let other = c.in-Some.other in
    let body = variables_in_block (body_of c.in-If.body.items) in
    let more = variables_in_block (body_of other.items) in
    let view = ap statement_of c.in-If.is ∙ sees_if c.in-If.field-0 c.in-If.field-1 c.in-If.body c.in-If.other in
    let rest : variables_in_else (other_of c.in-If.other) ≡ more = ap (λ (o : Option (Vec Statement)). variables_in_else (other_of o)) c.in-Some.is in
    ok_then c.add_block-in-Some.result
    (λ h. h ∙ ap (λ xs. xs ++ more) c.in_ok-add_block-in-If.ensures
    ∙ append_assoc old body more
    ∙ sym (ap (λ s. old ++ variables_in s) view ∙ ap (λ xs. old ++ (body ++ xs)) rest))
    c.add_block-in-Some.ensures

pub add_statement-returns-in_ok-add_block-in-Guard : goal.add_statement-returns-in_ok-add_block-in-Guard
add_statement-returns-in_ok-add_block-in-Guard t c =
    let old = sources_of c.args.sources.now.items in
    let body = variables_in_block (body_of c.in-Guard.body.items) in
    let undo = variables_in_block (body_of c.in-Guard.undo.items) in
    ok_then c.add_block-in-Guard-2.result
    (λ h. h ∙ ap (λ xs. xs ++ undo) c.in_ok-add_block-in-Guard.ensures
    ∙ append_assoc old body undo
    ∙ sym (ap (λ s. old ++ variables_in s) (ap statement_of c.in-Guard.is ∙ sees_guard c.in-Guard.field-0 c.in-Guard.body c.in-Guard.undo)))
    c.add_block-in-Guard-2.ensures
