use Rattle.std.proofs.Common.{◌≡◌, ℕ, ◌+◌, List, [], ◌∷◌, ◌++◌, Option, drop, sym, ap, ◌∙◌}
use Rattle.std.specs.Global.{Vec}
use Rattle.model_tree.specs.Views.{body_of, statement_of}
use Rattle.model_tree.specs.declared.statements.Statement.{Statement}
use Rattle.model_tree.proofs.Trees.{handlers_list, next_handler, other_of, sees_guard, sees_if, sees_try}
use Rattle.code_rules.specs.Bodies.{exceptions_in, exceptions_in_block, exceptions_in_else, exceptions_in_handlers}
use Rattle.code_terms.specs.Names.{with_all}
use Rattle.code_terms.proofs.Once.{all_append}
use Rattle.code_terms.proofs.Following.{next_statement, ok_then}
use Rattle.code_terms.proofs.exceptions.+exceptions.Goals as goal

pub add_block-loop-statement-preserved : goal.add_block-loop-statement-preserved
add_block-loop-statement-preserved t c =
    let ss : List Statement = c.deref-statement-items.result.now in
    let i = c.loop-statement.statement-index in
    let x = c.statement-item.result in
    let more = exceptions_in_block (body_of (drop (i + 1) ss)) in
    ap (λ ns. with_all ns more) c.in_ok-add_statement.ensures
    ∙ sym (all_append c.loop-statement.names (exceptions_in (statement_of x)) more)
    ∙ sym (ap (λ b. with_all c.loop-statement.names (exceptions_in_block b)) (next_statement ss i x c.loop-statement-test.true c.statement-item.is))
    ∙ c.loop-statement.invariant

pub add_statement-loop-name-init : goal.add_statement-loop-name-init
add_statement-loop-name-init t c =
    let body = exceptions_in_block (body_of c.in-Try.body.items) in
    rw c.deref-name-items.ensures.value
    (ap (λ ns. with_all ns (exceptions_in_handlers (handlers_list c.in-Try.handlers.items))) c.in_ok-add_block-in-Try.ensures
    ∙ sym (all_append c.args.names.now body (exceptions_in_handlers (handlers_list c.in-Try.handlers.items)))
    ∙ sym (ap (λ s. with_all c.args.names.now (exceptions_in s)) (ap statement_of c.in-Try.is ∙ sees_try c.in-Try.field-0 c.in-Try.body c.in-Try.handlers)))

pub add_statement-loop-name-preserved : goal.add_statement-loop-name-preserved
add_statement-loop-name-preserved t c =
    let hs : List (List ℕ × Vec Statement) = c.deref-name-items.result.now in
    let i = c.loop-name.name-index in
    let h = c.loop-name-item.result in
    let more = exceptions_in_handlers (handlers_list (drop (i + 1) hs)) in
    let body = exceptions_in_block (body_of h.1.items) in
    ap (λ ns. with_all ns more) c.in_ok-add_block-in-Try-2.ensures
    ∙ ap (λ ns. with_all (with_all ns body) more) (c.in_ok-push_once-in-Try.ensures ∙ ap (λ n. with_all c.loop-name.names (n ∷ [])) c.bytes.ensures.value)
    ∙ sym (all_append (with_all c.loop-name.names (h.0 ∷ [])) body more)
    ∙ sym (ap (λ x. with_all c.loop-name.names (exceptions_in_handlers x)) (next_handler hs i h c.loop-name-test.true c.loop-name-item.is))
    ∙ c.loop-name.invariant

pub add_statement-returns-in-Some : goal.add_statement-returns-in-Some
add_statement-returns-in-Some t c =
    let other = c.in-Some.other in
    let view = ap statement_of c.in-If.is ∙ sees_if c.in-If.field-0 c.in-If.field-1 c.in-If.body c.in-If.other in
    let rest : exceptions_in_else (other_of c.in-If.other) ≡ exceptions_in_block (body_of other.items) = ap (λ (o : Option (Vec Statement)). exceptions_in_else (other_of o)) c.in-Some.is in
    let body = exceptions_in_block (body_of c.in-If.body.items) in
    ok_then c.add_block-in-Some.result
    (λ h. h ∙ ap (λ ns. with_all ns (exceptions_in_block (body_of other.items))) c.in_ok-add_block-in-If.ensures
    ∙ sym (all_append c.args.names.now body (exceptions_in_block (body_of other.items)))
    ∙ sym (ap (λ s. with_all c.args.names.now (exceptions_in s)) view ∙ ap (λ xs. with_all c.args.names.now (body ++ xs)) rest))
    c.add_block-in-Some.ensures

pub add_statement-returns-in_ok-add_block-in-Guard : goal.add_statement-returns-in_ok-add_block-in-Guard
add_statement-returns-in_ok-add_block-in-Guard t c =
    let body = exceptions_in_block (body_of c.in-Guard.body.items) in
    let undo = exceptions_in_block (body_of c.in-Guard.undo.items) in
    ok_then c.add_block-in-Guard-2.result
    (λ h. h ∙ ap (λ ns. with_all ns undo) c.in_ok-add_block-in-Guard.ensures
    ∙ sym (all_append c.args.names.now body undo)
    ∙ sym (ap (λ s. with_all c.args.names.now (exceptions_in s)) (ap statement_of c.in-Guard.is ∙ sees_guard c.in-Guard.field-0 c.in-Guard.body c.in-Guard.undo)))
    c.add_block-in-Guard-2.ensures
