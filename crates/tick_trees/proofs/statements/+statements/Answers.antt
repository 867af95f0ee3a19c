use Rattle.std.proofs.Common.{ℕ, ◌+◌, List, [], Option, None, drop, refl, sym, ap, ◌∙◌}
use Rattle.std.specs.Prelude.{option_map}
use Rattle.std.specs.Global.{Vec}
use Rattle.std.specs.Option.{option_or}
use Rattle.std.proofs.lemmas.List.{drop_all}
use Rattle.model_tree.specs.Tree as tree
use Rattle.model_tree.specs.Views.{body_of, expression_of, statement_of}
use Rattle.model_tree.specs.declared.statements.Statement.{Statement}
use Rattle.model_tree.proofs.Trees.{other_of, handlers_list, sees_if, sees_while, sees_guard, sees_try}
use Rattle.tick_trees.specs.Times.{in_option, in_expression, in_statement, in_block, in_handlers}
use Rattle.tick_trees.specs.Unfit.{first, unfit_in}
use Rattle.tick_trees.proofs.Firsts.{or_assoc, or_none, two, three, passed, taken}
use Rattle.tick_trees.proofs.Blocks.{from_statement, from_handler, sees_assign}
use Rattle.tick_trees.proofs.statements.+statements.Goals as goal

pub in_block-loop-statement-preserved : goal.in_block-loop-statement-preserved
in_block-loop-statement-preserved t c =
    let f = unfit_in c.args.r in
    let ss : List Statement = c.deref-statement-items.result.now in
    let i = c.loop-statement.statement-index in
    let s = c.statement-item.result in
    c.loop-statement.invariant
    ∙ from_statement f ss i s c.loop-statement-test.true c.statement-item.is
    ∙ passed (first f (in_statement (statement_of s))) (first f (in_block (body_of (drop (i + 1) ss)))) (sym c.in_statement.ensures ∙ c.in-None.is)

pub in_block-returns-in-Some : goal.in_block-returns-in-Some
in_block-returns-in-Some t c =
    let f = unfit_in c.args.r in
    let ss : List Statement = c.deref-statement-items.result.now in
    let i = c.loop-statement.statement-index in
    let s = c.statement-item.result in
    sym (c.loop-statement.invariant
    ∙ from_statement f ss i s c.loop-statement-test.true c.statement-item.is
    ∙ taken (first f (in_statement (statement_of s))) (first f (in_block (body_of (drop (i + 1) ss)))) c.in-Some.unfit (sym c.in_statement.ensures ∙ c.in-Some.is))

pub in_block-returns : goal.in_block-returns
in_block-returns t c =
    let f = unfit_in c.args.r in
    let ss : List Statement = c.deref-statement-items.result.now in
    sym (c.loop-statement.invariant ∙ ap (λ (xs : List Statement). first f (in_block (body_of xs))) (drop_all c.loop-statement.statement-index ss c.loop-statement-test.false))

pub in_statement-loop-handler-init : goal.in_statement-loop-handler-init
in_statement-loop-handler-init t c =
    let f = unfit_in c.args.r in
    rw c.deref-handler-items.ensures.value
    (two f (in_block (body_of c.in-Try.body.items)) (in_handlers (handlers_list c.in-Try.handlers.items)) c.in_block-found.result _ c.in_block-found.ensures refl
    ∙ sym (ap (λ s. first f (in_statement s)) (ap statement_of c.in-Try.is ∙ sees_try c.in-Try.field-0 c.in-Try.body c.in-Try.handlers)))

pub in_statement-loop-handler-preserved : goal.in_statement-loop-handler-preserved
in_statement-loop-handler-preserved t c =
    let f = unfit_in c.args.r in
    let hs : List (List ℕ × Vec Statement) = c.deref-handler-items.result.now in
    let i = c.loop-handler.handler-index in
    let h = c.loop-handler-item.result in
    let found = c.loop-handler.found in
    let rest = first f (in_handlers (handlers_list (drop (i + 1) hs))) in
    ap (λ o. option_or o rest) (c.either-found-in-loop-handler.ensures ∙ ap (λ o. option_or found o) c.in_block-in-loop-handler.ensures)
    ∙ sym (or_assoc found (first f (in_block (body_of h.1.items))) rest)
    ∙ sym (ap (λ o. option_or found o) (from_handler f hs i h c.loop-handler-test.true c.loop-handler-item.is))
    ∙ c.loop-handler.invariant

pub in_statement-returns-after-loop-handler : goal.in_statement-returns-after-loop-handler
in_statement-returns-after-loop-handler t c =
    let f = unfit_in c.args.r in
    let hs : List (List ℕ × Vec Statement) = c.deref-handler-items.result.now in
    let found = c.loop-handler.found in
    sym (or_none found)
    ∙ sym (ap (λ (xs : List (List ℕ × Vec Statement)). option_or found (first f (in_handlers (handlers_list xs)))) (drop_all c.loop-handler.handler-index hs c.loop-handler-test.false))
    ∙ c.loop-handler.invariant

pub in_statement-returns-in-None : goal.in_statement-returns-in-None
in_statement-returns-in-None t c =
    let f = unfit_in c.args.r in
    let a = c.in_expression-in-If.result in
    let b = c.in_block.result in
    c.either-found.ensures ∙ sym (or_none (option_or a b))
    ∙ three f (in_expression (expression_of c.in-If.condition)) (in_block (body_of c.in-If.body.items)) [] a b None c.in_expression-in-If.ensures c.in_block.ensures refl
    ∙ sym (ap (λ s. first f (in_statement s)) (ap statement_of c.in-If.is ∙ sees_if c.in-If.field-0 c.in-If.condition c.in-If.body c.in-If.other
    ∙ ap (λ (o : Option (Vec Statement)). tree.if_ c.in-If.field-0 (expression_of c.in-If.condition) (body_of c.in-If.body.items) (other_of o)) c.in-None.is))

pub in_statement-returns-in-Some : goal.in_statement-returns-in-Some
in_statement-returns-in-Some t c =
    let f = unfit_in c.args.r in
    let a = c.in_expression-in-If.result in
    let b = c.in_block.result in
    let o = c.in_block-in-Some.result in
    c.either-in-Some.ensures ∙ ap (λ x. option_or x o) c.either-found.ensures
    ∙ three f (in_expression (expression_of c.in-If.condition)) (in_block (body_of c.in-If.body.items)) (in_block (body_of c.in-Some.other.items)) a b o c.in_expression-in-If.ensures c.in_block.ensures c.in_block-in-Some.ensures
    ∙ sym (ap (λ s. first f (in_statement s)) (ap statement_of c.in-If.is ∙ sees_if c.in-If.field-0 c.in-If.condition c.in-If.body c.in-If.other
    ∙ ap (λ (x : Option (Vec Statement)). tree.if_ c.in-If.field-0 (expression_of c.in-If.condition) (body_of c.in-If.body.items) (other_of x)) c.in-Some.is))

pub in_statement-returns-in-While : goal.in_statement-returns-in-While
in_statement-returns-in-While t c =
    let f = unfit_in c.args.r in
    c.either-in-While.ensures
    ∙ two f (in_expression (expression_of c.in-While.condition)) (in_block (body_of c.in-While.body.items)) c.in_expression-in-While.result c.in_block-in-While.result c.in_expression-in-While.ensures c.in_block-in-While.ensures
    ∙ sym (ap (λ s. first f (in_statement s)) (ap statement_of c.in-While.is ∙ sees_while c.in-While.field-0 c.in-While.condition c.in-While.body))

pub in_statement-returns-in-Guard : goal.in_statement-returns-in-Guard
in_statement-returns-in-Guard t c =
    let f = unfit_in c.args.r in
    c.either-in-Guard.ensures
    ∙ two f (in_block (body_of c.in-Guard.body.items)) (in_block (body_of c.in-Guard.undo.items)) c.in_block-in-Guard.result c.in_block-in-Guard-2.result c.in_block-in-Guard.ensures c.in_block-in-Guard-2.ensures
    ∙ sym (ap (λ s. first f (in_statement s)) (ap statement_of c.in-Guard.is ∙ sees_guard c.in-Guard.field-0 c.in-Guard.body c.in-Guard.undo))

pub in_statement-returns-in-Assign : goal.in_statement-returns-in-Assign
in_statement-returns-in-Assign t c =
    let f = unfit_in c.args.r in
    c.either.ensures
    ∙ two f (in_option in_expression (option_map expression_of c.in-Assign.target.index)) (in_expression (expression_of c.in-Assign.value)) c.in_option-in-Assign.result c.in_expression.result c.in_option-in-Assign.ensures c.in_expression.ensures
    ∙ sym (ap (λ s. first f (in_statement s)) (ap statement_of c.in-Assign.is ∙ sees_assign c.in-Assign.field-0 c.in-Assign.target c.in-Assign.value))
