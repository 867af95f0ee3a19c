use Rattle.std.proofs.Common.{ℕ, ap, ◌∙◌, ◌+◌, drop, Option, Some, List}
use Rattle.std.proofs.lemmas.Result.{on_ok_weaker}
use Rattle.std.specs.Global.{Vec}
use Rattle.model_tree.specs.Tree as tree
use Rattle.model_tree.specs.declared.statements.Statement.{Statement, If}
use Rattle.model_tree.specs.Views.{statement_of, body_of, expression_of}
use Rattle.model_print.specs.Layout.{put_all}
use Rattle.model_print.specs.Printed.{handlers}
use Rattle.model_tree.proofs.Trees.{handlers_list, sees_if, sees_while, sees_guard, sees_try, next_handler}
use Rattle.model_print.proofs.Trees.{if_printed, else_printed, while_printed, guard_printed, try_printed, handler_printed, shown}
use Rattle.model_print.proofs.statements.+statements.Goals as goal

pub statement-loop-exception-init : goal.statement-loop-exception-init
statement-loop-exception-init t c =
    let sees = ap statement_of c.in-Try.is ∙ sees_try c.in-Try.field-0 c.in-Try.body c.in-Try.handlers in
    rw (sees, c.deref-exception-items.ensures.value)
    (try_printed c.args.page.now c.word-in-Try.new.self c.block-in-Try.new.page c.in-Try.field-0 (body_of c.in-Try.body.items) (handlers_list c.in-Try.handlers.items) c.in_ok-word-in-Try.ensures c.in_ok-block-in-Try.ensures)

pub statement-loop-exception-preserved : goal.statement-loop-exception-preserved
statement-loop-exception-preserved t c =
    let hs : List (List ℕ × Vec Statement) = c.deref-exception-items.result.now in
    let h : List ℕ × Vec Statement = c.loop-exception-item.result in
    let i : ℕ = c.loop-exception.exception-index in
    c.loop-exception.invariant
    ∙ ap (λ x. put_all c.loop-exception.page (handlers x)) (next_handler hs i h c.loop-exception-test.true c.loop-exception-item.is)
    ∙ handler_printed c.loop-exception.page c.word-in-loop-exception.new.self c.name.new.self c.block-in-loop-exception.new.page h.0 (body_of h.1.items) (handlers_list (drop (i + 1) hs)) c.in_ok-word-in-Try-2.ensures c.in_ok-name-in-Try.ensures c.in_ok-block-in-Try-2.ensures

pub statement-returns-in_ok-word-in-Some : goal.statement-returns-in_ok-word-in-Some
statement-returns-in_ok-word-in-Some t c =
    on_ok_weaker c.block-in-Some.result
    (λ at. shown c.args.page.now c.block-in-Some.new.page (statement_of c.args.one.now) _ (ap statement_of c.in-If.is ∙ ap (λ (o : Option (Vec Statement)). statement_of (If c.in-If.field-0 c.in-If.condition c.in-If.body o)) c.in-Some.is ∙ sees_if c.in-If.field-0 c.in-If.condition c.in-If.body (Some c.in-Some.other))
    (if_printed c.args.page.now c.word.new.self c.expression.new.page c.block.new.page c.block-in-Some.new.page c.in-If.field-0 (expression_of c.in-If.condition) (body_of c.in-If.body.items) (tree.else_block (body_of c.in-Some.other.items)) c.in_ok-word-in-If.ensures c.in_ok-expression-in-If.ensures c.in_ok-block-in-If.ensures (else_printed c.block.new.page c.word-in-Some.new.self c.block-in-Some.new.page (body_of c.in-Some.other.items) c.in_ok-word-in-Some.ensures at)))
    c.block-in-Some.ensures

pub statement-returns-in_ok-expression-in-While : goal.statement-returns-in_ok-expression-in-While
statement-returns-in_ok-expression-in-While t c =
    on_ok_weaker c.block-in-While.result
    (λ at. shown c.args.page.now c.block-in-While.new.page (statement_of c.args.one.now) _ (ap statement_of c.in-While.is ∙ sees_while c.in-While.field-0 c.in-While.condition c.in-While.body)
    (while_printed c.args.page.now c.word-in-While.new.self c.expression-in-While.new.page c.block-in-While.new.page c.in-While.field-0 (expression_of c.in-While.condition) (body_of c.in-While.body.items) c.in_ok-word-in-While.ensures c.in_ok-expression-in-While.ensures at))
    c.block-in-While.ensures

pub statement-returns-in_ok-word-in-Guard-2 : goal.statement-returns-in_ok-word-in-Guard-2
statement-returns-in_ok-word-in-Guard-2 t c =
    on_ok_weaker c.block-in-Guard-2.result
    (λ at. shown c.args.page.now c.block-in-Guard-2.new.page (statement_of c.args.one.now) _ (ap statement_of c.in-Guard.is ∙ sees_guard c.in-Guard.field-0 c.in-Guard.body c.in-Guard.undo)
    (guard_printed c.args.page.now c.word-in-Guard.new.self c.block-in-Guard.new.page c.word-in-Guard-2.new.self c.block-in-Guard-2.new.page c.in-Guard.field-0 (body_of c.in-Guard.body.items) (body_of c.in-Guard.undo.items) c.in_ok-word-in-Guard.ensures c.in_ok-block-in-Guard.ensures c.in_ok-word-in-Guard-2.ensures at))
    c.block-in-Guard-2.ensures
