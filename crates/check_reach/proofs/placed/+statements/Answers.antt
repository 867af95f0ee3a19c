use Rattle.std.proofs.Common.{◌≡◌, ◌++◌, ◌∷◌, [], append-nil, true, List, Option, refl, sym, ap, ◌∙◌}
use Rattle.std.specs.Global.{Vec}
use Rattle.model_tree.specs.declared.statements.Statement.{Statement}
use Rattle.std.proofs.lemmas.List.{map-append}
use Rattle.model_tree.specs.Tree as tree
use Rattle.model_tree.specs.Views.{body_of, expression_of, statement_of}
use Rattle.model_tree.proofs.Trees.{other_of, handlers_list, sees_if, sees_while, sees_guard, sees_try}
use Rattle.check_expressions.specs.ModelRules.Reach.{all_in_statement, all_in_block, all_in_handlers}
use Rattle.check_reach.specs.Flat.{placed_of, placed_list}
use Rattle.check_reach.specs.declared.placed.PlacedStatement.{PlacedStatement}
use Rattle.check_reach.proofs.Turns.{turn, on_ok}
use Rattle.check_reach.proofs.PlacedLaws.{whole, two, leaf, sees_var, sees_assign, sees_operate, sees_act}
use Rattle.check_reach.proofs.placed.+statements.Goals as goal

pub add_block-loop-statement-preserved : goal.add_block-loop-statement-preserved
add_block-loop-statement-preserved t c =
    let u = c.args.unwinding in
    let ss : List Statement = c.deref-statement-items.result.now in
    turn (λ (xs : List Statement). all_in_block (body_of xs) u) (λ (s : Statement). all_in_statement (statement_of s) u) (λ s xs. refl) ss c.loop-statement.statement-index c.statement-item.result c.loop-statement-test.true c.statement-item.is
    (placed_list c.loop-statement.placed.items) _ _ c.in_ok-add_statement.ensures c.loop-statement.invariant

-- the statement itself
pushed : (old new : List PlacedStatement) (p : PlacedStatement) → new ≡ old ++ p ∷ [] → placed_list new ≡ placed_list old ++ placed_of p ∷ []
pushed old new p h = ap placed_list h ∙ map-append placed_of old (p ∷ [])

pub add_statement-returns-in-Var : goal.add_statement-returns-in-Var
add_statement-returns-in-Var t c =
    leaf (statement_of c.args.statement.now) _ c.args.unwinding (placed_list c.args.placed.now.items) _ (ap statement_of c.in-Var.is ∙ sees_var c.in-Var.field-0 c.in-Var.field-1 c.in-Var.field-2 c.in-Var.field-3) refl (pushed c.args.placed.now.items _ _ c.in_ok-push.ensures.items)

pub add_statement-returns-in-Assign : goal.add_statement-returns-in-Assign
add_statement-returns-in-Assign t c =
    leaf (statement_of c.args.statement.now) _ c.args.unwinding (placed_list c.args.placed.now.items) _ (ap statement_of c.in-Assign.is ∙ sees_assign c.in-Assign.field-0 c.in-Assign.field-1 c.in-Assign.field-2) refl (pushed c.args.placed.now.items _ _ c.in_ok-push.ensures.items)

pub add_statement-returns-in-Operate : goal.add_statement-returns-in-Operate
add_statement-returns-in-Operate t c =
    leaf (statement_of c.args.statement.now) _ c.args.unwinding (placed_list c.args.placed.now.items) _ (ap statement_of c.in-Operate.is ∙ sees_operate c.in-Operate.field-0 c.in-Operate.field-1 c.in-Operate.field-2 c.in-Operate.field-3) refl (pushed c.args.placed.now.items _ _ c.in_ok-push.ensures.items)

pub add_statement-returns-in-Act : goal.add_statement-returns-in-Act
add_statement-returns-in-Act t c =
    leaf (statement_of c.args.statement.now) _ c.args.unwinding (placed_list c.args.placed.now.items) _ (ap statement_of c.in-Act.is ∙ sees_act c.in-Act.field-0 c.in-Act.field-1) refl (pushed c.args.placed.now.items _ _ c.in_ok-push.ensures.items)

-- statements with others in them

pub add_statement-returns-in-None : goal.add_statement-returns-in-None
add_statement-returns-in-None t c =
    let u = c.args.unwinding in
    let old = placed_list c.args.placed.now.items in
    let push = placed_list c.push.new.self.items in
    let new = placed_list c.add_block.new.placed.items in
    let xs = all_in_block (body_of c.in-If.body.items) u in
    whole (statement_of c.args.statement.now) _ u old push new (xs ++ [])
    (ap statement_of c.in-If.is ∙ sees_if c.in-If.field-0 c.in-If.field-1 c.in-If.body c.in-If.other
    ∙ ap (λ (o : Option (Vec Statement)). tree.if_ c.in-If.field-0 (expression_of c.in-If.field-1) (body_of c.in-If.body.items) (other_of o)) c.in-None.is) refl
    (pushed c.args.placed.now.items _ _ c.in_ok-push.ensures.items)
    (two push new new xs [] c.in_ok-add_block-in-If.ensures (sym (append-nil new)))

pub add_statement-returns-in-Some : goal.add_statement-returns-in-Some
add_statement-returns-in-Some t c =
    let u = c.args.unwinding in
    let old = placed_list c.args.placed.now.items in
    let push = placed_list c.push.new.self.items in
    let mid = placed_list c.add_block.new.placed.items in
    let new = placed_list c.add_block-in-Some.new.placed.items in
    let xs = all_in_block (body_of c.in-If.body.items) u in
    let ys = all_in_block (body_of c.in-Some.other.items) u in
    on_ok c.add_block-in-Some.result
    (λ h. whole (statement_of c.args.statement.now) _ u old push new (xs ++ ys)
    (ap statement_of c.in-If.is ∙ sees_if c.in-If.field-0 c.in-If.field-1 c.in-If.body c.in-If.other
    ∙ ap (λ (o : Option (Vec Statement)). tree.if_ c.in-If.field-0 (expression_of c.in-If.field-1) (body_of c.in-If.body.items) (other_of o)) c.in-Some.is) refl
    (pushed c.args.placed.now.items _ _ c.in_ok-push.ensures.items)
    (two push mid new xs ys c.in_ok-add_block-in-If.ensures h))
    c.add_block-in-Some.ensures

pub add_statement-returns-in-While : goal.add_statement-returns-in-While
add_statement-returns-in-While t c =
    let u = c.args.unwinding in
    on_ok c.add_block-in-While.result
    (λ h. whole (statement_of c.args.statement.now) _ u (placed_list c.args.placed.now.items) (placed_list c.push.new.self.items) (placed_list c.add_block-in-While.new.placed.items)
    (all_in_block (body_of c.in-While.body.items) u)
    (ap statement_of c.in-While.is ∙ sees_while c.in-While.field-0 c.in-While.field-1 c.in-While.body) refl
    (pushed c.args.placed.now.items _ _ c.in_ok-push.ensures.items) h)
    c.add_block-in-While.ensures

pub add_statement-returns-in_ok-add_block-in-Guard : goal.add_statement-returns-in_ok-add_block-in-Guard
add_statement-returns-in_ok-add_block-in-Guard t c =
    let u = c.args.unwinding in
    let push = placed_list c.push.new.self.items in
    let mid = placed_list c.add_block-in-Guard.new.placed.items in
    let new = placed_list c.add_block-in-Guard-2.new.placed.items in
    let xs = all_in_block (body_of c.in-Guard.guarded.items) u in
    let ys = all_in_block (body_of c.in-Guard.undo.items) true in
    on_ok c.add_block-in-Guard-2.result
    (λ h. whole (statement_of c.args.statement.now) _ u (placed_list c.args.placed.now.items) push new (xs ++ ys)
    (ap statement_of c.in-Guard.is ∙ sees_guard c.in-Guard.field-0 c.in-Guard.guarded c.in-Guard.undo) refl
    (pushed c.args.placed.now.items _ _ c.in_ok-push.ensures.items)
    (two push mid new xs ys c.in_ok-add_block-in-Guard.ensures h))
    c.add_block-in-Guard-2.ensures

pub add_statement-loop-body-init : goal.add_statement-loop-body-init
add_statement-loop-body-init t c =
    let u = c.args.unwinding in
    let push = placed_list c.push.new.self.items in
    let mid = placed_list c.add_block-in-Try.new.placed.items in
    let xs = all_in_block (body_of c.in-Try.body.items) u in
    let ys = all_in_handlers (handlers_list c.in-Try.handlers.items) u in
    rw c.deref-body-items.ensures.value
    (whole (statement_of c.args.statement.now) _ u (placed_list c.args.placed.now.items) push (mid ++ ys) (xs ++ ys)
    (ap statement_of c.in-Try.is ∙ sees_try c.in-Try.field-0 c.in-Try.body c.in-Try.handlers) refl
    (pushed c.args.placed.now.items _ _ c.in_ok-push.ensures.items)
    (two push mid (mid ++ ys) xs ys c.in_ok-add_block-in-Try.ensures refl))
