use Rattle.std.proofs.Common.{◌≡◌, ℕ, List, map, length, Option, Some, vec_len, sym, ap, ◌∙◌, arith}
use borrow.Enum.Total.{values_d}
use Rattle.std.specs.Global.{Vec}
use Rattle.model_tree.specs.Tree as tree
use Rattle.model_tree.specs.Views.{body_of, expression_of, statement_of, block_of}
use Rattle.model_tree.specs.declared.statements.Statement.{Statement, If, Try}
use Rattle.model_tree.specs.contracts.statements.Statement.{enum}
use Rattle.model_tree.specs.declared.statements.Statement as held
use Rattle.model_tree.proofs.Trees.{other_of, handlers_list}
use Rattle.tick_trees.specs.Retimed as retimed
use Rattle.tick_trees.specs.Ticks.{ticks_span}
use Rattle.tick_trees.proofs.Each.{one_more}
use Rattle.tick_rules.proofs.Blocks.{block_each, handler_of, retimed_handler, handlers_each, whole, unvisited_more, if_made, try_made}
use Rattle.tick_rules.proofs.statements.+statements.Goals as goal

pub retime_block-loop-i-preserved : goal.retime_block-loop-i-preserved
retime_block-loop-i-preserved t c =
    let f = ticks_span c.args.r in (
      unvisited_more c.loop-i.body.items c.args.body.now.items c.loop-i.i c.retime_statement.new.statement c.loop-i.invariant.0,
      one_more statement_of (retimed.statement f) c.loop-i.body.items c.args.body.now.items c.loop-i.i c.index_mut.result.now c.retime_statement.new.statement (omega arith)
          (c.retime_statement.ensures ∙ ap (λ (s : Statement). retimed.statement f (statement_of s)) c.index_mut.ensures.value)
          c.loop-i.invariant.1,
    )

pub retime_block-returns : goal.retime_block-returns
retime_block-returns t c =
    let f = ticks_span c.args.r in
    ap block_of (whole statement_of (retimed.statement f) c.loop-i.body.items c.args.body.now.items c.loop-i.i (omega arith) c.loop-i.invariant.1)
    ∙ block_each f (map statement_of c.args.body.now.items)

full : (hs : Vec (List ℕ × Vec Statement)) → vec_len hs ≡ length hs.items
full hs = hs.ok.0

pub retime_statement-loop-i-preserved : goal.retime_statement-loop-i-preserved
retime_statement-loop-i-preserved t c =
    let f = ticks_span c.args.r in
    let d = c.index_mut.result.now in (
      unvisited_more c.loop-i.handlers.items _ c.loop-i.i (d.0, c.retime_block-in-loop-i.new.body) c.loop-i.invariant.0,
      one_more handler_of (retimed_handler f) c.loop-i.handlers.items _ c.loop-i.i d (d.0, c.retime_block-in-loop-i.new.body) (omega (arith, full, c.loop-i-test.true, c.len-i-end.ensures))
          (ap (λ (b : tree.Block). (d.0, b)) c.retime_block-in-loop-i.ensures ∙ ap (λ (h : List ℕ × Vec Statement). retimed_handler f (handler_of h)) c.index_mut.ensures.value)
          c.loop-i.invariant.1,
    )

pub retime_statement-returns-in-Some : goal.retime_statement-returns-in-Some
unfolding held.out-Statement denote.Hole.Carrier.out
retime_statement-returns-in-Some t c =
    let f = ticks_span c.args.r in
    let line_is : (values_d enum 4 (c.in-If.field-0, (c.in-If.condition, (c.in-If.body, (c.in-If.other, tt)))) c.args.statement.now).0 ≡ c.in-If.field-0 =
    ap (λ (s : Statement). (values_d enum 4 (c.in-If.field-0, (c.in-If.condition, (c.in-If.body, (c.in-If.other, tt)))) s).0) c.in-If.is in
    let condition_is : expression_of c.retime-in-If.new.e ≡ retimed.expression f (expression_of c.in-If.condition) = grind (arith, c.retime-in-If.ensures, c.in-If.condition-is) in
    let body_is : body_of c.retime_block.new.body.items ≡ retimed.block f (body_of c.in-If.body.items) = grind (arith, c.retime_block.ensures, c.in-If.body-is) in
    let some_is : c.in-If.other ≡ Some c.in-Some.other = grind (arith, c.in-Some.is, c.in-If.other-is) in
    ap (λ line. statement_of (If line c.retime-in-If.new.e c.retime_block.new.body (Some c.retime_block-in-Some.new.body))) line_is
    ∙ if_made f c.args.statement.now c.in-If.field-0 c.in-If.condition c.retime-in-If.new.e c.in-If.body c.retime_block.new.body c.in-If.other (Some c.retime_block-in-Some.new.body) c.in-If.is condition_is body_is
    (ap tree.else_block c.retime_block-in-Some.ensures ∙ sym (ap (λ (o : Option (Vec Statement)). retimed.else_ f (other_of o)) some_is))

pub retime_statement-returns-after-loop-i : goal.retime_statement-returns-after-loop-i
unfolding held.out-Statement denote.Hole.Carrier.out
retime_statement-returns-after-loop-i t c =
    let f = ticks_span c.args.r in
    let line_is : (values_d enum 7 (c.in-Try.field-0, (c.in-Try.body, (c.in-Try.handlers, tt))) c.args.statement.now).0 ≡ c.in-Try.field-0 =
    ap (λ (s : Statement). (values_d enum 7 (c.in-Try.field-0, (c.in-Try.body, (c.in-Try.handlers, tt))) s).0) c.in-Try.is in
    let body_is : body_of c.retime_block-in-Try.new.body.items ≡ retimed.block f (body_of c.in-Try.body.items) = grind (arith, c.retime_block-in-Try.ensures, c.in-Try.body-is) in
    let was : (values_d enum 7 (c.in-Try.field-0, (c.in-Try.body, (c.in-Try.handlers, tt))) c.args.statement.now).1.1.0 ≡ c.in-Try.handlers = grind (arith, c.in-Try.handlers-is) in
    ap (λ line. statement_of (Try line c.retime_block-in-Try.new.body c.loop-i.handlers)) line_is
    ∙ try_made f c.args.statement.now c.in-Try.field-0 c.in-Try.body c.retime_block-in-Try.new.body c.in-Try.handlers c.loop-i.handlers c.in-Try.is body_is
    (handlers_each f c.loop-i.handlers.items _ (whole handler_of (retimed_handler f) c.loop-i.handlers.items _ c.loop-i.i (omega (arith, full, c.len-i-end.ensures, c.loop-i-test.false)) c.loop-i.invariant.1)
    ∙ ap (λ (hs : Vec (List ℕ × Vec Statement)). retimed.handlers_ f (handlers_list hs.items)) was)
