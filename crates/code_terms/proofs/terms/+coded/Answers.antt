use Rattle.std.proofs.Common.{ap, sym, ◌∙◌}
use Rattle.model_tree.specs.Tree as tree
use Rattle.model_tree.specs.Views.{expression_of}
use Rattle.model_tree.specs.declared.expressions.Expression.{Expression}
use Rattle.check_expressions.specs.CheckNames.Places.{scope_of}
use Rattle.code_terms.specs.Parts.{part_of, slice_part, unary_part}
use Rattle.code_terms.proofs.Outside.{form_at}
use Rattle.code_terms.proofs.terms.+coded.Goals as goal

pub returns-in_ok-inner-in-Slice : goal.returns-in_ok-inner-in-Slice
returns-in_ok-inner-in-Slice t c =
    let high = c.in-Slice.high in
    let low = c.in-Slice.low in
    form_at (scope_of c.args.place.now) c.slice.result (expression_of c.args.expression.now) (tree.slice (expression_of c.deref-in-Slice.result.now) high low) (slice_part high low (part_of c.in_ok-inner-in-Slice.inner))
    (ap expression_of c.in-Slice.is ∙ ap (λ (y : Expression). tree.slice (expression_of y) high low) (sym c.deref-in-Slice.ensures))
    (ap (slice_part high low) c.in_ok-inner-in-Slice.ensures) c.slice.ensures

pub returns-in_ok-inner-in-Unary : goal.returns-in_ok-inner-in-Unary
returns-in_ok-inner-in-Unary t c =
    let op = c.in-Unary.op in
    form_at (scope_of c.args.place.now) c.unary.result (expression_of c.args.expression.now) (tree.unary c.in-Unary.field-0 op (expression_of c.deref-in-Unary.result.now)) (unary_part op (part_of c.in_ok-inner-in-Unary.inner))
    (ap expression_of c.in-Unary.is ∙ ap (λ (y : Expression). tree.unary c.in-Unary.field-0 op (expression_of y)) (sym c.deref-in-Unary.ensures))
    (ap (unary_part op) c.in_ok-inner-in-Unary.ensures) c.unary.ensures
