use Rattle.std.proofs.Common.{ap, false, sym, ◌∙◌}
use Rattle.std.specs.Prelude.{not, option_and_then}
use Rattle.std.specs.Option.{option_or}
use Rattle.model_tree.specs.Tree as tree
use Rattle.model_tree.specs.Lines.{first_line}
use Rattle.model_tree.specs.Views.{expression_of}
use Rattle.model_tree.specs.declared.expressions.Expression.{Expression}
use Rattle.model_tree.specs.declared.faults.Kind.TheVariants as kind
use Rattle.check_names.specs.ModelRules.Meanings.{is_width}
use Rattle.check_names.specs.ModelRules.Operators.{operands, unary_type, conversion_type, becomes_vector, concat_type, digit_count}
use Rattle.check_names.specs.ModelRules.Scopes.{meaning_of}
use Rattle.check_names.specs.ModelRules.Types.{type_seen}
use Rattle.check_names.specs.ModelRules.declared.needs.Need.TheVariants as need_of
use Rattle.check_names.specs.ModelRules.Names.{head_of, unknown_of_head, wrong_of_head}
use Rattle.check_names.specs.ModelRules.Passes.{constructs, fault_of}
use Rattle.check_names.specs.ModelRules.Sites.{has_index, sites_as}
use Rattle.check_names.specs.ModelRules.Values.{fails, refuse, refuses, is_beyond, element_differs}
use Rattle.check_names.specs.Places.{scope_of}
use Rattle.check_expressions.specs.Findings.{faults_of, told}
use Rattle.check_expressions.specs.ConstructFindings.{channel_fault, own_fault}
use Rattle.check_expressions.specs.declared.channels.At.TheVariants as at
use Rattle.check_expressions.proofs.Forms.{of_form, convert_sites, unary_sites, vector_sites, slice_sites, binary_sites, concat_sites, element_sites, named_sites, placed_sites, placed_by_sites, member_sites}
use Rattle.check_expressions.proofs.expressions.+judge.Goals as goal

pub returns-in-Convert-clause-finding : goal.returns-in-Convert-clause-finding
returns-in-Convert-clause-finding t c =
    let s = scope_of c.args.place.now in
    let n = c.args.need in
    of_form n s (tree.convert c.in-Convert.field-0 c.in-Convert.conversion (expression_of c.deref-in-Convert.result.now)) (expression_of c.args.expression.now) _ (λ (y : tree.Expression). option_or (own_fault s.around (first_line y) (refuses (conversion_type c.in-Convert.conversion) (type_seen c.judge-inner.result.seen)) false false) (faults_of c.judge-inner.result.finding))
    (ap expression_of c.in-Convert.is
    ∙ ap (λ (y : Expression). tree.convert c.in-Convert.field-0 c.in-Convert.conversion (expression_of y)) (sym c.deref-in-Convert.ensures)) c.convert.ensures.finding
    (convert_sites n s c.in-Convert.field-0 c.in-Convert.conversion (expression_of c.deref-in-Convert.result.now) c.judge-inner.result.seen (faults_of c.judge-inner.result.finding) c.judge-inner.ensures.seen c.judge-inner.ensures.finding)

pub returns-in-ToVector-clause-finding : goal.returns-in-ToVector-clause-finding
returns-in-ToVector-clause-finding t c =
    let s = scope_of c.args.place.now in
    let n = c.args.need in
    of_form n s (tree.to_vector c.in-ToVector.field-0 c.in-ToVector.width (expression_of c.deref-in-ToVector.result.now)) (expression_of c.args.expression.now) _ (λ (y : tree.Expression). option_or (own_fault s.around (first_line y) (fails (becomes_vector c.in-ToVector.width) (type_seen c.judge-inner-in-ToVector.result.seen)) (not (is_width c.in-ToVector.width)) false) (faults_of c.judge-inner-in-ToVector.result.finding))
    (ap expression_of c.in-ToVector.is
    ∙ ap (λ (y : Expression). tree.to_vector c.in-ToVector.field-0 c.in-ToVector.width (expression_of y)) (sym c.deref-in-ToVector.ensures)) c.to_vector.ensures.finding
    (vector_sites n s c.in-ToVector.field-0 c.in-ToVector.width (expression_of c.deref-in-ToVector.result.now) c.judge-inner-in-ToVector.result.seen (faults_of c.judge-inner-in-ToVector.result.finding) c.judge-inner-in-ToVector.ensures.seen c.judge-inner-in-ToVector.ensures.finding)

pub returns-in-Slice-clause-finding : goal.returns-in-Slice-clause-finding
returns-in-Slice-clause-finding t c =
    let s = scope_of c.args.place.now in
    let n = c.args.need in
    of_form n s (tree.slice (expression_of c.deref-in-Slice.result.now) c.in-Slice.high c.in-Slice.low) (expression_of c.args.expression.now) _ (λ (y : tree.Expression). option_or (own_fault s.around (first_line y) (refuses digit_count (type_seen c.judge-inner-in-Slice.result.seen)) (is_beyond c.in-Slice.high c.in-Slice.low (option_and_then digit_count (type_seen c.judge-inner-in-Slice.result.seen))) false) (faults_of c.judge-inner-in-Slice.result.finding))
    (ap expression_of c.in-Slice.is
    ∙ ap (λ (y : Expression). tree.slice (expression_of y) c.in-Slice.high c.in-Slice.low) (sym c.deref-in-Slice.ensures)) c.slice.ensures.finding
    (slice_sites n s (expression_of c.deref-in-Slice.result.now) c.in-Slice.high c.in-Slice.low c.judge-inner-in-Slice.result.seen (faults_of c.judge-inner-in-Slice.result.finding) c.judge-inner-in-Slice.ensures.seen c.judge-inner-in-Slice.ensures.finding)

pub returns-in-Unary-clause-finding : goal.returns-in-Unary-clause-finding
returns-in-Unary-clause-finding t c =
    let s = scope_of c.args.place.now in
    let n = c.args.need in
    of_form n s (tree.unary c.in-Unary.field-0 c.in-Unary.op (expression_of c.deref-in-Unary.result.now)) (expression_of c.args.expression.now) _ (λ (y : tree.Expression). option_or (own_fault s.around (first_line y) (refuses (unary_type c.in-Unary.op) (type_seen c.judge-inner-in-Unary.result.seen)) false false) (faults_of c.judge-inner-in-Unary.result.finding))
    (ap expression_of c.in-Unary.is
    ∙ ap (λ (y : Expression). tree.unary c.in-Unary.field-0 c.in-Unary.op (expression_of y)) (sym c.deref-in-Unary.ensures)) c.unary.ensures.finding
    (unary_sites n s c.in-Unary.field-0 c.in-Unary.op (expression_of c.deref-in-Unary.result.now) c.judge-inner-in-Unary.result.seen (faults_of c.judge-inner-in-Unary.result.finding) c.judge-inner-in-Unary.ensures.seen c.judge-inner-in-Unary.ensures.finding)

pub returns-in-Concat-clause-finding : goal.returns-in-Concat-clause-finding
returns-in-Concat-clause-finding t c =
    let s = scope_of c.args.place.now in
    let n = c.args.need in
    of_form n s (tree.concat c.in-Concat.field-0 (expression_of c.deref-in-Concat.result.now) (expression_of c.deref-in-Concat-2.result.now)) (expression_of c.args.expression.now) _ (λ (y : tree.Expression). option_or (own_fault s.around (first_line y) (refuse concat_type (type_seen c.judge-upper.result.seen) (type_seen c.judge-lower.result.seen)) false false) (option_or (faults_of c.judge-upper.result.finding) (faults_of c.judge-lower.result.finding)))
    (ap expression_of c.in-Concat.is
    ∙ ap (λ (y : Expression). tree.concat c.in-Concat.field-0 (expression_of y) (expression_of c.in-Concat.lower.value)) (sym c.deref-in-Concat.ensures)
    ∙ ap (λ (y : Expression). tree.concat c.in-Concat.field-0 (expression_of c.deref-in-Concat.result.now) (expression_of y)) (sym c.deref-in-Concat-2.ensures)) c.concat.ensures.finding
    (concat_sites n s c.in-Concat.field-0 (expression_of c.deref-in-Concat.result.now) (expression_of c.deref-in-Concat-2.result.now) c.judge-upper.result.seen c.judge-lower.result.seen (faults_of c.judge-upper.result.finding) (faults_of c.judge-lower.result.finding) c.judge-upper.ensures.seen c.judge-upper.ensures.finding c.judge-lower.ensures.seen c.judge-lower.ensures.finding)

pub returns-in-Element-clause-finding : goal.returns-in-Element-clause-finding
returns-in-Element-clause-finding t c =
    let s = scope_of c.args.place.now in
    let n = c.args.need in
    of_form n s (tree.element (expression_of c.deref-in-Element.result.now) (expression_of c.deref-in-Element-2.result.now)) (expression_of c.args.expression.now) _ (λ (y : tree.Expression). option_or (own_fault s.around (first_line y) (element_differs c.judge-of-in-Element.result.seen (type_seen c.judge-index.result.seen)) false false) (option_or (faults_of c.judge-of-in-Element.result.finding) (faults_of c.judge-index.result.finding)))
    (ap expression_of c.in-Element.is
    ∙ ap (λ (y : Expression). tree.element (expression_of y) (expression_of c.in-Element.index.value)) (sym c.deref-in-Element.ensures)
    ∙ ap (λ (y : Expression). tree.element (expression_of c.deref-in-Element.result.now) (expression_of y)) (sym c.deref-in-Element-2.ensures)) c.element.ensures.finding
    (element_sites n s (expression_of c.deref-in-Element.result.now) (expression_of c.deref-in-Element-2.result.now) c.judge-of-in-Element.result.seen c.judge-index.result.seen (faults_of c.judge-of-in-Element.result.finding) (faults_of c.judge-index.result.finding) c.judge-of-in-Element.ensures.seen c.judge-of-in-Element.ensures.finding c.judge-index.ensures.seen c.judge-index.ensures.finding)

pub returns-in-Binary-clause-finding : goal.returns-in-Binary-clause-finding
returns-in-Binary-clause-finding t c =
    let s = scope_of c.args.place.now in
    let n = c.args.need in
    of_form n s (tree.binary c.in-Binary.op (expression_of c.deref-in-Binary.result.now) (expression_of c.deref-in-Binary-2.result.now)) (expression_of c.args.expression.now) _ (λ (y : tree.Expression). option_or (own_fault s.around (first_line y) (refuse (operands c.in-Binary.op) (type_seen c.judge-left.result.seen) (type_seen c.judge-right.result.seen)) false false) (option_or (faults_of c.judge-left.result.finding) (faults_of c.judge-right.result.finding)))
    (ap expression_of c.in-Binary.is
    ∙ ap (λ (y : Expression). tree.binary c.in-Binary.op (expression_of y) (expression_of c.in-Binary.right.value)) (sym c.deref-in-Binary.ensures)
    ∙ ap (λ (y : Expression). tree.binary c.in-Binary.op (expression_of c.deref-in-Binary.result.now) (expression_of y)) (sym c.deref-in-Binary-2.ensures)) c.binary.ensures.finding
    (binary_sites n s c.in-Binary.op (expression_of c.deref-in-Binary.result.now) (expression_of c.deref-in-Binary-2.result.now) c.judge-left.result.seen c.judge-right.result.seen (faults_of c.judge-left.result.finding) (faults_of c.judge-right.result.finding) c.judge-left.ensures.seen c.judge-left.ensures.finding c.judge-right.ensures.seen c.judge-right.ensures.finding)

pub returns-in-Named-clause-finding : goal.returns-in-Named-clause-finding
returns-in-Named-clause-finding t c =
    let s = scope_of c.args.place.now in
    let n = c.args.need in
    of_form n s (tree.named c.in-Named.line c.in-Named.name) (expression_of c.args.expression.now) _ (λ (y : tree.Expression). channel_fault s.around n c.in-Named.line c.bytes.result.now at.First (meaning_of s c.bytes.result.now))
    (ap expression_of c.in-Named.is) c.named.ensures.finding
    (rw c.bytes.ensures.value (named_sites n s c.in-Named.line c.in-Named.name))

pub returns-in-Placed-clause-finding : goal.returns-in-Placed-clause-finding
returns-in-Placed-clause-finding t c =
    let s = scope_of c.args.place.now in
    let n = c.args.need in
    of_form n s (tree.placed c.in-Placed.line c.in-Placed.name c.in-Placed.n) (expression_of c.args.expression.now) _
    (λ (y : tree.Expression). channel_fault s.around n c.in-Placed.line c.bytes-in-Placed.result.now (at.Number c.in-Placed.n) (meaning_of s c.bytes-in-Placed.result.now))
    (ap expression_of c.in-Placed.is) c.named-in-Placed.ensures.finding
    (rw c.bytes-in-Placed.ensures.value (placed_sites n s c.in-Placed.line c.in-Placed.name c.in-Placed.n))

pub returns-in-PlacedBy-clause-finding : goal.returns-in-PlacedBy-clause-finding
returns-in-PlacedBy-clause-finding t c =
    let s = scope_of c.args.place.now in
    let n = c.args.need in
    of_form n s (tree.placed_by c.in-PlacedBy.line c.in-PlacedBy.name (expression_of c.deref-in-PlacedBy.result.now)) (expression_of c.args.expression.now) _ (λ (y : tree.Expression). option_or (channel_fault s.around n c.in-PlacedBy.line c.bytes-in-PlacedBy.result.now (at.Computed (type_seen c.judge-inner-in-PlacedBy.result.seen)) (meaning_of s c.bytes-in-PlacedBy.result.now)) (faults_of c.judge-inner-in-PlacedBy.result.finding))
    (ap expression_of c.in-PlacedBy.is
    ∙ ap (λ (y : Expression). tree.placed_by c.in-PlacedBy.line c.in-PlacedBy.name (expression_of y)) (sym c.deref-in-PlacedBy.ensures)) c.placed_by.ensures.finding
    (rw c.bytes-in-PlacedBy.ensures.value (placed_by_sites n s c.in-PlacedBy.line c.in-PlacedBy.name (expression_of c.deref-in-PlacedBy.result.now) c.judge-inner-in-PlacedBy.result.seen (faults_of c.judge-inner-in-PlacedBy.result.finding) c.judge-inner-in-PlacedBy.ensures.seen c.judge-inner-in-PlacedBy.ensures.finding))

pub returns-in-Member-clause-finding : goal.returns-in-Member-clause-finding
returns-in-Member-clause-finding t c =
    let s = scope_of c.args.place.now in
    let n = c.args.need in
    let x = expression_of c.deref-in-Member-2.result.now in
    let name = c.bytes-in-Member.result.now in
    of_form n s (tree.member x c.in-Member.name) (expression_of c.args.expression.now) _
    (λ (y : tree.Expression). option_or (option_or (told kind.UnknownName (first_line x) (unknown_of_head name (head_of s x))) (told kind.WrongKind (first_line x) (wrong_of_head (has_index n) name (head_of s x)))) (faults_of c.judge-of.result.finding))
    (ap expression_of c.in-Member.is ∙ ap (λ (y : Expression). tree.member (expression_of y) c.in-Member.name) (sym c.deref-in-Member-2.ensures)) c.member.ensures.finding
    (rw c.bytes-in-Member.ensures.value (member_sites n s x c.in-Member.name (faults_of c.judge-of.result.finding)
    (c.judge-of.ensures.finding ∙ ap (λ (y : Expression). fault_of constructs (sites_as need_of.Object s (expression_of y))) (c.deref-in-Member.ensures ∙ sym c.deref-in-Member-2.ensures))))
