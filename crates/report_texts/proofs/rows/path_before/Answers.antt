use Rattle.std.proofs.Common.{ℕ, List, ◌++◌, drop, refl, sym, ap, ◌∙◌}
use Rattle.std.proofs.lemmas.Option.{IfSome_then}
use Rattle.report_texts.proofs.Upward.{path_at_top, path_stepped}
use Rattle.report_texts.proofs.rows.path_before.Goals as goal

pub above-preserved : goal.above-preserved
above-preserved c = (
  c.in_ok-start.ensures.0,
  c.above.invariant.1
      ∙ path_stepped c.args.objects.now c.above.steps c.above.at c.parent_of-at.result c.name_of.result.now (drop c.above.start c.above.room) (drop c.in_ok-name.name c.bytes_before.new.room) (drop c.in_ok-start.start c.byte_before.new.room)
      (c.above-test.ensures.below refl) c.name_of.ensures c.parent_of-at.ensures c.in_ok-name.ensures.1 c.in_ok-start.ensures.1,
)

pub returns : goal.returns
returns c =
    let behind = drop c.above.start c.above.room in
    IfSome_then c.bytes_before-2.result c.bytes_before-2.ensures
    (λ start is. (
      is.0,
      is.1
          ∙ ap (λ (name : List ℕ). name ++ behind) (c.name_of-2.ensures ∙ sym (path_at_top c.above.steps c.args.objects.now c.above.at (c.above-test.ensures.top refl)))
          ∙ sym c.above.invariant.1,
    ))
