use Rattle.std.proofs.Common.{map, length, ◌+◌, ap, ◌∙◌}
use Rattle.check_names.specs.ModelTree.Views.{item_of}
use Rattle.elaborate_objects.specs.Names.{names_of_bodies}
use Rattle.elaborate_objects.proofs.BodyLemmas.{counted}
use Rattle.elaborate_objects.proofs.rows.rows_in.Goals as goal

pub returns-clause-next : goal.returns-clause-next
returns-clause-next c =
    let many = ap (λ xs. length xs) c.in_ok-bodies.ensures
    ∙ ap (λ xs. length (names_of_bodies (map item_of xs))) c.as_slice.ensures.value
    ∙ counted (map item_of c.args.module.now.items.items) in
    c.in_ok-next.ensures ∙ ap (λ n. c.args.first_body + n) many
