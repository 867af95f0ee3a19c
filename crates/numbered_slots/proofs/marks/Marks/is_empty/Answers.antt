use Rattle.std.proofs.Common.{◌≡◌, ap, sym, ◌∙◌, count_by}
use Rattle.std.proofs.lemmas.Bool.{eq-eqb, eqb-true}
use Rattle.numbered_slots.proofs.Places.{none_counted, count_of_none}
use Rattle.numbered_slots.proofs.marks.Marks.is_empty.Goals as goal

pub returns : goal.returns
returns c =
    let count : c.self.inside.marked ≡ count_by (λ mark. mark) c.args.self.now = c.self.invariant.count ∙ ap (λ marks. count_by (λ mark. mark) marks) c.self.view_is in (
      λ none. none_counted c.args.self.now (sym count ∙ eqb-true c.self.inside.marked 0 none),
      λ none. eq-eqb c.self.inside.marked 0 (count ∙ count_of_none c.args.self.now none),
    )
