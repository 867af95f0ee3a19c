use Rattle.std.proofs.Common.{◌≡◌, List, true, sym, subst, ◌∙◌}
use Rattle.std.specs.List.{list_any}
use Rattle.design_rules.specs.declared.made.Made.{Made}
use Rattle.elaborate_objects.specs.Marks.{row_of, is_marked, meets}
use Rattle.elaborate_objects.proofs.Closed.{ready_parts, count_more, row_is}
use Rattle.elaborate_objects.proofs.Having.{found_one}
use Rattle.elaborate_objects.proofs.found.find_one.Goals as goal

pub returns-then-is_new-clause-counted : goal.returns-then-is_new-clause-counted
returns-then-is_new-clause-counted c =
    let marks = c.args.marks.now in
    let k = c.args.k in
    let new = ready_parts (is_marked marks k) (list_any (meets c.args.place marks) (row_of c.args.made.now k)) (sym c.is_new.ensures ∙ c.if-is_new.true) in
    count_more marks k c.requires new.0

pub returns-then-is_new-clause-found : goal.returns-then-is_new-clause-found
returns-then-is_new-clause-found c = λ ms is found.
    let marks = c.args.marks.now in
    let k = c.args.k in
    let new = ready_parts (is_marked marks k) (list_any (meets c.args.place marks) (row_of c.args.made.now k)) (sym c.is_new.ensures ∙ c.if-is_new.true) in
    found_one ms c.args.place marks k c.requires new.0 (subst (λ (row : List Made). list_any (meets c.args.place marks) row ≡ true) (row_is ms c.args.made.now k is) new.1) found
