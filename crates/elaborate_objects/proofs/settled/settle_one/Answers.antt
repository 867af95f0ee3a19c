use Rattle.std.proofs.Common.{◌≡◌, List, true, sym, subst, ◌∙◌}
use Rattle.std.specs.List.{list_all}
use Rattle.design_rules.specs.declared.made.Made.{Made}
use Rattle.elaborate_objects.specs.Marks.{row_of, is_marked}
use Rattle.elaborate_objects.proofs.Closed.{ready_parts, count_more, row_is, settled_one}
use Rattle.elaborate_objects.proofs.settled.settle_one.Goals as goal

pub returns-then-is_ready-clause-counted : goal.returns-then-is_ready-clause-counted
returns-then-is_ready-clause-counted c =
    let marks = c.args.marks.now in
    let k = c.args.k in
    let ready = ready_parts (is_marked marks k) (list_all (λ (x : Made). is_marked marks x.place) (row_of c.args.made.now k)) (sym c.is_ready.ensures ∙ c.if-is_ready.true) in
    count_more marks k c.requires ready.0

pub returns-then-is_ready-clause-settled : goal.returns-then-is_ready-clause-settled
returns-then-is_ready-clause-settled c = λ ms is settled.
    let marks = c.args.marks.now in
    let k = c.args.k in
    let ready = ready_parts (is_marked marks k) (list_all (λ (x : Made). is_marked marks x.place) (row_of c.args.made.now k)) (sym c.is_ready.ensures ∙ c.if-is_ready.true) in
    settled_one ms marks k ready.0 (subst (λ (row : List Made). list_all (λ (x : Made). is_marked marks x.place) row ≡ true) (row_is ms c.args.made.now k is) ready.1) settled
