use Rattle.std.proofs.Common.{◌≡◌, drop}
use Rattle.std.specs.List.{list_all}
use Rattle.design_rules.specs.declared.made.Made.{Made}
use Rattle.elaborate_objects.specs.Marks.{is_marked}
use Rattle.elaborate_objects.proofs.settled.are_marked.Given as goal

abbrev pub invariant-loop-x : goal.invariant-loop-x
invariant-loop-x l =
    list_all (λ (x : Made). is_marked l.marks x.place) l.made ≡ list_all (λ (x : Made). is_marked l.marks x.place) (drop l.x-index l.made)
