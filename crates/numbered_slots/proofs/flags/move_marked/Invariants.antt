use Rattle.std.proofs.Common.{◌≡◌, ◌++◌, drop, vec_capacity}
use Rattle.numbered_slots.specs.MarkLayout.{marks_of, ListsEachOnce}
use Rattle.numbered_slots.specs.Places.{marked_places}
use Rattle.numbered_slots.proofs.flags.move_marked.Given as goal

abbrev pub invariant-loop-n : goal.invariant-loop-n
invariant-loop-n l = record {
  lists : ListsEachOnce l.flags (drop l.n-index l.listed);
  moved : l.out.items ++ marked_places (marks_of l.flags) ≡ l.fn.out.items ++ marked_places (marks_of l.fn.flags);
  room : vec_capacity l.out ≡ vec_capacity l.fn.out;
}
