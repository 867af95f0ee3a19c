use Rattle.std.proofs.Common.{◌≤◌, ℕ, List, length, vec_capacity, sym, subst, arith}
use Rattle.std.specs.List.Sorted.{IsNonDecreasing}
use Rattle.numbered_slots.proofs.Sound.{marks_freed, sound_freed}
use Rattle.numbered_slots.proofs.marks.Marks.take_listed.Goals as goal

pub move_marked-requires-clause-sorted : goal.move_marked-requires-clause-sorted
move_marked-requires-clause-sorted c = subst (λ (xs : List ℕ). IsNonDecreasing xs) (sym c.as_slice.ensures.value) c.put_in_order.ensures.sorted

pub invariant_of-self : goal.invariant_of-self
invariant_of-self c =
    let enough : length c.self.inside.flags.items ≤ vec_capacity c.clear.new.self = omega (arith, c.self.invariant.enough, c.put_in_order.ensures.capacity, c.clear.ensures.capacity) in
    sound_freed c.self.inside.flags c.as_mut_slice.result.now c.move_marked.new.flags c.as_mut_slice.ensures.value c.move_marked.ensures.freed
    c.clear.new.self.items (vec_capacity c.clear.new.self) c.clear.ensures.items c.self.invariant.size enough

pub returns-clause-left : goal.returns-clause-left
returns-clause-left c = marks_freed c.self.inside.flags c.as_mut_slice.result.now c.move_marked.new.flags c.as_mut_slice.ensures.value c.move_marked.ensures.freed c.args.self.now c.self.view_is
