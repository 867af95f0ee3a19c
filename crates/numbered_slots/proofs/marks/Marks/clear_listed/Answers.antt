use Rattle.std.proofs.Common.{◌≤◌, length, vec_capacity, arith}
use Rattle.numbered_slots.proofs.Sound.{marks_freed, sound_freed}
use Rattle.numbered_slots.proofs.marks.Marks.clear_listed.Goals as goal

pub invariant_of-self : goal.invariant_of-self
invariant_of-self c =
    let enough : length c.self.inside.flags.items ≤ vec_capacity c.clear.new.self = omega (arith, c.self.invariant.enough, c.clear.ensures.capacity) in
    sound_freed c.self.inside.flags c.as_mut_slice.result.now c.free_listed.new.flags c.as_mut_slice.ensures.value c.free_listed.ensures
    c.clear.new.self.items (vec_capacity c.clear.new.self) c.clear.ensures.items c.self.invariant.size enough

pub returns : goal.returns
returns c = marks_freed c.self.inside.flags c.as_mut_slice.result.now c.free_listed.new.flags c.as_mut_slice.ensures.value c.free_listed.ensures c.args.self.now c.self.view_is
