use Rattle.std.proofs.Common.{arith}
use Rattle.kernel_processes.proofs.Adding.{as_many_live, as_many_room}
use Rattle.kernel_processes.proofs.spawning.make_places.Goals as goal

pub overflow_add-places : goal.overflow_add-places
overflow_add-places g c = let few = as_many_room c.args.s.now c.requires.sound in let places = c.instances-places.ensures in omega (arith, few, places)

pub returns-in-Ok-reserve-3-clause-ok : goal.returns-in-Ok-reserve-3-clause-ok
returns-in-Ok-reserve-3-clause-ok g c =
    let live = as_many_live c.args.s.now c.requires.sound in
    let places = c.instances-places.ensures in
    let ready = c.in-Ok.ensures.ok in
    let stack = c.in-Ok-reserve.ensures.ok in
    let woken = c.in-Ok-reserve-2.ensures.ok in
    let due = c.in-Ok-reserve-3.ensures.ok in
    record {
      stack = omega (arith, live, places, stack);
      ready = omega (arith, live, places, ready);
      woken = omega (arith, live, places, woken);
      due = omega (arith, live, places, due);
    }
