use Rattle.std.proofs.Common.{◌≡◌, length, vec_len, ap, arith}
use Rattle.kernel_processes.proofs.Takings.{times_within, due_left, takes_times, takes_times_sound}
use Rattle.kernel_processes.proofs.time.take_due.Goals as goal

pub take_due-requires : goal.take_due-requires
take_due-requires g c =
    let few = c.due_names_are_held.ensures c.args.s.now.deadlines.times c.args.t in
    let live = times_within c.args.s.now c.requires.sound c.args.t in
    let room = c.requires.sound.due_room in
    let many : vec_len c.args.s.now.due ≡ length c.args.s.now.due.items = omega arith in
    let none = ap length c.requires.nobody in
    omega (arith, few, live, room, many, none)

pub put_all_over-requires : goal.put_all_over-requires
put_all_over-requires g c = due_left c.args.s.now c.requires.sound c.args.t c.take_due.new.self c.take_due.new.out c.requires.nobody c.take_due.ensures.left c.take_due.ensures.taken c.take_due.ensures.capacity

pub returns-clause-takes : goal.returns-clause-takes
returns-clause-takes g c = takes_times c.args.s.now c.requires.sound c.args.t _ _ c.requires.nobody c.take_due.ensures.left c.take_due.ensures.taken c.take_due.ensures.capacity c.put_all_over.new.s c.put_all_over.ensures

pub returns-clause-sound : goal.returns-clause-sound
returns-clause-sound g c = takes_times_sound c.args.s.now c.requires.sound c.args.t _ _ c.requires.nobody c.take_due.ensures.left c.take_due.ensures.taken c.take_due.ensures.capacity c.put_all_over.new.s c.put_all_over.ensures
