use Rattle.std.proofs.Common.{◌≡◌, length, vec_len, arith}
use Rattle.kernel_processes.proofs.Moving.{take_room, take_tops}
use Rattle.kernel_processes.proofs.turns.take.Goals as goal

pub push_reserved-requires : goal.push_reserved-requires
push_reserved-requires g c =
    let room = take_room c.args.s.now c.unready.new.s c.args.p c.requires.sound c.requires.runs c.unready.ensures.changes in
    let many : vec_len c.unready.new.s.stack ≡ length c.unready.new.s.stack.items = omega arith in
    omega (arith, room, many)

pub returns-clause-moves : goal.returns-clause-moves
returns-clause-moves g c = (take_tops c.args.s.now c.unready.new.s c.args.p c.requires.sound c.requires.runs c.unready.ensures.changes c.push_reserved.new.self c.push_reserved.ensures.items c.push_reserved.ensures.capacity).moves

pub returns-clause-sound : goal.returns-clause-sound
returns-clause-sound g c = (take_tops c.args.s.now c.unready.new.s c.args.p c.requires.sound c.requires.runs c.unready.ensures.changes c.push_reserved.new.self c.push_reserved.ensures.items c.push_reserved.ensures.capacity).sound
