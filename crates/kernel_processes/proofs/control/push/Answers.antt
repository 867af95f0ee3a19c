use Rattle.std.proofs.Common.{◌≡◌, length, vec_len, arith}
use Rattle.kernel_processes.proofs.Changed.{then_changes}
use Rattle.kernel_processes.proofs.Moving.{push_room, push_tops}
use Rattle.kernel_processes.proofs.control.push.Goals as goal

pub push_reserved-requires : goal.push_reserved-requires
push_reserved-requires g c =
    let room = push_room c.args.s.now c.unready.new.s c.args.p c.requires.sound c.requires.lives c.requires.rests (then_changes c.args.p _ _ c.args.s.now _ _ c.free.ensures c.unready.ensures.changes) in
    let many : vec_len c.unready.new.s.stack ≡ length c.unready.new.s.stack.items = omega arith in
    omega (arith, room, many)

pub returns-clause-moves : goal.returns-clause-moves
returns-clause-moves g c = (push_tops c.args.s.now c.unready.new.s c.args.p c.requires.sound c.requires.lives c.requires.rests (then_changes c.args.p _ _ c.args.s.now _ _ c.free.ensures c.unready.ensures.changes) c.push_reserved.new.self c.push_reserved.ensures.items c.push_reserved.ensures.capacity).moves

pub returns-clause-sound : goal.returns-clause-sound
returns-clause-sound g c = (push_tops c.args.s.now c.unready.new.s c.args.p c.requires.sound c.requires.lives c.requires.rests (then_changes c.args.p _ _ c.args.s.now _ _ c.free.ensures c.unready.ensures.changes) c.push_reserved.new.self c.push_reserved.ensures.items c.push_reserved.ensures.capacity).sound
