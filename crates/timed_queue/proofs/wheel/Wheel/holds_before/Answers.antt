use Rattle.std.proofs.Common.{arith}
use Rattle.timed_queue.proofs.TimeLaws.{all_later}
use Rattle.timed_queue.proofs.wheel.Wheel.holds_before.Goals as goal

pub returns-then-place-first : goal.returns-then-place-first
returns-then-place-first c = λ _.
    let w = c.args.self.now in
    all_later w.nodes.items w.marks.words w.free w.room w.origin c.requires.sound c.requires.settled c.in-Some.first c.in-Some.ensures.some c.args.t (omega arith) c.requires.late (omega (arith, c.requires.is_place, c.if-place-first.true))
