use Rattle.std.proofs.Common.{sym, ◌∙◌, arith}
use Rattle.timed_queue.proofs.QueueLaws.{queue_same, nothing_held}
use Rattle.timed_queue.proofs.queue.Queue.follow.Goals as goal

pub begin_at-requires-clause-none : goal.begin_at-requires-clause-none
begin_at-requires-clause-none c = nothing_held c.self.inside.index.entries c.self.inside.wheel c.self.invariant.0 (sym c.is_empty.ensures ∙ c.if-is_empty.true)

pub invariant_of-self-else-is_empty : goal.invariant_of-self-else-is_empty
invariant_of-self-else-is_empty c =
    let room = c.self.invariant.1 in let e = c.follow.ensures.room in let a = room.enough in (
      queue_same c.self.inside.index.entries c.self.inside.wheel c.follow.new.self c.self.invariant.0 c.follow.ensures.sound c.follow.ensures.settled c.follow.ensures.same,
      record { enough = omega (arith, e, a); few = room.few },
    )
