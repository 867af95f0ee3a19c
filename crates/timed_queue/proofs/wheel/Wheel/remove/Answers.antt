use Rattle.std.proofs.Common.{◌∙◌, ℕ, sym, subst}
use Rattle.timed_queue.specs.Sound.{ArePlaced}
use Rattle.timed_queue.proofs.FreeLaws.{moved_twice}
use Rattle.timed_queue.proofs.EntryLaws.{others_moved, gone_settled}
use Rattle.timed_queue.proofs.wheel.Wheel.remove.Goals as goal

pub returns-clause-settled : goal.returns-clause-settled
returns-clause-settled c =
    let a = c.args.self.now in
    subst (λ (o : ℕ). ArePlaced c.give_free.new.self.nodes.items o) (sym (c.give_free.ensures.origin ∙ c.leave.ensures.origin))
    (gone_settled a.nodes.items c.give_free.new.self.nodes.items c.args.i a.origin c.requires.settled
    (moved_twice a.nodes.items c.leave.new.self.nodes.items c.give_free.new.self.nodes.items c.args.i 705 704 c.leave.ensures.moved c.give_free.ensures.moved))

pub returns-clause-others : goal.returns-clause-others
returns-clause-others c =
    let a = c.args.self.now in
    others_moved a.nodes.items c.give_free.new.self.nodes.items c.args.i 704
    (moved_twice a.nodes.items c.leave.new.self.nodes.items c.give_free.new.self.nodes.items c.args.i 705 704 c.leave.ensures.moved c.give_free.ensures.moved)
