use Rattle.std.proofs.Common.{◌∙◌, ℕ, sym, subst, arith}
use Rattle.timed_queue.specs.Sound.{ArePlaced}
use Rattle.timed_queue.proofs.EntryLaws.{filed_others, filed_settled}
use Rattle.timed_queue.proofs.wheel.Wheel.renew.Goals as goal

pub returns-clause-settled : goal.returns-clause-settled
returns-clause-settled c =
    let a = c.args.self.now in
    subst (λ (o : ℕ). ArePlaced c.enter.new.self.nodes.items o) (sym (c.enter.ensures.origin ∙ c.fill.ensures.origin ∙ c.leave.ensures.origin))
    (filed_settled a.nodes.items c.leave.new.self.nodes.items c.fill.new.self.nodes.items c.enter.new.self.nodes.items c.args.i 705 c.args.name c.args.t c.place_of-place.result a.origin c.requires.settled c.leave.ensures.moved c.fill.ensures.filled c.enter.ensures.moved c.requires.late (omega arith) c.place_of-place.ensures.place)

pub returns-clause-others : goal.returns-clause-others
returns-clause-others c =
    let a = c.args.self.now in
    filed_others a.nodes.items c.leave.new.self.nodes.items c.fill.new.self.nodes.items c.enter.new.self.nodes.items c.args.i 705 c.args.name c.args.t c.place_of-place.result a.origin c.requires.settled c.leave.ensures.moved c.fill.ensures.filled c.enter.ensures.moved c.requires.late (omega arith) c.place_of-place.ensures.place
