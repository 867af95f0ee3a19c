use Rattle.std.proofs.Common.{ℕ, sym, subst}
use Rattle.timed_queue.specs.Sound.{IsBound}
use Rattle.timed_queue.proofs.TimeLaws.{start_fits, is_bound}
use Rattle.timed_queue.proofs.wheel.Wheel.bound.Goals as goal

pub start_of-requires : goal.start_of-requires
start_of-requires c = let w = c.args.self.now in start_fits w.nodes.items w.marks.words w.free w.room w.origin c.requires.sound c.requires.settled c.in-Some.place c.in-Some.ensures.some

pub returns-in-Some-clause-some : goal.returns-in-Some-clause-some
returns-in-Some-clause-some c =
    let w = c.args.self.now in
    subst (λ (t : ℕ). IsBound w.nodes.items t) (sym c.start_of.ensures) (is_bound w.nodes.items w.marks.words w.free w.room w.origin c.requires.sound c.requires.settled c.in-Some.place c.in-Some.ensures.some)
