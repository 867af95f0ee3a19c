use Rattle.std.proofs.Common.{ℕ, sym, subst}
use Rattle.timed_queue.specs.Sound.{IsLeastTime}
use Rattle.timed_queue.proofs.TimeLaws.{is_least, there_is_one}
use Rattle.timed_queue.proofs.wheel.Wheel.least.Goals as goal

pub returns-in-Some-least_from-clause-some : goal.returns-in-Some-least_from-clause-some
returns-in-Some-least_from-clause-some c =
    let w = c.args.self.now in
    subst (λ (t : ℕ). IsLeastTime w.nodes.items t) (sym c.time_of.ensures) (is_least w.nodes.items w.marks.words w.free w.room w.origin c.requires.sound c.requires.settled c.in-Some.place c.in-Some.ensures.some c.in-Some-least_from.i c.in-Some-least_from.ensures.some)

pub returns-in-None-least_from-clause-none : goal.returns-in-None-least_from-clause-none
returns-in-None-least_from-clause-none c =
    let w = c.args.self.now in
    absurd (there_is_one w.nodes.items w.marks.words w.free w.room w.origin c.requires.sound c.requires.settled c.in-Some.place c.in-Some.ensures.some c.in-None-least_from.ensures.none)
