use Rattle.std.proofs.Common.{refl, sym, ap, ◌∙◌, subst, true≢false}
use Rattle.timed_queue.specs.Timed.{Timed, IsEarliest}
use Rattle.timed_queue.proofs.QueueLaws.{none_held, some_held, earliest_is}
use Rattle.timed_queue.proofs.queue.Queue.earliest.Goals as goal

pub returns-in-Some-clause-empty : goal.returns-in-Some-clause-empty
returns-in-Some-clause-empty c =
    (λ e. absurd (true≢false e), λ none. absurd (some_held c.self.inside.index.entries c.self.inside.wheel c.self.invariant.0 c.in-Some.ensures.some.held.0 c.in-Some.ensures.some.held.1 (ap (λ (q : Timed). q.times) c.self.view_is ∙ none)))

pub returns-in-None-clause-empty : goal.returns-in-None-clause-empty
returns-in-None-clause-empty c = (λ _. ap (λ (q : Timed). q.times) (sym c.self.view_is) ∙ none_held c.self.inside.index.entries c.self.inside.wheel c.self.invariant.0 c.in-None.ensures.none, λ _. refl)

pub returns-in-Some-clause-least : goal.returns-in-Some-clause-least
returns-in-Some-clause-least c = subst (λ (q : Timed). IsEarliest q.times (record { 0 = c.in-Some.t })) c.self.view_is (earliest_is c.self.inside.index.entries c.self.inside.wheel c.self.invariant.0 c.in-Some.t c.in-Some.ensures.some)
