use Rattle.std.proofs.Common.{◌≡◌, ℕ, ◌≤◌, Some, refl, sym, ap, ◌∙◌, subst, true≢false}
use Rattle.std.specs.FinMap as map
use Rattle.sim_time.specs.declared.moments.Time.{Time}
use Rattle.timed_queue.specs.Timed.{Timed}
use Rattle.timed_queue.proofs.QueueLaws.{none_held, some_held, from_all}
use Rattle.timed_queue.proofs.queue.Queue.not_before.Goals as goal

pub returns-in-Some-clause-none : goal.returns-in-Some-clause-none
returns-in-Some-clause-none c =
    (λ e. absurd (true≢false e), λ none. absurd (some_held c.self.inside.index.entries c.self.inside.wheel c.self.invariant.0 c.in-Some.ensures.some.some.0 c.in-Some.ensures.some.some.1 (ap (λ (q : Timed). q.times) c.self.view_is ∙ none)))

pub returns-in-None-clause-none : goal.returns-in-None-clause-none
returns-in-None-clause-none c = (λ _. ap (λ (q : Timed). q.times) (sym c.self.view_is) ∙ none_held c.self.inside.index.entries c.self.inside.wheel c.self.invariant.0 c.in-None.ensures.none, λ _. refl)

pub returns-in-Some-clause-bound : goal.returns-in-Some-clause-bound
returns-in-Some-clause-bound c =
    subst (λ (q : Timed). (name : ℕ) (other : Time) → map.get q.times name ≡ Some other → c.in-Some.t ≤ other.0) c.self.view_is (from_all c.self.inside.index.entries c.self.inside.wheel c.self.invariant.0 c.in-Some.t c.in-Some.ensures.some.below)
