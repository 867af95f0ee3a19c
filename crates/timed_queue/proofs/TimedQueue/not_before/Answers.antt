use Rattle.std.proofs.Common.{◌≡◌, ℕ, ◌≤◌, Some, ap, ◌∙◌, subst, true≢false}
use Rattle.std.specs.FinMap as map
use Rattle.sim_time.specs.declared.moments.Time.{Time}
use Rattle.timed_queue.specs.Timed.{Timed, with_time}
use Rattle.timed_queue.specs.Alone.{IsAlone}
use Rattle.timed_queue.proofs.Alone.{is_alone, shown_alone, some_there, earliest-alone}
use Rattle.timed_queue.proofs.TimedQueue.not_before.Goals as goal

pub returns-in-Some-clause-none : goal.returns-in-Some-clause-none
returns-in-Some-clause-none c =
    let q = c.self.inside.queue in
    let e = c.in-Some.only in
    let alone : IsAlone q = is_alone q c.in-Some.is c.self.invariant in
    let view : with_time q e.name e.time ≡ c.args.self.now = shown_alone q c.in-Some.is c.self.view_is in
    (λ none. absurd (true≢false none), λ none. absurd (some_there q alone e.name e.time (ap (λ (w : Timed). w.times) view ∙ none)))

pub returns-in-Some-clause-bound : goal.returns-in-Some-clause-bound
returns-in-Some-clause-bound c =
    let q = c.self.inside.queue in
    let e = c.in-Some.only in
    let alone : IsAlone q = is_alone q c.in-Some.is c.self.invariant in
    let view : with_time q e.name e.time ≡ c.args.self.now = shown_alone q c.in-Some.is c.self.view_is in
    subst (λ (w : Timed). (name : ℕ) (other : Time) → map.get w.times name ≡ Some other → e.time.0 ≤ other.0) view (earliest-alone q alone e.name e.time).least
