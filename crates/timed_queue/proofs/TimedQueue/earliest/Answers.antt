use Rattle.std.proofs.Common.{◌≡◌, ap, ◌∙◌, subst, true≢false}
use Rattle.timed_queue.specs.Timed.{Timed, with_time, IsEarliest}
use Rattle.timed_queue.specs.Alone.{IsAlone}
use Rattle.timed_queue.proofs.Alone.{is_alone, shown_alone, some_there, earliest-alone}
use Rattle.timed_queue.proofs.TimedQueue.earliest.Goals as goal

pub returns-in-Some-clause-empty : goal.returns-in-Some-clause-empty
returns-in-Some-clause-empty c =
    let q = c.self.inside.queue in
    let e = c.in-Some.only in
    let alone : IsAlone q = is_alone q c.in-Some.is c.self.invariant in
    let view : with_time q e.name e.time ≡ c.args.self.now = shown_alone q c.in-Some.is c.self.view_is in
    (λ none. absurd (true≢false none), λ none. absurd (some_there q alone e.name e.time (ap (λ (w : Timed). w.times) view ∙ none)))

pub returns-in-Some-clause-least : goal.returns-in-Some-clause-least
returns-in-Some-clause-least c =
    let q = c.self.inside.queue in
    let e = c.in-Some.only in
    let alone : IsAlone q = is_alone q c.in-Some.is c.self.invariant in
    let view : with_time q e.name e.time ≡ c.args.self.now = shown_alone q c.in-Some.is c.self.view_is in
    subst (λ (w : Timed). IsEarliest w.times e.time) view (earliest-alone q alone e.name e.time)
