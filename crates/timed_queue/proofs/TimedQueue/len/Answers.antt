use Rattle.std.proofs.Common.{◌≡◌, sym, ap, ◌∙◌}
use Rattle.std.specs.FinMap as map
use Rattle.timed_queue.specs.Timed.{Timed, with_time}
use Rattle.timed_queue.specs.Alone.{IsAlone}
use Rattle.timed_queue.proofs.Alone.{is_alone, shown_alone, len-alone}
use Rattle.timed_queue.proofs.TimedQueue.len.Goals as goal

pub returns-in-Some : goal.returns-in-Some
returns-in-Some c =
    let q = c.self.inside.queue in
    let e = c.in-Some.field-0 in
    let alone : IsAlone q = is_alone q c.in-Some.is c.self.invariant in
    let view : with_time q e.name e.time ≡ c.args.self.now = shown_alone q c.in-Some.is c.self.view_is in
    sym (len-alone q alone e.name e.time) ∙ ap (λ (w : Timed). map.len w.times) view
