use Rattle.std.proofs.Common.{◌≡◌, sym, ap, ◌∙◌}
use Rattle.std.specs.FinMap as map
use Rattle.timed_queue.specs.Timed.{Timed, with_time, without}
use Rattle.timed_queue.specs.Alone.{IsAlone}
use Rattle.timed_queue.proofs.Alone.{is_alone, shown_alone, has_no_other, without_absent, cleared}
use Rattle.timed_queue.proofs.TimedQueue.clear.Goals as goal

pub returns-then-only-name : goal.returns-then-only-name
returns-then-only-name c =
    let q = c.self.inside.queue in
    let e = c.in-Some.only in
    let alone : IsAlone q = is_alone q c.in-Some.is c.self.invariant in
    let view : with_time q e.name e.time ≡ c.args.self.now = shown_alone q c.in-Some.is c.self.view_is in
    cleared q alone e.name e.time ∙ ap (λ (w : Timed). without w e.name) view ∙ ap (λ n. without c.args.self.now n) c.if-only-name.true

pub returns-else-only-name : goal.returns-else-only-name
returns-else-only-name c =
    let q = c.self.inside.queue in
    let e = c.in-Some.only in
    let alone : IsAlone q = is_alone q c.in-Some.is c.self.invariant in
    let view : with_time q e.name e.time ≡ c.args.self.now = shown_alone q c.in-Some.is c.self.view_is in
    without_absent c.args.self.now c.args.name (ap (λ (w : Timed). map.contains_key w.times c.args.name) (sym view) ∙ has_no_other q alone e.name e.time c.args.name (λ same. c.if-only-name.false (sym same)))
