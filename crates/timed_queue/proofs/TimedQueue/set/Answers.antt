use Rattle.std.proofs.Common.{◌≡◌, sym, ap, ◌∙◌}
use Rattle.timed_queue.specs.Timed.{Timed, with_time}
use Rattle.timed_queue.specs.Alone.{IsAlone}
use Rattle.timed_queue.proofs.Alone.{is_alone, shown_alone, becomes_alone, renewed}
use Rattle.timed_queue.proofs.TimedQueue.set.Goals as goal

pub invariant_of-self : goal.invariant_of-self
invariant_of-self c = becomes_alone c.self.inside.queue c.args.name c.in-None.is c.self.view_is (c.is_empty.ensures.0 c.if-is_empty.true) c.requires

pub returns-then-only-name : goal.returns-then-only-name
returns-then-only-name c =
    let q = c.self.inside.queue in
    let e = c.in-Some.only in
    let alone : IsAlone q = is_alone q c.in-Some.is c.self.invariant in
    let view : with_time q e.name e.time ≡ c.args.self.now = shown_alone q c.in-Some.is c.self.view_is in
    ap (λ n. with_time q n c.args.t) (sym c.if-only-name.true) ∙ renewed q alone e.name e.time c.args.t ∙ ap (λ (w : Timed). with_time w e.name c.args.t) view ∙ ap (λ n. with_time c.args.self.now n c.args.t) c.if-only-name.true
