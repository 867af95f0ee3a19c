use Rattle.std.proofs.Common.{◌≡◌, sym, ap, ◌∙◌, length, eq-eqb}
use Rattle.std.proofs.lemmas.Bool.{eqb-true}
use Rattle.std.specs.FinMap as map
use Rattle.timed_queue.specs.Timed.{Timed}
use Rattle.timed_queue.proofs.QueueLaws.{len-times_of}
use Rattle.timed_queue.proofs.queue.Queue.is_empty.Goals as goal

pub returns : goal.returns
returns c =
    let many : length c.self.inside.index.entries ≡ map.len c.args.self.now.times =
    sym (len-times_of c.self.inside.index.entries c.self.inside.wheel.nodes.items c.self.invariant.0.rises) ∙ ap (λ (q : Timed). map.len q.times) c.self.view_is in (
      λ t. sym many ∙ eqb-true (length c.self.inside.index.entries) 0 (sym c.is_empty.ensures ∙ t),
      λ e. c.is_empty.ensures ∙ eq-eqb (length c.self.inside.index.entries) 0 (many ∙ e),
    )
