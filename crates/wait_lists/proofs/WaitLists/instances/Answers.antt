use Rattle.std.proofs.Common.{sym, ap, ◌∙◌}
use Rattle.std.specs.FinMap as map
use Rattle.wait_lists.specs.Layout.{shown_by}
use Rattle.wait_lists.proofs.Counting.{count-placed}
use Rattle.wait_lists.proofs.WaitLists.instances.Goals as goal

pub returns : goal.returns
returns c =
    c.len.ensures.len
    ∙ sym (count-placed (shown_by c.self.inside.kept) c.self.inside.kept.places.entries c.len.ensures.rising (λ p at place. (c.self.invariant.0.seats.placed p at place).0))
    ∙ ap (λ w. map.len w.room) c.self.view_is
