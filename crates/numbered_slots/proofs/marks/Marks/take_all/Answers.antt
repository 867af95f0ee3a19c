use Rattle.std.proofs.Common.{◌++◌, sym, ap, ◌∙◌, append-nil}
use Rattle.numbered_slots.proofs.Sound.{no_items, unmarked_where_none, no_places_where_none}
use Rattle.numbered_slots.proofs.marks.Marks.take_all.Goals as goal

pub returns-then-is_empty-clause-taken : goal.returns-then-is_empty-clause-taken
returns-then-is_empty-clause-taken c = sym (append-nil c.args.out.now.items) ∙ ap (λ ps. c.args.out.now.items ++ ps)
    (sym (no_places_where_none c.self.inside.flags.items c.self.inside.listed.items c.self.invariant.lists
    (no_items c.self.inside.listed c.is_empty.result c.is_empty.ensures c.if-is_empty.true) c.args.self.now c.self.view_is))

pub returns-then-is_empty-clause-left : goal.returns-then-is_empty-clause-left
returns-then-is_empty-clause-left c = unmarked_where_none c.self.inside.flags.items c.self.inside.listed.items c.self.invariant.lists
    (no_items c.self.inside.listed c.is_empty.result c.is_empty.ensures c.if-is_empty.true) c.args.self.now c.self.view_is
