use Rattle.numbered_slots.proofs.Sound.{no_items, unmarked_where_none}
use Rattle.numbered_slots.proofs.marks.Marks.clear_all.Goals as goal

pub returns-then-is_empty : goal.returns-then-is_empty
returns-then-is_empty c = unmarked_where_none c.self.inside.flags.items c.self.inside.listed.items c.self.invariant.lists
    (no_items c.self.inside.listed c.is_empty.result c.is_empty.ensures c.if-is_empty.true) c.args.self.now c.self.view_is
