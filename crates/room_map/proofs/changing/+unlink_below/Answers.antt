use Rattle.std.proofs.Common.{rules, sym, ◌∙◌}
use Rattle.room_map.proofs.Held.{bare, below_left, below_right}
use Rattle.room_map.proofs.Leavings.{no_key_in_bare}
use Rattle.room_map.proofs.Sides.{may_leave_left, may_leave_right, may_join, near_leave_left, near_leave_right, leave_on_left, leave_on_right, leave_here}
use Rattle.room_map.proofs.changing.+unlink_below.Goals as goal

pub unreachable-requires : goal.unreachable-requires
unreachable-requires g t c = no_key_in_bare c.requires.1.has_key (bare c.requires.0 c.requires.1.has_key.under (sym c.node_at.ensures ∙ c.in-None.is))

pub unlink_below-side-requires : goal.unlink_below-side-requires
unlink_below-side-requires g t c κs within =
    let lower = below_left c.requires.0 c.requires.1.has_key.under (sym c.node_at.ensures ∙ c.in-Some.is) in
    (search rules, (within.0, (within.1, may_leave_left g.met.K.Ord.total c.requires.1 (sym c.node_at.ensures ∙ c.in-Some.is) (sym c.cmp.ensures ∙ c.in-Less.is))))

pub unlink_below-side-requires-in-Greater : goal.unlink_below-side-requires-in-Greater
unlink_below-side-requires-in-Greater g t c κs within =
    let lower = below_right c.requires.0 c.requires.1.has_key.under (sym c.node_at.ensures ∙ c.in-Some.is) in
    (search rules, (within.0, (within.1, may_leave_right g.met.K.Ord.total c.requires.1 (sym c.node_at.ensures ∙ c.in-Some.is) (sym c.cmp.ensures ∙ c.in-Greater.is))))

pub balance-root-requires : goal.balance-root-requires
balance-root-requires g t c = near_leave_left g.met.K.Ord.total c.requires.1 (sym c.node_at.ensures ∙ c.in-Some.is) (sym c.cmp.ensures ∙ c.in-Less.is) c.unlink_below-side.ensures

pub balance-root-requires-in-Greater : goal.balance-root-requires-in-Greater
balance-root-requires-in-Greater g t c = near_leave_right g.met.K.Ord.total c.requires.1 (sym c.node_at.ensures ∙ c.in-Some.is) (sym c.cmp.ensures ∙ c.in-Greater.is) c.unlink_below-side-in-Greater.ensures

pub join-root-requires : goal.join-root-requires
join-root-requires g t c = may_join g.met.K.Ord.total c.requires.1 (sym c.node_at.ensures ∙ c.in-Some.is)

pub returns-in-Less : goal.returns-in-Less
returns-in-Less g t c = λ t e. leave_on_left g.met.K.Ord.total e (sym c.node_at.ensures ∙ c.in-Some.is) (sym c.cmp.ensures ∙ c.in-Less.is) c.unlink_below-side.ensures c.balance-root.ensures

pub returns-in-Equal : goal.returns-in-Equal
returns-in-Equal g t c = λ t e. leave_here g.met.K.Ord.total e (sym c.node_at.ensures ∙ c.in-Some.is) (sym c.cmp.ensures ∙ c.in-Equal.is) c.join-root.ensures

pub returns-in-Greater : goal.returns-in-Greater
returns-in-Greater g t c = λ t e. leave_on_right g.met.K.Ord.total e (sym c.node_at.ensures ∙ c.in-Some.is) (sym c.cmp.ensures ∙ c.in-Greater.is) c.unlink_below-side-in-Greater.ensures c.balance-root-in-Greater.ensures
