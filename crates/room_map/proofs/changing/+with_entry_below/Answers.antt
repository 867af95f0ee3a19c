use Rattle.std.proofs.Common.{rules, sym, ◌∙◌}
use Rattle.room_map.proofs.Held.{below_left, below_right}
use Rattle.room_map.proofs.Changes.{alone_enters}
use Rattle.room_map.proofs.Sides.{may_enter_left, may_enter_right, near_enter_left, near_enter_right, enter_on_left, enter_on_right, may_raise_left, may_raise_right, raise_on_left, raise_on_right}
use Rattle.room_map.proofs.changing.+with_entry_below.Goals as goal

pub with_entry_below-left-requires : goal.with_entry_below-left-requires
with_entry_below-left-requires g t c κs within =
    let lower = below_left c.requires.0 c.requires.1.under (sym c.node_at.ensures ∙ c.in-Some.is) in
    (search rules, (within.0, (within.1, may_enter_left g.met.K.Ord.total c.requires.1 (sym c.node_at.ensures ∙ c.in-Some.is) (sym c.cmp.ensures ∙ c.in-Less.is))))

pub with_entry_below-right-requires : goal.with_entry_below-right-requires
with_entry_below-right-requires g t c κs within =
    let lower = below_right c.requires.0 c.requires.1.under (sym c.node_at.ensures ∙ c.in-Some.is) in
    (search rules, (within.0, (within.1, may_enter_right g.met.K.Ord.total c.requires.1 (sym c.node_at.ensures ∙ c.in-Some.is) (λ h. c.in_default.not-Less (c.cmp.ensures ∙ h)))))

pub balance-requires : goal.balance-requires
balance-requires g t c = near_enter_left g.met.K.Ord.total c.requires.1 (sym c.node_at.ensures ∙ c.in-Some.is) (sym c.cmp.ensures ∙ c.in-Less.is) c.with_entry_below-left.ensures

pub raise_count-requires-clause-small : goal.raise_count-requires-clause-small
raise_count-requires-clause-small g t c = (may_raise_left g.met.K.Ord.total c.requires.1 (sym c.node_at.ensures ∙ c.in-Some.is) (sym c.cmp.ensures ∙ c.in-Less.is) c.with_entry_below-left.ensures).1

pub raise_count-requires-then-height-node-2 : goal.raise_count-requires-then-height-node-2
raise_count-requires-then-height-node-2 g t c =
    let may = may_raise_right g.met.K.Ord.total c.requires.1 (sym c.node_at.ensures ∙ c.in-Some.is) (λ h. c.in_default.not-Less (c.cmp.ensures ∙ h)) c.with_entry_below-right.ensures in
    record { within = may.0; small = may.1 }

pub balance-requires-else-right-node : goal.balance-requires-else-right-node
balance-requires-else-right-node g t c = near_enter_right g.met.K.Ord.total c.requires.1 (sym c.node_at.ensures ∙ c.in-Some.is) (λ h. c.in_default.not-Less (c.cmp.ensures ∙ h)) c.with_entry_below-right.ensures

pub close_alone-requires-clause-there : goal.close_alone-requires-clause-there
close_alone-requires-clause-there g t c = c.requires.1.there

pub close_alone-requires-clause-few : goal.close_alone-requires-clause-few
close_alone-requires-clause-few g t c = c.requires.1.under.few

pub returns-in-None : goal.returns-in-None
returns-in-None g t c = λ t e. alone_enters t e (sym c.node_at.ensures ∙ c.in-None.is) c.close_alone.ensures.under c.close_alone.ensures.changed

pub returns-then-height-node : goal.returns-then-height-node
returns-then-height-node g t c = λ t e. raise_on_left g.met.K.Ord.total e (sym c.node_at.ensures ∙ c.in-Some.is) (sym c.cmp.ensures ∙ c.in-Less.is) c.with_entry_below-left.ensures c.if-left-node.true c.height.ensures c.if-height-node.true c.raise_count.ensures.there c.raise_count.ensures.changed

pub returns-else-left-node : goal.returns-else-left-node
returns-else-left-node g t c = λ t e. enter_on_left g.met.K.Ord.total e (sym c.node_at.ensures ∙ c.in-Some.is) (sym c.cmp.ensures ∙ c.in-Less.is) c.with_entry_below-left.ensures c.balance.ensures

pub returns-then-height-node-2 : goal.returns-then-height-node-2
returns-then-height-node-2 g t c = λ t e. raise_on_right g.met.K.Ord.total e (sym c.node_at.ensures ∙ c.in-Some.is) (λ h. c.in_default.not-Less (c.cmp.ensures ∙ h)) c.with_entry_below-right.ensures c.if-right-node.true c.height-then-right-node.ensures c.if-height-node-2.true c.raise_count-then-height-node-2.ensures.there c.raise_count-then-height-node-2.ensures.changed

pub returns-else-right-node : goal.returns-else-right-node
returns-else-right-node g t c = λ t e. enter_on_right g.met.K.Ord.total e (sym c.node_at.ensures ∙ c.in-Some.is) (λ h. c.in_default.not-Less (c.cmp.ensures ∙ h)) c.with_entry_below-right.ensures c.balance-else-right-node.ensures
