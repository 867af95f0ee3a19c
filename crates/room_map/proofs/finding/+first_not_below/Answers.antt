use Rattle.std.proofs.Common.{rules, sym, ◌∙◌}
use Rattle.room_map.proofs.Held.{below_left, below_right}
use Rattle.room_map.proofs.Looks.{under_left, under_right, first_on_left, first_on_right, first_at_node}
use Rattle.room_map.proofs.finding.+first_not_below.Goals as goal

pub first_not_below-requires : goal.first_not_below-requires
first_not_below-requires g t c κs within =
    let lower = below_right c.requires.0 c.requires.1 (sym c.node_at.ensures ∙ c.in-Some.is) in
    (search rules, (within.0, (within.1, under_right c.requires.1 (sym c.node_at.ensures ∙ c.in-Some.is))))

pub first_not_below-requires-in_default : goal.first_not_below-requires-in_default
first_not_below-requires-in_default g t c κs within =
    let lower = below_left c.requires.0 c.requires.1 (sym c.node_at.ensures ∙ c.in-Some.is) in
    (search rules, (within.0, (within.1, under_left c.requires.1 (sym c.node_at.ensures ∙ c.in-Some.is))))

pub returns-in-Less : goal.returns-in-Less
returns-in-Less g t c = λ t u rises. first_on_right g.met.K.Ord.total u rises (sym c.node_at.ensures ∙ c.in-Some.is) (sym c.cmp.ensures ∙ c.in-Less.is) c.first_not_below.ensures

pub returns-in-Some-first_not_below : goal.returns-in-Some-first_not_below
returns-in-Some-first_not_below g t c = λ t u rises. first_on_left g.met.K.Ord.total c.args.key u rises (sym c.node_at.ensures ∙ c.in-Some.is) c.first_not_below-in_default.ensures c.in-Some-first_not_below.is

pub returns-in-None-first_not_below : goal.returns-in-None-first_not_below
returns-in-None-first_not_below g t c = λ t u rises. first_at_node g.met.K.Ord.total u rises (sym c.node_at.ensures ∙ c.in-Some.is) (λ h. c.in_default.not-Less (c.cmp.ensures ∙ h)) c.first_not_below-in_default.ensures c.in-None-first_not_below.is
