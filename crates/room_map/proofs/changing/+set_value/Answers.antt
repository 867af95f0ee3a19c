use Rattle.std.proofs.Common.{rules, sym, ◌∙◌}
use Rattle.std.proofs.lemmas.Option.{slice_get_within}
use Rattle.room_map.proofs.Held.{bare, below_left, below_right}
use Rattle.room_map.proofs.Leavings.{no_key_in_bare}
use Rattle.room_map.proofs.Sides.{may_set_left, may_set_right, set_on_left, set_on_right, set_here}
use Rattle.room_map.proofs.changing.+set_value.Goals as goal

pub unreachable-requires : goal.unreachable-requires
unreachable-requires g t c = no_key_in_bare c.requires.1 (bare c.requires.0 c.requires.1.under (sym c.node_at.ensures ∙ c.in-None.is))

pub set_value-requires : goal.set_value-requires
set_value-requires g t c κs within =
    let lower = below_left c.requires.0 c.requires.1.under (sym c.node_at.ensures ∙ c.in-Some.is) in
    (search rules, (within.0, (within.1, may_set_left g.met.K.Ord.total c.requires.1 (sym c.node_at.ensures ∙ c.in-Some.is) (sym c.cmp.ensures ∙ c.in-Less.is))))

pub set_value-requires-in-Greater : goal.set_value-requires-in-Greater
set_value-requires-in-Greater g t c κs within =
    let lower = below_right c.requires.0 c.requires.1.under (sym c.node_at.ensures ∙ c.in-Some.is) in
    (search rules, (within.0, (within.1, may_set_right g.met.K.Ord.total c.requires.1 (sym c.node_at.ensures ∙ c.in-Some.is) (sym c.cmp.ensures ∙ c.in-Greater.is))))

pub put-requires : goal.put-requires
put-requires g t c = slice_get_within c.args.nodes.now c.args.at c.in-Some.node (sym c.node_at.ensures ∙ c.in-Some.is)

pub returns-in-Less : goal.returns-in-Less
returns-in-Less g t c = λ t e. set_on_left g.met.K.Ord.total e (sym c.node_at.ensures ∙ c.in-Some.is) (sym c.cmp.ensures ∙ c.in-Less.is) c.set_value.ensures

pub returns-in-Equal : goal.returns-in-Equal
returns-in-Equal g t c = λ t e. set_here g.met.K.Ord.total e (sym c.node_at.ensures ∙ c.in-Some.is) (sym c.cmp.ensures ∙ c.in-Equal.is) c.put.ensures.there c.put.ensures.changed

pub returns-in-Greater : goal.returns-in-Greater
returns-in-Greater g t c = λ t e. set_on_right g.met.K.Ord.total e (sym c.node_at.ensures ∙ c.in-Some.is) (sym c.cmp.ensures ∙ c.in-Greater.is) c.set_value-in-Greater.ensures
