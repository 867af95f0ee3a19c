use Rattle.std.proofs.Common.{sym, ap, ◌∙◌}
use Rattle.room_map.specs.Layout.{next_in}
use Rattle.room_map.proofs.Held.{item_there}
use Rattle.room_map.proofs.spares.free_node.Goals as goal

pub unreachable-requires : goal.unreachable-requires
unreachable-requires g c = item_there c.args.nodes.now c.args.at c.requires (sym c.node_at.ensures ∙ c.in-None.is)

pub put-requires : goal.put-requires
put-requires g c = c.requires

pub returns-clause-next : goal.returns-clause-next
returns-clause-next g c = ap (next_in {K = g.row.K.Denot} {V = g.row.V.Denot}) c.put.ensures.there

pub returns-clause-changed : goal.returns-clause-changed
returns-clause-changed g c = c.put.ensures.changed
