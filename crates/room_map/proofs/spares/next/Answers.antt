use Rattle.std.proofs.Common.{sym, ap, ◌∙◌}
use Rattle.room_map.specs.Layout.{next_in}
use Rattle.room_map.proofs.spares.next.Goals as goal

pub returns-in-None : goal.returns-in-None
returns-in-None g c = sym (ap (next_in {K = g.row.K.Denot} {V = g.row.V.Denot}) (sym c.node_at.ensures ∙ c.in-None.is))

pub returns-in-Some : goal.returns-in-Some
returns-in-Some g c = sym (ap (next_in {K = g.row.K.Denot} {V = g.row.V.Denot}) (sym c.node_at.ensures ∙ c.in-Some.is))
