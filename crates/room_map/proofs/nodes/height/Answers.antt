use Rattle.std.proofs.Common.{sym, ap, ◌∙◌}
use Rattle.room_map.specs.Shape.{height}
use Rattle.room_map.proofs.Held.{bare, height_in_node}
use Rattle.room_map.proofs.nodes.height.Goals as goal

pub returns-in-None : goal.returns-in-None
returns-in-None g c = λ t u. sym (ap height (bare t u (sym c.node_at.ensures ∙ c.in-None.is)))

pub returns-in-Some : goal.returns-in-Some
returns-in-Some g c = λ t u. height_in_node t u (sym c.node_at.ensures ∙ c.in-Some.is)
