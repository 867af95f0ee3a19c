use Rattle.std.proofs.Common.{length, sym, ap, ◌∙◌}
use Rattle.room_map.specs.Shape.{entries}
use Rattle.room_map.proofs.Held.{bare, count_of}
use Rattle.room_map.proofs.nodes.len.Goals as goal

pub returns-in-None : goal.returns-in-None
returns-in-None g c = λ t u. sym (ap (λ t. length (entries t)) (bare t u (sym c.node_at.ensures ∙ c.in-None.is)))

pub returns-in-Some : goal.returns-in-Some
returns-in-Some g c = λ t u. count_of t u (sym c.node_at.ensures ∙ c.in-Some.is)
