use Rattle.std.proofs.Common.{sym, ◌∙◌}
use Rattle.room_map.proofs.Lone.{lone_leaves}
use Rattle.room_map.proofs.changing.unlink.Goals as goal

pub returns-then-count-eq1 : goal.returns-then-count-eq1
returns-then-count-eq1 g c = λ t e. lone_leaves t e (sym (c.len-count.ensures t e.has_key.under) ∙ c.if-count-eq1.true)
