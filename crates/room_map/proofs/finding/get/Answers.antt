use Rattle.std.proofs.Common.{refl, sym, ◌∙◌}
use Rattle.room_map.proofs.Held.{below_left, below_right}
use Rattle.room_map.proofs.Looks.{under_left, under_right, sought_left, sought_right, sought_here}
use Rattle.room_map.proofs.finding.get.Goals as goal

pub descending-init : goal.descending-init
descending-init g c = record { hangs = c.requires; sought = λ t u rises. record { tree = t; under = u; rises = rises; same = refl } }

pub descending-smaller-in-Less : goal.descending-smaller-in-Less
descending-smaller-in-Less g c = let inv = c.descending.invariant in below_left inv.hangs.0 inv.hangs.1 (sym c.node_at.ensures ∙ c.in-Some.is)

pub descending-smaller : goal.descending-smaller
descending-smaller g c = let inv = c.descending.invariant in below_right inv.hangs.0 inv.hangs.1 (sym c.node_at.ensures ∙ c.in-Some.is)

pub descending-preserved-in-Less : goal.descending-preserved-in-Less
descending-preserved-in-Less g c =
    let inv = c.descending.invariant in
    record {
      hangs = under_left inv.hangs.1 (sym c.node_at.ensures ∙ c.in-Some.is);
      sought = λ t u rises. sought_left g.met.K.Ord.total (inv.sought t u rises) (sym c.node_at.ensures ∙ c.in-Some.is) (sym c.cmp.ensures ∙ c.in-Less.is);
    }

pub descending-preserved : goal.descending-preserved
descending-preserved g c =
    let inv = c.descending.invariant in
    record {
      hangs = under_right inv.hangs.1 (sym c.node_at.ensures ∙ c.in-Some.is);
      sought = λ t u rises. sought_right g.met.K.Ord.total (inv.sought t u rises) (sym c.node_at.ensures ∙ c.in-Some.is) (sym c.cmp.ensures ∙ c.in-Greater.is);
    }

pub returns-in-Equal : goal.returns-in-Equal
returns-in-Equal g c = λ t u rises. sought_here g.met.K.Ord.total (c.descending.invariant.sought t u rises) (sym c.node_at.ensures ∙ c.in-Some.is) (sym c.cmp.ensures ∙ c.in-Equal.is)
