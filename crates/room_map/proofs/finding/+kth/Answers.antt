use Rattle.std.proofs.Common.{rules, sym, ap, ◌∙◌}
use Rattle.std.specs.Prelude.{slice_get}
use Rattle.room_map.specs.Shape.{entries}
use Rattle.room_map.proofs.Held.{bare, below_left, below_right}
use Rattle.room_map.proofs.Looks.{under_left, under_right, kth_left, kth_right, kth_here}
use Rattle.room_map.proofs.finding.+kth.Goals as goal

pub kth-requires : goal.kth-requires
kth-requires g t c κs within =
    let lower = below_left c.requires.0 c.requires.1 (sym c.node_at.ensures ∙ c.in-Some.is) in
    (search rules, (within.0, (within.1, under_left c.requires.1 (sym c.node_at.ensures ∙ c.in-Some.is))))

pub kth-requires-then-k-before-2 : goal.kth-requires-then-k-before-2
kth-requires-then-k-before-2 g t c κs within =
    let lower = below_right c.requires.0 c.requires.1 (sym c.node_at.ensures ∙ c.in-Some.is) in
    (search rules, (within.0, (within.1, under_right c.requires.1 (sym c.node_at.ensures ∙ c.in-Some.is))))

pub returns-in-None : goal.returns-in-None
returns-in-None g t c = λ t u. sym (ap (λ t. slice_get (entries t) c.args.k) (bare t u (sym c.node_at.ensures ∙ c.in-None.is)))

pub returns-then-k-before : goal.returns-then-k-before
returns-then-k-before g t c = λ t u. kth_left u (sym c.node_at.ensures ∙ c.in-Some.is) c.len-before.ensures c.if-k-before.true c.kth.ensures

pub returns-then-k-before-2 : goal.returns-then-k-before-2
returns-then-k-before-2 g t c = λ t u. kth_right u (sym c.node_at.ensures ∙ c.in-Some.is) c.len-before.ensures c.if-k-before-2.true c.kth-then-k-before-2.ensures

pub returns-else-k-before-2 : goal.returns-else-k-before-2
returns-else-k-before-2 g t c = λ t u. kth_here u (sym c.node_at.ensures ∙ c.in-Some.is) c.len-before.ensures c.if-k-before.false c.if-k-before-2.false
