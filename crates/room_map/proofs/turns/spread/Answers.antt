use Rattle.std.proofs.Common.{sym, ◌∙◌, arith}
use Rattle.room_map.specs.Shape.{Fork}
use Rattle.room_map.proofs.Held.{changed_both, changed_more, fork_there}
use Rattle.room_map.proofs.Stacks.{left_of_three, right_of_three, top_of_three, spread_three}
use Rattle.room_map.proofs.turns.spread.Goals as goal

pub unreachable-requires : goal.unreachable-requires
unreachable-requires g c = fork_there c.requires.6.second (sym c.node_at.ensures ∙ c.in-None.is)

pub close-left-requires : goal.close-left-requires
close-left-requires g c = (c.requires.0, c.requires.1, left_of_three c.requires.6 (sym c.node_at.ensures ∙ c.in-Some.is))

pub close-right-requires : goal.close-right-requires
close-right-requires g c = (c.requires.4, c.requires.5, right_of_three c.requires.6 (sym c.node_at.ensures ∙ c.in-Some.is) c.close-left.ensures.changed)

pub close-requires : goal.close-requires
close-requires g c = (
  Fork c.args.x.place c.requires.0 c.args.x.key c.args.x.value c.requires.1,
  Fork c.args.y.place c.requires.4 c.args.y.key c.args.y.value c.requires.5,
  top_of_three c.requires.6 (sym c.node_at.ensures ∙ c.in-Some.is) c.close-left.ensures.changed c.close-right.ensures.changed c.close-left.ensures.under c.close-right.ensures.under,
)

pub returns-clause-under : goal.returns-clause-under
returns-clause-under g c = λ p l r q k v s. spread_three s (sym c.node_at.ensures ∙ c.in-Some.is) c.close-left.ensures.changed c.close-right.ensures.changed c.close-left.ensures.under c.close-right.ensures.under c.close.ensures.under

pub returns-clause-changed : goal.returns-clause-changed
returns-clause-changed g c = changed_more (changed_both c.close-left.ensures.changed (changed_both c.close-right.ensures.changed c.close.ensures.changed)) (λ k. omega arith)
