use Rattle.model_tree.specs.Languages.{may_have}
use Rattle.tick_trees.specs.Ticks.{ticks_span}
use Rattle.tick_trees.proofs.Languages.{retimed_pass}
use Rattle.tick_trees.proofs.Limits.{retimed_are_sound}
use Rattle.tick_trees.proofs.Spans.{ticks_are_numbers, ticks_may_stand}
use Rattle.tick_trees.proofs.tree_laws.ticks_are_trees.Goals as goal

pub returns-clause-limits : goal.returns-clause-limits
returns-clause-limits c = λ r m h. retimed_are_sound (ticks_span r) (ticks_are_numbers r) m h

pub returns-clause-language : goal.returns-clause-language
returns-clause-language c = λ r l m h. retimed_pass (may_have l) (ticks_span r) (ticks_may_stand l r) m h
