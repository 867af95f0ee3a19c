use Rattle.tick_trees.proofs.Spans.{ticks_seen, seen_at_picosecond, ticks_again}
use Rattle.tick_trees.proofs.tree_laws.ticks_are_seen.Goals as goal

pub returns-clause-whole : goal.returns-clause-whole
returns-clause-whole c = ticks_seen

pub returns-clause-picosecond : goal.returns-clause-picosecond
returns-clause-picosecond c = seen_at_picosecond

pub returns-clause-again : goal.returns-clause-again
returns-clause-again c = ticks_again
