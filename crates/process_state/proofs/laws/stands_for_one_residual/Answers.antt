use Rattle.kernel_bodies.specs.Layers.{held}
use Rattle.process_state.proofs.Relation.{alone, stands}
use Rattle.process_state.proofs.laws.stands_for_one_residual.Goals as goal

pub returns-clause-stands : goal.returns-clause-stands
returns-clause-stands c = λ a b. stands a b.goal b.frames.items (held b.frames.items b.statement)

pub returns-clause-alone : goal.returns-clause-alone
returns-clause-alone c = λ a b r h. alone a b.goal b.frames.items (held b.frames.items b.statement) _ _ r h
