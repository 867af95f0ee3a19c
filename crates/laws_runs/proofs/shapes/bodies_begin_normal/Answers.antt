use Rattle.laws_runs.proofs.ShapeLemmas.{entered-normal, block-normal}
use Rattle.laws_runs.proofs.shapes.bodies_begin_normal.Goals as goal

pub returns : goal.returns
returns c = record { body = entered-normal; block = block-normal }
