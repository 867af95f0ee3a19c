use Rattle.laws_runs.proofs.ShapeLemmas.{shaped-goals, shaped-one}
use Rattle.laws_runs.proofs.shapes.shapes_have_one_unwinding.Goals as goal

pub returns : goal.returns
returns c = record { goal = shaped-goals; block = shaped-one }
