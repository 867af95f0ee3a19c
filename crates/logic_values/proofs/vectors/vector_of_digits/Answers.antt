use Rattle.logic_values.proofs.VectorLaws.{is_lv_of}
use Rattle.logic_values.proofs.vectors.vector_of_digits.Goals as goal

pub returns : goal.returns
returns c = is_lv_of
