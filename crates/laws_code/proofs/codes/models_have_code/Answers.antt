use Rattle.laws_code.proofs.Models.{model_coded}
use Rattle.laws_code.proofs.codes.models_have_code.Goals as goal

pub returns : goal.returns
returns c = λ m h. model_coded m h
