use Rattle.laws_code.proofs.TypedModels.{model_typed}
use Rattle.laws_code.proofs.typed_bodies.code_is_typed.Goals as goal

pub returns : goal.returns
returns c = λ m d clean sound stands read. model_typed m d stands clean sound read
