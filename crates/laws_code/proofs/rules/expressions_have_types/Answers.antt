use Rattle.code_rules.specs.ModelRules.declared.needs.Need.TheVariants as need_of
use Rattle.laws_code.proofs.Typed.{typed}
use Rattle.laws_code.proofs.rules.expressions_have_types.Goals as goal

pub returns : goal.returns
returns c = λ s e known clean. typed s known need_of.Readable e clean
