use Rattle.model_lexer.proofs.OneForm.{one_form}
use Rattle.model_lexer.proofs.laws.one_form.Goals as goal

pub returns : goal.returns
returns c = one_form
