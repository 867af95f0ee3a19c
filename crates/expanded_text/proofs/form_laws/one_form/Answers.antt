use Rattle.expanded_text.proofs.OneForm.{one_block, one_list}
use Rattle.expanded_text.proofs.form_laws.one_form.Goals as goal

pub returns-clause-block : goal.returns-clause-block
returns-clause-block c = one_block

pub returns-clause-ticks : goal.returns-clause-ticks
returns-clause-ticks c = one_list
