use Rattle.design_rules.proofs.WorkedDesign.{whole}
use Rattle.design_rules.proofs.worked.a_design_is_that_of_its_tree.Goals as goal

pub returns : goal.returns
returns c = whole
