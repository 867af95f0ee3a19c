use Rattle.laws_clocked.proofs.InCode.{ticked_in_code}
use Rattle.laws_clocked.proofs.Running.{each-keeps}
use Rattle.laws_clocked.proofs.runs.ticks_of_a_text_run_as_written.Goals as goal

pub returns-clause-coded : goal.returns-clause-coded
returns-clause-coded z design script sound apart m items place n p block ts h = each-keeps design script sound apart m items place n p block ts h

pub returns-clause-ticked : goal.returns-clause-ticked
returns-clause-ticked z design script sound apart r m code place x there n line p item block ts clocked =
    let h = ticked_in_code r m design.code code place x there n line p item block ts clocked in
    (h, each-keeps design script sound apart _ _ place n _ _ ts h)
