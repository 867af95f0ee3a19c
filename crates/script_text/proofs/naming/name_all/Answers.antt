use Rattle.std.proofs.Common.{◌≡◌, Ok, arith}
use Rattle.std.proofs.lemmas.Grind.{common_steps}
use Rattle.script_text.specs.NamedScript.{name_script}
use Rattle.script_text.proofs.FitsLemmas.{script_fits}
use Rattle.script_text.proofs.naming.name_all.Goals as goal

pub returns-clause-fits : goal.returns-clause-fits
returns-clause-fits c =
    let named : name_script c.args.design.now c.args.commands ≡ Ok c.loop-command.script = grind (arith, common_steps) in
    script_fits c.args.design.now c.args.commands c.loop-command.script named
