use Rattle.std.proofs.Common.{◌≡◌, ◌∙◌}
use Rattle.std.specs.List.{fold}
use Rattle.std.proofs.lemmas.Grind.{common_steps}
use Rattle.std.proofs.Common.{arith}
use Rattle.logic_values.specs.declared.kinds.Digit.TheVariants.{Z}
use Rattle.logic_values.specs.LogicTables.{resolved_pair}
use Rattle.logic_values.proofs.ResolvedLemmas.{fold_resolved}
use Rattle.logic_values.proofs.tables.resolve.Goals as goal

pub returns : goal.returns
returns c =
    let folded : c.loop-driver.wire ≡ fold resolved_pair Z c.args.drivers.now = grind (arith, common_steps) in
    folded ∙ fold_resolved Z c.args.drivers.now
