use Rattle.std.proofs.Common.{refl, ap}
use Rattle.laws_runs.specs.SimModel.Residual.{settle}
use Rattle.laws_runs.specs.SimModel.Configuration.{arena}
use Rattle.laws_clocked.proofs.Resetting.{reset-begins}
use Rattle.laws_clocked.proofs.Injecting.{injected-begins}
use Rattle.laws_clocked.proofs.Rounded.{true-injected}
use Rattle.laws_clocked.proofs.Sparing.{unwinds-spare}
use Rattle.laws_clocked.proofs.first.a_reset_begins_own_statements.Goals as goal

pub returns-clause-reset : goal.returns-clause-reset
returns-clause-reset z design script sound steps chosen c reached p i at b e has begun r left =
    reset-begins design script sound p b e i.code c (record { steps = steps; choices = chosen; reached = reached }) has i at refl begun r left

pub returns-clause-thrown_into : goal.returns-clause-thrown_into
returns-clause-thrown_into z design script sound steps chosen c reached p i at b e x r has left =
    let t = true-injected design script sound steps chosen c reached p i at b e x (settle (arena c) r) has (ap (settle (arena c)) left) in
    injected-begins p b design script sound t.answer t.is_true e x.body c (record { steps = steps; choices = chosen; reached = reached }) (has.around, unwinds-spare (arena c) b e x.body has) i at x r left (t.has, refl)
