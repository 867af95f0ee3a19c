use Rattle.std.proofs.Common.{refl}
use Rattle.laws_runs.specs.SimModel.Configuration.{arena}
use Rattle.laws_clocked.proofs.Returning.{always-thrown}
use Rattle.laws_clocked.proofs.Recurring.{begins-first_at}
use Rattle.laws_clocked.proofs.Rounded.{true-among}
use Rattle.laws_clocked.proofs.Sparing.{unwinds-spare}
use Rattle.laws_clocked.proofs.first.own_statements_begin_again_first.Goals as goal

pub returns-clause-thrown : goal.returns-clause-thrown
returns-clause-thrown z design script sound steps chosen c reached p rest b e s x r has h next throws none =
    let t = true-among design script sound steps chosen c reached p h.instance h.at b e x r has h.left in
    always-thrown p b design script sound t.answer t.is_true e x.body c (record { steps = steps; choices = chosen; reached = reached }) (has.around, unwinds-spare (arena c) b e x.body has) rest x r h s next throws none (t.has, refl)

pub returns-clause-at_level : goal.returns-clause-at_level
returns-clause-at_level z design script sound steps chosen x reached p t has w now d to before y behind split none level b f r is left uncaught =
    let k = true-among design script sound steps chosen x reached p w.instance w.at b y.exception f r is left in
    begins-first_at design script sound p t x (record { steps = steps; choices = chosen; reached = reached }) has w now d to before y behind split none level b f r k.answer k.has k.is_true
    (is.around, unwinds-spare (arena x) b y.exception f.body is) left uncaught
