use Rattle.laws_clocked.proofs.Beginning.{begins-at}
use Rattle.laws_clocked.proofs.Counts.{count-behind}
use Rattle.laws_clocked.proofs.Rounded.{true-among}
use Rattle.laws_clocked.proofs.again.a_reset_at_its_level_begins_again.Goals as goal

pub returns : goal.returns
returns z design script sound steps chosen x reached p t has w now d to before y behind split none level b f r is left stays =
    let count = count-behind design script sound steps chosen x reached p t has w in
    let k = true-among design script sound steps chosen x reached p w.instance w.at b y.exception f r is left in
    begins-at design script sound p t x (record { steps = steps; choices = chosen; reached = reached }) has count.0 (record { instance = w.instance; at = w.at; inside = count.1 }) now d to before y behind split none level b is.around f r left stays
    k.answer k.has k.is_true
