use Rattle.laws_clocked.proofs.Throwing.{throws-at}
use Rattle.laws_clocked.proofs.Counts.{count-behind}
use Rattle.laws_clocked.proofs.resets.a_reset_at_its_level_throws.Goals as goal

pub returns : goal.returns
returns u design script sound steps chosen x reached p t has w now d to before y behind split none level =
    let count = count-behind design script sound steps chosen x reached p t has w in
    throws-at design script sound p t x (record { steps = steps; choices = chosen; reached = reached }) has count.0 (record { instance = w.instance; at = w.at; inside = count.1 }) now d to before y behind split none level
