use Rattle.order_free.proofs.DesignVerdicts.{says}
use Rattle.order_free.proofs.checking.order_free.Goals as goal

pub returns : goal.returns
returns c = says c.args.design.now c.note_homes.new.tables c.in_ok-note_homes.ensures c.verdict_of.result c.verdict_of.ensures
