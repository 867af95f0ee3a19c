use Rattle.std.proofs.Common.{sym, ◌∙◌}
use Rattle.exec_calls.specs.SimModel.Storing.{set_name}
use Rattle.exec_transactions.proofs.returning.hand_back.Goals as goal

pub returns-clause-moves : goal.returns-clause-moves
returns-clause-moves c = λ d i h stands there design home.
    let same = design ∙ stands.design in
    let at = home ∙ sym (c.home_at-home.ensures d i stands there) in
    let first = c.store_in.ensures.moves h same at d stands in
    let second = c.store_in-2.ensures.moves h (same ∙ sym c.store_in.ensures.design) at (set_name d c.args.p h c.args.to.phase c.args.v.phase) first in
    c.store_if_in.ensures.moves h (same ∙ sym c.store_in.ensures.design ∙ sym c.store_in-2.ensures.design) at (set_name (set_name d c.args.p h c.args.to.phase c.args.v.phase) c.args.p h c.args.to.delay c.args.v.delay) second
