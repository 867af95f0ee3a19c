use Rattle.std.proofs.Common.{sym, ◌∙◌}
use Rattle.exec_transactions.proofs.returning.hand_back_delay.Goals as goal

pub returns-clause-moves : goal.returns-clause-moves
returns-clause-moves c = λ d i h stands there design home. c.store_in.ensures.moves h (design ∙ stands.design) (home ∙ sym (c.home_at-home.ensures d i stands there)) d stands
