use Rattle.std.proofs.Common.{◌∙◌, ap, w32, to_z, of_z}
use Rattle.std.proofs.lemmas.Int.{to_z-of_z}
use Rattle.sim_model.specs.TransportPhases.Phases.{verdict}
use Rattle.sim_model.specs.TransportPhases.History.{Return, broken}
use Rattle.kernel_transactions.specs.Hops.{history_at}
use Rattle.kernel_transactions.specs.Answers.{complete_in}
use Rattle.kernel_transactions.proofs.Judgements.{returned_as}
use Rattle.kernel_transactions.proofs.TransactionBoard.returned.Goals as goal

pub returns-clause-answer : goal.returns-clause-answer
returns-clause-answer c = λ d stands.
    returned_as d c.args.hop (Return c.args.t c.args.status c.args.phase (complete_in d.transactions c.args.t)) c.args.t c.is_live-live.result (c.is_live-live.ensures d.transactions stands) c.returned-verdict.result
    (c.returned-verdict.ensures.answer d.transactions.hops stands.hops
    ∙ ap (λ s. verdict (broken (history_at d.transactions.hops c.args.hop) (Return c.args.t s (to_z w32 (of_z w32 c.args.phase)) c.is_complete-complete.result))) (to_z-of_z w32 c.args.status c.ranges.status)
    ∙ ap (λ z. verdict (broken (history_at d.transactions.hops c.args.hop) (Return c.args.t c.args.status z c.is_complete-complete.result))) (to_z-of_z w32 c.args.phase c.ranges.phase)
    ∙ ap (λ b. verdict (broken (history_at d.transactions.hops c.args.hop) (Return c.args.t c.args.status c.args.phase b))) (c.is_complete-complete.ensures d.transactions stands))
    c.fault_at_return.result c.fault_at_return.ensures
