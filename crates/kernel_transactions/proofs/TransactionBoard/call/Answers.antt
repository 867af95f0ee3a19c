use Rattle.std.proofs.Common.{◌∙◌, ap, w32}
use Rattle.std.proofs.lemmas.Int.{to_z-of_z}
use Rattle.sim_model.specs.TransportPhases.Phases.{verdict}
use Rattle.sim_model.specs.TransportPhases.History.{Call, broken}
use Rattle.kernel_transactions.specs.Hops.{history_at}
use Rattle.kernel_transactions.specs.Answers.{complete_in}
use Rattle.kernel_transactions.proofs.Judgements.{judged_as}
use Rattle.kernel_transactions.proofs.TransactionBoard.call.Goals as goal

pub returns-clause-answer : goal.returns-clause-answer
returns-clause-answer c = λ d stands.
    judged_as d c.args.hop (Call c.args.t c.args.path c.args.phase (complete_in d.transactions c.args.t) c.args.handled) c.args.t c.call-verdict.result
    (c.call-verdict.ensures.answer d.transactions.hops stands.hops
    ∙ ap (λ z. verdict (broken (history_at d.transactions.hops c.args.hop) (Call c.args.t c.args.path z c.is_complete-complete.result c.args.handled))) (to_z-of_z w32 c.args.phase c.ranges.phase)
    ∙ ap (λ b. verdict (broken (history_at d.transactions.hops c.args.hop) (Call c.args.t c.args.path c.args.phase b c.args.handled))) (c.is_complete-complete.ensures d.transactions stands))
    c.fault_of.result c.fault_of.ensures
