use Rattle.sim_model.specs.TransportPhases.History.{BCall}
use Rattle.kernel_transactions.proofs.Judgements.{judged_as}
use Rattle.kernel_transactions.proofs.TransactionBoard.b_call.Goals as goal

pub returns-clause-answer : goal.returns-clause-answer
returns-clause-answer c = λ d stands.
    judged_as d c.args.hop (BCall c.args.t c.args.handled) c.args.t c.b_call-verdict.result (c.b_call-verdict.ensures.answer d.transactions.hops stands.hops) c.fault_of.result c.fault_of.ensures
