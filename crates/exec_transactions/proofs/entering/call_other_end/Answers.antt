use Rattle.std.proofs.Common.{sym, subst}
use Rattle.exec_calls.specs.KernelTransactions.Answers.{complete_in}
use Rattle.exec_calls.specs.KernelState.Stopping.{DoesBut}
use Rattle.exec_transactions.specs.Calling.{IsOfProtocol}
use Rattle.exec_transactions.proofs.Called.{on_live}
use Rattle.exec_transactions.proofs.entering.call_other_end.Goals as goal

pub returns-in-Some-clause-calls : goal.returns-in-Some-clause-calls
returns-in-Some-clause-calls c = subst (λ o. DoesBut IsOfProtocol c.args.k.now c.enter.new.k c.enter.result c.args.p (λ d q i r. on_live c.args.k.now c.args.p c.args.s o c.args.asked.via c.args.asked.phase c.args.values.now (complete_in d.transactions c.args.asked.via.payload) d q i r))
    (sym c.in-Some.is) c.enter.ensures.calls

pub returns-in-None-clause-calls : goal.returns-in-None-clause-calls
returns-in-None-clause-calls c = subst (λ o. DoesBut IsOfProtocol c.args.k.now c.unhandled.new.k c.unhandled.result c.args.p (λ d q i r. on_live c.args.k.now c.args.p c.args.s o c.args.asked.via c.args.asked.phase c.args.values.now (complete_in d.transactions c.args.asked.via.payload) d q i r))
    (sym c.in-None.is) c.unhandled.ensures.calls
