use Rattle.exec_transactions.proofs.Called.{live_calls, freed_calls}
use Rattle.exec_transactions.proofs.entering.call.Goals as goal

pub returns-then-is_live-clause-calls : goal.returns-then-is_live-clause-calls
returns-then-is_live-clause-calls c = live_calls c.args.k.now c.args.p c.args.s c.args.handler c.args.asked.via c.args.asked.phase c.args.values.now c.live_payloads_are_used.ensures.complete c.is_live.result c.is_live.ensures c.if-is_live.true
    c.call_other_end.new.k c.call_other_end.result c.call_other_end.ensures.calls

pub returns-else-is_live-clause-calls : goal.returns-else-is_live-clause-calls
returns-else-is_live-clause-calls c = freed_calls c.args.k.now c.args.p c.args.s c.args.handler c.args.asked.via c.args.asked.phase c.args.values.now c.is_live.result c.is_live.ensures c.if-is_live.false
