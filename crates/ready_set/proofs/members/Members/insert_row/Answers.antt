use Rattle.ready_set.proofs.Row.{step}
use Rattle.std.proofs.Common.{arith}
use Rattle.ready_set.proofs.members.Members.insert_row.Goals as goal

pub loop-p-preserved : goal.loop-p-preserved
loop-p-preserved c =
    step c.args.first c.args.count c.loop-p.p c.args.self.now c.loop-p.self c.insert.new.self c.requires.row c.requires.some (omega arith) (omega (arith, c.loop-p-test.true)) c.loop-p.invariant c.insert.ensures
