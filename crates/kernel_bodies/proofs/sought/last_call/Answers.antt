use Rattle.std.proofs.Common.{◌-◌, length, sym, arith}
use Rattle.kernel_bodies.proofs.Leaving.{last_call_at}
use Rattle.kernel_bodies.proofs.sought.last_call.Goals as goal

pub returns-else-many-eq0 : goal.returns-else-many-eq0
returns-else-many-eq0 c = sym (last_call_at c.args.frames.now (length c.args.frames.now - 1) c.index-frames-many.result (omega arith))
