use Rattle.std.proofs.Common.{arith}
use Rattle.elaborate_design.proofs.ChildLemmas.{none_past}
use Rattle.elaborate_design.proofs.ends.found.Goals as goal

pub returns-else-instance-len : goal.returns-else-instance-len
returns-else-instance-len c = none_past c.args.instance c.args.name.now c.args.children.now c.requires (omega (arith, c.if-instance-len.false, c.len.ensures))
