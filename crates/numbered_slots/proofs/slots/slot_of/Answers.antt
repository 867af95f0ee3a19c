use Rattle.std.proofs.Common.{sym}
use Rattle.numbered_slots.proofs.slots.slot_of.Goals as goal

pub returns-then-number-homes : goal.returns-then-number-homes
returns-then-number-homes c = sym (c.requires.below c.args.number c.if-number-homes.true)
