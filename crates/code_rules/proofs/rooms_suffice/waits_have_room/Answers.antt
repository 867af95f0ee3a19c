use Rattle.code_rules.proofs.Suffices.{waits}
use Rattle.code_rules.proofs.rooms_suffice.waits_have_room.Goals as goal

pub returns : goal.returns
returns c = λ d rooms. waits d rooms
