use Rattle.code_rules.proofs.Suffices.{calls}
use Rattle.code_rules.proofs.rooms_suffice.calls_have_room.Goals as goal

pub returns : goal.returns
returns c = λ d rooms typed hops. calls d rooms typed hops
