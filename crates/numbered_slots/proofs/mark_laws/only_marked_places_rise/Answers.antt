use Rattle.numbered_slots.proofs.Places.{only_places}
use Rattle.numbered_slots.proofs.mark_laws.only_marked_places_rise.Goals as goal

pub returns : goal.returns
returns c = only_places
