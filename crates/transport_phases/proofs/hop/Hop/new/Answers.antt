use Rattle.std.proofs.Common.{◌∙◌, ap}
use Rattle.std.specs.Ordering.{nat_cmp}
use Rattle.std.specs.FinMap as map
use Rattle.room_map.specs.Entries.{as_map}
use Rattle.transport_phases.proofs.SeatLemmas.{sound_empty}
use Rattle.transport_phases.proofs.hop.Hop.new.Goals as goal

pub invariant_of-result : goal.invariant_of-result
invariant_of-result c = sound_empty _ (ap (as_map nat_cmp) c.new.ensures.empty)

pub returns-clause-history : goal.returns-clause-history
returns-clause-history c = λ t. ap (λ es. map.get (as_map nat_cmp es) t) c.new.ensures.empty ∙ map.get-empty nat_cmp t
