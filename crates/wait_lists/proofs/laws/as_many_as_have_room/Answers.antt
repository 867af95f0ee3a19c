use Rattle.wait_lists.specs.Waits.{waits_naming}
use Rattle.wait_lists.proofs.MetLemmas.{waits-naming}
use Rattle.wait_lists.proofs.LawLemmas.{len-le}
use Rattle.wait_lists.proofs.laws.as_many_as_have_room.Goals as goal

pub returns-clause-waiting : goal.returns-clause-waiting
returns-clause-waiting c w e = len-le (waits_naming w e) w.waits (waits-naming w e)

pub returns-clause-room : goal.returns-clause-room
returns-clause-room c w roomy = len-le w.waits w.room roomy
