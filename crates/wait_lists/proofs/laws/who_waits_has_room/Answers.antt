use Rattle.wait_lists.specs.Layout.{shown_by}
use Rattle.wait_lists.proofs.LawLemmas.{all_have_room}
use Rattle.wait_lists.proofs.laws.who_waits_has_room.Goals as goal

pub returns : goal.returns
returns c = rw (← c.lists.view_is) (all_have_room (shown_by c.lists.inside.kept) c.lists.inside.kept.places.entries)
