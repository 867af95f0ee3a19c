use Rattle.std.proofs.Common.{ap, ◌∙◌}
use Rattle.std.specs.FinMap as map
use Rattle.std.proofs.lemmas.Result.{on_ok_weaker}
use Rattle.wait_lists.specs.Layout.{waits_by}
use Rattle.wait_lists.proofs.Reserved.{has_room, room_grows, others_stay}
use Rattle.wait_lists.proofs.WaitLists.reserve_for.Goals as goal

pub returns-clause-ok : goal.returns-clause-ok
returns-clause-ok c = on_ok_weaker c.make_room.result (has_room (waits_by c.self.inside.kept) (waits_by c.make_room.new.kept) c.args.p c.args.items) c.make_room.ensures.ok

pub returns-clause-grows : goal.returns-clause-grows
returns-clause-grows c = rw (← c.self.view_is)
    (room_grows (waits_by c.self.inside.kept) (waits_by c.make_room.new.kept) c.args.p c.args.items c.make_room.result c.make_room.ensures.ok c.make_room.ensures.err)

pub returns-clause-others : goal.returns-clause-others
returns-clause-others c q apart =
    others_stay (waits_by c.self.inside.kept) (waits_by c.make_room.new.kept) c.args.p c.args.items c.make_room.result c.make_room.ensures.ok c.make_room.ensures.err q apart
    ∙ ap (λ w. map.get w.room q) c.self.view_is
