use Rattle.std.proofs.Common.{◌≡◌, ℕ, max, sym, ◌∙◌, subst, arith}
use Rattle.std.specs.Prelude.{OnOk}
use Rattle.wait_lists.specs.Waits.{with_room, room_for}
use Rattle.wait_lists.specs.Layout.{shown_by, waits_by}
use Rattle.wait_lists.proofs.Changes.{no_room}
use Rattle.wait_lists.proofs.growing.make_room.Goals as goal

pub returns-in-None-clause-ok : goal.returns-in-None-clause-ok
returns-in-None-clause-ok c =
    let w = waits_by c.args.kept.now in
    let none : room_for w c.args.p ≡ 0 = no_room c.args.kept.now.places.entries (shown_by c.args.kept.now) c.args.p (sym c.place_of.ensures ∙ c.in-None.is) in
    let same : c.args.items ≡ max c.args.items (room_for w c.args.p) = omega arith in
    let P : ℕ → Type 0 = λ n. OnOk c.admit.result (waits_by c.admit.new.kept ≡ with_room w c.args.p n) in
    subst P same c.admit.ensures.ok
