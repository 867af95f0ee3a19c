use Rattle.std.proofs.Common.{false, refl, sym, ap, ◌∙◌, arith}
use Rattle.std.specs.Prelude.{slice_get}
use Rattle.wait_lists.specs.Shown.{Shown, waits_of}
use Rattle.wait_lists.specs.Layout.{shown_by}
use Rattle.wait_lists.proofs.Telling.{shown-serial, none_left}
use Rattle.wait_lists.proofs.Changes.{room_for-told, absent-wait, changed-wait}
use Rattle.wait_lists.proofs.Seated.{seat-within}
use Rattle.wait_lists.proofs.layout.set_wait.Goals as goal

pub wait_at-requires-clause-inside : goal.wait_at-requires-clause-inside
wait_at-requires-clause-inside c =
    seat-within c.args.kept.now c.requires.sound c.args.p c.in-Some.at (sym c.place_of.ensures ∙ c.in-Some.is)

pub wait_at-requires-clause-room : goal.wait_at-requires-clause-room
wait_at-requires-clause-room c s here =
    let k = c.args.kept.now in
    omega (arith, room_for-told k.places.entries (shown_by k) c.requires.sound.0.seats.placed c.args.p c.in-Some.at s s (sym c.place_of.ensures ∙ c.in-Some.is) here, c.requires.room)

pub returns-in-Some-clause-waits : goal.returns-in-Some-clause-waits
returns-in-Some-clause-waits c =
    let k = c.args.kept.now in
    let ss = shown_by k in
    let place = sym c.place_of.ensures ∙ c.in-Some.is in
    let one = shown-serial (slice_get ss c.in-Some.at) c.args.p (c.requires.sound.0.seats.placed c.args.p c.in-Some.at place).0 in
    let new : Shown = record one.0 { for_all = c.args.for_all; events = c.args.list.now; over = false } in
    ap (λ r. waits_of (shown_by c.wait_at.new.kept) r.entries) c.wait_at.ensures.places
    ∙ ap (λ l. waits_of l k.places.entries) (c.wait_at.ensures.begun one.0 one.1)
    ∙ changed-wait k.places.entries ss c.requires.sound.0.seats.placed c.args.p c.in-Some.at one.0 new place one.1 c.args.for_all c.args.list.now false refl

pub returns-in_default-clause-waits : goal.returns-in_default-clause-waits
returns-in_default-clause-waits c =
    absent-wait c.args.kept.now.places.entries (shown_by c.args.kept.now) c.args.p (sym c.place_of.ensures ∙ none_left c.place_of.result c.in_default.not-Some) c.args.for_all c.args.list.now c.requires.room
