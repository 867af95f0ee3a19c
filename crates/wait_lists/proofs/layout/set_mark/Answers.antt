use Rattle.std.proofs.Common.{true≢false, length, refl, sym, ap, ◌∙◌, arith}
use Rattle.std.proofs.lemmas.List.{length-set}
use Rattle.wait_lists.specs.declared.waiter.Waiter.{Waiter}
use Rattle.wait_lists.specs.Shown.{waits_of}
use Rattle.wait_lists.specs.Nodes.{shown_of}
use Rattle.wait_lists.specs.Layout.{shown_by}
use Rattle.wait_lists.proofs.Telling.{none_left}
use Rattle.wait_lists.proofs.Changes.{changed-mark, no_room_key}
use Rattle.wait_lists.proofs.Refit.{get-inside, shown-at}
use Rattle.wait_lists.proofs.Written.{fit-kind, shown-kind}
use Rattle.wait_lists.proofs.Seated.{seat-within}
use Rattle.wait_lists.proofs.layout.set_mark.Goals as goal

pub set_muted-requires : goal.set_muted-requires
set_muted-requires c = seat-within c.args.kept.now c.requires.sound c.args.p c.in-Some.at (sym c.place_of.ensures ∙ c.in-Some.is)

pub returns-in-Some-clause-sound : goal.returns-in-Some-clause-sound
returns-in-Some-clause-sound c =
    let k = c.args.kept.now in
    let own = get-inside k.waiters.items c.in-Some.at (seat-within k c.requires.sound c.args.p c.in-Some.at (sym c.place_of.ensures ∙ c.in-Some.is)) in
    let new : Waiter = record own.0 { is_muted = c.args.on } in
    let is = c.set_muted.ensures own.0 own.1 in (
      fit-kind k.places.entries k.waiters.items c.set_muted.new.waiters.items k.vacant.items k.nodes.items k.heads.events k.heads.free k.total c.requires.sound.0 c.in-Some.at own.0 new own.1 is refl refl refl,
      omega (arith, c.requires.sound.1, ap length is, length-set k.waiters.items c.in-Some.at new),
    )

pub returns-in-Some-clause-waits : goal.returns-in-Some-clause-waits
returns-in-Some-clause-waits c =
    let k = c.args.kept.now in
    let place = sym c.place_of.ensures ∙ c.in-Some.is in
    let own = get-inside k.waiters.items c.in-Some.at (seat-within k c.requires.sound c.args.p c.in-Some.at place) in
    let new : Waiter = record own.0 { is_muted = c.args.on } in
    ap (λ l. waits_of l k.places.entries) (shown-kind k.waiters.items c.set_muted.new.waiters.items k.nodes.items c.in-Some.at new (c.set_muted.ensures own.0 own.1))
    ∙ changed-mark k.places.entries (shown_by k) c.requires.sound.0.seats.placed c.args.p c.in-Some.at (shown_of k.nodes.items own.0) (shown_of k.nodes.items new) place
    (shown-at k.nodes.items k.waiters.items c.in-Some.at own.0 own.1) c.args.on refl

pub returns-in_default-clause-waits : goal.returns-in_default-clause-waits
returns-in_default-clause-waits c =
    absurd (true≢false (sym c.requires.room ∙ no_room_key c.args.kept.now.places.entries (shown_by c.args.kept.now) c.args.p
    (sym c.place_of.ensures ∙ none_left c.place_of.result c.in_default.not-Some)))
