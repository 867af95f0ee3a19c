use Rattle.std.proofs.Common.{◌≡◌, false, ap, ◌∙◌, sym, refl, arith, length, Some, set}
use Rattle.std.specs.Prelude.{slice_get}
use Rattle.std.proofs.lemmas.List.{length-set}
use Rattle.wait_lists.specs.declared.waiter.Waiter.{Waiter}
use Rattle.wait_lists.specs.Shown.{Shown}
use Rattle.wait_lists.specs.Nodes.{shown_of}
use Rattle.wait_lists.specs.Layout.{shown_by}
use Rattle.wait_lists.proofs.Telling.{written_at}
use Rattle.wait_lists.proofs.Refit.{get-inside, shown-at}
use Rattle.wait_lists.proofs.Places.{slice_get-set_same}
use Rattle.wait_lists.proofs.Clearing.{set_twice}
use Rattle.wait_lists.proofs.Written.{fit-kind, shown-kind}
use Rattle.wait_lists.proofs.layout.begin_wait.Goals as goal

pub list_events-requires-clause-sound : goal.list_events-requires-clause-sound
list_events-requires-clause-sound c =
    let k = c.args.kept.now in
    let own = get-inside k.waiters.items c.args.at c.requires.inside in
    let new : Waiter = record own.0 { for_all = c.args.for_all; is_over = false } in
    let is = c.set_kind.ensures own.0 own.1 in (
      fit-kind k.places.entries k.waiters.items c.set_kind.new.waiters.items k.vacant.items k.nodes.items k.heads.events k.heads.free k.total c.requires.sound.0 c.args.at own.0 new own.1 is refl refl refl,
      omega (arith, c.requires.sound.1, ap length is, length-set k.waiters.items c.args.at new),
    )

pub list_events-requires-clause-inside : goal.list_events-requires-clause-inside
list_events-requires-clause-inside c =
    let k = c.args.kept.now in
    let own = get-inside k.waiters.items c.args.at c.requires.inside in
    omega (arith, c.requires.inside, ap length (c.set_kind.ensures own.0 own.1), length-set k.waiters.items c.args.at (record own.0 { for_all = c.args.for_all; is_over = false }))

pub list_events-requires-clause-free : goal.list_events-requires-clause-free
list_events-requires-clause-free c x found =
    let k = c.args.kept.now in
    let own = get-inside k.waiters.items c.args.at c.requires.inside in
    let new : Waiter = record own.0 { for_all = c.args.for_all; is_over = false } in
    let here = shown-at k.nodes.items k.waiters.items c.args.at own.0 own.1 in
    let now = shown-kind k.waiters.items c.set_kind.new.waiters.items k.nodes.items c.args.at new (c.set_kind.ensures own.0 own.1) in
    let is = written_at (shown_by k) (shown_by (record k { waiters = c.set_kind.new.waiters })) c.args.at (shown_of k.nodes.items own.0) x (shown_of k.nodes.items new) here now found in
    let old = c.requires.free (shown_of k.nodes.items own.0) here in
    (ap (λ (y : Shown). y.events) is ∙ old.0, omega (arith, ap (λ (y : Shown). y.room) is, old.1))

pub returns-clause-begun : goal.returns-clause-begun
returns-clause-begun c s found =
    let k = c.args.kept.now in
    let own = get-inside k.waiters.items c.args.at c.requires.inside in
    let new : Waiter = record own.0 { for_all = c.args.for_all; is_over = false } in
    let here = shown-at k.nodes.items k.waiters.items c.args.at own.0 own.1 in
    let now = shown-kind k.waiters.items c.set_kind.new.waiters.items k.nodes.items c.args.at new (c.set_kind.ensures own.0 own.1) in
    let same : Some (shown_of k.nodes.items own.0) ≡ Some s = sym here ∙ found in
    let alike : shown_of k.nodes.items own.0 ≡ s = cc in
    let read = ap (λ l. slice_get l c.args.at) now ∙ slice_get-set_same (shown_by k) c.args.at (shown_of k.nodes.items own.0) (shown_of k.nodes.items new) here in
    c.list_events.ensures.begun (shown_of k.nodes.items new) read
    ∙ ap (λ l. set l c.args.at (record (shown_of k.nodes.items new) { events = c.args.list.now })) now
    ∙ set_twice (shown_by k) c.args.at (shown_of k.nodes.items new) (record (shown_of k.nodes.items new) { events = c.args.list.now })
    ∙ ap (λ (y : Shown). set (shown_by k) c.args.at (record y { for_all = c.args.for_all; events = c.args.list.now; over = false })) alike
