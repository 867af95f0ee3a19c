use Rattle.std.proofs.Common.{[], refl, sym, ap, ◌∙◌}
use Rattle.std.specs.Prelude.{slice_get}
use Rattle.std.specs.Ordering.{nat_cmp}
use Rattle.std.specs.FinMap as map
use Rattle.wait_lists.specs.Waits.{without_instance, with_wait}
use Rattle.wait_lists.specs.Shown.{Shown, unless, waits_of}
use Rattle.wait_lists.specs.Layout.{shown_by, waits_by}
use Rattle.wait_lists.proofs.Telling.{shown-serial, written_at, none_left}
use Rattle.wait_lists.proofs.Changes.{absent-without, changed-wait, without-again, listed-empty, unless-none}
use Rattle.wait_lists.proofs.Seated.{seat-within}
use Rattle.wait_lists.proofs.layout.put_out.Goals as goal

pub clear_wait-requires-clause-inside : goal.clear_wait-requires-clause-inside
clear_wait-requires-clause-inside c = seat-within c.args.kept.now c.requires c.args.p c.in-Some.at (sym c.place_of.ensures ∙ c.in-Some.is)

pub vacate-requires-clause-place : goal.vacate-requires-clause-place
vacate-requires-clause-place c = ap (λ r. map.find nat_cmp c.args.p r.entries) c.clear_wait.ensures.places ∙ sym c.place_of.ensures ∙ c.in-Some.is

pub vacate-requires-clause-free : goal.vacate-requires-clause-free
vacate-requires-clause-free c x there =
    let ss = shown_by c.args.kept.now in
    let place = sym c.place_of.ensures ∙ c.in-Some.is in
    let one = shown-serial (slice_get ss c.in-Some.at) c.args.p (c.requires.0.seats.placed c.args.p c.in-Some.at place).0 in
    ap (λ (y : Shown). y.events) (written_at ss (shown_by c.clear_wait.new.kept) c.in-Some.at one.0 x (record one.0 { events = [] }) one.1 (c.clear_wait.ensures.cleared one.0 one.1) there)

pub returns-in-Some-clause-waits : goal.returns-in-Some-clause-waits
returns-in-Some-clause-waits c =
    let k = c.args.kept.now in
    let ss = shown_by k in
    let place = sym c.place_of.ensures ∙ c.in-Some.is in
    let one = shown-serial (slice_get ss c.in-Some.at) c.args.p (c.requires.0.seats.placed c.args.p c.in-Some.at place).0 in
    let cleared = ap (λ r. waits_of (shown_by c.clear_wait.new.kept) r.entries) c.clear_wait.ensures.places
    ∙ ap (λ l. waits_of l k.places.entries) (c.clear_wait.ensures.cleared one.0 one.1)
    ∙ changed-wait k.places.entries ss c.requires.0.seats.placed c.args.p c.in-Some.at one.0 (record one.0 { events = [] }) place one.1 one.0.for_all [] one.0.over refl
    ∙ ap (with_wait (waits_by k) c.args.p) (ap (unless one.0.over) (listed-empty one.0.for_all) ∙ unless-none one.0.over) in
    c.vacate.ensures.waits ∙ ap (λ w. without_instance w c.args.p) cleared ∙ without-again (waits_by k) c.args.p

pub returns-in_default-clause-waits : goal.returns-in_default-clause-waits
returns-in_default-clause-waits c =
    absent-without c.args.kept.now.places.entries (shown_by c.args.kept.now) c.args.p (sym c.place_of.ensures ∙ none_left c.place_of.result c.in_default.not-Some)
