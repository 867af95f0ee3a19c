use Rattle.std.proofs.Common.{[], true, false, refl, sym, ap, ◌∙◌, arith}
use Rattle.std.specs.Prelude.{slice_get}
use Rattle.wait_lists.specs.Shown.{waits_of}
use Rattle.wait_lists.specs.Layout.{shown_by}
use Rattle.wait_lists.proofs.Telling.{shown-serial, none_left}
use Rattle.wait_lists.proofs.Changes.{absent-wait, changed-wait}
use Rattle.wait_lists.proofs.Seated.{seat-within}
use Rattle.wait_lists.proofs.layout.end_wait.Goals as goal

pub end_at-requires-clause-inside : goal.end_at-requires-clause-inside
end_at-requires-clause-inside c = seat-within c.args.kept.now c.requires c.args.p c.in-Some.at (sym c.place_of.ensures ∙ c.in-Some.is)

pub returns-in-Some-clause-waits : goal.returns-in-Some-clause-waits
returns-in-Some-clause-waits c =
    let k = c.args.kept.now in
    let ss = shown_by k in
    let place = sym c.place_of.ensures ∙ c.in-Some.is in
    let one = shown-serial (slice_get ss c.in-Some.at) c.args.p (c.requires.0.seats.placed c.args.p c.in-Some.at place).0 in
    ap (λ r. waits_of (shown_by c.end_at.new.kept) r.entries) c.end_at.ensures.places
    ∙ ap (λ l. waits_of l k.places.entries) (c.end_at.ensures.over one.0 one.1).is
    ∙ changed-wait k.places.entries ss c.requires.0.seats.placed c.args.p c.in-Some.at one.0 (record one.0 { over = true }) place one.1 one.0.for_all one.0.events true refl

pub returns-in_default-clause-waits : goal.returns-in_default-clause-waits
returns-in_default-clause-waits c =
    absent-wait c.args.kept.now.places.entries (shown_by c.args.kept.now) c.args.p (sym c.place_of.ensures ∙ none_left c.place_of.result c.in_default.not-Some) false [] (omega arith)
