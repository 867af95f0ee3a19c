use Rattle.std.proofs.Common.{List, length, refl, ap, sym, ◌∙◌, subst}
use Rattle.std.specs.Prelude.{slice_get}
use Rattle.std.proofs.lemmas.Option.{slice_get_read}
use Rattle.flat_design.specs.EventCore.declared.event.Ev.{Ev}
use Rattle.flat_design.specs.declared.design.ProcessPart.{ProcessPart}
use Rattle.order_free.specs.Tables.{Took, claims, uses_of_events}
use Rattle.order_free.specs.declared.users.Users.TheVariants as users
use Rattle.order_free.proofs.Homes.{none_told, sensitivity_told}
use Rattle.order_free.proofs.checking.note_sensitivities.Goals as goal

pub loop-p-init : goal.loop-p-init
loop-p-init c = none_told c.args.design.now c.args.tables.now c.requires

pub loop-p-preserved : goal.loop-p-preserved
loop-p-preserved c =
    let parts = c.as_slice-part-items.result.now in
    let p = c.loop-p.p in
    sensitivity_told c.args.design.now p c.part-item.result
    (ap (λ (ps : List ProcessPart). slice_get ps p) (sym c.as_slice-part-items.ensures) ∙ slice_get_read parts (length parts) p c.part-item.result refl c.loop-p-test.true c.part-item.is)
    c.loop-p.tables c.note_events.new.tables
    (subst (λ (es : List Ev). Took (claims (users.One p) (uses_of_events es)) c.loop-p.tables c.note_events.new.tables) c.as_slice.ensures c.in_ok-note_events.ensures)
    c.loop-p.invariant
