use Rattle.std.proofs.Common.{List}
use Rattle.std.specs.List.{flat_map}
use Rattle.order_free.specs.Uses.{uses_of_deed}
use Rattle.order_free.specs.declared.uses.Deed.{Deed}
use Rattle.order_free.specs.Tables as tables
use Rattle.order_free.specs.Tables.{Took, claims}
use Rattle.order_free.proofs.Taking.{took_next, claims_next}
use Rattle.order_free.proofs.notes.note_deeds.Goals as goal

pub loop-deed-init : goal.loop-deed-init
loop-deed-init c = tables.nothing c.args.tables.now

pub loop-deed-preserved : goal.loop-deed-preserved
loop-deed-preserved c =
    took_next (λ (ys : List Deed). claims c.args.x (flat_map (uses_of_deed c.args.design.now c.args.home) ys)) (λ (y : Deed). claims c.args.x (uses_of_deed c.args.design.now c.args.home y)) (claims_next c.args.x (uses_of_deed c.args.design.now c.args.home)) c.args.deeds.now c.loop-deed.deed-index _ c.loop-deed-test.true c.args.tables.now _ _ c.loop-deed.invariant
    c.in_ok-note_deed.ensures
