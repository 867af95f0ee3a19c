use Rattle.std.proofs.Common.{ℕ, List, subst}
use Rattle.std.specs.Prelude.{slice_get, get_or}
use Rattle.std.specs.List.{flat_map}
use Rattle.order_free.specs.Uses.{uses_of_deed}
use Rattle.order_free.specs.declared.uses.Deed.{Deed}
use Rattle.order_free.specs.Spreading.{label_at}
use Rattle.order_free.specs.Tables as tables
use Rattle.order_free.specs.Tables.{Took, claims, uses_in, claims_in}
use Rattle.order_free.specs.declared.users.Users.{Users}
use Rattle.order_free.proofs.Taking.{took_next, blocks_next}
use Rattle.order_free.proofs.notes.note_blocks.Goals as goal

pub loop-block-init : goal.loop-block-init
loop-block-init c = tables.nothing c.args.tables.now

pub loop-block-preserved : goal.loop-block-preserved
loop-block-preserved c =
    let d = c.args.design.now in
    let part = λ (b : ℕ). claims (label_at c.args.labels.now b) (uses_in d c.args.home c.args.parts.now b) in
    took_next (λ (ys : List ℕ). claims_in d c.args.home c.args.parts.now c.args.labels.now ys) part (blocks_next part) c.args.blocks.now c.loop-block.block-index 0 c.loop-block-test.true c.args.tables.now _ _ c.loop-block.invariant
    (subst (λ (x : Users). Took (claims x (flat_map (uses_of_deed d c.args.home) (tables.deeds_in (slice_get c.args.parts.now (get_or c.args.blocks.now c.loop-block.block-index 0))))) c.loop-block.tables c.note_deeds.new.tables) c.label_at.ensures
    (subst (λ (es : List Deed). Took (claims c.label_at.result (flat_map (uses_of_deed d c.args.home) es)) c.loop-block.tables c.note_deeds.new.tables) c.deeds_of.ensures c.in_ok-note_deeds.ensures))
