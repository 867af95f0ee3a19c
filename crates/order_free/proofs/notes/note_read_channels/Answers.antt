use Rattle.std.proofs.Common.{List, subst}
use Rattle.std.specs.List.{flat_map}
use Rattle.flat_design.specs.declared.design.ChannelId.{ChannelId}
use Rattle.order_free.specs.Uses.{read_from}
use Rattle.order_free.specs.declared.uses.Use.{Use}
use Rattle.order_free.specs.Tables as tables
use Rattle.order_free.specs.Tables.{Took, claims}
use Rattle.order_free.proofs.Taking.{took_next, claims_next}
use Rattle.order_free.proofs.notes.note_read_channels.Goals as goal

pub loop-channel-init : goal.loop-channel-init
loop-channel-init c = tables.nothing c.args.tables.now

pub loop-channel-preserved : goal.loop-channel-preserved
loop-channel-preserved c =
    took_next (λ (ys : List ChannelId). claims c.args.x (flat_map read_from ys)) (λ (y : ChannelId). claims c.args.x (read_from y)) (claims_next c.args.x read_from) c.args.channels.now c.loop-channel.channel-index _ c.loop-channel-test.true c.args.tables.now _ _ c.loop-channel.invariant
    (subst (λ (us : List Use). Took (claims c.args.x us) c.loop-channel.tables c.note_if.new.tables) c.read_from.ensures c.in_ok-note_if.ensures)
