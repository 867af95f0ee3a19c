use Rattle.std.proofs.Common.{◌∙◌, List, [], map, refl, sym, ap}
use Rattle.kernel_events.specs.FifoSync.Fifos.{Queued, after_update}
use Rattle.kernel_channels.specs.Announced.{told_by_fifos}
use Rattle.kernel_channels.proofs.Resting.{none_placed}
use Rattle.kernel_channels.proofs.Updating.{fifos_left, fifos_announced}
use Rattle.kernel_channels.proofs.fifos.FifoBank.update.Goals as goal

pub returns-then-is_empty-clause-left : goal.returns-then-is_empty-clause-left
returns-then-is_empty-clause-left c =
    let qs = c.self.inside.fifos.items in
    let bs = c.self.inside.asked in
    let none = none_placed 0 bs (c.is_empty.ensures.0 c.if-is_empty.true) in
    sym c.self.view_is ∙ fifos_left qs bs c.self.inside.visited c.self.invariant [] qs none refl qs refl ∙ ap (map after_update) c.self.view_is

pub returns-then-is_empty-clause-announced : goal.returns-then-is_empty-clause-announced
returns-then-is_empty-clause-announced c =
    let qs = c.self.inside.fifos.items in
    let bs = c.self.inside.asked in
    let none = none_placed 0 bs (c.is_empty.ensures.0 c.if-is_empty.true) in
    fifos_announced qs bs c.self.inside.visited c.self.invariant [] qs none refl c.args.parts.now c.args.events.now c.args.events.now refl
    ∙ ap (λ (xs : List Queued). told_by_fifos c.args.parts.now xs c.args.events.now) c.self.view_is
