use Rattle.std.proofs.Common.{sym, ap, ◌∙◌}
use Rattle.kernel_view.specs.Standings.{next_here}
use Rattle.exec_channels.specs.Slots.{slot_of, slot_named}
use Rattle.exec_channels.proofs.slots.slot_named.Goals as goal

pub returns-in-Declared : goal.returns-in-Declared
returns-in-Declared c = λ d i h there.
    c.slot_of.ensures ∙ ap (λ y. slot_of y c.args.t) (c.denoted_at.ensures d i h there) ∙ ap (λ n. slot_named (next_here d c.args.p i) n c.args.t) (sym c.in-Declared.is)
