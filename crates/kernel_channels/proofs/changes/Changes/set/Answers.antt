use Rattle.std.proofs.Common.{true, set, ap, ◌∙◌}
use Rattle.kernel_channels.proofs.Rounds.{set_in, present_set}
use Rattle.kernel_channels.proofs.changes.Changes.set.Goals as goal

pub invariant_of-self : goal.invariant_of-self
invariant_of-self c = present_set c.self.inside.round c.self.inside.rounds.items c.args.n c.self.invariant

pub returns-then-at-len : goal.returns-then-at-len
returns-then-at-len c = set_in c.self.inside.round c.self.inside.rounds.items c.args.n ∙ ap (λ marks. set marks c.args.n true) c.self.view_is
