use Rattle.std.proofs.Common.{false, length, replicate, sym, ap, ◌∙◌}
use Rattle.std.proofs.lemmas.List.{length-map}
use Rattle.std.specs.Prelude.{◌==◌}
use Rattle.kernel_channels.proofs.Rounds.{present_next, none_next}
use Rattle.kernel_channels.proofs.changes.Changes.clear_all.Goals as goal

pub invariant_of-self : goal.invariant_of-self
invariant_of-self c = present_next c.self.inside.round c.self.inside.rounds.items c.self.invariant

pub returns-else-self : goal.returns-else-self
returns-else-self c =
    none_next c.self.inside.round c.self.inside.rounds.items c.self.invariant
    ∙ ap (λ n. replicate n false) (sym (length-map c.self.inside.rounds.items (λ r. r == c.self.inside.round)) ∙ ap length c.self.view_is)
