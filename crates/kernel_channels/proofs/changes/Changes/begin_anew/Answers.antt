use Rattle.std.proofs.Common.{◌≡◌, false, length, replicate, sym, ap, ◌∙◌}
use Rattle.std.specs.Prelude.{◌==◌}
use Rattle.std.proofs.lemmas.List.{length-map}
use Rattle.kernel_channels.specs.UpdateMarks.{marked_in}
use Rattle.kernel_channels.proofs.Rounds.{none_first}
use Rattle.kernel_channels.proofs.Updating.{stands}
use Rattle.kernel_channels.proofs.changes.Changes.begin_anew.Goals as goal

pub returns : goal.returns
returns c =
    let rs = c.self.inside.rounds.items in
    let new = c.forget_rounds.new.rounds in
    let many : length new ≡ length rs = c.forget_rounds.ensures.size ∙ ap length c.as_mut_slice.ensures.value in
    ap (marked_in 1) (stands c.self.inside.rounds new many)
    ∙ none_first new c.forget_rounds.ensures.zero
    ∙ ap (λ n. replicate n false) (many ∙ sym (length-map rs (λ r. r == c.self.inside.round)) ∙ ap length c.self.view_is)
