use Rattle.std.proofs.Common.{false, replicate, sym, ap, ◌∙◌, subst}
use Rattle.std.proofs.lemmas.List.{length-replicate}
use Rattle.kernel_channels.specs.UpdateMarks.{marked_in, IsPresent}
use Rattle.kernel_channels.proofs.Rounds.{present_first, none_first, zeros_of}
use Rattle.kernel_channels.proofs.changes.Changes.new.Goals as goal

pub invariant_of-result : goal.invariant_of-result
invariant_of-result c =
    subst (λ rs. IsPresent 1 rs) (sym (c.in_ok-rounds.ensures.items_if_clones_equal (λ y e. e))) (present_first (replicate c.args.size 0) (zeros_of c.args.size))

pub returns : goal.returns
returns c =
    ap (marked_in 1) (c.in_ok-rounds.ensures.items_if_clones_equal (λ y e. e))
    ∙ none_first (replicate c.args.size 0) (zeros_of c.args.size)
    ∙ ap (λ n. replicate n false) (length-replicate c.args.size 0)
