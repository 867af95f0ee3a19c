use Rattle.std.proofs.Common.{List, length, ap, ◌∙◌}
use Rattle.elaborate_objects.specs.FlatDesign.declared.design.Denoted.{Denoted}
use Rattle.elaborate_objects.specs.DesignRules.Counting.{nothing_before}
use Rattle.elaborate_design.proofs.ChildEntries.{denoted_long}
use Rattle.elaborate_design.proofs.design.linked.Goals as goal

pub instances-requires : goal.instances-requires
instances-requires c =
    ap (λ (xs : List Denoted). length xs) (c.as_slice.ensures.value ∙ c.in_ok-all.ensures) ∙ denoted_long c.as_slice-joined.result.now nothing_before c.as_slice-list.result.now
