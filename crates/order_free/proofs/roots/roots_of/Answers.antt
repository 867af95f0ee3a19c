use Rattle.std.proofs.Common.{◌+◌, List, length, replicate, [], ap, sym, ◌∙◌, subst}
use Rattle.flat_design.specs.declared.design.InstancePart.{InstancePart}
use Rattle.order_free.specs.Roots.{AreRoots}
use Rattle.order_free.proofs.Begun.{none_begun}
use Rattle.order_free.proofs.roots.roots_of.Goals as goal

pub loop-p-init : goal.loop-p-init
loop-p-init c =
    subst (AreRoots c.args.design.now 0)
    (sym (c.in_ok-rows.ensures ∙ ap (λ (is : List InstancePart). replicate (length is + 1) []) c.as_slice.ensures)) (none_begun c.args.design.now)
