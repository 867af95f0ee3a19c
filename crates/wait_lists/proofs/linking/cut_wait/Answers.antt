use Rattle.std.proofs.Common.{ap, ◌∙◌, refl}
use Rattle.std.specs.Prelude.{slice_get}
use Rattle.wait_lists.specs.Chains.{none, Link, first_after}
use Rattle.wait_lists.specs.Nodes.{by_wait, first_at}
use Rattle.wait_lists.proofs.NodeLemmas.{wait-read, same_link, cut-made, first-then, first-else, refirst-same, refirst-kept}
use Rattle.wait_lists.proofs.linking.cut_wait.Goals as goal
use Rattle.wait_lists.proofs.linking.cut_wait.Goals.{then-node, else-node}

pub set_first-requires : goal.set_first-requires
set_first-requires c =
    let n = c.index-node.result.now in
    let k : Link = record { tag = n.waiter; next = n.after; prev = n.before } in
    c.requires.home k (wait-read c.args.nodes.now.items c.args.i n c.requires.inside c.index-node.ensures)

pub returns-clause-waits : goal.returns-clause-waits
returns-clause-waits c l is =
    let nodes = c.args.nodes.now.items in
    let n = c.index-node.result.now in
    let k : Link = record { tag = n.waiter; next = n.after; prev = n.before } in
    let same = same_link (by_wait nodes c.args.i) k l (wait-read nodes c.args.i n c.requires.inside c.index-node.ensures) is in
    cut-made (by_wait nodes) (by_wait c.set_after.new.nodes.items) (by_wait c.set_before.new.nodes.items) (by_wait c.enlist_wait.new.nodes.items) c.args.i none k l same c.set_after.ensures.waits c.set_before.ensures.waits c.enlist_wait.ensures.waits

pub returns-clause-firsts : goal.returns-clause-firsts
returns-clause-firsts c l is at =
    let nodes = c.args.nodes.now.items in
    let n = c.index-node.result.now in
    let k : Link = record { tag = n.waiter; next = n.after; prev = n.before } in
    let same = same_link (by_wait nodes c.args.i) k l (wait-read nodes c.args.i n c.requires.inside c.index-node.ensures) is in
    let old = slice_get c.args.waiters.now.items at in
    elim c.if-node.branch [
      | then-node w ↦ ap (λ v. slice_get v.items at) w.waiters-is ∙ w.set_first.ensures.firsts at
          ∙ refirst-same (first_at n.waiter n.after at) (first_after at l) old (λ x. first-then k l same w.if-node.true at x (first_at n.waiter n.after at x) refl)
      | else-node w ↦ ap (λ v. slice_get v.items at) w.waiters-is ∙ refirst-kept (first_after at l) old (λ x. first-else k l same w.if-node.false at x x refl)
    ]
