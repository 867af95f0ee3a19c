use Rattle.std.proofs.Common.{ap, ◌∙◌, eq-eqb, refl}
use Rattle.wait_lists.specs.Chains.{loose, Link, has_tag}
use Rattle.wait_lists.specs.Nodes.{by_event, first_in}
use Rattle.wait_lists.proofs.Chains.{in_list}
use Rattle.wait_lists.proofs.NodeLemmas.{outside-event, event-read, same_link, cut-made, first-then, first-else, first-there}
use Rattle.wait_lists.proofs.linking.cut_event.Goals as goal
use Rattle.wait_lists.proofs.linking.cut_event.Goals.{then-node, else-node}

pub set_first-requires-clause-room : goal.set_first-requires-clause-room
set_first-requires-clause-room c event there none_first =
    let nodes = c.args.nodes.now.items in
    let n = c.index-node.result.now in
    let k : Link = record { tag = n.code; next = n.next; prev = n.prev } in
    let here = event-read nodes c.args.i n c.requires.inside c.index-node.ensures in
    let own = c.requires.lists n.code (c.requires.listed k here) in
    absurd (first-there (by_event nodes) (outside-event nodes c.requires.few) n.code (first_in c.args.heads.now.events c.args.heads.now.free n.code) own.0 c.args.i own.1
    (in_list (by_event nodes) n.code (first_in c.args.heads.now.events c.args.heads.now.free n.code) own.0 own.1 c.args.i (ap (has_tag n.code) here ∙ eq-eqb n.code n.code refl)) none_first)

pub returns-clause-events : goal.returns-clause-events
returns-clause-events c l is =
    let nodes = c.args.nodes.now.items in
    let n = c.index-node.result.now in
    let k : Link = record { tag = n.code; next = n.next; prev = n.prev } in
    let same = same_link (by_event nodes c.args.i) k l (event-read nodes c.args.i n c.requires.inside c.index-node.ensures) is in
    cut-made (by_event nodes) (by_event c.set_next.new.nodes.items) (by_event c.set_prev.new.nodes.items) (by_event c.enlist.new.nodes.items) c.args.i loose k l same c.set_next.ensures.events c.set_prev.ensures.events c.enlist.ensures.events

pub returns-clause-firsts : goal.returns-clause-firsts
returns-clause-firsts c l is d =
    let nodes = c.args.nodes.now.items in
    let n = c.index-node.result.now in
    let k : Link = record { tag = n.code; next = n.next; prev = n.prev } in
    let same = same_link (by_event nodes c.args.i) k l (event-read nodes c.args.i n c.requires.inside c.index-node.ensures) is in
    let old = first_in c.args.heads.now.events c.args.heads.now.free d in
    elim c.if-node.branch [
      | then-node w ↦ first-then k l same w.if-node.true d old (first_in c.if-node.heads.events c.if-node.heads.free d) (ap (λ h. first_in h.events h.free d) w.heads-is ∙ w.set_first.ensures.firsts d)
      | else-node w ↦ first-else k l same w.if-node.false d old (first_in c.if-node.heads.events c.if-node.heads.free d) (ap (λ h. first_in h.events h.free d) w.heads-is)
    ]
