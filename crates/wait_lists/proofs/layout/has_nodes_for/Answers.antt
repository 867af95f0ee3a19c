use Rattle.std.proofs.Common.{◌≡◌, ◌<◌, true≢false, length, sym, ◌∙◌, arith, ne_eqb, ⊎_elim}
use Rattle.std.proofs.lemmas.Bool.{cases_eq}
use Rattle.wait_lists.specs.Chains.{none, Link}
use Rattle.wait_lists.proofs.NodeLemmas.{event-read, wait-read}
use Rattle.wait_lists.proofs.Reading.{reads-first, reads-inside, reads-next, reads-all}
use Rattle.wait_lists.proofs.layout.has_nodes_for.Goals as goal

pub loop-k-init : goal.loop-k-init
loop-k-init c = record { reads = reads-first c.args.kept.now c.requires.sound c.args.at c.args.list.now c.requires.inside c.first_node-i.result c.first_node-i.ensures }

pub index-node-requires : goal.index-node-requires
index-node-requires c =
    let k = c.args.kept.now in
    let inside : c.loop-k.i < length k.nodes.items = reads-inside k c.requires.sound c.args.at c.args.list.now c.loop-k.i c.loop-k.k c.loop-k.invariant.reads c.if-i.false in
    omega (arith, inside, k.nodes.ok.0)

pub loop-k-preserved : goal.loop-k-preserved
loop-k-preserved c =
    let k = c.args.kept.now in
    let n = c.index-node.result.now in
    let l : Link = record { tag = n.code; next = n.next; prev = n.prev } in
    let m : Link = record { tag = n.waiter; next = n.after; prev = n.before } in
    let inside : c.loop-k.i < length k.nodes.items = reads-inside k c.requires.sound c.args.at c.args.list.now c.loop-k.i c.loop-k.k c.loop-k.invariant.reads c.if-i.false in
    record {
      reads = reads-next k c.requires.sound c.args.at c.args.list.now c.loop-k.i c.loop-k.k c.loop-k.invariant.reads c.if-i.false (omega (arith, c.loop-k-test.true)) l m
          (event-read k.nodes.items c.loop-k.i n inside c.index-node.ensures) (wait-read k.nodes.items c.loop-k.i n inside c.index-node.ensures) (c.if-node-event_code.false ∙ c.event_code.ensures);
    }

pub returns : goal.returns
returns c s here is = reads-all c.args.kept.now c.requires.sound c.args.at c.args.list.now c.loop-k.i c.loop-k.k c.loop-k.invariant.reads (omega (arith, c.loop-k-test.false))
    (⊎_elim (λ (e : c.loop-k.i ≡ none). e) (λ apart. absurd (true≢false (sym is ∙ ne_eqb c.loop-k.i none apart))) (cases_eq c.loop-k.i none)) s here
