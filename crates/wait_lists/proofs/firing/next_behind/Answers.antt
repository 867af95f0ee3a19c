use Rattle.std.proofs.Common.{sym, ap, ◌∙◌}
use Rattle.wait_lists.specs.Chains.{next_of}
use Rattle.wait_lists.specs.Nodes.{by_event}
use Rattle.wait_lists.proofs.NodeLemmas.{event-read}
use Rattle.wait_lists.proofs.Struck.{no-last, first-begins, behind-stays}
use Rattle.wait_lists.proofs.firing.next_behind.Goals as goal

pub returns-then-stays-eq-NONE : goal.returns-then-stays-eq-NONE
returns-then-stays-eq-NONE c xs ys list last =
    let k = c.args.kept.now in
    c.first.ensures ∙ first-begins k c.requires.sound c.args.code xs ys list (no-last k c.requires.sound c.args.code xs ys list (last ∙ c.if-stays-eq-NONE.true))

pub returns : goal.returns
returns c xs ys list last =
    let k = c.args.kept.now in
    sym (ap next_of (event-read k.nodes.items c.args.stays c.index.result.now (c.requires.inside c.if-stays-eq-NONE.false) c.index.ensures))
    ∙ ap (λ n. next_of (by_event k.nodes.items n)) (sym last)
    ∙ behind-stays k c.requires.sound c.args.code xs ys list (λ e. c.if-stays-eq-NONE.false (sym last ∙ e))
