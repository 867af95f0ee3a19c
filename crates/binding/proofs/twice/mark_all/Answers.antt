use Rattle.std.proofs.Common.{◌∙◌, sym, arith}
use Rattle.binding.proofs.Linked.{no_binding}
use Rattle.binding.proofs.Marked.{met_again, marked_more}
use Rattle.binding.proofs.twice.mark_all.Goals as goal

pub returns-then-mark : goal.returns-then-mark
returns-then-mark c =
    met_again c.args.objects.now c.args.ends.now c.requires.ended c.args.links.now c.args.marks.now c.loop-b.marks c.loop-b.b-index c.loop-b-test.true c.loop-b.invariant (sym c.mark.ensures.met ∙ c.if-mark.true)

pub loop-b-preserved : goal.loop-b-preserved
loop-b-preserved c =
    let within = c.requires.within c.loop-b.b-index no_binding c.loop-b-test.true in
    marked_more c.args.objects.now c.args.ends.now c.requires.ended c.args.links.now c.args.marks.now c.loop-b.marks c.loop-b.b-index c.loop-b-test.true c.loop-b.invariant c.mark.new.marks (omega arith) (sym c.mark.ensures.met ∙ c.if-mark.false) c.mark.ensures.marked
