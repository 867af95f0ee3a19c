use Rattle.std.proofs.Common.{◌-◌, ◌≤◌, subst, ◌∙◌, arith}
use Rattle.binding.proofs.Followed.{left_less, once_left}
use Rattle.binding.proofs.twice.follow_all.Goals as goal

pub loop-k-preserved : goal.loop-k-preserved
loop-k-preserved c = record {
  counts = λ n. c.if-follow.ensures.counts n ∙ c.loop-k.invariant.counts n;
  left = left_less c.args.objects.now c.requires.formed c.args.order.now c.requires.ordered (c.loop-k.k - 1) (omega arith) c.loop-k.marks c.follow.new.marks c.if-follow.ensures (λ j m at here going. let low = c.loop-k.invariant.left j m at here going in omega (arith, low));
}

pub returns : goal.returns
returns c = λ n.
    subst (λ m. m ≤ 1) (c.loop-k.invariant.counts n)
    (once_left c.args.objects.now c.requires.formed c.args.order.now c.requires.ordered c.loop-k.marks (c.loop-k.auto.marks ∙ c.requires.long)
    (λ j m at here going. let low = c.loop-k.invariant.left j m at here going in omega (arith, low)) n)
