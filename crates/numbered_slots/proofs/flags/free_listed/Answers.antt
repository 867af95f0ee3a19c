use Rattle.std.proofs.Common.{replicate, ap, ◌∙◌}
use Rattle.numbered_slots.specs.declared.flags.Flag.TheVariants as flag
use Rattle.numbered_slots.proofs.Listed.{next_within, free_at_end}
use Rattle.numbered_slots.proofs.flags.free_listed.Goals as goal

pub bounds-flags-n : goal.bounds-flags-n
bounds-flags-n c = next_within c.loop-n.flags c.args.listed.now c.loop-n.n-index c.loop-n-test.true c.loop-n.invariant

pub returns : goal.returns
returns c = free_at_end c.loop-n.flags c.args.listed.now c.loop-n.n-index c.loop-n-test.false c.loop-n.invariant
    ∙ ap (λ k. replicate k flag.Free) c.loop-n.auto.flags
