use Rattle.std.proofs.Common.{length-drop, arith}
use Rattle.std.proofs.lemmas.List.Sorted.{IsPermutation-refl}
use Rattle.timed_queue.proofs.queue.sort_from.Goals as goal

pub returns-then-added-lt2-clause-permuted : goal.returns-then-added-lt2-clause-permuted
returns-then-added-lt2-clause-permuted c = IsPermutation-refl _

pub returns-then-added-lt2-clause-sorted : goal.returns-then-added-lt2-clause-sorted
returns-then-added-lt2-clause-sorted c = λ k d low high. absurd (omega (arith, high, length-drop c.args.from c.args.out.now.items, c.len.ensures, c.if-added-lt2.true, c.args.out.now.ok.0))
