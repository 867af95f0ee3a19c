use Rattle.std.proofs.Common.{refl, inr}
use Rattle.tlmsim.proofs.Lines.{cut_before}
use Rattle.tlmsim.proofs.telling.tell_refusal.Goals as goal

pub returns-in_default-clause-told : goal.returns-in_default-clause-told
returns-in_default-clause-told g c = inr (inr (refl, cut_before _ _ c.args.refusal.now _ (rw c.memory_line.ensures at c.try_line.ensures.front)))
