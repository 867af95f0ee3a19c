use Rattle.std.proofs.Common.{◌≡◌, Some, ◌∙◌, sym}
use Rattle.clocked.proofs.Complete.{expands_run}
use Rattle.clocked.proofs.laws.one_expansion.Goals as goal

pub returns : goal.returns
returns c = λ ts one other h k. let e : Some one ≡ Some other = sym (expands_run ts one h) ∙ expands_run ts other k in cc
