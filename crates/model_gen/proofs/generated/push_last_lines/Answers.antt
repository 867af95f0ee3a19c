use Rattle.std.proofs.Common.{append_assoc}
use Rattle.model_gen.specs.Generated.{last_lines}
use Rattle.model_gen.proofs.generated.push_last_lines.Goals as goal

pub returns : goal.returns
unfolding last_lines
returns c = simp append_assoc (simp append_assoc at c.push_numbered.ensures)
