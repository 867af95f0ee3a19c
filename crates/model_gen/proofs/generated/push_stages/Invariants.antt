use Rattle.std.proofs.Common.{◌≡◌, ◌++◌}
use Rattle.model_gen.specs.Generated.{stages}
use Rattle.model_gen.proofs.generated.push_stages.Given as goal

-- the lines so far are those of the stages so far
abbrev pub invariant-loop-made : goal.invariant-loop-made
invariant-loop-made l = l.text.items ≡ l.fn.text.items ++ stages l.made
