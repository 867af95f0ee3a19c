-- The lines of the stages, one stage more at a time.
use Rattle.std.proofs.Common.{◌≡◌, ℕ, ◌+◌, [], ◌++◌, refl, add-one}
use Rattle.model_gen.specs.Generated.{stages, stage_lines}

pub stages_none : stages 0 ≡ []
unfolding stages
stages_none = refl

pub stages_more : (n : ℕ) → stages (n + 1) ≡ stages n ++ stage_lines (n + 1)
unfolding stages
stages_more n = rw add-one refl
