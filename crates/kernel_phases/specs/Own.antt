-- Rules that choose among what is runnable.
use Rattle.std.specs.Prelude.{⊤}
use Rattle.kernel_state.specs.SimModel.Runs.{Chooser, least, greatest, seeded, listed}

-- all but a replayed list, whose choices were made before
abbrev pub ChoosesItself : Chooser → Type 0
ChoosesItself least = ⊤
ChoosesItself greatest = ⊤
ChoosesItself (seeded g) = ⊤
ChoosesItself (listed choices) = ⊥
