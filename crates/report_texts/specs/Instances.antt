-- What is told of an instance.
use Rattle.std.specs.Prelude.{◌≡◌, ℕ, false, List, [], ◌++◌, ◌∷◌, codes, Option, Some, None}
use Rattle.kernel_state.specs.LogicValues.declared.kinds.Value.{Value}
use Rattle.kernel_state.specs.LogicValues.ValueText.{text_of}
use Rattle.flat_design.specs.Code as code
use Rattle.flat_design.specs.Code.{Term, statement_at}
use Rattle.flat_design.specs.declared.design.Design.{Design}
use Rattle.kernel_state.specs.SimModel.Configuration.{Config, Instance, instance_at, arena}
use Rattle.kernel_state.specs.SimModel.Steps.{turn_line}
use Rattle.kernel_state.specs.SimModel.Storing.{print_line}
use Rattle.kernel_state.specs.KernelProcesses.InstanceViews.{body_at as kept_at}
use Rattle.kernel_state.specs.Kernel.{StandsFor, path_in, whole_design}
use Rattle.kernel_state.specs.declared.kernel.Kept.{Kept}
use Rattle.kernel_state.specs.declared.kernel.Kernel.{Kernel}

-- the path of an instance, by what is kept of it
abbrev pub path_if : Design → Option Kept → List ℕ
path_if d None = []
path_if d (Some kept) = path_in d kept.home kept.body.calls.code kept.path

abbrev pub path_at : Kernel → ℕ → List ℕ
path_at k p = path_if (whole_design k) (kept_at k.schedule p)

-- what stands behind the text of a print
abbrev pub end_of_print : Option Value → List ℕ
end_of_print None = 10 ∷ []
end_of_print (Some v) = codes " " ++ text_of v ++ 10 ∷ []

-- It is the line of a print of instance p, which has not ended, in statement s, with this value, whatever configuration the kernel
-- stands for.
abbrev pub IsPrintLine : Kernel → ℕ → ℕ → Option Value → List ℕ → Type 0
IsPrintLine k p s v made = (c : Config) (i : Instance) (text : List ℕ) (shown : Option Term) → StandsFor k c → instance_at c p ≡ Some i → i.ended ≡ false
    → statement_at (arena c) s ≡ Some (code.print text shown) → made ≡ print_line c.cycle.now i.path text v

-- It is the line of a taking of instance p, which has not ended.
abbrev pub IsTurnLine : Kernel → ℕ → List ℕ → Type 0
IsTurnLine k p made = (c : Config) (i : Instance) → StandsFor k c → instance_at c p ≡ Some i → i.ended ≡ false → made ≡ turn_line c.cycle.now i.path p
