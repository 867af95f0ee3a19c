-- What the taking of the process that is picked makes of a kernel.
use Rattle.std.specs.Prelude.{◌≡◌, ℕ, Option, Some, None}
use Rattle.kernel_phases.specs.SimModel.Configuration.{Config}
use Rattle.kernel_phases.specs.SimModel.Steps.{taking}
use Rattle.kernel_phases.specs.KernelState.Kernel.{StandsFor}
use Rattle.kernel_phases.specs.KernelState.declared.kernel.Kernel.{Kernel}

-- the taking of what is picked: there is none where none is picked or the one that is picked is not runnable
abbrev pub taking_of : Config → Option ℕ → Option Config
taking_of c None = None
taking_of c (Some p) = taking c p

-- what is answered is what was picked, and the kernel stands for the configuration of the taking; where there is none, none is
-- answered and the kernel is as it was
abbrev pub FollowsTaking : Kernel → Kernel → Option ℕ → Option ℕ → Option Config → Type 0
FollowsTaking old new (Some p) picks (Some d) = (picks ≡ Some p) × StandsFor new d
FollowsTaking old new (Some p) picks None = ⊥
FollowsTaking old new None picks (Some d) = ⊥
FollowsTaking old new None picks None = new ≡ old

-- for every configuration that the kernel stood for
abbrev pub Takes : Kernel → Kernel → Option ℕ → Option ℕ → Type 0
Takes old new picks answer = (c : Config) → StandsFor old c → FollowsTaking old new answer picks (taking_of c picks)
