-- What comes next in the body of an instance.
use Rattle.std.specs.Prelude.{◌≡◌, ℕ, Some}
use Rattle.exec_channels.specs.SimModel.Residual.{Next, next_of, settle}
use Rattle.exec_channels.specs.SimModel.Configuration.{Config, Instance, instance_at, arena}
use Rattle.exec_channels.specs.KernelState.Kernel.{StandsFor}
use Rattle.exec_channels.specs.KernelState.declared.kernel.Kernel.{Kernel}

-- this comes next in the body of instance p, whatever the kernel stands for
abbrev pub ComesNext : Kernel → ℕ → Next → Type 0
ComesNext k p x = (c : Config) (i : Instance) → StandsFor k c → instance_at c p ≡ Some i → next_of (settle (arena c) i.residual) ≡ x
