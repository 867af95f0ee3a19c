-- Where what is left of an instance stands, as it is.
use Rattle.std.specs.Prelude.{◌≡◌, ℕ, Some}
use Rattle.exec_data.specs.SimModel.Configuration.{Config, Instance, instance_at}
use Rattle.exec_data.specs.SimModel.Reading.{here}
use Rattle.exec_data.specs.KernelState.Kernel.{StandsFor}
use Rattle.exec_data.specs.KernelState.declared.kernel.Kernel.{Kernel}

-- this is the number, among the instances of modules, of the one in which what is left of instance p stands
abbrev pub StandsIn : Kernel → ℕ → ℕ → Type 0
StandsIn k p home = (c : Config) (i : Instance) → StandsFor k c → instance_at c p ≡ Some i → home ≡ (here c p i i.residual).home
