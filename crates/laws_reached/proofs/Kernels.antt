-- The design of a kernel that stands for a configuration of a run.
use Rattle.std.proofs.Common.{◌<◌, ◌-◌, ◌^◌, false, subst}
use Rattle.flat_design.specs.Sound.{SoundDesign}
use Rattle.laws_runs.specs.SimModel.Configuration.{Config}
use Rattle.kernel_phases.specs.KernelState.Kernel.{StandsFor, whole_design}
use Rattle.kernel_phases.specs.KernelState.declared.kernel.Kernel.{Kernel}
use Rattle.exec_control.specs.ExecData.Written.{NamesFit}
use Rattle.exec_events.specs.Numbers.{NumbersEvents}
use Rattle.exec_events.proofs.Numbered.{sound_numbers}
use Rattle.laws_reached.specs.Reached.{IsReached}
use Rattle.laws_reached.proofs.Reaching.{design-sound}

pub kernel-design : (k : Kernel) (c : Config) → StandsFor k c → IsReached c → SoundDesign (whole_design k)
kernel-design k c h r = subst (λ d. SoundDesign d) h.design (design-sound c r)

pub kernel-names : (k : Kernel) (c : Config) → StandsFor k c → IsReached c → NamesFit (whole_design k)
kernel-names k c h r = let s = kernel-design k c h r in record { names = s.names; ports = s.ports }

pub kernel-numbers : (k : Kernel) (c : Config) → StandsFor k c → IsReached c → k.design.events < 2 ^ 32 - 1 → NumbersEvents (whole_design k)
kernel-numbers k c h r few = sound_numbers (whole_design k) (kernel-design k c h r) few
