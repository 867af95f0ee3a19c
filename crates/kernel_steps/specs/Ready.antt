-- What a step asks of its kernel.
use Rattle.exec_channels.specs.KernelState.Kernel.{whole_design}
use Rattle.exec_channels.specs.KernelState.declared.kernel.Kernel.{Kernel}
use Rattle.exec_control.specs.ExecData.Written.{NamesFit}
use Rattle.exec_transactions.specs.ExecEvents.Numbers.{NumbersEvents}

-- names stand for what is there, and events have numbers
pub record Ready (k : Kernel) : Type 0 where
  pub names : NamesFit (whole_design k)
  pub numbers : NumbersEvents (whole_design k)
