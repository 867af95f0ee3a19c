-- A statement that takes no memory answers as one that may.
use Rattle.std.proofs.Common.{ℕ, Result, Ok, Err}
use Rattle.flat_design.specs.declared.faults.RunFault.{RunFault}
use Rattle.exec_data.specs.SimModel.Residual.{Residual, settle}
use Rattle.exec_data.specs.SimModel.Configuration.{Config, Instance, arena}
use Rattle.exec_data.specs.SimModel.Statements.{settled_in}
use Rattle.exec_data.specs.KernelState.Moves.{Follows, Does}
use Rattle.exec_data.specs.KernelState.Stopping.{FollowsBut, NoFault, DoesOrStops}
use Rattle.exec_data.specs.KernelState.declared.stops.StatementStop.TheVariants as stop
use Rattle.exec_data.specs.KernelState.declared.kernel.Kernel.{Kernel}

module _ (k l : Kernel) (p : ℕ) (f : Config → ℕ → Instance → Residual → Result Config RunFault) where
  pub plain_stops : Does k l (Ok tt) p f → DoesOrStops k l (Ok tt) p f
  plain_stops does c i h there = by (f (settled_in c p i.residual) p (record i { residual = settle (arena c) i.residual }) (settle (arena c) i.residual)) (does c i h there)
    where
      by : (r : Result Config RunFault) → Follows l (Ok tt) c r → FollowsBut NoFault l (Ok tt) c r
      by (Ok d) follows = follows
      by (Err e) follows = follows

  pub fault_stops : (g : RunFault) → Does k l (Err g) p f → DoesOrStops k l (Err (stop.Fault g)) p f
  fault_stops g does c i h there = by (f (settled_in c p i.residual) p (record i { residual = settle (arena c) i.residual }) (settle (arena c) i.residual)) (does c i h there)
    where
      by : (r : Result Config RunFault) → Follows l (Err g) c r → FollowsBut NoFault l (Err (stop.Fault g)) c r
      by (Ok d) follows = follows
      by (Err e) follows = follows
