-- What a statement that may be at fault, and may take memory, answers.
use Rattle.std.specs.Prelude.{◌≡◌, ℕ, Some, Result, Ok, Err}
use Rattle.kernel_processes.specs.FlatDesign.declared.faults.RunFault.{RunFault}
use Rattle.kernel_processes.specs.SimModel.Residual.{Residual, settle}
use Rattle.kernel_processes.specs.SimModel.Configuration.{Config, Instance, instance_at, arena}
use Rattle.kernel_processes.specs.SimModel.Statements.{settled_in}
use Rattle.kernel_state.specs.Kernel.{StandsFor}
use Rattle.kernel_state.specs.declared.kernel.Kernel.{Kernel}
use Rattle.kernel_state.specs.declared.stops.StatementStop.{StatementStop}
use Rattle.kernel_state.specs.declared.stops.StatementStop.TheVariants as stop

-- A run fault is answered as it is. Memory is refused only where there is no fault, but for those that are judged behind the
-- memory. Neither changes anything.
abbrev pub FollowsBut : (RunFault → Type 0) → Kernel → Result Unit StatementStop → Config → Result Config RunFault → Type 0
FollowsBut IsBehind new (Ok u) c (Ok d) = StandsFor new d
FollowsBut IsBehind new (Ok u) c (Err f) = ⊥
FollowsBut IsBehind new (Err (stop.Fault g)) c (Ok d) = ⊥
FollowsBut IsBehind new (Err (stop.Fault g)) c (Err f) = (g ≡ f) × StandsFor new c
FollowsBut IsBehind new (Err stop.NoMemory) c (Ok d) = StandsFor new c
FollowsBut IsBehind new (Err stop.NoMemory) c (Err f) = IsBehind f × StandsFor new c

-- a step of an instance by a statement that may be at fault, and may take memory
abbrev pub DoesBut : (RunFault → Type 0) → Kernel → Kernel → Result Unit StatementStop → ℕ → (Config → ℕ → Instance → Residual → Result Config RunFault) → Type 0
DoesBut IsBehind old new answer p f = (c : Config) (i : Instance) → StandsFor old c → instance_at c p ≡ Some i
    → FollowsBut IsBehind new answer c (f (settled_in c p i.residual) p (record i { residual = settle (arena c) i.residual }) (settle (arena c) i.residual))

-- no fault at all
abbrev pub NoFault : RunFault → Type 0
NoFault f = ⊥

-- each fault is judged before memory is asked for
abbrev pub DoesOrStops : Kernel → Kernel → Result Unit StatementStop → ℕ → (Config → ℕ → Instance → Residual → Result Config RunFault) → Type 0
DoesOrStops = DoesBut NoFault
