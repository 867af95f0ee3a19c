-- What a call asks of the body of an instance, and what it leaves alone.
use Rattle.std.specs.Prelude.{◌≡◌, ◌≢◌, ◌<◌, ◌≤◌, ℕ, Some, Result, Ok, Err}
use Rattle.std.specs.Vec.{vec_capacity}
use Rattle.std.specs.Global.{Vec}
use Rattle.exec_data.specs.LogicValues.declared.kinds.Value.{Value}
use Rattle.flat_design.specs.Code.{arena_of}
use Rattle.flat_design.specs.declared.faults.RunFault.{RunFault}
use Rattle.flat_design.specs.declared.faults.RunFault.TheVariants as fault
use Rattle.exec_data.specs.SimModel.Residual as residual
use Rattle.exec_data.specs.SimModel.Residual.{Frame, Next, next_of, settle, open_frames}
use Rattle.exec_data.specs.SimModel.Configuration.{Config, Instance, instance_at, arena}
use Rattle.exec_data.specs.SimModel.Calls.{frame_limit, may_enter}
use Rattle.exec_data.specs.KernelBodies.declared.program.Program.{Program}
use Rattle.exec_data.specs.KernelBodies.declared.layers.Next.TheVariants as next
use Rattle.exec_data.specs.KernelBodies.Room.{locals_with}
use Rattle.exec_data.specs.ProcessBodies.Bodies.{left_in, settled_in, next_in, HasRoomFor}
use Rattle.exec_data.specs.ProcessState.declared.starting.EnterStop.{EnterStop}
use Rattle.exec_data.specs.ProcessState.declared.starting.EnterStop.TheVariants as stop
use Rattle.exec_data.specs.KernelProcesses.InstanceViews.{body_at as kept_at}
use Rattle.exec_data.specs.KernelState.Kernel.{StandsFor}
use Rattle.exec_data.specs.KernelState.Moves.{KeptAt}
use Rattle.exec_data.specs.KernelState.declared.kernel.Kept.{Kept}
use Rattle.exec_data.specs.KernelState.declared.kernel.Kernel.{Kernel}

-- this comes next in the body of instance p, whatever the kernel stands for
abbrev pub ComesNext : Kernel → ℕ → Next → Type 0
ComesNext k p x = (c : Config) (i : Instance) → StandsFor k c → instance_at c p ≡ Some i → next_of (settle (arena c) i.residual) ≡ x

-- the end of a call comes next in it
abbrev pub Leaves : Kernel → ℕ → Type 0
Leaves k p = KeptAt k p (λ kept. next_in k.program.now kept.body ≡ next.Leave)

-- and this is the call that ends
abbrev pub EndsNext : Kernel → ℕ → Frame → Type 0
EndsNext k p x = KeptAt k p (λ kept. next_of (settled_in k.program.now kept.body) ≡ residual.leaves x)

-- A call of code f can be entered in the body of instance p, and takes no memory but for its local variables: there is room for
-- its layers, and fewer calls are open than may be.
pub record ReadyFor (k : Kernel) (p f : ℕ) : Type 0 where
  pub room : KeptAt k p (λ kept. HasRoomFor k.program.now kept.body f)
  pub shallow : KeptAt k p (λ kept. open_frames (settled_in k.program.now kept.body) < frame_limit)

-- the arguments have room for all local variables of code f
abbrev pub HasRoomIn : Program → ℕ → Vec Value → Type 0
HasRoomIn program f arguments = locals_with (arena_of program.code) f arguments.items ≤ vec_capacity arguments

-- Too deep is answered exactly where a run is at fault, so that memory is refused only where a call may be entered.
abbrev pub TellsDepth : Result Unit EnterStop → Result Unit RunFault → Type 0
TellsDepth (Ok u) may = may ≡ Ok tt
TellsDepth (Err stop.TooDeep) may = may ≡ Err fault.FrameDepth
TellsDepth (Err stop.NoMemory) may = may ≡ Ok tt

-- this answers whether one more call may be entered in the body of instance p
abbrev pub JudgesDepth : Kernel → ℕ → Result Unit EnterStop → Type 0
JudgesDepth k p answer = (c : Config) (i : Instance) → StandsFor k c → instance_at c p ≡ Some i → TellsDepth answer (may_enter (settle (arena c) i.residual))

-- of a kernel only the body of instance p is another
pub record ChangesBody (p : ℕ) (old new : Kernel) : Type 0 where
  pub bodies : (q : ℕ) → q ≢ p → kept_at new.schedule q ≡ kept_at old.schedule q
  pub stack : new.schedule.stack ≡ old.schedule.stack
  pub parts : new ≡ record old { schedule = new.schedule }

-- what is left of the body of instance p stays
abbrev pub KeepsLeft : ℕ → Kernel → Kernel → Type 0
KeepsLeft p old new = (a b : Kept) → kept_at old.schedule p ≡ Some a → kept_at new.schedule p ≡ Some b → left_in new.program.now b.body ≡ left_in old.program.now a.body
