-- The end of a call, by the statement that called.
use Rattle.std.specs.Prelude.{◌≡◌, ℕ, Option, Some, None, Result}
use Rattle.flat_design.specs.Code as code
use Rattle.flat_design.specs.Code.{Arena, Term, Statement, arena_of, statement_at}
use Rattle.flat_design.specs.declared.faults.RunFault.{RunFault}
use Rattle.flat_design.specs.declared.names.NameUse.{NameUse}
use Rattle.flat_design.specs.declared.code.Store.{Store as Target}
use Rattle.exec_data.specs.SimModel.Residual as residual
use Rattle.exec_data.specs.SimModel.Residual.{Frame, settle, next_of}
use Rattle.exec_data.specs.SimModel.Configuration.{Config, Instance, instance_at, arena}
use Rattle.exec_data.specs.SimModel.Reading.{here}
use Rattle.exec_data.specs.SimModel.Statements.{settled_in, leaves_call, handed_back}
use Rattle.exec_data.specs.ProcessBodies.Bodies as bodies
use Rattle.exec_data.specs.KernelState.Kernel.{StandsFor}
use Rattle.exec_data.specs.KernelState.Moves.{KeptAt, Follows}
use Rattle.exec_data.specs.KernelState.declared.kernel.Kernel.{Kernel}

-- the step in which a call of instance p ends: its frame is gone, and what is handed back is stored
abbrev pub LeavesBy : Kernel → Kernel → Result Unit RunFault → ℕ → Type 0
LeavesBy old new answer p = (c : Config) (i : Instance) → StandsFor old c → instance_at c p ≡ Some i → (x : Frame) → next_of (settle (arena c) i.residual) ≡ residual.leaves x
    → Follows new answer c (leaves_call (settled_in c p i.residual) p (record i { residual = settle (arena c) i.residual }) (settle (arena c) i.residual) x)

-- a call x of instance p whose frame is gone hands back to this statement, if there was one
abbrev pub HandsBack : Kernel → Kernel → Result Unit RunFault → ℕ → Frame → Option Statement → Type 0
HandsBack old new answer p x s = (c : Config) (i : Instance) → StandsFor old c → instance_at c p ≡ Some i → Follows new answer c (handed_back c p (here c p i i.residual) x s)

-- the statement of this number, where there is one
abbrev pub statement_if : Arena → Option ℕ → Option Statement
statement_if a None = None
statement_if a (Some s) = statement_at a s

-- where a call of instance p ends next, this is true of the statement that called, if there was one
abbrev pub CalledBy : Kernel → ℕ → (Option Statement → Type 0) → Type 0
CalledBy k p P = KeptAt k p (λ kept. (x : Frame) → next_of (bodies.settled_in k.program.now kept.body) ≡ residual.leaves x → P (statement_if (arena_of k.program.now.code) x.call))

-- no transport call
pub record IsNoTransport (s : Option Statement) : Type 0 where
  pub blocking : (socket : ℕ) (payload time : NameUse) → s ≡ Some (code.b_transport socket payload time) → ⊥
  pub nonblocking : (target : Option Target) (socket : ℕ) (payload phase time : NameUse) → s ≡ Some (code.nb_transport target socket payload phase time) → ⊥
