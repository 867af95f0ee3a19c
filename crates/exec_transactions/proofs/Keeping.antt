-- The quantum keepers of a kernel move.
use Rattle.std.proofs.Common.{◌≡◌, ℕ, Some, Result, Ok, refl, sym, subst}
use Rattle.flat_design.specs.declared.faults.RunFault.{RunFault}
use Rattle.exec_calls.specs.SimModel.Residual.{settle}
use Rattle.exec_calls.specs.SimModel.Configuration.{Config, Instance, Quantum, instance_at, arena}
use Rattle.exec_calls.specs.SimModel.Statements.{settled_in}
use Rattle.exec_calls.specs.SimModel.Storing.{passes}
use Rattle.exec_calls.specs.KernelTransactions.Board.{StandsForQuantum, SameTransactions, quantum_of}
use Rattle.exec_calls.specs.KernelTransactions.declared.TransactionBoard.{TransactionBoard}
use Rattle.exec_calls.specs.KernelState.Kernel.{StandsFor, IsSound}
use Rattle.exec_calls.specs.KernelState.Moves.{Steps, Follows}
use Rattle.exec_calls.specs.KernelState.declared.kernel.Kernel.{Kernel}

module _ (k : Kernel) (b : TransactionBoard) (same : SameTransactions k.transactions b) where
  quantum_moves : (c : Config) → StandsFor k c → (x : Quantum) → StandsForQuantum b x → StandsFor (record k { transactions = b }) (record c { quantum = x })
  quantum_moves c h x stands = record {
    design = h.design;
    cycle = h.cycle;
    processes = h.processes;
    parents = h.parents;
    events = h.events;
    channels = h.channels;
    transactions = same.stands c.transactions h.transactions;
    quantum = stands;
    variables = h.variables;
    memories = h.memories;
  }

  pub quantum_sound : IsSound k → IsSound (record k { transactions = b })
  quantum_sound sound = record {
    schedule = sound.schedule;
    bodies = sound.bodies;
    nobody_due = sound.nobody_due;
    serials = sound.serials;
    payloads = same.within k.made sound.payloads;
  }

  -- a keeper moves, and the statement is past
  pub keeper_does : (p : ℕ) (l : Kernel) → Steps (record k { transactions = b }) l p (λ c q i r. passes c q r) → (c : Config) (i : Instance) → StandsFor k c → instance_at c p ≡ Some i
      → (o : Result Config RunFault) → o ≡ Ok (record (passes (settled_in c p i.residual) p (settle (arena c) i.residual)) { quantum = quantum_of b }) → Follows l (Ok tt) c o
  keeper_does p l next c i h there o is = subst (Follows l (Ok tt) c) (sym is) (next (record c { quantum = quantum_of b }) i (quantum_moves c h (quantum_of b) refl) there)
