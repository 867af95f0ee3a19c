-- The parts that a kernel begins with, together.
use Rattle.std.proofs.Common.{◌≡◌, ◌≤◌, ℕ, List, [], length, map, replicate, Option, None, refl, sym, ap, ◌∙◌, subst, arith}
use Rattle.std.specs.Borrow.{Bor}
use Rattle.kernel_state.specs.InstanceTable.declared.TheConstants.{MAX_LIVE}
use Rattle.kernel_state.specs.EventCore.declared.notifications.Pending.TheVariants as pending
use Rattle.kernel_state.specs.QuantumKeeper.Keepers.{at_start}
use Rattle.kernel_state.specs.FlatDesign.declared.design.Design.{Design}
use Rattle.kernel_state.specs.FlatDesign.declared.design.ProcessPart.{ProcessPart}
use Rattle.kernel_state.specs.FlatDesign.declared.design.VariablePart.{VariablePart}
use Rattle.kernel_state.specs.FlatDesign.declared.design.MemoryPart.{MemoryPart}
use Rattle.kernel_state.specs.SimModel.Configuration.{start, first_channels, first_instance}
use Rattle.kernel_state.specs.SimModel.declared.plain.Command.{Command}
use Rattle.kernel_state.specs.KernelBodies.declared.program.Program.{Program}
use Rattle.kernel_state.specs.KernelProcesses.declared.parts.Schedule.{Schedule}
use Rattle.kernel_state.specs.KernelTransactions.Board.{StandsForTransactions, StandsForQuantum, IsWithin}
use Rattle.kernel_state.specs.Processes.{StandsForProcesses}
use Rattle.kernel_state.specs.Kernel.{Shows, StandsFor, IsSound, cycle_of}
use Rattle.kernel_state.specs.declared.kernel.Cycle.{Cycle}
use Rattle.kernel_state.specs.declared.kernel.Kept.{Kept}
use Rattle.kernel_state.specs.declared.kernel.Kernel.{Kernel}
use Rattle.kernel_start.specs.Made.{IsMade, AddsAll, first_cycle, no_parents}
use Rattle.kernel_start.specs.declared.parts.First.{First}

module _ (x : Design) (program : Bor Program) (cycle : Cycle) (s : Schedule Kept) (f : First) where
  abbrev pub together : Kernel
  together = record { design = x; program = program; cycle = cycle; schedule = s; parents = f.parents; events = f.events; channels = f.channels; transactions = f.transactions; variables = f.variables; memories = f.memories; made = 0 }

  -- the design with this code
  abbrev pub whole : Design
  whole = record x { code = program.now.code }

  module _ (first : cycle_of cycle ≡ first_cycle)
      (ps : List ProcessPart) (processes : AddsAll program.now ps s) (listed : ps ≡ x.processes)
      (parents : f.parents.items ≡ no_parents x.processes)
      (events : f.events ≡ replicate x.events pending.Nothing) (channels : f.channels ≡ first_channels x)
      (transactions : StandsForTransactions f.transactions (record { pool = []; hops = replicate (length x.hops) [] })) (quantum : StandsForQuantum f.transactions (record { keepers = replicate x.keepers at_start; global = 0 }))
      (variables : f.variables.items ≡ map (λ (p : VariablePart). p.initial) x.variables) (memories : f.memories.items ≡ map (λ (p : MemoryPart). replicate p.size 0) x.memories) where
    first_parents : List (Option ℕ)
    first_parents = map (λ (p : ProcessPart). None) x.processes

    first_ones : StandsForProcesses (Shows whole program.now) s (record { runnable = []; stack = []; instances = map (first_instance whole) x.processes; parents = first_parents })
    first_ones = subst (λ ys. StandsForProcesses (Shows whole program.now) s (record { runnable = []; stack = []; instances = map (first_instance whole) ys; parents = first_parents })) listed
        (processes whole first_parents refl)

    pub first_stands : (script : List Command) → StandsFor together (start whole script)
    unfolding first_parents
    first_stands script = record {
      design = refl;
      cycle = sym first;
      processes = first_ones;
      parents = sym parents;
      events = sym events;
      channels = sym channels;
      transactions = transactions;
      quantum = quantum;
      variables = sym variables;
      memories = sym memories;
    }

  pub first_sound : (ps : List ProcessPart) → IsMade program.now s → s.table.next ≡ length ps → length ps ≤ MAX_LIVE → IsWithin 0 f.transactions → IsSound together
  first_sound ps made next few within = record {
    schedule = made.schedule;
    bodies = made.bodies;
    nobody_due = made.nobody_due;
    serials = omega (arith, next, few);
    payloads = within;
  }
