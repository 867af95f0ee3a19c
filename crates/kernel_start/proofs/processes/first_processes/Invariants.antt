use Rattle.std.proofs.Common.{◌≡◌, take}
use Rattle.kernel_start.specs.Made.{IsMade, AddsAll}
use Rattle.kernel_start.proofs.processes.first_processes.Given as goal

-- the first processes are added
abbrev pub invariant-loop-part : goal.invariant-loop-part
invariant-loop-part l = AddsAll l.program (take l.part-index l.parts) l.s × (IsMade l.program l.s × (l.s.table.next ≡ l.part-index))
