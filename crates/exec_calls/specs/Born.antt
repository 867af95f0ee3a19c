-- A new instance with its handle.
use Rattle.std.specs.Prelude.{ℕ, length, Option}
use Rattle.flat_design.specs.declared.names.NameUse.{NameUse}
use Rattle.exec_data.specs.SimModel.Calls.{handle_stored}
use Rattle.exec_data.specs.SimModel.Configuration.{Config}
use Rattle.exec_data.specs.SimModel.Reading.{Here}
use Rattle.exec_data.specs.KernelState.Spawned.{with_offspring}
use Rattle.exec_data.specs.KernelState.declared.kernel.Offspring.{Offspring}

-- the configuration with the new instance, and with its handle in the variable that is named
abbrev pub brought_forth : Config → ℕ → Here → Option NameUse → Offspring → Config
brought_forth c p h handle o = handle_stored (with_offspring c (length c.processes.instances) o) p h handle (length c.processes.instances)
