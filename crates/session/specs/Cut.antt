-- How a session ends that is cut.
use Rattle.sim_io.specs.declared.outside.Trouble.{Trouble}
use Rattle.sim_io.specs.declared.outside.Trouble.TheVariants as trouble
use Rattle.vcd_trace.specs.SimModel.declared.plain.Stop.{Stop}
use Rattle.vcd_trace.specs.SimModel.declared.plain.Stop.TheVariants as stop

abbrev pub cut_by : Trouble → Stop
cut_by trouble.Failed = stop.WriteFault
cut_by trouble.NoMemory = stop.NoMemory
