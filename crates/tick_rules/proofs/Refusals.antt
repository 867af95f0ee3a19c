-- What a refusal says.
use Rattle.model_tree.specs.Stops.{IfRefused}
use Rattle.model_tree.specs.declared.faults.CheckStop.{CheckStop}
use Rattle.model_tree.specs.declared.faults.CheckStop.TheVariants as stop
use Rattle.model_tree.specs.declared.faults.Fault.{Fault}

-- it says whatever follows of its fault
pub refused_as : (s : CheckStop) (P Q : Fault → Type 0) → ((f : Fault) → P f → Q f) → IfRefused s P → IfRefused s Q
refused_as (stop.Refused f) P Q g h = g f h
refused_as stop.NoMemory P Q g h = tt
