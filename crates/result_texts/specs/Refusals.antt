-- The line that says why a traffic file is refused.
use Rattle.std.specs.Prelude.{ℕ, List, ◌++◌, codes}
use Rattle.std.specs.Fmt.{decimal}
use Rattle.bus_router.specs.TrafficFile.declared.stops.BusKind.{BusKind}
use Rattle.bus_router.specs.TrafficFile.declared.stops.BusKind.TheVariants as kind
use Rattle.bus_router.specs.TrafficFile.declared.stops.BusStop.{BusStop}
use Rattle.bus_router.specs.TrafficFile.declared.stops.BusStop.TheVariants as stop

abbrev pub kind_word : BusKind → List ℕ
kind_word kind.DoubleName = codes "DoubleName"
kind_word kind.UnknownName = codes "UnknownName"
kind_word kind.TooMany = codes "TooMany"
kind_word kind.Overlap = codes "Overlap"

-- of a line with none of the forms, of a line with a fault, and where there is no memory
abbrev pub refusal_line : BusStop → List ℕ
refusal_line (stop.Syntax line) = codes "bus " ++ decimal line ++ codes " Syntax\n"
refusal_line (stop.Refused k line name) = codes "bus " ++ decimal line ++ codes " " ++ kind_word k ++ codes " " ++ name ++ codes "\n"
refusal_line stop.NoMemory = codes "no memory\n"
