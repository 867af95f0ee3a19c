-- An answer that is a definition's, but where it is out of memory.
use Rattle.std.specs.Prelude.{◌≡◌, ◌⊎◌, ℕ, List, Result, Ok, Err, ⊤}
use Rattle.traffic_file.specs.declared.stops.BusKind.{BusKind}
use Rattle.traffic_file.specs.declared.stops.BusStop.{BusStop}
use Rattle.traffic_file.specs.declared.stops.BusStop.TheVariants as stop

-- of a line with none of the forms
abbrev pub IfSyntax : BusStop → (ℕ → Type 0) → Type 0
IfSyntax (stop.Syntax line) P = P line
IfSyntax (stop.Refused kind line name) P = ⊤
IfSyntax stop.NoMemory P = ⊤

-- of a line with a fault
abbrev pub IfRefused : BusStop → (BusKind → ℕ → List ℕ → Type 0) → Type 0
IfRefused (stop.Syntax line) P = ⊤
IfRefused (stop.Refused kind line name) P = P kind line name
IfRefused stop.NoMemory P = ⊤

-- a value or a refusal is the defined one
abbrev pub IsJudgedAs : {T : Type 0} → Result T BusStop → Result T BusStop → Type 0
IsJudgedAs (Ok v) wanted = wanted ≡ Ok v
IsJudgedAs (Err (stop.Syntax line)) wanted = wanted ≡ Err (stop.Syntax line)
IsJudgedAs (Err (stop.Refused kind line name)) wanted = wanted ≡ Err (stop.Refused kind line name)
IsJudgedAs (Err stop.NoMemory) wanted = ⊤

-- the refusal, or want of memory
abbrev pub IsRefusedSo : {T : Type 0} → Result T BusStop → BusStop → Type 0
IsRefusedSo result wanted = (result ≡ Err wanted) ⊎ (result ≡ Err stop.NoMemory)
