-- The bus of a text, or why it has none: the first of all its lines that has none of the forms, or else its first line with a fault.
use Rattle.std.specs.Prelude.{ℕ, suc, ◌+◌, Bool, true, false, ◌||◌, nat_le, nat_lt, if◌then◌else◌, List, [], ◌∷◌, ◌++◌, length, position, bytes_eq, codes, Option, Some, None, Result, Ok, Err}
use Rattle.std.specs.List.{list_any}
use Rattle.dmi_map.specs.declared.ranges.MapStop.{MapStop}
use Rattle.dmi_map.specs.declared.ranges.MapStop.TheVariants as map_stop
use Rattle.dmi_map.specs.Ranges.{range_of, refusal}
use Rattle.text_lines.specs.Lines.{lines, line_number}
use Rattle.text_lines.specs.declared.actions.BusAction.{BusAction}
use Rattle.text_lines.specs.declared.forms.LineForm.{LineForm}
use Rattle.text_lines.specs.declared.forms.LineForm.TheVariants as line
use Rattle.text_lines.specs.LineForms.{line_form}
use Rattle.traffic_file.specs.declared.Bus.{Bus}
use Rattle.traffic_file.specs.declared.BusTarget.{BusTarget}
use Rattle.traffic_file.specs.declared.BusInitiator.{BusInitiator}
use Rattle.traffic_file.specs.declared.BusLine.{BusLine}
use Rattle.traffic_file.specs.declared.judging.SoFar.{SoFar}
use Rattle.traffic_file.specs.declared.stops.BusKind.{BusKind}
use Rattle.traffic_file.specs.declared.stops.BusKind.TheVariants as kind
use Rattle.traffic_file.specs.declared.stops.BusStop.{BusStop}
use Rattle.traffic_file.specs.declared.stops.BusStop.TheVariants as stop

-- ---- names

abbrev pub is_target : List ℕ → BusTarget → Bool
is_target name target = bytes_eq target.name name

abbrev pub is_initiator : List ℕ → BusInitiator → Bool
is_initiator name initiator = bytes_eq initiator.name name

-- the name is that of a target or an initiator
abbrev pub is_declared : List ℕ → Bus → Bool
is_declared name bus = list_any (is_target name) bus.targets || list_any (is_initiator name) bus.initiators

-- which initiator has the name
abbrev pub initiator_named : List ℕ → Bus → Option ℕ
initiator_named name bus = position (is_initiator name) bus.initiators

-- ---- the fault of a line, behind lines that say so far

-- another target is one too many, or makes them more than 67,108,864 bytes
abbrev pub is_much : SoFar → ℕ → Bool
is_much so_far size = nat_le 256 (length so_far.bus.targets) || nat_lt 67108864 (so_far.bytes + size)

-- addresses that pass the last of 2^64 are too many; those of an earlier target overlap
abbrev pub range_fault : Option MapStop → Option BusKind
range_fault None = None
range_fault (Some map_stop.Range) = Some kind.TooMany
range_fault (Some (map_stop.Overlap other)) = Some kind.Overlap
range_fault (Some map_stop.NoMemory) = None

-- another access, or invalidation, is one too many
abbrev pub is_full : Bus → Bool
is_full bus = nat_le 4096 (length bus.lines + length bus.invalidates)

abbrev pub delay_fault : SoFar → Option BusKind
delay_fault so_far = if so_far.delayed then Some kind.DoubleName else None

abbrev pub target_fault : SoFar → List ℕ → ℕ → ℕ → Option BusKind
target_fault so_far name low size =
    if is_declared name so_far.bus then Some kind.DoubleName else (
    if is_much so_far size then Some kind.TooMany else range_fault (refusal so_far.bus.map low size))

abbrev pub initiator_fault : SoFar → List ℕ → Option BusKind
initiator_fault so_far name =
    if is_declared name so_far.bus then Some kind.DoubleName else (
    if nat_le 256 (length so_far.bus.initiators) then Some kind.TooMany else None)

abbrev pub full_fault : Bus → Option BusKind
full_fault bus = if is_full bus then Some kind.TooMany else None

abbrev pub access_fault : Bus → Option ℕ → Option BusKind
access_fault bus None = Some kind.UnknownName
access_fault bus (Some initiator) = full_fault bus

-- ---- what lines say with one line more

abbrev pub with_delay : SoFar → ℕ → SoFar
with_delay so_far delay = record so_far { bus = record so_far.bus { delay = delay }; delayed = true }

-- targets have numbers from 0 on; where one begins stands in the map alone
abbrev pub with_range : SoFar → ℕ → ℕ → SoFar
with_range so_far low size =
    record so_far { bus = record so_far.bus { map = so_far.bus.map ++ range_of low size (length so_far.bus.targets) ∷ [] } }

abbrev pub with_memory : SoFar → List ℕ → ℕ → ℕ → SoFar
with_memory so_far name size latency = record so_far {
  bus = record so_far.bus { targets = so_far.bus.targets ++ (record { name = name; size = size; latency = latency }) ∷ [] };
  bytes = so_far.bytes + size;
}

abbrev pub with_target : SoFar → List ℕ → ℕ → ℕ → ℕ → SoFar
with_target so_far name low size latency = with_memory (with_range so_far low size) name size latency

abbrev pub with_initiator : SoFar → List ℕ → Bool → SoFar
with_initiator so_far name dmi =
    record so_far { bus = record so_far.bus { initiators = so_far.bus.initiators ++ (record { name = name; dmi = dmi }) ∷ [] } }

abbrev pub with_line : SoFar → BusLine → SoFar
with_line so_far access = record so_far { bus = record so_far.bus { lines = so_far.bus.lines ++ access ∷ [] } }

abbrev pub with_access : SoFar → ℕ → ℕ → Option ℕ → ℕ → BusAction → SoFar
with_access so_far n time None address action = so_far
with_access so_far n time (Some initiator) address action =
    with_line so_far (record { line = line_number n; time = time; initiator = initiator; address = address; action = action })

abbrev pub with_invalidate : SoFar → ℕ → ℕ → ℕ → SoFar
with_invalidate so_far time low high =
    record so_far { bus = record so_far.bus { invalidates = so_far.bus.invalidates ++ (record { time = time; low = low; high = high }) ∷ [] } }

-- ---- line by line

-- the fault of line n, with its name, or what is said with that line
abbrev pub judged_so : ℕ → List ℕ → Option BusKind → SoFar → Result SoFar BusStop
judged_so n name None more = Ok more
judged_so n name (Some k) more = Err (stop.Refused k (line_number n) name)

-- what has none of the forms was refused before
abbrev pub judged : SoFar → ℕ → LineForm → Result SoFar BusStop
judged so_far n line.Blank = Ok so_far
judged so_far n line.Unreadable = Ok so_far
judged so_far n (line.Delay delay) = judged_so n (codes "delay") (delay_fault so_far) (with_delay so_far delay)
judged so_far n (line.Target name low size latency) = judged_so n name (target_fault so_far name low size) (with_target so_far name low size latency)
judged so_far n (line.Initiator name dmi) = judged_so n name (initiator_fault so_far name) (with_initiator so_far name dmi)
judged so_far n (line.Access time name address action) =
    judged_so n name (access_fault so_far.bus (initiator_named name so_far.bus)) (with_access so_far n time (initiator_named name so_far.bus) address action)
judged so_far n (line.Invalidate time low high) = judged_so n (codes "invalidate") (full_fault so_far.bus) (with_invalidate so_far time low high)

abbrev pub unless_refused : Result SoFar BusStop → (SoFar → Result SoFar BusStop) → Result SoFar BusStop
unless_refused (Ok so_far) rest = rest so_far
unless_refused (Err s) rest = Err s

-- the lines from number n on, behind those that say so far; the first fault decides
abbrev pub judged_from : SoFar → ℕ → List (List ℕ) → Result SoFar BusStop
judged_from so_far n [] = Ok so_far
judged_from so_far n (l ∷ ls) = unless_refused (judged so_far n (line_form l)) (λ next. judged_from next (suc n) ls)

-- the first line from number n on that has none of the forms
abbrev pub is_unreadable : LineForm → Bool
is_unreadable line.Unreadable = true
is_unreadable line.Blank = false
is_unreadable (line.Delay delay) = false
is_unreadable (line.Target name low size latency) = false
is_unreadable (line.Initiator name dmi) = false
is_unreadable (line.Access time name address action) = false
is_unreadable (line.Invalidate time low high) = false

abbrev pub unreadable_from : ℕ → List (List ℕ) → Option ℕ
unreadable_from n [] = None
unreadable_from n (l ∷ ls) = if is_unreadable (line_form l) then Some (line_number n) else unreadable_from (suc n) ls

-- ---- the whole text

-- before the first line: a delay of 1, and nothing else
abbrev pub first_so_far : SoFar
first_so_far = record { bus = record { delay = 1; targets = []; initiators = []; lines = []; invalidates = []; map = [] }; delayed = false; bytes = 0 }

abbrev pub bus_by : Option ℕ → Result SoFar BusStop → Result Bus BusStop
bus_by (Some n) r = Err (stop.Syntax n)
bus_by None (Err s) = Err s
bus_by None (Ok so_far) = Ok so_far.bus

abbrev pub bus_of : List ℕ → Result Bus BusStop
bus_of text = bus_by (unreadable_from 1 (lines text)) (judged_from first_so_far 1 (lines text))
