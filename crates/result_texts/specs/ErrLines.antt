-- The line that `err` gets for a refusal of the input, and the two for a run that was cut.
use Rattle.std.specs.Prelude.{ℕ, List, ◌++◌, codes}
use Rattle.std.specs.Fmt.{decimal}
use Rattle.bus_router.specs.TrafficFile.declared.stops.BusStop.{BusStop}
use Rattle.result_texts.specs.Refusals.{refusal_line}
use Rattle.result_texts.specs.KindWords.{kind_word}
use Rattle.result_texts.specs.declared.refusals.ModelFault.{ModelFault}
use Rattle.result_texts.specs.declared.refusals.ModelFault.TheVariants as model_fault
use Rattle.result_texts.specs.declared.refusals.ScriptFault.{ScriptFault}
use Rattle.result_texts.specs.declared.refusals.ScriptFault.TheVariants as script_fault
use Rattle.result_texts.specs.declared.refusals.Refusal.{Refusal}
use Rattle.result_texts.specs.declared.refusals.Refusal.TheVariants as refusal

-- a text at fault: which one, the line, the word of what is wrong there, and the name concerned
abbrev pub fault_line : List ℕ → ℕ → List ℕ → List ℕ → List ℕ
fault_line source line word name = source ++ codes " " ++ decimal line ++ codes " " ++ word ++ codes " " ++ name ++ codes "\n"

-- a text that does not read: which one, and the line that says so
abbrev pub syntax_line : List ℕ → ℕ → List ℕ
syntax_line source line = source ++ codes " " ++ decimal line ++ codes " Syntax\n"

abbrev pub model_line : ModelFault → List ℕ
model_line (model_fault.Syntax line) = syntax_line (codes "model") line
model_line (model_fault.Rule f) = fault_line (codes "model") f.line (kind_word f.kind) f.name

abbrev pub script_line : ScriptFault → List ℕ
script_line (script_fault.Syntax line) = syntax_line (codes "script") line
script_line (script_fault.Command f) = fault_line (codes "script") f.line (kind_word f.kind) f.name

-- a replay text that is no list of serials
abbrev pub replay_line : ℕ → List ℕ
replay_line line = syntax_line (codes "replay") line

-- a traffic file with a line that does not read, or is at fault
abbrev pub bus_line : BusStop → List ℕ
bus_line stop = refusal_line stop

-- words that are refused, a file that could not be read, and one that is too large
abbrev pub usage_line : List ℕ
usage_line = codes "usage: tlmsim MODEL SCRIPT [options]\n"

abbrev pub read_line : List ℕ → List ℕ
read_line file = codes "read fault " ++ file ++ codes "\n"

abbrev pub large_line : List ℕ → List ℕ
large_line file = codes "too large " ++ file ++ codes "\n"

-- the line of a refusal
abbrev pub err_line : Refusal → List ℕ
err_line refusal.Usage = usage_line
err_line (refusal.Read file) = read_line file
err_line (refusal.Model f) = model_line f
err_line (refusal.Script f) = script_line f
err_line (refusal.Replay line) = replay_line line
err_line (refusal.Bus stop) = bus_line stop
err_line (refusal.TooLarge file) = large_line file

-- a run that was cut: by a write that failed, and for want of memory
abbrev pub write_line : List ℕ
write_line = codes "write fault\n"

abbrev pub memory_line : List ℕ
memory_line = codes "no memory\n"
