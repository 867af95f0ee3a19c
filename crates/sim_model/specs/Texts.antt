-- The report: the lines of the run, a final line for each object that has values to be seen, and the end line; and the text of
-- the choices.
use Rattle.std.specs.Prelude.{ℕ, ◌∷◌, List, [], ◌++◌, codes, slice_get, option_map, unwrap_or}
use Rattle.std.specs.List.{flat_map}
use Rattle.std.specs.Fmt.{decimal}
use Rattle.signal_channel.specs.LogicValues.ValueText.{text_of}
use Rattle.flat_design.specs.declared.design.Design.{Design}
use Rattle.flat_design.specs.declared.design.Hop.{Hop}
use Rattle.flat_design.specs.declared.design.Visible.{Visible}
use Rattle.flat_design.specs.declared.faults.RunFault.{RunFault}
use Rattle.flat_design.specs.declared.faults.RunFault.TheVariants as fault
use Rattle.sim_model.specs.Configuration.{Config, Told, line, turn, path_of}
use Rattle.sim_model.specs.Phases.{visible_value}
use Rattle.sim_model.specs.declared.plain.Log.{Log}
use Rattle.sim_model.specs.declared.plain.Log.TheVariants as log_of
use Rattle.sim_model.specs.declared.plain.Stop.{Stop}
use Rattle.sim_model.specs.declared.plain.Stop.TheVariants as stop

-- a taking is shown where the report tells the turns
abbrev pub shown : Log → Told → List ℕ
shown log (line text) = text
shown log_of.Prints (turn text) = []
shown log_of.Turns (turn text) = text

-- a final line: the path and the value
abbrev pub final_line : Config → Visible → List ℕ
final_line c v = codes "final " ++ path_of c.design v.object ++ codes " " ++ text_of (visible_value c v.id) ++ 10 ∷ []

abbrev pub final_lines : Config → List ℕ
final_lines c = flat_map (final_line c) c.design.visible

-- a word before a number
abbrev pub with_number : List ℕ → ℕ → List ℕ
with_number text n = text ++ 32 ∷ decimal n

-- a run fault and its fields: an exception by its name, and a hop by the path of its initiator
abbrev pub exception_name : Design → ℕ → List ℕ
exception_name d e = unwrap_or (slice_get d.exceptions e) []

abbrev pub hop_path : Design → ℕ → List ℕ
hop_path d n = unwrap_or (option_map (λ (h : Hop). path_of d h.initiator) (slice_get d.hops n)) []

abbrev pub fault_text : Design → RunFault → List ℕ
fault_text d (fault.WriterConflict one two) = with_number (with_number (codes "WriterConflict") one) two
fault_text d fault.DivideByZero = codes "DivideByZero"
fault_text d (fault.IndexRange index size) = with_number (with_number (codes "IndexRange") index) size
fault_text d fault.TimeOverflow = codes "TimeOverflow"
fault_text d (fault.Uncaught e) = codes "Uncaught " ++ exception_name d e
fault_text d (fault.ControlOnActive serial) = with_number (codes "ControlOnActive") serial
fault_text d fault.EmptyHandle = codes "EmptyHandle"
fault_text d (fault.PayloadFreed serial) = with_number (codes "PayloadFreed") serial
fault_text d fault.TooManyPayloads = codes "TooManyPayloads"
fault_text d fault.TooManyInstances = codes "TooManyInstances"
fault_text d fault.FrameDepth = codes "FrameDepth"
fault_text d (fault.Protocol rule hop serial) = with_number (codes "Protocol P" ++ decimal rule ++ codes " " ++ hop_path d hop) serial

-- the end line: how the session ended, and when; a session that was cut has none
abbrev pub end_line : Design → ℕ → Stop → List ℕ
end_line d now stop.Done = codes "end done " ++ decimal now ++ 10 ∷ []
end_line d now stop.Stopped = codes "end stopped " ++ decimal now ++ 10 ∷ []
end_line d now stop.Budget = codes "end budget " ++ decimal now ++ 10 ∷ []
end_line d now (stop.Replay place) = with_number (codes "end replay " ++ decimal now) place ++ 10 ∷ []
end_line d now (stop.Fault f) = codes "end fault " ++ decimal now ++ codes " " ++ fault_text d f ++ 10 ∷ []
end_line d now stop.WriteFault = []
end_line d now stop.NoMemory = []

-- what follows the lines of the run once the session has ended
abbrev pub closing : Config → Stop → List ℕ
closing c s = final_lines c ++ end_line c.design c.cycle.now s

abbrev pub report : Log → Config → Stop → List ℕ
report log c s = flat_map (shown log) c.trace.told ++ closing c s

-- the choices: one serial a line
abbrev pub choice_text : List ℕ → List ℕ
choice_text choices = flat_map (λ p. decimal p ++ 10 ∷ []) choices
