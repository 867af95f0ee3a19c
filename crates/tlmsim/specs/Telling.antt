-- What the telling of a refusal leaves on `err`, and the status that it gives.
use Rattle.std.specs.Prelude.{◌≡◌, ◌≤◌, ◌<◌, ◌⊎◌, ◌++◌, ℕ, List, Option, length, take}
use Rattle.session.specs.SimIo.Contents.{Grew}
use Rattle.session.specs.SimIo.Cause.{Rose}
use Rattle.session.specs.Fronts.{WroteFront}
use Rattle.command_line.specs.SimModel.declared.plain.Stop.{Stop}
use Rattle.command_line.specs.SimModel.declared.plain.Stop.TheVariants as stop
use Rattle.command_line.specs.declared.modes.WordsStop.{WordsStop}
use Rattle.command_line.specs.declared.modes.WordsStop.TheVariants as words_stop
use Rattle.run_input.specs.ResultTexts.ErrLines.{err_line, write_line, memory_line}
use Rattle.run_input.specs.ResultTexts.declared.refusals.Refusal.{Refusal}
use Rattle.run_input.specs.ResultTexts.declared.refusals.Refusal.TheVariants as refusal

-- the status of a refusal
abbrev pub refusal_status : Refusal → ℕ
refusal_status refusal.Usage = 1
refusal_status (refusal.Read file) = 2
refusal_status (refusal.Model f) = 3
refusal_status (refusal.Script f) = 4
refusal_status (refusal.Replay at) = 4
refusal_status (refusal.Bus f) = 3
refusal_status (refusal.TooLarge file) = 10

-- a front of a line that lacks a byte, and behind it a front of the line that says what cut the first
abbrev pub WroteCut : Option (List ℕ) → Option (List ℕ) → List ℕ → List ℕ → Type 0
WroteCut old new line cause = (count : ℕ) × (more : ℕ) × (count < length line) × (more ≤ length cause) × Grew old new (take count line ++ take more cause)

-- the line of a refusal was written; or it was cut by a write that failed, or for want of memory
abbrev pub Tells : Refusal → Option (List ℕ) → Option (List ℕ) → ℕ → ℕ → ℕ → Type 0
Tells r old new faults faults' status =
    ((status ≡ refusal_status r) × Grew old new (err_line r)) ⊎
    (((status ≡ 7) × Rose faults faults' × WroteCut old new (err_line r) write_line) ⊎ ((status ≡ 8) × WroteCut old new (err_line r) memory_line))

-- where the words cannot be had: that one of them is no text is told as words that are refused; want of memory has its own line, as far
-- as it could be written
abbrev pub TellsWithout : WordsStop → Option (List ℕ) → Option (List ℕ) → ℕ → ℕ → ℕ → Type 0
TellsWithout words_stop.Usage old new faults faults' status = Tells refusal.Usage old new faults faults' status
TellsWithout words_stop.NoMemory old new faults faults' status = (status ≡ 8) × WroteFront old new memory_line

-- a session that was cut is told of by a front of a line, and of any other `err` is as it was
abbrev pub TellsStop : Stop → Option (List ℕ) → Option (List ℕ) → Type 0
TellsStop stop.WriteFault old new = WroteFront old new write_line
TellsStop stop.NoMemory old new = WroteFront old new memory_line
TellsStop stop.Done old new = new ≡ old
TellsStop stop.Stopped old new = new ≡ old
TellsStop stop.Budget old new = new ≡ old
TellsStop (stop.Replay place) old new = new ≡ old
TellsStop (stop.Fault f) old new = new ≡ old
