-- What a script text says: the commands of its lines in order, or the first line at which it says none.
use Rattle.std.specs.Prelude.{ℕ, suc, min, Bool, true, false, nat_lt, if◌then◌else◌, List, [], ◌∷◌, slice_get, bytes_eq, codes, Option, Some, None, option_map, option_and_then, Result, Ok, Err}
use Rattle.sim_model.specs.SimTime.declared.moments.Unit.{Unit as TimeUnit}
use Rattle.sim_model.specs.SimTime.declared.moments.Unit.TheVariants as unit
use Rattle.text_lines.specs.ModelLexer.Expressions.{unit_of}
use Rattle.text_lines.specs.Lines.{lines, words, is_comment, number_read, line_number}
use Rattle.script_text.specs.declared.forms.CommandForm.{CommandForm}
use Rattle.script_text.specs.declared.forms.CommandForm.TheVariants as form
use Rattle.script_text.specs.declared.forms.LineForm.{LineForm}
use Rattle.script_text.specs.declared.forms.LineForm.TheVariants as line
use Rattle.script_text.specs.declared.forms.TextCommand.{TextCommand}

-- the units of a script, of either language
abbrev pub script_unit : List ℕ → Option TimeUnit
script_unit x = if bytes_eq x (codes "fs") then Some unit.Fs else unit_of x

-- a number from 1 up
abbrev pub positive : ℕ → Option ℕ
positive n = if nat_lt 0 n then Some n else None

-- how long a run is, as it is written: a number from 1 to 2^64 - 1, and a unit
abbrev pub length_read : List ℕ → List ℕ → Option (ℕ × TimeUnit)
length_read number unit = option_and_then (λ n. option_map (λ u. (n, u)) (script_unit unit)) (option_and_then positive (number_read number))

-- a command where its word is the right one
abbrev pub command_if : Bool → CommandForm → LineForm
command_if true f = line.Command f
command_if false f = line.Unreadable

-- a run of so many units, where they are written
abbrev pub run_for : Option (ℕ × TimeUnit) → LineForm
run_for None = line.Unreadable
run_for (Some x) = line.Command (form.Run (Some x))

-- three words: `run NUM UNIT`, or `set PATH VALUE`
abbrev pub three_words : List ℕ → List ℕ → List ℕ → LineForm
three_words word second third =
    if bytes_eq word (codes "run") then run_for (length_read second third) else command_if (bytes_eq word (codes "set")) (form.Set second third)

-- a line of no words says nothing; the commands are `run`, `show PATH`, `run NUM UNIT` and `set PATH VALUE`
abbrev pub words_form : List (List ℕ) → LineForm
words_form [] = line.Blank
words_form (word ∷ []) = command_if (bytes_eq word (codes "run")) (form.Run None)
words_form (word ∷ path ∷ []) = command_if (bytes_eq word (codes "show")) (form.Show path)
words_form (word ∷ second ∷ third ∷ []) = three_words word second third
words_form (word ∷ second ∷ third ∷ fourth ∷ more) = line.Unreadable

-- what a line says
abbrev pub line_form : List ℕ → LineForm
line_form bytes = if is_comment bytes then line.Blank else words_form (words bytes)

-- the commands of lines numbered from n, each with its line
abbrev pub with_command : ℕ → LineForm → List TextCommand → List TextCommand
with_command n (line.Command f) later = (record { line = line_number n; form = f }) ∷ later
with_command n line.Blank later = later
with_command n line.Unreadable later = later

abbrev pub commands_from : ℕ → List (List ℕ) → List TextCommand
commands_from n [] = []
commands_from n (l ∷ ls) = with_command n (line_form l) (commands_from (suc n) ls)

-- the first of lines numbered from n that has none of the forms
abbrev pub unreadable_at : ℕ → LineForm → Option ℕ → Option ℕ
unreadable_at n line.Unreadable later = Some (line_number n)
unreadable_at n line.Blank later = later
unreadable_at n (line.Command f) later = later

abbrev pub unreadable_from : ℕ → List (List ℕ) → Option ℕ
unreadable_from n [] = None
unreadable_from n (l ∷ ls) = unreadable_at n (line_form l) (unreadable_from (suc n) ls)

-- the line of the command with this number, counted from 0
abbrev pub line_of_command : ℕ → List TextCommand → Option ℕ
line_of_command k cs = option_map (λ c. c.line) (slice_get cs k)

-- the earlier of two lines
abbrev pub earlier : Option ℕ → Option ℕ → Option ℕ
earlier None b = b
earlier (Some a) None = Some a
earlier (Some a) (Some b) = Some (min a b)

-- the commands where no line is at fault
abbrev pub unless : Option ℕ → List TextCommand → Result (List TextCommand) ℕ
unless None cs = Ok cs
unless (Some n) cs = Err n

-- the commands of numbered lines, or the first line that has none of the forms or holds the 4,097th command
abbrev pub read_lines : ℕ → List (List ℕ) → Result (List TextCommand) ℕ
read_lines n ls = unless (earlier (unreadable_from n ls) (line_of_command 4096 (commands_from n ls))) (commands_from n ls)

-- the commands of a script text, or the line at which it does not read
abbrev pub read_script : List ℕ → Result (List TextCommand) ℕ
read_script text = read_lines 1 (lines text)
