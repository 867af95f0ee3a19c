-- A text that is being read: the commands so far, and the lines that are left.
use Rattle.std.specs.Prelude.{ℕ, suc, ◌≡◌, List, ◌∷◌, ◌++◌, Result, Err}
use Rattle.script_text.specs.declared.forms.TextCommand.{TextCommand}
use Rattle.script_text.specs.ScriptText.{line_of_command, earlier, unless, unreadable_from, commands_from}

-- what the whole text reads as, where lines numbered from n are left behind these commands
abbrev pub reads_on : List TextCommand → ℕ → List (List ℕ) → Result (List TextCommand) ℕ
reads_on list n ls =
    unless (earlier (unreadable_from n ls) (line_of_command 4096 (list ++ commands_from n ls))) (list ++ commands_from n ls)

-- the line leaves these commands, whatever lines are behind it
abbrev pub GoesOn : List TextCommand → ℕ → List ℕ → List TextCommand → Type 0
GoesOn list n line more = (ls : List (List ℕ)) → reads_on list n (line ∷ ls) ≡ reads_on more (suc n) ls

-- the text does not read for a line with this number, whatever lines are behind it
abbrev pub StopsAt : List TextCommand → ℕ → List ℕ → ℕ → Type 0
StopsAt list n line number = (ls : List (List ℕ)) → reads_on list n (line ∷ ls) ≡ Err number
