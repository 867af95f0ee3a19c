-- What a call of the top speaks of: the words, and the outside before and after it.
use Rattle.std.specs.Prelude.{◌≡◌, ◌≤◌, ◌⊎◌, ℕ, List, Option, Some, None, ⊤}
use Rattle.session.specs.SimIo.Contents.{Files, AfterTold}
use Rattle.command_line.specs.Line.{Mode, Simulate, Page, Generate, line_of}
use Rattle.session.specs.Outputs.{Names, IsOther}

-- the outside at a moment: the files where they are told, what `out` and `err` hold where they tell that, and the
-- counts of faults
pub record Outside : Type 0 where
  pub files : Option Files
  pub reads : ℕ
  pub writes : ℕ
  pub out : Option (List ℕ)
  pub out_faults : ℕ
  pub err : Option (List ℕ)
  pub err_faults : ℕ

pub record Call : Type 0 where
  pub words : List (List ℕ)
  pub before : Outside
  pub after : Outside

-- the outside by what a shelf and the sink of the report tell, with what `err` holds and its count
abbrev pub outside_of : {S O : Type 0} → (S → Option Files) → (S → ℕ) → (S → ℕ) → (O → Option (List ℕ)) → (O → ℕ) → S → O → Option (List ℕ) → ℕ → Outside
outside_of files reads writes holds faults shelf out err err_faults = record {
  files = files shelf;
  reads = reads shelf;
  writes = writes shelf;
  out = holds out;
  out_faults = faults out;
  err = err;
  err_faults = err_faults;
}

-- the files that the words name for writing: those of a simulation for its trace and its choices
abbrev pub no_names : Names
no_names = record { trace = None; choices = None }

abbrev pub names_in : Mode → Names
names_in (Simulate s) = record { trace = s.vcd; choices = s.choices }
names_in (Page kind model) = no_names
names_in (Generate g) = no_names

abbrev pub names_if : Option Mode → Names
names_if None = no_names
names_if (Some mode) = names_in mode

-- one of these is named
abbrev pub IsNamed : Option (List ℕ) → Type 0
IsNamed None = ⊥
IsNamed (Some name) = ⊤

abbrev pub NamesOne : Names → Type 0
NamesOne names = IsNamed names.trace ⊎ IsNamed names.choices

-- each file but these is as before
abbrev pub OnlyThese : Names → Files → Files → Type 0
OnlyThese names old new = (name : List ℕ) → IsOther names.trace name → IsOther names.choices name → new name ≡ old name

-- what a call leaves of the outside, whatever it answers: no file is made or changed but those that the words name for writing, and
-- no count falls
pub record Keeps (c : Call) : Type 0 where
  pub files : AfterTold c.before.files c.after.files (OnlyThese (names_if (line_of c.words)))
  pub reads : c.before.reads ≤ c.after.reads
  pub writes : c.before.writes ≤ c.after.writes
  pub out_faults : c.before.out_faults ≤ c.after.out_faults
  pub err_faults : c.before.err_faults ≤ c.after.err_faults
