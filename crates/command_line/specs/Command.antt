-- The command by which clap reads the words: two positionals and eleven options, each of which takes one value, any text.
use Rattle.std.specs.Prelude.{true, List, [], ◌∷◌, Some, codes, fold}
use Rattle.clap.specs.Words.{App, Rule, Text, new_app, new_rule, with_rule}

-- a word that stands for itself, and may be left out
abbrev pub positional : Text → Rule
positional name = new_rule name

-- `--name value` or `--name=value`, which may be left out
abbrev pub option_named : Text → Rule
option_named name = record (new_rule name) { long = Some name }

-- the words begin with no program's name, and clap adds no flag for help or the version
abbrev pub without_name_and_flags : App → App
without_name_and_flags a = record a {
  top = record a.top { no_binary_name = true; disable_help_flag = true; disable_version_flag = true };
}

abbrev pub bare_command : App
bare_command = without_name_and_flags (new_app (codes "tlmsim"))

abbrev pub arguments : List Rule
arguments =
    positional (codes "model") ∷ positional (codes "script")
    ∷ option_named (codes "vcd") ∷ option_named (codes "budget") ∷ option_named (codes "order") ∷ option_named (codes "seed")
    ∷ option_named (codes "choices") ∷ option_named (codes "replay") ∷ option_named (codes "log")
    ∷ option_named (codes "format") ∷ option_named (codes "order-free") ∷ option_named (codes "bus") ∷ option_named (codes "generate") ∷ []

unfoldable pub line_command : App
line_command = fold with_rule bare_command arguments
