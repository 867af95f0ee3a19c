-- Words that begin with no hyphen are values of positionals.
use Rattle.std.proofs.Common.{◌≡◌, [], ◌∷◌, Bool, true, false, Some, None, not, refl}
use Rattle.std.specs.Str.{bytes_eq}
use Rattle.clap.specs.Lexer.{long_of, short_of}
use Rattle.clap.specs.Words.{Text}
use Rattle.clap.proofs.OnLiterals.{clap_on_literals}
use Rattle.command_line.specs.Command.{line_command}
use Rattle.command_line.specs.Given.{given_by}
use Rattle.command_line.specs.Line.{Simulate, line_of}
use Rattle.command_line.specs.Plain.{has_no_hyphen, plain_simulation}

-- what clap asks of a word
pub record IsPlain (word : Text) : Type 0 where
  pub ends : bytes_eq word (45 ∷ 45 ∷ []) ≡ false
  pub long : long_of word ≡ None
  pub short : short_of word ≡ None

no_hyphen : (b : Bool) → not b ≡ true → b ≡ false
no_hyphen true h = cc
no_hyphen false h = refl

pub plain_word : (word : Text) → has_no_hyphen word ≡ true → IsPlain word
plain_word [] h = record { ends = refl; long = refl; short = refl }
plain_word (b ∷ bs) h =
    let other = no_hyphen _ h in
    record { ends = rw other refl; long = rw other refl; short = rw other refl }

pub plain_line : (model script : Text) → IsPlain model → IsPlain script
    → line_of (model ∷ script ∷ []) ≡ Some (Simulate (plain_simulation model script))
unfolding line_of given_by line_command clap_on_literals
plain_line model script m s = rw (m.ends, m.long, m.short, s.ends, s.long, s.short) refl
