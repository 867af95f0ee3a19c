-- What the words give each argument, as clap reads them.
use Rattle.std.specs.Prelude.{List, [], ◌∷◌, Option, Some, None, codes}
use Rattle.clap.specs.Kinds.{Kinds}
use Rattle.clap.specs.Words.{Row, Text, fault_of, first_of, matches_of}
use Rattle.command_line.specs.Command.{line_command}

-- the value of each argument that has one
pub record Given : Type 0 where
  pub model : Option Text
  pub script : Option Text
  pub vcd : Option Text
  pub budget : Option Text
  pub order : Option Text
  pub seed : Option Text
  pub choices : Option Text
  pub replay : Option Text
  pub log : Option Text
  pub format : Option Text
  pub order_free : Option Text
  pub bus : Option Text
  pub generate : Option Text

abbrev pub given_in : List Row → Given
given_in rows = record {
  model = first_of (codes "model") rows;
  script = first_of (codes "script") rows;
  vcd = first_of (codes "vcd") rows;
  budget = first_of (codes "budget") rows;
  order = first_of (codes "order") rows;
  seed = first_of (codes "seed") rows;
  choices = first_of (codes "choices") rows;
  replay = first_of (codes "replay") rows;
  log = first_of (codes "log") rows;
  format = first_of (codes "format") rows;
  order_free = first_of (codes "order-free") rows;
  bus = first_of (codes "bus") rows;
  generate = first_of (codes "generate") rows;
}

-- what clap matches, where it has no fault to find
abbrev pub unless_fault : Kinds → List Row → Option Given
unless_fault [] rows = Some (given_in rows)
unless_fault (fault ∷ faults) rows = None

-- what the words give, or nothing where clap refuses them
unfoldable pub given_by : List Text → Option Given
given_by words = unless_fault (fault_of line_command words) (matches_of line_command words)
