-- What contracts see of the values of the code.
use Rattle.std.specs.Prelude.{◌≡◌, ◌⊎◌, ⊤, List, Option, Some, None, Result, Ok, Err, option_map}
use Rattle.std.specs.Borrow.{Bor}
use Rattle.clap.specs.Words.{Text, found_of, kind_of, rows_of}
use Rattle.clap.specs.declared.error.Error.{Error}
use Rattle.clap.specs.declared.error.kind.ErrorKind.{ErrorKind}
use Rattle.clap.specs.declared.error.kind.ErrorKind.TheVariants.{OutOfMemory}
use Rattle.clap.specs.declared.parser.matches.ArgMatches.{ArgMatches}
use Rattle.command_line.specs.declared.given.Given as declared_given
use Rattle.command_line.specs.declared.modes.ChoiceRule as declared_rule
use Rattle.command_line.specs.declared.modes.ChoiceRule.TheVariants as rule
use Rattle.command_line.specs.declared.modes.Simulation as declared_simulation
use Rattle.command_line.specs.declared.modes.Mode as declared_mode
use Rattle.command_line.specs.declared.modes.Mode.TheVariants as mode
use Rattle.command_line.specs.declared.modes.WordsStop.{WordsStop}
use Rattle.command_line.specs.declared.modes.WordsStop.TheVariants.{Usage, NoMemory}
use Rattle.command_line.specs.Given.{Given, given_by, given_in}
use Rattle.command_line.specs.Line.{ChoiceRule, Simulation, Mode, Ordered, Replayed, Simulate, Page, Generate}

abbrev pub text_of : Option (Bor Text) → Option Text
text_of = option_map (λ t. t.now)

abbrev pub given_of : declared_given.Given → Given
given_of g = record {
  model = text_of g.model;
  script = text_of g.script;
  vcd = text_of g.vcd;
  budget = text_of g.budget;
  order = text_of g.order;
  seed = text_of g.seed;
  choices = text_of g.choices;
  replay = text_of g.replay;
  log = text_of g.log;
  format = text_of g.format;
  order_free = text_of g.order_free;
  bus = text_of g.bus;
  generate = text_of g.generate;
}

-- why clap's error stops the reading
abbrev pub stop_by : ErrorKind → WordsStop
stop_by OutOfMemory = NoMemory
stop_by kind = Usage

abbrev pub stop_of : Error → WordsStop
stop_of e = stop_by (kind_of e)

-- matches are those of the words, and an error but for want of memory says that there are none
abbrev pub Matches : List Text → Result ArgMatches Error → Type 0
Matches words (Ok m) = given_by words ≡ Some (given_in (rows_of (found_of m)))
Matches words (Err e) = (kind_of e ≡ OutOfMemory) ⊎ (given_by words ≡ None)

-- the same of what they give
abbrev pub Gives : List Text → Result declared_given.Given WordsStop → Type 0
Gives words (Ok g) = given_by words ≡ Some (given_of g)
Gives words (Err Usage) = given_by words ≡ None
Gives words (Err NoMemory) = ⊤

abbrev pub rule_of : declared_rule.ChoiceRule → ChoiceRule
rule_of (rule.Ordered o) = Ordered o
rule_of (rule.Replayed file) = Replayed file.now

abbrev pub simulation_of : declared_simulation.Simulation → Simulation
simulation_of s = record {
  model = s.model.now;
  script = s.script.now;
  vcd = text_of s.vcd;
  choices = text_of s.choices;
  budget = s.budget;
  rule = rule_of s.rule;
  log = s.log;
}

abbrev pub mode_of : declared_mode.Mode → Mode
mode_of (mode.Simulate s) = Simulate (simulation_of s)
mode_of (mode.Page kind file) = Page kind file.now
mode_of (mode.Generate g) = Generate g

-- an answer is what the words ask for, a refusal says that they ask for nothing, and want of memory says nothing
abbrev pub Reads : Option Mode → Result declared_mode.Mode WordsStop → Type 0
Reads asked (Ok m) = asked ≡ Some (mode_of m)
Reads asked (Err Usage) = asked ≡ None
Reads asked (Err NoMemory) = ⊤
