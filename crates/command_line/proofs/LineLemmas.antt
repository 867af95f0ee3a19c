-- The steps from words to what they ask for.
use Rattle.std.proofs.Common.{◌≡◌, ◌∙◌, List, Option, Some, Err, ap, sym}
use Rattle.std.specs.Prelude.{option_and_then}
use Rattle.clap.specs.Words.{Text}
use Rattle.command_line.specs.declared.modes.WordsStop.{WordsStop}
use Rattle.command_line.specs.declared.modes.WordsStop.TheVariants.{Usage, NoMemory}
use Rattle.command_line.specs.Given.{Given, given_by}
use Rattle.command_line.specs.Line.{Mode, line_of, mode_in}
use Rattle.command_line.specs.Views.{Gives, Reads}

-- two readings with the same values are the same
pub same_given : (a b : Given) → a.model ≡ b.model → a.script ≡ b.script → a.vcd ≡ b.vcd → a.budget ≡ b.budget → a.order ≡ b.order
    → a.seed ≡ b.seed → a.choices ≡ b.choices → a.replay ≡ b.replay → a.log ≡ b.log → a.format ≡ b.format → a.order_free ≡ b.order_free → a.bus ≡ b.bus → a.generate ≡ b.generate → a ≡ b
same_given a b model script vcd budget order seed choices replay log format order_free bus generate = λ i. record {
  model = model i;
  script = script i;
  vcd = vcd i;
  budget = budget i;
  order = order i;
  seed = seed i;
  choices = choices i;
  replay = replay i;
  log = log i;
  format = format i;
  order_free = order_free i;
  bus = bus i;
  generate = generate i;
}

-- what is given decides what is asked for
pub line_given : (words : List Text) (g : Given) (m : Option Mode) → given_by words ≡ Some g → m ≡ mode_in g → line_of words ≡ m
unfolding line_of
line_given words g m given mode = ap (option_and_then mode_in) given ∙ sym mode

-- where nothing is given nothing is asked for
pub line_refused : (words : List Text) (stop : WordsStop) → Gives words (Err stop) → Reads (line_of words) (Err stop)
unfolding line_of
line_refused words Usage none = ap (option_and_then mode_in) none
line_refused words NoMemory none = tt
