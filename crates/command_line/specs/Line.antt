-- Which words are which command line.
use Rattle.std.specs.Prelude.{ℕ, ◌&&◌, ◌^◌, ◌-◌, Bool, true, List, [], ◌∷◌, ◌++◌, Option, Some, None, not, codes, if◌then◌else◌, is_none, option_and_then}
use Rattle.std.specs.Str.{bytes_eq}
use Rattle.clap.specs.Words.{Text}
use Rattle.sim_model.specs.declared.plain.Log.{Log}
use Rattle.sim_model.specs.declared.plain.Log.TheVariants as log
use Rattle.command_line.specs.declared.modes.Order.{Order}
use Rattle.command_line.specs.declared.modes.Order.TheVariants as order
use Rattle.command_line.specs.declared.modes.Generated.{Generated}
use Rattle.command_line.specs.declared.modes.PageKind.{PageKind}
use Rattle.command_line.specs.declared.modes.PageKind.TheVariants as page
use Rattle.command_line.specs.Given.{Given, given_by}
use Rattle.command_line.specs.Numbers.{budget_limit, default_budget, number_in, number_or, size_limit}

-- how processes are chosen: by an order, or as the file of this name lists it
pub data ChoiceRule : Type 0 where
  Ordered : Order → ChoiceRule
  Replayed : Text → ChoiceRule

-- a model that is to be run under a script
pub record Simulation : Type 0 where
  pub model : Text
  pub script : Text
  pub vcd : Option Text
  pub choices : Option Text
  pub budget : ℕ
  pub rule : ChoiceRule
  pub log : Log

-- what a command line asks for
pub data Mode : Type 0 where
  Simulate : Simulation → Mode
  Page : PageKind → Text → Mode
  Generate : Generated → Mode

-- ---- single values

abbrev pub budget_in : Option Text → Option ℕ
budget_in = number_or default_budget 1 budget_limit

abbrev pub seed_in : Option Text → Option ℕ
seed_in = number_or 0 0 (2 ^ 64 - 1)

abbrev pub order_called : Text → ℕ → Option Order
order_called name seed =
    if bytes_eq name (codes "first") then Some order.First else (
    if bytes_eq name (codes "last") then Some order.Last else (
    if bytes_eq name (codes "seed") then Some (order.Seed seed) else None))

-- the seed has effect with the order `seed` alone, and its form is judged with every order
abbrev pub order_with : Option Text → Option ℕ → Option Order
order_with None (Some seed) = Some order.First
order_with (Some name) (Some seed) = order_called name seed
order_with name None = None

abbrev pub order_in : Given → Option Order
order_in g = order_with g.order (seed_in g.seed)

abbrev pub log_called : Text → Option Log
log_called name =
    if bytes_eq name (codes "prints") then Some log.Prints else (
    if bytes_eq name (codes "turns") then Some log.Turns else None)

abbrev pub log_in : Option Text → Option Log
log_in None = Some log.Prints
log_in (Some name) = log_called name

-- ---- what excludes what

-- a replayed list stands with no order, and with no file for choices
abbrev pub replay_alone : Text → Bool → Option Order → Option ChoiceRule
replay_alone file alone (Some o) = if alone then Some (Replayed file) else None
replay_alone file alone None = None

abbrev pub rule_with : Option Text → Bool → Option Order → Option ChoiceRule
rule_with None alone None = None
rule_with None alone (Some o) = Some (Ordered o)
rule_with (Some file) alone o = replay_alone file alone o

abbrev pub rule_in : Given → Option ChoiceRule
rule_in g = rule_with g.replay (is_none g.order && is_none g.choices) (order_in g)

-- the trace and the choices go to different files
abbrev pub are_apart : Option Text → Option Text → Bool
are_apart (Some trace) (Some choices) = not (bytes_eq trace choices)
are_apart _ _ = true

-- no file of a run is named, nor what its report tells
abbrev pub names_no_run : Given → Bool
names_no_run g = is_none g.model && (is_none g.script && (is_none g.vcd && (is_none g.choices && (is_none g.replay && is_none g.log))))

-- nothing is said of how a run goes
abbrev pub steers_no_run : Given → Bool
steers_no_run g = is_none g.budget && (is_none g.order && is_none g.seed)

-- ---- the three modes

abbrev pub simulation_with : Text → Text → Given → Option ℕ → Option ChoiceRule → Option Log → Option Mode
simulation_with model script g (Some budget) (Some rule) (Some log) = Some (Simulate (record {
  model = model;
  script = script;
  vcd = g.vcd;
  choices = g.choices;
  budget = budget;
  rule = rule;
  log = log;
}))
simulation_with model script g _ _ _ = None

abbrev pub simulation_named : Option Text → Option Text → Given → Option Mode
simulation_named (Some model) (Some script) g =
    if are_apart g.vcd g.choices then simulation_with model script g (budget_in g.budget) (rule_in g) (log_in g.log) else None
simulation_named _ _ g = None

-- a page of one file stands with no other word
abbrev pub page_alone : PageKind → Text → Given → Option Mode
page_alone kind file g = if names_no_run g && steers_no_run g then Some (Page kind file) else None

abbrev pub generated_with : Option ℕ → Option ℕ → Option Order → Option Mode
generated_with (Some size) (Some budget) (Some o) = Some (Generate (record { size = size; budget = budget; order = o }))
generated_with _ _ _ = None

abbrev pub generated_alone : Text → Given → Option Mode
generated_alone size g =
    if names_no_run g then generated_with (number_in 1 size_limit size) (budget_in g.budget) (order_in g) else None

-- a page that is asked for, and of which file
pub record Asked : Type 0 where
  pub kind : PageKind
  pub file : Text

abbrev pub asked_of : PageKind → Option Text → List Asked
asked_of kind None = []
asked_of kind (Some file) = record { kind = kind; file = file } ∷ []

-- the pages that the words ask for
abbrev pub pages_in : Given → List Asked
pages_in g = asked_of page.Layout g.format ++ asked_of page.Verdict g.order_free ++ asked_of page.Traffic g.bus

-- one page, or a generated model, or a run
abbrev pub mode_by : List Asked → Option Text → Given → Option Mode
mode_by [] None g = simulation_named g.model g.script g
mode_by [] (Some size) g = generated_alone size g
mode_by (one ∷ []) None g = page_alone one.kind one.file g
mode_by (one ∷ []) (Some size) g = None
mode_by (one ∷ other ∷ more) size g = None

abbrev pub mode_in : Given → Option Mode
mode_in g = mode_by (pages_in g) g.generate g

-- what the words ask for, if they are a command line
unfoldable pub line_of : List Text → Option Mode
line_of words = option_and_then mode_in (given_by words)
