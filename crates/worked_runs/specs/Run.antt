-- What a run tells.
use Rattle.std.specs.Prelude.{ℕ, Bool, List, length, slice_get, option_map, option_and_then, Option, Some, None}
use Rattle.std.specs.Fmt.{digits}
use Rattle.rand_core.specs.Pcg32Seed.{pcg32_seed}
use Rattle.rand_core.specs.Steps.{word_bytes, u32_at}
use Rattle.sim_model.specs.LogicValues.declared.kinds.Value.{Value}
use Rattle.sim_model.specs.TransportPhases.History.{Entry}
use Rattle.sim_model.specs.FlatDesign.declared.design.Design.{Design}
use Rattle.sim_model.specs.Residual.{Mark}
use Rattle.sim_model.specs.Configuration.{start, path_up}
use Rattle.sim_model.specs.Runs.{after, Ruled, stop_of}
use Rattle.sim_model.specs.Trace.{trace_text}
use Rattle.sim_model.specs.Texts.{report}
use Rattle.sim_model.specs.declared.plain.Command.{Command}
use Rattle.sim_model.specs.declared.plain.Command.TheVariants as command
use Rattle.sim_model.specs.declared.plain.Log.{Log}
use Rattle.sim_model.specs.declared.plain.Log.TheVariants as log_of
use Rattle.sim_model.specs.declared.plain.Rule.{Rule}
use Rattle.sim_model.specs.declared.plain.Rule.TheVariants as rule

abbrev pub run : Command
run = command.Run None

abbrev pub run_for : ℕ → Command
run_for t = command.Run (Some (record { 0 = t }))

abbrev pub set : ℕ → Value → Command
set i v = command.Set i v

abbrev pub show : ℕ → Command
show i = command.Show i

-- the report of the run of n steps with these choices, where it ends there
unfoldable pub told_under : Rule → Log → ℕ → ℕ → List ℕ → Design → List Command → Option (List ℕ)
unfolding digits path_up
told_under r log budget n choices d script =
    option_and_then (λ c. option_map (report log c) (stop_of c r (length choices) n budget)) (after n choices (start d script))

unfoldable pub told : ℕ → List ℕ → Design → List Command → Option (List ℕ)
unfolding told_under
told n choices d script = told_under rule.First log_of.Prints 10000000 n choices d script

-- the text of the trace of the run of n steps with these choices
unfoldable pub traced : ℕ → List ℕ → Design → List Command → Option (List ℕ)
unfolding digits
traced n choices d script = option_map trace_text (after n choices (start d script))

-- which signals the last update phase changed at this time, after the run of n steps with these choices
unfoldable pub changed : ℕ → List ℕ → Design → List Command → Option (List Bool)
unfolding digits
changed n choices d script = option_map (λ c. c.channels.changed) (after n choices (start d script))

-- the marks of guards in the run of n steps with these choices
unfoldable pub marked : ℕ → List ℕ → Design → List Command → Option (List Mark)
unfolding digits
marked n choices d script = option_map (λ c. c.trace.marks) (after n choices (start d script))

-- what was called and returned on the only hop in the run of n steps with these choices
unfoldable pub called : ℕ → List ℕ → Design → List Command → Option (List Entry)
unfolding digits
called n choices d script = option_and_then (λ c. slice_get c.transactions.hops 0) (after n choices (start d script))

-- the choices of n steps are those of the rule
unfoldable pub IsRuled : Rule → ℕ → List ℕ → Design → List Command → Type 0
unfolding pcg32_seed word_bytes u32_at
IsRuled r n choices d script = Ruled r n choices (start d script)
