-- What a run comes to, by the order in which its processes are taken.
use Rattle.std.specs.Prelude.{ℕ, zero, suc, List, [], ◌∷◌, option_map, Option, Some, None}
use Rattle.std.specs.Fmt.{digits}
use Rattle.sim_model.specs.FlatDesign.declared.design.Design.{Design}
use Rattle.sim_model.specs.Configuration.{Config, start, path_up}
use Rattle.sim_model.specs.Steps.{Outcome, went, faulted, takes, ended, step, taking}
use Rattle.sim_model.specs.Runs.{took}
use Rattle.sim_model.specs.Texts.{final_lines}
use Rattle.sim_model.specs.declared.plain.Command.{Command}
use Rattle.sim_model.specs.declared.plain.Command.TheVariants as command

abbrev pub for_time : ℕ → List Command
for_time t = command.Run (Some (record { 0 = t })) ∷ []

-- the configuration, where the run has ended and all choices are used
abbrev pub end_of : Config → List ℕ → Option Config
end_of c [] = Some c
end_of c (p ∷ choices) = None

abbrev pub on_from : Outcome → Config → List ℕ → (List ℕ → Config → Option Config) → Option Config
on_from (went d) c choices on = on choices d
on_from (faulted f) c choices on = None
on_from takes c [] on = None
on_from takes c (p ∷ choices) on = took (taking c p) (on choices)
on_from ended c choices on = end_of c choices

-- where a run ends by itself that takes these choices, all of them, and has no fault; within so many steps
abbrev pub run_out : ℕ → List ℕ → Config → Option Config
run_out zero choices c = None
run_out (suc n) choices c = on_from (step c) c choices (run_out n)

-- the final values then
unfoldable pub finals : List ℕ → Design → Option (List ℕ)
unfolding digits path_up
finals choices d = option_map final_lines (run_out 100 choices (start d (for_time 20000)))
