-- What is held for a rule, as the definitions have it. No public clause cites this module.
use Rattle.kernel_state.specs.SimModel.Runs.{Chooser, least, greatest, seeded, listed}
use Rattle.kernel_phases.specs.declared.choosing.Held.{Held}
use Rattle.kernel_phases.specs.declared.choosing.Held.TheVariants as held

abbrev pub chooser_in : Held → Chooser
chooser_in held.Least = least
chooser_in held.Greatest = greatest
chooser_in (held.Seeded g) = seeded g
chooser_in (held.Listed choices) = listed choices
