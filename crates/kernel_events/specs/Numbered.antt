-- Events of the design by their numbers.
use Rattle.std.specs.Prelude.{ℕ, List, map}
use Rattle.sim_model.specs.EventCore.declared.event.Ev.{Ev}
use Rattle.sim_model.specs.EventCore.declared.event.Ev.TheVariants as ev

abbrev pub fixed : List ℕ → List Ev
fixed ns = map (λ (n : ℕ). ev.Fixed n) ns
