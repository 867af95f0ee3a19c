-- The stack of the active instances with one on top.
use Rattle.std.specs.Prelude.{ℕ, List, ◌∷◌, if◌then◌else◌}
use Rattle.sim_model.specs.Configuration.{Config}
use Rattle.sim_model.specs.Control.{is_top}

-- as it is where q is on top already, and else with q above all
abbrev pub topped_by : ℕ → Config → List ℕ
topped_by q c = if is_top c q then c.processes.stack else q ∷ c.processes.stack
