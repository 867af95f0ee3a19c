-- What is left alike where two processes had their turns in another order.
use Rattle.std.specs.Prelude.{◌≡◌, ℕ, []}
use Rattle.sim_model.specs.SignalChannel.Drivers.{Driven}
use Rattle.sim_model.specs.Configuration.{Config}
use Rattle.sim_model.specs.Waits.{holds}
use Rattle.laws_order.specs.Sees.{unnumbered, AlikeAt}

-- what processes share: a configuration without its instances, who is runnable, the stack, the lines of the report, the marks and
-- numbers of guards, and the drivers of resolved signals
abbrev pub shared_in : Config → Config
shared_in c = record c {
  processes = record c.processes { runnable = []; stack = []; instances = [] };
  channels = record c.channels { resolved = [] };
  trace = record { told = []; snapshots = c.trace.snapshots; marks = []; next_guard = 0 };
}

-- each process is the same but for the numbers of its guards, the same ones are runnable, resolved signals have the same values, and what
-- is shared is the same
pub record AreLeftAlike (e y : Config) : Type 0 where
  pub instances : (p : ℕ) → AlikeAt unnumbered e.processes.instances y.processes.instances p
  pub runnable : (p : ℕ) → holds y.processes.runnable p ≡ holds e.processes.runnable p
  pub stack : y.processes.stack ≡ e.processes.stack
  pub values : (n : ℕ) → AlikeAt (λ (r : Driven). r.value) e.channels.resolved y.channels.resolved n
  pub shared : shared_in y ≡ shared_in e
