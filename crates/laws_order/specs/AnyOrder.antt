-- What it means that the order in which processes are taken does not matter in a design.
use Rattle.std.specs.Prelude.{◌≡◌, ◌<◌, ◌⊎◌, ℕ, List, [], Some}
use Rattle.sim_model.specs.FlatDesign.declared.design.Design.{Design}
use Rattle.sim_model.specs.Configuration.{Config, start}
use Rattle.sim_model.specs.Phases.{visible_values}
use Rattle.sim_model.specs.Steps.{step}
use Rattle.sim_model.specs.Runs.{after}
use Rattle.sim_model.specs.Texts.{final_lines, closing}
use Rattle.sim_model.specs.Trace.{trace_text}
use Rattle.sim_model.specs.declared.plain.Command.{Command}
use Rattle.sim_model.specs.declared.plain.Stop.TheVariants as stop
use Rattle.laws_order.specs.Same.{Same}
use Rattle.laws_order.specs.Evaluations.{Evaluates, IsAtUpdate, IsFirst, IsDone, GoesOn}

pub record OrderDoesNotMatter (d : Design) : Type 0 where
  -- what a run comes to with no process in its turn is the same as itself: of each resolved signal each process has one driver
  pub itself : (script : List Command) (n : ℕ) (choices : List ℕ) (c : Config) → after n choices (start d script) ≡ Some c → c.processes.stack ≡ [] → Same c c
  -- evaluation phases that begin in configurations that are the same but for that order, in whichever runs, come to the update phase after
  -- as many steps, in configurations that are the same
  pub phases : (script other : List Command) (n m : ℕ) (choices others : List ℕ) (c x : Config) → after n choices (start d script) ≡ Some c → after m others (start d other) ≡ Some x → Evaluates c → Same c x
      → (k l : ℕ) (own another : List ℕ) (e y : Config) → IsFirst IsAtUpdate k own c e → IsFirst IsAtUpdate l another x y → (l ≡ k) × Same e y
  -- two runs of one script that are both done have as many steps, the same trace, the same values at the end, and the same final lines and
  -- end line
  pub runs : (script : List Command) (n m : ℕ) (choices others : List ℕ) (e y : Config) → after n choices (start d script) ≡ Some e → after m others (start d script) ≡ Some y → IsDone e → IsDone y
      → (m ≡ n) × (trace_text y ≡ trace_text e) × (visible_values y ≡ visible_values e) × (final_lines y ≡ final_lines e) × (closing y stop.Done ≡ closing e stop.Done)
  -- where a run is done, every run of its script goes on until it has as many steps, and is then done
  pub ends : (script : List Command) (n m : ℕ) (choices others : List ℕ) (e y : Config) → after n choices (start d script) ≡ Some e → IsDone e → after m others (start d script) ≡ Some y
      → ((m < n) × GoesOn (step y)) ⊎ ((m ≡ n) × IsDone y)
