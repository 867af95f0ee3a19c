-- What the laws below say, clause by clause: of configurations that are the same, and of the runs of one design.
use Rattle.std.specs.Prelude.{◌≡◌, ◌≢◌, ◌⊎◌, ℕ, suc, List, [], ◌∷◌, Some}
use Rattle.sim_model.specs.FlatDesign.declared.design.Design.{Design}
use Rattle.sim_model.specs.Configuration.{Config, start}
use Rattle.sim_model.specs.Phases.{visible_values}
use Rattle.sim_model.specs.Runs.{after}
use Rattle.sim_model.specs.Steps.{step, went, takes, taking}
use Rattle.sim_model.specs.Texts.{final_lines, closing}
use Rattle.sim_model.specs.Trace.{trace_text}
use Rattle.sim_model.specs.Waits.{without}
use Rattle.sim_model.specs.declared.plain.Command.{Command}
use Rattle.sim_model.specs.declared.plain.Phase.TheVariants as phase
use Rattle.sim_model.specs.declared.plain.Stop.{Stop}
use Rattle.order_free.specs.Free.{Uses, Free}
use Rattle.laws_order.specs.Alongside.{AreUnheard}
use Rattle.laws_order.specs.Turns.{TakesTurn}
use Rattle.laws_order.specs.Fits.{Fits}
use Rattle.laws_order.specs.Turned.{IsInTurn, HasTurned}
use Rattle.laws_order.specs.Evaluated.{TurnOf, TakesTurns, serials_of, steps_of, HasEvaluated}
use Rattle.laws_order.specs.Same.{Same}
use Rattle.laws_order.specs.SameSteps.{SameOutcome, IsBetweenTurns}

-- of configurations that are the same
pub record OfTheSame : Type 0 where
  pub itself : (c x : Config) → Same c x → Same c c
  pub flipped : (c x : Config) → Same c x → Same x c
  pub chained : (c x y : Config) → Same c x → Same x y → Same c y
  pub begin : (d : Design) (script : List Command) → Same (start d script) (start d script)
  pub steps : (c x : Config) → Same c x → IsBetweenTurns c → SameOutcome (step c) (step x)
  pub turns : (p n : ℕ) (e f y : Config) → Free e.design → Same e y → TakesTurn (Uses e.design p) p n e f → AreUnheard p y → (g : Config) × TakesTurn (Uses e.design p) p n y g × Same f g
  pub either_order : (p q : ℕ) → p ≢ q → (n m : ℕ) (c d e : Config) → Free c.design → Same c c → c.processes.stack ≡ [] → TakesTurn (Uses c.design p) p n c d → TakesTurn (Uses c.design q) q m d e
      → AreUnheard q c → AreUnheard p c → AreUnheard p e → (x : Config) × (y : Config) × TakesTurn (Uses c.design q) q m c x × TakesTurn (Uses c.design p) p n x y × Same e y
  pub trace : (c x : Config) → Same c x → trace_text x ≡ trace_text c
  pub values : (c x : Config) → Same c x → visible_values x ≡ visible_values c
  pub finals : (c x : Config) → Same c x → final_lines x ≡ final_lines c
  pub closing_lines : (c x : Config) → Same c x → (s : Stop) → closing x s ≡ closing c s

-- of the runs of a design that keeps the rule
pub record OfRuns (d : Design) : Type 0 where
  pub free : Free d
  pub fits : (script : List Command) (n : ℕ) (choices : List ℕ) (c : Config) → after n choices (start d script) ≡ Some c → Fits d c
  pub unheard : (script : List Command) (n : ℕ) (choices : List ℕ) (c : Config) → after n choices (start d script) ≡ Some c → (p : ℕ) → AreUnheard p c
  pub take_turns : (script : List Command) (n : ℕ) (choices : List ℕ) (c : Config) → after n choices (start d script) ≡ Some c → step c ≡ takes → (p : ℕ) (b : Config) → taking c p ≡ Some b → (m : ℕ) (more : List ℕ) (e : Config)
      → after m more b ≡ Some e → IsInTurn p b more e ⊎ HasTurned d p c m more e
  pub turns_run : (script : List Command) (n : ℕ) (choices : List ℕ) (c : Config) → after n choices (start d script) ≡ Some c → step c ≡ takes → (p m : ℕ) (e : Config) → TakesTurn (Uses d p) p m c e → after (suc m) (p ∷ []) c ≡ Some e
  pub wake_nobody : (script : List Command) (n : ℕ) (choices : List ℕ) (c : Config) → after n choices (start d script) ≡ Some c → step c ≡ takes → (p m : ℕ) (e : Config) → TakesTurn (Uses d p) p m c e
      → (e.processes.runnable ≡ without c.processes.runnable p) × (e.cycle ≡ c.cycle)
  pub phases : (script : List Command) (n : ℕ) (choices : List ℕ) (c : Config) → after n choices (start d script) ≡ Some c → c.cycle.phase ≡ phase.Evaluate → c.processes.stack ≡ [] → (m : ℕ) (more : List ℕ) (e : Config)
      → after m more c ≡ Some e → (e.cycle ≡ c.cycle) ⊎ HasEvaluated d c m more e
  pub phases_run : (script : List Command) (n : ℕ) (choices : List ℕ) (c : Config) → after n choices (start d script) ≡ Some c → c.cycle.phase ≡ phase.Evaluate → c.processes.stack ≡ [] → (ts : List TurnOf) (e : Config)
      → TakesTurns d ts c e → after (steps_of ts) (serials_of ts) c ≡ Some e
  pub stays_empty : (script : List Command) (n : ℕ) (choices : List ℕ) (c : Config) → after n choices (start d script) ≡ Some c → c.processes.stack ≡ [] → (e : Config) → step c ≡ went e → e.processes.stack ≡ []
