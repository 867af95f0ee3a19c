-- The laws on whole runs.
use Rattle.std.proofs.Common.{◌≡◌, ℕ, suc, List, [], ◌∷◌, Some, ◌∙◌, refl, subst}
use Rattle.std.specs.Prelude.{◌⊎◌, Ok}
use Rattle.sim_model.specs.FlatDesign.declared.design.Design.{Design}
use Rattle.sim_model.specs.Configuration.{Config, Instance, instance_at, start}
use Rattle.sim_model.specs.EventCore.declared.event.Ev.TheVariants as ev
use Rattle.sim_model.specs.Waits.{fire, without}
use Rattle.sim_model.specs.Statements.{statement_step}
use Rattle.sim_model.specs.Steps.{Outcome, went, step, takes, taking}
use Rattle.sim_model.specs.Runs.{after}
use Rattle.sim_model.specs.declared.plain.Command.{Command}
use Rattle.laws_runs.proofs.CleanRuns.{live-taken}
use Rattle.order_free.specs.Free.{Uses, Free}
use Rattle.laws_order.specs.Alongside.{AreUnheard}
use Rattle.laws_order.specs.Turns.{IsOnItsOwn, TakesTurn}
use Rattle.laws_order.specs.Fits.{Fits}
use Rattle.laws_order.specs.Turned.{IsInTurn, HasTurned}
use Rattle.laws_order.proofs.OwnUnheard.{fire-same}
use Rattle.laws_order.proofs.OwnSteps.{IfWent, alone-on, step-empty}
use Rattle.laws_order.proofs.FitRuns.{fits-after}
use Rattle.laws_order.proofs.OwnRuled.{may-do, statics-fixed}
use Rattle.laws_order.proofs.Owns.{is-own, are-unheard}
use Rattle.laws_order.proofs.WholeTurns.{WakesNobody, step-wakes-nobody, turn-wakes-nobody, begins, evaluates-then, takes-turns, whole-turn}

module _ (d : Design) (script : List Command) (free : Free d) (n : ℕ) (choices : List ℕ) (c : Config) (reached : after n choices (start d script) ≡ Some c) where
  pub fits : Fits d c
  fits = fits-after d script (statics-fixed d free) (may-do d free) n choices c reached

  pub own-steps : (p : ℕ) (i : Instance) → instance_at c p ≡ Some i → IsOnItsOwn (Uses d p) p c
  own-steps = is-own d free c fits

  pub unheard : (p : ℕ) → AreUnheard p c
  unheard = are-unheard d free c fits

  pub ends-same : (p : ℕ) → (fire c (ev.Terminated p) ≡ c) × (fire c (ev.Restarted p) ≡ c)
  ends-same p = (fire-same (ev.Terminated p) (λ m. refl) d (statics-fixed d free) c fits.processes, fire-same (ev.Restarted p) (λ m. refl) d (statics-fixed d free) c fits.processes)

  pub stays-empty : c.processes.stack ≡ [] → (e : Config) → step c ≡ went e → e.processes.stack ≡ []
  stays-empty empty e is = subst (λ (o : Outcome). IfWent o (λ (x : Config). x.processes.stack ≡ [])) is (step-empty d (statics-fixed d free) (may-do d free) c empty fits)

  pub wakes-nobody : (p : ℕ) → c.processes.stack ≡ p ∷ [] → (e : Config) → statement_step c p ≡ Ok e → WakesNobody c e
  wakes-nobody p alone e is = let a = alone-on d (statics-fixed d free) (may-do d free) c p [] fits.stack alone in step-wakes-nobody d free p a.among c e fits alone is

  module _ (now : step c ≡ takes) (p : ℕ) (b : Config) (taken : taking c p ≡ Some b) where
    pub turns : (m : ℕ) (more : List ℕ) (e : Config) → after m more b ≡ Some e → IsInTurn p b more e ⊎ HasTurned d p c m more e
    turns = let live = live-taken d script n choices c reached p b taken in takes-turns d free p c b fits now live.instance live.made taken

  module _ (now : step c ≡ takes) (p m : ℕ) (e : Config) (t : TakesTurn (Uses d p) p m c e) where
    pub is-run : after (suc m) (p ∷ []) c ≡ Some e
    is-run = let live = live-taken d script n choices c reached p t.begun t.taken in whole-turn d free p c t.begun fits now live.instance live.made t.taken m e t.turn

    pub leaves-ready : (e.processes.runnable ≡ without c.processes.runnable p) × (e.cycle ≡ c.cycle)
    leaves-ready =
        let live = live-taken d script n choices c reached p t.begun t.taken in
        let b = begins d free p c t.begun fits now live.instance live.made t.taken in
        let k = turn-wakes-nobody d free p b.among m t.begun e t.turn (evaluates-then d free p c t.begun fits now live.instance live.made t.taken) in
        (k.0 ∙ b.runnable, k.1 ∙ b.cycle)
