-- A clocked thread's own statements begin again where by the code no try among them has a handler for the exception.
use Rattle.std.proofs.Common.{◌≡◌, ℕ, List, ◌∷◌, ◌++◌, Some, None, refl}
use Rattle.laws_runs.specs.FlatDesign.Code as code
use Rattle.laws_runs.specs.FlatDesign.Code.{statement_at}
use Rattle.laws_runs.specs.FlatDesign.Sound.{SoundDesign}
use Rattle.laws_runs.specs.FlatDesign.declared.design.Design.{Design}
use Rattle.laws_runs.specs.SimModel.Residual.{Residual, Frame, settle, next_of, statement, innermost}
use Rattle.laws_runs.specs.SimModel.Configuration.{Config, arena, start}
use Rattle.laws_runs.specs.SimModel.Steps.{step, takes, taking}
use Rattle.laws_runs.specs.SimModel.Runs.{after}
use Rattle.laws_runs.specs.SimModel.declared.plain.Command.{Command}
use Rattle.laws_clocked.specs.Ticks.{Test, Tick, HasTick, IsInNoFunction}
use Rattle.laws_clocked.specs.Turns.{IsBehindWait}
use Rattle.laws_clocked.specs.Levels.{NoneAtLevel, IsAtLevel}
use Rattle.laws_clocked.specs.Again.{Around, trying, StandsAt, BeginsFirst}
use Rattle.laws_clocked.specs.Clocked.{HasClocked, UncaughtIn}
use Rattle.laws_clocked.proofs.Returning.{always-thrown}
use Rattle.laws_clocked.proofs.Recurring.{begins-first_at}
use Rattle.laws_clocked.proofs.Sparing.{unwinds-spare}
use Rattle.laws_clocked.proofs.Rounded.{true-among, none-catches}
use Rattle.laws_clocked.proofs.NoCalls.{no-call}

module _ (design : Design) (script : List Command) (sound : SoundDesign design) (steps : ℕ) (chosen : List ℕ) (c : Config) (reached : after steps chosen (start design script) ≡ Some c) (p : ℕ) where
  pub begins-thrown : (rest : List ℕ) (b : Around) (e s : ℕ) (x : Frame) (r : Residual) → HasClocked (arena c) b e x.body → UncaughtIn (arena c) b e
      → StandsAt c p rest (trying b x r) → innermost r ≡ None → next_of r ≡ statement s → statement_at (arena c) s ≡ Some (code.throw e) → BeginsFirst c p b
  begins-thrown rest b e s x r has none h bare next throws =
      let t = true-among design script sound steps chosen c reached p h.instance h.at b e x r has h.left in
      always-thrown p b design script sound t.answer t.is_true e x.body c (record { steps = steps; choices = chosen; reached = reached }) (has.around, unwinds-spare (arena c) b e x.body has) rest x r h s next throws
      (none-catches design script sound steps chosen c reached p h.instance h.at b e x r has e none h.left bare) (t.has, refl)

  pub begins-at_level : (t : Tick) → HasTick (arena c) t → IsInNoFunction (arena c) t → (w : IsBehindWait c p t) → step c ≡ takes → (d : Config) → taking c p ≡ Some d
      → (before : List Test) (y : Test) (behind : List Test) → t.tests ≡ before ++ y ∷ behind → NoneAtLevel c p before → IsAtLevel c p y
      → (b : Around) (f : Frame) (r : Residual) → HasClocked (arena c) b y.exception f.body → UncaughtIn (arena c) b y.exception
      → settle (arena c) w.instance.residual ≡ trying b f r → BeginsFirst d p b
  begins-at_level t has apart w now d to before y behind split none_before level b f r is none left =
      let bare = no-call design script sound steps chosen c reached p t has apart w b f r left in
      let k = true-among design script sound steps chosen c reached p w.instance w.at b y.exception f r is left in
      begins-first_at design script sound p t c (record { steps = steps; choices = chosen; reached = reached }) has w now d to before y behind split none_before level b f r k.answer k.has k.is_true
      (is.around, unwinds-spare (arena c) b y.exception f.body is) left (none-catches design script sound steps chosen c reached p w.instance w.at b y.exception f r is y.exception none left bare)
