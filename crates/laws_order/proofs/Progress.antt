-- How far a run is that goes on from between two turns of an evaluation phase.
use Rattle.std.proofs.Common.{◌≡◌, ◌⊎◌, inl, inr, ◌+◌, ◌<◌, ℕ, zero, suc, List, [], ◌∷◌, Option, Some, None, refl, sym, ap, ◌∙◌, subst, arith}
use Rattle.std.specs.Prelude.{Ok}
use Rattle.std.proofs.lemmas.Option.{none-some, same_Some}
use Rattle.sim_model.specs.FlatDesign.declared.design.Design.{Design}
use Rattle.sim_model.specs.Configuration.{Config}
use Rattle.sim_model.specs.Statements.{statement_step}
use Rattle.sim_model.specs.Steps.{Outcome, went, faulted, takes, ended, as_outcome, evaluate, step, taking}
use Rattle.sim_model.specs.Runs.{after, and_then, took}
use Rattle.sim_model.specs.declared.plain.Phase.TheVariants as phase
use Rattle.laws_order.specs.Turns.{Turn, over, goes_on}
use Rattle.laws_order.specs.Turned.{IsInTurn, HasTurned}
use Rattle.laws_order.specs.Evaluated.{TurnOf, TakesTurns, no_turn, turn_then, steps_of}
use Rattle.laws_order.specs.Below.{OfRuns}
use Rattle.laws_order.specs.Evaluations.{Evaluates, GoesOn}
use Rattle.laws_order.proofs.Stepping.{evaluated, step-takes, no-cons}
use Rattle.laws_order.proofs.Reached.{ComesTo, comes-by, comes-further, fits-at, turn-leaves}

-- it made these turns and is at the update phase, and went on from there; or it made them and takes another process next; or it made them
-- and is in the turn of another one
pub data Progress (D : Design) (x : Config) (m : ℕ) (y : Config) : Type 0 where
  at_update : (us : List TurnOf) (z : Config) (left : ℕ) (more : List ℕ) → TakesTurns D us x z → ComesTo D z → Evaluates z → z.processes.runnable ≡ [] → after left more z ≡ Some y → m ≡ steps_of us + left → Progress D x m y
  between : (us : List TurnOf) → TakesTurns D us x y → step y ≡ takes → m ≡ steps_of us → Progress D x m y
  in_turn : (us : List TurnOf) (z b : Config) (p j : ℕ) → TakesTurns D us x z → ComesTo D z → Evaluates z → taking z p ≡ Some b → ComesTo D b → after j [] b ≡ Some y → y.processes.stack ≡ p ∷ [] → m ≡ steps_of us + suc j → Progress D x m y

module _ (D : Design) (runs : OfRuns D) where
  -- behind a turn
  behind : (t : TurnOf) (x w y : Config) (m n : ℕ) → ((us : List TurnOf) (z : Config) → TakesTurns D us w z → TakesTurns D (t ∷ us) x z) → m ≡ suc t.steps + n → Progress D w n y → Progress D x m y
  behind t x w y m n first sum (at_update us z left more turns comes now none run counted) =
      at_update (t ∷ us) z left more (first us z turns) comes now none run (omega (arith, sum, counted))
  behind t x w y m n first sum (between us turns is counted) = between (t ∷ us) (first us y turns) is (omega (arith, sum, counted))
  behind t x w y m n first sum (in_turn us z b p j turns comes now taken comes_b run top counted) =
      in_turn (t ∷ us) z b p j (first us z turns) comes now taken comes_b run top (omega (arith, sum, counted))

  no_more : (j : ℕ) (choices : List ℕ) (b y : Config) → choices ≡ [] → after j choices b ≡ Some y → after j [] b ≡ Some y
  no_more j choices b y none run = ap (λ cs. after j cs b) (sym none) ∙ run

  by_turn : (m p : ℕ) (choices : List ℕ) (x b y : Config) → ComesTo D x → Evaluates x → step x ≡ takes → taking x p ≡ Some b → after m choices b ≡ Some y
      → ((n : ℕ) (own : List ℕ) (w : Config) → n < suc m → ComesTo D w → Evaluates w → after n own w ≡ Some y → Progress D w n y) → IsInTurn p b choices y ⊎ HasTurned D p x m choices y → Progress D x (suc m) y
  by_turn m p choices x b y r now takes_it taken run later (inl h) =
      in_turn [] x b p m (no_turn x) r now taken (comes-by D x b (suc zero) (p ∷ []) r (ap (λ o. and_then o x (p ∷ []) (after zero)) takes_it ∙ ap (λ o. took o (after zero [])) taken)) (no_more m choices b y h.nobody run) h.alone (omega arith)
  by_turn m p choices x b y r now takes_it taken run later (inr h) =
      let left = turn-leaves D runs p h.steps x h.turned r now h.turn in
      let sum = h.counted in
      let t : TurnOf = record { serial = p; steps = h.steps } in
      behind t x h.turned y (suc m) h.left (λ us z turns. turn_then t us x h.turned z h.turn turns) (omega (arith, sum)) (later h.left choices h.turned (omega (arith, sum)) left.comes left.evaluates h.goes_on)

  taken_by : (m p : ℕ) (choices : List ℕ) (x y : Config) → ComesTo D x → Evaluates x → step x ≡ takes → (o : Option Config) → taking x p ≡ o → took o (after m choices) ≡ Some y
      → ((n : ℕ) (own : List ℕ) (w : Config) → n < suc m → ComesTo D w → Evaluates w → after n own w ≡ Some y → Progress D w n y) → Progress D x (suc m) y
  taken_by m p choices x y r now takes_it None at run later = absurd (none-some y run)
  taken_by m p choices x y r now takes_it (Some b) at run later = by_turn m p choices x b y r now takes_it at run later (runs.take_turns r.script r.n r.choices x r.is_run takes_it p b at m choices y run)

  by_runnable : (m : ℕ) (choices : List ℕ) (x y : Config) → ComesTo D x → Evaluates x → after m choices x ≡ Some y → (rs : List ℕ) → x.processes.runnable ≡ rs
      → ((n : ℕ) (own : List ℕ) (w : Config) → n < m → ComesTo D w → Evaluates w → after n own w ≡ Some y → Progress D w n y) → Progress D x m y
  by_runnable m choices x y r now run [] none later = at_update [] x m choices (no_turn x) r now none run (omega arith)
  by_runnable zero [] x y r now run (q ∷ qs) some later =
      subst (λ (w : Config). Progress D x zero w) (same_Some x y run) (between [] (no_turn x) (step-takes x q qs (fits-at D runs x r).not_stopped now some) refl)
  by_runnable zero (p ∷ choices) x y r now run (q ∷ qs) some later = absurd (none-some y run)
  by_runnable (suc m) [] x y r now run (q ∷ qs) some later =
      absurd (none-some y (sym (ap (λ o. and_then o x [] (after m)) (step-takes x q qs (fits-at D runs x r).not_stopped now some)) ∙ run))
  by_runnable (suc m) (p ∷ choices) x y r now run (q ∷ qs) some later =
      let takes_it = step-takes x q qs (fits-at D runs x r).not_stopped now some in
      taken_by m p choices x y r now takes_it (taking x p) refl (sym (ap (λ o. and_then o x (p ∷ choices) (after m)) takes_it) ∙ run) later

  within : (k m : ℕ) → m < k → (choices : List ℕ) (x y : Config) → ComesTo D x → Evaluates x → after m choices x ≡ Some y → Progress D x m y
  within zero m below choices x y r now run = absurd (omega (arith, below))
  within (suc k) m below choices x y r now run =
      by_runnable m choices x y r now run x.processes.runnable refl (λ n own w less comes then_ more. within k n (omega (arith, below, less)) own w y comes then_ more)

  pub progress : (m : ℕ) (choices : List ℕ) (x y : Config) → ComesTo D x → Evaluates x → after m choices x ≡ Some y → Progress D x m y
  progress m choices x y r now run = within (suc m) m (omega arith) choices x y r now run

  -- ---- in a turn

  nobody_on : (j : ℕ) (b y : Config) (o : Outcome) → step b ≡ o → ComesTo D b → b.processes.stack ≡ [] → and_then o b [] (after j) ≡ Some y → ((d : Config) → ComesTo D d → d.processes.stack ≡ [] → after j [] d ≡ Some y → y.processes.stack ≡ [])
      → y.processes.stack ≡ []
  nobody_on j b y (went d) is r empty run later = later d (comes-further D b d r is) (runs.stays_empty r.script r.n r.choices b r.is_run empty d is) run
  nobody_on j b y (faulted f) is r empty run later = absurd (none-some y run)
  nobody_on j b y takes is r empty run later = absurd (none-some y run)
  nobody_on j b y ended is r empty run later = absurd (none-some y run)

  -- where nobody is on the stack, nobody comes there without a choice
  nobody_comes : (j : ℕ) (b y : Config) → ComesTo D b → b.processes.stack ≡ [] → after j [] b ≡ Some y → y.processes.stack ≡ []
  nobody_comes zero b y r empty run = subst (λ (z : Config). z.processes.stack ≡ []) (same_Some b y run) empty
  nobody_comes (suc j) b y r empty run = nobody_on j b y (step b) refl r empty run (λ d comes none more. nobody_comes j d y comes none more)

  alone_evaluates : (b : Config) (p : ℕ) → b.processes.stack ≡ p ∷ [] → (b.cycle.phase ≡ phase.Evaluate) ⊎ (b.processes.stack ≡ []) → b.cycle.phase ≡ phase.Evaluate
  alone_evaluates b p alone (inl now) = now
  alone_evaluates b p alone (inr none) = absurd (no-cons p [] (sym alone ∙ none))

  turn_step : (b d : Config) (p : ℕ) → ComesTo D b → b.processes.stack ≡ p ∷ [] → statement_step b p ≡ Ok d → step b ≡ went d
  turn_step b d p r alone is =
      let f = fits-at D runs b r in evaluated b f.not_stopped (alone_evaluates b p alone f.evaluates) ∙ ap (λ ps. evaluate b ps b.processes.runnable) alone ∙ ap as_outcome is

  -- a run that is in a turn goes on, since the turn does
  pub in-turn : (p k j : ℕ) (b e y : Config) → Turn p k b e → ComesTo D b → after j [] b ≡ Some y → y.processes.stack ≡ p ∷ [] → (j < k) × GoesOn (step y)
  in-turn p _ j _ _ y (over b empty) r run top = absurd (no-cons p [] (sym top ∙ nobody_comes j b y r empty run))
  in-turn p _ zero _ _ y (goes_on n b d e alone is more) r run top =
      (omega arith, subst (λ (z : Config). GoesOn (step z)) (same_Some b y run) (subst GoesOn (sym (turn_step b d p r alone is)) tt))
  in-turn p _ (suc j) _ _ y (goes_on n b d e alone is more) r run top =
      let is_step = turn_step b d p r alone is in
      let later = in-turn p n j d e y more (comes-further D b d r is_step) (sym (ap (λ o. and_then o b [] (after j)) is_step) ∙ run) top in
      (let below = later.0 in omega (arith, below), later.1)
