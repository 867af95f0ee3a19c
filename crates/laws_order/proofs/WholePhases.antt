-- An evaluation phase of a run is made of turns.
use Rattle.std.proofs.Common.{◌≡◌, ◌≤◌, ◌<◌, length, inl, inr, ℕ, zero, suc, ◌+◌, Bool, true, false, cond, List, [], ◌∷◌, ◌++◌, Option, Some, None, refl, sym, ap, ◌∙◌, subst, arith}
use Rattle.std.specs.Prelude.{◌⊎◌, IsPermutation}
use Rattle.std.proofs.lemmas.Option.{none-some, same_Some}
use Rattle.std.proofs.lemmas.List.Sorted.{IsPermutation-refl, IsPermutation-cons, IsPermutation-trans}
use Rattle.sim_model.specs.FlatDesign.declared.design.Design.{Design}
use Rattle.sim_model.specs.Configuration.{Config, Cycle, start}
use Rattle.sim_model.specs.Waits.{holds, without}
use Rattle.sim_model.specs.Steps.{Outcome, ended, takes, evaluate, step_in, step, taken_if, taking}
use Rattle.sim_model.specs.Runs.{took, and_then, after}
use Rattle.sim_model.specs.declared.plain.Phase.TheVariants as phase
use Rattle.sim_model.specs.declared.plain.Command.{Command}
use Rattle.laws_runs.proofs.Splits.{joined}
use Rattle.laws_runs.proofs.CleanRuns.{clean-after, live-taken}
use Rattle.order_free.specs.Free.{Uses, Free}
use Rattle.laws_order.specs.Turns.{TakesTurn}
use Rattle.laws_order.specs.Fits.{Fits}
use Rattle.laws_order.specs.Turned.{IsInTurn, HasTurned}
use Rattle.laws_order.specs.Evaluated.{TurnOf, TakesTurns, no_turn, turn_then, serials_of, steps_of, HasEvaluated}
use Rattle.laws_order.proofs.Once.{one-out}
use Rattle.laws_order.proofs.WholeTurns.{begins, turn-empties}
use Rattle.laws_order.proofs.WholeRuns.{fits, turns, is-run, leaves-ready}

-- who is taken was runnable
pub taken-held : (c b : Config) (p : ℕ) (held : Bool) → taken_if c p held ≡ Some b → held ≡ true
taken-held c b p true is = refl
taken-held c b p false is = absurd (none-some b is)

module _ (d : Design) (free : Free d) where
  -- a run comes to this configuration, in an evaluation phase with nobody on the stack
  pub record IsAtRest (c : Config) : Type 0 where
    pub script : List Command
    pub steps : ℕ
    pub choices : List ℕ
    pub run : after steps choices (start d script) ≡ Some c
    pub evaluating : c.cycle.phase ≡ phase.Evaluate
    pub empty : c.processes.stack ≡ []

  pub rest-fits : (c : Config) → IsAtRest c → Fits d c
  rest-fits c r = fits d r.script free r.steps r.choices c r.run

  -- ---- who comes next is taken

  step_resting : (c : Config) → IsAtRest c → (runnable : List ℕ) → c.processes.runnable ≡ runnable → step c ≡ evaluate c [] runnable
  step_resting c r runnable is =
      ap (λ b. cond b ended (step_in c c.cycle.phase)) (rest-fits c r).not_stopped ∙ ap (step_in c) r.evaluating ∙ ap (λ (stack : List ℕ). evaluate c stack c.processes.runnable) r.empty ∙ ap (λ (ready : List ℕ). evaluate c [] ready) is

  takes_by : (c b : Config) (p : ℕ) → IsAtRest c → taking c p ≡ Some b → (runnable : List ℕ) → c.processes.runnable ≡ runnable → step c ≡ takes
  takes_by c b p r taken [] is = absurd (none-some b (ap (λ (ready : List ℕ). taken_if c p (holds ready p)) (sym is) ∙ taken))
  takes_by c b p r taken (q ∷ qs) is = step_resting c r (q ∷ qs) is

  -- ---- where a turn ends

  module _ (c b : Config) (p : ℕ) (r : IsAtRest c) (now : step c ≡ takes) (taken : taking c p ≡ Some b) (k : ℕ) (f : Config) (turn : TakesTurn (Uses d p) p k c f) where
    turned_run : after (suc k) (p ∷ []) c ≡ Some f
    turned_run = is-run d r.script free r.steps r.choices c r.run now p k f turn

    turned_ready : (f.processes.runnable ≡ without c.processes.runnable p) × (f.cycle ≡ c.cycle)
    turned_ready = leaves-ready d r.script free r.steps r.choices c r.run now p k f turn

    turned_empty : f.processes.stack ≡ []
    turned_empty = turn-empties d free p (begun_among) k turn.begun f turn.turn
      where
        begun_among : p < length d.processes
        begun_among = let live = live-taken d r.script r.steps r.choices c r.run p b taken in (begins d free p c b (rest-fits c r) now live.instance live.made taken).among

    rests_then : IsAtRest f
    rests_then = record {
      script = r.script;
      steps = r.steps + suc k;
      choices = r.choices ++ p ∷ [];
      run = joined r.steps (suc k) r.choices (p ∷ []) (start d r.script) c r.run ∙ turned_run;
      evaluating = ap (λ (x : Cycle). x.phase) turned_ready.1 ∙ r.evaluating;
      empty = turned_empty;
    }

    others_left : IsPermutation c.processes.runnable (p ∷ f.processes.runnable)
    others_left =
        let most = (clean-after d r.script r.steps r.choices c r.run).once p in
        subst (λ (xs : List ℕ). IsPermutation c.processes.runnable (p ∷ xs)) (sym turned_ready.0) (one-out p c.processes.runnable (taken-held c b p (holds c.processes.runnable p) taken) (omega (arith, most)))

  pub rests-behind : (c : Config) (p k : ℕ) (f : Config) → IsAtRest c → TakesTurn (Uses d p) p k c f → IsAtRest f
  rests-behind c p k f r turn = rests_then c turn.begun p r (takes_by c turn.begun p r turn.taken c.processes.runnable refl) turn.taken k f turn

  pub ready-behind : (c : Config) (p k : ℕ) (f : Config) → IsAtRest c → TakesTurn (Uses d p) p k c f → f.processes.runnable ≡ without c.processes.runnable p
  ready-behind c p k f r turn = (turned_ready c turn.begun p r (takes_by c turn.begun p r turn.taken c.processes.runnable refl) turn.taken k f turn).0

  -- ---- a phase

  abbrev pub Evaluated : Config → ℕ → List ℕ → Config → Type 0
  Evaluated c m choices e = (e.cycle ≡ c.cycle) ⊎ HasEvaluated d c m choices e

  quiet : (m : ℕ) (choices : List ℕ) (c e : Config) → IsAtRest c → c.processes.runnable ≡ [] → after m choices c ≡ Some e → Evaluated c m choices e
  quiet m choices c e r nobody reached = inr (record {
    turns = [];
    each = subst (λ (xs : List ℕ). IsPermutation c.processes.runnable xs) nobody (IsPermutation-refl c.processes.runnable);
    turned = c;
    taken = no_turn c;
    nobody = nobody;
    empty = r.empty;
    cycle = refl;
    left = m;
    counted = omega arith;
    more = choices;
    chosen = refl;
    goes_on = reached;
  })

  module _ (fuel : ℕ) (later : (m : ℕ) → m ≤ fuel → (choices : List ℕ) (c e : Config) → IsAtRest c → after m choices c ≡ Some e → Evaluated c m choices e) (m : ℕ) (few : m ≤ fuel) (more : List ℕ) (p : ℕ) (c e : Config) (r : IsAtRest c) (now : step c ≡ takes) (b : Config) (taken : taking c p ≡ Some b) where
    behind : (k l : ℕ) (f : Config) → k + l ≡ m → (turn : TakesTurn (Uses d p) p k c f) → Evaluated f l more e → Evaluated c (suc m) (p ∷ more) e
    behind k l f sum turn (inl same) = inl (same ∙ (turned_ready c b p r now taken k f turn).1)
    behind k l f sum turn (inr g) =
        let t : TurnOf = record { serial = p; steps = k } in
        let rest = g.counted in
        inr (record {
          turns = t ∷ g.turns;
          each = IsPermutation-trans c.processes.runnable (p ∷ f.processes.runnable) (p ∷ serials_of g.turns) (others_left c b p r now taken k f turn) (IsPermutation-cons p f.processes.runnable (serials_of g.turns) g.each);
          turned = g.turned;
          taken = turn_then t g.turns c f g.turned turn g.taken;
          nobody = g.nobody;
          empty = g.empty;
          cycle = g.cycle ∙ (turned_ready c b p r now taken k f turn).1;
          left = g.left;
          counted = omega (arith, rest, sum);
          more = g.more;
          chosen = ap (λ (xs : List ℕ). p ∷ xs) g.chosen;
          goes_on = g.goes_on;
        })

    after_taking : IsInTurn p b more e ⊎ HasTurned d p c m more e → Evaluated c (suc m) (p ∷ more) e
    after_taking (inl t) =
        let live = live-taken d r.script r.steps r.choices c r.run p b taken in
        inl (t.cycle ∙ (begins d free p c b (rest-fits c r) now live.instance live.made taken).cycle)
    after_taking (inr t) =
        let sum = t.counted in
        behind t.steps t.left t.turned sum t.turn (later t.left (omega (arith, sum, few)) more t.turned e (rests_then c b p r now taken t.steps t.turned t.turn) t.goes_on)

    pub one-taking : after m more b ≡ Some e → Evaluated c (suc m) (p ∷ more) e
    one-taking reached = after_taking (turns d r.script free r.steps r.choices c r.run now p b taken m more e reached)

  choose : (fuel : ℕ) → ((m : ℕ) → m ≤ fuel → (choices : List ℕ) (c e : Config) → IsAtRest c → after m choices c ≡ Some e → Evaluated c m choices e) → (m : ℕ) → m ≤ fuel → (choices : List ℕ) (c e : Config) → IsAtRest c → step c ≡ takes
      → and_then takes c choices (after m) ≡ Some e → Evaluated c (suc m) choices e
  choose fuel later m few [] c e r now reached = absurd (none-some e reached)
  choose fuel later m few (p ∷ more) c e r now reached = by (taking c p) refl reached
    where
      by : (o : Option Config) → taking c p ≡ o → took o (after m more) ≡ Some e → Evaluated c (suc m) (p ∷ more) e
      by None taken left = absurd (none-some e left)
      by (Some b) taken left = one-taking fuel later m few more p c e r now b taken left

  -- by how many steps there are at most
  evaluated : (fuel m : ℕ) → m ≤ fuel → (choices : List ℕ) (c e : Config) → IsAtRest c → (runnable : List ℕ) → c.processes.runnable ≡ runnable → after m choices c ≡ Some e → Evaluated c m choices e
  evaluated fuel m few choices c e r [] is reached = quiet m choices c e r is reached
  evaluated fuel zero few [] c e r (q ∷ qs) is reached = inl (ap (λ (x : Config). x.cycle) (sym (same_Some c e reached)))
  evaluated fuel zero few (p ∷ choices) c e r (q ∷ qs) is reached = absurd (none-some e reached)
  evaluated zero (suc m) few choices c e r (q ∷ qs) is reached = absurd (omega (arith, few))
  evaluated (suc fuel) (suc m) few choices c e r (q ∷ qs) is reached =
      choose fuel (λ n fewer left x y k. evaluated fuel n fewer left x y k x.processes.runnable refl) m (omega (arith, few)) choices c e r (step_resting c r (q ∷ qs) is)
      (subst (λ (o : Outcome). and_then o c choices (after m) ≡ Some e) (step_resting c r (q ∷ qs) is) reached)

  pub phase-evaluated : (script : List Command) (n : ℕ) (first : List ℕ) (c : Config) → after n first (start d script) ≡ Some c → c.cycle.phase ≡ phase.Evaluate → c.processes.stack ≡ []
      → (m : ℕ) (choices : List ℕ) (e : Config) → after m choices c ≡ Some e → Evaluated c m choices e
  phase-evaluated script n first c run evaluating empty m choices e reached =
      evaluated m m (omega arith) choices c e (record { script = script; steps = n; choices = first; run = run; evaluating = evaluating; empty = empty }) c.processes.runnable refl reached

  -- ---- the other way about

  turns_run : (ts : List TurnOf) (c f : Config) → IsAtRest c → TakesTurns d ts c f → after (steps_of ts) (serials_of ts) c ≡ Some f
  turns_run _ _ _ r (no_turn c) = refl
  turns_run _ _ _ r (turn_then t ts c e f turn more) =
      let now = takes_by c turn.begun t.serial r turn.taken c.processes.runnable refl in
      joined (suc t.steps) (steps_of ts) (t.serial ∷ []) (serials_of ts) c e (turned_run c turn.begun t.serial r now turn.taken t.steps e turn)
      ∙ turns_run ts e f (rests_then c turn.begun t.serial r now turn.taken t.steps e turn) more

  pub phase-run : (script : List Command) (n : ℕ) (first : List ℕ) (c : Config) → after n first (start d script) ≡ Some c → c.cycle.phase ≡ phase.Evaluate → c.processes.stack ≡ []
      → (ts : List TurnOf) (f : Config) → TakesTurns d ts c f → after (steps_of ts) (serials_of ts) c ≡ Some f
  phase-run script n first c run evaluating empty ts f turns_ = turns_run ts c f (record { script = script; steps = n; choices = first; run = run; evaluating = evaluating; empty = empty }) turns_
