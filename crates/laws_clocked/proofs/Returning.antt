-- From the throw of an exception that only the try around them catches, a clocked thread's own statements begin again before it leaves
-- the stack.
use Rattle.std.proofs.Common.{◌≡◌, ◌<◌, ℕ, zero, suc, true, false, List, [], ◌∷◌, slice_get, Option, Some, None, refl, sym, ap, ◌∙◌, subst, arith, inl, inr, ⊎_elim}
use Rattle.std.specs.Prelude.{Ok}
use Rattle.std.specs.Result.{IfOk}
use Rattle.std.proofs.lemmas.Option.{none-some, same_Some}
use Rattle.laws_runs.specs.LogicValues.declared.kinds.Value.{Value}
use Rattle.laws_runs.specs.FlatDesign.Code as code
use Rattle.laws_runs.specs.FlatDesign.Code.{Arena, arena_of, statement_at}
use Rattle.laws_runs.specs.FlatDesign.Sound.{SoundDesign}
use Rattle.laws_runs.specs.FlatDesign.declared.design.Design.{Design}
use Rattle.laws_runs.specs.SimModel.Values.{truth}
use Rattle.laws_runs.specs.SimModel.Residual as residual
use Rattle.laws_runs.specs.SimModel.Residual.{Residual, Frame, Next, skip, seq, frame, goal, settle, next_of, statement, in_frame, before_goal}
use Rattle.laws_runs.specs.SimModel.Unwinding.{unw, catches, left_by_unw}
use Rattle.laws_runs.specs.SimModel.Configuration.{Config, Instance, arena, instance_at, with_residual}
use Rattle.laws_runs.specs.SimModel.Calls.{with_left}
use Rattle.laws_runs.specs.SimModel.Statements.{settled_in, do_next, step_by, statement_step, calling_statement}
use Rattle.laws_runs.specs.SimModel.Steps.{Outcome, went, faulted, takes, ended, step}
use Rattle.laws_runs.specs.SimModel.Runs.{after, and_then}
use Rattle.laws_runs.specs.SimModel.Clean.{times}
use Rattle.laws_runs.specs.SimModel.declared.plain.Command.{Command}
use Rattle.laws_runs.specs.SimModel.declared.plain.Goal.{Goal}
use Rattle.laws_runs.specs.SimModel.declared.plain.Goal.TheVariants as goal_of
use Rattle.laws_runs.proofs.Times.{times-here}
use Rattle.laws_runs.proofs.Tight.{IsTight, settle-tight}
use Rattle.laws_runs.proofs.GoalParts.{IsOver, IsInner}
use Rattle.laws_runs.proofs.Roots.{IsRooted, rooted-over, settle-rooted}
use Rattle.laws_runs.proofs.KeptRuns.{sound-run}
use Rattle.laws_runs.proofs.MarkedRuns.{marked-after}
use Rattle.laws_runs.proofs.RunSteps.{step-moves, takes-empty}
use Rattle.laws_clocked.specs.Spots.{IsLeft}
use Rattle.laws_clocked.specs.Stores.{UnwindsSpare}
use Rattle.laws_clocked.specs.Again.{Around, HasAround, trying, unwinding, StandsAt, Stays, no_step, one_more, IsBegun, StaysOrBegins, stays_on, begun_at, BeginsFirst}
use Rattle.laws_clocked.proofs.OwnSteps.{settled-at}
use Rattle.laws_clocked.proofs.SameDesign.{design-went}
use Rattle.laws_clocked.proofs.Ticking.{IsReached, reached-went}
use Rattle.laws_clocked.proofs.Catching.{throw_steps, begins-again}
use Rattle.laws_clocked.proofs.Owed.{owed-settled}
use Rattle.laws_clocked.proofs.Unwinding.{Any, AnyNumber, AnyCall, around-unwinding, Held, bare-not, step-held, left-held, first-held, on-stack}
use Rattle.laws_clocked.proofs.Placed.{Placed, settle-placed}
use Rattle.laws_clocked.proofs.PlacedMoves.{placed-after}
use Rattle.laws_clocked.proofs.Keeping.{IsKeeping, Keeps, next-keeps}
use Rattle.laws_clocked.proofs.Storing.{LeftSo}
use Rattle.laws_clocked.proofs.Undoing.{at_call, spared-next, spared-leaves}

module _ (p : ℕ) (b : Around) where
  abbrev Always : Config → Type 0
  Always c = BeginsFirst c p b

  pub on-top : (rest : List ℕ) (c : Config) → c.processes.stack ≡ p ∷ rest → 0 < times p c.processes.stack
  on-top rest c top = let here = times-here p rest in let on = ap (times p) top in omega (arith, here, on)

  pub shift : (c e d : Config) (n : ℕ) (choices : List ℕ) → step c ≡ went e → StaysOrBegins e d p b n choices → StaysOrBegins c d p b (suc n) choices
  shift c e d n choices now (stays_on on) = stays_on on
  shift c e d n choices now (begun_at k own left y less split there h) = begun_at (suc k) own left y (omega (arith, less)) split (ap (λ o. and_then o c own (after k)) now ∙ there) h

  pub always-went : (c e : Config) → 0 < times p c.processes.stack → step c ≡ went e → Always e → Always c
  always-went c e on now later zero [] d reached = stays_on (subst (λ (z : Config). 0 < times p z.processes.stack) (same_Some c d reached) on)
  always-went c e on now later zero (q ∷ choices) d reached = absurd (none-some d reached)
  always-went c e on now later (suc n) choices d reached = shift c e d n choices now (later n choices d (sym (ap (λ o. and_then o c choices (after n)) now) ∙ reached))

  pub always_begun : (c : Config) → IsBegun c p b → Always c
  always_begun c h n choices d reached = begun_at 0 [] choices c (omega arith) refl refl h

  pub always_stays : (rest : List ℕ) (n : ℕ) (c e : Config) → c.processes.stack ≡ p ∷ rest → Stays (p ∷ rest) n c e → Always e → Always c
  always_stays rest _ c _ top (no_step _) later = later
  always_stays rest _ c e top (one_more n _ d _ now same more) later = always-went c d (on-top rest c top) now (always_stays rest n d e same more later)

  always_over : (c : Config) (e : ℕ) → HasAround (arena c) b e → (rest : List ℕ) (x : Frame) → StandsAt c p rest (unwinding b x skip) → (v : Value) → slice_get x.locals b.again ≡ Some v → truth v ≡ true → Always c
  always_over c e has rest x h v asks is_true =
      let l = begins-again p rest b e x v asks is_true c has h in
      always_stays rest 3 c l.then h.top l.stays (always_begun l.then (record { rest = rest; call = x; stands = l.stands; next = l.next }))

  -- ---- what comes next of what is left

  ends_leaves : (m : Next) (y z : Frame) → in_frame (before_goal m goal_of.Thrown) y ≡ residual.leaves z → before_goal m goal_of.Thrown ≡ residual.leaves z
  ends_leaves (residual.statement t) y z is = is
  ends_leaves (residual.owes t q) y z is = is
  ends_leaves (residual.leaves x) y z is = is
  ends_leaves residual.done y z is = is
  ends_leaves (residual.reaches j) y z is = is
  ends_leaves residual.nothing y z is = is

  pub same-call : (c : Config) (o : Option ℕ) → calling_statement c o ≡ at_call c.design o
  same-call c None = refl
  same-call c (Some s) = refl

  -- ---- a run

  module _ (design : Design) (script : List Command) (sound : SoundDesign design) (v : Value) (is_true : truth v ≡ true) (e f : ℕ) where
    -- the code has the thread's loop, and unwind blocks of its body spare the variable that the loop asks
    abbrev pub InCode : Arena → Type 0
    InCode a = HasAround a b e × UnwindsSpare a f b.again

    pub in-code_went : (c d : Config) → step c ≡ went d → InCode (arena c) → InCode (arena d)
    in-code_went c d now has = subst (λ (z : Design). InCode (arena_of z.code)) (sym (design-went c.design c d (step-moves c d now) refl)) has

    abbrev Slot : Frame → Type 0
    Slot x = IsKeeping b.again v f x

    -- ---- a step of the thread itself, while it is unwound

    module _ (c : Config) (r : IsReached design script c) (has : InCode (arena c)) (h : Held p AnyNumber (unwinding b) (around-unwinding b) Any Slot c.processes.instances) (i : Instance) (at : instance_at c p ≡ Some i) where
      abbrev inner : Residual
      inner = settle (arena c) h.inner

      abbrev body : Residual
      body = seq (goal inner goal_of.Thrown) (b.loops ∷ [])

      abbrev settled : Config
      settled = settled_in c p i.residual

      abbrev own : Instance
      own = record i { residual = settle (arena c) i.residual }

      left_is : settle (arena c) i.residual ≡ frame body h.frame_
      left_is = ap (λ (j : Instance). settle (arena c) j.residual) (same_Some i h.instance (sym at ∙ h.at)) ∙ ap (settle (arena c)) h.left

      placed : Placed c.design false (Some f) inner
      placed =
          let good = placed-after design script sound r.steps r.choices c r.reached in
          let all = subst (Placed c.design false None) left_is (settle-placed c.design false None i.residual (good.1 p i at)) in
          subst (λ g. Placed c.design false (Some g) inner) h.framed.1 all.2.0

      not_outer : (g : Goal) → next_of (frame body h.frame_) ≡ residual.reaches g → IsOver (residual.reaches g) → ⊥
      not_outer g next over =
          let rooted = settle-rooted (arena c) i.started i.residual ((marked-after design script sound r.steps r.choices c r.reached).rooted p i at) in
          bare-not b h.frame_ inner (frame body h.frame_)
          (rooted-over i.started (frame body h.frame_) (subst (IsRooted i.started) left_is rooted) (subst IsTight left_is (settle-tight (arena c) i.residual)) (subst IsOver (sym next) over)) refl

      inner_goal : (g : Goal) → next_of (frame body h.frame_) ≡ residual.reaches g → IsInner g
      inner_goal goal_of.End next = absurd (not_outer goal_of.End next tt)
      inner_goal goal_of.Restart next = absurd (not_outer goal_of.Restart next tt)
      inner_goal goal_of.Thrown next = tt
      inner_goal goal_of.Injected next = tt

      keeps : IfOk (statement_step c p) (λ (d : Config). LeftSo p (Keeps b.again v f) d.processes.instances)
      keeps =
          let owed = owed-settled (arena c) h.inner h.owed in
          subst (λ o. IfOk (step_by c p o) (λ (d : Config). LeftSo p (Keeps b.again v f) d.processes.instances)) (sym at)
          (subst (λ z. IfOk (do_next settled p own z (next_of z)) (λ (d : Config). LeftSo p (Keeps b.again v f) d.processes.instances)) (sym left_is)
          (next-keeps b.again v f p settled body h.frame_ own (settled-at c p i at) left_is h.framed
          (spared-next c.design f b.again has.1 inner goal_of.Thrown b.loops [] owed placed)
          (λ z next. ⊎_elim
          (λ call. inl call)
          (λ spares. inr (λ w there. spares w (sym (same-call settled z.call) ∙ there)))
          (spared-leaves c.design f b.again has.1 inner goal_of.Thrown b.loops [] owed placed z (ends_leaves (next_of inner) h.frame_ z next)))
          inner_goal))

    keeps_held : (c : Config) (r : IsReached design script c) (has : InCode (arena c)) (h : Held p AnyNumber (unwinding b) (around-unwinding b) Any Slot c.processes.instances) (rest : List ℕ) (i : Instance) (d : Config) → c.processes.stack ≡ p ∷ rest → instance_at c p ≡ Some i → statement_step c p ≡ Ok d
        → IsLeft (settle (arena c) h.inner) → Held p AnyNumber (unwinding b) (around-unwinding b) Any AnyCall d.processes.instances → Held p AnyNumber (unwinding b) (around-unwinding b) Any Slot d.processes.instances
    keeps_held c r has h rest i d top at is l z =
        let all = subst (λ m. IfOk m (λ (x : Config). LeftSo p (Keeps b.again v f) x.processes.instances)) is (keeps c r has h i at) in
        record {
          instance = z.instance;
          at = z.at;
          begun = z.begun;
          coded = z.coded;
          frame_ = z.frame_;
          framed = subst (Keeps b.again v f) z.left (all z.instance z.at);
          inner = z.inner;
          owed = z.owed;
          so = z.so;
          left = z.left;
        }

    -- ---- while it is unwound, and from there on

    abbrev Later : ℕ → Type 0
    Later n = (choices : List ℕ) (c d : Config) → IsReached design script c → InCode (arena c) → Held p AnyNumber (unwinding b) (around-unwinding b) Any Slot c.processes.instances → after n choices c ≡ Some d → StaysOrBegins c d p b n choices

    unwound_on : (n : ℕ) → Later n → (choices : List ℕ) (c d : Config) → IsReached design script c → InCode (arena c) → Held p AnyNumber (unwinding b) (around-unwinding b) Any Slot c.processes.instances → (o : Outcome) → step c ≡ o → and_then o c choices (after n) ≡ Some d → StaysOrBegins c d p b (suc n) choices
    unwound_on n later choices c d r has h (went x) now reached = ⊎_elim
        (λ z. shift c x d n choices now (later choices x d (reached-went design script c x r now) (in-code_went c x now has) z reached))
        (λ o. always_over c e has.0 o.rest o.frame_ o.stands v o.framed.0 is_true (suc n) choices d (ap (λ y. and_then y c choices (after n)) now ∙ reached))
        (step-held p AnyNumber (unwinding b) (around-unwinding b) Slot c (sound-run design script sound r.steps r.choices c r.reached) (marked-after design script sound r.steps r.choices c r.reached) h (keeps_held c r has h) x now)
    unwound_on n later choices c d r has h (faulted x) now reached = absurd (none-some d reached)
    unwound_on n later choices c d r has h takes now reached = let on = on-stack p b design script sound Slot c r h in let none = ap (times p) (takes-empty c now) in absurd (omega (arith, on, none))
    unwound_on n later choices c d r has h ended now reached = absurd (none-some d reached)

    unwound : (n : ℕ) → Later n
    unwound zero [] c d r has h reached = stays_on (subst (λ (z : Config). 0 < times p z.processes.stack) (same_Some c d reached) (on-stack p b design script sound Slot c r h))
    unwound zero (q ∷ choices) c d r has h reached = absurd (none-some d reached)
    unwound (suc n) choices c d r has h reached = unwound_on n (unwound n) choices c d r has h (step c) refl reached

    -- ---- from the throw on

    pub always-thrown : (c : Config) → IsReached design script c → InCode (arena c) → (rest : List ℕ) (x : Frame) (r : Residual) → StandsAt c p rest (trying b x r) → (s : ℕ) → next_of r ≡ statement s → statement_at (arena c) s ≡ Some (code.throw e) → catches r e ≡ false
        → Slot x → Always c
    always-thrown c k has rest x r h s next throws none slot =
        let first = with_residual (settled_in c p h.instance.residual) p (unwinding b x (unw r)) in
        let then = with_left first (left_by_unw r) in
        let now = throw_steps c p rest b e has.0 x r h s next throws none in
        always-went c then (on-top rest c h.top) now
        (λ n choices d reached. unwound n choices then d (reached-went design script c then k now) (in-code_went c then now has)
        (left-held p AnyNumber (unwinding b) (around-unwinding b) Slot (left_by_unw r) first (first-held p b Slot c (marked-after design script sound k.steps k.choices c k.reached) rest x r slot h)) reached)
