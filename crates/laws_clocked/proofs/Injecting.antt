-- Where an exception that came from elsewhere unwinds a clocked thread's own statements, these begin again before it leaves the stack,
-- unless it is suspended.
use Rattle.std.proofs.Common.{◌≡◌, ◌⊎◌, ◌<◌, ℕ, zero, suc, Bool, true, false, cond, List, [], ◌∷◌, Some, None, refl, sym, ap, ◌∙◌, subst, arith, inl, inr, ⊎_elim}
use Rattle.std.specs.Prelude.{Ok}
use Rattle.std.specs.Result.{IfOk}
use Rattle.std.proofs.lemmas.Option.{none-some, same_Some}
use Rattle.laws_runs.specs.LogicValues.declared.kinds.Value.{Value}
use Rattle.laws_runs.specs.FlatDesign.Code.{Arena}
use Rattle.laws_runs.specs.FlatDesign.Sound.{SoundDesign}
use Rattle.laws_runs.specs.FlatDesign.declared.design.Design.{Design}
use Rattle.laws_runs.specs.SimModel.Values.{truth}
use Rattle.laws_runs.specs.SimModel.Residual as residual
use Rattle.laws_runs.specs.SimModel.Residual.{Residual, Frame, Next, skip, seq, frame, goal, settle, next_of, statement, in_frame, before_goal}
use Rattle.laws_runs.specs.SimModel.Configuration.{Config, Instance, arena, instance_at, with_residual}
use Rattle.laws_runs.specs.SimModel.Statements.{settled_in, do_next, step_by, statement_step}
use Rattle.laws_runs.specs.SimModel.Steps.{Outcome, went, faulted, takes, ended, step}
use Rattle.laws_runs.specs.SimModel.Runs.{after, and_then}
use Rattle.laws_runs.specs.SimModel.Clean.{times}
use Rattle.laws_runs.specs.SimModel.declared.plain.Command.{Command}
use Rattle.laws_runs.specs.SimModel.declared.plain.Goal.{Goal}
use Rattle.laws_runs.specs.SimModel.declared.plain.Goal.TheVariants as goal_of
use Rattle.laws_runs.proofs.Tight.{IsTight, settle-tight}
use Rattle.laws_runs.proofs.GoalParts.{IsOver, IsInner}
use Rattle.laws_runs.proofs.Roots.{IsRooted, rooted-over, settle-rooted}
use Rattle.laws_runs.proofs.KeptRuns.{sound-run}
use Rattle.laws_runs.proofs.MarkedRuns.{marked-after}
use Rattle.laws_runs.proofs.RunSteps.{takes-empty}
use Rattle.laws_clocked.specs.Spots.{IsLeft}
use Rattle.laws_clocked.specs.Again.{injected_into, IsHeldBack, BeginsUnlessHeldBack, Around, StandsAt, StaysOrBegins, stays_on, BeginsFirst}
use Rattle.laws_clocked.proofs.OwnSteps.{settled-at}
use Rattle.laws_clocked.proofs.Ticking.{IsReached, reached-went}
use Rattle.laws_clocked.proofs.Owed.{owed-settled}
use Rattle.laws_clocked.proofs.Unwinding.{Any, AnyNumber, AnyCall, IsAround, Held, Over, step-held}
use Rattle.laws_clocked.proofs.Placed.{Placed, settle-placed}
use Rattle.laws_clocked.proofs.PlacedMoves.{placed-after}
use Rattle.laws_clocked.proofs.Keeping.{IsKeeping, Keeps, next-keeps}
use Rattle.laws_clocked.proofs.Storing.{LeftSo}
use Rattle.laws_clocked.proofs.Undoing.{spared-next, spared-leaves}
use Rattle.laws_runs.specs.SimModel.Residual.{one, has_goal, put}
use Rattle.laws_runs.specs.SimModel.Unwinding.{returned}
use Rattle.laws_runs.specs.SimModel.Storing.{passes}
use Rattle.laws_runs.specs.SimModel.Control.{stays_kept}
use Rattle.laws_runs.specs.SimModel.Steps.{as_outcome}
use Rattle.laws_runs.specs.Standing.{IsStanding}
use Rattle.laws_runs.proofs.Fine.{fine-at}
use Rattle.laws_runs.proofs.Roots.{IsBare, over_skip, over_frame, over_goal}
use Rattle.laws_runs.proofs.GoalRuns.{goals-after}
use Rattle.laws_clocked.proofs.OwnSteps.{step-top, changed-at}
use Rattle.laws_clocked.proofs.Catching.{loop-begins}
use Rattle.laws_clocked.proofs.Owed.{left_goal}
use Rattle.laws_clocked.proofs.Returning.{InCode, in-code_went, on-top, shift, same-call, always-went, always_begun, always_stays}
use Rattle.laws_clocked.proofs.Resetting.{unwinding-owed, shift-held}

bare_not : (b : Around) (y : Frame) (r q : Residual) → IsBare q → q ≡ injected_into b y r → ⊥
bare_not b y r _ over_skip e = cc
bare_not b y r _ (over_frame x) e = cc
bare_not b y r _ (over_goal k) e = cc

next_inside : (b : Around) (y : Frame) (r : Residual) (n : ℕ) → next_of (injected_into b y r) ≡ statement n → next_of r ≡ statement n
next_inside b y r n = by (next_of r)
  where
    no : residual.reaches goal_of.Injected ≡ statement n → ⊥
    no e = cc

    by : (m : Next) → in_frame (before_goal m goal_of.Injected) y ≡ statement n → m ≡ statement n
    by (residual.statement k) is = is
    by (residual.owes k q) is = is
    by (residual.leaves x) is = is
    by residual.done is = is
    by (residual.reaches k) is = is
    by residual.nothing is = absurd (no is)

around-injected : (b : Around) → IsAround (injected_into b)
around-injected b = record {
  goals = λ y r. refl;
  settles = λ a y r. refl;
  puts = λ y r n l. ap (λ z. frame (seq z (b.loops ∷ [])) y) (left_goal r goal_of.Injected n (put r n) l);
  offs = λ y r. refl;
  returns = λ y r v exit. ap (λ c. cond c (injected_into b y (returned v r)) (frame skip (record y { answer = v }))) exit;
  sets = λ y r f. refl;
  nexts = λ y r n is. next_inside b y r n is;
  bare = λ y r q l bare is. bare_not b y r q bare is;
}

module _ (p : ℕ) (b : Around) where
  ends_leaves : (m : Next) (y z : Frame) → in_frame (before_goal m goal_of.Injected) y ≡ residual.leaves z → before_goal m goal_of.Injected ≡ residual.leaves z
  ends_leaves (residual.statement t) y z is = is
  ends_leaves (residual.owes t q) y z is = is
  ends_leaves (residual.leaves x) y z is = is
  ends_leaves residual.done y z is = is
  ends_leaves (residual.reaches j) y z is = is
  ends_leaves residual.nothing y z is = is

  module _ (design : Design) (script : List Command) (sound : SoundDesign design) (v : Value) (is_true : truth v ≡ true) (e f : ℕ) where
    abbrev Code : Arena → Type 0
    Code a = InCode p b design script sound v is_true e f a

    abbrev Slot : Frame → Type 0
    Slot x = IsKeeping b.again v f x

    -- ---- a step of the thread itself, while it is unwound

    module _ (c : Config) (r : IsReached design script c) (has : Code (arena c)) (h : Held p AnyNumber (injected_into b) (around-injected b) Any Slot c.processes.instances) (i : Instance) (at : instance_at c p ≡ Some i) where
      abbrev inner : Residual
      inner = settle (arena c) h.inner

      abbrev body : Residual
      body = seq (goal inner goal_of.Injected) (b.loops ∷ [])

      abbrev settled : Config
      settled = settled_in c p i.residual

      abbrev own : Instance
      own = record i { residual = settle (arena c) i.residual }

      left_is : settle (arena c) i.residual ≡ frame body h.frame_
      left_is = ap (λ (j : Instance). settle (arena c) j.residual) (same_Some i h.instance (sym at ∙ h.at)) ∙ ap (settle (arena c)) h.left

      placed : Placed c.design false (Some f) inner
      placed =
          let good = placed-after design script sound r.steps r.choices c r.reached in
          let all = subst (Placed c.design false None) left_is (settle-placed c.design false None i.residual (good.1 p i at)) in
          subst (λ g. Placed c.design false (Some g) inner) h.framed.1 all.2.0

      not_outer : (g : Goal) → next_of (frame body h.frame_) ≡ residual.reaches g → IsOver (residual.reaches g) → ⊥
      not_outer g next over =
          let rooted = settle-rooted (arena c) i.started i.residual ((marked-after design script sound r.steps r.choices c r.reached).rooted p i at) in
          bare_not b h.frame_ inner (frame body h.frame_)
          (rooted-over i.started (frame body h.frame_) (subst (IsRooted i.started) left_is rooted) (subst IsTight left_is (settle-tight (arena c) i.residual)) (subst IsOver (sym next) over)) refl

      inner_goal : (g : Goal) → next_of (frame body h.frame_) ≡ residual.reaches g → IsInner g
      inner_goal goal_of.End next = absurd (not_outer goal_of.End next tt)
      inner_goal goal_of.Restart next = absurd (not_outer goal_of.Restart next tt)
      inner_goal goal_of.Thrown next = tt
      inner_goal goal_of.Injected next = tt

      keeps : IfOk (statement_step c p) (λ (d : Config). LeftSo p (Keeps b.again v f) d.processes.instances)
      keeps =
          let owed = owed-settled (arena c) h.inner h.owed in
          subst (λ o. IfOk (step_by c p o) (λ (d : Config). LeftSo p (Keeps b.again v f) d.processes.instances)) (sym at)
          (subst (λ z. IfOk (do_next settled p own z (next_of z)) (λ (d : Config). LeftSo p (Keeps b.again v f) d.processes.instances)) (sym left_is)
          (next-keeps b.again v f p settled body h.frame_ own (settled-at c p i at) left_is h.framed
          (spared-next c.design f b.again has.1 inner goal_of.Injected b.loops [] owed placed)
          (λ z next. ⊎_elim
          (λ call. inl call)
          (λ spares. inr (λ w there. spares w (sym (same-call p b settled z.call) ∙ there)))
          (spared-leaves c.design f b.again has.1 inner goal_of.Injected b.loops [] owed placed z (ends_leaves (next_of inner) h.frame_ z next)))
          inner_goal))

    keeps_held : (c : Config) (r : IsReached design script c) (has : Code (arena c)) (h : Held p AnyNumber (injected_into b) (around-injected b) Any Slot c.processes.instances) (rest : List ℕ) (i : Instance) (d : Config) → c.processes.stack ≡ p ∷ rest → instance_at c p ≡ Some i → statement_step c p ≡ Ok d
        → IsLeft (settle (arena c) h.inner) → Held p AnyNumber (injected_into b) (around-injected b) Any AnyCall d.processes.instances → Held p AnyNumber (injected_into b) (around-injected b) Any Slot d.processes.instances
    keeps_held c r has h rest i d top at is l z =
        let all = subst (λ m. IfOk m (λ (x : Config). LeftSo p (Keeps b.again v f) x.processes.instances)) is (keeps c r has h i at) in
        record {
          instance = z.instance;
          at = z.at;
          begun = z.begun;
          coded = z.coded;
          frame_ = z.frame_;
          framed = subst (Keeps b.again v f) z.left (all z.instance z.at);
          inner = z.inner;
          owed = z.owed;
          so = z.so;
          left = z.left;
        }

    -- ---- where it is over

    over_begins : (c : Config) → IsReached design script c → Code (arena c) → (rest : List ℕ) (x : Frame) → Slot x → (h : StandsAt c p rest (injected_into b x skip)) → h.instance.suspended ≡ false → BeginsFirst c p b
    over_begins c r has rest x slot h on =
        let old = settled_in c p h.instance.residual in
        let n = frame (seq skip (b.loops ∷ [])) x in
        let d = with_residual old p n in
        let i = record h.instance { residual = injected_into b x skip } in
        let now : step c ≡ went d =
        step-top c p rest h.runs h.evaluates h.top
        ∙ ap as_outcome (ap (step_by c p) h.at ∙ ap (λ (z : Residual). do_next old p (record h.instance { residual = z }) z (next_of z)) h.left)
        ∙ ap (λ s. went (cond s (stays_kept (passes old p (injected_into b x skip)) p) d)) on in
        let stands : StandsAt d p rest (frame (one b.loops) x) = record {
          runs = h.runs;
          evaluates = h.evaluates;
          top = h.top;
          instance = record h.instance { residual = n };
          at = changed-at c p h.instance h.at (λ j. record j { residual = n });
          left = refl;
        } in
        let l = loop-begins p rest b e x v slot.0 is_true d has.0 stands in
        always-went p b c d (on-top p b rest c h.top) now (always_stays p b rest 2 d l.then h.top l.stays (always_begun p b l.then (record { rest = rest; call = x; stands = l.stands; next = l.next })))

    -- ---- while it is unwound

    abbrev Injected : Config → Type 0
    Injected c = Held p AnyNumber (injected_into b) (around-injected b) Any Slot c.processes.instances

    on_stack : (c : Config) → IsReached design script c → Injected c → 0 < times p c.processes.stack
    on_stack c r h = (goals-after design script sound r.steps r.choices c r.reached).goal_is_active p h.instance h.at (ap has_goal h.left)

    abbrev Ends : ℕ → List ℕ → Config → Config → Type 0
    Ends n choices c d = StaysOrBegins c d p b n choices ⊎ IsHeldBack c p n choices

    abbrev Later : ℕ → Type 0
    Later n = (choices : List ℕ) (c d : Config) → IsReached design script c → Code (arena c) → Injected c → after n choices c ≡ Some d → Ends n choices c d

    over_by : (n : ℕ) (choices : List ℕ) (c d : Config) → IsReached design script c → Code (arena c) → (o : Over p AnyNumber (injected_into b) (around-injected b) Slot c) → (s : Bool) → o.stands.instance.suspended ≡ s → after (suc n) choices c ≡ Some d → Ends (suc n) choices c d
    over_by n choices c d r has o true is reached =
        inr (record { before = 0; own = []; behind = choices; then = c; less = omega arith; split = refl; reached = refl; rest = o.rest; left = injected_into b o.frame_ skip; stands = o.stands; end = goal_of.Injected; comes = refl; is_suspended = is })
    over_by n choices c d r has o false is reached = inl (over_begins c r has o.rest o.frame_ o.framed o.stands is (suc n) choices d reached)

    unwound_on : (n : ℕ) → Later n → (choices : List ℕ) (c d : Config) → IsReached design script c → Code (arena c) → Injected c → (o : Outcome) → step c ≡ o → and_then o c choices (after n) ≡ Some d → Ends (suc n) choices c d
    unwound_on n later choices c d r has h (went x) now reached = ⊎_elim
        (λ z. ⊎_elim (λ k. inl (shift p b c x d n choices now k)) (λ w. inr (shift-held design script sound p b e f c x n choices now w)) (later choices x d (reached-went design script c x r now) (in-code_went p b design script sound v is_true e f c x now has) z reached))
        (λ o. over_by n choices c d r has o o.stands.instance.suspended refl (ap (λ y. and_then y c choices (after n)) now ∙ reached))
        (step-held p AnyNumber (injected_into b) (around-injected b) Slot c (sound-run design script sound r.steps r.choices c r.reached) (marked-after design script sound r.steps r.choices c r.reached) h (keeps_held c r has h) x now)
    unwound_on n later choices c d r has h (faulted x) now reached = absurd (none-some d reached)
    unwound_on n later choices c d r has h takes now reached = let on = on_stack c r h in let none = ap (times p) (takes-empty c now) in absurd (omega (arith, on, none))
    unwound_on n later choices c d r has h ended now reached = absurd (none-some d reached)

    unwound : (n : ℕ) → Later n
    unwound zero [] c d r has h reached = inl (stays_on (subst (λ (z : Config). 0 < times p z.processes.stack) (same_Some c d reached) (on_stack c r h)))
    unwound zero (q ∷ choices) c d r has h reached = absurd (none-some d reached)
    unwound (suc n) choices c d r has h reached = unwound_on n (unwound n) choices c d r has h (step c) refl reached

    begun_frame : (s : Bool) (x : Frame) (r : Residual) → IsRooted s (injected_into b x r) → s ≡ true
    begun_frame true x r h = refl
    begun_frame false x r h = absurd h

    pub injected-begins : (c : Config) → IsReached design script c → Code (arena c) → (i : Instance) → instance_at c p ≡ Some i → (x : Frame) (r : Residual) → i.residual ≡ injected_into b x r → Slot x → BeginsUnlessHeldBack c p b
    injected-begins c k has i at x r left slot n choices d reached =
        let s = sound-run design script sound k.steps k.choices c k.reached in
        let standing = subst (IsStanding c.design i.home) left (fine-at c.design c.processes p i at s.1).standing in
        let begun = begun_frame i.started x r (subst (IsRooted i.started) left ((marked-after design script sound k.steps k.choices c k.reached).rooted p i at)) in
        unwound n choices c d k has
        (record { instance = i; at = at; begun = begun; coded = tt; frame_ = x; framed = slot; inner = r; owed = unwinding-owed c.design _ r standing.1.0; so = tt; left = left }) reached
