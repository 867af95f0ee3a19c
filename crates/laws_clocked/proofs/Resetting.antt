-- Where a reset unwinds all of a clocked thread, its own statements begin before it leaves the stack, unless it is suspended.
use Rattle.std.proofs.Common.{◌≡◌, ◌⊎◌, ◌<◌, ℕ, zero, suc, Bool, true, false, cond, List, [], ◌∷◌, slice_get, get_or, Option, Some, None, refl, sym, ap, ◌∙◌, subst, arith, inl, inr, ⊎_elim}
use Rattle.std.specs.Prelude.{Ok}
use Rattle.std.proofs.lemmas.Option.{none-some, same_Some, slice_get_within, slice_get-get_or}
use Rattle.laws_runs.specs.LogicValues.declared.kinds.Value.{Value}
use Rattle.laws_runs.specs.LogicValues.declared.kinds.Value.TheVariants as value
use Rattle.laws_runs.specs.EventCore.declared.event.Ev.{Ev}
use Rattle.laws_runs.specs.EventCore.declared.event.Ev.TheVariants as ev
use Rattle.laws_runs.specs.FlatDesign.Code as code
use Rattle.laws_runs.specs.FlatDesign.Code.{Arena, arena_of, block_at, body_at}
use Rattle.laws_runs.specs.FlatDesign.Sound.{SoundDesign}
use Rattle.laws_runs.specs.FlatDesign.declared.design.Design.{Design}
use Rattle.laws_runs.specs.FlatDesign.declared.code.CodeBody.{CodeBody}
use Rattle.laws_runs.specs.FlatDesign.declared.value_types.ValueType.TheVariants as type
use Rattle.laws_runs.specs.SimModel.Residual.{Residual, Frame, skip, one, seq, owing, shell, run, frame, goal, statements, settle, put, next_of, in_innermost, has_goal, begun, entered_in, frame_of}
use Rattle.laws_runs.specs.SimModel.Configuration.{Config, Instance, arena, instance_at}
use Rattle.laws_runs.specs.SimModel.Waits.{fire}
use Rattle.laws_runs.specs.SimModel.Storing.{passes, with_local, set_local, first_value}
use Rattle.laws_runs.specs.SimModel.Control.{begins, stays_kept}
use Rattle.laws_runs.specs.SimModel.Statements.{settled_in}
use Rattle.laws_runs.specs.SimModel.Steps.{Outcome, went, faulted, takes, ended, as_outcome, step}
use Rattle.laws_runs.specs.SimModel.Runs.{after, and_then}
use Rattle.laws_runs.specs.SimModel.Clean.{times}
use Rattle.laws_runs.specs.SimModel.declared.plain.Command.{Command}
use Rattle.laws_runs.specs.SimModel.declared.plain.Goal.{Goal}
use Rattle.laws_runs.specs.SimModel.declared.plain.Goal.TheVariants as goal_of
use Rattle.laws_runs.specs.Standing.{IsUnwinding, IsStanding}
use Rattle.laws_runs.proofs.Changes.{set-here, change-here}
use Rattle.laws_runs.proofs.MarkLemmas.{before_statement}
use Rattle.laws_runs.proofs.Fine.{fine-at}
use Rattle.laws_runs.proofs.Roots.{IsBare, over_skip, over_frame, over_goal}
use Rattle.laws_runs.proofs.GoalRuns.{goals-after}
use Rattle.laws_runs.proofs.KeptRuns.{sound-run}
use Rattle.laws_runs.proofs.MarkedRuns.{marked-after}
use Rattle.laws_runs.proofs.RunSteps.{step-moves, takes-empty}
use Rattle.laws_runs.proofs.WakeMoves.{fire-keeps}
use Rattle.laws_clocked.specs.Spots.{IsLeft}
use Rattle.laws_clocked.specs.Again.{Around, StandsAt, StaysOrBegins, stays_on, BeginsFirst, IsHeldBack, BeginsUnlessHeldBack}
use Rattle.laws_clocked.specs.Clocked.{HasClocked}
use Rattle.laws_clocked.proofs.OwnSteps.{step-top, carries, changed-twice}
use Rattle.laws_clocked.proofs.Restarting as again
use Rattle.laws_clocked.proofs.SameDesign.{design-went}
use Rattle.laws_clocked.proofs.Ticking.{IsReached, reached-went}
use Rattle.laws_clocked.proofs.Catching.{loop-begins}
use Rattle.laws_clocked.proofs.Owed.{IsOwed, left_goal}
use Rattle.laws_clocked.proofs.Unwinding.{Any, AnyCall, IsAround, Held, Over, step-held}
use Rattle.laws_clocked.proofs.Placed.{IsNumber, Placed, settle-placed}
use Rattle.laws_clocked.proofs.PlacedMoves.{placed-after}
use Rattle.laws_clocked.proofs.Returning.{on-top, shift, always-went, always_begun, always_stays}

-- ---- what a reset unwinds

abbrev pub Resetting : Frame → Residual → Residual
Resetting y r = goal r goal_of.Restart

same_goal : (q r : Residual) (k j : Goal) → goal q k ≡ goal r j → q ≡ r
same_goal q r k j is = cc

not_goal : (r : Residual) → skip ≡ goal r goal_of.Restart → ⊥
not_goal r is = cc

frame_not : (x : Frame) (r : Residual) → frame skip x ≡ goal r goal_of.Restart → ⊥
frame_not x r is = cc

bare_left : (r q : Residual) → IsLeft r → IsBare q → q ≡ goal r goal_of.Restart → ⊥
bare_left r _ l over_skip is = not_goal r is
bare_left r _ l (over_frame x) is = frame_not x r is
bare_left r _ l (over_goal k) is = subst IsLeft (sym (same_goal skip r k goal_of.Restart is)) l

around-reset : IsAround Resetting
around-reset = record {
  goals = λ y r. refl;
  settles = λ a y r. refl;
  puts = λ y r n l. left_goal r goal_of.Restart n (put r n) l;
  offs = λ y r. refl;
  returns = λ y r v exit. refl;
  sets = λ y r f. refl;
  nexts = λ y r n is. before_statement (next_of r) goal_of.Restart n is;
  bare = λ y r q l bare is. bare_left r q l bare is;
}

pub unwinding-owed : (d : Design) (home : ℕ) (r : Residual) → IsUnwinding d home r → IsOwed r
unwinding-owed d home skip h = tt
unwinding-owed d home (owing r g u) h = unwinding-owed d home r h.0
unwinding-owed d home (shell r x) h = unwinding-owed d _ r h.1
unwinding-owed d home (run g r) h = tt
unwinding-owed d home other h = absurd h

no_call : Frame
no_call = record { body = 0; locals = []; answer = None; call = None; via = None }

fired_cycle : (d : Config) (x : Ev) → (fire d x).cycle ≡ d.cycle
fired_cycle d x = fire-keeps (λ (y : Config). y.cycle ≡ d.cycle) (record { joins = λ y n j may on z. z; keeps = λ y n j may on z. z; strikes = λ y n es j all at is z. z }) d x refl

module _ (design : Design) (script : List Command) (sound : SoundDesign design) (p : ℕ) (b : Around) (e f : ℕ) where
  abbrev Code : Arena → Type 0
  Code a = HasClocked a b e f

  code_went : (c d : Config) → step c ≡ went d → Code (arena c) → Code (arena d)
  code_went c d now has = subst (λ (z : Design). Code (arena_of z.code)) (sym (design-went c.design c d (step-moves c d now) refl)) has

  abbrev first_so : Value
  first_so = first_value type.Bool (Some (value.Bool true))

  -- ---- the body begins

  module _ (c : Config) (r : IsReached design script c) (has : Code (arena c)) (rest : List ℕ) (x : Frame) (same : x.body ≡ f) (h : StandsAt c p rest (frame (seq (one has.declares) (b.loops ∷ [])) x)) where
    abbrev left : Residual
    left = settle (arena c) h.instance.residual

    abbrev declared : Config
    declared = set_local (passes (settled_in c p h.instance.residual) p left) p b.again first_so

    declares : step c ≡ went declared
    declares =
        step-top c p rest h.runs h.evaluates h.top
        ∙ ap as_outcome (carries c p h.instance h.at has.declares (code.var b.again type.Bool (Some (code.literal (value.Bool true)))) (ap next_of h.left) has.first_true)

    -- the variable has its place
    placed : Placed c.design false None (frame (seq (one has.declares) (b.loops ∷ [])) x)
    placed = subst (Placed c.design false None) h.left (settle-placed c.design false None h.instance.residual ((placed-after design script sound r.steps r.choices c r.reached).1 p h.instance h.at))

    there : (w : Value) × (slice_get x.locals b.again ≡ Some w)
    there =
        let own : IsNumber c.design false x.body has.declares = placed.2.0 in
        let s = placed-after design script sound r.steps r.choices c r.reached in
        let typed = s.0.0.typed x.body own.body own.is_body.home (code.var b.again type.Bool (Some (code.literal (value.Bool true)))) own.is_body.found own.is_body.home_of
        (own.stands (code.var b.again type.Bool (Some (code.literal (value.Bool true)))) has.first_true) in
        let within = slice_get_within own.body.locals b.again typed.0.0 typed.0.1 in
        let many = placed.0 own.body own.is_body.found in
        (get_or x.locals b.again (value.Bool false), slice_get-get_or x.locals b.again (value.Bool false) (omega (arith, within, many)))

    loop_stands : StandsAt declared p rest (frame (one b.loops) (with_local b.again first_so x))
    loop_stands = record {
      runs = h.runs;
      evaluates = h.evaluates;
      top = h.top;
      instance = record h.instance { residual = in_innermost (with_local b.again first_so) (put left skip) };
      at = changed-twice c p h.instance h.at (λ j. record j { residual = put left skip }) (λ j. record j { residual = in_innermost (with_local b.again first_so) j.residual });
      left = ap (λ z. settle (arena c) (in_innermost (with_local b.again first_so) (put z skip))) h.left;
    }

    start-begins : BeginsFirst c p b
    start-begins =
        let y = with_local b.again first_so x in
        let l = loop-begins p rest b e y first_so (set-here x.locals b.again there.0 first_so there.1) refl declared has.around loop_stands in
        always-went p b c declared (on-top p b rest c h.top) declares
        (always_stays p b rest 2 declared l.then h.top l.stays (always_begun p b l.then (record { rest = rest; call = y; stands = l.stands; next = l.next })))

  begun_as : (a : Arena) (has : Code a) (args : List Value) (m : Option CodeBody) → body_at a f ≡ m → (x : Frame) × (entered_in a f args None None m ≡ frame (seq (one has.declares) (b.loops ∷ [])) x) × (x.body ≡ f)
  begun_as a has args None at = absurd (none-some has.body (sym at ∙ has.found))
  begun_as a has args (Some y) at =
      let same : y ≡ has.body = same_Some y has.body (sym at ∙ has.found) in
      (frame_of f args None None y.locals, ap (λ ss. frame (statements ss) (frame_of f args None None y.locals)) (ap (λ (z : CodeBody). block_at a z.block) same ∙ has.begins), refl)

  -- all is unwound, and it is not suspended
  anew-begins : (c : Config) → IsReached design script c → Code (arena c) → (rest : List ℕ) → (h : StandsAt c p rest (goal skip goal_of.Restart)) → h.instance.code ≡ f → h.instance.suspended ≡ false → BeginsFirst c p b
  anew-begins c r has rest h same on =
      let i = h.instance in
      let next = ap next_of h.left in
      let fired = again.fired c p i h.at next in
      let own = again.own c p i h.at next in
      let z = again.there c p i h.at next in
      let then = begins fired p own in
      let now : step c ≡ went then = step-top c p rest h.runs h.evaluates h.top ∙ ap as_outcome (again.step-is c p i h.at next ∙ ap (λ s. Ok (cond s (stays_kept fired p) then)) on) in
      let has_then = code_went c then now has in
      let k = begun_as (arena then) has_then i.arguments (body_at (arena then) f) refl in
      let cycle = fired_cycle (again.bare c p i h.at next) (ev.Restarted p) in
      always-went p b c then (on-top p b rest c h.top) now
      (start-begins then (reached-went design script c then r now) has_then rest k.0 k.2 (record {
        runs = ap (λ y. y.stopped) cycle ∙ h.runs;
        evaluates = ap (λ y. y.phase) cycle ∙ h.evaluates;
        top = z.active ∙ h.top;
        instance = record z.instance { residual = begun (arena fired) i.code i.arguments; started = true };
        at = change-here fired.processes.instances p _ z.instance z.at;
        left = ap (λ g. settle (arena then) (begun (arena fired) g i.arguments)) same ∙ ap (settle (arena then)) k.1;
      }))

  -- ---- while it is unwound

  abbrev Reset : Config → Type 0
  Reset c = Held p (λ n. n ≡ f) Resetting around-reset Any AnyCall c.processes.instances

  on_stack : (c : Config) → IsReached design script c → Reset c → 0 < times p c.processes.stack
  on_stack c r h = (goals-after design script sound r.steps r.choices c r.reached).goal_is_active p h.instance h.at (ap has_goal h.left)

  pub shift-held : (c x : Config) (n : ℕ) (choices : List ℕ) → step c ≡ went x → IsHeldBack x p n choices → IsHeldBack c p (suc n) choices
  shift-held c x n choices now w =
      let less = w.less in
      record {
        before = suc w.before;
        own = w.own;
        behind = w.behind;
        then = w.then;
        less = omega (arith, less);
        split = w.split;
        reached = ap (λ o. and_then o c w.own (after w.before)) now ∙ w.reached;
        rest = w.rest;
        left = w.left;
        stands = w.stands;
        end = w.end;
        comes = w.comes;
        is_suspended = w.is_suspended;
      }

  abbrev Ends : ℕ → List ℕ → Config → Config → Type 0
  Ends n choices c d = StaysOrBegins c d p b n choices ⊎ IsHeldBack c p n choices

  abbrev Later : ℕ → Type 0
  Later n = (choices : List ℕ) (c d : Config) → IsReached design script c → Code (arena c) → Reset c → after n choices c ≡ Some d → Ends n choices c d

  over_by : (n : ℕ) (choices : List ℕ) (c d : Config) → IsReached design script c → Code (arena c) → (o : Over p (λ n. n ≡ f) Resetting around-reset AnyCall c) → (s : Bool) → o.stands.instance.suspended ≡ s → after (suc n) choices c ≡ Some d → Ends (suc n) choices c d
  over_by n choices c d r has o true is reached =
      inr (record { before = 0; own = []; behind = choices; then = c; less = omega arith; split = refl; reached = refl; rest = o.rest; left = goal skip goal_of.Restart; stands = o.stands; end = goal_of.Restart; comes = refl; is_suspended = is })
  over_by n choices c d r has o false is reached = inl (anew-begins c r has o.rest o.stands o.coded is (suc n) choices d reached)

  reset_on : (n : ℕ) → Later n → (choices : List ℕ) (c d : Config) → IsReached design script c → Code (arena c) → Reset c → (o : Outcome) → step c ≡ o → and_then o c choices (after n) ≡ Some d → Ends (suc n) choices c d
  reset_on n later choices c d r has h (went x) now reached = ⊎_elim
      (λ z. ⊎_elim (λ k. inl (shift p b c x d n choices now k)) (λ w. inr (shift-held c x n choices now w)) (later choices x d (reached-went design script c x r now) (code_went c x now has) z reached))
      (λ o. over_by n choices c d r has o o.stands.instance.suspended refl (ap (λ y. and_then y c choices (after n)) now ∙ reached))
      (step-held p (λ n. n ≡ f) Resetting around-reset AnyCall c (sound-run design script sound r.steps r.choices c r.reached) (marked-after design script sound r.steps r.choices c r.reached) h (λ rest i d_ top at is l z. z) x now)
  reset_on n later choices c d r has h (faulted x) now reached = absurd (none-some d reached)
  reset_on n later choices c d r has h takes now reached = let on = on_stack c r h in let none = ap (times p) (takes-empty c now) in absurd (omega (arith, on, none))
  reset_on n later choices c d r has h ended now reached = absurd (none-some d reached)

  resets : (n : ℕ) → Later n
  resets zero [] c d r has h reached = inl (stays_on (subst (λ (z : Config). 0 < times p z.processes.stack) (same_Some c d reached) (on_stack c r h)))
  resets zero (q ∷ choices) c d r has h reached = absurd (none-some d reached)
  resets (suc n) choices c d r has h reached = reset_on n (resets n) choices c d r has h (step c) refl reached

  pub reset-begins : (c : Config) → IsReached design script c → Code (arena c) → (i : Instance) → instance_at c p ≡ Some i → i.code ≡ f → i.started ≡ true → (r : Residual) → i.residual ≡ goal r goal_of.Restart → BeginsUnlessHeldBack c p b
  reset-begins c k has i at same begun_ r left n choices d reached =
      let s = sound-run design script sound k.steps k.choices c k.reached in
      let owed = unwinding-owed c.design i.home r (subst (IsStanding c.design i.home) left (fine-at c.design c.processes p i at s.1).standing) in
      resets n choices c d k has (record { instance = i; at = at; begun = begun_; coded = same; frame_ = no_call; framed = tt; inner = r; owed = owed; so = tt; left = left }) reached
