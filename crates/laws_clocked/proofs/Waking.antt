-- Each taking of a thread in a tick follows a wake by an event of its static sensitivity.
use Rattle.std.proofs.Common.{◌≡◌, ◌≢◌, ◌⊎◌, ◌+◌, ◌-◌, ◌<◌, ℕ, zero, suc, Bool, true, false, List, [], ◌∷◌, ◌++◌, map, slice_get, Option, Some, None, option_map, refl, sym, ap, ◌∙◌, subst, arith, inl, inr, ⊎_elim, true≢false, zero-add}
use Rattle.std.proofs.lemmas.Bool.{cases_eq}
use Rattle.std.proofs.lemmas.List.{append_assoc}
use Rattle.std.proofs.lemmas.Option.{none-some, same_Some, slice_get-map}
use Rattle.laws_runs.specs.FlatDesign.Sound.{SoundDesign}
use Rattle.laws_runs.specs.FlatDesign.declared.design.Design.{Design}
use Rattle.laws_runs.specs.FlatDesign.declared.design.ProcessPart.{ProcessPart}
use Rattle.laws_runs.specs.SimModel.Residual.{has_goal}
use Rattle.laws_runs.specs.SimModel.Configuration.{Config, Instance, Processes, Wait, waits_for_nothing, waits_statically, waits_for_any, waits_for_all, Deadline, no_deadline, next_delta, at_time, arena, instance_at, first_instance}
use Rattle.laws_runs.specs.SimModel.Waits.{holds}
use Rattle.laws_runs.specs.SimModel.Steps.{Outcome, went, faulted, takes, ended, step, taking, taken_if}
use Rattle.laws_runs.specs.SimModel.Runs.{after, and_then, took}
use Rattle.laws_runs.specs.SimModel.Clean.{times}
use Rattle.laws_runs.specs.SimModel.declared.plain.Command.{Command}
use Rattle.laws_runs.specs.SimModel.declared.plain.Phase.{Phase}
use Rattle.laws_runs.specs.SimModel.declared.plain.Phase.TheVariants as phase
use Rattle.laws_runs.proofs.CleanRuns.{clean-after, good-after}
use Rattle.laws_runs.proofs.Splits.{joined, suc-sum}
use Rattle.laws_runs.proofs.StepsFit.{FitsPhase}
use Rattle.laws_runs.proofs.Times.{times-here, times-holds, times-last_other}
use Rattle.laws_runs.specs.Moves.{IsLater}
use Rattle.laws_runs.proofs.RunSteps.{takes-empty}
use Rattle.laws_clocked.specs.Fired.{fires_of}
use Rattle.laws_clocked.specs.Ticks.{Tick, HasTick}
use Rattle.laws_clocked.specs.Turns.{IsLeaving, IsNotUnwound}
use Rattle.laws_clocked.proofs.Counted.{LeavesCounted}
use Rattle.laws_clocked.specs.Wakes.{WaitsStatically, FollowsWake}
use Rattle.laws_clocked.proofs.Ending.{quiet-step, taking-rests}
use Rattle.laws_clocked.proofs.Passing.{State, comes, throws, away, own-off, throw-step, taken-is}
use Rattle.laws_clocked.proofs.Ticking.{IsReached, Between, between-went, between-taken, between-first, goes-first, goes-here}

-- ---- whether p waits for its static sensitivity

static_or : (w : Wait) → (w ≡ waits_statically) ⊎ (w ≡ waits_statically → ⊥)
static_or waits_for_nothing = inr (λ e. cc)
static_or waits_statically = inl refl
static_or (waits_for_any es) = inr (λ e. cc)
static_or (waits_for_all es) = inr (λ e. cc)

never_or : (d : Deadline) → (d ≡ no_deadline) ⊎ (d ≡ no_deadline → ⊥)
never_or no_deadline = inl refl
never_or next_delta = inr (λ e. cc)
never_or (at_time t) = inr (λ e. cc)

waits_or_of : (c : Config) (p : ℕ) (o : Option Instance) → instance_at c p ≡ o → WaitsStatically c p ⊎ (WaitsStatically c p → ⊥)
waits_or_of c p None at = inr (λ w. none-some w.instance (sym at ∙ w.at))
waits_or_of c p (Some i) at = ⊎_elim
    (λ w. ⊎_elim
    (λ d. inl (record { instance = i; at = at; waits = w; never = d }))
    (λ no. inr (λ z. no (ap (λ (j : Instance). j.deadline) (same_Some i z.instance (sym at ∙ z.at)) ∙ z.never)))
    (never_or i.deadline))
    (λ no. inr (λ z. no (ap (λ (j : Instance). j.wait) (same_Some i z.instance (sym at ∙ z.at)) ∙ z.waits)))
    (static_or i.wait)

waits-or : (c : Config) (p : ℕ) → WaitsStatically c p ⊎ (WaitsStatically c p → ⊥)
waits-or c p = waits_or_of c p (instance_at c p) refl

-- ---- where an instance was begun, initialization is past

later_in : (c : Config) (p : ℕ) (i : Instance) → instance_at c p ≡ Some i → i.started ≡ true → (ph : Phase) → FitsPhase ph c.cycle.begun c → IsLater ph
later_in c p i at began phase.Idle fits = tt
later_in c p i at began phase.Start fits = absurd (by (slice_get c.design.processes p) refl)
  where
    at_first : slice_get (map (first_instance c.design) c.design.processes) p ≡ Some i
    at_first = ap (λ (ps : Processes). slice_get ps.instances p) (sym fits.1) ∙ at

    by : (o : Option ProcessPart) → slice_get c.design.processes p ≡ o → ⊥
    by None is = none-some i (sym (slice_get-map (first_instance c.design) c.design.processes p ∙ ap (option_map (first_instance c.design)) is) ∙ at_first)
    by (Some y) is =
        let same = same_Some (first_instance c.design y) i (sym (slice_get-map (first_instance c.design) c.design.processes p ∙ ap (option_map (first_instance c.design)) is) ∙ at_first) in
        true≢false (sym began ∙ ap (λ (j : Instance). j.started) (sym same))
later_in c p i at began phase.Evaluate fits = tt
later_in c p i at began phase.Notify fits = tt
later_in c p i at began phase.Timed fits = tt

module _ (design : Design) (script : List Command) (sound : SoundDesign design) (p : ℕ) (t : Tick) where
  is-later : (c : Config) → IsReached design script c → (i : Instance) → instance_at c p ≡ Some i → i.started ≡ true → IsLater c.cycle.phase
  is-later c r i at began = later_in c p i at began c.cycle.phase (good-after design script r.steps r.choices c r.reached).1

  -- ---- off the stack p waits, or its wait has ended by such an event

  abbrev Trail : Config → ℕ → List ℕ → Config → Type 0
  Trail c k own x = times p x.processes.stack ≡ 0 → WaitsStatically x p ⊎ FollowsWake c p k own x

  module _ (c : Config) where
    followed_went : (k : ℕ) (own : List ℕ) (x d : Config) → step x ≡ went d → FollowsWake c p k own x → FollowsWake c p (k + 1) (own ++ []) d
    followed_went k own x d now f = record {
      before = f.before;
      first = f.first;
      asleep = f.asleep;
      reached = f.reached;
      waits = f.waits;
      fires = f.fires;
      awake = f.awake;
      wakes = f.wakes;
      over = f.over;
      behind = f.behind + 1;
      second = f.second ++ [];
      comes = joined f.behind 1 f.second [] f.awake x f.comes ∙ ap (λ o. and_then o x [] (after 0)) now;
      steps = let s = f.steps in omega (arith, s);
      split = ap (λ l. l ++ []) f.split ∙ append_assoc f.first f.second [];
      not_taken = ap (times p) (append_none f.second) ∙ f.not_taken;
    }
      where
        append_none : (l : List ℕ) → l ++ [] ≡ l
        append_none [] = refl
        append_none (y ∷ ys) = ap (λ z. y ∷ z) (append_none ys)

    followed_taken : (k : ℕ) (own : List ℕ) (x d : Config) (q : ℕ) → p ≢ q → step x ≡ takes → taking x q ≡ Some d → FollowsWake c p k own x → FollowsWake c p (k + 1) (own ++ q ∷ []) d
    followed_taken k own x d q apart now to f = record {
      before = f.before;
      first = f.first;
      asleep = f.asleep;
      reached = f.reached;
      waits = f.waits;
      fires = f.fires;
      awake = f.awake;
      wakes = f.wakes;
      over = f.over;
      behind = f.behind + 1;
      second = f.second ++ q ∷ [];
      comes = joined f.behind 1 f.second (q ∷ []) f.awake x f.comes ∙ ap (λ o. and_then o x (q ∷ []) (after 0)) now ∙ ap (λ m. took m (after 0 [])) to;
      steps = let s = f.steps in omega (arith, s);
      split = ap (λ l. l ++ q ∷ []) f.split ∙ append_assoc f.first f.second (q ∷ []);
      not_taken = times-last_other q p f.second apart ∙ f.not_taken;
    }

    -- the step that ends the wait
    woken_now : (k : ℕ) (own : List ℕ) (x d : Config) → after k own c ≡ Some x → step x ≡ went d → (w : WaitsStatically x p) → (WaitsStatically d p → ⊥) → fires_of x w.instance.static ≡ true → FollowsWake c p (k + 1) (own ++ []) d
    woken_now k own x d reached now w over fires = record {
      before = k;
      first = own;
      asleep = x;
      reached = reached;
      waits = w;
      fires = fires;
      awake = d;
      wakes = now;
      over = over;
      behind = 0;
      second = [];
      comes = refl;
      steps = omega arith;
      split = refl;
      not_taken = refl;
    }

    -- from where p waits off the stack, one step on
    fired_or : (k : ℕ) (own : List ℕ) (x d : Config) → after k own c ≡ Some x → step x ≡ went d → IsLater x.cycle.phase → times p x.processes.stack ≡ 0 → (w : WaitsStatically x p) → IsNotUnwound d p → (b : Bool) → fires_of x w.instance.static ≡ b
        → (WaitsStatically d p → ⊥) → FollowsWake c p (k + 1) (own ++ []) d
    fired_or k own x d reached now later off w free true fires over = woken_now k own x d reached now w over fires
    fired_or k own x d reached now later off w free false fires over =
        let h = quiet-step p w.instance.static x d now later off (record { instance = w.instance; at = w.at; how = inl (record { waits = w.waits; never = w.never; static = refl }) }) (record { waits = w.waits; never = w.never; static = refl }) fires in
        absurd (⊎_elim
        (λ s. over (record { instance = h.instance; at = h.at; waits = s.waits; never = s.never }))
        (λ g. true≢false (sym g ∙ ap (λ (j : Instance). has_goal j.residual) (same_Some h.instance free.instance (sym h.at ∙ free.at)) ∙ free.goalless))
        h.how)

    waiting_went : (k : ℕ) (own : List ℕ) (x d : Config) → after k own c ≡ Some x → step x ≡ went d → IsLater x.cycle.phase → times p x.processes.stack ≡ 0 → WaitsStatically x p → IsNotUnwound d p → WaitsStatically d p ⊎ FollowsWake c p (k + 1) (own ++ []) d
    waiting_went k own x d reached now later off w free =
        ⊎_elim (λ still. inl still) (λ over. inr (fired_or k own x d reached now later off w free (fires_of x w.instance.static) refl over)) (waits-or d p)

    -- any step within the tick
    trail_went : (k : ℕ) (own : List ℕ) (x d : Config) (n : ℕ) (choices : List ℕ) (e : Config) → after k own c ≡ Some x → (now : step x ≡ went d) → Between design script sound p t (suc n) choices x e → IsNotUnwound d p → Trail c k own x → Trail c (k + 1) (own ++ []) d
    trail_went k own x d n choices e reached now b free trail off_then = by b.state
      where
        not_left : IsLeaving x p t → ⊥
        not_left = goes-first (λ y. IsLeaving y p t → ⊥) (λ y. IsNotUnwound y p) n choices x e b.ends

        by : State p t x b.takings → WaitsStatically d p ⊎ FollowsWake c p (k + 1) (own ++ []) d
        by (comes spot v fits ct begun owes) = inl (own-off p t x b.has spot v fits ct begun not_left d now off_then)
        by (throws y ys is w) = absurd (throw-step p t x b.has y ys is w d now free)
        by (away v w owes) = ⊎_elim
            (λ waits. waiting_went k own x d reached now (is-later x b.is_reached w.instance w.at w.begun) w.off waits free)
            (λ f. inr (followed_went k own x d now f))
            (trail w.off)

    trail_taken : (k : ℕ) (own : List ℕ) (x d : Config) (q : ℕ) → step x ≡ takes → taking x q ≡ Some d → IsNotUnwound d p → times p d.processes.stack ≡ 0 → p ≢ q → WaitsStatically x p ⊎ FollowsWake c p k own x → WaitsStatically d p ⊎ FollowsWake c p (k + 1) (own ++ q ∷ []) d
    trail_taken k own x d q now to free off apart (inl w) =
        let h = taking-rests p w.instance.static q apart x d to (record { instance = w.instance; at = w.at; how = inl (record { waits = w.waits; never = w.never; static = refl }) }) in
        ⊎_elim
        (λ s. inl (record { instance = h.instance; at = h.at; waits = s.waits; never = s.never }))
        (λ g. absurd (true≢false (sym g ∙ ap (λ (j : Instance). has_goal j.residual) (same_Some h.instance free.instance (sym h.at ∙ free.at)) ∙ free.goalless)))
        h.how
    trail_taken k own x d q now to free off apart (inr f) = inr (followed_taken k own x d q apart now to f)

    module _ (e : Config) where
      -- p goes through the tick, k steps from c
      record On (m : ℕ) (choices : List ℕ) (k : ℕ) (own : List ℕ) (y : Config) : Type 0 where
        reached : after k own c ≡ Some y
        between : Between design script sound p t m choices y e
        trail : Trail c k own y

      on_went : (m : ℕ) (choices : List ℕ) (k : ℕ) (own : List ℕ) (y d : Config) → step y ≡ went d → On (suc m) choices k own y → On m choices (k + 1) (own ++ []) d
      on_went m choices k own y d now o =
          let b = between-went design script sound p t m choices y d e now o.between in
          record {
            reached = joined k 1 own [] c y o.reached ∙ ap (λ z. and_then z y [] (after 0)) now;
            between = b;
            trail = trail_went k own y d m choices e o.reached now o.between (goes-here (λ z. IsLeaving z p t → ⊥) (λ z. IsNotUnwound z p) m choices d e b.ends) o.trail;
          }

      not_empty : (rest stack : List ℕ) → stack ≡ p ∷ rest → stack ≡ [] → ⊥
      not_empty rest stack one_ two = cc

      -- behind its own taking p is on the stack
      own_taken : (y d : Config) (has : HasTick (arena y) t) (n : ℕ) → State p t y n → step y ≡ takes → taking y p ≡ Some d → times p d.processes.stack ≡ 0 → ⊥
      own_taken y d has n (comes spot v fits ct begun owes) now to none = not_empty ct.rest y.processes.stack ct.top (takes-empty y now)
      own_taken y d has n (throws x xs is w) now to none = not_empty w.rest y.processes.stack w.top (takes-empty y now)
      own_taken y d has n (away v w owes) now to none =
          let here = times-here p [] in
          let is = ap (λ (z : Config). times p z.processes.stack) (taken-is p t y has w.instance w.at w.begun d to) in
          omega (arith, here, is, none)

      on_taken : (m : ℕ) (choices : List ℕ) (k : ℕ) (own : List ℕ) (y d : Config) (q : ℕ) → step y ≡ takes → taking y q ≡ Some d → On (suc m) (q ∷ choices) k own y → On m choices (k + 1) (own ++ q ∷ []) d
      on_taken m choices k own y d q now to o =
          let b = between-taken design script sound p t m q choices y d e now to o.between in
          record {
            reached = joined k 1 own (q ∷ []) c y o.reached ∙ ap (λ z. and_then z y (q ∷ []) (after 0)) now ∙ ap (λ z. took z (after 0 [])) to;
            between = b;
            trail = λ none. ⊎_elim
                (λ same. absurd (own_taken y d o.between.has o.between.takings o.between.state now (subst (λ z. taking y z ≡ Some d) (sym same) to) none))
                (λ apart.
                trail_taken k own y d q now to (goes-here (λ z. IsLeaving z p t → ⊥) (λ z. IsNotUnwound z p) m choices d e b.ends) none apart (o.trail (ap (times p) (takes-empty y now))))
                (cases_eq p q);
          }

      append_none : (l : List ℕ) → l ++ [] ≡ l
      append_none [] = refl
      append_none (y ∷ ys) = ap (λ z. y ∷ z) (append_none ys)

      abbrev Walks : ℕ → ℕ → List ℕ → Config → Type 0
      Walks j m left x = (own : List ℕ) (k : ℕ) (done : List ℕ) (y : Config) → On (j + m) (own ++ left) k done y → after j own y ≡ Some x → On m left (k + j) (done ++ own) x

      counted_on : (j m : ℕ) (left : List ℕ) (x : Config) (k : ℕ) (done : List ℕ) (own more : List ℕ) → done ++ own ≡ more → On m left (k + 1 + j) (done ++ own) x → On m left (k + suc j) more x
      counted_on j m left x k done own more is o = subst (λ l. On m left (k + suc j) l x) is (subst (λ n. On m left n (done ++ own) x) (sum k j) o)
        where
          sum : (k j : ℕ) → k + 1 + j ≡ k + suc j
          sum k j = omega arith

      walk_taken : (j m : ℕ) (left : List ℕ) (x : Config) → Walks j m left x → (q : ℕ) (own : List ℕ) (k : ℕ) (done : List ℕ) (y : Config) → step y ≡ takes → On (suc (j + m)) (q ∷ (own ++ left)) k done y
          → (o : Option Config) → taking y q ≡ o → took o (after j own) ≡ Some x → On m left (k + suc j) (done ++ q ∷ own) x
      walk_taken j m left x later q own k done y now o None to there = absurd (none-some x there)
      walk_taken j m left x later q own k done y now o (Some d) to there =
          counted_on j m left x k (done ++ q ∷ []) own (done ++ q ∷ own) (append_assoc done (q ∷ []) own) (later own (k + 1) (done ++ q ∷ []) d (on_taken (j + m) (own ++ left) k done y d q now to o) there)

      walk_on : (j m : ℕ) (left : List ℕ) (x : Config) → Walks j m left x → (own : List ℕ) (k : ℕ) (done : List ℕ) (y : Config) → On (suc (j + m)) (own ++ left) k done y → (o : Outcome) → step y ≡ o → and_then o y own (after j) ≡ Some x → On m left (k + suc j) (done ++ own) x
      walk_on j m left x later own k done y o (went d) now there =
          counted_on j m left x k (done ++ []) own (done ++ own) (append_assoc done [] own) (later own (k + 1) (done ++ []) d (on_went (j + m) (own ++ left) k done y d now o) there)
      walk_on j m left x later own k done y o (faulted f) now there = absurd (none-some x there)
      walk_on j m left x later [] k done y o takes now there = absurd (none-some x there)
      walk_on j m left x later (q ∷ own) k done y o takes now there = walk_taken j m left x later q own k done y now o (taking y q) refl there
      walk_on j m left x later own k done y o ended now there = absurd (none-some x there)

      walk : (j m : ℕ) (left : List ℕ) (x : Config) → Walks j m left x
      walk zero m left x [] k done y o there =
          subst (λ n. On m left n (done ++ []) x) (sym (none_more k))
          (subst (λ l. On m left k l x) (sym (append_none done)) (subst (λ z. On m left k done z) (same_Some y x there) (subst (λ n. On n left k done y) (zero-add m) o)))
        where
          none_more : (k : ℕ) → k + 0 ≡ k
          none_more k = omega arith
      walk zero m left x (q ∷ own) k done y o there = absurd (none-some x there)
      walk (suc j) m left x own k done y o there = walk_on j m left x (walk j m left x) own k done y (subst (λ n. On n (own ++ left) k done y) (suc-sum j m) o) (step y) refl there

  -- ---- at a taking it is runnable, and waits no more

  runnable_at : (x d : Config) (b : Bool) → holds x.processes.runnable p ≡ b → taken_if x p b ≡ Some d → holds x.processes.runnable p ≡ true
  runnable_at x d true is to = is
  runnable_at x d false is to = absurd (none-some d to)

  not_waiting : (x d : Config) → IsReached design script x → taking x p ≡ Some d → WaitsStatically x p → ⊥
  not_waiting x d r to w =
      let on = times-holds p x.processes.runnable (runnable_at x d (holds x.processes.runnable p) refl to) in
      let free = (clean-after design script r.steps r.choices x r.reached).free p w.instance w.at (omega (arith, on)) in
      apart (sym free.wait ∙ w.waits)
    where
      apart : waits_for_nothing ≡ waits_statically → ⊥
      apart e = cc

  no_less : (k m : ℕ) → k < m → (j : ℕ) × (k + suc j ≡ m)
  no_less k m less = (m - suc k, omega (arith, less))

  pub follows-at : (c e : Config) → IsReached design script c → HasTick (arena c) t → (n : ℕ) (choices : List ℕ) → LeavesCounted c e p t n choices
      → (k : ℕ) (own left : List ℕ) (x : Config) → k < n → choices ≡ own ++ p ∷ left → after k own c ≡ Some x → step x ≡ takes → FollowsWake c p k own x
  follows-at c e r has n choices l k own left x less split there now = by (taking x p) refl at_x.between.ends.reached
    where
      more : (j : ℕ) × (k + suc j ≡ n)
      more = no_less k n less

      first : On c e n choices 0 [] c
      first = record {
        reached = refl;
        between = between-first design script sound p t c e r has n choices l;
        trail = λ none.
            let here = times-here p l.enters.rest in
            let on = ap (times p) l.enters.top in
            absurd (omega (arith, here, on, none));
      }

      at_x : On c e (suc more.0) (p ∷ left) (0 + k) own x
      at_x = walk c e k (suc more.0) (p ∷ left) x own 0 [] c (subst (λ m. On c e m (own ++ p ∷ left) 0 [] c) (sym more.1) (subst (λ zs. On c e n zs 0 [] c) split first)) there

      follows : (d : Config) → taking x p ≡ Some d → FollowsWake c p k own x
      follows d to = ⊎_elim
          (λ w. absurd (not_waiting x d at_x.between.is_reached to w))
          (λ f. subst (λ m. FollowsWake c p m own x) (zero-add k) f)
          (at_x.trail (ap (times p) (takes-empty x now)))

      by : (o : Option Config) → taking x p ≡ o → and_then (step x) x (p ∷ left) (after more.0) ≡ Some e → FollowsWake c p k own x
      by None to reached = absurd (none-some e (sym (ap (λ z. and_then z x (p ∷ left) (after more.0)) now ∙ ap (λ z. took z (after more.0 left)) to) ∙ reached))
      by (Some d) to reached = follows d to
