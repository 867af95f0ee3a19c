-- A static wait ends, but by a kill, a reset or a throw, only in a step that fires an event of the static sensitivity.
use Rattle.std.proofs.Common.{◌≡◌, ◌≢◌, ◌≤◌, ◌-◌, ◌⊎◌, ◌||◌, ℕ, suc, Bool, true, false, cond, List, [], ◌∷◌, ◌++◌, length, map, slice_get, Option, Some, None, option_map, refl, sym, ap, ◌∙◌, subst, arith, inl, inr, ⊎_elim, true≢false}
use Rattle.std.specs.List.{list_any}
use Rattle.std.proofs.lemmas.Bool.{cases_eq}
use Rattle.std.proofs.lemmas.Option.{none-some, slice_get-map, same_Some}
use Rattle.laws_runs.specs.EventCore.declared.event.Ev.{Ev}
use Rattle.laws_runs.specs.SimModel.Residual.{Residual, goal, has_goal}
use Rattle.laws_runs.specs.SimModel.Unwinding.{unw}
use Rattle.laws_runs.specs.SimModel.Configuration.{Config, Instance, Wait, waits_for_nothing, waits_statically, waits_for_any, waits_for_all, Deadline, no_deadline, change, change_instance, instance_at, with_residual, with_runnable}
use Rattle.laws_runs.specs.SimModel.Waits.{is_among, struck, joined, freed, is_active, woken, wake_instance, wake, left_of_all, reaches, reach_instance, fire_each, fire, fire_all, wake_all}
use Rattle.laws_runs.specs.SimModel.Calls.{with_left, with_entry}
use Rattle.laws_runs.specs.SimModel.Phases.{without_deadline, due_instances}
use Rattle.laws_runs.specs.SimModel.Control.{is_top, pushed, pushed_unless_top}
use Rattle.laws_runs.specs.SimModel.declared.plain.Goal.{Goal}
use Rattle.laws_runs.specs.SimModel.declared.plain.Via.{Via}
use Rattle.laws_runs.proofs.Changes.{change-here, change-other, last-other, past-end}
use Rattle.laws_runs.proofs.WakeMoves.{WakesKeep, fire-keeps, wake-keeps}

or_false : (a b : Bool) → (a || b) ≡ false → (a ≡ false) × (b ≡ false)
or_false true b h = absurd (true≢false h)
or_false false b h = (refl, h)

module _ (p : ℕ) (l : List Ev) where
  -- i waits for its static sensitivity, which is l, and for no time
  pub record IsStill (i : Instance) : Type 0 where
    pub waits : i.wait ≡ waits_statically
    pub never : i.deadline ≡ no_deadline
    pub static : i.static ≡ l

  -- p does, or is being unwound
  pub record RestsIn (is : List Instance) : Type 0 where
    pub instance : Instance
    pub at : slice_get is p ≡ Some instance
    pub how : IsStill instance ⊎ (has_goal instance.residual ≡ true)

  abbrev pub Rests : Config → Type 0
  Rests c = RestsIn c.processes.instances

  -- no event of these is in the list
  abbrev pub Quiet : List Ev → Type 0
  Quiet es = list_any (λ e. is_among e l) es ≡ false

  pub rests_if : (b : Bool) (x y : Config) → Rests x → Rests y → Rests (cond b x y)
  rests_if true x y one_ two = one_
  rests_if false x y one_ two = two

  -- another instance changes
  pub other : (is : List Instance) (q : ℕ) (f : Instance → Instance) → p ≢ q → RestsIn is → RestsIn (change is q f)
  other is q f apart h = record { instance = h.instance; at = change-other is q p f apart ∙ h.at; how = h.how }

  -- an instance changes, but neither its wait nor its body
  record Flags (f : Instance → Instance) : Type 0 where
    wait : (i : Instance) → (f i).wait ≡ i.wait
    deadline : (i : Instance) → (f i).deadline ≡ i.deadline
    static : (i : Instance) → (f i).static ≡ i.static
    body : (i : Instance) → (f i).residual ≡ i.residual

  flagged : (is : List Instance) (q : ℕ) (f : Instance → Instance) → Flags f → RestsIn is → RestsIn (change is q f)
  flagged is q f k h = ⊎_elim
      (λ e. record {
        instance = f h.instance;
        at = subst (λ n. slice_get (change is n f) p ≡ Some (f h.instance)) e (change-here is p f h.instance h.at);
        how = ⊎_elim
            (λ s. inl (record { waits = k.wait h.instance ∙ s.waits; never = k.deadline h.instance ∙ s.never; static = k.static h.instance ∙ s.static }))
            (λ g. inr (ap has_goal (k.body h.instance) ∙ g)) h.how;
      })
      (λ apart. other is q f apart h)
      (cases_eq p q)

  -- p is given a goal
  unwound : (is : List Instance) (f : Instance → Instance) → ((i : Instance) → has_goal (f i).residual ≡ true) → RestsIn is → RestsIn (change is p f)
  unwound is f g h = record { instance = f h.instance; at = change-here is p f h.instance h.at; how = inr (g h.instance) }

  pub more : (is : List Instance) (new : Instance) → RestsIn is → RestsIn (is ++ new ∷ [])
  more is new h = record {
    instance = h.instance;
    at = ⊎_elim (λ e. absurd (none-some h.instance (sym (ap (slice_get is) e ∙ past-end is) ∙ h.at))) (λ apart. last-other is new p apart ∙ h.at) (cases_eq p (length is));
    how = h.how;
  }

  pub left_rests : (vias : List Via) (x : Config) → Rests x → Rests (with_left x vias)
  left_rests [] x h = h
  left_rests (via ∷ more_) x h = left_rests more_ (with_entry x via.hop _) h

  -- ---- an event

  -- p has a goal: no event changes its body
  record GoalIn (c : Config) : Type 0 where
    instance : Instance
    at : instance_at c p ≡ Some instance
    body : has_goal instance.residual ≡ true

  goal_changed : (c d : Config) (q : ℕ) (f : Instance → Instance) → ((i : Instance) → (f i).residual ≡ i.residual) → d.processes.instances ≡ change c.processes.instances q f → GoalIn c → GoalIn d
  goal_changed c d q f same is h = ⊎_elim
      (λ e. record {
        instance = f h.instance;
        at = ap (λ z. slice_get z p) is ∙ subst (λ n. slice_get (change c.processes.instances n f) p ≡ Some (f h.instance)) e (change-here c.processes.instances p f h.instance h.at);
        body = ap has_goal (same h.instance) ∙ h.body;
      })
      (λ apart. record { instance = h.instance; at = ap (λ z. slice_get z p) is ∙ change-other c.processes.instances q p f apart ∙ h.at; body = h.body })
      (cases_eq p q)

  goal-wakes : WakesKeep GoalIn
  goal-wakes = record {
    joins = λ c q i may is h. goal_changed c _ q freed (λ j. refl) refl h;
    keeps = λ c q i may is h. goal_changed c _ q (λ j. record (freed j) { kept = true }) (λ j. refl) refl h;
    strikes = λ c q es i all at is h. goal_changed c _ q (λ j. record j { wait = waits_for_all es }) (λ j. refl) refl h;
  }

  -- p waits for its static sensitivity
  record StillIn (c : Config) : Type 0 where
    instance : Instance
    at : instance_at c p ≡ Some instance
    still : IsStill instance

  still_if : (b : Bool) (x y : Config) → StillIn x → StillIn y → StillIn (cond b x y)
  still_if true x y one_ two = one_
  still_if false x y one_ two = two

  module _ (q : ℕ) (apart : p ≢ q) where
    still_other : (c d : Config) (f : Instance → Instance) → d.processes.instances ≡ change c.processes.instances q f → StillIn c → StillIn d
    still_other c d f is h = record { instance = h.instance; at = ap (λ z. slice_get z p) is ∙ change-other c.processes.instances q p f apart ∙ h.at; still = h.still }

    woken_other : (c : Config) (i : Instance) → StillIn c → StillIn (woken c q i)
    woken_other c i h =
        still_if i.suspended (change_instance c q (λ j. record (freed j) { kept = true })) (with_runnable (change_instance c q freed) (joined c.processes.runnable q))
        (still_other c _ (λ j. record (freed j) { kept = true }) refl h) (still_other c _ freed refl h)

    wake_at : (c : Config) (o : Option Instance) → StillIn c → StillIn (wake_instance c q o)
    wake_at c None h = h
    wake_at c (Some i) h = still_if ((i.ended || is_active c q) || i.disabled) c (woken c q i) h (woken_other c i h)

    wake_other : (c : Config) → StillIn c → StillIn (wake c q)
    wake_other c h = wake_at c (instance_at c q) h

    left_other : (c : Config) (es : List Ev) → StillIn c → StillIn (left_of_all c q es)
    left_other c [] h = wake_other c h
    left_other c (e ∷ es) h = still_other c _ (λ j. record j { wait = waits_for_all (e ∷ es) }) refl h

    reaches_other : (c : Config) (e : Ev) (i : Instance) (w : Wait) → StillIn c → StillIn (reaches c e q i w)
    reaches_other c e i waits_for_nothing h = h
    reaches_other c e i waits_statically h = still_if (is_among e i.static) (wake c q) c (wake_other c h) h
    reaches_other c e i (waits_for_any es) h = still_if (is_among e es) (wake c q) c (wake_other c h) h
    reaches_other c e i (waits_for_all es) h = still_if (is_among e es) (left_of_all c q (struck e es)) c (left_other c (struck e es) h) h

    reach_other : (c : Config) (e : Ev) (o : Option Instance) → StillIn c → StillIn (reach_instance c e q o)
    reach_other c e None h = h
    reach_other c e (Some i) h = still_if i.disabled c (reaches c e q i i.wait) h (reaches_other c e i i.wait h)

  -- p itself, which does not list it
  reach_own : (c : Config) (e : Ev) → is_among e l ≡ false → (h : StillIn c) → StillIn (reach_instance c e p (instance_at c p))
  reach_own c e not h =
      subst (λ o. StillIn (reach_instance c e p o)) (sym h.at)
      (still_if h.instance.disabled c (reaches c e p h.instance h.instance.wait) h
      (subst (λ w. StillIn (reaches c e p h.instance w)) (sym h.still.waits)
      (subst (λ b. StillIn (cond b (wake c p) c)) (sym (ap (is_among e) h.still.static ∙ not)) h)))

  reach_any : (c : Config) (e : Ev) → is_among e l ≡ false → (q : ℕ) → StillIn c → StillIn (reach_instance c e q (instance_at c q))
  reach_any c e not q h = ⊎_elim
      (λ same. subst (λ n. StillIn (reach_instance c e n (instance_at c n))) same (reach_own c e not h))
      (λ apart. reach_other q apart c e (instance_at c q) h)
      (cases_eq p q)

  fire_each_still : (e : Ev) → is_among e l ≡ false → (q : ℕ) (is : List Instance) (c : Config) → StillIn c → StillIn (fire_each e q is c)
  fire_each_still e not q [] c h = h
  fire_each_still e not q (i ∷ is) c h = fire_each_still e not (suc q) is (reach_instance c e q (instance_at c q)) (reach_any c e not q h)

  of_still : (c : Config) → StillIn c → Rests c
  of_still c h = record { instance = h.instance; at = h.at; how = inl h.still }

  of_goal : (c : Config) → GoalIn c → Rests c
  of_goal c h = record { instance = h.instance; at = h.at; how = inr h.body }

  pub fire-rests : (c : Config) (e : Ev) → is_among e l ≡ false → Rests c → Rests (fire c e)
  fire-rests c e not h = ⊎_elim
      (λ s. of_still (fire c e) (fire_each_still e not 0 c.processes.instances c (record { instance = h.instance; at = h.at; still = s })))
      (λ g. of_goal (fire c e) (fire-keeps GoalIn goal-wakes c e (record { instance = h.instance; at = h.at; body = g })))
      h.how

  pub fire_one-rests : (c : Config) (e : Ev) → Quiet (e ∷ []) → Rests c → Rests (fire c e)
  fire_one-rests c e quiet h = fire-rests c e (or_false (is_among e l) false quiet).0 h

  pub fire_all-rests : (es : List Ev) (c : Config) → Quiet es → Rests c → Rests (fire_all es c)
  fire_all-rests [] c quiet h = h
  fire_all-rests (e ∷ es) c quiet h =
      let parts = or_false (is_among e l) (list_any (λ x. is_among x l) es) quiet in
      fire_all-rests es (fire c e) parts.1 (fire-rests c e parts.0 h)

  -- ---- time-outs of others

  pub wake-rests : (q : ℕ) → p ≢ q → (c : Config) → Rests c → Rests (wake c q)
  wake-rests q apart c h = ⊎_elim
      (λ s. of_still (wake c q) (wake_other q apart c (record { instance = h.instance; at = h.at; still = s })))
      (λ g. of_goal (wake c q) (wake-keeps GoalIn goal-wakes c q (record { instance = h.instance; at = h.at; body = g })))
      h.how

  -- of the instances from m on, p is not due
  module _ (test : Deadline → Bool) (not : test no_deadline ≡ false) where
    abbrev NeverDue : List Instance → ℕ → Type 0
    NeverDue is m = (k : ℕ) (i : Instance) → p ≡ k → slice_get is (k - m) ≡ Some i → m ≤ k → i.deadline ≡ no_deadline

    never_later : (i : Instance) (is : List Instance) (m : ℕ) → NeverDue (i ∷ is) m → NeverDue is (suc m)
    never_later i is m never k j same at from = never k j same (ap (slice_get (i ∷ is)) (less_one k m from) ∙ at) (omega (arith, from))
      where
        less_one : (k m : ℕ) → suc m ≤ k → k - m ≡ suc (k - suc m)
        less_one k m from = omega (arith, from)

    due_apart : (i : Instance) (is : List Instance) (m : ℕ) → NeverDue (i ∷ is) m → test i.deadline ≡ true → p ≢ m
    due_apart i is m never due same = true≢false (sym due ∙ ap test (never m i same (ap (slice_get (i ∷ is)) (none_less m)) (omega arith)) ∙ not)
      where
        none_less : (m : ℕ) → m - m ≡ 0
        none_less m = omega arith

    wake_if : (m : ℕ) (ps : List ℕ) (c : Config) → Rests c → (b : Bool) → (b ≡ true → p ≢ m) → ((x : Config) → Rests x → Rests (wake_all ps x)) → Rests (wake_all (cond b (m ∷ ps) ps) c)
    wake_if m ps c h true apart later = later (wake c m) (wake-rests m (apart refl) c h)
    wake_if m ps c h false apart later = later c h

    wake_due : (is : List Instance) (m : ℕ) → NeverDue is m → (c : Config) → Rests c → Rests (wake_all (due_instances test m is) c)
    wake_due [] m never c h = h
    wake_due (i ∷ is) m never c h = wake_if m (due_instances test (suc m) is) c h (test i.deadline) (due_apart i is m never) (wake_due is (suc m) (never_later i is m never))

    from_none : (k : ℕ) → k - 0 ≡ k
    from_none k = omega arith

    pub due-rests : (x c : Config) → (h : RestsIn x.processes.instances) → IsStill h.instance → Rests c → Rests (wake_all (due_instances test 0 x.processes.instances) c)
    due-rests x c h still now = wake_due x.processes.instances 0 (λ k i same at from. ap (λ (j : Instance). j.deadline) (same_Some i h.instance (sym at ∙ ap (slice_get x.processes.instances) (from_none k ∙ sym same) ∙ h.at)) ∙ still.never) c now

    -- those whose time is over have none any more
    pub freed-rests : (is : List Instance) → RestsIn is → RestsIn (map (without_deadline test) is)
    freed-rests is h = record { instance = without_deadline test h.instance; at = slice_get-map (without_deadline test) is p ∙ ap (option_map (without_deadline test)) h.at; how = by (test h.instance.deadline) }
      where
        by : (b : Bool) → IsStill (cond b (record h.instance { deadline = no_deadline }) h.instance) ⊎ (has_goal (cond b (record h.instance { deadline = no_deadline }) h.instance).residual ≡ true)
        by true = ⊎_elim (λ s. inl (record { waits = s.waits; never = refl; static = s.static })) (λ g. inr g) h.how
        by false = h.how

  -- ---- a kill, a reset and an exception: of p, or of another

  abbrev free : Instance → Instance
  free j = record (freed j) { kept = false; trigger = None }

  abbrev having : Residual → Instance → Instance
  having new j = record j { residual = new }

  goal_pushed : (x : Config) (new : Residual) → has_goal new ≡ true → Rests x → Rests (pushed (with_residual x p new) p)
  goal_pushed x new g h = unwound_free (change x.processes.instances p (having new)) (record h.instance { residual = new }) (change-here x.processes.instances p (having new) h.instance h.at) g
    where
      unwound_free : (is : List Instance) (i : Instance) → slice_get is p ≡ Some i → has_goal i.residual ≡ true → RestsIn (change is p free)
      unwound_free is i at g = record { instance = free i; at = change-here is p free i at; how = inr g }

  pub goes_pushed : (x : Config) (q : ℕ) (new : Residual) → has_goal new ≡ true → Rests x → Rests (pushed (with_residual x q new) q)
  goes_pushed x q new g h = ⊎_elim
      (λ same. subst (λ n. Rests (pushed (with_residual x n new) n)) same (goal_pushed x new g h))
      (λ apart. other (change x.processes.instances q (having new)) q free apart (other x.processes.instances q (having new) apart h))
      (cases_eq p q)

  pub goes_stays : (x : Config) (q : ℕ) (new : Residual) → has_goal new ≡ true → Rests x → Rests (with_residual x q new)
  goes_stays x q new g h = ⊎_elim
      (λ same. subst (λ n. Rests (with_residual x n new)) same (unwound x.processes.instances (having new) (λ j. g) h))
      (λ apart. other x.processes.instances q (having new) apart h)
      (cases_eq p q)

  pub unwinds_rests : (x : Config) (q : ℕ) (i : Instance) (k : Goal) → Rests x → Rests (pushed_unless_top (with_residual x q (goal (unw i.residual) k)) q)
  unwinds_rests x q i k h =
      let new = goal (unw i.residual) k in
      rests_if (is_top (with_residual x q new) q) (with_residual x q new) (pushed (with_residual x q new) q) (goes_stays x q new refl h) (goes_pushed x q new refl h)

  -- flags
  pub suspends : (x : Config) (q : ℕ) → Rests x → Rests (change_instance x q (λ j. record j { suspended = true }))
  suspends x q h = flagged x.processes.instances q (λ j. record j { suspended = true }) (record { wait = λ j. refl; deadline = λ j. refl; static = λ j. refl; body = λ j. refl }) h

  pub keeps : (x : Config) (q : ℕ) → Rests x → Rests (change_instance x q (λ j. record j { kept = true }))
  keeps x q h = flagged x.processes.instances q (λ j. record j { kept = true }) (record { wait = λ j. refl; deadline = λ j. refl; static = λ j. refl; body = λ j. refl }) h

  pub resumes : (x : Config) (q : ℕ) → Rests x → Rests (change_instance x q (λ j. record j { suspended = false; kept = false }))
  resumes x q h = flagged x.processes.instances q (λ j. record j { suspended = false; kept = false }) (record { wait = λ j. refl; deadline = λ j. refl; static = λ j. refl; body = λ j. refl }) h

  pub disables_ : (x : Config) (q : ℕ) (flag : Bool) → Rests x → Rests (change_instance x q (λ j. record j { disabled = flag }))
  disables_ x q flag h = flagged x.processes.instances q (λ j. record j { disabled = flag }) (record { wait = λ j. refl; deadline = λ j. refl; static = λ j. refl; body = λ j. refl }) h
