-- A wake of one instance, and an event that goes over all serials.
use Rattle.std.proofs.Common.{◌≡◌, ◌≢◌, ◌≤◌, ◌<◌, ◌+◌, ◌==◌, ◌&&◌, ◌||◌, not, ℕ, zero, suc, Bool, true, false, List, [], ◌∷◌, ◌++◌, length, slice_get, slice_set, Option, Some, None, option_map, refl, sym, ap, ◌∙◌, subst, arith, eq-eqb, ne_eqb, ⊎_elim}
use Rattle.std.specs.Prelude.{if◌then◌else◌, nat_le}
use Rattle.std.proofs.lemmas.Bool.{cases_eq, cases_lt}
use Rattle.std.proofs.lemmas.Bool.Decides.{leb_tells}
use Rattle.std.proofs.Math.Dec.{leb-zero}
use Rattle.std.proofs.lemmas.Option.{none-some, slice_get_past}
use Rattle.std.proofs.lemmas.List.Folds.{list_any-append}
use Rattle.wait_lists.specs.EventCore.declared.event.Ev.{Ev}
use Rattle.sim_model.specs.Configuration.{Config, Instance, Wait, waits_for_nothing, waits_statically, waits_for_any, waits_for_all, changed_at, change, change_instance, instance_at, with_runnable}
use Rattle.sim_model.specs.Waits.{is_among, struck, freed, holds, joined, is_active, wake_instance, wake, left_of_all, reaches, reach_instance, fire_each, fire}
use Rattle.kernel_processes.specs.Woken.{is_deaf, roused, after_wake, joins, after_last, after_named, after_event, is_empty, ends_wait, joins_by, if_there, Rouses, at_only, joins_only}

-- ---- one element of a list changed

module _ {A : Type 0} where
  pub set-here : (xs : List A) (p : ℕ) (x y : A) → slice_get xs p ≡ Some x → slice_get (slice_set xs p y) p ≡ Some y
  set-here [] p x y at = absurd (none-some x at)
  set-here (z ∷ xs) zero x y at = refl
  set-here (z ∷ xs) (suc p) x y at = set-here xs p x y at

  set-other : (xs : List A) (p q : ℕ) (y : A) → q ≢ p → slice_get (slice_set xs p y) q ≡ slice_get xs q
  set-other [] p q y apart = refl
  set-other (z ∷ xs) zero zero y apart = absurd (apart refl)
  set-other (z ∷ xs) zero (suc q) y apart = refl
  set-other (z ∷ xs) (suc p) zero y apart = refl
  set-other (z ∷ xs) (suc p) (suc q) y apart = set-other xs p q y (λ same. apart (ap suc same))

  set-length : (xs : List A) (p : ℕ) (y : A) → length (slice_set xs p y) ≡ length xs
  set-length [] p y = refl
  set-length (z ∷ xs) zero y = refl
  set-length (z ∷ xs) (suc p) y = ap suc (set-length xs p y)

  changed-here : (xs : List A) (p : ℕ) (f : A → A) (o : Option A) → slice_get xs p ≡ o → slice_get (changed_at xs p f o) p ≡ option_map f o
  changed-here xs p f None at = at
  changed-here xs p f (Some x) at = set-here xs p x (f x) at

  changed-other : (xs : List A) (p q : ℕ) (f : A → A) (o : Option A) → q ≢ p → slice_get (changed_at xs p f o) q ≡ slice_get xs q
  changed-other xs p q f None apart = refl
  changed-other xs p q f (Some x) apart = set-other xs p q (f x) apart

  changed-length : (xs : List A) (p : ℕ) (f : A → A) (o : Option A) → length (changed_at xs p f o) ≡ length xs
  changed-length xs p f None = refl
  changed-length xs p f (Some x) = set-length xs p (f x)

  -- the element of the number becomes what f makes of it, and the others stay
  pub change-here : (xs : List A) (p : ℕ) (f : A → A) → slice_get (change xs p f) p ≡ option_map f (slice_get xs p)
  change-here xs p f = changed-here xs p f (slice_get xs p) refl

  pub change-other : (xs : List A) (p q : ℕ) (f : A → A) → q ≢ p → slice_get (change xs p f) q ≡ slice_get xs q
  change-other xs p q f apart = changed-other xs p q f (slice_get xs p) apart

  pub change-length : (xs : List A) (p : ℕ) (f : A → A) → length (change xs p f) ≡ length xs
  change-length xs p f = changed-length xs p f (slice_get xs p)

  option_map-same : (o : Option A) → option_map (λ x. x) o ≡ o
  option_map-same None = refl
  option_map-same (Some x) = refl

-- ---- booleans

or-false : (b : Bool) → (b || false) ≡ b
or-false true = refl
or-false false = refl

and-false : (b : Bool) → (b && false) ≡ false
and-false true = refl
and-false false = refl

-- ---- a wake

-- a configuration in which the instance p, which was i, became j, and joined the runnable ones or not
module _ (c d : Config) (p : ℕ) (i : Instance) (f : Bool → Instance → Instance) (joining : Bool → Instance → Bool) where
  pub rouses_one : slice_get c.processes.instances p ≡ Some i
      → slice_get d.processes.instances p ≡ Some (f (is_active c p) i)
      → ((q : ℕ) → q ≢ p → slice_get d.processes.instances q ≡ slice_get c.processes.instances q)
      → ((q : ℕ) → holds d.processes.runnable q ≡ (holds c.processes.runnable q || ((q == p) && joining (is_active c p) i)))
      → d ≡ record c { processes = record c.processes { runnable = d.processes.runnable; instances = d.processes.instances } }
      → length d.processes.instances ≡ length c.processes.instances
      → Rouses (at_only p f) (joins_only p joining) c d
  rouses_one at becomes stay runs others serials = record { instances = each; runnable = listed; others = others; serials = serials }
    where
      at_p : (q : ℕ) → q ≡ p → option_map (at_only p f q (is_active c q)) (slice_get c.processes.instances q) ≡ Some (f (is_active c p) i)
      at_p q same = subst (λ n. option_map (at_only p f n (is_active c n)) (slice_get c.processes.instances n) ≡ Some (f (is_active c p) i)) (sym same)
          (ap (option_map (at_only p f p (is_active c p))) at ∙ ap (λ b. Some (if b then f (is_active c p) i else i)) (eq-eqb p p refl))

      at_q : (q : ℕ) → q ≢ p → (o : Option Instance) → option_map (at_only p f q (is_active c q)) o ≡ o
      at_q q apart None = refl
      at_q q apart (Some j) = ap (λ b. Some (if b then f (is_active c q) j else j)) (ne_eqb q p apart)

      each : (q : ℕ) → slice_get d.processes.instances q ≡ option_map (at_only p f q (is_active c q)) (slice_get c.processes.instances q)
      each q = ⊎_elim
          (λ same. ap (slice_get d.processes.instances) same ∙ becomes ∙ sym (at_p q same))
          (λ apart. stay q apart ∙ sym (at_q q apart (slice_get c.processes.instances q)))
          (cases_eq q p)

      joined_p : (q : ℕ) → q ≡ p → if_there (joins_only p joining q (is_active c q)) (slice_get c.processes.instances q) ≡ ((q == p) && joining (is_active c p) i)
      joined_p q same = subst (λ n. if_there (joins_only p joining n (is_active c n)) (slice_get c.processes.instances n) ≡ ((n == p) && joining (is_active c p) i)) (sym same)
          (ap (if_there (joins_only p joining p (is_active c p))) at)

      joined_q : (q : ℕ) → q ≢ p → (o : Option Instance) → if_there (joins_only p joining q (is_active c q)) o ≡ ((q == p) && joining (is_active c p) i)
      joined_q q apart None = sym (ap (λ b. b && joining (is_active c p) i) (ne_eqb q p apart))
      joined_q q apart (Some j) = ap (λ b. b && joining (is_active c q) j) (ne_eqb q p apart) ∙ sym (ap (λ b. b && joining (is_active c p) i) (ne_eqb q p apart))

      listed : (q : ℕ) → holds d.processes.runnable q ≡ (holds c.processes.runnable q || if_there (joins_only p joining q (is_active c q)) (slice_get c.processes.instances q))
      listed q = runs q ∙ ap (λ b. holds c.processes.runnable q || b) (sym (⊎_elim (joined_p q) (λ apart. joined_q q apart (slice_get c.processes.instances q)) (cases_eq q p)))

-- ---- what a wake does

turned : (p q : ℕ) → (p == q) ≡ (q == p)
turned p q = ⊎_elim
    (λ same. subst (λ n. (n == q) ≡ (q == n)) (sym same) refl)
    (λ apart. ne_eqb p q apart ∙ sym (ne_eqb q p (λ same. apart (sym same))))
    (cases_eq p q)

-- what joins stands behind the others, once
held_behind : (ps : List ℕ) (p q : ℕ) → holds (ps ++ p ∷ []) q ≡ (holds ps q || (q == p))
held_behind ps p q = list_any-append (λ x. x == q) ps (p ∷ []) ∙ ap (λ b. holds ps q || b) (or-false (p == q) ∙ turned p q)

held_already : (ps : List ℕ) (p q : ℕ) → holds ps p ≡ true → holds ps q ≡ (holds ps q || (q == p))
held_already ps p q is = ⊎_elim
    (λ same. ap (holds ps) same ∙ is ∙ sym (ap (λ b. b || (q == p)) (ap (holds ps) same ∙ is)))
    (λ apart. sym (ap (λ b. holds ps q || b) (ne_eqb q p apart) ∙ or-false (holds ps q)))
    (cases_eq q p)

held_by : (ps : List ℕ) (p q : ℕ) (b : Bool) → holds ps p ≡ b → holds (if b then ps else ps ++ p ∷ []) q ≡ (holds ps q || (q == p))
held_by ps p q true is = held_already ps p q is
held_by ps p q false is = held_behind ps p q

and-true : (b : Bool) → (b && true) ≡ b
and-true true = refl
and-true false = refl

pub held_joined : (ps : List ℕ) (p q : ℕ) → holds (joined ps p) q ≡ (holds ps q || ((q == p) && true))
held_joined ps p q = held_by ps p q (holds ps p) refl ∙ ap (λ b. holds ps q || b) (sym (and-true (q == p)))

nobody_joins : (b x : Bool) → b ≡ (b || (x && false))
nobody_joins true x = refl
nobody_joins false x = sym (and-false x)

module _ (c : Config) (p : ℕ) (i : Instance) (at : slice_get c.processes.instances p ≡ Some i) where
  deaf : is_deaf (is_active c p) i ≡ true → Rouses (at_only p after_wake) (joins_only p joins) c c
  deaf is = rouses_one c c p i after_wake joins at
      (at ∙ sym (ap (λ b. Some (if b then i else roused i)) is))
      (λ q apart. refl)
      (λ q. nobody_joins (holds c.processes.runnable q) (q == p) ∙ ap (λ b. holds c.processes.runnable q || ((q == p) && b)) (sym (ap (λ b. not b && not i.suspended) is)))
      refl refl

  kept : is_deaf (is_active c p) i ≡ false → i.suspended ≡ true → Rouses (at_only p after_wake) (joins_only p joins) c (change_instance c p (λ j. record (freed j) { kept = true }))
  kept is held = rouses_one c (change_instance c p (λ j. record (freed j) { kept = true })) p i after_wake joins at
      (change-here c.processes.instances p (λ j. record (freed j) { kept = true }) ∙ ap (option_map (λ j. record (freed j) { kept = true })) at
      ∙ sym (ap (λ b. Some (if b then i else roused i)) is ∙ ap (λ b. Some (if b then record (freed i) { kept = true } else freed i)) held))
      (λ q apart. change-other c.processes.instances p q (λ j. record (freed j) { kept = true }) apart)
      (λ q. nobody_joins (holds c.processes.runnable q) (q == p)
      ∙ ap (λ b. holds c.processes.runnable q || ((q == p) && b)) (sym (ap (λ b. not b && not i.suspended) is ∙ ap (λ b. not b) held)))
      refl
      (change-length c.processes.instances p (λ j. record (freed j) { kept = true }))

  runs : is_deaf (is_active c p) i ≡ false → i.suspended ≡ false → Rouses (at_only p after_wake) (joins_only p joins) c (with_runnable (change_instance c p freed) (joined c.processes.runnable p))
  runs is free = rouses_one c (with_runnable (change_instance c p freed) (joined c.processes.runnable p)) p i after_wake joins at
      (change-here c.processes.instances p freed ∙ ap (option_map freed) at
      ∙ sym (ap (λ b. Some (if b then i else roused i)) is ∙ ap (λ b. Some (if b then record (freed i) { kept = true } else freed i)) free))
      (λ q apart. change-other c.processes.instances p q freed apart)
      (λ q. held_joined c.processes.runnable p q
      ∙ ap (λ b. holds c.processes.runnable q || ((q == p) && b)) (sym (ap (λ b. not b && not i.suspended) is ∙ ap (λ b. not b) free)))
      refl
      (change-length c.processes.instances p freed)

  roused_by : (b s : Bool) → is_deaf (is_active c p) i ≡ b → i.suspended ≡ s
      → Rouses (at_only p after_wake) (joins_only p joins) c (if b then c else if s then change_instance c p (λ j. record (freed j) { kept = true }) else with_runnable (change_instance c p freed) (joined c.processes.runnable p))
  roused_by true s is held = deaf is
  roused_by false true is held = kept is held
  roused_by false false is free = runs is free

  pub wake_there : Rouses (at_only p after_wake) (joins_only p joins) c (wake_instance c p (Some i))
  wake_there = roused_by (is_deaf (is_active c p) i) i.suspended refl refl

-- there is no such instance: nothing happens
nobody_there : (c : Config) (p : ℕ) (f : Bool → Instance → Instance) (j : Bool → Instance → Bool) → slice_get c.processes.instances p ≡ None → Rouses (at_only p f) (joins_only p j) c c
nobody_there c p f j none = record { instances = each; runnable = listed; others = refl; serials = refl }
  where
    at_q : (q : ℕ) → q ≢ p → (o : Option Instance) → option_map (at_only p f q (is_active c q)) o ≡ o
    at_q q apart None = refl
    at_q q apart (Some x) = ap (λ b. Some (if b then f (is_active c q) x else x)) (ne_eqb q p apart)

    at_p : (q : ℕ) → q ≡ p → option_map (at_only p f q (is_active c q)) (slice_get c.processes.instances q) ≡ slice_get c.processes.instances q
    at_p q same = ap (λ n. option_map (at_only p f q (is_active c q)) (slice_get c.processes.instances n)) same
        ∙ ap (option_map (at_only p f q (is_active c q))) none ∙ sym (ap (slice_get c.processes.instances) same ∙ none)

    each : (q : ℕ) → slice_get c.processes.instances q ≡ option_map (at_only p f q (is_active c q)) (slice_get c.processes.instances q)
    each q = sym (⊎_elim (at_p q) (λ apart. at_q q apart (slice_get c.processes.instances q)) (cases_eq q p))

    joined_q : (q : ℕ) → q ≢ p → (o : Option Instance) → if_there (joins_only p j q (is_active c q)) o ≡ false
    joined_q q apart None = refl
    joined_q q apart (Some x) = ap (λ b. b && j (is_active c q) x) (ne_eqb q p apart)

    listed : (q : ℕ) → holds c.processes.runnable q ≡ (holds c.processes.runnable q || if_there (joins_only p j q (is_active c q)) (slice_get c.processes.instances q))
    listed q = sym (ap (λ b. holds c.processes.runnable q || b)
        (⊎_elim (λ same. ap (if_there (joins_only p j q (is_active c q))) (ap (slice_get c.processes.instances) same ∙ none)) (λ apart. joined_q q apart (slice_get c.processes.instances q)) (cases_eq q p))
        ∙ or-false (holds c.processes.runnable q))

wake_by : (c : Config) (p : ℕ) (o : Option Instance) → slice_get c.processes.instances p ≡ o → Rouses (at_only p after_wake) (joins_only p joins) c (wake_instance c p o)
wake_by c p None at = nobody_there c p after_wake joins at
wake_by c p (Some i) at = wake_there c p i at

pub wake_rouses : (c : Config) (p : ℕ) → Rouses (at_only p after_wake) (joins_only p joins) c (wake c p)
wake_rouses c p = wake_by c p (instance_at c p) refl

-- ---- what an event does to one instance

not_joined : (c : Config) (p : ℕ) (i : Instance) (f : Bool → Instance → Instance) (j : Bool → Instance → Bool) → slice_get c.processes.instances p ≡ Some i
    → f (is_active c p) i ≡ i → j (is_active c p) i ≡ false → Rouses (at_only p f) (joins_only p j) c c
not_joined c p i f j at same out = rouses_one c c p i f j at (at ∙ ap Some (sym same)) (λ q apart. refl)
    (λ q. nobody_joins (holds c.processes.runnable q) (q == p) ∙ ap (λ b. holds c.processes.runnable q || ((q == p) && b)) (sym out)) refl refl

-- the same instance, where two meanings agree on it
agree : (c d : Config) (p : ℕ) (i : Instance) (f g : Bool → Instance → Instance) (j k : Bool → Instance → Bool) → slice_get c.processes.instances p ≡ Some i
    → f (is_active c p) i ≡ g (is_active c p) i → j (is_active c p) i ≡ k (is_active c p) i → Rouses (at_only p f) (joins_only p j) c d → Rouses (at_only p g) (joins_only p k) c d
agree c d p i f g j k at same joined r = rouses_one c d p i g k at
    (r.instances p ∙ ap (option_map (at_only p f p (is_active c p))) at ∙ ap (λ b. Some (if b then f (is_active c p) i else i)) (eq-eqb p p refl) ∙ ap Some same)
    (λ q apart. r.instances q ∙ stay q apart (slice_get c.processes.instances q))
    (λ q. r.runnable q ∙ ap (λ b. holds c.processes.runnable q || b) (⊎_elim (here q) (λ apart. there q apart (slice_get c.processes.instances q)) (cases_eq q p)))
    r.others r.serials
  where
    stay : (q : ℕ) → q ≢ p → (o : Option Instance) → option_map (at_only p f q (is_active c q)) o ≡ o
    stay q apart None = refl
    stay q apart (Some x) = ap (λ b. Some (if b then f (is_active c q) x else x)) (ne_eqb q p apart)

    here : (q : ℕ) → q ≡ p → if_there (joins_only p j q (is_active c q)) (slice_get c.processes.instances q) ≡ ((q == p) && k (is_active c p) i)
    here q eq = subst (λ n. if_there (joins_only p j n (is_active c n)) (slice_get c.processes.instances n) ≡ ((n == p) && k (is_active c p) i)) (sym eq)
        (ap (if_there (joins_only p j p (is_active c p))) at ∙ ap (λ b. (p == p) && b) joined)

    there : (q : ℕ) → q ≢ p → (o : Option Instance) → if_there (joins_only p j q (is_active c q)) o ≡ ((q == p) && k (is_active c p) i)
    there q apart None = sym (ap (λ b. b && k (is_active c p) i) (ne_eqb q p apart))
    there q apart (Some x) = ap (λ b. b && j (is_active c q) x) (ne_eqb q p apart) ∙ sym (ap (λ b. b && k (is_active c p) i) (ne_eqb q p apart))

module _ (c : Config) (e : Ev) (p : ℕ) (i : Instance) (at : slice_get c.processes.instances p ≡ Some i) where
  abbrev Reached : Config → Type 0
  Reached d = Rouses (at_only p (after_event e)) (joins_only p (joins_by e)) c d

  -- a wait for all that has something left
  abbrev shorter : Ev → List Ev → Instance → Instance
  shorter x xs j = record j { wait = waits_for_all (x ∷ xs) }

  shortened : (x : Ev) (xs : List Ev) → after_event e (is_active c p) i ≡ record i { wait = waits_for_all (x ∷ xs) } → joins_by e (is_active c p) i ≡ false
      → Reached (change_instance c p (λ j. record j { wait = waits_for_all (x ∷ xs) }))
  shortened x xs same out = rouses_one c (change_instance c p (λ j. record j { wait = waits_for_all (x ∷ xs) })) p i (after_event e) (joins_by e) at
      (change-here c.processes.instances p (λ j. record j { wait = waits_for_all (x ∷ xs) }) ∙ ap (option_map (shorter x xs)) at ∙ ap Some (sym same))
      (λ q apart. change-other c.processes.instances p q (λ j. record j { wait = waits_for_all (x ∷ xs) }) apart)
      (λ q. nobody_joins (holds c.processes.runnable q) (q == p) ∙ ap (λ b. holds c.processes.runnable q || ((q == p) && b)) (sym out))
      refl
      (change-length c.processes.instances p (λ j. record j { wait = waits_for_all (x ∷ xs) }))

  woken_as : after_event e (is_active c p) i ≡ after_wake (is_active c p) i → joins_by e (is_active c p) i ≡ joins (is_active c p) i → Reached (wake c p)
  woken_as same joined = agree c (wake c p) p i after_wake (after_event e) joins (joins_by e) at (sym same) (sym joined) (wake_rouses c p)

  untouched : after_event e (is_active c p) i ≡ i → joins_by e (is_active c p) i ≡ false → Reached c
  untouched same out = not_joined c p i (after_event e) (joins_by e) at same out

  chosen : (test : Bool) → after_event e (is_active c p) i ≡ (if test then after_wake (is_active c p) i else i) → joins_by e (is_active c p) i ≡ (test && joins (is_active c p) i)
      → Reached (if test then wake c p else c)
  chosen true same joined = woken_as same joined
  chosen false same joined = untouched same joined

  all_left : (named : Bool) (left : List Ev) → after_event e (is_active c p) i ≡ (if named then after_last (is_active c p) i left else i)
      → joins_by e (is_active c p) i ≡ ((named && is_empty left) && joins (is_active c p) i) → Reached (if named then left_of_all c p left else c)
  all_left false left same joined = untouched same joined
  all_left true [] same joined = woken_as same joined
  all_left true (x ∷ xs) same joined = shortened x xs same joined

  -- by how it waits
  by_wait : (w : Wait) → after_event e (is_active c p) i ≡ after_named e (is_active c p) i w → joins_by e (is_active c p) i ≡ (ends_wait e i w && joins (is_active c p) i)
      → Reached (reaches c e p i w)
  by_wait waits_for_nothing same joined = untouched same joined
  by_wait waits_statically same joined = chosen (is_among e i.static) same joined
  by_wait (waits_for_any es) same joined = chosen (is_among e es) same joined
  by_wait (waits_for_all es) same joined = all_left (is_among e es) (struck e es) same joined

  or-true : (b : Bool) → (b || true) ≡ true
  or-true true = refl
  or-true false = refl

  by_flag : (b : Bool) → i.disabled ≡ b → Reached (if b then c else reaches c e p i i.wait)
  by_flag true off = untouched (ap (λ b. if b then i else after_named e (is_active c p) i i.wait) off)
      (ap (λ b. ends_wait e i i.wait && (not ((i.ended || is_active c p) || b) && not i.suspended)) off
      ∙ ap (λ b. ends_wait e i i.wait && (not b && not i.suspended)) (or-true (i.ended || is_active c p)) ∙ and-false (ends_wait e i i.wait))
  by_flag false on = by_wait i.wait (ap (λ b. if b then i else after_named e (is_active c p) i i.wait) on) refl

  pub reached : Reached (reach_instance c e p (Some i))
  reached = by_flag i.disabled refl

reached_by : (c : Config) (e : Ev) (p : ℕ) (o : Option Instance) → slice_get c.processes.instances p ≡ o
    → Rouses (at_only p (after_event e)) (joins_only p (joins_by e)) c (reach_instance c e p o)
reached_by c e p None none = nobody_there c p (after_event e) (joins_by e) none
reached_by c e p (Some i) at = reached c e p i at

-- ---- an event goes over all serials

-- at the serials from one on
abbrev from_on : ℕ → (Bool → Instance → Instance) → ℕ → Bool → Instance → Instance
from_on p f q active i = if nat_le p q then f active i else i

abbrev joins_from : ℕ → (Bool → Instance → Bool) → ℕ → Bool → Instance → Bool
joins_from p f q active i = nat_le p q && f active i

-- where a serial stands: it is the first one, behind it, or before it
le_true : (p q : ℕ) → p ≤ q → nat_le p q ≡ true
le_true p q le = ⊎_elim (λ t. t.0) (λ t. absurd (let after = t.1 in omega (arith, le, after))) (leb_tells p q)

le_false : (p q : ℕ) → q < p → nat_le p q ≡ false
le_false p q lt = ⊎_elim (λ t. absurd (let le = t.1 in omega (arith, lt, le))) (λ t. t.0) (leb_tells p q)

pub record Stands (p q : ℕ) (behind here from : Bool) : Type 0 where
  pub is_behind : nat_le (suc p) q ≡ behind
  pub is_here : (q == p) ≡ here
  pub is_from : nat_le p q ≡ from

stands_here : (p q : ℕ) → q ≡ p → Stands p q false true true
stands_here p q same = record { is_behind = le_false (suc p) q (omega (arith, same)); is_here = eq-eqb q p same; is_from = le_true p q (omega (arith, same)) }

stands_behind : (p q : ℕ) → p < q → Stands p q true false true
stands_behind p q lt = record { is_behind = le_true (suc p) q (omega (arith, lt)); is_here = ne_eqb q p (λ same. omega (arith, lt, same)); is_from = le_true p q (omega (arith, lt)) }

stands_before : (p q : ℕ) → q < p → Stands p q false false false
stands_before p q lt = record { is_behind = le_false (suc p) q (omega (arith, lt)); is_here = ne_eqb q p (λ same. omega (arith, lt, same)); is_from = le_false p q lt }

by_place : (p q : ℕ) (G : Type 0) → (Stands p q false true true → G) → (Stands p q true false true → G) → (Stands p q false false false → G) → G
by_place p q G here behind before = ⊎_elim (λ same. here (stands_here p q same)) (λ apart. ⊎_elim (λ lt. before (stands_before p q lt)) (λ ge. behind (stands_behind p q (omega (arith, ge, apart)))) (cases_lt q p)) (cases_eq q p)

-- one serial, and then those behind it
module _ (f : Bool → Instance → Instance) (j : Bool → Instance → Bool) (c d x : Config) (p : ℕ) where
  abbrev Joined : ℕ → Bool → Option Instance → Type 0
  Joined q a o = option_map (from_on (suc p) f q a) (option_map (at_only p f q a) o) ≡ option_map (from_on p f q a) o

  joined_as : (q : ℕ) (behind here from : Bool) → Stands p q behind here from → (a : Bool) (o : Option Instance)
      → option_map (λ i. if behind then f a i else i) (option_map (λ i. if here then f a i else i) o) ≡ option_map (λ i. if from then f a i else i) o → Joined q a o
  joined_as q behind here from s a o same =
      ap (λ b. option_map (λ i. if b then f a i else i) (option_map (at_only p f q a) o)) s.is_behind
      ∙ ap (λ b. option_map (λ i. if behind then f a i else i) (option_map (λ i. if b then f a i else i) o)) s.is_here
      ∙ same ∙ sym (ap (λ b. option_map (λ i. if b then f a i else i) o) s.is_from)

  first_only : (a : Bool) (o : Option Instance) → option_map (λ i. if false then f a i else i) (option_map (λ i. if true then f a i else i) o) ≡ option_map (λ i. if true then f a i else i) o
  first_only a None = refl
  first_only a (Some i) = refl

  later_only : (a : Bool) (o : Option Instance) → option_map (λ i. if true then f a i else i) (option_map (λ i. if false then f a i else i) o) ≡ option_map (λ i. if true then f a i else i) o
  later_only a None = refl
  later_only a (Some i) = refl

  neither : (a : Bool) (o : Option Instance) → option_map (λ i. if false then f a i else i) (option_map (λ i. if false then f a i else i) o) ≡ option_map (λ i. if false then f a i else i) o
  neither a None = refl
  neither a (Some i) = refl

  put_together : (q : ℕ) (a : Bool) (o : Option Instance) → Joined q a o
  put_together q a o = by_place p q (Joined q a o)
      (λ s. joined_as q false true true s a o (first_only a o))
      (λ s. joined_as q true false true s a o (later_only a o))
      (λ s. joined_as q false false false s a o (neither a o))

  abbrev Adds : ℕ → Bool → Bool → Option Instance → Type 0
  Adds q a h o = ((h || if_there (joins_only p j q a) o) || if_there (joins_from (suc p) j q a) (option_map (at_only p f q a) o)) ≡ (h || if_there (joins_from p j q a) o)

  adds_as : (q : ℕ) (behind here from : Bool) → Stands p q behind here from → (a h : Bool) (o : Option Instance)
      → ((h || if_there (λ i. here && j a i) o) || if_there (λ i. behind && j a i) (option_map (λ i. if here then f a i else i) o)) ≡ (h || if_there (λ i. from && j a i) o) → Adds q a h o
  adds_as q behind here from s a h o same =
      ap (λ b. (h || if_there (joins_only p j q a) o) || if_there (λ i. b && j a i) (option_map (at_only p f q a) o)) s.is_behind
      ∙ ap (λ b. (h || if_there (λ i. b && j a i) o) || if_there (λ i. behind && j a i) (option_map (λ i. if b then f a i else i) o)) s.is_here
      ∙ same ∙ sym (ap (λ b. h || if_there (λ i. b && j a i) o) s.is_from)

  adds_here : (a h : Bool) (o : Option Instance)
      → ((h || if_there (λ i. true && j a i) o) || if_there (λ i. false && j a i) (option_map (λ i. if true then f a i else i) o)) ≡ (h || if_there (λ i. true && j a i) o)
  adds_here a h None = or-false (h || false)
  adds_here a h (Some i) = or-false (h || j a i)

  adds_behind : (a h : Bool) (o : Option Instance)
      → ((h || if_there (λ i. false && j a i) o) || if_there (λ i. true && j a i) (option_map (λ i. if false then f a i else i) o)) ≡ (h || if_there (λ i. true && j a i) o)
  adds_behind a h None = or-false (h || false)
  adds_behind a h (Some i) = ap (λ b. b || j a i) (or-false h)

  adds_nothing : (a h : Bool) (o : Option Instance)
      → ((h || if_there (λ i. false && j a i) o) || if_there (λ i. false && j a i) (option_map (λ i. if false then f a i else i) o)) ≡ (h || if_there (λ i. false && j a i) o)
  adds_nothing a h None = or-false (h || false)
  adds_nothing a h (Some i) = or-false (h || false)

  adds : (q : ℕ) (a h : Bool) (o : Option Instance) → Adds q a h o
  adds q a h o = by_place p q (Adds q a h o)
      (λ s. adds_as q false true true s a h o (adds_here a h o))
      (λ s. adds_as q true false true s a h o (adds_behind a h o))
      (λ s. adds_as q false false false s a h o (adds_nothing a h o))

  one_more : Rouses (at_only p f) (joins_only p j) c d → Rouses (from_on (suc p) f) (joins_from (suc p) j) d x → Rouses (from_on p f) (joins_from p j) c x
  one_more r s = record { instances = each; runnable = listed; others = s.others ∙ ap moved r.others; serials = s.serials ∙ r.serials }
    where
      moved : Config → Config
      moved y = record y { processes = record y.processes { runnable = x.processes.runnable; instances = x.processes.instances } }

      active : (q : ℕ) → is_active d q ≡ is_active c q
      active q = ap (λ y. holds y.processes.stack q) r.others

      each : (q : ℕ) → slice_get x.processes.instances q ≡ option_map (from_on p f q (is_active c q)) (slice_get c.processes.instances q)
      each q = s.instances q ∙ ap (λ a. option_map (from_on (suc p) f q a) (slice_get d.processes.instances q)) (active q)
          ∙ ap (option_map (from_on (suc p) f q (is_active c q))) (r.instances q) ∙ put_together q (is_active c q) (slice_get c.processes.instances q)

      listed : (q : ℕ) → holds x.processes.runnable q ≡ (holds c.processes.runnable q || if_there (joins_from p j q (is_active c q)) (slice_get c.processes.instances q))
      listed q = s.runnable q ∙ ap (λ a. holds d.processes.runnable q || if_there (joins_from (suc p) j q a) (slice_get d.processes.instances q)) (active q)
          ∙ ap (λ o. holds d.processes.runnable q || if_there (joins_from (suc p) j q (is_active c q)) o) (r.instances q)
          ∙ ap (λ h. h || if_there (joins_from (suc p) j q (is_active c q)) (option_map (at_only p f q (is_active c q)) (slice_get c.processes.instances q))) (r.runnable q)
          ∙ adds q (is_active c q) (holds c.processes.runnable q) (slice_get c.processes.instances q)

-- no serial is left
module _ (f : Bool → Instance → Instance) (j : Bool → Instance → Bool) (c : Config) (p : ℕ) (past : length c.processes.instances ≤ p) where
  none_left : Rouses (from_on p f) (joins_from p j) c c
  none_left = record { instances = each; runnable = listed; others = refl; serials = refl }
    where
      nobody : (q : ℕ) → p ≤ q → slice_get c.processes.instances q ≡ None
      nobody q le = slice_get_past c.processes.instances q (omega (arith, past, le))

      before : (q : ℕ) (a : Bool) (o : Option Instance) → nat_le p q ≡ false → o ≡ option_map (from_on p f q a) o
      before q a None is = refl
      before q a (Some i) is = sym (ap (λ b. Some (if b then f a i else i)) is)

      each : (q : ℕ) → slice_get c.processes.instances q ≡ option_map (from_on p f q (is_active c q)) (slice_get c.processes.instances q)
      each q = ⊎_elim
          (λ lt. before q (is_active c q) (slice_get c.processes.instances q) (le_false p q lt))
          (λ le. nobody q le ∙ sym (ap (option_map (from_on p f q (is_active c q))) (nobody q le)))
          (cases_lt q p)

      out : (q : ℕ) (a : Bool) (o : Option Instance) → nat_le p q ≡ false → if_there (joins_from p j q a) o ≡ false
      out q a None is = refl
      out q a (Some i) is = ap (λ b. b && j a i) is

      nobody_joins_at : (q : ℕ) → if_there (joins_from p j q (is_active c q)) (slice_get c.processes.instances q) ≡ false
      nobody_joins_at q = ⊎_elim
          (λ lt. out q (is_active c q) (slice_get c.processes.instances q) (le_false p q lt))
          (λ le. ap (if_there (joins_from p j q (is_active c q))) (nobody q le))
          (cases_lt q p)

      listed : (q : ℕ) → holds c.processes.runnable q ≡ (holds c.processes.runnable q || if_there (joins_from p j q (is_active c q)) (slice_get c.processes.instances q))
      listed q = sym (ap (λ b. holds c.processes.runnable q || b) (nobody_joins_at q) ∙ or-false (holds c.processes.runnable q))

each_from : (e : Ev) (p : ℕ) (is : List Instance) (c : Config) → length c.processes.instances ≤ p + length is
    → Rouses (from_on p (after_event e)) (joins_from p (joins_by e)) c (fire_each e p is c)
each_from e p [] c enough = none_left (after_event e) (joins_by e) c p (omega (arith, enough))
each_from e p (i ∷ is) c enough =
    let r = reached_by c e p (instance_at c p) refl in
    let same = r.serials in
    one_more (after_event e) (joins_by e) c (reach_instance c e p (instance_at c p)) (fire_each e (suc p) is (reach_instance c e p (instance_at c p))) p
    r (each_from e (suc p) is (reach_instance c e p (instance_at c p)) (omega (arith, enough, same)))

-- from the first serial on is everywhere
everywhere : (f : Bool → Instance → Instance) (j : Bool → Instance → Bool) (c d : Config) → Rouses (from_on 0 f) (joins_from 0 j) c d → Rouses (λ q. f) (λ q. j) c d
everywhere f j c d r = record {
  instances = λ q. r.instances q ∙ ap (λ b. option_map (λ i. if b then f (is_active c q) i else i) (slice_get c.processes.instances q)) (leb-zero q);
  runnable = λ q. r.runnable q ∙ ap (λ b. holds c.processes.runnable q || if_there (λ i. b && j (is_active c q) i) (slice_get c.processes.instances q)) (leb-zero q);
  others = r.others;
  serials = r.serials;
}

pub fire_rouses : (c : Config) (e : Ev) → Rouses (λ q. after_event e) (λ q. joins_by e) c (fire c e)
fire_rouses c e = everywhere (after_event e) (joins_by e) c (fire c e) (each_from e 0 c.processes.instances c (omega arith))
