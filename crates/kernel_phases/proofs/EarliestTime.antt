-- The earliest time of all that is pending.
use Rattle.std.proofs.Common.{◌≡◌, ◌≤◌, ℕ, zero, suc, Bool, true, false, List, [], ◌∷◌, slice_get, Option, Some, None, refl, sym, ap, ◌∙◌, subst, arith, true≢false}
use Rattle.std.specs.Prelude.{nat_lt, is_some, unwrap_or, if◌then◌else◌}
use Rattle.std.proofs.lemmas.Bool.Decides.{nat_tests}
use Rattle.kernel_state.specs.SimModel.Configuration.{Config, Instance, Deadline, no_deadline, next_delta, at_time}
use Rattle.kernel_state.specs.SimModel.Phases.{earlier, earlier_deadline, earliest_deadline, earliest_event, earliest}
use Rattle.kernel_state.specs.KernelProcesses.InstanceViews.{bare, shown_at, body_at}
use Rattle.kernel_state.specs.KernelProcesses.Times.{HasNoTime, HasNoTimeBefore, IsEarliestTime}
use Rattle.kernel_state.specs.Processes.{TellsBy, Tells}
use Rattle.kernel_state.specs.Kernel.{Shows, StandsFor, whole_design}
use Rattle.kernel_state.specs.declared.kernel.Kept.{Kept}
use Rattle.kernel_state.specs.declared.kernel.Kernel.{Kernel}

-- ---- the earlier of two

abbrev or_else : Bool → ℕ → ℕ → Option ℕ
or_else b t u = if b then Some t else Some u

earlier_is : (acc : Option ℕ) (t : ℕ) → (a : ℕ) × ((earlier acc t ≡ Some a) × (a ≤ t))
earlier_is None t = (t, (refl, omega arith))
earlier_is (Some u) t = by (nat_lt t u) refl
  where
    by : (b : Bool) → nat_lt t u ≡ b → (a : ℕ) × ((or_else (nat_lt t u) t u ≡ Some a) × (a ≤ t))
    by true is = (t, (ap (λ b. or_else b t u) is, omega arith))
    by false is = (u, (ap (λ b. or_else b t u) is, grind (arith, nat_tests, is)))

stays_earlier : (a u : ℕ) → a ≤ u → earlier (Some a) u ≡ Some a
stays_earlier a u le = ap (λ b. or_else b u a) not_less
  where
    not_less : nat_lt u a ≡ false
    not_less = grind (arith, nat_tests)

two_earlier : (u t : ℕ) → t ≤ u → earlier (Some u) t ≡ Some t
two_earlier u t le = by (nat_lt t u) refl
  where
    by : (b : Bool) → nat_lt t u ≡ b → or_else (nat_lt t u) t u ≡ Some t
    by true is = ap (λ b. or_else b t u) is
    by false is = ap (λ b. or_else b t u) is ∙ ap Some same
      where
        same : u ≡ t
        same = grind (arith, nat_tests)

three_earlier : (acc : Option ℕ) (u t : ℕ) → t ≤ u → earlier (earlier acc u) t ≡ earlier acc t
three_earlier None u t le = two_earlier u t le
three_earlier (Some a) u t le = by (nat_lt u a) refl
  where
    less : nat_lt u a ≡ true → t ≤ a
    less is = grind (arith, nat_tests)

    by : (b : Bool) → nat_lt u a ≡ b → earlier (or_else (nat_lt u a) u a) t ≡ earlier (Some a) t
    by true is = ap (λ b. earlier (or_else b u a) t) is ∙ two_earlier u t le ∙ sym (two_earlier a t (less is))
    by false is = ap (λ b. earlier (or_else b u a) t) is

-- a time that none is before
pub none_earlier : (o : Option ℕ) (t : ℕ) → ((u : ℕ) → o ≡ Some u → t ≤ u) → earlier o t ≡ Some t
none_earlier None t least = refl
none_earlier (Some u) t least = two_earlier u t (least u refl)

-- ---- of all instances

abbrev At : List Instance → ℕ → ℕ → Type 0
At is q t = (i : Instance) × ((slice_get is q ≡ Some i) × (i.deadline ≡ at_time t))

no_times : (is : List Instance) (acc : Option ℕ) → ((q t : ℕ) → At is q t → ⊥) → earliest_deadline is acc ≡ acc
no_times [] acc never = refl
no_times (i ∷ is) acc never = by (no_times is acc (λ q t there. never (suc q) t there)) i.deadline refl
  where
    by : earliest_deadline is acc ≡ acc → (d : Deadline) → i.deadline ≡ d → earliest_deadline is (earlier_deadline i.deadline acc) ≡ acc
    by rest no_deadline at = ap (λ d. earliest_deadline is (earlier_deadline d acc)) at ∙ rest
    by rest next_delta at = ap (λ d. earliest_deadline is (earlier_deadline d acc)) at ∙ rest
    by rest (at_time u) at = absurd (never 0 u (i, (refl, at)))

stays_least : (is : List Instance) (a : ℕ) → ((q u : ℕ) → At is q u → a ≤ u) → earliest_deadline is (Some a) ≡ Some a
stays_least [] a least = refl
stays_least (i ∷ is) a least = by (stays_least is a (λ q u there. least (suc q) u there)) i.deadline refl
  where
    by : earliest_deadline is (Some a) ≡ Some a → (d : Deadline) → i.deadline ≡ d → earliest_deadline is (earlier_deadline i.deadline (Some a)) ≡ Some a
    by rest no_deadline at = ap (λ d. earliest_deadline is (earlier_deadline d (Some a))) at ∙ rest
    by rest next_delta at = ap (λ d. earliest_deadline is (earlier_deadline d (Some a))) at ∙ rest
    by rest (at_time u) at = ap (λ d. earliest_deadline is (earlier_deadline d (Some a))) at ∙ ap (earliest_deadline is) (stays_earlier a u (least 0 u (i, (refl, at)))) ∙ rest

least_time : (is : List Instance) (acc : Option ℕ) (t q : ℕ) → At is q t → ((p u : ℕ) → At is p u → t ≤ u) → earliest_deadline is acc ≡ earlier acc t
least_time [] acc t q there least = absurd (true≢false (sym (ap is_some there.1.0)))
least_time (i ∷ is) acc t zero there least =
    let e = earlier_is acc t in
    ap (λ d. earliest_deadline is (earlier_deadline d acc)) (ap (λ o. (unwrap_or o i).deadline) there.1.0 ∙ there.1.1) ∙ ap (earliest_deadline is) e.1.0
    ∙ stays_least is e.0 (λ p u at. let le = e.1.1 in let more = least (suc p) u at in omega (arith, le, more)) ∙ sym e.1.0
least_time (i ∷ is) acc t (suc q) there least = by (λ b. least_time is b t q there (λ p u at. least (suc p) u at)) i.deadline refl
  where
    by : ((b : Option ℕ) → earliest_deadline is b ≡ earlier b t) → (d : Deadline) → i.deadline ≡ d → earliest_deadline is (earlier_deadline i.deadline acc) ≡ earlier acc t
    by rest no_deadline at = ap (λ d. earliest_deadline is (earlier_deadline d acc)) at ∙ rest acc
    by rest next_delta at = ap (λ d. earliest_deadline is (earlier_deadline d acc)) at ∙ rest acc
    by rest (at_time u) at = ap (λ d. earliest_deadline is (earlier_deadline d acc)) at ∙ rest (earlier acc u) ∙ three_earlier acc u t (least 0 u (i, (refl, at)))

-- ---- of a kernel

abbrev is_timed : Deadline → Bool
is_timed no_deadline = false
is_timed next_delta = false
is_timed (at_time t) = true

module _ (k : Kernel) (c : Config) (h : StandsFor k c) where
  -- an instance with a time is shown with it
  shown_by : (o : Option Instance) (b : Option Kept) (i : Instance) (e : Bool) (t : ℕ) → i.ended ≡ e → i.deadline ≡ at_time t → TellsBy (Shows (whole_design k) k.program.now) e o b i → o ≡ Some (bare i)
  shown_by o b i true t is at gone = absurd (true≢false (sym (ap is_timed (sym gone.1.1 ∙ at))))
  shown_by o b i false t is at lives = lives.shown

  shown_with : (q t : ℕ) → At c.processes.instances q t → (i : Instance) × ((shown_at k.schedule q ≡ Some i) × (i.deadline ≡ at_time t))
  shown_with q t there =
      let i = there.0 in
      (bare i, (shown_by (shown_at k.schedule q) (body_at k.schedule q) i i.ended t refl there.1.1 (subst (Tells (Shows (whole_design k) k.program.now) (shown_at k.schedule q) (body_at k.schedule q)) there.1.0 (h.processes.each q)), there.1.1))

  -- and what is shown with a time is an instance with it
  held_by : (o : Option Instance) (b : Option Kept) (j i : Instance) (e : Bool) → j.ended ≡ e → o ≡ Some i → TellsBy (Shows (whole_design k) k.program.now) e o b j → j.deadline ≡ i.deadline
  held_by o b j i true is shown gone = absurd (true≢false (sym (ap is_some shown) ∙ ap is_some gone.0))
  held_by o b j i false is shown lives = ap (λ z. (unwrap_or z i).deadline) (sym lives.shown ∙ shown)

  held_at : (q t : ℕ) (i : Instance) (o : Option Instance) → slice_get c.processes.instances q ≡ o → shown_at k.schedule q ≡ Some i → i.deadline ≡ at_time t → Tells (Shows (whole_design k) k.program.now) (shown_at k.schedule q) (body_at k.schedule q) o → At c.processes.instances q t
  held_at q t i None there shown at gone = absurd (true≢false (sym (ap is_some shown) ∙ ap is_some gone))
  held_at q t i (Some j) there shown at tells = (j, (there, held_by (shown_at k.schedule q) (body_at k.schedule q) j i j.ended refl shown tells ∙ at))

  pub event_alone : HasNoTime k.schedule → earliest c ≡ earliest_event k.events None
  event_alone none = no_times c.processes.instances (earliest_event c.events None) (λ q t there. let s = shown_with q t there in none.none q s.0 t s.1.0 s.1.1) ∙ ap (λ es. earliest_event es None) h.events

  pub with_deadline : (t : ℕ) → IsEarliestTime k.schedule t → earliest c ≡ earlier (earliest_event k.events None) t
  with_deadline t is =
      let held = is.held in
      least_time c.processes.instances (earliest_event c.events None) t held.0 (held_at held.0 t held.1 (slice_get c.processes.instances held.0) refl held.2 held.3 (h.processes.each held.0))
      (λ p u there. let s = shown_with p u there in is.least p s.0 u s.1.0 s.1.1) ∙ ap (λ es. earlier (earliest_event es None) t) h.events

  -- a notification that no wait ends before
  pub event_first : (t b : ℕ) → earliest_event k.events None ≡ Some t → HasNoTimeBefore k.schedule b → t ≤ b → earliest c ≡ Some t
  event_first t b told bound le =
      ap (λ es. earliest_deadline c.processes.instances (earliest_event es None)) h.events ∙ ap (earliest_deadline c.processes.instances) told
      ∙ stays_least c.processes.instances t (λ q u there. let s = shown_with q u there in let more = bound.least q s.0 u s.1.0 s.1.1 in omega (arith, le, more))

  -- a wait that no notification is before
  pub deadline_first : (t b : ℕ) → IsEarliestTime k.schedule t → ((u : ℕ) → earliest_event k.events None ≡ Some u → b ≤ u) → t ≤ b → earliest c ≡ Some t
  deadline_first t b is bound le =
      with_deadline t is ∙ none_earlier (earliest_event k.events None) t (λ u told. let more = bound u told in omega (arith, le, more))
