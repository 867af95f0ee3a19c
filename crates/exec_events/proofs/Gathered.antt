-- Events that are looked up one after another are those of the definition, which evaluates all places first.
use Rattle.std.proofs.Common.{◌≡◌, ℕ, Bool, List, [], ◌∷◌, Option, Some, None, option_map, Result, Ok, Err, refl, sym, ap, ◌∙◌}
use Rattle.std.specs.Prelude.{IfOk}
use Rattle.kernel_view.specs.EventCore.declared.event.Ev.{Ev}
use Rattle.kernel_view.specs.LogicValues.declared.kinds.Value.{Value}
use Rattle.flat_design.specs.Code.{Term, EventTerm}
use Rattle.flat_design.specs.declared.faults.RunFault.{RunFault}
use Rattle.kernel_view.specs.SimModel.Values.{on_ok, moment}
use Rattle.kernel_view.specs.SimModel.Configuration.{Trigger, Wait, Deadline}
use Rattle.kernel_view.specs.SimModel.Reading.{Here, val, val_if, place_in}
use Rattle.kernel_view.specs.SimModel.Waiting.{event_of, places_in, events_at, time_if, deadline_if, awaits}
use Rattle.exec_events.specs.Named.{with_event, fault_of, first_fault, events_named}
use Rattle.exec_events.specs.Requests.{wait_for, waiting_for, ends}
use Rattle.exec_events.proofs.Onces.{added, waited}

-- what follows of what was found
pub if_found : {A E : Type 0} (P Q : A → Type 0) (o : Result A E) → IfOk o P → ((a : A) → P a → Q a) → IfOk o Q
if_found P Q (Ok a) has f = f a has
if_found P Q (Err e) has f = has

-- ---- the first fault

-- a fault that was found before, and then what the rest gives
abbrev pub faults : Here → Option RunFault → List EventTerm → Result (Option RunFault) RunFault
faults h f es = on_ok (places_in h es) (λ ks. Ok (first_fault f (fault_of (events_at h es ks))))

one_fault : (f : Option RunFault) (x : Result Ev RunFault) (r : Result (List Ev) RunFault)
    → first_fault (first_fault f (fault_of x)) (fault_of r) ≡ first_fault f (fault_of (on_ok x (λ y. on_ok r (λ ys. Ok (y ∷ ys)))))
one_fault (Some g) x r = refl
one_fault None (Err g) r = refl
one_fault None (Ok y) (Ok ys) = refl
one_fault None (Ok y) (Err g) = refl

pub none_before : (h : Here) (es : List EventTerm) → faults h None es ≡ on_ok (places_in h es) (λ ks. Ok (fault_of (events_at h es ks)))
none_before h es = refl

pub none_left : (h : Here) (f : Option RunFault) → Ok f ≡ faults h f []
none_left h None = refl
none_left h (Some g) = refl

module _ (h : Here) (e : EventTerm) (es : List EventTerm) (f : Option RunFault) where
  then_rest : (k : Option ℕ) (r : Result (List (Option ℕ)) RunFault) → on_ok r (λ ks. Ok (first_fault (first_fault f (fault_of (event_of h e.event_name k e.event))) (fault_of (events_at h es ks))))
      ≡ on_ok (on_ok r (λ ks. Ok (k ∷ ks))) (λ ks. Ok (first_fault f (fault_of (events_at h (e ∷ es) ks))))
  then_rest k (Ok ks) = ap (λ o. Ok o) (one_fault f (event_of h e.event_name k e.event) (events_at h es ks))
  then_rest k (Err g) = refl

  abbrev from_place : Result (Option ℕ) RunFault → Result (Option RunFault) RunFault
  from_place r = on_ok (on_ok r (λ k. on_ok (places_in h es) (λ ks. Ok (k ∷ ks)))) (λ ks. Ok (first_fault f (fault_of (events_at h (e ∷ es) ks))))

  pub faults_more : (k : Option ℕ) → Ok k ≡ place_in h e.place → faults h (first_fault f (fault_of (event_of h e.event_name k e.event))) es ≡ faults h f (e ∷ es)
  faults_more k at = then_rest k (places_in h es) ∙ ap from_place at

  pub no_place : (g : RunFault) → Err g ≡ place_in h e.place → Err g ≡ faults h f (e ∷ es)
  no_place g at = ap from_place at

-- ---- the events

-- those that were found before, and then what the rest gives
abbrev pub adds : Here → Bool → List Ev → List EventTerm → Result (List Ev) RunFault
adds h all xs es = on_ok (events_named h es) (λ ys. Ok (added all xs ys))

module _ (h : Here) (all : Bool) (xs total : List Ev) (e : EventTerm) (es : List EventTerm) where
  abbrev added_by : Result Ev RunFault → Result (List Ev) RunFault → Result (List Ev) RunFault
  added_by x r = on_ok (on_ok x (λ y. on_ok r (λ ys. Ok (y ∷ ys)))) (λ ys. Ok (added all xs ys))

  abbrev placed : Result (Option ℕ) RunFault → Result (List (Option ℕ)) RunFault → Result (List Ev) RunFault
  placed r s = on_ok (on_ok (on_ok r (λ k. on_ok s (λ ks. Ok (k ∷ ks)))) (events_at h (e ∷ es))) (λ ys. Ok (added all xs ys))

  abbrev event_at : Result (Option ℕ) RunFault → Result Ev RunFault
  event_at r = on_ok r (λ n. event_of h e.event_name n e.event)

  module _ (y : Ev) where
    with_rest : (r : Result (List Ev) RunFault) → added_by (Ok y) r ≡ Ok total → on_ok r (λ ys. Ok (added all (with_event all xs y) ys)) ≡ Ok total
    with_rest (Ok ys) is = is
    with_rest (Err f) is = is

    with_places : (r : Result (Option ℕ) RunFault) (s : Result (List (Option ℕ)) RunFault) → Ok y ≡ event_at r → placed r s ≡ Ok total
        → on_ok (on_ok s (events_at h es)) (λ ys. Ok (added all (with_event all xs y) ys)) ≡ Ok total
    with_places (Ok k) (Ok ks) event is = with_rest (events_at h es ks) (ap (λ x. added_by x (events_at h es ks)) event ∙ is)
    with_places (Ok k) (Err f) event is = is
    with_places (Err f) s event is = absurd (let no : ⊥ = cc in no)

    pub adds_one : Ok y ≡ event_at (place_in h e.place) → adds h all xs (e ∷ es) ≡ Ok total → adds h all (with_event all xs y) es ≡ Ok total
    adds_one = with_places (place_in h e.place) (places_in h es)

  module _ (f : RunFault) where
    without : (r : Result (Option ℕ) RunFault) (s : Result (List (Option ℕ)) RunFault) → Err f ≡ event_at r → placed r s ≡ Ok total → ⊥
    without (Ok k) (Ok ks) event is = let so : Err f ≡ Ok total = ap (λ x. added_by x (events_at h es ks)) event ∙ is in cc
    without (Ok k) (Err g) event is = cc
    without (Err g) s event is = cc

    pub adds_none : Err f ≡ event_at (place_in h e.place) → adds h all xs (e ∷ es) ≡ Ok total → ⊥
    adds_none = without (place_in h e.place) (places_in h es)

pub all_added : (h : Here) (all : Bool) (xs ys : List Ev) → adds h all xs [] ≡ Ok (added all [] ys) → waiting_for all xs ≡ wait_for all ys
all_added h all xs ys is = ap (waiting_for all) (let same : xs ≡ added all [] ys = cc in same) ∙ sym (waited all ys)

-- ---- a wait for events, with its time-out

-- a time-out, in the words of its value
timed : (h : Here) (t : Option Term) → time_if h t ≡ on_ok (val_if h t) (λ v. Ok (option_map moment v))
timed h None = refl
timed h (Some e) = by (val h e)
  where
    by : (r : Result Value RunFault) → on_ok r (λ v. Ok (Some (moment v))) ≡ on_ok (on_ok r (λ v. Ok (Some v))) (λ v. Ok (option_map moment v))
    by (Ok v) = refl
    by (Err f) = refl

module _ (h : Here) (how : List Ev → Wait) (es : List EventTerm) (t : Option Term) where
  -- when it ends, once the first fault of the events and the time-out are known
  abbrev pub ended : Option RunFault → Option Value → Result Deadline RunFault
  ended (Some f) v = Err f
  ended None v = deadline_if h.config.cycle.now (option_map moment v)

  abbrev ended_at : Option RunFault → Option ℕ → Result Deadline RunFault
  ended_at (Some f) u = Err f
  ended_at None u = deadline_if h.config.cycle.now u

  same_end : (o : Option RunFault) (v : Option Value) → ended_at o (option_map moment v) ≡ ended o v
  same_end (Some f) v = refl
  same_end None v = refl

  abbrev by_deadline : List Ev → Result Deadline RunFault → Result Trigger RunFault
  by_deadline xs r = on_ok r (λ d. Ok (record { wait = how xs; deadline = d }))

  abbrev by_events : Option ℕ → Result (List Ev) RunFault → Result Trigger RunFault
  by_events u r = on_ok r (λ xs. by_deadline xs (deadline_if h.config.cycle.now u))

  abbrev by_time : List (Option ℕ) → Result (Option ℕ) RunFault → Result Trigger RunFault
  by_time ks r = on_ok r (λ u. by_events u (events_at h es ks))

  abbrev by_places : Result (List (Option ℕ)) RunFault → Result Trigger RunFault
  by_places r = on_ok r (λ ks. by_time ks (time_if h t))

  deadline_ends : (xs : List Ev) (r : Result Deadline RunFault) → ends (by_deadline xs r) ≡ r
  deadline_ends xs (Ok d) = refl
  deadline_ends xs (Err f) = refl

  events_end : (u : Option ℕ) (r : Result (List Ev) RunFault) → ends (by_events u r) ≡ ended_at (fault_of r) u
  events_end u (Ok xs) = deadline_ends xs (deadline_if h.config.cycle.now u)
  events_end u (Err f) = refl

  time_ends : (ks : List (Option ℕ)) (r : Result (Option Value) RunFault) → ends (by_time ks (on_ok r (λ v. Ok (option_map moment v)))) ≡ on_ok r (ended (fault_of (events_at h es ks)))
  time_ends ks (Ok v) = events_end (option_map moment v) (events_at h es ks) ∙ same_end (fault_of (events_at h es ks)) v
  time_ends ks (Err f) = refl

  places_end : (r : Result (List (Option ℕ)) RunFault) → ends (by_places r) ≡ on_ok (on_ok r (λ ks. Ok (fault_of (events_at h es ks)))) (λ o. on_ok (val_if h t) (ended o))
  places_end (Ok ks) = ap (λ x. ends (by_time ks x)) (timed h t) ∙ time_ends ks (val_if h t)
  places_end (Err f) = refl

  -- the first fault of the events is known, and the time-out
  pub ends_by : (first : Result (Option RunFault) RunFault) (time : Result (Option Value) RunFault) → first ≡ on_ok (places_in h es) (λ ks. Ok (fault_of (events_at h es ks))) → time ≡ val_if h t
      → on_ok first (λ o. on_ok time (ended o)) ≡ ends (awaits h how es t)
  ends_by first time faults value =
      ap (λ x. on_ok first (λ o. on_ok x (ended o))) value
      ∙ ap (λ x. on_ok x (λ o. on_ok (val_if h t) (ended o))) faults
      ∙ sym (places_end (places_in h es))

  -- where it has no fault, its events have none
  module _ (x : Trigger) where
    deadline_waits : (xs : List Ev) (r : Result Deadline RunFault) → by_deadline xs r ≡ Ok x → how xs ≡ x.wait
    deadline_waits xs (Ok d) is = let whole : Trigger = record { wait = how xs; deadline = d } in let same : whole ≡ x = cc in ap (λ (y : Trigger). y.wait) same
    deadline_waits xs (Err f) is = absurd (let no : ⊥ = cc in no)

    events_wait : (u : Option ℕ) (r : Result (List Ev) RunFault) → by_events u r ≡ Ok x → (xs : List Ev) × ((r ≡ Ok xs) × (how xs ≡ x.wait))
    events_wait u (Ok xs) is = (xs, (refl, deadline_waits xs (deadline_if h.config.cycle.now u) is))
    events_wait u (Err f) is = absurd (let no : ⊥ = cc in no)

    time_waits : (ks : List (Option ℕ)) (r : Result (Option ℕ) RunFault) → by_time ks r ≡ Ok x → (xs : List Ev) × ((events_at h es ks ≡ Ok xs) × (how xs ≡ x.wait))
    time_waits ks (Ok u) is = events_wait u (events_at h es ks) is
    time_waits ks (Err f) is = absurd (let no : ⊥ = cc in no)

    places_wait : (r : Result (List (Option ℕ)) RunFault) → by_places r ≡ Ok x → (xs : List Ev) × ((on_ok r (events_at h es) ≡ Ok xs) × (how xs ≡ x.wait))
    places_wait (Ok ks) is = time_waits ks (time_if h t) is
    places_wait (Err f) is = absurd (let no : ⊥ = cc in no)

    pub waits_for : (w : Wait) → ((xs : List Ev) → events_named h es ≡ Ok xs → w ≡ how xs) → awaits h how es t ≡ Ok x → w ≡ x.wait
    waits_for w found is = let given = places_wait (places_in h es) is in found given.0 given.1.0 ∙ given.1.1
