-- What is kept stays tied where all notifications of a kind are taken out.
use Rattle.std.proofs.Common.{◌≡◌, ◌<◌, ◌≤◌, ◌+◌, ◌-◌, ℕ, zero, suc, Bool, true, false, cond, not, List, [], ◌∷◌, ◌++◌, Some, None, length, get_or, take, drop, slice_get, refl, sym, ap, ◌∙◌, subst, arith, append_assoc, true≢false}
use Rattle.std.specs.Prelude.{is_some, ◌==◌, ◌&&◌, count_by, map, unwrap_or, vec_capacity, T}
use Rattle.std.specs.Global.{Vec}
use Rattle.std.specs.List.{list_any, All}
use Rattle.std.specs.List.Sorted.{IsStrictlyIncreasing}
use Rattle.std.specs.declared.cmp.Ordering.{Ordering}
use Rattle.std.specs.declared.cmp.Ordering.TheVariants.{Less, Equal, Greater}
use Rattle.std.specs.Ordering.{nat_cmp, eq_by_cmp, is_lt}
use Rattle.std.specs.Cmp.{nat_cmp_total, unsigned_tied, ranked, eq_by_cmp_equiv}
use Rattle.std.specs.FinMap as maps
use Rattle.std.proofs.Math.ListN.{get_or-map}
use Rattle.std.proofs.lemmas.List.{nil_from_length, length-map, length-append, map-append, set_at, drop_at, take_rest}
use Rattle.std.proofs.lemmas.List.Elements.{All-same, All-nil}
use Rattle.std.proofs.lemmas.List.Sums.{sum_by-cons}
use Rattle.std.proofs.lemmas.Option.{unwrap_or-slice_get}
use Rattle.timed_queue.proofs.MapLemmas.{same_gets}
use Rattle.timed_queue.specs.SimTime.declared.moments.Time.{Time}
use Rattle.sim_model.specs.EventCore.declared.event.Ev.TheVariants as ev
use Rattle.sim_model.specs.EventCore.declared.notifications.Pending.{Pending}
use Rattle.sim_model.specs.EventCore.declared.notifications.Pending.TheVariants as pending
use Rattle.sim_model.specs.EventCore.Notifications.{pending_at}
use Rattle.sim_model.specs.NumberedSlots.Places.{places_from, marked_places}
use Rattle.timed_queue.specs.Timed as queue
use Rattle.timed_queue.specs.Timed.{Timed, is_due, due_at, without_due}
use Rattle.sim_model.specs.Phases.{is_delta, is_at, due_events, without_pending}
use Rattle.kernel_events.specs.Numbered.{fixed}
use Rattle.kernel_events.specs.Layout.{time_of, is_timed, IsListed, IsTied, nothing_at, AreBelow}

-- ---- the numbers of those that are due, and what is left of them

module _ (test : Pending → Bool) where
  abbrev pub due : List Pending → List ℕ
  due events = marked_places (map test events)

  due_from : (n : ℕ) (events : List Pending) → fixed (places_from n (map test events)) ≡ due_events test n events
  due_from n [] = refl
  due_from n (e ∷ events) = by_test (test e) (due_from (n + 1) events ∙ (let k : n + 1 ≡ suc n = omega arith in ap (λ m. due_events test m events) k))
    where
      by_test : (b : Bool) → fixed (places_from (n + 1) (map test events)) ≡ due_events test (suc n) events
          → fixed (places_from n (b ∷ map test events)) ≡ cond b (ev.Fixed n ∷ due_events test (suc n) events) (due_events test (suc n) events)
      by_test true rest = ap (λ es. ev.Fixed n ∷ es) rest
      by_test false rest = rest

  pub fixed-due : (events : List Pending) → fixed (due events) ≡ due_events test 0 events
  fixed-due events = due_from 0 events

  pub fixed-append : (ns : List ℕ) (events : List Pending) → fixed (ns ++ due events) ≡ fixed ns ++ due_events test 0 events
  fixed-append ns events = map-append (λ (n : ℕ). ev.Fixed n) ns (due events) ∙ ap (λ es. fixed ns ++ es) (fixed-due events)

  left_from : (n : ℕ) (front events : List Pending) → length front ≡ n → nothing_at (places_from n (map test events)) (front ++ events) ≡ front ++ map (without_pending test) events
  left_from n front [] is = refl
  left_from n front (e ∷ events) is = by_test (test e) (λ x.
      let more : length (front ++ x ∷ []) ≡ n + 1 = omega (arith, is, length-append front (x ∷ [])) in
      ap (λ es. nothing_at (places_from (n + 1) (map test events)) es) (sym (append_assoc front (x ∷ []) events))
      ∙ left_from (n + 1) (front ++ x ∷ []) events more
      ∙ append_assoc front (x ∷ []) (map (without_pending test) events))
    where
      by_test : (b : Bool) → ((x : Pending) → nothing_at (places_from (n + 1) (map test events)) (front ++ x ∷ events) ≡ front ++ x ∷ map (without_pending test) events) → nothing_at (places_from n (b ∷ map test events)) (front ++ e ∷ events) ≡ front ++ cond b pending.Nothing e ∷ map (without_pending test) events
      by_test true rest = ap (λ es. nothing_at (places_from (n + 1) (map test events)) es) (set_at front e events pending.Nothing n is) ∙ rest pending.Nothing
      by_test false rest = rest e

  pub nothing_left : (events : List Pending) → nothing_at (due events) events ≡ map (without_pending test) events
  nothing_left events = left_from 0 [] events refl

  below_from : (n m : ℕ) (events : List Pending) → n + length events ≤ m → AreBelow m (places_from n (map test events))
  below_from n m [] h = tt
  below_from n m (e ∷ events) h = by_test (test e) (below_from (n + 1) m events (omega (arith, h)))
    where
      by_test : (b : Bool) → AreBelow m (places_from (n + 1) (map test events)) → AreBelow m (places_from n (b ∷ map test events))
      by_test true rest = (omega (arith, h), rest)
      by_test false rest = rest

  pub below-due : (events : List Pending) → AreBelow (length events) (due events)
  below-due events = below_from 0 (length events) events (omega arith)

  pub count-due : (events : List Pending) → count_by (λ mark. mark) (map test events) ≡ count_by test events
  count-due [] = refl
  count-due (e ∷ events) = sum_by-cons (λ mark. cond mark 1 0) (test e) (map test events)
      ∙ ap (λ k. cond (test e) 1 0 + k) (count-due events) ∙ sym (sum_by-cons (λ x. cond (test x) 1 0) e events)

  length-left : (events : List Pending) → length (map (without_pending test) events) ≡ length events
  length-left events = length-map events (without_pending test)

  -- those behind the first ones
  pub behind : (ns : List ℕ) (events : List Pending) (out : List ℕ) (k : ℕ) → out ≡ ns ++ due events → k ≡ length ns → take (length out - k) (drop k out) ≡ due events
  behind ns events out k is at = take_rest out k ∙ ap (drop k) is ∙ drop_at ns (due events) k (sym at)

-- ---- the delta notifications

abbrev one_if : Bool → ℕ
one_if b = cond b 1 0

none_then : (p : Pending) → without_pending is_delta p ≡ pending.Delta → ⊥
none_then pending.Nothing is = let h : pending.Nothing ≡ pending.Delta = is in cc
none_then pending.Delta is = let h : pending.Nothing ≡ pending.Delta = is in cc
none_then (pending.At t) is = let h : pending.At t ≡ pending.Delta = is in cc

same_time : (p : Pending) → time_of (without_pending is_delta p) ≡ time_of p
same_time pending.Nothing = refl
same_time pending.Delta = refl
same_time (pending.At t) = refl

same_count : (events : List Pending) → count_by is_timed (map (without_pending is_delta) events) ≡ count_by is_timed events
same_count [] = refl
same_count (e ∷ events) = sum_by-cons (λ x. one_if (is_timed x)) (without_pending is_delta e) (map (without_pending is_delta) events)
    ∙ ap (λ o. one_if (is_some o) + count_by is_timed (map (without_pending is_delta) events)) (same_time e)
    ∙ ap (λ k. one_if (is_timed e) + k) (same_count events) ∙ sym (sum_by-cons (λ x. one_if (is_timed x)) e events)

pub tied_deltas : (events : List Pending) (listed : Vec ℕ) (timed : Timed) (n : ℕ) → IsTied events listed timed n → (listed' : Vec ℕ) → listed'.items ≡ [] → vec_capacity listed' ≡ vec_capacity listed
    → IsTied (map (without_pending is_delta) events) listed' timed n
tied_deltas events listed timed n tied listed' none same = record {
  deltas = record {
    each = λ q is. absurd (none_then (pending_at events q) (sym (get_or-map (without_pending is_delta) events q pending.Nothing) ∙ is));
    below = All-same (λ q. q < length (map (without_pending is_delta) events)) listed'.items [] none (All-nil (λ q. q < length (map (without_pending is_delta) events)));
    places = let places = tied.deltas.places in omega (arith, places, same, length-left is_delta events);
  };
  times = λ e. tied.times e ∙ sym (same_time (pending_at events e)) ∙ ap time_of (sym (get_or-map (without_pending is_delta) events e pending.Nothing));
  room = let room = tied.room in omega (arith, room, same_count events, length-left is_delta events);
  size = tied.size ∙ sym (length-left is_delta events);
}

-- ---- the timed ones at one time

is_less : (o : Ordering) → T (is_lt o) → o ≡ Less
is_less Less h = refl
is_less Equal h = absurd h
is_less Greater h = absurd h

both : (a b : Bool) → T (a && b) → T a × T b
both true b h = (tt, h)
both false b h = absurd h

pub increasing_keys : {X : Type 0} (es : List (ℕ × X)) → T (maps.is_sorted nat_cmp es) → IsStrictlyIncreasing (map (λ e. e.0) es)
increasing_keys [] h k less = absurd (omega (arith, less))
increasing_keys (e ∷ []) h k less = absurd (omega (arith, less))
increasing_keys (e ∷ f ∷ es) h zero less = ranked e.0 f.0 Less (sym (is_less (nat_cmp e.0 f.0) (both _ _ (both _ _ h).0).0))
increasing_keys (e ∷ f ∷ es) h (suc k) less =
    let same : suc k + 1 ≡ suc (k + 1) = omega arith in
    subst (λ j. get_or (map (λ x. x.0) (f ∷ es)) k 0 < get_or (map (λ x. x.0) (e ∷ f ∷ es)) j 0) (sym same)
    (increasing_keys (f ∷ es) (both _ _ h).1 k (omega (arith, less)))

pub length_from : (test : Pending → Bool) (n : ℕ) (events : List Pending) → length (places_from n (map test events)) ≡ count_by test events
length_from test n [] = refl
length_from test n (e ∷ events) = by_test (test e) (length_from test (n + 1) events) ∙ sym (sum_by-cons (λ x. cond (test x) 1 0) e events)
  where
    by_test : (b : Bool) → length (places_from (n + 1) (map test events)) ≡ count_by test events → length (places_from n (b ∷ map test events)) ≡ cond b 1 0 + count_by test events
    by_test true rest = omega (arith, rest)
    by_test false rest = omega (arith, rest)

module _ (m : ℕ) where
  was_delta : (p : Pending) → without_pending (is_at m) p ≡ pending.Delta → p ≡ pending.Delta
  was_delta pending.Nothing is = is
  was_delta pending.Delta is = refl
  was_delta (pending.At u) is = absurd (by_test (u.0 == m) is)
    where
      by_test : (b : Bool) → cond b pending.Nothing (pending.At u) ≡ pending.Delta → ⊥
      by_test true is = let h : pending.Nothing ≡ pending.Delta = is in cc
      by_test false is = let h : pending.At u ≡ pending.Delta = is in cc

  still_listed : (events : List Pending) (listed : Vec ℕ) → IsListed events listed → IsListed (map (without_pending (is_at m)) events) listed
  still_listed events listed deltas = record {
    each = λ q is. deltas.each q (was_delta (pending_at events q) (sym (get_or-map (without_pending (is_at m)) events q pending.Nothing) ∙ is));
    below = subst (λ n. All (λ q. q < n) listed.items) (sym (length-left (is_at m) events)) deltas.below;
    places = let places = deltas.places in omega (arith, places, length-left (is_at m) events);
  }

  one_left : (p : Pending) → one_if (is_timed (without_pending (is_at m) p)) + one_if (is_at m p) ≡ one_if (is_timed p)
  one_left pending.Nothing = refl
  one_left pending.Delta = refl
  one_left (pending.At u) = by_test (u.0 == m)
    where
      by_test : (b : Bool) → one_if (is_timed (cond b pending.Nothing (pending.At u))) + one_if b ≡ 1
      by_test true = refl
      by_test false = refl

  count_left : (events : List Pending) → count_by is_timed (map (without_pending (is_at m)) events) + count_by (is_at m) events ≡ count_by is_timed events
  count_left [] = refl
  count_left (e ∷ events) = omega (
    arith,
    sum_by-cons (λ x. one_if (is_timed x)) (without_pending (is_at m) e) (map (without_pending (is_at m)) events),
    sum_by-cons (λ x. one_if (is_at m x)) e events,
    sum_by-cons (λ x. one_if (is_timed x)) e events,
    one_left e,
    count_left events,
  )

module _ (events : List Pending) (listed : Vec ℕ) (timed : Timed) (n : ℕ) (tied : IsTied events listed timed n) (t : Time) where
  get_retained : (p : ℕ → Bool) (q : ℕ) → maps.get (maps.retain_keys timed.times p) q ≡ cond (p q) (maps.get timed.times q) None
  get_retained p q = maps.get-retain_keys timed.times p q (λ x same. ap p (sym (maps.nat_cmp-IsAntisymmetric q x same)))

  has_due : (q : ℕ) → is_some (maps.get (due_at timed.times t) q) ≡ is_at t.0 (pending_at events q)
  has_due q = ap is_some (get_retained (is_due timed.times t) q ∙ ap (λ o. cond (queue.is_at t o) o None) (tied.times q)) ∙ by_case (pending_at events q)
    where
      by_test : (u : Time) (b : Bool) → is_some (cond b (Some u) None) ≡ b
      by_test u true = refl
      by_test u false = refl

      by_case : (p : Pending) → is_some (cond (queue.is_at t (time_of p)) (time_of p) None) ≡ is_at t.0 p
      by_case pending.Nothing = refl
      by_case pending.Delta = refl
      by_case (pending.At u) = by_test u (u.0 == t.0)

  members : (q : ℕ) → list_any (λ k. k == q) (maps.keys (due_at timed.times t)) ≡ unwrap_or (slice_get (map (is_at t.0) events) q) false
  members q =
      (λ i. list_any (λ k. same k i) (maps.keys (due_at timed.times t)))
      ∙ sym (maps.contains_key-keys (due_at timed.times t) q)
      ∙ has_due q
      ∙ sym (get_or-map (is_at t.0) events q pending.Nothing)
      ∙ sym (unwrap_or-slice_get (map (is_at t.0) events) q false)
    where
      same : (k : ℕ) → (k == q) ≡ eq_by_cmp nat_cmp q k
      same k = sym (unsigned_tied k q) ∙ (eq_by_cmp_equiv nat_cmp_total).symm k q

  module _ (only : (ms : List Bool) (places : List ℕ) → IsStrictlyIncreasing places → ((q : ℕ) → list_any (λ k. k == q) places ≡ unwrap_or (slice_get ms q) false) → places ≡ marked_places ms) where
    pub keys_due : maps.keys (due_at timed.times t) ≡ due (is_at t.0) events
    keys_due = only (map (is_at t.0) events) (maps.keys (due_at timed.times t)) (increasing_keys (maps.entries (due_at timed.times t)) (maps.entries_sorted (due_at timed.times t))) members

    pub len_due : maps.len (due_at timed.times t) ≡ count_by (is_at t.0) events
    len_due = maps.len-entries (due_at timed.times t) ∙ sym (length-map (maps.entries (due_at timed.times t)) (λ e. e.0)) ∙ ap length keys_due ∙ length_from (is_at t.0) 0 events

    pub tied_at : IsTied (map (without_pending (is_at t.0)) events) listed (without_due timed t) n
    tied_at = record {
      deltas = still_listed t.0 events listed tied.deltas;
      times = λ q. get_retained (λ name. not (is_due timed.times t name)) q ∙ ap (λ o. cond (not (queue.is_at t o)) o None) (tied.times q)
          ∙ by_case (pending_at events q) ∙ ap time_of (sym (get_or-map (without_pending (is_at t.0)) events q pending.Nothing));
      room = let room = tied.room in omega (arith, room, len_due, count_left t.0 events, length-left (is_at t.0) events);
      size = tied.size ∙ sym (length-left (is_at t.0) events);
    }
      where
        by_test : (u : Time) (b : Bool) → cond (not b) (Some u) None ≡ time_of (cond b pending.Nothing (pending.At u))
        by_test u true = refl
        by_test u false = refl

        by_case : (p : Pending) → cond (not (queue.is_at t (time_of p))) (time_of p) None ≡ time_of (without_pending (is_at t.0) p)
        by_case pending.Nothing = refl
        by_case pending.Delta = refl
        by_case (pending.At u) = by_test u (u.0 == t.0)

-- ---- where there are no times

none_at : {X : Type 0} (m : maps.FinMap nat_cmp X) → maps.len m ≡ 0 → (q : ℕ) → maps.get m q ≡ None
none_at m none q = maps.get-entries m q ∙ ap (λ es. maps.find nat_cmp q es) (nil_from_length (maps.entries m) (sym (maps.len-entries m) ∙ none))

pub empty_from_len : {X : Type 0} (m : maps.FinMap nat_cmp X) → maps.len m ≡ 0 → m ≡ maps.empty
empty_from_len m none = same_gets maps.empty m (λ q. none_at m none q ∙ sym (maps.get-empty nat_cmp q))

not_at : (m : ℕ) (p : Pending) → None ≡ time_of p → is_at m p ≡ false
not_at m pending.Nothing h = refl
not_at m pending.Delta h = refl
not_at m (pending.At u) h = absurd (true≢false (sym (ap is_some h)))

pub none_is_at : (events : List Pending) (listed : Vec ℕ) (timed : Timed) (n : ℕ) → IsTied events listed timed n → maps.len timed.times ≡ 0
    → (m q : ℕ) → is_at m (pending_at events q) ≡ false
none_is_at events listed timed n tied none m q = not_at m (pending_at events q) (sym (none_at timed.times none q) ∙ tied.times q)

module _ (test : Pending → Bool) where
  pub none_due : (n : ℕ) (events : List Pending) → ((q : ℕ) → test (pending_at events q) ≡ false) → due_events test n events ≡ []
  none_due n [] none = refl
  none_due n (e ∷ events) none = ap (λ b. cond b (ev.Fixed n ∷ due_events test (suc n) events) (due_events test (suc n) events)) (none 0)
      ∙ none_due (suc n) events (λ q. none (suc q))

  pub all_left : (events : List Pending) → ((q : ℕ) → test (pending_at events q) ≡ false) → map (without_pending test) events ≡ events
  all_left [] none = refl
  all_left (e ∷ events) none = λ i. ap (λ b. cond b pending.Nothing e) (none 0) i ∷ all_left events (λ q. none (suc q)) i
