-- The earliest of the timed notifications.
use Rattle.std.proofs.Common.{◌≡◌, ◌≤◌, ℕ, zero, suc, Bool, true, false, cond, List, [], ◌∷◌, Option, Some, None, ◌⊎◌, inl, inr, ⊎_elim, refl, sym, ap, ◌∙◌, arith, ltb-true, ltb-false}
use Rattle.std.specs.Prelude.{nat_lt, IsNone, IfSome, ◌↔◌, option_map}
use Rattle.std.specs.Global.{Vec}
use Rattle.std.specs.Ordering.{nat_cmp}
use Rattle.std.specs.FinMap as maps
use Rattle.timed_queue.specs.SimTime.declared.moments.Time.{Time}
use Rattle.sim_model.specs.EventCore.declared.notifications.Pending.{Pending}
use Rattle.sim_model.specs.EventCore.declared.notifications.Pending.TheVariants as pending
use Rattle.sim_model.specs.EventCore.Notifications.{pending_at}
use Rattle.timed_queue.specs.Timed.{Timed, IsEarliest}
use Rattle.timed_queue.proofs.MapLemmas.{same_gets}
use Rattle.sim_model.specs.Phases.{earliest_event}
use Rattle.kernel_events.specs.Layout.{time_of, IsTied}

-- the earliest, where none is before this time
from_least : (events : List Pending) (m : ℕ) → ((e : ℕ) (u : Time) → time_of (pending_at events e) ≡ Some u → m ≤ u.0) → earliest_event events (Some m) ≡ Some m
from_least [] m least = refl
from_least (pending.Nothing ∷ events) m least = from_least events m (λ e. least (suc e))
from_least (pending.Delta ∷ events) m least = from_least events m (λ e. least (suc e))
from_least (pending.At u ∷ events) m least = by_test (nat_lt u.0 m) refl (from_least events m (λ e. least (suc e)))
  where
    by_test : (b : Bool) → nat_lt u.0 m ≡ b → earliest_event events (Some m) ≡ Some m → earliest_event events (cond b (Some u.0) (Some m)) ≡ Some m
    by_test true is rest = absurd (let below = ltb-true u.0 m is in let above = least 0 u refl in omega (arith, below, above))
    by_test false is rest = rest

-- m stands there, and what came before is not earlier
abbrev pub IsAfter : ℕ → Option ℕ → Type 0
IsAfter m None = Unit {0}
IsAfter m (Some t) = m ≤ t

earliest_is : (events : List Pending) (m : ℕ) (t : Option ℕ) → IsAfter m t → (e : ℕ) (v : Time) → time_of (pending_at events e) ≡ Some v → v.0 ≡ m
    → ((e : ℕ) (u : Time) → time_of (pending_at events e) ≡ Some u → m ≤ u.0) → earliest_event events t ≡ Some m
earliest_is [] m t after e v held is least = absurd (let none : None ≡ Some v = held in cc)
earliest_is (pending.Nothing ∷ events) m t after zero v held is least = absurd (let none : None ≡ Some v = held in cc)
earliest_is (pending.Nothing ∷ events) m t after (suc e) v held is least = earliest_is events m t after e v held is (λ q. least (suc q))
earliest_is (pending.Delta ∷ events) m t after zero v held is least = absurd (let none : None ≡ Some v = held in cc)
earliest_is (pending.Delta ∷ events) m t after (suc e) v held is least = earliest_is events m t after e v held is (λ q. least (suc q))
earliest_is (pending.At u ∷ events) m None after zero v held is least =
    let same : u ≡ v = (let h : Some u ≡ Some v = held in cc) in
    ap (λ k. earliest_event events (Some k)) (ap (λ x. x.0) same ∙ is) ∙ from_least events m (λ q. least (suc q))
earliest_is (pending.At u ∷ events) m None after (suc e) v held is least = earliest_is events m (Some u.0) (least 0 u refl) e v held is (λ q. least (suc q))
earliest_is (pending.At u ∷ events) m (Some t) after zero v held is least = by_test (nat_lt u.0 t) refl
  where
    same : u.0 ≡ m
    same = ap (λ x. x.0) (let h : Some u ≡ Some v = held in let same : u ≡ v = cc in same) ∙ is

    by_test : (b : Bool) → nat_lt u.0 t ≡ b → earliest_event events (cond b (Some u.0) (Some t)) ≡ Some m
    by_test true _ = ap (λ k. earliest_event events (Some k)) same ∙ from_least events m (λ q. least (suc q))
    by_test false not =
        let past = ltb-false u.0 t not in
        let equal : t ≡ m = omega (arith, past, same, after) in
        ap (λ k. earliest_event events (Some k)) equal ∙ from_least events m (λ q. least (suc q))
earliest_is (pending.At u ∷ events) m (Some t) after (suc e) v held is least =
    by_test (nat_lt u.0 t) (earliest_is events m (Some u.0) (least 0 u refl) e v held is (λ q. least (suc q))) (earliest_is events m (Some t) after e v held is (λ q. least (suc q)))
  where
    by_test : (b : Bool) → earliest_event events (Some u.0) ≡ Some m → earliest_event events (Some t) ≡ Some m → earliest_event events (cond b (Some u.0) (Some t)) ≡ Some m
    by_test true new old = new
    by_test false new old = old

none_there : (events : List Pending) → ((e : ℕ) → time_of (pending_at events e) ≡ None) → earliest_event events None ≡ None
none_there [] none = refl
none_there (pending.Nothing ∷ events) none = none_there events (λ e. none (suc e))
none_there (pending.Delta ∷ events) none = none_there events (λ e. none (suc e))
none_there (pending.At u ∷ events) none = absurd (let h : Some u ≡ None = none 0 in cc)

-- a time once found is never lost
some_stays : (events : List Pending) (t : ℕ) → earliest_event events (Some t) ≡ None → ⊥
some_stays [] t is = let none : Some t ≡ None = is in cc
some_stays (pending.Nothing ∷ events) t is = some_stays events t is
some_stays (pending.Delta ∷ events) t is = some_stays events t is
some_stays (pending.At u ∷ events) t is = by_test (nat_lt u.0 t) (some_stays events u.0) (some_stays events t) is
  where
    by_test : (b : Bool) → (earliest_event events (Some u.0) ≡ None → ⊥) → (earliest_event events (Some t) ≡ None → ⊥) → earliest_event events (cond b (Some u.0) (Some t)) ≡ None → ⊥
    by_test true new old is = new is
    by_test false new old is = old is

-- where none is told no event has one
none_pending : (events : List Pending) → earliest_event events None ≡ None → (e : ℕ) → time_of (pending_at events e) ≡ None
none_pending [] is e = refl
none_pending (pending.Nothing ∷ events) is zero = refl
none_pending (pending.Nothing ∷ events) is (suc e) = none_pending events is e
none_pending (pending.Delta ∷ events) is zero = refl
none_pending (pending.Delta ∷ events) is (suc e) = none_pending events is e
none_pending (pending.At u ∷ events) is e = absurd (some_stays events u.0 is)

-- a time that is told is that of an event, or was there before
behind : (p : Pending) (events : List Pending) (t : Option ℕ) (u : ℕ) → (t ≡ Some u) ⊎ ((e : ℕ) × (v : Time) × (time_of (pending_at events e) ≡ Some v) × (v.0 ≡ u))
    → (t ≡ Some u) ⊎ ((e : ℕ) × (v : Time) × (time_of (pending_at (p ∷ events) e) ≡ Some v) × (v.0 ≡ u))
behind p events t u told = ⊎_elim (λ here. inl here) (λ rest. inr (suc rest.0, rest.1, rest.2, rest.3)) told

told_by : (events : List Pending) (t : Option ℕ) (u : ℕ) → earliest_event events t ≡ Some u → (t ≡ Some u) ⊎ ((e : ℕ) × (v : Time) × (time_of (pending_at events e) ≡ Some v) × (v.0 ≡ u))
told_by [] t u is = inl is
told_by (pending.Nothing ∷ events) t u is = behind (pending.Nothing) events t u (told_by events t u is)
told_by (pending.Delta ∷ events) t u is = behind (pending.Delta) events t u (told_by events t u is)
told_by (pending.At w ∷ events) None u is = ⊎_elim
    (λ (here : Some w.0 ≡ Some u). inr (0, w, refl, (let same : w.0 ≡ u = cc in same)))
    (λ rest. inr (suc rest.0, rest.1, rest.2, rest.3))
    (told_by events (Some w.0) u is)
told_by (pending.At w ∷ events) (Some t) u is = by_test (nat_lt w.0 t) (λ b. told_by events (cond b (Some w.0) (Some t)) u) is
  where
    There : Type 0
    There = (e : ℕ) × (v : Time) × (time_of (pending_at (pending.At w ∷ events) e) ≡ Some v) × (v.0 ≡ u)

    by_test : (b : Bool) → ((b : Bool) → earliest_event events (cond b (Some w.0) (Some t)) ≡ Some u
        → (cond b (Some w.0) (Some t) ≡ Some u) ⊎ ((e : ℕ) × (v : Time) × (time_of (pending_at events e) ≡ Some v) × (v.0 ≡ u)))
        → earliest_event events (cond b (Some w.0) (Some t)) ≡ Some u → (Some t ≡ Some u) ⊎ There
    by_test true told is = ⊎_elim
        (λ (here : Some w.0 ≡ Some u). inr (0, w, refl, (let same : w.0 ≡ u = cc in same)))
        (λ rest. inr (suc rest.0, rest.1, rest.2, rest.3))
        (told true is)
    by_test false told is = ⊎_elim (λ here. inl here) (λ rest. inr (suc rest.0, rest.1, rest.2, rest.3)) (told false is)

module _ (events : List Pending) (listed : Vec ℕ) (timed : Timed) (n : ℕ) (tied : IsTied events listed timed n) where
  pub earliest_told : (answer : Option Time) → (IsNone answer ↔ (timed.times ≡ maps.empty)) → IfSome answer (IsEarliest timed.times) → option_map (λ t. t.0) answer ≡ earliest_event events None
  earliest_told None none least = sym (none_there events (λ e. sym (tied.times e) ∙ ap (λ m. maps.get m e) (none.0 refl) ∙ maps.get-empty nat_cmp e))
  earliest_told (Some t) none least = sym (earliest_is events t.0 None tt least.held.0 t (sym (tied.times least.held.0) ∙ least.held.1) refl
      (λ e u is. least.least e u (tied.times e ∙ is)))

  pub none_told : timed.times ≡ maps.empty → earliest_event events None ≡ None
  none_told none = none_there events (λ e. sym (tied.times e) ∙ ap (λ m. maps.get m e) none ∙ maps.get-empty nat_cmp e)

  pub none_timed : earliest_event events None ≡ None → timed.times ≡ maps.empty
  none_timed none = same_gets maps.empty timed.times (λ e. tied.times e ∙ none_pending events none e ∙ sym (maps.get-empty nat_cmp e))

  pub bound_told : (t : Time) → ((name : ℕ) (other : Time) → maps.get timed.times name ≡ Some other → t.0 ≤ other.0) → (u : ℕ) → earliest_event events None ≡ Some u → t.0 ≤ u
  bound_told t from u is = ⊎_elim
      (λ (here : None ≡ Some u). absurd (cc))
      (λ rest. let le = from rest.0 rest.1 (tied.times rest.0 ∙ rest.2) in let same = rest.3 in omega (arith, le, same))
      (told_by events None u is)
