-- An event strikes the waits of its list, one behind the other.
use Rattle.std.proofs.Common.{◌≡◌, ℕ, ◌<◌, ◌≤◌, ◌≢◌, Bool, true, false, true≢false, cond, not, ◌||◌, List, [], ◌∷◌, ◌++◌, length, Option, Some, None, refl, sym, ap, ◌∙◌, subst, arith, eq-eqb, ne_eqb, ⊎_elim, append-nil}
use Rattle.std.specs.Prelude.{slice_get, ◌==◌, is_some, is_none}
use Rattle.std.specs.Ordering.{nat_cmp}
use Rattle.std.specs.FinMap as maps
use Rattle.std.specs.FinSet as sets
use Rattle.std.proofs.lemmas.Bool.{cases_eq}
use Rattle.std.proofs.lemmas.List.{length-map}
use Rattle.event_core.specs.declared.event.Ev.{Ev}
use Rattle.event_core.specs.Ev.{same_event}
use Rattle.wait_lists.specs.declared.waiter.Waiter.{Waiter}
use Rattle.wait_lists.specs.declared.layout.Kept.{Kept}
use Rattle.wait_lists.specs.Waits.{Wait, AnyOf, AllOf, has, without, any_of, all_of, after, named_by, waits_for, wait_after, with_wait}
use Rattle.wait_lists.specs.Shown.{Shown, listed, unless, wait_of, passed_by, mark_of, told, waits_of}
use Rattle.wait_lists.specs.Chains.{none, Link, Links, has_tag, next_of, Goes}
use Rattle.wait_lists.specs.Nodes.{code_of, by_event, by_wait, first_in, event_at, events_at, shown_of}
use Rattle.wait_lists.specs.Layout.{IsSound, IsOf, IsUsed, IsNodes, IsShorter, IsOver, last_in, first_from, shown_by, waits_by}
use Rattle.wait_lists.proofs.Counted.{times-same, times-other}
use Rattle.wait_lists.proofs.Chains.{In, in_list, lives}
use Rattle.wait_lists.proofs.NodeLemmas.{outside-event, event-within}
use Rattle.wait_lists.proofs.EventLemmas.{tagged-event, same-itself}
use Rattle.wait_lists.proofs.Moved.{IsSome-tag, tag-none}
use Rattle.wait_lists.proofs.ByPlace.{get-waits, contains-marks}
use Rattle.wait_lists.proofs.Telling.{told-here}
use Rattle.wait_lists.proofs.Changes.{changed-wait}
use Rattle.wait_lists.proofs.Refit.{waiter-of, shown-at, events-row}

-- a node stands in the list of one waiter
pub of-same : (k : Kept) (i a b : ℕ) → IsOf k a i → IsOf k b i → a ≡ b
of-same k i a b is also = by_link (by_wait k.nodes.items i) is also
  where
    by_link : (o : Option Link) → has_tag a o ≡ true → has_tag b o ≡ true → a ≡ b
    by_link None is also = absurd (true≢false (sym is))
    by_link (Some m) is also = sym (tag-none a (Some m) m refl is) ∙ tag-none b (Some m) m refl also

-- the waiter of a node is there
pub of-within : (k : Kept) → IsSound k → (i at : ℕ) → IsUsed k i → IsOf k at i → at < length k.waiters.items
of-within k sound i at used is = (sound.0.homes i used.0.tag at (IsSome-tag (by_event k.nodes.items i) used.0 used.1) is).at_home used.2

pub used-within : (k : Kept) (i : ℕ) → IsUsed k i → i < length k.nodes.items
used-within k i used = event-within k.nodes.items i (ap is_some used.1)

pub same-waiter : (k : Kept) (at : ℕ) (w : Waiter) (s : Shown) → slice_get k.waiters.items at ≡ Some w → slice_get (shown_by k) at ≡ Some s → s ≡ shown_of k.nodes.items w
same-waiter k at w s found here = let same : Some s ≡ Some (shown_of k.nodes.items w) = sym here ∙ shown-at k.nodes.items k.waiters.items at w found in cc

pub told-empty : (out : List ℕ) (p : ℕ) (evs : List Ev) → evs ≡ [] → out ++ p ∷ [] ≡ out ++ cond (length evs == 0) (p ∷ []) []
told-empty out p evs is = ap (λ b. out ++ cond b (p ∷ []) []) (sym (eq-eqb (length evs) 0 (ap length is)))

pub told-full : (out : List ℕ) (p : ℕ) (evs : List Ev) → 1 ≤ length evs → out ≡ out ++ cond (length evs == 0) (p ∷ []) []
told-full out p evs some = sym (append-nil out) ∙ ap (λ b. out ++ cond b (p ∷ []) []) (sym (ne_eqb (length evs) 0 (λ e. absurd (omega arith))))

-- ---- the list of an event, from its front to a node that stays, and from there on

pub goes-split : (L : Links) (xs ys : List ℕ) (b at : ℕ) → Goes L b at (xs ++ ys) → Goes L (last_in b xs) (first_from ys) ys
goes-split L [] [] b at goes = refl
goes-split L [] (y ∷ ys) b at goes = (refl, goes.1, goes.2)
goes-split L (x ∷ xs) ys b at goes = goes-split L xs ys x (next_of (L x)) goes.2

pub starts : (L : Links) (ys : List ℕ) (b at : ℕ) → Goes L b at ys → at ≡ first_from ys
starts L [] b at goes = goes
starts L (y ∷ ys) b at goes = goes.0

behind-last : (L : Links) (x : ℕ) (xs ys : List ℕ) → Goes L x (next_of (L x)) (xs ++ ys) → next_of (L (last_in x xs)) ≡ first_from ys
behind-last L x [] ys goes = starts L ys x (next_of (L x)) goes
behind-last L x (z ∷ xs) ys goes = behind-last L z xs ys goes.2

last-stands : (x : ℕ) (xs : List ℕ) → In (last_in x xs) (x ∷ xs)
last-stands x [] = omega (arith, times-same x x [] refl)
last-stands x (z ∷ xs) = ⊎_elim
    (λ (e : x ≡ last_in z xs). omega (arith, times-same (last_in z xs) x (z ∷ xs) e))
    (λ apart. omega (arith, times-other (last_in z xs) x (z ∷ xs) apart, last-stands z xs))
    (cases_eq x (last_in z xs))

pub in-front : (j : ℕ) (xs ys : List ℕ) → In j xs → In j (xs ++ ys)
in-front j [] ys member = absurd (omega arith)
in-front j (x ∷ xs) ys member = ⊎_elim
    (λ (e : x ≡ j). omega (arith, times-same j x (xs ++ ys) e))
    (λ apart. omega (arith, times-other j x (xs ++ ys) apart, in-front j xs ys (omega (arith, times-other j x xs apart))))
    (cases_eq x j)

pub last-next : (d : ℕ) (xs : List ℕ) (i : ℕ) → last_in d (xs ++ i ∷ []) ≡ i
last-next d [] i = refl
last-next d (x ∷ xs) i = last-next x xs i

module _ (k : Kept) (sound : IsSound k) (code : ℕ) (xs ys : List ℕ) (list : IsNodes k code (xs ++ ys)) where
  none_out : (j : ℕ) → In j (xs ++ ys) → j ≢ none
  none_out j member e = true≢false (sym (lives (by_event k.nodes.items) code _ (xs ++ ys) list j member) ∙ ap (λ n. has_tag code (by_event k.nodes.items n)) e ∙ ap (has_tag code) (outside-event k.nodes.items sound.0.few_nodes))

  pub no-last : last_in none xs ≡ none → xs ≡ []
  no-last is = by_front xs none_out is
    where
      by_front : (zs : List ℕ) → ((j : ℕ) → In j (zs ++ ys) → j ≢ none) → last_in none zs ≡ none → zs ≡ []
      by_front [] out is = refl
      by_front (z ∷ zs) out is = absurd (out (last_in z zs) (in-front (last_in z zs) (z ∷ zs) ys (last-stands z zs)) is)

  pub last-there : last_in none xs ≢ none → has_tag code (by_event k.nodes.items (last_in none xs)) ≡ true
  last-there some = by_front xs (λ j m. lives (by_event k.nodes.items) code _ (xs ++ ys) list j m) some
    where
      by_front : (zs : List ℕ) → ((j : ℕ) → In j (zs ++ ys) → has_tag code (by_event k.nodes.items j) ≡ true) → last_in none zs ≢ none → has_tag code (by_event k.nodes.items (last_in none zs)) ≡ true
      by_front [] tagged some = absurd (some refl)
      by_front (z ∷ zs) tagged some = tagged (last_in z zs) (in-front (last_in z zs) (z ∷ zs) ys (last-stands z zs))

  pub last-within : last_in none xs ≢ none → last_in none xs < length k.nodes.items
  last-within some = event-within k.nodes.items (last_in none xs) (there (by_event k.nodes.items (last_in none xs)) (last-there some))
    where
      there : (o : Option Link) → has_tag code o ≡ true → is_some o ≡ true
      there None is = is
      there (Some l) is = refl

-- a waiter in whose list a node stands waits for something
pub row-filled : (k : Kept) → IsSound k → (i at : ℕ) → IsOf k at i → at < length k.waiters.items → (s : Shown) → slice_get (shown_by k) at ≡ Some s → 1 ≤ length s.events
row-filled k sound i at is inside s here =
    let w = waiter-of k.nodes.items k.waiters.items at s here in
    let row = sound.0.rows at w.0 w.1 in
    let member = in_list (by_wait k.nodes.items) at w.0.first row.0 row.1 i is in
    omega (
      arith,
      ap (λ (x : Shown). length x.events) w.2,
      ap length (events-row k.nodes.items at w.0.first row.0 sound.0.few_nodes row.1),
      length-map row.0 (λ j. event_at (by_event k.nodes.items j)),
      some-length i row.0 member,
    )
  where
    some-length : (j : ℕ) (ns : List ℕ) → In j ns → 1 ≤ length ns
    some-length j [] member = absurd (omega arith)
    some-length j (x ∷ xs) member = omega arith

module _ (k : Kept) (sound : IsSound k) (code : ℕ) (xs ys : List ℕ) (list : IsNodes k code (xs ++ ys)) where
  pub first-begins : xs ≡ [] → first_in k.heads.events k.heads.free code ≡ first_from ys
  first-begins is =
      let P : List ℕ → Type 0 = λ zs. Goes (by_event k.nodes.items) none (first_in k.heads.events k.heads.free code) (zs ++ ys) in
      starts (by_event k.nodes.items) ys none (first_in k.heads.events k.heads.free code) (subst P is list.goes)

  pub behind-stays : last_in none xs ≢ none → next_of (by_event k.nodes.items (last_in none xs)) ≡ first_from ys
  behind-stays some = by_front xs list.goes some
    where
      by_front : (zs : List ℕ) → Goes (by_event k.nodes.items) none (first_in k.heads.events k.heads.free code) (zs ++ ys) → last_in none zs ≢ none
          → next_of (by_event k.nodes.items (last_in none zs)) ≡ first_from ys
      by_front [] goes some = absurd (some refl)
      by_front (z ∷ zs) goes some = behind-last (by_event k.nodes.items) z zs ys goes.2

-- ---- what an event strikes of one wait

-- of no event a list is struck
without-absent : (e : Ev) (events : List Ev) → has e events ≡ false → without e events ≡ events
without-absent e [] apart = refl
without-absent e (x ∷ xs) apart = by_test (same_event x e) apart (without-absent e xs)
  where
    by_test : (b : Bool) → (b || has e xs) ≡ false → (has e xs ≡ false → without e xs ≡ xs) → cond (not b) (x ∷ without e xs) (without e xs) ≡ x ∷ xs
    by_test true apart rest = absurd (true≢false apart)
    by_test false apart rest = ap (λ l. x ∷ l) (rest apart)

after-any : (e : Ev) (events : List Ev) → has e events ≡ true → after false e (any_of events) ≡ None
after-any e [] named = absurd (true≢false (sym named))
after-any e (x ∷ xs) named = ap (λ b. cond b None (Some (AnyOf (x ∷ xs)))) named

after-all : (e : Ev) (events : List Ev) → after false e (all_of events) ≡ all_of (without e events)
after-all e [] = refl
after-all e (x ∷ xs) = by_test (has e (x ∷ xs)) refl
  where
    by_test : (b : Bool) → has e (x ∷ xs) ≡ b → cond b (all_of (without e (x ∷ xs))) (Some (AllOf (x ∷ xs))) ≡ all_of (without e (x ∷ xs))
    by_test true named = refl
    by_test false apart = sym (ap all_of (without-absent e (x ∷ xs) apart))

none-listed : (events : List Ev) → is_none (all_of events) ≡ (length events == 0)
none-listed [] = refl
none-listed (x ∷ xs) = sym (ne_eqb (length (x ∷ xs)) 0 (λ e. absurd (omega arith)))

-- neither of two is true
pub neither : (a b : Bool) → (a || b) ≡ false → (a ≡ false) × (b ≡ false)
neither true b is = absurd (true≢false is)
neither false b is = (refl, is)

-- what names an event is not over
pub named-unless : (e : Ev) (over : Bool) (wait : Option Wait) → named_by e (unless over wait) ≡ true → (over ≡ false) × (named_by e wait ≡ true)
named-unless e true wait is = absurd (true≢false (sym is))
named-unless e false wait is = (refl, is)

pub named-listed : (e : Ev) (for_all : Bool) (events : List Ev) → named_by e (listed for_all events) ≡ has e events
named-listed e true [] = refl
named-listed e true (x ∷ xs) = refl
named-listed e false [] = refl
named-listed e false (x ∷ xs) = refl

has-at : (E : Links) (e : Ev) (i : ℕ) (ns : List ℕ) → has_tag (code_of e) (E i) ≡ true → In i ns → has e (events_at E ns) ≡ true
has-at E e i [] tagged member = absurd (omega arith)
has-at E e i (x ∷ xs) tagged member = ⊎_elim
    (λ (same : x ≡ i). ap (λ b. b || has e (events_at E xs)) (ap (λ k. same_event (event_at (E k)) e) same ∙ ap (λ y. same_event y e) (tagged-event e (E i) tagged) ∙ same-itself e))
    (λ apart. ap (λ b. same_event (event_at (E x)) e || b) (has-at E e i xs tagged (omega (arith, times-other i x xs apart))) ∙ or_true (same_event (event_at (E x)) e))
    (cases_eq x i)
  where
    or_true : (b : Bool) → (b || true) ≡ true
    or_true true = refl
    or_true false = refl

module _ (k : Kept) (sound : IsSound k) (e : Ev) (i at : ℕ) (tagged : has_tag (code_of e) (by_event k.nodes.items i) ≡ true) (of : IsOf k at i) (inside : at < length k.waiters.items)
    (s : Shown) (here : slice_get (shown_by k) at ≡ Some s) where
  pub own-place : maps.find nat_cmp s.serial k.places.entries ≡ Some at
  own-place = let held : length s.events ≤ s.room = sound.0.sums.fits at s here in sound.0.seats.owned at s here (omega (arith, row-filled k sound i at of inside s here))

  told-s : told (shown_by k) k.places.entries s.serial ≡ Some s
  told-s = told-here (shown_by k) k.places.entries sound.0.seats.placed s.serial at s s own-place here

  has-s : has e s.events ≡ true
  has-s =
      let w = waiter-of k.nodes.items k.waiters.items at s here in
      let row = sound.0.rows at w.0 w.1 in
      ap (λ (x : Shown). has e x.events) w.2 ∙ ap (has e) (events-row k.nodes.items at w.0.first row.0 sound.0.few_nodes row.1)
      ∙ has-at (by_event k.nodes.items) e i row.0 tagged (in_list (by_wait k.nodes.items) at w.0.first row.0 row.1 i of)

  get-s : maps.get (waits_by k).waits s.serial ≡ unless s.over (listed s.for_all s.events)
  get-s = get-waits (shown_by k) k.places.entries s.serial ∙ ap wait_of told-s

  pub muted-s : sets.contains (waits_by k).muted s.serial ≡ s.mark
  muted-s = contains-marks (shown_by k) k.places.entries s.serial ∙ ap mark_of told-s

  -- one that events do not pass by
  module _ (active : passed_by s ≡ false) where
    still : s.over ≡ false
    still = (neither s.mark s.over active).1

    waits-is : maps.get (waits_by k).waits s.serial ≡ listed s.for_all s.events
    waits-is = get-s ∙ ap (λ b. unless b (listed s.for_all s.events)) still

    unmarked : sets.contains (waits_by k).muted s.serial ≡ false
    unmarked = muted-s ∙ (neither s.mark s.over active).0

    pub waits-s : waits_for (waits_by k) s.serial e ≡ true
    waits-s = ap (named_by e) waits-is ∙ named-listed e s.for_all s.events ∙ has-s

    -- of a wait for all the event is struck
    module _ (new : Kept) (kind : s.for_all ≡ true) (less : IsShorter k new at i s) where
      pub wait-left : Option Wait
      wait-left = listed true less.events

      pub waits-struck : waits_of (shown_by new) k.places.entries ≡ with_wait (waits_by k) s.serial wait-left
      unfolding wait-left
      waits-struck = ap (λ l. waits_of l k.places.entries) less.is
          ∙ changed-wait k.places.entries (shown_by k) sound.0.seats.placed s.serial at s (record s { events = less.events }) own-place here s.for_all less.events s.over refl
          ∙ (λ x. with_wait (waits_by k) s.serial (unless (still x) (listed (kind x) less.events)))

      pub ends-same : after (sets.contains (waits_by k).muted s.serial) e wait-left ≡ wait_after (waits_by k) s.serial e
      unfolding wait-left
      ends-same = (λ x. after (unmarked x) e (all_of less.events)) ∙ after-all e less.events ∙ ap all_of (less.left e tagged) ∙ sym (after-all e s.events)
          ∙ sym ((λ x. after (unmarked x) e (waits-is x)) ∙ ap (λ b. after false e (listed b s.events)) kind)

      pub none-left-is : is_none wait-left ≡ (length less.events == 0)
      unfolding wait-left
      none-left-is = none-listed less.events

    -- a wait for any is over
    module _ (new : Kept) (kind : s.for_all ≡ false) (over : IsOver k new at s) where
      pub waits-over : waits_of (shown_by new) k.places.entries ≡ with_wait (waits_by k) s.serial None
      waits-over = ap (λ l. waits_of l k.places.entries) over.is
          ∙ changed-wait k.places.entries (shown_by k) sound.0.seats.placed s.serial at s (record s { over = true }) own-place here s.for_all s.events true refl

      pub ends-over : after (sets.contains (waits_by k).muted s.serial) e None ≡ wait_after (waits_by k) s.serial e
      ends-over = (λ x. after (unmarked x) e None) ∙ sym ((λ x. after (unmarked x) e (waits-is x)) ∙ ap (λ b. after false e (listed b s.events)) kind ∙ after-any e s.events has-s)
