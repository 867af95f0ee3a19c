-- What is kept, after a change of one waiter.
use Rattle.std.proofs.Common.{◌≡◌, ℕ, zero, suc, ◌+◌, ◌<◌, ◌≤◌, ◌≢◌, List, [], ◌∷◌, length, set, Option, Some, None, refl, sym, ap, ◌∙◌, subst, arith, ⊎_elim}
use Rattle.std.specs.Prelude.{slice_get}
use Rattle.std.specs.List.{sum_by}
use Rattle.std.specs.Ordering.{nat_cmp}
use Rattle.std.specs.FinMap as maps
use Rattle.std.proofs.lemmas.Bool.{cases_eq}
use Rattle.std.proofs.lemmas.Option.{slice_get_within, get_or_from_slice_get}
use Rattle.std.proofs.lemmas.List.Sums.{sum_by-set, sum_by-cons}
use Rattle.event_core.specs.declared.event.Ev.{Ev}
use Rattle.wait_lists.specs.declared.nodes.Node.{Node}
use Rattle.wait_lists.specs.declared.waiter.Waiter.{Waiter}
use Rattle.wait_lists.specs.Shown.{Shown}
use Rattle.wait_lists.specs.Chains.{none, IsList}
use Rattle.wait_lists.specs.Nodes.{by_event, by_wait, refirst, events_at, events_from, shown_of, shown}
use Rattle.wait_lists.specs.Layout.{Seats, serial_of}
use Rattle.wait_lists.proofs.Counted.{times}
use Rattle.wait_lists.proofs.Places.{slice_get-set_same, slice_get-set_other}
use Rattle.wait_lists.proofs.Chains.{walk-list}
use Rattle.wait_lists.proofs.NodeLemmas.{outside-wait, wait-within, outside-event, event-within}

pub same_by_get : {X : Type 0} (xs ys : List X) → ((k : ℕ) → slice_get xs k ≡ slice_get ys k) → xs ≡ ys
same_by_get [] [] same = refl
same_by_get {X} [] (y ∷ ys) same = let e : ◌≡◌ {A = Option X} None (Some y) = same 0 in cc
same_by_get {X} (x ∷ xs) [] same = let e : ◌≡◌ {A = Option X} (Some x) None = same 0 in cc
same_by_get {X} (x ∷ xs) (y ∷ ys) same =
    let first : Some x ≡ Some y = same 0 in let head : x ≡ y = cc in λ i. head i ∷ same_by_get xs ys (λ k. same (suc k)) i

pub get-inside : {X : Type 0} (xs : List X) (i : ℕ) → i < length xs → (x : X) × (slice_get xs i ≡ Some x)
get-inside [] i inside = absurd (omega arith)
get-inside (x ∷ xs) zero inside = (x, refl)
get-inside (x ∷ xs) (suc i) inside = get-inside xs i (omega arith)

-- what is put back as it was
pub set-here : {X : Type 0} (xs : List X) (i : ℕ) (x : X) → slice_get xs i ≡ Some x → set xs i x ≡ xs
set-here [] i x here = refl
set-here {X} (y ∷ xs) zero x here = let e : Some y ≡ Some x = here in let same : x ≡ y = cc in ap (λ z. z ∷ xs) same
set-here (y ∷ xs) (suc i) x here = ap (λ l. y ∷ l) (set-here xs i x here)

abbrev pub shown_opt : List Node → Option Waiter → Option Shown
shown_opt nodes None = None
shown_opt nodes (Some w) = Some (shown_of nodes w)

pub shown-get : (nodes : List Node) (ws : List Waiter) (k : ℕ) → slice_get (shown nodes ws) k ≡ shown_opt nodes (slice_get ws k)
shown-get nodes [] k = refl
shown-get nodes (w ∷ ws) zero = refl
shown-get nodes (w ∷ ws) (suc k) = shown-get nodes ws k

pub shown-at : (nodes : List Node) (ws : List Waiter) (k : ℕ) (w : Waiter) → slice_get ws k ≡ Some w → slice_get (shown nodes ws) k ≡ Some (shown_of nodes w)
shown-at nodes ws k w is = shown-get nodes ws k ∙ ap (shown_opt nodes) is

-- the waiter that is shown
pub waiter-of : (nodes : List Node) (ws : List Waiter) (k : ℕ) (s : Shown) → slice_get (shown nodes ws) k ≡ Some s → (w : Waiter) × (slice_get ws k ≡ Some w) × (s ≡ shown_of nodes w)
waiter-of nodes ws k s is = by_waiter (slice_get ws k) refl (sym (shown-get nodes ws k) ∙ is)
  where
    by_waiter : (o : Option Waiter) → slice_get ws k ≡ o → shown_opt nodes o ≡ Some s → (w : Waiter) × (slice_get ws k ≡ Some w) × (s ≡ shown_of nodes w)
    by_waiter None found is = let e : None ≡ Some s = is in cc
    by_waiter (Some w) found is = (w, found, let e : Some (shown_of nodes w) ≡ Some s = is in cc)

-- the events of a waiter by its list
pub events-row : (nodes : List Node) (at first : ℕ) (ns : List ℕ) → length nodes ≤ none → IsList (by_wait nodes) at first ns → events_from nodes first ≡ events_at (by_event nodes) ns
events-row nodes at first ns few list = ap (events_at (by_event nodes)) (walk-list (by_wait nodes) (outside-wait nodes few) (length nodes) at first ns list (wait-within nodes))

-- a list has one order
pub one-list : (nodes : List Node) (c first : ℕ) (ns ms : List ℕ) → length nodes ≤ none → IsList (by_event nodes) c first ns → IsList (by_event nodes) c first ms → ns ≡ ms
one-list nodes c first ns ms few list also =
    sym (walk-list (by_event nodes) (outside-event nodes few) (length nodes) c first ns list (event-within nodes))
    ∙ walk-list (by_event nodes) (outside-event nodes few) (length nodes) c first ms also (event-within nodes)

pub shown-changed : (nodes new : List Node) (ws vs : List Waiter) (at : ℕ) (own : Waiter) (owner : slice_get ws at ≡ Some own) (evs : List Ev) (f : ℕ → ℕ → ℕ)
    → ((k : ℕ) → slice_get vs k ≡ refirst (f k) (slice_get ws k)) → events_from new (f at own.first) ≡ evs
    → ((k : ℕ) (w : Waiter) → slice_get ws k ≡ Some w → k ≢ at → events_from new (f k w.first) ≡ events_from nodes w.first)
    → shown new vs ≡ set (shown nodes ws) at (record (shown_of nodes own) { events = evs })
shown-changed nodes new ws vs at own owner evs f firsts here there = same_by_get (shown new vs) (set (shown nodes ws) at (record (shown_of nodes own) { events = evs })) each
  where
    now : Shown
    now = record (shown_of nodes own) { events = evs }

    by_waiter : (k : ℕ) → k ≢ at → (o : Option Waiter) → slice_get ws k ≡ o → shown_opt new (refirst (f k) o) ≡ shown_opt nodes o
    by_waiter k apart None found = refl
    by_waiter k apart (Some w) found = ap (λ l. Some (record (shown_of nodes w) { events = l })) (there k w found apart)

    each : (k : ℕ) → slice_get (shown new vs) k ≡ slice_get (set (shown nodes ws) at (record (shown_of nodes own) { events = evs })) k
    each k = ⊎_elim
        (λ (e : k ≡ at).
        shown-get new vs k ∙ ap (shown_opt new) (firsts k) ∙ ap (λ n. shown_opt new (refirst (f n) (slice_get ws n))) e ∙ ap (λ o. shown_opt new (refirst (f at) o)) owner
        ∙ ap (λ l. Some (record (shown_of nodes own) { events = l })) here
        ∙ sym (ap (slice_get (set (shown nodes ws) at (record (shown_of nodes own) { events = evs }))) e ∙ slice_get-set_same (shown nodes ws) at (shown_of nodes own) (record (shown_of nodes own) { events = evs }) (shown-at nodes ws at own owner)))
        (λ apart.
        shown-get new vs k ∙ ap (shown_opt new) (firsts k) ∙ by_waiter k apart (slice_get ws k) refl ∙ sym (shown-get nodes ws k)
        ∙ sym (slice_get-set_other (shown nodes ws) at k (record (shown_of nodes own) { events = evs }) apart))
        (cases_eq k at)

module _ (es : List (ℕ × ℕ)) (ss tt : List Shown) (vacant : List ℕ) (seats : Seats es ss vacant) (at : ℕ) (s new : Shown) (here : slice_get ss at ≡ Some s) (is : tt ≡ set ss at new)
    (serial : new.serial ≡ s.serial) (own : 0 < new.room → maps.find nat_cmp new.serial es ≡ Some at) (idle : 1 ≤ times at vacant → new.room ≡ 0) where
  read_new : (j : ℕ) → j ≡ at → slice_get tt j ≡ Some new
  read_new j e = ap (λ l. slice_get l j) is ∙ ap (slice_get (set ss at new)) e ∙ slice_get-set_same ss at s new here

  read_other : (j : ℕ) → j ≢ at → slice_get tt j ≡ slice_get ss j
  read_other j apart = ap (λ l. slice_get l j) is ∙ slice_get-set_other ss at j new apart

  serial_set : (j : ℕ) → serial_of (slice_get tt j) ≡ serial_of (slice_get ss j)
  serial_set j = ⊎_elim
      (λ (e : j ≡ at). ap serial_of (read_new j e) ∙ ap Some serial ∙ sym (ap serial_of here) ∙ ap (λ k. serial_of (slice_get ss k)) (sym e))
      (λ apart. ap serial_of (read_other j apart))
      (cases_eq j at)

  pub seats-set : Seats es tt vacant
  seats-set = record {
    placed = λ q j found. (serial_set j ∙ (seats.placed q j found).0, (seats.placed q j found).1);
    owned = λ j x found some. ⊎_elim
        (λ (e : j ≡ at). let same : Some new ≡ Some x = sym (read_new j e) ∙ found in let one : new ≡ x = cc in
        let P : Shown → Type 0 = λ y. 0 < y.room in let roomy : 0 < new.room = subst P (sym one) some in
        ap (λ y. maps.find nat_cmp y.serial es) (sym one) ∙ own roomy ∙ ap Some (sym e))
        (λ apart. seats.owned j x (sym (read_other j apart) ∙ found) some)
        (cases_eq j at);
    vacated = λ j empty. ⊎_elim
        (λ (e : j ≡ at).
        let P : ℕ → Type 0 = λ k. 1 ≤ times k vacant in
        (new, read_new j e, idle (subst P e empty), (seats.vacated j empty).3))
        (λ apart. let one = seats.vacated j empty in (one.0, read_other j apart ∙ one.1, one.2, one.3))
        (cases_eq j at);
    apart = seats.apart;
  }

module _ (ss tt : List Shown) (at : ℕ) (s new : Shown) (here : slice_get ss at ≡ Some s) (is : tt ≡ set ss at new) where
  pub sum-set : (f : Shown → ℕ) → sum_by f tt + f s ≡ sum_by f ss + f new
  sum-set f = omega (arith, ap (sum_by f) is, sum_by-set f ss at new s (slice_get_within ss at s here), ap f (get_or_from_slice_get ss at s s here))

  pub fits-set : ((j : ℕ) (x : Shown) → slice_get ss j ≡ Some x → length x.events ≤ x.room) → length new.events ≤ new.room
      → (j : ℕ) (x : Shown) → slice_get tt j ≡ Some x → length x.events ≤ x.room
  fits-set fits few j x found = ⊎_elim
      (λ (e : j ≡ at).
      let same : Some new ≡ Some x = sym (slice_get-set_same ss at s new here) ∙ ap (slice_get (set ss at new)) (sym e) ∙ sym (ap (λ l. slice_get l j) is) ∙ found in
      let one : new ≡ x = cc in let P : Shown → Type 0 = λ y. length y.events ≤ y.room in subst P one few)
      (λ apart. fits j x (sym (slice_get-set_other ss at j new apart) ∙ sym (ap (λ l. slice_get l j) is) ∙ found))
      (cases_eq j at)

sum-le : (ss : List Shown) → ((at : ℕ) (s : Shown) → slice_get ss at ≡ Some s → length s.events ≤ s.room) → sum_by (λ s. length s.events) ss ≤ sum_by (λ s. s.room) ss
sum-le [] fits = omega arith
sum-le (s ∷ ss) fits = omega (arith, sum_by-cons (λ x. length x.events) s ss, sum_by-cons (λ x. x.room) s ss, fits 0 s refl, sum-le ss (λ at x here. fits (suc at) x here))

-- the room of one that waits for fewer is left over
pub sum-spare : (ss : List Shown) (at : ℕ) (s : Shown) → slice_get ss at ≡ Some s → ((at : ℕ) (s : Shown) → slice_get ss at ≡ Some s → length s.events ≤ s.room)
    → sum_by (λ s. length s.events) ss + s.room ≤ sum_by (λ s. s.room) ss + length s.events
sum-spare [] at s here fits = let e : None ≡ Some s = here in cc
sum-spare (x ∷ ss) zero s here fits =
    let same : x ≡ s = cc in
    omega (arith, sum_by-cons (λ x. length x.events) x ss, sum_by-cons (λ x. x.room) x ss, ap (λ y. length y.events) same, ap (λ y. y.room) same, sum-le ss (λ at x here. fits (suc at) x here))
sum-spare (x ∷ ss) (suc at) s here fits =
    omega (arith, sum_by-cons (λ x. length x.events) x ss, sum_by-cons (λ x. x.room) x ss, fits 0 x refl, sum-spare ss at s here (λ at x here. fits (suc at) x here))
