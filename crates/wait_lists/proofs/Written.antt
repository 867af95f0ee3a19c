-- A waiter is marked, or waits for all or for any, and its list stays.
use Rattle.std.proofs.Common.{◌≡◌, ℕ, ◌<◌, ◌≤◌, Bool, List, length, set, Some, refl, sym, ap, ◌∙◌, arith}
use Rattle.std.specs.Prelude.{slice_get}
use Rattle.std.specs.Ordering.{nat_cmp}
use Rattle.std.specs.FinMap as maps
use Rattle.std.proofs.lemmas.List.{length-set}
use Rattle.wait_lists.specs.declared.heads.Firsts.{Firsts}
use Rattle.wait_lists.specs.declared.nodes.Node.{Node}
use Rattle.wait_lists.specs.declared.waiter.Waiter.{Waiter}
use Rattle.wait_lists.specs.declared.layout.Kept.{Kept}
use Rattle.wait_lists.specs.Shown.{Shown}
use Rattle.wait_lists.specs.Nodes.{events_from, shown_of, shown}
use Rattle.wait_lists.specs.Layout.{Fit, IsSound, shown_by}
use Rattle.wait_lists.proofs.Refit.{get-inside, shown-at, seats-set}
use Rattle.wait_lists.proofs.Rewritten.{shown-set, refit-waiter}

pub fit-kind : (es : List (ℕ × ℕ)) (ws vs : List Waiter) (vacant : List ℕ) (nodes : List Node) (heads : Firsts) (fr total : ℕ) → Fit es ws vacant nodes heads fr total
    → (at : ℕ) (own new : Waiter) → slice_get ws at ≡ Some own → vs ≡ set ws at new → new.first ≡ own.first → new.serial ≡ own.serial → new.room ≡ own.room → Fit es vs vacant nodes heads fr total
fit-kind es ws vs vacant nodes heads fr total fit at own new owner is first serial room =
    let here = shown-at nodes ws at own owner in
    let held : length (shown_of nodes own).events ≤ own.room = fit.sums.fits at (shown_of nodes own) here in
    let few : length (shown_of nodes new).events ≤ new.room = omega (arith, ap (λ f. length (events_from nodes f)) first) in
    refit-waiter es es ws vs vacant vacant nodes heads fr total total fit at own new owner is first
    (seats-set es (shown nodes ws) (set (shown nodes ws) at (shown_of nodes new)) vacant fit.seats at (shown_of nodes own) (shown_of nodes new) here refl serial
    (λ some. let before : 0 < own.room = omega arith in ap (λ p. maps.find nat_cmp p es) serial ∙ fit.seats.owned at (shown_of nodes own) here before)
    (λ empty. let one = fit.seats.vacated at empty in let same : Some (shown_of nodes own) ≡ Some one.0 = sym here ∙ one.1 in let alike : shown_of nodes own ≡ one.0 = cc in room ∙ ap (λ x. x.room) alike ∙ one.2))
    few (omega arith) fit.sums.enough

pub shown-kind : (ws vs : List Waiter) (nodes : List Node) (at : ℕ) (new : Waiter) → vs ≡ set ws at new → shown nodes vs ≡ set (shown nodes ws) at (shown_of nodes new)
shown-kind ws vs nodes at new is = ap (shown nodes) is ∙ shown-set nodes ws at new

-- the wait of a waiter is over, or is not over any more
module _ (k : Kept) (sound : IsSound k) (at : ℕ) (inside : at < length k.waiters.items) (over : Bool) (vs : List Waiter)
    (is : (w : Waiter) → slice_get k.waiters.items at ≡ Some w → vs ≡ set k.waiters.items at (record w { is_over = over })) where
  own : (w : Waiter) × (slice_get k.waiters.items at ≡ Some w)
  own = get-inside k.waiters.items at inside

  pub over-fit : Fit k.places.entries vs k.vacant.items k.nodes.items k.heads.events k.heads.free k.total
  over-fit = fit-kind k.places.entries k.waiters.items vs k.vacant.items k.nodes.items k.heads.events k.heads.free k.total sound.0 at own.0 (record own.0 { is_over = over }) own.1 (is own.0 own.1) refl refl refl

  pub over-few : length vs ≡ length k.waiters.items
  over-few = ap length (is own.0 own.1) ∙ length-set k.waiters.items at (record own.0 { is_over = over })

  pub over-shown : (s : Shown) → slice_get (shown_by k) at ≡ Some s → shown k.nodes.items vs ≡ set (shown_by k) at (record s { over = over })
  over-shown s here =
      let same : Some (shown_of k.nodes.items own.0) ≡ Some s = sym (shown-at k.nodes.items k.waiters.items at own.0 own.1) ∙ here in
      let alike : shown_of k.nodes.items own.0 ≡ s = cc in
      shown-kind k.waiters.items vs k.nodes.items at (record own.0 { is_over = over }) (is own.0 own.1) ∙ ap (λ (y : Shown). set (shown_by k) at (record y { over = over })) alike
