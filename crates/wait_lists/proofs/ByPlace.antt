-- What is told of the instances, by their places.
use Rattle.std.proofs.Common.{◌≡◌, ℕ, ◌≢◌, Bool, true, false, cond, List, [], ◌∷◌, Option, Some, None, refl, sym, ap, ◌∙◌, ⊎_elim}
use Rattle.std.proofs.lemmas.Bool.{cases_eq}
use Rattle.std.specs.Prelude.{slice_get}
use Rattle.std.specs.Ordering.{nat_cmp, eq_by_cmp}
use Rattle.std.specs.FinMap as maps
use Rattle.std.specs.FinSet as sets
use Rattle.numbered_slots.specs.Updated.{updated}
use Rattle.wait_lists.specs.Waits.{Wait, marked, with_wait, with_mark, with_room, without_instance}
use Rattle.wait_lists.specs.Shown.{Shown, wait_of, mark_of, room_of, shown_at, told, indexed, marks, waits_of}
use Rattle.numbered_slots.proofs.MapLemmas.{get-updated, is_updated, same_gets}
use Rattle.wait_lists.proofs.SetLemmas.{contains-marked, is_marked, same_members}

by_place : {Y : Type 0} (f : Option Shown → Y) (ss : List Shown) (b : Bool) (at : ℕ) (o : Option ℕ)
    → cond b (f (slice_get ss at)) (f (shown_at ss o)) ≡ f (shown_at ss (cond b (Some at) o))
by_place f ss true at o = refl
by_place f ss false at o = refl

pub get-indexed : {X : Type 0} (f : Option Shown → Option X) → f None ≡ None → (ss : List Shown) (es : List (ℕ × ℕ)) (p : ℕ) → maps.get (indexed f ss es) p ≡ f (told ss es p)
get-indexed f nothing ss [] p = maps.get-empty nat_cmp p ∙ sym nothing
get-indexed f nothing ss (e ∷ es) p =
    get-updated (indexed f ss es) e.0 (f (slice_get ss e.1)) p
    ∙ ap (cond (eq_by_cmp nat_cmp p e.0) (f (slice_get ss e.1))) (get-indexed f nothing ss es p)
    ∙ by_place f ss (eq_by_cmp nat_cmp p e.0) e.1 (maps.find nat_cmp p es)

pub contains-marks : (ss : List Shown) (es : List (ℕ × ℕ)) (p : ℕ) → sets.contains (marks ss es) p ≡ mark_of (told ss es p)
contains-marks ss [] p = sets.contains-empty nat_cmp p
contains-marks ss (e ∷ es) p =
    contains-marked (marks ss es) e.0 (mark_of (slice_get ss e.1)) p
    ∙ ap (cond (eq_by_cmp nat_cmp p e.0) (mark_of (slice_get ss e.1))) (contains-marks ss es p)
    ∙ by_place mark_of ss (eq_by_cmp nat_cmp p e.0) e.1 (maps.find nat_cmp p es)

pub get-waits : (ss : List Shown) (es : List (ℕ × ℕ)) (p : ℕ) → maps.get (waits_of ss es).waits p ≡ wait_of (told ss es p)
get-waits ss es p = get-indexed wait_of refl ss es p

pub get-room : (ss : List Shown) (es : List (ℕ × ℕ)) (p : ℕ) → maps.get (waits_of ss es).room p ≡ room_of (told ss es p)
get-room ss es p = get-indexed room_of refl ss es p

-- of one instance alone something else is told
module _ (ss tt : List Shown) (es fs : List (ℕ × ℕ)) (p : ℕ) (there : (q : ℕ) → q ≢ p → told tt fs q ≡ told ss es q) where
  pub waits_updated : (wait : Option Wait) → wait_of (told tt fs p) ≡ wait → (waits_of tt fs).waits ≡ updated (waits_of ss es).waits p wait
  waits_updated wait here = is_updated (waits_of ss es).waits (waits_of tt fs).waits p wait (get-waits tt fs p ∙ here)
      (λ q apart. get-waits tt fs q ∙ ap wait_of (there q apart) ∙ sym (get-waits ss es q))

  pub muted_updated : (on : Bool) → mark_of (told tt fs p) ≡ on → (waits_of tt fs).muted ≡ marked (waits_of ss es).muted p on
  muted_updated on here = is_marked (waits_of ss es).muted (waits_of tt fs).muted p on (contains-marks tt fs p ∙ here)
      (λ q apart. contains-marks tt fs q ∙ ap mark_of (there q apart) ∙ sym (contains-marks ss es q))

  pub room_updated : (room : Option ℕ) → room_of (told tt fs p) ≡ room → (waits_of tt fs).room ≡ updated (waits_of ss es).room p room
  room_updated room here = is_updated (waits_of ss es).room (waits_of tt fs).room p room (get-room tt fs p ∙ here)
      (λ q apart. get-room tt fs q ∙ ap room_of (there q apart) ∙ sym (get-room ss es q))

  -- what f tells of that instance too
  kept_at : {Y : Type 0} (f : Option Shown → Y) → f (told tt fs p) ≡ f (told ss es p) → (q : ℕ) → f (told tt fs q) ≡ f (told ss es q)
  kept_at f same q = ⊎_elim
      (λ (e : q ≡ p). ap (λ k. f (told tt fs k)) e ∙ same ∙ ap (λ k. f (told ss es k)) (sym e))
      (λ apart. ap f (there q apart))
      (cases_eq q p)

  waits_kept : wait_of (told tt fs p) ≡ wait_of (told ss es p) → (waits_of tt fs).waits ≡ (waits_of ss es).waits
  waits_kept same = same_gets (waits_of ss es).waits (waits_of tt fs).waits (λ q. get-waits tt fs q ∙ kept_at wait_of same q ∙ sym (get-waits ss es q))

  muted_kept : mark_of (told tt fs p) ≡ mark_of (told ss es p) → (waits_of tt fs).muted ≡ (waits_of ss es).muted
  muted_kept same = same_members (waits_of ss es).muted (waits_of tt fs).muted (λ q. contains-marks tt fs q ∙ kept_at mark_of same q ∙ sym (contains-marks ss es q))

  room_kept : room_of (told tt fs p) ≡ room_of (told ss es p) → (waits_of tt fs).room ≡ (waits_of ss es).room
  room_kept same = same_gets (waits_of ss es).room (waits_of tt fs).room (λ q. get-room tt fs q ∙ kept_at room_of same q ∙ sym (get-room ss es q))

  pub with_wait-told : (wait : Option Wait) → wait_of (told tt fs p) ≡ wait → mark_of (told tt fs p) ≡ mark_of (told ss es p) → room_of (told tt fs p) ≡ room_of (told ss es p)
      → waits_of tt fs ≡ with_wait (waits_of ss es) p wait
  with_wait-told wait here mark room = λ i. record { waits = waits_updated wait here i; muted = muted_kept mark i; room = room_kept room i }

  pub with_mark-told : (on : Bool) → mark_of (told tt fs p) ≡ on → wait_of (told tt fs p) ≡ wait_of (told ss es p) → room_of (told tt fs p) ≡ room_of (told ss es p)
      → waits_of tt fs ≡ with_mark (waits_of ss es) p on
  with_mark-told on here wait room = λ i. record { waits = waits_kept wait i; muted = muted_updated on here i; room = room_kept room i }

  pub with_room-told : (n : ℕ) → room_of (told tt fs p) ≡ Some n → wait_of (told tt fs p) ≡ wait_of (told ss es p) → mark_of (told tt fs p) ≡ mark_of (told ss es p)
      → waits_of tt fs ≡ with_room (waits_of ss es) p n
  with_room-told n here wait mark = λ i. record { waits = waits_kept wait i; muted = muted_kept mark i; room = room_updated (Some n) here i }

  pub without-told : told tt fs p ≡ None → waits_of tt fs ≡ without_instance (waits_of ss es) p
  without-told gone = λ i. record {
    waits = waits_updated None (ap wait_of gone) i;
    muted = muted_updated false (ap mark_of gone) i;
    room = room_updated None (ap room_of gone) i;
  }

  -- nothing else is told of any
  pub same-told : told tt fs p ≡ told ss es p → waits_of tt fs ≡ waits_of ss es
  same-told same = λ i. record { waits = waits_kept (ap wait_of same) i; muted = muted_kept (ap mark_of same) i; room = room_kept (ap room_of same) i }
