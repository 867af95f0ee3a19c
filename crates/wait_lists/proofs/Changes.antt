-- What a change of one waiter changes of the waits that are told.
use Rattle.std.proofs.Common.{◌≡◌, ℕ, ◌≤◌, ◌≢◌, Bool, true, false, List, [], ◌∷◌, length, set, Option, Some, None, refl, sym, ap, ◌∙◌, arith}
use Rattle.std.specs.Prelude.{slice_get, unwrap_or, is_some}
use Rattle.std.specs.Ordering.{nat_cmp}
use Rattle.std.specs.FinMap as maps
use Rattle.event_core.specs.declared.event.Ev.{Ev}
use Rattle.numbered_slots.specs.Updated.{updated}
use Rattle.wait_lists.specs.Waits.{Wait, Waits, with_wait, with_mark, with_room, without_instance, room_for}
use Rattle.wait_lists.specs.Shown.{Shown, listed, unless, wait_of, mark_of, room_of, shown_at, told, waits_of}
use Rattle.wait_lists.proofs.ByPlace.{get-room, with_wait-told, with_mark-told, with_room-told, without-told}
use Rattle.numbered_slots.proofs.MapLemmas.{is_updated, get-updated_same, get-updated_other}
use Rattle.wait_lists.proofs.Telling.{Placed, told-here, told-set_same, told-set_other}

module _ (es : List (ℕ × ℕ)) (ss : List Shown) (placed : Placed es ss) (p at : ℕ) (s new : Shown)
    (place : maps.find nat_cmp p es ≡ Some at) (here : slice_get ss at ≡ Some s) where
  there : (q : ℕ) → q ≢ p → told (set ss at new) es q ≡ told ss es q
  there = told-set_other ss es placed p at new s place here

  -- what f tells of the instance now, and what it told
  told_now : {Y : Type 0} (f : Option Shown → Y) → f (told (set ss at new) es p) ≡ f (Some new)
  told_now f = ap f (told-set_same ss es placed p at new s place here)

  pub told_before : {Y : Type 0} (f : Option Shown → Y) → f (told ss es p) ≡ f (Some s)
  told_before f = ap f (told-here ss es placed p at new s place here)

  pub changed-wait : (for_all : Bool) (l : List Ev) (over : Bool) → new ≡ record s { for_all = for_all; events = l; over = over }
      → waits_of (set ss at new) es ≡ with_wait (waits_of ss es) p (unless over (listed for_all l))
  changed-wait for_all l over is = with_wait-told ss (set ss at new) es es p there (unless over (listed for_all l))
      (told_now wait_of ∙ ap (λ x. unless x.over (listed x.for_all x.events)) is)
      (told_now mark_of ∙ ap (λ x. x.mark) is ∙ sym (told_before mark_of))
      (told_now room_of ∙ ap (λ x. Some x.room) is ∙ sym (told_before room_of))

  pub changed-mark : (on : Bool) → new ≡ record s { mark = on } → waits_of (set ss at new) es ≡ with_mark (waits_of ss es) p on
  changed-mark on is = with_mark-told ss (set ss at new) es es p there on
      (told_now mark_of ∙ ap (λ x. x.mark) is)
      (told_now wait_of ∙ ap (λ x. unless x.over (listed x.for_all x.events)) is ∙ sym (told_before wait_of))
      (told_now room_of ∙ ap (λ x. Some x.room) is ∙ sym (told_before room_of))

  pub changed-room : (n : ℕ) → new ≡ record s { room = n } → waits_of (set ss at new) es ≡ with_room (waits_of ss es) p n
  changed-room n is = with_room-told ss (set ss at new) es es p there n
      (told_now room_of ∙ ap (λ x. Some x.room) is)
      (told_now wait_of ∙ ap (λ x. unless x.over (listed x.for_all x.events)) is ∙ sym (told_before wait_of))
      (told_now mark_of ∙ ap (λ x. x.mark) is ∙ sym (told_before mark_of))

  pub room_for-told : room_for (waits_of ss es) p ≡ s.room
  room_for-told = ap (λ o. unwrap_or o 0) (get-room ss es p) ∙ told_before (λ o. unwrap_or (room_of o) 0)

  pub wide_already : (n : ℕ) → n ≡ s.room → waits_of ss es ≡ with_room (waits_of ss es) p n
  wide_already n is = with_room-told ss ss es es p (λ q _. refl) n (told_before room_of ∙ ap Some (sym is)) refl refl

pub listed-empty : (for_all : Bool) → listed for_all [] ≡ None
listed-empty true = refl
listed-empty false = refl

pub unless-none : (over : Bool) → unless over None ≡ None
unless-none true = refl
unless-none false = refl

-- what is set again is as if it had been set once
pub with_wait-again : (w : Waits) (p : ℕ) (a b : Option Wait) → with_wait (with_wait w p a) p b ≡ with_wait w p b
with_wait-again w p a b = λ i. record w {
  waits = is_updated w.waits (updated (updated w.waits p a) p b) p b
      (get-updated_same (updated w.waits p a) p b p refl)
      (λ q apart. get-updated_other (updated w.waits p a) p b q apart ∙ get-updated_other w.waits p a q apart) i;
}

-- what it waited for does not matter to what is left without it
pub without-again : (w : Waits) (p : ℕ) → without_instance (with_wait w p None) p ≡ without_instance w p
without-again w p = λ i. record (without_instance w p) {
  waits = is_updated w.waits (updated (updated w.waits p None) p None) p None
      (get-updated_same (updated w.waits p None) p None p refl)
      (λ q apart. get-updated_other (updated w.waits p None) p None q apart ∙ get-updated_other w.waits p None q apart) i;
}

-- of an instance that has no place nothing is told
module _ (es : List (ℕ × ℕ)) (ss : List Shown) (p : ℕ) (absent : maps.find nat_cmp p es ≡ None) where
  told_absent : {Y : Type 0} (f : Option Shown → Y) → f (told ss es p) ≡ f None
  told_absent f = ap (λ o. f (shown_at ss o)) absent

  pub no_room : room_for (waits_of ss es) p ≡ 0
  no_room = ap (λ o. unwrap_or o 0) (get-room ss es p) ∙ told_absent (λ o. unwrap_or (room_of o) 0)

  pub no_room_key : maps.contains_key (waits_of ss es).room p ≡ is_some (room_of None)
  no_room_key = ap is_some (get-room ss es p) ∙ told_absent (λ o. is_some (room_of o))

  empty_list : (list : List Ev) → length list ≤ 0 → list ≡ []
  empty_list [] few = refl
  empty_list (x ∷ xs) few = absurd (omega arith)

  pub absent-wait : (for_all : Bool) (list : List Ev) → length list ≤ room_for (waits_of ss es) p → waits_of ss es ≡ with_wait (waits_of ss es) p (listed for_all list)
  absent-wait for_all list few = with_wait-told ss ss es es p (λ q _. refl) (listed for_all list)
      (told_absent wait_of ∙ sym (ap (listed for_all) (empty_list list (omega (arith, no_room))) ∙ listed-empty for_all)) refl refl

  pub absent-without : waits_of ss es ≡ without_instance (waits_of ss es) p
  absent-without = without-told ss ss es es p (λ q _. refl) (told_absent (λ o. o))
