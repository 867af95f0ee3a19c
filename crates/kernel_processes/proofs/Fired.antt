-- An event goes over all serials.
use Rattle.std.proofs.Common.{◌≡◌, ◌≤◌, ◌<◌, ◌+◌, ◌-◌, ◌^◌, ◌==◌, ◌||◌, ℕ, Bool, true, false, cond, List, [], ◌∷◌, ◌++◌, option_map, refl, sym, ap, ◌∙◌, arith, subst, true≢false, Option, None, Some, length}
use Rattle.std.specs.Prelude.{is_some, vec_capacity, count_by}
use Rattle.std.specs.Global.{Vec}
use Rattle.std.proofs.lemmas.List.Sums.{sum_by-cons}
use Rattle.std.specs.FinMap as map
use Rattle.std.specs.FinSet as set
use Rattle.wait_lists.specs.EventCore.declared.event.Ev.{Ev}
use Rattle.instance_table.specs.declared.TheConstants.{MAX_LIVE}
use Rattle.instance_table.specs.declared.instances.Instance.{Instance as Entry}
use Rattle.wait_lists.specs.Waits as lists
use Rattle.kernel_processes.specs.Woken.{after_event, joins_by}
use Rattle.kernel_processes.specs.InstanceViews.{seen, is_on, shown_in}
use Rattle.kernel_processes.specs.Sound.{IsBusy, Fits, FitsAs, IsSound, IsOnce}
use Rattle.kernel_processes.specs.Moves.{met_if, struck_by, is_woken, fired, MeetsAll, Rouses}
use Rattle.kernel_processes.specs.declared.parts.Process.{Process}
use Rattle.kernel_processes.specs.declared.parts.Schedule.{Schedule}
use Rattle.wait_lists.proofs.LawLemmas.{len-le}
use Rattle.kernel_processes.proofs.Firing.{FiresAs, fires_as}

-- what stands once in a list is on it, and what does not stand there is not
counted-cons : (q x : ℕ) (xs : List ℕ) → count_by (λ y. y == q) (x ∷ xs) ≡ cond (x == q) 1 0 + count_by (λ y. y == q) xs
counted-cons q x xs = sum_by-cons (λ y. cond (y == q) 1 0) x xs

once_more : (n : ℕ) (b : Bool) → 1 + n ≡ cond b 1 0 → b ≡ true
once_more n true is = refl
once_more n false is = absurd (omega (arith, is))

on_front : (q x : ℕ) (xs : List ℕ) (b h : Bool) → (x == q) ≡ h → count_by (λ y. y == q) (x ∷ xs) ≡ cond b 1 0 → (count_by (λ y. y == q) xs ≡ cond b 1 0 → is_on xs q ≡ b) → is_on (x ∷ xs) q ≡ b
on_front q x xs b true here is rest = ap (λ c. c || is_on xs q) here ∙ sym (once_more (count_by (λ y. y == q) xs) b (sym (counted-cons q x xs ∙ ap (λ c. cond c 1 0 + count_by (λ y. y == q) xs) here) ∙ is))
on_front q x xs b false here is rest =
    let same = sym (counted-cons q x xs ∙ ap (λ c. cond c 1 0 + count_by (λ y. y == q) xs) here) ∙ is in
    ap (λ c. c || is_on xs q) here ∙ rest (omega (arith, same))

pub on_counted : (q : ℕ) (xs : List ℕ) (b : Bool) → count_by (λ y. y == q) xs ≡ cond b 1 0 → is_on xs q ≡ b
on_counted q [] true is = absurd (omega (arith, is))
on_counted q [] false is = refl
on_counted q (x ∷ xs) b is = on_front q x xs b (x == q) refl is (λ less. on_counted q xs b less)

module _ {B : Type 0} (s : Schedule B) (sound : IsSound s) (e : Ev) (w : lists.Waits) (v : Vec ℕ) (t : Schedule B)
    (struck : (p : ℕ) → map.get w.waits p ≡ lists.wait_after s.lists p e)
    (kept : w ≡ record s.lists { waits = w.waits })
    (met : lists.AddsEach s.woken.items v.items (λ p. lists.is_met_by s.lists p e))
    (capacity : vec_capacity v ≡ vec_capacity s.woken)
    (all : MeetsAll (record s { lists = w; woken = v }) t) where
  struck_seen : (q : ℕ) → seen (record s { lists = w; woken = v }) q ≡ struck_by e (seen s q)
  struck_seen q = ap (λ o. record (seen s q) { wait = o; muted = set.contains w.muted q; has_room = map.contains_key w.room q }) (struck q)
      ∙ ap (λ u. record (seen s q) { wait = lists.wait_after s.lists q e; muted = set.contains u.muted q; has_room = map.contains_key u.room q }) kept

  listed_on : (q : ℕ) → is_on v.items q ≡ is_woken e (seen s q)
  listed_on q = ap (λ xs. is_on xs q) (met.behind ∙ ap (λ xs. xs ++ met.added) sound.nobody_woken) ∙ on_counted q met.added (lists.is_met_by s.lists q e) (met.once q)

  at_last : (q : ℕ) → seen t q ≡ fired e (seen s q)
  at_last q = all.each q ∙ ap (λ b. met_if b (seen (record s { lists = w; woken = v }) q)) (listed_on q) ∙ ap (met_if (is_woken e (seen s q))) (struck_seen q)

  fact : (q : ℕ) → FiresAs e (is_on s.stack.items q) (seen s q) (fired e (seen s q))
  fact q = fires_as e (is_on s.stack.items q) (seen s q) (sound.each q) (λ z busy some. (sound.busy q z busy some).free.wait)

  pub event_rouses : Rouses (λ q. after_event e) (λ q. joins_by e) s t
  event_rouses = record {
    shown = λ q. ap shown_in (at_last q) ∙ (fact q).shown;
    ready = λ q. ap (λ x. x.ready) (at_last q) ∙ (fact q).ready;
    bodies = λ q. ap (λ x. option_map (λ (z : Entry (Process B)). z.body.body) x.entry) (at_last q) ∙ (fact q).body;
    due = all.due;
    stack = all.stack;
    next = all.next;
  }

  there : (q : ℕ) → map.contains_key t.table.live q ≡ map.contains_key s.table.live q
  there q = ap (λ x. is_some x.entry) (at_last q) ∙ (fact q).there

  pub event_sound : IsSound t
  event_sound = record {
    each = λ q. subst Fits (sym (at_last q)) (fact q).fits;
    active = λ q is. there q ∙ sound.active q (ap (λ u. is_on u.items q) (sym all.stack) ∙ is);
    once = subst (λ u. IsOnce u.items) (sym all.stack) sound.once;
    busy = λ q x is some.
        let on = ap (λ u. is_on u.items q) (sym all.stack) ∙ is in
        let same = at_last q ∙ (fact q).busy on in
        subst (IsBusy x) (sym same) (sound.busy q x on (sym (ap (λ z. z.entry) same) ∙ some));
    stack_room = subst (λ u. map.len t.table.live ≤ vec_capacity u) (sym all.stack) (subst (λ n. n ≤ vec_capacity s.stack) (sym all.count) sound.stack_room);
    ready_room = let room = sound.ready_room in let count = all.count in let places = all.places in omega (arith, room, count, places);
    woken_room = let room = sound.woken_room in let count = all.count in let spare = all.room ∙ capacity in omega (arith, room, count, spare);
    due_room = subst (λ u. map.len t.table.live ≤ vec_capacity u) (sym all.due) (subst (λ n. n ≤ vec_capacity s.due) (sym all.count) sound.due_room);
    nobody_woken = all.nobody;
    few = subst (λ n. n ≤ MAX_LIVE) (sym all.count) sound.few;
    below = λ q is. subst (λ n. q < n) (sym all.next) (sound.below q (sym (there q) ∙ is));
    serials = subst (λ n. n < 2 ^ 32 - 1) (sym all.next) sound.serials;
  }

-- there is room for those that an event wakes
module _ {B : Type 0} (s : Schedule B) (sound : IsSound s) (e : Ev) where
  who_has_room : (p : ℕ) → map.contains_key s.lists.room p ≡ true → map.contains_key s.table.live p ≡ true
  who_has_room p has = by (map.get s.table.live p) refl
    where
      by : (o : Option (Entry (Process B))) → map.get s.table.live p ≡ o → map.contains_key s.table.live p ≡ true
      by None none = absurd (true≢false (sym has ∙ (subst (λ o. FitsAs o (seen s p)) none (sound.each p)).has_room))
      by (Some x) some = ap is_some some

  pub room_for_woken : ((w : lists.Waits) (x : Ev) → map.len (lists.waits_naming w x) ≤ map.len w.waits) → ((w : lists.Waits) → lists.AllHaveRoom w → map.len w.waits ≤ map.len w.room)
      → lists.AllHaveRoom s.lists → length s.woken.items + map.len (lists.waits_naming s.lists e) ≤ vec_capacity s.woken
  room_for_woken waiting room has =
      let few = waiting s.lists e in
      let fewer = room s.lists has in
      let live = len-le s.lists.room s.table.live who_has_room in
      let places = sound.woken_room in
      let none : length s.woken.items ≡ 0 = ap length sound.nobody_woken in
      omega (arith, few, fewer, live, places, none)
