-- A new instance.
use Rattle.std.proofs.Common.{◌≡◌, ◌≢◌, ◌≤◌, ◌<◌, ◌-◌, ◌+◌, ◌^◌, ◌↔◌, ℕ, Bool, true, false, List, Option, Some, None, refl, sym, ap, ◌∙◌, arith, true≢false, ⊎_elim, subst}
use Rattle.std.specs.Prelude.{is_some, length, unwrap_or}
use Rattle.std.proofs.lemmas.Bool.{cases_eq}
use Rattle.std.specs.Ordering.{nat_cmp}
use Rattle.std.specs.FinMap as map
use Rattle.std.specs.FinSet as set
use Rattle.wait_lists.specs.EventCore.declared.event.Ev.{Ev}
use Rattle.instance_table.specs.NumberedSlots.Numbered.{Numbered}
use Rattle.instance_table.specs.declared.TheConstants.{MAX_LIVE}
use Rattle.instance_table.specs.declared.instances.Instance.{Instance as Entry}
use Rattle.instance_table.specs.declared.instances.ProcessKind.{ProcessKind}
use Rattle.instance_table.specs.Instances.{new_instance, with_spawned}
use Rattle.wait_lists.specs.Waits as lists
use Rattle.wait_lists.proofs.LawLemmas.{len-le}
use Rattle.wait_lists.proofs.NumberedSlots.MapLemmas.{get-insert_same, get-insert_other, get-remove_same, get-remove_other, len-insert_new}
use Rattle.kernel_processes.specs.InstanceViews.{seen, is_on, shown_in}
use Rattle.kernel_processes.specs.Sound.{IsKept, IsNobody, IsBusy, Fits, FitsAs, IsSound}
use Rattle.kernel_processes.specs.declared.parts.Process.{Process}
use Rattle.kernel_processes.specs.declared.parts.Schedule.{Schedule}
use Rattle.kernel_processes.proofs.Changed.{gone_here, gone_other}
use Rattle.kernel_processes.specs.Moved.{Adds, HasPlaceMore, Stays}

-- ---- how many have room in the wait lists

module _ {B : Type 0} (s : Schedule B) (sound : IsSound s) where
  lives_with_room : (p : ℕ) → map.contains_key s.table.live p ≡ true → map.contains_key s.lists.room p ≡ true
  lives_with_room p is = by (map.get s.table.live p) refl is
    where
      by : (o : Option (Entry (Process B))) → map.get s.table.live p ≡ o → is_some o ≡ true → map.contains_key s.lists.room p ≡ true
      by None none no_one = absurd (true≢false (sym no_one))
      by (Some x) some one = (subst (λ o. FitsAs o (seen s p)) some (sound.each p)).has_room

  lives_that_has_room : (p : ℕ) → map.contains_key s.lists.room p ≡ true → map.contains_key s.table.live p ≡ true
  lives_that_has_room p has = by (map.get s.table.live p) refl
    where
      by : (o : Option (Entry (Process B))) → map.get s.table.live p ≡ o → map.contains_key s.table.live p ≡ true
      by None none = absurd (true≢false (sym has ∙ (subst (λ o. FitsAs o (seen s p)) none (sound.each p)).has_room))
      by (Some x) some = ap is_some some

  pub as_many_live : map.len s.table.live ≤ map.len s.lists.room
  as_many_live = len-le s.table.live s.lists.room lives_with_room

  pub as_many_room : map.len s.lists.room ≤ MAX_LIVE
  as_many_room = let few = sound.few in let le = len-le s.lists.room s.table.live lives_that_has_room in omega (arith, few, le)

-- at most so many, and not so many
pub below_limit : {R : Type 0} (r e : R) (n m : ℕ) → n ≤ m → (r ≡ e) ↔ (n ≡ m) → (r ≡ e → ⊥) → n < m
below_limit r e n m le both apart = ⊎_elim (λ same. absurd (apart (both.1 same))) (λ other. omega (arith, le, other)) (cases_eq n m)

-- ---- the next serial

module _ {B : Type 0} (s : Schedule B) (p : ℕ) (sound : IsSound s) (number : p ≡ s.table.next) where
  no_entry : map.get s.table.live p ≡ None
  no_entry = by (map.get s.table.live p) refl
    where
      by : (o : Option (Entry (Process B))) → map.get s.table.live p ≡ o → map.get s.table.live p ≡ None
      by None none = none
      by (Some x) some = absurd (let lt = sound.below p (ap is_some some) in omega (arith, lt, number))

  nobody : IsNobody (seen s p)
  nobody = subst (λ o. FitsAs o (seen s p)) no_entry (sound.each p)

  off : is_on s.stack.items p ≡ false
  off = by (is_on s.stack.items p) refl
    where
      by : (b : Bool) → is_on s.stack.items p ≡ b → is_on s.stack.items p ≡ false
      by true on = absurd (let lt = sound.below p (sound.active p on) in omega (arith, lt, number))
      by false no_one = no_one

  other_on : (q : ℕ) → is_on s.stack.items q ≡ true → q ≢ p
  other_on q on same = true≢false (sym on ∙ ap (is_on s.stack.items) same ∙ off)

  -- room was made for it in the wait lists
  module _ (r : map.FinMap nat_cmp ℕ) (others : (q : ℕ) → q ≢ p → map.get r q ≡ map.get s.lists.room q) where
    -- it is added
    module _ (kind : ProcessKind) (static : List Ev) (b : B) (has : map.contains_key r p ≡ true) (enough : length static ≤ unwrap_or (map.get r p) 0)
        (n : Numbered (Entry (Process B))) (spawned : n ≡ with_spawned s.table kind (record { sensitive = static; body = b })) where
      abbrev t : Schedule B
      t = record s { table = n; lists = record s.lists { room = r } }

      abbrev z : Entry (Process B)
      z = new_instance kind (record { sensitive = static; body = b })

      entry_here : map.get n.live p ≡ Some z
      entry_here = ap (λ m. map.get m.live p) spawned ∙ get-insert_same s.table.live s.table.next z p number

      entry_other : (q : ℕ) → q ≢ p → map.get n.live q ≡ map.get s.table.live q
      entry_other q apart = ap (λ m. map.get m.live q) spawned ∙ get-insert_other s.table.live s.table.next z q (λ same. apart (same ∙ sym number))

      others_seen : (q : ℕ) → q ≢ p → seen t q ≡ seen s q
      others_seen q apart = ap (λ o. record (seen t q) { entry = o }) (entry_other q apart) ∙ ap (λ o. record (seen s q) { has_room = is_some o }) (others q apart)

      pub adds : Adds p kind static b s t
      adds = record {
        entry = entry_here;
        wait = nobody.wait;
        ready = nobody.ready;
        room = enough;
        off = off;
        others = others_seen;
        stack = refl;
        due = refl;
        next = ap (λ m. m.next) spawned;
      }

      here_fits : IsKept z (seen t p)
      here_fits = record {
        wait = nobody.wait;
        muted = nobody.muted;
        has_room = has;
        time = nobody.time;
        zero = nobody.zero;
        runs = λ is. absurd (true≢false (sym is ∙ nobody.ready));
        kept = λ is. absurd (true≢false (sym is));
      }

      one_more : map.len n.live ≡ map.len s.table.live + 1
      one_more = ap (λ m. map.len m.live) spawned ∙ len-insert_new s.table.live s.table.next z (ap (map.get s.table.live) (sym number) ∙ no_entry)

      pub adds_sound : HasPlaceMore s → map.len s.table.live < MAX_LIVE → s.table.next + 1 < 2 ^ 32 - 1 → IsSound t
      adds_sound places few serials = record {
        each = λ q. ⊎_elim
            (λ same. subst (λ k. Fits (seen t k)) (sym same) (subst (λ o. FitsAs o (seen t p)) (sym entry_here) here_fits))
            (λ apart. subst Fits (sym (others_seen q apart)) (sound.each q))
            (cases_eq q p);
        active = λ q on. ap is_some (entry_other q (other_on q on)) ∙ sound.active q on;
        once = sound.once;
        busy = λ q x on some. subst (IsBusy x) (sym (others_seen q (other_on q on))) (sound.busy q x on (sym (entry_other q (other_on q on)) ∙ some));
        stack_room = let more = one_more in let room = places.stack in omega (arith, more, room);
        ready_room = let more = one_more in let room = places.ready in omega (arith, more, room);
        woken_room = let more = one_more in let room = places.woken in omega (arith, more, room);
        due_room = let more = one_more in let room = places.due in omega (arith, more, room);
        nobody_woken = sound.nobody_woken;
        few = let more = one_more in omega (arith, more, few);
        below = λ q is. let next = ap (λ m. m.next) spawned in ⊎_elim
            (λ same. omega (arith, same, number, next))
            (λ apart. let lt = sound.below q (ap is_some (sym (entry_other q apart)) ∙ is) in omega (arith, lt, next))
            (cases_eq q p);
        serials = let next = ap (λ m. m.next) spawned in omega (arith, next, serials);
      }

    -- it is refused, and forgotten
    module _ (w : lists.Waits) (forgot : w ≡ lists.without_instance (record s.lists { room = r }) p) where
      abbrev kept : Schedule B
      kept = record s { lists = w }

      kept_seen : (q : ℕ) → seen kept q ≡ seen s q
      kept_seen q = ap (λ v. record (seen s q) { wait = map.get v.waits q; muted = set.contains v.muted q; has_room = map.contains_key v.room q }) forgot ∙ ⊎_elim
          (λ same. subst (λ k. record (seen s k) { wait = map.get (map.remove s.lists.waits p) k; muted = set.contains (set.remove s.lists.muted p) k; has_room = map.contains_key (map.remove r p) k } ≡ seen s k) (sym same)
          (ap (λ o. record (seen s p) { wait = o; muted = set.contains (set.remove s.lists.muted p) p; has_room = map.contains_key (map.remove r p) p }) (get-remove_same s.lists.waits p p refl ∙ sym nobody.wait)
          ∙ ap (λ b. record (seen s p) { muted = b; has_room = map.contains_key (map.remove r p) p }) (gone_here s.lists.muted p ∙ sym nobody.muted)
          ∙ ap (λ b. record (seen s p) { has_room = b }) (ap is_some (get-remove_same r p p refl) ∙ sym nobody.has_room)))
          (λ apart. ap (λ o. record (seen s q) { wait = o; muted = set.contains (set.remove s.lists.muted p) q; has_room = map.contains_key (map.remove r p) q }) (get-remove_other s.lists.waits p q apart)
          ∙ ap (λ b. record (seen s q) { muted = b; has_room = map.contains_key (map.remove r p) q }) (gone_other s.lists.muted p q apart)
          ∙ ap (λ o. record (seen s q) { has_room = is_some o }) (get-remove_other r p q apart ∙ others q apart))
          (cases_eq q p)

      pub kept_stays : Stays s kept
      kept_stays = record {
        shown = λ q. ap shown_in (kept_seen q);
        ready = λ q. refl;
        bodies = λ q. refl;
        stack = refl;
        due = refl;
        next = refl;
      }

      pub kept_sound : IsSound kept
      kept_sound = record {
        each = λ q. subst Fits (sym (kept_seen q)) (sound.each q);
        active = sound.active;
        once = sound.once;
        busy = λ q x on some. subst (IsBusy x) (sym (kept_seen q)) (sound.busy q x on some);
        stack_room = sound.stack_room;
        ready_room = sound.ready_room;
        woken_room = sound.woken_room;
        due_room = sound.due_room;
        nobody_woken = sound.nobody_woken;
        few = sound.few;
        below = sound.below;
        serials = sound.serials;
      }

-- ---- the same after room was made for it

module _ {B : Type 0} (s u : Schedule B) (p : ℕ) (sound : IsSound s) (number : p ≡ s.table.next)
    (kept_parts : u ≡ record s { lists = record s.lists { room = u.lists.room } }) (others_room : (q : ℕ) → q ≢ p → map.get u.lists.room q ≡ map.get s.lists.room q) where
  module _ (kind : ProcessKind) (static : List Ev) (b : B) (room : lists.HasRoom u.lists p (length static))
      (n : Numbered (Entry (Process B))) (spawned : n ≡ with_spawned u.table kind (record { sensitive = static; body = b })) where
    spawned_here : n ≡ with_spawned s.table kind (record { sensitive = static; body = b })
    spawned_here = spawned ∙ ap (λ v. with_spawned v.table kind (record { sensitive = static; body = b })) kept_parts

    pub added : Adds p kind static b s (record u { table = n })
    added = subst (λ v. Adds p kind static b s (record v { table = n })) (sym kept_parts) (adds s p sound number u.lists.room others_room kind static b room.0 room.1 n spawned_here)

    pub added_sound : HasPlaceMore s → map.len s.table.live < MAX_LIVE → s.table.next + 1 < 2 ^ 32 - 1 → IsSound (record u { table = n })
    added_sound places few serials = subst (λ v. IsSound (record v { table = n })) (sym kept_parts) (adds_sound s p sound number u.lists.room others_room kind static b room.0 room.1 n spawned_here places few serials)

  module _ (n : Numbered (Entry (Process B))) (same : n ≡ u.table) (w : lists.Waits) (forgot : w ≡ lists.without_instance u.lists p) where
    forgot_here : w ≡ lists.without_instance (record s.lists { room = u.lists.room }) p
    forgot_here = forgot ∙ ap (λ v. lists.without_instance v.lists p) kept_parts

    same_here : n ≡ s.table
    same_here = same ∙ ap (λ v. v.table) kept_parts

    is_kept_here : record u { table = n; lists = w } ≡ record s { lists = w }
    is_kept_here = ap {A = Schedule B} (λ v. record v { table = n; lists = w }) kept_parts ∙ ap {A = Numbered (Entry (Process B))} (λ m. record s { table = m; lists = w }) same_here

    pub refused_stays : Stays s (record u { table = n; lists = w })
    refused_stays = subst (Stays s) (sym is_kept_here) (kept_stays s p sound number u.lists.room others_room w forgot_here)

    pub refused_sound : IsSound (record u { table = n; lists = w })
    refused_sound = subst IsSound (sym is_kept_here) (kept_sound s p sound number u.lists.room others_room w forgot_here)
