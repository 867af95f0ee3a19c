-- An instance that has ended is gone from all parts.
use Rattle.std.proofs.Common.{◌≡◌, ◌≢◌, ◌≤◌, ◌<◌, ◌-◌, ◌^◌, ℕ, Bool, true, false, cond, None, option_map, refl, sym, ap, ◌∙◌, arith, true≢false, ⊎_elim, subst}
use Rattle.std.specs.Prelude.{is_some}
use Rattle.std.proofs.lemmas.Bool.{cases_eq}
use Rattle.std.specs.Cmp.{nat_cmp_total}
use Rattle.std.specs.FinMap as map
use Rattle.std.specs.FinSet as set
use Rattle.instance_table.specs.NumberedSlots.Numbered.{Numbered, without}
use Rattle.instance_table.specs.declared.instances.Instance.{Instance as Entry}
use Rattle.timed_queue.specs.Timed as timed
use Rattle.timed_queue.specs.Timed.{Timed}
use Rattle.ready_set.specs.Ready.{Ready, without_member}
use Rattle.wait_lists.specs.Waits as lists
use Rattle.wait_lists.proofs.NumberedSlots.MapLemmas.{get-remove_same, get-remove_other}
use Rattle.kernel_processes.specs.InstanceViews.{seen, is_on, shown_in}
use Rattle.kernel_processes.specs.Sound.{IsNobody, IsBusy, Fits, FitsAs, IsSound}
use Rattle.kernel_processes.specs.declared.parts.Process.{Process}
use Rattle.kernel_processes.specs.declared.parts.Schedule.{Schedule}
use Rattle.kernel_processes.proofs.Changed.{gone_here, gone_other}
use Rattle.kernel_processes.specs.Moved.{Ends, LeavesTop}

module _ {B : Type 0} (s : Schedule B) (p : ℕ) (sound : IsSound s) (off : is_on s.stack.items p ≡ false) (unready : set.contains s.ready.members p ≡ false)
    (w : lists.Waits) (d : Timed) (z : Ready) (n : Numbered (Entry (Process B)))
    (forgot : w ≡ lists.without_instance s.lists p) (times : d ≡ timed.without s.deadlines p) (zeros : z ≡ without_member s.zero p) (gone : n ≡ without s.table p) where
  abbrev t : Schedule B
  t = record s { table = n; lists = w; deadlines = d; zero = z }

  get-gone : map.get n.live p ≡ None
  get-gone = ap (λ m. map.get m.live p) gone ∙ get-remove_same s.table.live p p refl

  get-kept : (q : ℕ) → q ≢ p → map.get n.live q ≡ map.get s.table.live q
  get-kept q apart = ap (λ m. map.get m.live q) gone ∙ get-remove_other s.table.live p q apart

  nobody : IsNobody (seen t p)
  nobody = record {
    wait = ap (λ v. map.get v.waits p) forgot ∙ get-remove_same s.lists.waits p p refl;
    muted = ap (λ v. set.contains v.muted p) forgot ∙ gone_here s.lists.muted p;
    has_room = ap (λ v. map.contains_key v.room p) forgot ∙ ap is_some (get-remove_same s.lists.room p p refl);
    time = ap (λ v. map.get v.times p) times ∙ get-remove_same s.deadlines.times p p refl;
    zero = ap (λ v. set.contains v.members p) zeros ∙ gone_here s.zero.members p;
    ready = unready;
  }

  others_seen : (q : ℕ) → q ≢ p → seen t q ≡ seen s q
  others_seen q apart =
      ap (λ o. record (seen t q) { entry = o }) (get-kept q apart)
      ∙ ap (λ v. record (seen s q) { wait = map.get v.waits q; muted = set.contains v.muted q; has_room = map.contains_key v.room q; time = map.get d.times q; zero = set.contains z.members q }) forgot
      ∙ ap (λ o. record (seen s q) { wait = o; muted = set.contains (set.remove s.lists.muted p) q; has_room = map.contains_key (map.remove s.lists.room p) q; time = map.get d.times q; zero = set.contains z.members q }) (get-remove_other s.lists.waits p q apart)
      ∙ ap (λ b. record (seen s q) { muted = b; has_room = map.contains_key (map.remove s.lists.room p) q; time = map.get d.times q; zero = set.contains z.members q }) (gone_other s.lists.muted p q apart)
      ∙ ap (λ o. record (seen s q) { has_room = is_some o; time = map.get d.times q; zero = set.contains z.members q }) (get-remove_other s.lists.room p q apart)
      ∙ ap (λ v. record (seen s q) { time = map.get v.times q; zero = set.contains z.members q }) times
      ∙ ap (λ o. record (seen s q) { time = o; zero = set.contains z.members q }) (get-remove_other s.deadlines.times p q apart)
      ∙ ap (λ v. record (seen s q) { zero = set.contains v.members q }) zeros
      ∙ ap (λ b. record (seen s q) { zero = b }) (gone_other s.zero.members p q apart)

  -- what is on the stack is another one
  other_on : (q : ℕ) → is_on s.stack.items q ≡ true → q ≢ p
  other_on q on same = true≢false (sym on ∙ ap (is_on s.stack.items) same ∙ off)

  fewer : map.len n.live ≤ map.len s.table.live
  fewer = subst (λ m. map.len m.live ≤ map.len s.table.live) (sym gone) (subst (λ k. k ≤ map.len s.table.live) (sym (map.len-remove nat_cmp_total s.table.live p)) (by (map.contains_key s.table.live p)))
    where
      by : (b : Bool) → cond b (map.len s.table.live - 1) (map.len s.table.live) ≤ map.len s.table.live
      by true = omega arith
      by false = omega arith

  pub ended_sound : IsSound t
  ended_sound = record {
    each = λ q. ⊎_elim
        (λ same. subst (λ k. Fits (seen t k)) (sym same) (subst (λ o. FitsAs o (seen t p)) (sym get-gone) nobody))
        (λ apart. subst Fits (sym (others_seen q apart)) (sound.each q))
        (cases_eq q p);
    active = λ q on. ap is_some (get-kept q (other_on q on)) ∙ sound.active q on;
    once = sound.once;
    busy = λ q x on some. subst (IsBusy x) (sym (others_seen q (other_on q on))) (sound.busy q x on (sym (get-kept q (other_on q on)) ∙ some));
    stack_room = let less = fewer in let room = sound.stack_room in omega (arith, less, room);
    ready_room = let less = fewer in let room = sound.ready_room in omega (arith, less, room);
    woken_room = let less = fewer in let room = sound.woken_room in omega (arith, less, room);
    due_room = let less = fewer in let room = sound.due_room in omega (arith, less, room);
    nobody_woken = sound.nobody_woken;
    few = let less = fewer in let all = sound.few in omega (arith, less, all);
    below = λ q is. subst (λ k. q < k) (sym (ap (λ m. m.next) gone)) (sound.below q (⊎_elim
        (λ same. absurd (true≢false (sym is ∙ ap (λ k. map.contains_key n.live k) same ∙ ap is_some get-gone)))
        (λ apart. ap is_some (sym (get-kept q apart)) ∙ is)
        (cases_eq q p)));
    serials = subst (λ k. k < 2 ^ 32 - 1) (sym (ap (λ m. m.next) gone)) sound.serials;
  }

  -- told of the schedule before the top left it
  module _ (u : Schedule B) (left : LeavesTop p u s) where
    same_seen : (q : ℕ) → seen s q ≡ seen u q
    same_seen q = ap (λ v. seen v q) left.others

    pub ended_after : Ends p u t
    ended_after = record {
      here = ap shown_in (ap (λ o. record (seen t p) { entry = o }) get-gone);
      others = λ q apart. ap shown_in (others_seen q apart ∙ same_seen q);
      ready = λ q. ap (λ x. x.ready) (same_seen q);
      bodies = λ q apart. ap (λ x. option_map (λ (z : Entry (Process B)). z.body.body) x.entry) (others_seen q apart ∙ same_seen q);
      stack = left.stack;
      due = ap (λ v. v.due) left.others;
      next = ap (λ m. m.next) gone ∙ ap (λ v. v.table.next) left.others;
    }
