-- Sound schedules are clean.
use Rattle.std.proofs.Common.{◌≡◌, ◌||◌, ℕ, Bool, true, false, Option, Some, None, refl, sym, ap, ◌∙◌, subst, true≢false}
use Rattle.std.specs.Prelude.{is_some}
use Rattle.std.specs.FinMap as map
use Rattle.kernel_state.specs.InstanceTable.declared.instances.Instance.{Instance as Entry}
use Rattle.kernel_state.specs.KernelProcesses.InstanceViews.{Seen, seen, is_on}
use Rattle.kernel_state.specs.KernelProcesses.Sound.{IsSound, IsKept, IsNobody, IsFree, FitsAs, Agrees, time_of, is_zero}
use Rattle.kernel_state.specs.KernelProcesses.declared.parts.Process.{Process}
use Rattle.kernel_state.specs.KernelProcesses.declared.parts.Schedule.{Schedule}
use Rattle.kernel_start.specs.Clean.{waits, runs, IsClean}

module _ {B : Type 0} where
  waits_not : (s : Seen B) → s.wait ≡ None → s.time ≡ None → s.zero ≡ false → waits s ≡ false
  waits_not s wait time zero = ap (λ w. is_some w || (is_some s.time || s.zero)) wait ∙ ap (λ t. is_some t || s.zero) time ∙ zero

  -- what is free, and is kept in the parts as the entry says, waits for nothing
  free_waits_not : (x : Entry (Process B)) (s : Seen B) → IsKept x s → IsFree x → waits s ≡ false
  free_waits_not x s kept free = waits_not s
      (subst (λ w. Agrees w x.body.sensitive s.wait) free.wait kept.wait)
      (kept.time ∙ ap time_of free.deadline)
      (kept.zero ∙ ap is_zero free.deadline)

  module _ (s : Schedule B) (sound : IsSound s) where
    fits : (p : ℕ) (e : Option (Entry (Process B))) → map.get s.table.live p ≡ e → FitsAs e (seen s p)
    fits p e is = subst (λ o. FitsAs o (seen s p)) is (sound.each p)

    kept_at : (p : ℕ) (x : Entry (Process B)) → map.get s.table.live p ≡ Some x → IsKept x (seen s p)
    kept_at p x is = fits p (Some x) is

    -- of a serial that no live instance has nothing is in the parts
    nobody_at : (p : ℕ) → map.get s.table.live p ≡ None → runs s p || waits (seen s p) ≡ true → ⊥
    nobody_at p none is = by (is_on s.stack.items p) refl
      where
        nobody : IsNobody (seen s p)
        nobody = fits p None none

        by : (b : Bool) → is_on s.stack.items p ≡ b → ⊥
        by true on = true≢false (sym (sound.active p on) ∙ ap is_some none)
        by false off = true≢false (sym is ∙ ap (λ b. (b || is_on s.stack.items p) || waits (seen s p)) nobody.ready ∙ ap (λ b. b || waits (seen s p)) off ∙ waits_not (seen s p) nobody.wait nobody.time nobody.zero)

    live_at : (p : ℕ) → runs s p || waits (seen s p) ≡ true → map.contains_key s.table.live p ≡ true
    live_at p is = by (map.get s.table.live p) refl
      where
        by : (e : Option (Entry (Process B))) → map.get s.table.live p ≡ e → map.contains_key s.table.live p ≡ true
        by None none = absurd (nobody_at p none is)
        by (Some x) some = ap is_some some

    -- what is runnable or active
    module _ (p : ℕ) (x : Entry (Process B)) (there : map.get s.table.live p ≡ Some x) where
      free_by : (b : Bool) → (seen s p).ready ≡ b → runs s p ≡ true → IsFree x × (x.kept ≡ false)
      free_by true ready is = (((kept_at p x there).runs ready).0, by x.kept refl)
        where
          by : (b : Bool) → x.kept ≡ b → x.kept ≡ false
          by false free = free
          by true stays = absurd (true≢false (sym ((kept_at p x there).kept stays).1 ∙ ((kept_at p x there).runs ready).1))
      free_by false not_ready is =
          let busy = sound.busy p x (sym (ap (λ b. b || is_on s.stack.items p) not_ready) ∙ is) there in
          (busy.free, busy.kept)

      free_at : runs s p ≡ true → IsFree x × (x.kept ≡ false)
      free_at is = free_by (seen s p).ready refl is

      not_ready_at : (b : Bool) → (seen s p).ready ≡ b → x.suspended ≡ true → (seen s p).ready ≡ false
      not_ready_at false idle suspended = idle
      not_ready_at true ready suspended = absurd (true≢false (sym suspended ∙ ((kept_at p x there).runs ready).1))

    active_apart : (p : ℕ) (e : Option (Entry (Process B))) → map.get s.table.live p ≡ e → is_on s.stack.items p ≡ true → (seen s p).ready ≡ false
    active_apart p None none on = (fits p None none).ready
    active_apart p (Some x) some on = (sound.busy p x on some).ready

    frees : (p : ℕ) (e : Option (Entry (Process B))) → map.get s.table.live p ≡ e → runs s p ≡ true → waits (seen s p) ≡ false
    frees p None none is = let nobody = fits p None none in waits_not (seen s p) nobody.wait nobody.time nobody.zero
    frees p (Some x) some is = free_waits_not x (seen s p) (kept_at p x some) (free_at p x some is).0

    pub clean : IsClean s
    clean = record {
      live = λ p is. (live_at p is, sound.below p (live_at p is));
      once = sound.once;
      apart = λ p on. active_apart p (map.get s.table.live p) refl on;
      free = λ p is. frees p (map.get s.table.live p) refl is;
      not_kept = λ p x is some. (free_at p x some is).1;
      kept = λ p x some is. ((kept_at p x some).kept is).1;
      suspended = λ p x some is. not_ready_at p x some (seen s p).ready refl is;
    }
