-- A schedule without an instance.
use Rattle.std.proofs.Common.{◌≡◌, ℕ, false, None, [], sym, ap, ◌∙◌, arith, subst, true≢false}
use Rattle.std.specs.Prelude.{is_some, option_map}
use Rattle.std.specs.Ordering.{nat_cmp}
use Rattle.std.specs.FinMap as map
use Rattle.std.specs.FinSet as set
use Rattle.kernel_processes.specs.InstanceViews.{seen, is_on, as_instance, shown_at}
use Rattle.kernel_processes.specs.Sound.{IsNobody, FitsAs, IsSound, IsOnce}
use Rattle.kernel_processes.specs.declared.parts.Schedule.{Schedule}

module _ {B : Type 0} (s : Schedule B)
    (live : s.table.live ≡ map.empty) (next : s.table.next ≡ 0) (waits : s.lists.waits ≡ map.empty) (muted : s.lists.muted ≡ set.empty) (room : s.lists.room ≡ map.empty)
    (times : s.deadlines.times ≡ map.empty) (zero : s.zero.members ≡ set.empty) (ready : s.ready.members ≡ set.empty) (stack : s.stack.items ≡ []) (woken : s.woken.items ≡ []) where
  nobody_at : (p : ℕ) → map.get s.table.live p ≡ None
  nobody_at p = ap (λ m. map.get m p) live ∙ map.get-empty nat_cmp p

  pub nobody_shown : (p : ℕ) → shown_at s p ≡ None
  nobody_shown p = ap (option_map (λ x. as_instance x (seen s p).wait)) (nobody_at p)

  nobody_seen : (p : ℕ) → IsNobody (seen s p)
  nobody_seen p = record {
    wait = ap (λ m. map.get m p) waits ∙ map.get-empty nat_cmp p;
    muted = ap (λ m. set.contains m p) muted ∙ set.contains-empty nat_cmp p;
    has_room = ap (λ m. is_some (map.get m p)) room ∙ ap is_some (map.get-empty nat_cmp p);
    time = ap (λ m. map.get m p) times ∙ map.get-empty nat_cmp p;
    zero = ap (λ m. set.contains m p) zero ∙ set.contains-empty nat_cmp p;
    ready = ap (λ m. set.contains m p) ready ∙ set.contains-empty nat_cmp p;
  }

  nobody_on : (p : ℕ) → is_on s.stack.items p ≡ false
  nobody_on p = ap (λ xs. is_on xs p) stack

  none_live : map.len s.table.live ≡ 0
  none_live = ap map.len live ∙ map.len-empty nat_cmp _

  pub nothing_wrong : IsSound s
  nothing_wrong = record {
    each = λ p. subst (λ o. FitsAs o (seen s p)) (sym (nobody_at p)) (nobody_seen p);
    active = λ p is. absurd (true≢false (sym is ∙ nobody_on p));
    once = subst IsOnce (sym stack) tt;
    busy = λ p x is some. absurd (true≢false (sym is ∙ nobody_on p));
    stack_room = let none = none_live in omega (arith, none);
    ready_room = let none = none_live in omega (arith, none);
    woken_room = let none = none_live in omega (arith, none);
    due_room = let none = none_live in omega (arith, none);
    nobody_woken = woken;
    few = let none = none_live in omega (arith, none);
    below = λ p is. absurd (true≢false (sym is ∙ ap is_some (nobody_at p)));
    serials = omega (arith, next);
  }
