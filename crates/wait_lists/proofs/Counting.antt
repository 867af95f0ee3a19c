-- How many instances have room: as many as have a place.
use Rattle.std.proofs.Common.{◌≡◌, ℕ, ◌+◌, Bool, true, false, true≢false, cond, List, [], ◌∷◌, length, Option, Some, None, refl, sym, ap, ◌∙◌, arith}
use Rattle.std.specs.Prelude.{slice_get, is_some}
use Rattle.std.specs.declared.cmp.Ordering.TheVariants.{Less}
use Rattle.std.specs.Ordering.{nat_cmp, eq_by_cmp, is_eq, ordering_reverse}
use Rattle.std.specs.Cmp.{nat_cmp_total}
use Rattle.std.specs.FinMap as maps
use Rattle.numbered_slots.proofs.MapLemmas.{ties_itself, len-updated}
use Rattle.room_map.specs.Entries.{AllAbove, IsRising}
use Rattle.room_map.proofs.Walks.{above_found}
use Rattle.wait_lists.specs.Shown.{Shown, room_of, shown_at, indexed}
use Rattle.wait_lists.specs.Layout.{serial_of}
use Rattle.wait_lists.proofs.ByPlace.{get-indexed}

none_found : (o : Option ℕ) → (is_some o ≡ true → ⊥) → o ≡ None
none_found None never = refl
none_found (Some x) never = absurd (never refl)

-- a key that is found behind e is another one
apart_behind : (k q : ℕ) (es : List (ℕ × ℕ)) → AllAbove nat_cmp k es → is_some (maps.find nat_cmp q es) ≡ true → eq_by_cmp nat_cmp q k ≡ true → ⊥
apart_behind k q es above there tied =
    let less : nat_cmp k q ≡ Less = above_found nat_cmp_total k q es above there in
    true≢false (sym tied ∙ ap is_eq (nat_cmp_total.antisymm q k ∙ ap ordering_reverse less))

find_behind : (e : ℕ × ℕ) (es : List (ℕ × ℕ)) (q at : ℕ) → AllAbove nat_cmp e.0 es → maps.find nat_cmp q es ≡ Some at → maps.find nat_cmp q (e ∷ es) ≡ Some at
find_behind e es q at above there = by_test (eq_by_cmp nat_cmp q e.0) refl
  where
    by_test : (b : Bool) → eq_by_cmp nat_cmp q e.0 ≡ b → cond b (Some e.1) (maps.find nat_cmp q es) ≡ Some at
    by_test true tied = absurd (apart_behind e.0 q es above (ap is_some there) tied)
    by_test false apart = there

has_room : (o : Option Shown) (p : ℕ) → serial_of o ≡ Some p → is_some (room_of o) ≡ true
has_room None p is = let none : None ≡ Some p = is in cc
has_room (Some s) p is = refl

pub count-placed : (ss : List Shown) (es : List (ℕ × ℕ)) → IsRising nat_cmp es → ((p at : ℕ) → maps.find nat_cmp p es ≡ Some at → serial_of (slice_get ss at) ≡ Some p)
    → maps.len (indexed room_of ss es) ≡ length es
count-placed ss [] rising placed = maps.len-empty nat_cmp ℕ
count-placed ss (e ∷ es) rising placed =
    let here : maps.find nat_cmp e.0 (e ∷ es) ≡ Some e.1 = ap (λ b. cond b (Some e.1) (maps.find nat_cmp e.0 es)) (ties_itself e.0 e.0 refl) in
    let first : maps.find nat_cmp e.0 es ≡ None = none_found (maps.find nat_cmp e.0 es) (λ there. apart_behind e.0 e.0 es rising.0 there (ties_itself e.0 e.0 refl)) in
    let new : maps.get (indexed room_of ss es) e.0 ≡ None = get-indexed room_of refl ss es e.0 ∙ ap (λ o. room_of (shown_at ss o)) first in
    let rest = count-placed ss es rising.1 (λ p at there. placed p at (find_behind e es p at rising.0 there)) in
    len-updated (indexed room_of ss es) e.0 (room_of (slice_get ss e.1)) new
    ∙ ap (λ b. cond b 1 0 + maps.len (indexed room_of ss es)) (has_room (slice_get ss e.1) e.0 (placed e.0 e.1 here))
    ∙ ap (λ n. 1 + n) rest ∙ omega arith
