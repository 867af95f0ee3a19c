-- There is a place among the runnable instances for every live one.
use Rattle.std.proofs.Common.{◌≡◌, ◌≤◌, ◌<◌, ◌+◌, ◌-◌, ◌⊎◌, ℕ, zero, suc, Bool, true, false, cond, ◌||◌, List, [], ◌∷◌, refl, sym, ap, ◌∙◌, arith, true≢false, ⊎_elim, inl, inr}
use Rattle.std.specs.Prelude.{IsTrue, is_some, if◌then◌else◌}
use Rattle.std.proofs.lemmas.Bool.{cases_eq, cases_lt}
use Rattle.std.specs.List.{list_any}
use Rattle.std.specs.Ordering.{nat_cmp, eq_by_cmp}
use Rattle.std.specs.Cmp.{nat_cmp_total}
use Rattle.std.specs.FinMap as map
use Rattle.std.specs.FinSet as set
use Rattle.wait_lists.proofs.NumberedSlots.MapLemmas.{ties_itself, get-remove_other}
use Rattle.ready_set.specs.Ready.{Ready, with_member}
use Rattle.kernel_processes.specs.InstanceViews.{Seen, seen}
use Rattle.kernel_processes.specs.Moves.{Changes, HasPlaces}
use Rattle.kernel_processes.specs.declared.parts.Schedule.{Schedule}
use Rattle.kernel_processes.proofs.Changed.{member_here, member_other, gone_here, gone_other}

-- a set of keys of a map has no more members than the map has keys

nobody_in : (s : set.FinSet nat_cmp) → ((q : ℕ) → set.contains s q ≡ false) → set.len s ≡ 0
nobody_in s none = ap set.len (set.same_set nat_cmp_total map.nat_cmp-IsAntisymmetric s set.empty (λ q. none q ∙ sym (set.contains-empty nat_cmp q))) ∙ set.len-empty nat_cmp

module _ {X : Type 0} where
  some_in : (m : map.FinMap nat_cmp X) (p : ℕ) → map.contains_key m p ≡ true → 0 < map.len m
  some_in m p is = ⊎_elim (λ none. absurd (true≢false (sym is ∙ ap (λ n. map.contains_key n p) (map.empty_of_len m (omega (arith, none))) ∙ ap is_some (map.get-empty nat_cmp p)))) (λ lt. lt) (cases_lt_one (map.len m))
    where
      cases_lt_one : (n : ℕ) → (n < 1) ⊎ (0 < n)
      cases_lt_one n = ⊎_elim (λ lt. inl lt) (λ le. inr (omega (arith, le))) (cases_lt n 1)

  abbrev Within : set.FinSet nat_cmp → map.FinMap nat_cmp X → Type 0
  Within s m = (p : ℕ) → set.contains s p ≡ true → map.contains_key m p ≡ true

  left : (s : set.FinSet nat_cmp) (m : map.FinMap nat_cmp X) (x : ℕ) → Within s m → Within (set.remove s x) (map.remove m x)
  left s m x each q in_rest = ⊎_elim
      (λ same. absurd (true≢false (sym in_rest ∙ ap (set.contains (set.remove s x)) same ∙ gone_here s x)))
      (λ apart. ap is_some (get-remove_other m x q apart) ∙ each q (sym (gone_other s x q apart) ∙ in_rest))
      (cases_eq q x)

  one_more : (n : ℕ) (s : set.FinSet nat_cmp) (m : map.FinMap nat_cmp X) → set.len s ≡ suc n → Within s m
      → ((t : set.FinSet nat_cmp) (o : map.FinMap nat_cmp X) → set.len t ≡ n → Within t o → n ≤ map.len o) → (xs : List ℕ) → set.items s ≡ xs → suc n ≤ map.len m
  one_more n s m is each rest [] none = absurd (let empty = nobody_in s (λ q. set.contains-items s q ∙ ap (list_any (eq_by_cmp nat_cmp q)) none) in omega (arith, is, empty))
  one_more n s m is each rest (x ∷ xs) some =
      let here = set.contains-items s x ∙ ap (list_any (eq_by_cmp nat_cmp x)) some ∙ ap (λ b. b || list_any (eq_by_cmp nat_cmp x) xs) (ties_itself x x refl) in
      let less = set.len-remove nat_cmp_total s x ∙ ap (λ b. cond b (set.len s - 1) (set.len s)) here in
      let fewer = map.len-remove nat_cmp_total m x ∙ ap (λ b. cond b (map.len m - 1) (map.len m)) (each x here) in
      let there = some_in m x (each x here) in
      let few = rest (set.remove s x) (map.remove m x) (omega (arith, is, less)) (left s m x each) in
      omega (arith, few, fewer, there)

  no_more_by : (n : ℕ) (s : set.FinSet nat_cmp) (m : map.FinMap nat_cmp X) → set.len s ≡ n → Within s m → n ≤ map.len m
  no_more_by zero s m is each = omega arith
  no_more_by (suc n) s m is each = one_more n s m is each (λ t o. no_more_by n t o) (set.items s) refl

  no_more : (s : set.FinSet nat_cmp) (m : map.FinMap nat_cmp X) → ((p : ℕ) → set.contains s p ≡ true → map.contains_key m p ≡ true) → set.len s ≤ map.len m
  no_more s m each = no_more_by (set.len s) s m refl each

by_bool : (b : Bool) → (b ≡ true) ⊎ (b ≡ false)
by_bool true = inl refl
by_bool false = inr refl

module _ {B : Type 0} (s : Schedule B) (p : ℕ) (places : HasPlaces s) (lives : map.contains_key s.table.live p ≡ true) where
  -- with the member, all are still live
  all_live : (q : ℕ) → set.contains (set.insert s.ready.members p) q ≡ true → map.contains_key s.table.live q ≡ true
  all_live q is = ⊎_elim
      (λ same. ap (map.contains_key s.table.live) same ∙ lives)
      (λ apart. places.live q (sym (member_other s.ready.members p q apart) ∙ is))
      (cases_eq q p)

  counted : set.contains s.ready.members p ≡ false → set.len s.ready.members + 1 ≤ map.len s.table.live
  counted is =
      let more = set.len-insert nat_cmp_total s.ready.members p ∙ ap (λ b. cond b (set.len s.ready.members) (set.len s.ready.members + 1)) is in
      let few = no_more (set.insert s.ready.members p) s.table.live all_live in
      omega (arith, more, few)

  pub room_left : IsTrue (set.contains s.ready.members p) ⊎ (0 < s.ready.spare)
  room_left = ⊎_elim (λ is. inl (is_true is)) (λ is. inr (let few = counted is in let room = places.room in omega (arith, few, room))) (by_bool (set.contains s.ready.members p))
    where
      is_true : {b : Bool} → b ≡ true → IsTrue b
      is_true {b} is = is

  places_stay : (b : Bool) (r : Ready) → set.contains s.ready.members p ≡ b → r ≡ with_member s.ready p → set.len r.members + r.spare ≡ set.len s.ready.members + s.ready.spare
  places_stay true r is has = ap (λ x. set.len x.members + x.spare) has ∙ ap (λ x. x + (if set.contains s.ready.members p then s.ready.spare else s.ready.spare - 1)) (set.len-insert nat_cmp_total s.ready.members p ∙ ap (λ b. cond b (set.len s.ready.members) (set.len s.ready.members + 1)) is)
      ∙ ap (λ b. set.len s.ready.members + (if b then s.ready.spare else s.ready.spare - 1)) is
  places_stay false r is has =
      let few = counted is in
      let room = places.room in
      ap (λ x. set.len x.members + x.spare) has ∙ ap (λ x. x + (if set.contains s.ready.members p then s.ready.spare else s.ready.spare - 1)) (set.len-insert nat_cmp_total s.ready.members p ∙ ap (λ b. cond b (set.len s.ready.members) (set.len s.ready.members + 1)) is)
      ∙ ap (λ b. (set.len s.ready.members + 1) + (if b then s.ready.spare else s.ready.spare - 1)) is ∙ omega (arith, few, room)

  abbrev runs : Seen B → Seen B
  runs x = record x { ready = true }

  pub joined_changes : (r : Ready) → r ≡ with_member s.ready p → Changes p runs s (record s { ready = r })
  joined_changes r has = record {
    here = ap (λ b. record (seen s p) { ready = b }) (ap (λ x. set.contains x.members p) has ∙ member_here s.ready.members p);
    others = λ q apart. ap (λ b. record (seen s q) { ready = b }) (ap (λ x. set.contains x.members q) has ∙ member_other s.ready.members p q apart);
    stack = refl;
    woken = refl;
    due = refl;
    next = refl;
    count = refl;
    places = places_stay (set.contains s.ready.members p) r refl has;
  }

  pub joined_places : (r : Ready) → r ≡ with_member s.ready p → HasPlaces (record s { ready = r })
  joined_places r has = record {
    live = λ q is. all_live q (sym (ap (λ x. set.contains x.members q) has) ∙ is);
    room = let same = places_stay (set.contains s.ready.members p) r refl has in let room = places.room in omega (arith, same, room);
    serials = places.serials;
  }
