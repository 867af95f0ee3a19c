-- A walk over the list of the events with a delta notification, in rising order, takes them out.
use Rattle.std.proofs.Common.{◌≡◌, ◌≢◌, ◌<◌, ◌≤◌, ◌+◌, ℕ, zero, suc, Bool, true, false, cond, List, [], ◌∷◌, length, get_or, set, drop, refl, sym, ap, ◌∙◌, subst, ⊎_elim, arith, true≢false}
use Rattle.std.specs.Prelude.{map}
use Rattle.std.specs.List.{Contains}
use Rattle.std.specs.List.Sorted.{IsNonDecreasing}
use Rattle.std.proofs.Math.ListN.{get_or-map, drop_of_length-le}
use Rattle.std.proofs.Math.Seq.{drop-cons, map-set_same}
use Rattle.std.proofs.lemmas.Bool.{cases_eq}
use Rattle.std.proofs.lemmas.List.{map-set, get_or-set_same, get_or-set_other, get_or-drop, length-drop}
use Rattle.sim_model.specs.EventCore.declared.notifications.Pending.{Pending}
use Rattle.sim_model.specs.EventCore.declared.notifications.Pending.TheVariants as pending
use Rattle.sim_model.specs.EventCore.Notifications.{pending_at}
use Rattle.sim_model.specs.NumberedSlots.Places.{places_from, marked_places}
use Rattle.sim_model.specs.Phases.{is_delta, without_pending}
use Rattle.kernel_events.specs.Layout.{HasDeltas}
use Rattle.kernel_events.proofs.DueEvents.{all_left}

-- ---- what a test of a notification tells

no_delta : (p : Pending) → is_delta p ≡ false → p ≡ pending.Delta → ⊥
no_delta p none is = true≢false (sym (ap is_delta is) ∙ none)

is_none : (p : Pending) → (p ≡ pending.Delta → ⊥) → is_delta p ≡ false
is_none pending.Nothing none = refl
is_none pending.Delta none = absurd (none refl)
is_none (pending.At t) none = refl

mark_at : (events : List Pending) (q : ℕ) → get_or (map is_delta events) q false ≡ is_delta (pending_at events q)
mark_at events q = get_or-map is_delta events q pending.Nothing

-- ---- the first place, and no place

first_from : (b n : ℕ) (marks : List Bool) → get_or marks n false ≡ true → ((m : ℕ) → m < n → get_or marks m false ≡ false)
    → places_from b marks ≡ (b + n) ∷ places_from b (set marks n false)
first_from b n [] there below = absurd (true≢false (sym there))
first_from b zero (true ∷ marks) there below = let e : b ≡ b + 0 = omega arith in ap (λ m. m ∷ places_from (b + 1) marks) e
first_from b zero (false ∷ marks) there below = absurd (true≢false (sym there))
first_from b (suc n) (true ∷ marks) there below = absurd (true≢false (below 0 (omega arith)))
first_from b (suc n) (false ∷ marks) there below =
    let e : b + 1 + n ≡ b + suc n = omega arith in
    first_from (b + 1) n marks there (λ m h. below (suc m) (omega (arith, h))) ∙ ap (λ m. m ∷ places_from (b + 1) (set marks n false)) e

first_place : (n : ℕ) (marks : List Bool) → get_or marks n false ≡ true → ((m : ℕ) → m < n → get_or marks m false ≡ false)
    → marked_places marks ≡ n ∷ marked_places (set marks n false)
first_place n marks there below = let e : 0 + n ≡ n = omega arith in first_from 0 n marks there below ∙ ap (λ m. m ∷ marked_places (set marks n false)) e

no_place : (b : ℕ) (marks : List Bool) → ((m : ℕ) → get_or marks m false ≡ false) → places_from b marks ≡ []
no_place b [] none = refl
no_place b (true ∷ marks) none = absurd (true≢false (none 0))
no_place b (false ∷ marks) none = no_place (b + 1) marks (λ m. none (suc m))

-- ---- what stands behind the first

tail_of : (j q x : ℕ) (xs : List ℕ) → x ≢ q → j < length (x ∷ xs) → get_or (x ∷ xs) j q ≡ q → Contains xs q
tail_of zero q x xs apart less is = absurd (apart is)
tail_of (suc j) q x xs apart less is = (j, omega (arith, less), is)

in_tail : (q x : ℕ) (xs : List ℕ) → q ≢ x → Contains (x ∷ xs) q → Contains xs q
in_tail q x xs apart there = tail_of there.0 q x xs (λ same. apart (sym same)) there.1 there.2

same_read : (xs : List ℕ) (k d e : ℕ) → k < length xs → get_or xs k d ≡ get_or xs k e
same_read [] k d e h = absurd (omega (arith, h))
same_read (x ∷ xs) zero d e h = refl
same_read (x ∷ xs) (suc k) d e h = same_read xs k d e (omega (arith, h))

-- ---- a turn of the walk

module _ (events : List Pending) (listed : List ℕ) (k : ℕ) (h : k < length listed) (sorted : IsNonDecreasing listed) (each : HasDeltas events (drop k listed)) where
  abbrev here : ℕ
  here = get_or listed k 0

  from_here : drop k listed ≡ here ∷ drop (k + 1) listed
  from_here = let e : suc k ≡ k + 1 = omega arith in drop-cons listed k 0 h ∙ ap (λ j. here ∷ drop j listed) e

  next : (q : ℕ) → q ≢ here → pending_at events q ≡ pending.Delta → Contains (drop (k + 1) listed) q
  next q apart is = in_tail q here (drop (k + 1) listed) apart (subst (λ xs. Contains xs q) from_here (each q is))

  pub each_passed : is_delta (pending_at events here) ≡ false → HasDeltas events (drop (k + 1) listed)
  each_passed none q is = next q (λ same. no_delta (pending_at events here) none (ap (λ j. pending_at events j) (sym same) ∙ is)) is

  not_less : (q : ℕ) → q < here → Contains (drop k listed) q → ⊥
  not_less q less there =
      let inside : there.0 < length (drop k listed) = there.1 in
      let most : get_or listed k q ≤ get_or listed (k + there.0) q = sorted k (k + there.0) q (omega arith) (omega (arith, inside, length-drop k listed)) in
      let is : get_or (drop k listed) there.0 q ≡ q = there.2 in
      let e : get_or (drop k listed) there.0 q ≡ get_or listed (k + there.0) q = get_or-drop k listed there.0 q in
      let r : get_or listed k q ≡ get_or listed k 0 = same_read listed k q 0 h in
      omega (arith, less, most, is, e, r)

  none_before : (q : ℕ) → q < here → get_or (map is_delta events) q false ≡ false
  none_before q less = mark_at events q ∙ is_none (pending_at events q) (λ is. not_less q less (each q is))

  module _ (there : is_delta (pending_at events here) ≡ true) where
    pub taken_first : marked_places (map is_delta events) ≡ here ∷ marked_places (map is_delta (set events here pending.Nothing))
    taken_first = first_place here (map is_delta events) (mark_at events here ∙ there) none_before ∙ ap (λ ms. here ∷ marked_places ms) (sym (map-set is_delta events here pending.Nothing))

    pub left_same : map (without_pending is_delta) (set events here pending.Nothing) ≡ map (without_pending is_delta) events
    left_same = map-set_same (without_pending is_delta) events here pending.Nothing pending.Nothing (sym (ap (λ b. cond b pending.Nothing (pending_at events here)) there))

    pub each_taken : here < length events → HasDeltas (set events here pending.Nothing) (drop (k + 1) listed)
    each_taken inside q is = ⊎_elim
        (λ same. absurd (let e : pending.Nothing ≡ pending.Delta = sym (ap (λ j. pending_at (set events here pending.Nothing) j) same ∙ get_or-set_same events here pending.Nothing pending.Nothing inside) ∙ is in cc))
        (λ apart. next q apart (sym (get_or-set_other events here q pending.Nothing pending.Nothing apart) ∙ is))
        (cases_eq q here)

-- ---- the end of the walk

module _ (events : List Pending) (listed : List ℕ) (k : ℕ) (past : length listed ≤ k) (each : HasDeltas events (drop k listed)) where
  none_more : (q : ℕ) → is_delta (pending_at events q) ≡ false
  none_more q = is_none (pending_at events q) (λ is.
      let there : Contains [] q = subst (λ xs. Contains xs q) (drop_of_length-le listed past) (each q is) in
      let inside : there.0 < length {A = ℕ} [] = there.1 in
      omega (arith, inside))

  pub places_end : marked_places (map is_delta events) ≡ []
  places_end = no_place 0 (map is_delta events) (λ m. mark_at events m ∙ none_more m)

  pub left_end : map (without_pending is_delta) events ≡ events
  left_end = all_left is_delta events none_more
