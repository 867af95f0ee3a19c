-- The places of instances.
use Rattle.std.proofs.Common.{◌≡◌, ℕ, ◌+◌, ◌^◌, ◌<◌, ◌≤◌, ◌≢◌, false, cond, List, [], ◌∷◌, ◌++◌, length, set, Option, Some, None, refl, sym, ap, ◌∙◌, arith, ⊎_elim}
use Rattle.std.specs.Prelude.{slice_get, ◌==◌}
use Rattle.std.specs.Ordering.{nat_cmp}
use Rattle.std.specs.FinMap as maps
use Rattle.std.specs.FinMap.Entries.{find-put}
use Rattle.std.specs.Cmp.{nat_cmp_total}
use Rattle.std.proofs.lemmas.Bool.{cases_eq}
use Rattle.std.proofs.lemmas.Option.{slice_get_within}
use Rattle.std.proofs.lemmas.List.Sums.{sum_by-append}
use Rattle.numbered_slots.proofs.MapLemmas.{ties_itself, ties_no_other}
use Rattle.room_map.specs.Entries.{without}
use Rattle.wait_lists.specs.declared.layout.Kept.{Kept}
use Rattle.wait_lists.specs.Waits.{without_instance, with_room}
use Rattle.wait_lists.specs.Shown.{Shown, listed, unless, wait_of, mark_of, room_of, shown_at, waits_of}
use Rattle.wait_lists.specs.Layout.{IsSound, Seats, serial_of, shown_by}
use Rattle.wait_lists.proofs.Counted.{times, times-same, times-other}
use Rattle.wait_lists.proofs.Places.{slice_get-set_same, slice_get-set_other}
use Rattle.wait_lists.proofs.Chains.{few-below}
use Rattle.wait_lists.proofs.HeadLemmas.{find-without}
use Rattle.wait_lists.proofs.ByPlace.{without-told, with_room-told}
use Rattle.wait_lists.proofs.Telling.{shown-serial, one_place}
use Rattle.wait_lists.specs.declared.waiter.Waiter.{Waiter}
use Rattle.wait_lists.specs.Chains.{none}
use Rattle.wait_lists.specs.Nodes.{shown_of}
use Rattle.wait_lists.proofs.Refit.{waiter-of, shown-at}
use Rattle.wait_lists.proofs.Rewritten.{some-first}

-- an instance's place is one of a waiter
pub seat-within : (k : Kept) → IsSound k → (p at : ℕ) → maps.find nat_cmp p k.places.entries ≡ Some at → at < length k.waiters.items
seat-within k sound p at place =
    let one = shown-serial (slice_get (shown_by k) at) p (sound.0.seats.placed p at place).0 in
    let w = waiter-of k.nodes.items k.waiters.items at one.0 one.1 in
    slice_get_within k.waiters.items at w.0 w.1

times-append : (q : ℕ) (xs ys : List ℕ) → times q (xs ++ ys) ≡ times q xs + times q ys
times-append q xs ys = sum_by-append (λ x. cond (x == q) 1 0) xs ys

times-last_same : (q : ℕ) (xs : List ℕ) → times q (xs ++ q ∷ []) ≡ times q xs + 1
times-last_same q xs = omega (arith, times-append q xs (q ∷ []), times-same q q [] refl)

times-last_other : (q x : ℕ) (xs : List ℕ) → q ≢ x → times q (xs ++ x ∷ []) ≡ times q xs
times-last_other q x xs apart = omega (arith, times-append q xs (x ∷ []), times-other q x [] (λ e. apart (sym e)))

-- an instance gives its place back
module _ (es fs : List (ℕ × ℕ)) (ss tt : List Shown) (vacant : List ℕ) (seats : Seats es ss vacant) (p at : ℕ) (place : maps.find nat_cmp p es ≡ Some at) (s new : Shown) (here : slice_get ss at ≡ Some s)
    (is : tt ≡ set ss at new) (left : fs ≡ without nat_cmp p es) (room : new.room ≡ 0) where
  found-left : (q j : ℕ) → maps.find nat_cmp q fs ≡ Some j → (q ≢ p) × (maps.find nat_cmp q es ≡ Some j)
  found-left q j found = ⊎_elim
      (λ (e : q ≡ p). let gone : None ≡ Some j = sym (ap (maps.find nat_cmp q) left ∙ find-without p q es ∙ ap (λ b. cond b None (maps.find nat_cmp q es)) (ties_itself q p e)) ∙ found in cc)
      (λ apart. (apart, sym (ap (maps.find nat_cmp q) left ∙ find-without p q es ∙ ap (λ b. cond b None (maps.find nat_cmp q es)) (ties_no_other q p apart)) ∙ found))
      (cases_eq q p)

  stays-found : (q : ℕ) → q ≢ p → maps.find nat_cmp q fs ≡ maps.find nat_cmp q es
  stays-found q apart = ap (maps.find nat_cmp q) left ∙ find-without p q es ∙ ap (λ b. cond b None (maps.find nat_cmp q es)) (ties_no_other q p apart)

  gone-found : maps.find nat_cmp p fs ≡ None
  gone-found = ap (maps.find nat_cmp p) left ∙ find-without p p es ∙ ap (λ b. cond b None (maps.find nat_cmp p es)) (ties_itself p p refl)

  other_place : (q j : ℕ) → q ≢ p → maps.find nat_cmp q es ≡ Some j → j ≢ at
  other_place q j apart found e = apart (one_place ss es seats.placed q p at (found ∙ ap Some e) place)

  read_new : (j : ℕ) → j ≡ at → slice_get tt j ≡ Some new
  read_new j e = ap (λ l. slice_get l j) is ∙ ap (slice_get (set ss at new)) e ∙ slice_get-set_same ss at s new here

  read_other : (j : ℕ) → j ≢ at → slice_get tt j ≡ slice_get ss j
  read_other j apart = ap (λ l. slice_get l j) is ∙ slice_get-set_other ss at j new apart

  none_vacant : times at vacant ≡ 0
  none_vacant = ⊎_elim (λ (e : times at vacant ≡ 0). e) (λ some. absurd ((seats.vacated at (omega (arith, some))).3 p place)) (cases_eq (times at vacant) 0)

  pub seats-left : Seats fs tt (vacant ++ at ∷ [])
  seats-left = record {
    placed = λ q j found.
        let one = found-left q j found in
        let old = seats.placed q j one.1 in
        (ap serial_of (read_other j (other_place q j one.0 one.1)) ∙ old.0, old.1);
    owned = λ j x found some.
        let away : j ≢ at = λ e. let same : Some new ≡ Some x = sym (read_new j e) ∙ found in let alike : new ≡ x = cc in absurd (omega (arith, ap (λ (y : Shown). y.room) alike)) in
        let old = seats.owned j x (sym (read_other j away) ∙ found) some in
        let apart : x.serial ≢ p = λ e. let same : Some j ≡ Some at = sym old ∙ ap (λ q. maps.find nat_cmp q es) e ∙ place in let at_is : j ≡ at = cc in away at_is in
        stays-found x.serial apart ∙ old;
    vacated = λ j empty. ⊎_elim
        (λ (e : j ≡ at). (new, read_new j e, room, λ q found. let one = found-left q j found in other_place q j one.0 one.1 e))
        (λ apart. let one = seats.vacated j (omega (arith, empty, times-last_other j at vacant apart)) in (one.0, read_other j apart ∙ one.1, one.2, λ q found. one.3 q (found-left q j found).1))
        (cases_eq j at);
    apart = λ j. ⊎_elim
        (λ (e : j ≡ at). omega (arith, ap (λ k. times k (vacant ++ at ∷ [])) e, times-last_same at vacant, none_vacant))
        (λ away. omega (arith, times-last_other j at vacant away, seats.apart j))
        (cases_eq j at);
  }

  pub waits-left : waits_of tt fs ≡ without_instance (waits_of ss es) p
  waits-left = without-told ss tt es fs p
      (λ q apart. ap (shown_at tt) (stays-found q apart) ∙ by_place q apart (maps.find nat_cmp q es) refl)
      (ap (shown_at tt) gone-found)
    where
      by_place : (q : ℕ) → q ≢ p → (o : Option ℕ) → maps.find nat_cmp q es ≡ o → shown_at tt o ≡ shown_at ss o
      by_place q apart None found = refl
      by_place q apart (Some j) found = read_other j (other_place q j apart found)

  -- there are fewer vacant places than places
  pub vacant-few : length vacant + 1 ≤ length ss
  vacant-few = omega (
    arith,
    few-below (length ss) (at ∷ vacant)
        (λ j. ⊎_elim (λ (e : at ≡ j). omega (arith, times-same j at vacant e, ap (λ k. times k vacant) (sym e) ∙ none_vacant)) (λ apart. omega (arith, times-other j at vacant apart, seats.apart j)) (cases_eq at j))
        (λ j m. ⊎_elim
        (λ (e : at ≡ j). let inside : at < length ss = slice_get_within ss at s here in omega arith)
        (λ apart. let one = seats.vacated j (omega (arith, times-other j at vacant apart)) in slice_get_within ss j one.0 one.1)
        (cases_eq at j)),
  )

-- an instance gets a place that is vacant
module _ (es fs : List (ℕ × ℕ)) (ss tt : List Shown) (vacant rest : List ℕ) (seats : Seats es ss vacant) (p at : ℕ) (absent : maps.find nat_cmp p es ≡ None) (small : p < 2 ^ 32)
    (last : vacant ≡ rest ++ at ∷ []) (s new : Shown) (here : slice_get ss at ≡ Some s) (is : tt ≡ set ss at new) (put_in : fs ≡ maps.put nat_cmp p at es) (serial : new.serial ≡ p) where
  at_vacant : 1 ≤ times at vacant
  at_vacant = omega (arith, ap (times at) last, times-last_same at rest)

  nobody : (q : ℕ) → maps.find nat_cmp q es ≢ Some at
  nobody = (seats.vacated at at_vacant).3

  find_p : (q : ℕ) → q ≡ p → maps.find nat_cmp q fs ≡ Some at
  find_p q e = ap (maps.find nat_cmp q) put_in ∙ find-put nat_cmp nat_cmp_total q p at es ∙ ap (λ b. cond b (Some at) (maps.find nat_cmp q es)) (ties_itself q p e)

  find_q : (q : ℕ) → q ≢ p → maps.find nat_cmp q fs ≡ maps.find nat_cmp q es
  find_q q apart = ap (maps.find nat_cmp q) put_in ∙ find-put nat_cmp nat_cmp_total q p at es ∙ ap (λ b. cond b (Some at) (maps.find nat_cmp q es)) (ties_no_other q p apart)

  now_new : (j : ℕ) → j ≡ at → slice_get tt j ≡ Some new
  now_new j e = ap (λ l. slice_get l j) is ∙ ap (slice_get (set ss at new)) e ∙ slice_get-set_same ss at s new here

  now_other : (j : ℕ) → j ≢ at → slice_get tt j ≡ slice_get ss j
  now_other j apart = ap (λ l. slice_get l j) is ∙ slice_get-set_other ss at j new apart

  not_at : (q j : ℕ) → maps.find nat_cmp q es ≡ Some j → j ≢ at
  not_at q j found e = nobody q (found ∙ ap Some e)

  rest-of : (j : ℕ) → times j rest ≤ times j vacant
  rest-of j = omega (arith, ap (times j) last, times-append j rest (at ∷ []))

  rest-at : times at rest ≡ 0
  rest-at = omega (arith, ap (times at) last, times-last_same at rest, seats.apart at)

  pub seats-taken : Seats fs tt rest
  seats-taken = record {
    placed = λ q j found. ⊎_elim
        (λ (e : q ≡ p). let same : Some at ≡ Some j = sym (find_p q e) ∙ found in let j_is : j ≡ at = cc in
        (ap serial_of (now_new j j_is) ∙ ap Some (serial ∙ sym e), omega arith))
        (λ apart. let old = sym (find_q q apart) ∙ found in let one = seats.placed q j old in (ap serial_of (now_other j (not_at q j old)) ∙ one.0, one.1))
        (cases_eq q p);
    owned = λ j x found some. ⊎_elim
        (λ (e : j ≡ at). let same : Some new ≡ Some x = sym (now_new j e) ∙ found in let alike : new ≡ x = cc in
        find_p x.serial (sym (ap (λ (y : Shown). y.serial) alike) ∙ serial) ∙ ap Some (sym e))
        (λ away.
        let old = seats.owned j x (sym (now_other j away) ∙ found) some in
        let apart : x.serial ≢ p = λ e. let no : None ≡ Some j = sym absent ∙ ap (λ q. maps.find nat_cmp q es) (sym e) ∙ old in cc in
        find_q x.serial apart ∙ old)
        (cases_eq j at);
    vacated = λ j empty.
        let one = seats.vacated j (omega (arith, empty, rest-of j)) in
        let away : j ≢ at = λ e. absurd (omega (arith, empty, ap (λ k. times k rest) e, rest-at)) in (
          one.0,
          now_other j away ∙ one.1,
          one.2,
          λ q found. ⊎_elim
              (λ (e : q ≡ p). let same : Some at ≡ Some j = sym (find_p q e) ∙ found in let j_is : j ≡ at = cc in away j_is)
              (λ apart. one.3 q (sym (find_q q apart) ∙ found))
              (cases_eq q p),
        );
    apart = λ j. omega (arith, rest-of j, seats.apart j);
  }

  pub waits-taken : (items : ℕ) → new.room ≡ items → new.events ≡ [] → new.mark ≡ false → new.for_all ≡ false → new.over ≡ false → waits_of tt fs ≡ with_room (waits_of ss es) p items
  waits-taken items room events mark kind over = with_room-told ss tt es fs p
      (λ q apart. ap (shown_at tt) (find_q q apart) ∙ by_place q (maps.find nat_cmp q es) refl) items
      (ap room_of told_new ∙ ap Some room)
      (ap wait_of told_new ∙ (λ i. unless (over i) (listed (kind i) (events i))) ∙ sym (ap wait_of told_old))
      (ap mark_of told_new ∙ mark ∙ sym (ap mark_of told_old))
    where
      by_place : (q : ℕ) → (o : Option ℕ) → maps.find nat_cmp q es ≡ o → shown_at tt o ≡ shown_at ss o
      by_place q None found = refl
      by_place q (Some j) found = now_other j (not_at q j found)

      told_new : shown_at tt (maps.find nat_cmp p fs) ≡ Some new
      told_new = ap (shown_at tt) (find_p p refl) ∙ now_new at refl

      told_old : shown_at ss (maps.find nat_cmp p es) ≡ None
      told_old = ap (shown_at ss) absent

-- a vacant place is one of a waiter without room, whose list is empty
pub vacant-waiter : (k : Kept) → IsSound k → (rest : List ℕ) (at : ℕ) → k.vacant.items ≡ rest ++ at ∷ [] → (w : Waiter) × (slice_get k.waiters.items at ≡ Some w) × (w.room ≡ 0) × (w.first ≡ none)
vacant-waiter k sound rest at last =
    let one = sound.0.seats.vacated at (omega (arith, ap (times at) last, times-last_same at rest)) in
    let w = waiter-of k.nodes.items k.waiters.items at one.0 one.1 in
    let room : w.0.room ≡ 0 = sym (ap (λ (s : Shown). s.room) w.2) ∙ one.2 in
    let held : length (shown_of k.nodes.items w.0).events ≤ w.0.room = sound.0.sums.fits at (shown_of k.nodes.items w.0) (shown-at k.nodes.items k.waiters.items at w.0 w.1) in
    (w.0, w.1, room, ⊎_elim (λ (e : w.0.first ≡ none). e) (λ some. absurd (omega (arith, some-first k sound.0 at w.0 w.1 some))) (cases_eq w.0.first none))

-- at an instance's place stands its waiter
pub seat-serial : (k : Kept) → IsSound k → (p at : ℕ) → maps.find nat_cmp p k.places.entries ≡ Some at → (s : Shown) → slice_get (shown_by k) at ≡ Some s → s.serial ≡ p
seat-serial k sound p at place s here = let same : Some s.serial ≡ Some p = sym (ap serial_of here) ∙ (sound.0.seats.placed p at place).0 in cc
