-- The list of the signals that asked for an update: what a write makes of it, and that in rising order it is what the marks say.
use Rattle.std.proofs.Common.{◌≡◌, ◌≢◌, ◌<◌, ◌≤◌, ◌+◌, ℕ, zero, suc, Bool, true, false, cond, List, [], ◌∷◌, ◌++◌, map, length, get_or, set, replicate, slice_get, count_by, refl, sym, ap, ◌∙◌, subst, ⊎_elim, arith, true≢false}
use Rattle.std.specs.Prelude.{◌==◌, vec_len, vec_capacity}
use Rattle.std.specs.Global.{Vec}
use Rattle.std.specs.List.Sorted.{IsNonDecreasing, IsPermutation}
use Rattle.std.proofs.lemmas.Bool.{cases_eq, cases_lt, eq-eqb, ne_eqb}
use Rattle.std.proofs.lemmas.List.{map-set, set-get_or, length-set, length-map, length-append, length-replicate, get_or-set_same, get_or-set_other, get_or_past}
use Rattle.std.proofs.lemmas.List.Folds.{sum_by-replicate}
use Rattle.std.proofs.lemmas.List.Sorted.{sum_by-IsPermutation}
use Rattle.std.proofs.lemmas.List.Sums.{sum_by-cons, sum_by_push, sum_by-set, count_by-le-length}
use Rattle.kernel_events.specs.NumberedSlots.Places.{places_from, marked_places}
use Rattle.kernel_events.specs.SignalChannel.Signals.{settled}
use Rattle.kernel_events.specs.SignalChannel.declared.signal.Signal.{Signal}
use Rattle.kernel_events.specs.FlatDesign.declared.design.SignalPart.{SignalPart}
use Rattle.kernel_events.specs.SimModel.Configuration.{first_signal}
use Rattle.kernel_channels.specs.UpdateMarks.{Rests, ListsAsked, IsSignals, asked_at, asked_of, listed_with}
use Rattle.kernel_channels.proofs.Resting.{rests_set}

-- ---- how often a number stands in a list

abbrev times : ℕ → List ℕ → ℕ
times n xs = count_by (λ x. x == n) xs

times-here : (n : ℕ) (xs : List ℕ) → times n (n ∷ xs) ≡ 1 + times n xs
times-here n xs = sum_by-cons (λ x. cond (x == n) 1 0) n xs ∙ ap (λ b. cond b 1 0 + times n xs) (eq-eqb n n refl)

times-there : (n x : ℕ) (xs : List ℕ) → n ≢ x → times n (x ∷ xs) ≡ times n xs
times-there n x xs apart =
    let e = ap (λ b. cond b 1 0 + times n xs) (ne_eqb x n (λ same. apart (sym same))) in
    omega (arith, sum_by-cons (λ y. cond (y == n) 1 0) x xs, e)

times-pushed : (n : ℕ) (xs : List ℕ) → times n (xs ++ n ∷ []) ≡ times n xs + 1
times-pushed n xs = sum_by_push (λ x. cond (x == n) 1 0) xs n ∙ ap (λ b. times n xs + cond b 1 0) (eq-eqb n n refl)

times-push_other : (n x : ℕ) (xs : List ℕ) → n ≢ x → times n (xs ++ x ∷ []) ≡ times n xs
times-push_other n x xs apart =
    let e = ap (λ b. times n xs + cond b 1 0) (ne_eqb x n (λ same. apart (sym same))) in
    omega (arith, sum_by_push (λ y. cond (y == n) 1 0) xs x, e)

none_less : (m : ℕ) (xs : List ℕ) → ((j : ℕ) → j < length xs → m < get_or xs j 0) → times m xs ≡ 0
none_less m [] above = refl
none_less m (x ∷ xs) above =
    let h : m < x = above 0 (omega arith) in
    times-there m x xs (λ same. absurd (omega (arith, same, h))) ∙ none_less m xs (λ j g. above (suc j) (omega (arith, g)))

abbrev one_if : Bool → ℕ
one_if b = cond b 1 0

yes : (b : Bool) → 1 ≤ one_if b → b ≡ true
yes true h = refl
yes false h = absurd (omega (arith, h))

no : (b : Bool) → one_if b ≡ 0 → b ≡ false
no true h = absurd (omega (arith, h))
no false h = refl

at_most_one : (b : Bool) → one_if b ≤ 1
at_most_one true = omega arith
at_most_one false = omega arith

-- ---- the first of the marked places, and no place

first_from : (b n : ℕ) (marks : List Bool) → get_or marks n false ≡ true → ((m : ℕ) → m < n → get_or marks m false ≡ false)
    → places_from b marks ≡ (b + n) ∷ places_from b (set marks n false)
first_from b n [] there below = absurd (true≢false (sym there))
first_from b zero (true ∷ marks) there below = let e : b ≡ b + 0 = omega arith in ap (λ m. m ∷ places_from (b + 1) marks) e
first_from b zero (false ∷ marks) there below = absurd (true≢false (sym there))
first_from b (suc n) (true ∷ marks) there below = absurd (true≢false (below 0 (omega arith)))
first_from b (suc n) (false ∷ marks) there below =
    let e : b + 1 + n ≡ b + suc n = omega arith in
    first_from (b + 1) n marks there (λ m h. below (suc m) (omega (arith, h))) ∙ ap (λ m. m ∷ places_from (b + 1) (set marks n false)) e

first_place : (n : ℕ) (marks : List Bool) → get_or marks n false ≡ true → ((m : ℕ) → m < n → get_or marks m false ≡ false)
    → marked_places marks ≡ n ∷ marked_places (set marks n false)
first_place n marks there below = let e : 0 + n ≡ n = omega arith in first_from 0 n marks there below ∙ ap (λ m. m ∷ marked_places (set marks n false)) e

no_place : (b : ℕ) (marks : List Bool) → ((m : ℕ) → get_or marks m false ≡ false) → places_from b marks ≡ []
no_place b [] none = refl
no_place b (true ∷ marks) none = absurd (true≢false (none 0))
no_place b (false ∷ marks) none = no_place (b + 1) marks (λ m. none (suc m))

-- ---- a list in rising order that has each marked number once

within : (marks : List Bool) (n : ℕ) → get_or marks n false ≡ true → n < length marks
within marks n there = ⊎_elim (λ h. h) (λ past. absurd (true≢false (sym there ∙ get_or_past marks n false past))) (cases_lt n (length marks))

module _ (marks : List Bool) (n : ℕ) (rest : List ℕ) (once : (p : ℕ) → times p (n ∷ rest) ≡ one_if (get_or marks p false)) where
  first_marked : get_or marks n false ≡ true
  first_marked = yes (get_or marks n false) (omega (arith, times-here n rest, once n))

  not_again : times n rest ≡ 0
  not_again = omega (arith, times-here n rest, once n, at_most_one (get_or marks n false))

  once_more : (p : ℕ) → times p rest ≡ one_if (get_or (set marks n false) p false)
  once_more p = ⊎_elim
      (λ same. ap (λ q. times q rest) same ∙ not_again
      ∙ sym (ap one_if (ap (λ q. get_or (set marks n false) q false) same ∙ get_or-set_same marks n false false (within marks n first_marked))))
      (λ apart. sym (times-there p n rest apart) ∙ once p ∙ sym (ap one_if (get_or-set_other marks n p false false apart)))
      (cases_eq p n)

places_are : (marks : List Bool) (ns : List ℕ) → IsNonDecreasing ns → ((p : ℕ) → times p ns ≡ one_if (get_or marks p false)) → ns ≡ marked_places marks
places_are marks [] sorted once = sym (no_place 0 marks (λ m. no (get_or marks m false) (sym (once m))))
places_are marks (n ∷ ns) sorted once =
    ap (λ xs. n ∷ xs) (places_are (set marks n false) ns (λ i j d le less. sorted (suc i) (suc j) d (omega (arith, le)) (omega (arith, less))) (once_more marks n ns once))
    ∙ sym (first_place n marks (first_marked marks n ns once) (λ m less. no (get_or marks m false) (sym (once m) ∙ none_less m (n ∷ ns) (λ j h.
    let most : n ≤ get_or (n ∷ ns) j 0 = sorted 0 j 0 (omega arith) h in
    omega (arith, most, less)))))

pub asked_are : (marks : List Bool) (asked : Vec ℕ) (sorted ns : List ℕ) → ListsAsked marks asked → IsNonDecreasing sorted → IsPermutation asked.items sorted → ns ≡ sorted → ns ≡ marked_places marks
asked_are marks asked sorted ns lists rises moved is =
    is ∙ places_are marks sorted rises (λ p. sum_by-IsPermutation (λ x. cond (x == p) 1 0) asked.items sorted moved ∙ lists.once p)

-- ---- where none asked

none_marked : (k n : ℕ) → get_or (replicate k false) n false ≡ false
none_marked zero n = refl
none_marked (suc k) zero = refl
none_marked (suc k) (suc n) = none_marked k n

none_counted : (k : ℕ) → count_by (λ mark. mark) (replicate k false) ≡ 0
none_counted k = sum_by-replicate (λ mark. cond mark 1 0) k false ∙ omega arith

pub lists_none : (k : ℕ) (listed : Vec ℕ) → listed.items ≡ [] → k ≤ vec_capacity listed → ListsAsked (replicate k false) listed
lists_none k listed none room = record {
  once = λ p. ap (λ xs. times p xs) none ∙ sym (ap one_if (none_marked k p));
  as_many = ap (λ (xs : List ℕ). length xs) none ∙ sym (none_counted k);
  room = omega (arith, room, length-replicate k false);
}

pub first_asked : (ps : List SignalPart) → asked_of (map first_signal ps) ≡ replicate (length ps) false
first_asked [] = refl
first_asked (p ∷ ps) = ap (λ bs. false ∷ bs) (first_asked ps)

pub none_asked : (ss : List Signal) → asked_of (map settled ss) ≡ replicate (length ss) false
none_asked [] = refl
none_asked (s ∷ ss) = ap (λ bs. false ∷ bs) (none_asked ss)

-- ---- a number more

module _ (marks : List Bool) (listed : Vec ℕ) (lists : ListsAsked marks listed) (n : ℕ) (h : n < length marks) where
  one_more : count_by (λ mark. mark) (set marks n true) + one_if (get_or marks n false) ≡ count_by (λ mark. mark) marks + 1
  one_more = sum_by-set (λ mark. cond mark 1 0) marks n true false h

  room_to_list : get_or marks n false ≡ false → length listed.items < vec_capacity listed
  room_to_list none =
      let not_yet : one_if (get_or marks n false) ≡ 0 = ap one_if none in
      let room = lists.room in
      let many = lists.as_many in
      omega (arith, not_yet, room, many, one_more, count_by-le-length (λ mark. mark) (set marks n true), length-set marks n true)

  listed_then : (had : Bool) (listed' : Vec ℕ) → had ≡ get_or marks n false → listed'.items ≡ listed_with had n listed.items → vec_capacity listed' ≡ vec_capacity listed
      → ListsAsked (set marks n true) listed'
  listed_then true listed' is items same = subst (λ ms. ListsAsked ms listed') (sym again) (record {
    once = λ p. ap (λ xs. times p xs) items ∙ lists.once p;
    as_many = ap (λ (xs : List ℕ). length xs) items ∙ lists.as_many;
    room = let room = lists.room in omega (arith, room, same);
  })
    where
      again : set marks n true ≡ marks
      again = ap (λ b. set marks n b) is ∙ set-get_or marks n false
  listed_then false listed' is items same = record {
    once = λ p. ap (λ xs. times p xs) items ∙ ⊎_elim
        (λ e. ap (λ q. times q (listed.items ++ n ∷ [])) e ∙ times-pushed n listed.items ∙ ap (λ k. k + 1) (lists.once n ∙ ap one_if (sym is))
        ∙ sym (ap one_if (ap (λ q. get_or (set marks n true) q false) e ∙ get_or-set_same marks n true false h)))
        (λ apart. times-push_other p n listed.items apart ∙ lists.once p ∙ sym (ap one_if (get_or-set_other marks n p true false apart)))
        (cases_eq p n);
    as_many =
        let not_yet : one_if (get_or marks n false) ≡ 0 = ap one_if (sym is) in
        let many = lists.as_many in
        let longer : length listed'.items ≡ length (listed.items ++ n ∷ []) = ap (λ (xs : List ℕ). length xs) items in
        omega (arith, longer, length-append listed.items (n ∷ []), many, one_more, not_yet);
    room = let room = lists.room in omega (arith, room, same, length-set marks n true);
  }

-- ---- a signal that is written

asked_there : (ss : List Signal) (n : ℕ) → asked_at (slice_get ss n) ≡ get_or (asked_of ss) n false
asked_there [] zero = refl
asked_there [] (suc n) = refl
asked_there (s ∷ ss) zero = refl
asked_there (s ∷ ss) (suc n) = asked_there ss n

module _ (ss : List Signal) (asked : Vec ℕ) (changes : List Bool) (sound : IsSignals ss asked changes) (n : ℕ) (h : n < length ss) (had : Bool) (is : had ≡ asked_at (slice_get ss n)) where
  marks_there : n < length (asked_of ss)
  marks_there = omega (arith, h, length-map ss (λ (s : Signal). s.asked))

  pub room_to_ask : had ≡ false → vec_len asked < vec_capacity asked
  room_to_ask none =
      let room = room_to_list (asked_of ss) asked sound.lists n marks_there (sym (is ∙ asked_there ss n) ∙ none) in
      omega (arith, room, asked.ok.0)

  pub signals_written : (y : Signal) → y.asked ≡ true → (asked' : Vec ℕ) → asked'.items ≡ listed_with had n asked.items → vec_capacity asked' ≡ vec_capacity asked → IsSignals (set ss n y) asked' changes
  signals_written y asks asked' items room =
      let marks : asked_of (set ss n y) ≡ set (asked_of ss) n true = map-set (λ (s : Signal). s.asked) ss n y ∙ ap (λ b. set (asked_of ss) n b) asks in
      record {
        rests = subst (λ bs. Rests settled (set ss n y) bs) (sym marks) (rests_set settled ss (asked_of ss) n y sound.rests);
        lists = subst (λ bs. ListsAsked bs asked') (sym marks) (listed_then (asked_of ss) asked sound.lists n marks_there had asked' (is ∙ asked_there ss n) items room);
        changed = sound.changed ∙ sym (length-set ss n y);
      }
