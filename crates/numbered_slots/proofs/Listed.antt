-- Flags, and the list of the numbers whose flag is not free.
use Rattle.std.proofs.Common.{◌≡◌, ℕ, suc, ◌≢◌, ◌+◌, ◌<◌, ◌≤◌, Bool, true, false, cond, List, [], ◌∷◌, ◌++◌, length, get_or, set, drop, replicate, slice_get, unwrap_or, count_by, refl, sym, ap, ◌∙◌, subst, ⊎_elim, arith, true≢false}
use Rattle.std.specs.Prelude.{◌==◌}
use Rattle.std.specs.List.Sorted.{IsNonDecreasing}
use Rattle.std.proofs.Math.ListN.{get_or-map, drop_of_length-le}
use Rattle.std.proofs.Math.Seq.{drop-cons, map-set_same}
use Rattle.std.proofs.lemmas.Bool.{cases_eq, cases_lt, eq-eqb, ne_eqb}
use Rattle.std.proofs.lemmas.List.{map-set, nil_from_length, length-map, length-replicate, get_or-replicate, get_or-set_same, get_or-set_other, get_or_past, get_or-drop, ext_get_or, length-drop}
use Rattle.std.proofs.lemmas.List.Folds.{sum_by-replicate}
use Rattle.std.proofs.lemmas.List.Sums.{sum_by-cons, sum_by_push}
use Rattle.std.proofs.lemmas.Option.{unwrap_or-slice_get}
use Rattle.numbered_slots.specs.declared.flags.Flag.{Flag}
use Rattle.numbered_slots.specs.declared.flags.Flag.TheVariants.{Free, Marked, Struck}
use Rattle.numbered_slots.specs.MarkLayout.{is_marked, is_listed, marks_of, ListsEachOnce}
use Rattle.numbered_slots.specs.Places.{marked_places}
use Rattle.numbered_slots.proofs.Places.{first_place, length-marked_places}

-- how often n stands in the list
abbrev pub times : ℕ → List ℕ → ℕ
times n xs = count_by (λ x. x == n) xs

pub times-here : (n : ℕ) (xs : List ℕ) → times n (n ∷ xs) ≡ 1 + times n xs
times-here n xs = sum_by-cons (λ x. cond (x == n) 1 0) n xs ∙ ap (λ b. cond b 1 0 + times n xs) (eq-eqb n n refl)

pub times-there : (n x : ℕ) (xs : List ℕ) → n ≢ x → times n (x ∷ xs) ≡ times n xs
times-there n x xs apart =
    let e = ap (λ b. cond b 1 0 + times n xs) (ne_eqb x n (λ same. apart (sym same))) in
    omega (arith, sum_by-cons (λ y. cond (y == n) 1 0) x xs, e)

pub times-pushed : (n : ℕ) (xs : List ℕ) → times n (xs ++ n ∷ []) ≡ times n xs + 1
times-pushed n xs = sum_by_push (λ x. cond (x == n) 1 0) xs n ∙ ap (λ b. times n xs + cond b 1 0) (eq-eqb n n refl)

pub times-push_other : (n x : ℕ) (xs : List ℕ) → n ≢ x → times n (xs ++ x ∷ []) ≡ times n xs
times-push_other n x xs apart =
    let e = ap (λ b. times n xs + cond b 1 0) (ne_eqb x n (λ same. apart (sym same))) in
    omega (arith, sum_by_push (λ y. cond (y == n) 1 0) xs x, e)

-- how often what is listed, or marked, counts
abbrev pub one_if : Bool → ℕ
one_if b = cond b 1 0

yes : (b : Bool) → 1 ≤ one_if b → b ≡ true
yes true h = refl
yes false h = absurd (omega (arith, h))

at_most_one : (b : Bool) → one_if b ≤ 1
at_most_one true = omega arith
at_most_one false = omega arith

free_one : (f : Flag) → one_if (is_listed f) ≡ 0 → f ≡ Free
free_one Free h = refl
free_one Marked h = absurd (omega (arith, h))
free_one Struck h = absurd (omega (arith, h))

-- a flag that is not free is that of a number below the size
pub within : (flags : List Flag) (n : ℕ) → is_listed (get_or flags n Free) ≡ true → n < length flags
within flags n there = ⊎_elim (λ h. h) (λ past. absurd (true≢false (sym there ∙ ap is_listed (get_or_past flags n Free past)))) (cases_lt n (length flags))

-- ---- the list, and it without its first

module _ (flags : List Flag) (n : ℕ) (rest : List ℕ) (lists : ListsEachOnce flags (n ∷ rest)) where
  pub head_listed : is_listed (get_or flags n Free) ≡ true
  head_listed = yes (is_listed (get_or flags n Free)) (omega (arith, times-here n rest, lists.once n))

  pub head_within : n < length flags
  head_within = within flags n head_listed

  not_again : times n rest ≡ 0
  not_again = omega (arith, times-here n rest, lists.once n, at_most_one (is_listed (get_or flags n Free)))

  pub freed : ListsEachOnce (set flags n Free) rest
  freed = record {
    once = λ p. ⊎_elim
        (λ same. ap (λ q. times q rest) same ∙ not_again ∙ sym (ap (λ f. cond (is_listed f) 1 0) (ap (λ q. get_or (set flags n Free) q Free) same ∙ get_or-set_same flags n Free Free head_within)))
        (λ apart. sym (times-there p n rest apart) ∙ lists.once p ∙ sym (ap (λ f. cond (is_listed f) 1 0) (get_or-set_other flags n p Free Free apart)))
        (cases_eq p n);
  }

pub all_free : (flags : List Flag) → ListsEachOnce flags [] → flags ≡ replicate (length flags) Free
all_free flags lists = ext_get_or Free flags (replicate (length flags) Free) (sym (length-replicate (length flags) Free))
    (λ i h. free_one (get_or flags i Free) (sym (lists.once i)) ∙ sym (get_or-replicate (length flags) i Free Free h))

-- ---- the least of the listed

none_less : (m : ℕ) (xs : List ℕ) → ((j : ℕ) → j < length xs → m < get_or xs j 0) → times m xs ≡ 0
none_less m [] above = refl
none_less m (x ∷ xs) above =
    let h : m < x = above 0 (omega arith) in
    times-there m x xs (λ same. absurd (omega (arith, same, h))) ∙ none_less m xs (λ j g. above (suc j) (omega (arith, g)))

-- where the numbers do not fall, none that is less than the k-th stands from place k on
pub none_less_from : (xs : List ℕ) (k m : ℕ) → IsNonDecreasing xs → m < get_or xs k 0 → times m (drop k xs) ≡ 0
none_less_from xs k m sorted h = none_less m (drop k xs) (λ j g.
    let e : get_or (drop k xs) j 0 ≡ get_or xs (k + j) 0 = get_or-drop k xs j 0 in
    let most : get_or xs k 0 ≤ get_or xs (k + j) 0 = sorted k (k + j) 0 (omega arith) (omega (arith, g, length-drop k xs)) in
    omega (arith, h, e, most))

no_mark : (f : Flag) → one_if (is_listed f) ≡ 0 → is_marked f ≡ false
no_mark Free h = refl
no_mark Marked h = absurd (omega (arith, h))
no_mark Struck h = refl

pub mark_at : (flags : List Flag) (n : ℕ) → get_or (marks_of flags) n false ≡ is_marked (get_or flags n Free)
mark_at flags n = get_or-map is_marked flags n Free

pub mark_told : (flags : List Flag) (n : ℕ) (told : Bool) → told ≡ unwrap_or (slice_get (marks_of flags) n) false → is_marked (get_or flags n Free) ≡ told
mark_told flags n told is = sym (is ∙ unwrap_or-slice_get (marks_of flags) n false ∙ mark_at flags n)

marked_one : (f : Flag) → is_marked f ≡ true → f ≡ Marked
marked_one Free h = absurd (true≢false (sym h))
marked_one Marked h = refl
marked_one Struck h = absurd (true≢false (sym h))

pub where_marked : (flags : List Flag) (n : ℕ) → get_or (marks_of flags) n false ≡ true → (n < length flags) × (get_or flags n Free ≡ Marked)
where_marked flags n there =
    let is : get_or flags n Free ≡ Marked = marked_one (get_or flags n Free) (sym (mark_at flags n) ∙ there) in
    (within flags n (ap is_listed is), is)

-- what is not listed is not marked
pub unmarked : (flags : List Flag) (xs : List ℕ) (m : ℕ) → ListsEachOnce flags xs → times m xs ≡ 0 → get_or (marks_of flags) m false ≡ false
unmarked flags xs m lists none = mark_at flags m ∙ no_mark (get_or flags m Free) (sym (lists.once m) ∙ none)

-- ---- a step of the move

module _ (flags : List Flag) (n : ℕ) where
  -- n is marked, and none below it
  pub moved_one : is_marked (get_or flags n Free) ≡ true → ((m : ℕ) → m < n → get_or (marks_of flags) m false ≡ false)
      → marked_places (marks_of flags) ≡ n ∷ marked_places (marks_of (set flags n Free))
  moved_one there below = first_place n (marks_of flags) (mark_at flags n ∙ there) below ∙ ap (λ ms. n ∷ marked_places ms) (sym (map-set is_marked flags n Free))

  pub moved_none : is_marked (get_or flags n Free) ≡ false → marks_of (set flags n Free) ≡ marks_of flags
  moved_none none = map-set_same is_marked flags n Free Free (sym none)

-- ---- a turn of a loop over the list

module _ (flags : List Flag) (listed : List ℕ) (k : ℕ) (h : k < length listed) (lists : ListsEachOnce flags (drop k listed)) where
  from_next : ListsEachOnce flags (get_or listed k 0 ∷ drop (k + 1) listed)
  from_next =
      let e : suc k ≡ k + 1 = omega arith in
      subst (λ xs. ListsEachOnce flags xs) (drop-cons listed k 0 h ∙ ap (λ j. get_or listed k 0 ∷ drop j listed) e) lists

  pub next_within : get_or listed k 0 < length flags
  next_within = head_within flags (get_or listed k 0) (drop (k + 1) listed) from_next

  pub next_freed : ListsEachOnce (set flags (get_or listed k 0) Free) (drop (k + 1) listed)
  next_freed = freed flags (get_or listed k 0) (drop (k + 1) listed) from_next

  pub none_marked_below : IsNonDecreasing listed → (m : ℕ) → m < get_or listed k 0 → get_or (marks_of flags) m false ≡ false
  none_marked_below sorted m less = unmarked flags (drop k listed) m lists (none_less_from listed k m sorted less)

pub free_at_end : (flags : List Flag) (listed : List ℕ) (k : ℕ) → length listed ≤ k → ListsEachOnce flags (drop k listed) → flags ≡ replicate (length flags) Free
free_at_end flags listed k past lists = all_free flags (subst (λ xs. ListsEachOnce flags xs) (drop_of_length-le listed past) lists)

-- ---- where all flags are free

pub marks_of_free : (n : ℕ) → marks_of (replicate n Free) ≡ replicate n false
marks_of_free n =
    let size : length (marks_of (replicate n Free)) ≡ n = length-map (replicate n Free) is_marked ∙ length-replicate n Free in
    ext_get_or false (marks_of (replicate n Free)) (replicate n false) (size ∙ sym (length-replicate n false)) (λ i h.
    let below : i < n = omega (arith, h, size) in
    mark_at (replicate n Free) i ∙ ap is_marked (get_or-replicate n i Free Free below) ∙ sym (get_or-replicate n i false false below))

pub no_count : (n : ℕ) → count_by (λ mark. mark) (marks_of (replicate n Free)) ≡ 0
no_count n = ap (λ ms. count_by (λ mark. mark) ms) (marks_of_free n) ∙ sum_by-replicate (λ mark. cond mark 1 0) n false ∙ omega arith

pub no_places : (n : ℕ) → marked_places (marks_of (replicate n Free)) ≡ []
no_places n = nil_from_length (marked_places (marks_of (replicate n Free))) (length-marked_places (marks_of (replicate n Free)) ∙ no_count n)
