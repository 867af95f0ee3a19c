-- What is kept stays sound when a mark is set or taken back.
use Rattle.std.proofs.Common.{◌≡◌, ℕ, ◌+◌, ◌-◌, ◌<◌, ◌≤◌, ◌^◌, Bool, true, false, cond, List, [], ◌∷◌, ◌++◌, length, get_or, set, replicate, slice_get, unwrap_or, Some, None, vec_items, vec_len, count_by, refl, sym, ap, ◌∙◌, subst, ⊎_elim, arith}
use Rattle.std.specs.Prelude.{◌==◌}
use Rattle.std.proofs.lemmas.Bool.{cases_eq, cases_lt, eqb-true}
use Rattle.std.specs.List.Sorted.{IsPermutation}
use Rattle.std.specs.Global.{Vec}
use Rattle.std.specs.Vec.{with_items}
use Rattle.std.proofs.lemmas.List.{nil_from_length, map-set, length-set, length-replicate, get_or-replicate, get_or_past, set_past, set-get_or, with_items_is, length-map, length-append, get_or-set_same, get_or-set_other}
use Rattle.std.proofs.lemmas.List.Folds.{sum_by-replicate}
use Rattle.std.proofs.lemmas.List.Sorted.{sum_by-IsPermutation}
use Rattle.std.proofs.lemmas.List.Sums.{sum_by-set, count_by-le-length}
use Rattle.std.proofs.lemmas.Option.{slice_get-get_or, unwrap_or-slice_get}
use Rattle.numbered_slots.specs.declared.flags.Flag.{Flag}
use Rattle.numbered_slots.specs.declared.flags.Flag.TheVariants.{Free, Marked, Struck}
use Rattle.numbered_slots.specs.MarkLayout.{is_marked, is_listed, marks_of, ListsEachOnce, IsSound}
use Rattle.numbered_slots.specs.Places.{marked_places}
use Rattle.numbered_slots.proofs.Listed.{times, times-pushed, times-push_other, one_if, mark_at, marks_of_free, no_count, no_places, all_free}

module _ (flags : List Flag) (n : ℕ) (h : n < length flags) (f : Flag) where
  -- how many are marked and how many are listed, after the flag of n has changed
  marks_changed : count_by (λ mark. mark) (marks_of (set flags n f)) + one_if (is_marked (get_or flags n Free)) ≡ count_by (λ mark. mark) (marks_of flags) + one_if (is_marked f)
  marks_changed =
      let inside : n < length (marks_of flags) = omega (arith, h, length-map flags is_marked) in
      ap (λ ms. count_by (λ mark. mark) ms + cond (is_marked (get_or flags n Free)) 1 0) (map-set is_marked flags n f)
      ∙ ap (λ b. count_by (λ mark. mark) (set (marks_of flags) n (is_marked f)) + cond b 1 0) (sym (mark_at flags n))
      ∙ sum_by-set (λ mark. cond mark 1 0) (marks_of flags) n (is_marked f) false inside

  listed_changed : count_by is_listed (set flags n f) + one_if (is_listed (get_or flags n Free)) ≡ count_by is_listed flags + one_if (is_listed f)
  listed_changed = sum_by-set (λ g. cond (is_listed g) 1 0) flags n f Free h

  flag_here : get_or (set flags n f) n Free ≡ f
  flag_here = get_or-set_same flags n f Free h

  lists_same : (xs : List ℕ) → is_listed f ≡ is_listed (get_or flags n Free) → ListsEachOnce flags xs → ListsEachOnce (set flags n f) xs
  lists_same xs same lists = record {
    once = λ p. ⊎_elim
        (λ e. lists.once p ∙ ap (λ b. cond b 1 0) (ap (λ q. is_listed (get_or flags q Free)) e ∙ sym same ∙ ap is_listed (sym flag_here ∙ ap (λ q. get_or (set flags n f) q Free) (sym e))))
        (λ apart. lists.once p ∙ ap (λ g. cond (is_listed g) 1 0) (sym (get_or-set_other flags n p f Free apart)))
        (cases_eq p n);
  }

  lists_more : (xs : List ℕ) → is_listed (get_or flags n Free) ≡ false → is_listed f ≡ true → ListsEachOnce flags xs → ListsEachOnce (set flags n f) (xs ++ n ∷ [])
  lists_more xs not_yet now lists = record {
    once = λ p. ⊎_elim
        (λ e. ap (λ q. times q (xs ++ n ∷ [])) e ∙ times-pushed n xs ∙ ap (λ k. k + 1) (lists.once n ∙ ap (λ b. cond b 1 0) not_yet)
        ∙ ap (λ b. cond b 1 0) (sym now) ∙ ap (λ g. cond (is_listed g) 1 0) (sym flag_here ∙ ap (λ q. get_or (set flags n f) q Free) (sym e)))
        (λ apart. times-push_other p n xs apart ∙ lists.once p ∙ ap (λ g. cond (is_listed g) 1 0) (sym (get_or-set_other flags n p f Free apart)))
        (cases_eq p n);
  }

-- where a number is not listed there is room to list it, and where one is not marked the count may rise
module _ (flags : List Flag) (xs : List ℕ) (room marked : ℕ) (sound : IsSound flags xs room marked) (n : ℕ) (h : n < length flags) where
  abbrev flag : Flag
  flag = get_or flags n Free

  pub room_to_list : flag ≡ Free → length xs < room
  room_to_list is =
      let none : one_if (is_listed flag) ≡ 0 = ap (λ g. cond (is_listed g) 1 0) is in
      omega (arith, sound.as_many, sound.enough, none, listed_changed flags n h Marked, count_by-le-length is_listed (set flags n Marked), length-set flags n Marked)

  pub room_to_mark : is_marked flag ≡ false → marked < 2 ^ 32 - 1
  room_to_mark is =
      let none : one_if (is_marked flag) ≡ 0 = ap (λ b. cond b 1 0) is in
      omega (arith, sound.count, sound.size, none, marks_changed flags n h Marked, count_by-le-length (λ mark. mark) (marks_of (set flags n Marked)), length-map (set flags n Marked) is_marked, length-set flags n Marked)

  pub some_marked : flag ≡ Marked → 1 ≤ marked
  some_marked is =
      let one : one_if (is_marked flag) ≡ 1 = ap (λ g. cond (is_marked g) 1 0) is in
      omega (arith, sound.count, one, marks_changed flags n h Struck)

  pub sound_listed : flag ≡ Free → IsSound (set flags n Marked) (xs ++ n ∷ []) room (marked + 1)
  sound_listed is =
      let none : one_if (is_listed flag) ≡ 0 = ap (λ g. cond (is_listed g) 1 0) is in
      let none' : one_if (is_marked flag) ≡ 0 = ap (λ g. cond (is_marked g) 1 0) is in
      let more = listed_changed flags n h Marked in
      let more' = marks_changed flags n h Marked in
      record {
        lists = lists_more flags n h Marked xs (ap is_listed is) refl sound.lists;
        as_many = omega (arith, length-append xs (n ∷ []), sound.as_many, none, more);
        count = omega (arith, sound.count, none', more');
        size = subst (λ k. k < 2 ^ 32) (sym (length-set flags n Marked)) sound.size;
        enough = subst (λ k. k ≤ room) (sym (length-set flags n Marked)) sound.enough;
      }

  pub sound_again : flag ≡ Struck → IsSound (set flags n Marked) xs room (marked + 1)
  sound_again is =
      let one : one_if (is_listed flag) ≡ 1 = ap (λ g. cond (is_listed g) 1 0) is in
      let none : one_if (is_marked flag) ≡ 0 = ap (λ g. cond (is_marked g) 1 0) is in
      let same = listed_changed flags n h Marked in
      let more = marks_changed flags n h Marked in
      record {
        lists = lists_same flags n h Marked xs (sym (ap is_listed is)) sound.lists;
        as_many = omega (arith, sound.as_many, one, same);
        count = omega (arith, sound.count, none, more);
        size = subst (λ k. k < 2 ^ 32) (sym (length-set flags n Marked)) sound.size;
        enough = subst (λ k. k ≤ room) (sym (length-set flags n Marked)) sound.enough;
      }

  pub sound_struck : flag ≡ Marked → IsSound (set flags n Struck) xs room (marked - 1)
  sound_struck is =
      let one : one_if (is_listed flag) ≡ 1 = ap (λ g. cond (is_listed g) 1 0) is in
      let one' : one_if (is_marked flag) ≡ 1 = ap (λ g. cond (is_marked g) 1 0) is in
      let same = listed_changed flags n h Struck in
      let less = marks_changed flags n h Struck in
      record {
        lists = lists_same flags n h Struck xs (sym (ap is_listed is)) sound.lists;
        as_many = omega (arith, sound.as_many, one, same);
        count = omega (arith, sound.count, one', less);
        size = subst (λ k. k < 2 ^ 32) (sym (length-set flags n Struck)) sound.size;
        enough = subst (λ k. k ≤ room) (sym (length-set flags n Struck)) sound.enough;
      }

-- where all flags are free
pub sound_free : (n room : ℕ) → n < 2 ^ 32 → n ≤ room → IsSound (replicate n Free) [] room 0
sound_free n room size enough = record {
  lists = record {
    once = λ p. ⊎_elim
        (λ h. ap (λ g. cond (is_listed g) 1 0) (sym (get_or-replicate n p Free Free h)))
        (λ past. ap (λ g. cond (is_listed g) 1 0) (sym (get_or_past (replicate n Free) p Free (omega (arith, past, length-replicate n Free)))))
        (cases_lt p n);
  };
  as_many = sym (sum_by-replicate (λ g. cond (is_listed g) 1 0) n Free ∙ omega arith);
  count = sym (no_count n);
  size = subst (λ k. k < 2 ^ 32) (sym (length-replicate n Free)) size;
  enough = subst (λ k. k ≤ room) (sym (length-replicate n Free)) enough;
}

-- the flags of a vector that were all freed through its slice
module _ (v : Vec Flag) (old new : List Flag) (same : old ≡ vec_items v) (freed : new ≡ replicate (length old) Free) where
  pub items_freed : vec_items (with_items v new) ≡ replicate (length (vec_items v)) Free
  items_freed =
      let all : new ≡ replicate (length (vec_items v)) Free = freed ∙ ap (λ (fs : List Flag). replicate (length fs) Free) same in
      with_items_is v new (ap length all ∙ length-replicate (length (vec_items v)) Free ∙ sym v.ok.0) ∙ all

  pub marks_freed : (marks : List Bool) → marks_of (vec_items v) ≡ marks → marks_of (vec_items (with_items v new)) ≡ replicate (length marks) false
  marks_freed marks is = ap marks_of items_freed ∙ marks_of_free (length (vec_items v))
      ∙ ap (λ (k : ℕ). replicate k false) (sym (length-map (vec_items v) is_marked) ∙ ap length is)

  pub sound_freed : (xs : List ℕ) (room : ℕ) → xs ≡ [] → length (vec_items v) < 2 ^ 32 → length (vec_items v) ≤ room → IsSound (vec_items (with_items v new)) xs room 0
  sound_freed xs room none size enough =
      subst (λ (fs : List Flag). IsSound fs xs room 0) (sym items_freed)
      (subst (λ (ys : List ℕ). IsSound (replicate (length (vec_items v)) Free) ys room 0) (sym none)
      (sound_free (length (vec_items v)) room size enough))

-- a list of the same numbers in another order
pub lists_sorted : (flags : List Flag) (xs ys : List ℕ) → IsPermutation xs ys → ListsEachOnce flags xs → ListsEachOnce flags ys
lists_sorted flags xs ys moved lists = record { once = λ p. sum_by-IsPermutation (λ x. cond (x == p) 1 0) xs ys moved ∙ lists.once p }

-- ---- what a call leaves as it is

module _ (flags : List Flag) (n : ℕ) where
  pub set_again : get_or flags n Free ≡ Marked → marks_of flags ≡ set (marks_of flags) n true
  set_again is = sym (set-get_or (marks_of flags) n false) ∙ ap (λ mark. set (marks_of flags) n mark) (mark_at flags n ∙ ap is_marked is)

  pub set_past_size : slice_get flags n ≡ None → marks_of flags ≡ set (marks_of flags) n true
  set_past_size none = ⊎_elim
      (λ h. absurd (no_none (sym (slice_get-get_or flags n Free h) ∙ none)))
      (λ past. sym (set_past (marks_of flags) n true (omega (arith, past, length-map flags is_marked))))
      (cases_lt n (length flags))
    where
      no_none : Some (get_or flags n Free) ≡ None → ⊥
      no_none h = cc

pub clear_again : (marks : List Bool) (n : ℕ) → unwrap_or (slice_get marks n) false ≡ false → marks ≡ set marks n false
clear_again marks n none = sym (set-get_or marks n false) ∙ ap (λ mark. set marks n mark) (sym (unwrap_or-slice_get marks n false) ∙ none)

-- where no number is listed
module _ (flags : List Flag) (xs : List ℕ) (lists : ListsEachOnce flags xs) (none : xs ≡ []) where
  free_where_none : flags ≡ replicate (length flags) Free
  free_where_none = all_free flags (subst (λ (ys : List ℕ). ListsEachOnce flags ys) none lists)

  pub unmarked_where_none : (marks : List Bool) → marks_of flags ≡ marks → marks ≡ replicate (length marks) false
  unmarked_where_none marks is = sym is ∙ ap marks_of free_where_none ∙ marks_of_free (length flags)
      ∙ ap (λ (k : ℕ). replicate k false) (sym (length-map flags is_marked) ∙ ap length is)

  pub no_places_where_none : (marks : List Bool) → marks_of flags ≡ marks → marked_places marks ≡ []
  no_places_where_none marks is = ap marked_places (sym is) ∙ ap (λ (fs : List Flag). marked_places (marks_of fs)) free_where_none ∙ no_places (length flags)

-- a vector that is told to be empty
pub no_items : (v : Vec ℕ) (told : Bool) → told ≡ (vec_len v == 0) → told ≡ true → vec_items v ≡ []
no_items v told is so = nil_from_length (vec_items v) (sym v.ok.0 ∙ eqb-true (vec_len v) 0 (sym is ∙ so))
