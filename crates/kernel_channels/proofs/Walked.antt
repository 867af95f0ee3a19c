-- A walk over the numbers that asked, in rising order, is an update of each that asked.
use Rattle.std.proofs.Common.{◌≡◌, ◌+◌, ℕ, zero, suc, Bool, true, false, List, [], ◌∷◌, ◌++◌, Option, Some, None, length, drop, replicate, slice_get, refl, sym, ap, ◌∙◌, arith, append_assoc}
use Rattle.std.proofs.lemmas.List.{length-append, set_at}
use Rattle.kernel_events.specs.EventCore.declared.notifications.Pending.{Pending}
use Rattle.kernel_events.specs.NumberedSlots.Places.{places_from}
use Rattle.kernel_events.specs.SignalChannel.declared.signal.Changed.{Changed}
use Rattle.kernel_events.specs.SimModel.Configuration.{change, changed_at}
use Rattle.kernel_channels.specs.Announced.{told}
use Rattle.kernel_channels.specs.UpdateMarks.{nothing, change_at, items_after, marks_after, events_after, marked_if, told_at}

get_here : {A : Type 0} (front : List A) (x : A) (xs : List A) (n : ℕ) → length front ≡ n → slice_get (front ++ x ∷ xs) n ≡ Some x
get_here [] x xs zero at = refl
get_here [] x xs (suc n) at = absurd (omega (arith, at))
get_here (y ∷ front) x xs zero at = absurd (omega (arith, at))
get_here (y ∷ front) x xs (suc n) at = get_here front x xs n (omega (arith, at))

longer : {A : Type 0} (front : List A) (x : A) (n : ℕ) → length front ≡ n → length (front ++ x ∷ []) ≡ n + 1
longer front x n at = omega (arith, at, length-append front (x ∷ []))

module _ {A : Type 0} (after : A → A) where
  -- those with a mark are updated
  abbrev pub each_if : List A → List Bool → List A
  each_if [] bs = []
  each_if (x ∷ xs) [] = x ∷ xs
  each_if (x ∷ xs) (true ∷ bs) = after x ∷ each_if xs bs
  each_if (x ∷ xs) (false ∷ bs) = x ∷ each_if xs bs

  changed_here : (front : List A) (x : A) (xs : List A) (n : ℕ) → length front ≡ n → change (front ++ x ∷ xs) n after ≡ front ++ after x ∷ xs
  changed_here front x xs n at = ap (changed_at (front ++ x ∷ xs) n after) (get_here front x xs n at) ∙ set_at front x xs (after x) n at

  items_walked : (n : ℕ) (front xs : List A) (bs : List Bool) → length front ≡ n → length bs ≡ length xs
      → items_after after (places_from n bs) (front ++ xs) ≡ front ++ each_if xs bs
  items_walked n front [] [] at same = refl
  items_walked n front [] (b ∷ bs) at same = absurd (omega (arith, same))
  items_walked n front (x ∷ xs) [] at same = absurd (omega (arith, same))
  items_walked n front (x ∷ xs) (true ∷ bs) at same =
      ap (items_after after (places_from (n + 1) bs)) (changed_here front x xs n at ∙ sym (append_assoc front (after x ∷ []) xs))
      ∙ items_walked (n + 1) (front ++ after x ∷ []) xs bs (longer front (after x) n at) (omega (arith, same))
      ∙ append_assoc front (after x ∷ []) (each_if xs bs)
  items_walked n front (x ∷ xs) (false ∷ bs) at same =
      ap (items_after after (places_from (n + 1) bs)) (sym (append_assoc front (x ∷ []) xs))
      ∙ items_walked (n + 1) (front ++ x ∷ []) xs bs (longer front x n at) (omega (arith, same))
      ∙ append_assoc front (x ∷ []) (each_if xs bs)

  pub items_all : (xs : List A) (bs : List Bool) → length bs ≡ length xs → items_after after (places_from 0 bs) xs ≡ each_if xs bs
  items_all xs bs same = items_walked 0 [] xs bs refl same

  module _ (changes : A → Changed) where
    abbrev pub change_if : Bool → A → Changed
    change_if true x = changes x
    change_if false x = nothing

    -- which of those with a mark change
    abbrev pub changes_if : List A → List Bool → List Bool
    changes_if [] bs = []
    changes_if (x ∷ xs) [] = false ∷ changes_if xs []
    changes_if (x ∷ xs) (b ∷ bs) = (change_if b x).changed ∷ changes_if xs bs

    marked_here : (c : Bool) (front rest : List Bool) (n : ℕ) → length front ≡ n → marked_if c n (front ++ false ∷ rest) ≡ front ++ c ∷ rest
    marked_here true front rest n at = set_at front false rest true n at
    marked_here false front rest n at = refl

    marks_walked : (n : ℕ) (front xs : List A) (before bs : List Bool) → length front ≡ n → length before ≡ n → length bs ≡ length xs
        → marks_after after changes (places_from n bs) (front ++ xs) (before ++ replicate (length xs) false) ≡ before ++ changes_if xs bs
    marks_walked n front [] before [] at there same = refl
    marks_walked n front [] before (b ∷ bs) at there same = absurd (omega (arith, same))
    marks_walked n front (x ∷ xs) before [] at there same = absurd (omega (arith, same))
    marks_walked n front (x ∷ xs) before (true ∷ bs) at there same =
        (λ i. marks_after after changes (places_from (n + 1) bs) ((changed_here front x xs n at ∙ sym (append_assoc front (after x ∷ []) xs)) i)
        (marked_if (change_at changes (get_here front x xs n at i)).changed n (before ++ false ∷ replicate (length xs) false)))
        ∙ ap (marks_after after changes (places_from (n + 1) bs) ((front ++ after x ∷ []) ++ xs))
        (marked_here (changes x).changed before (replicate (length xs) false) n there ∙ sym (append_assoc before ((changes x).changed ∷ []) (replicate (length xs) false)))
        ∙ marks_walked (n + 1) (front ++ after x ∷ []) xs (before ++ (changes x).changed ∷ []) bs (longer front (after x) n at) (longer before (changes x).changed n there) (omega (arith, same))
        ∙ append_assoc before ((changes x).changed ∷ []) (changes_if xs bs)
    marks_walked n front (x ∷ xs) before (false ∷ bs) at there same =
        (λ i. marks_after after changes (places_from (n + 1) bs) (sym (append_assoc front (x ∷ []) xs) i) (sym (append_assoc before (false ∷ []) (replicate (length xs) false)) i))
        ∙ marks_walked (n + 1) (front ++ x ∷ []) xs (before ++ false ∷ []) bs (longer front x n at) (longer before false n there) (omega (arith, same))
        ∙ append_assoc before (false ∷ []) (changes_if xs bs)

    pub marks_all : (xs : List A) (bs : List Bool) → length bs ≡ length xs → marks_after after changes (places_from 0 bs) xs (replicate (length xs) false) ≡ changes_if xs bs
    marks_all xs bs same = marks_walked 0 [] xs [] bs refl refl same

    -- what those with a mark announce
    abbrev pub told_each : List ℕ → List A → List Bool → List Pending → List Pending
    told_each [] xs bs events = events
    told_each (e ∷ es) [] bs events = events
    told_each (e ∷ es) (x ∷ xs) [] events = events
    told_each (e ∷ es) (x ∷ xs) (b ∷ bs) events = told_each es xs bs (told (change_if b x) e events)

    told_none : (firsts : List ℕ) (events : List Pending) → told_each firsts [] [] events ≡ events
    told_none [] events = refl
    told_none (e ∷ es) events = refl

    told_next : (firsts : List ℕ) (n : ℕ) (x : A) (xs : List A) (b : Bool) (bs : List Bool) (events : List Pending)
        → told_each (drop (n + 1) firsts) xs bs (told_at (slice_get firsts n) (change_if b x) events) ≡ told_each (drop n firsts) (x ∷ xs) (b ∷ bs) events
    told_next [] zero x xs b bs events = refl
    told_next [] (suc n) x xs b bs events = let k : suc n + 1 ≡ suc (n + 1) = omega arith in ap (λ (j : ℕ). told_each (drop j []) xs bs events) k
    told_next (e ∷ es) zero x xs b bs events = refl
    told_next (e ∷ es) (suc n) x xs b bs events =
        let k : suc n + 1 ≡ suc (n + 1) = omega arith in
        ap (λ (j : ℕ). told_each (drop j (e ∷ es)) xs bs (told_at (slice_get es n) (change_if b x) events)) k ∙ told_next es n x xs b bs events

    told_nothing : (o : Option ℕ) (events : List Pending) → events ≡ told_at o nothing events
    told_nothing None events = refl
    told_nothing (Some e) events = refl

    events_walked : (n : ℕ) (front xs : List A) (bs : List Bool) (firsts : List ℕ) (events : List Pending) → length front ≡ n → length bs ≡ length xs
        → events_after after changes (places_from n bs) firsts (front ++ xs) events ≡ told_each (drop n firsts) xs bs events
    events_walked n front [] [] firsts events at same = sym (told_none (drop n firsts) events)
    events_walked n front [] (b ∷ bs) firsts events at same = absurd (omega (arith, same))
    events_walked n front (x ∷ xs) [] firsts events at same = absurd (omega (arith, same))
    events_walked n front (x ∷ xs) (true ∷ bs) firsts events at same =
        (λ i. events_after after changes (places_from (n + 1) bs) firsts ((changed_here front x xs n at ∙ sym (append_assoc front (after x ∷ []) xs)) i)
        (told_at (slice_get firsts n) (change_at changes (get_here front x xs n at i)) events))
        ∙ events_walked (n + 1) (front ++ after x ∷ []) xs bs firsts (told_at (slice_get firsts n) (changes x) events) (longer front (after x) n at) (omega (arith, same))
        ∙ told_next firsts n x xs true bs events
    events_walked n front (x ∷ xs) (false ∷ bs) firsts events at same =
        (λ i. events_after after changes (places_from (n + 1) bs) firsts (sym (append_assoc front (x ∷ []) xs) i) (told_nothing (slice_get firsts n) events i))
        ∙ events_walked (n + 1) (front ++ x ∷ []) xs bs firsts (told_at (slice_get firsts n) nothing events) (longer front x n at) (omega (arith, same))
        ∙ told_next firsts n x xs false bs events

    pub events_all : (xs : List A) (bs : List Bool) (firsts : List ℕ) (events : List Pending) → length bs ≡ length xs
        → events_after after changes (places_from 0 bs) firsts xs events ≡ told_each firsts xs bs events
    events_all xs bs firsts events same = events_walked 0 [] xs bs firsts events refl same
