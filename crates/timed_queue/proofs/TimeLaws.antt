-- What the marks tell of the times of the entries.
use Rattle.std.proofs.Common.{◌≡◌, ◌≢◌, ℕ, ◌<◌, ◌≤◌, ◌^◌, List, length, refl, sym, ap, ◌∙◌, subst, ⊎_elim, arith}
use Rattle.std.proofs.lemmas.Bool.{cases_eq, cases_lt}
use Rattle.timed_queue.specs.declared.chains.Node.{Node}
use Rattle.timed_queue.specs.Nodes.{IsEntry, IsAt, IsLeastFrom, next_of, place_of, time_of}
use Rattle.timed_queue.specs.Marked.{mark_of, IsFirstMark}
use Rattle.timed_queue.specs.Placing.{place_at, start_at}
use Rattle.timed_queue.specs.Sound.{IsWhole, ArePlaced, AreFrom, IsLeastTime, IsBound, IsDueNode}
use Rattle.timed_queue.proofs.PlaceLaws.{Fits, fits_word, place_order, start-le}

module _ (ns : List Node) (words : List ℕ) (free room origin : ℕ) (is : IsWhole ns words free room) (placed : ArePlaced ns origin) where
  fits_time : (i : ℕ) → IsEntry ns i → Fits 10 (time_of ns i)
  fits_time i e = fits_word (time_of ns i) (placed i e).fits

  fits_origin : (i : ℕ) → IsEntry ns i → Fits 10 origin
  fits_origin i e = let p = placed i e in fits_word origin (let a = p.late in let b = p.fits in omega (arith, a, b))

  pub no_entry : ((q : ℕ) → q < 704 → mark_of words q ≡ 0) → (i : ℕ) → IsEntry ns i → ⊥
  no_entry none i e = let a = is.held i e.within e.entry e.live in let b = none (place_of ns i) e.live in omega (arith, a, b)

  module _ (p : ℕ) (first : IsFirstMark words p) where
    pub p_in : p < length ns
    p_in = (is.marked p first.within first.marked).0

    p_at : place_of ns p ≡ p
    p_at = is.rings.heads p p_in first.within

    p_live : place_of ns p < 704
    p_live = omega (arith, p_at, first.within)

    next_at : place_of ns (next_of ns p) ≡ p
    next_at = is.rings.next_place p p_in p_live ∙ p_at

    pub first_entry : IsEntry ns (next_of ns p)
    first_entry = record {
      within = is.rings.next_in p p_in p_live;
      entry = ⊎_elim
          (λ (small : next_of ns p < 704). absurd ((is.marked p first.within first.marked).1 (sym (is.rings.heads (next_of ns p) (is.rings.next_in p p_in p_live) small) ∙ next_at)))
          (λ (big : 704 ≤ next_of ns p). big)
          (cases_lt (next_of ns p) 704);
      live = omega (arith, next_at, first.within);
    }

    first-le : (i : ℕ) → IsEntry ns i → p ≤ place_of ns i
    first-le i e = ⊎_elim
        (λ (less : place_of ns i < p). let a = is.held i e.within e.entry e.live in let b = first.first (place_of ns i) less in absurd (omega (arith, a, b)))
        (λ (most : p ≤ place_of ns i). most)
        (cases_lt (place_of ns i) p)

    -- an entry of the first place is not past those of the others
    in_order : (i j : ℕ) → IsEntry ns i → IsEntry ns j → place_of ns i ≡ p → place_of ns j ≢ p → time_of ns i < time_of ns j
    in_order i j ei ej at apart =
        let pi = placed i ei in let pj = placed j ej in
        let ai = pi.at in let aj = pj.at in
        let most = first-le j ej in
        place_order 10 (time_of ns i) (time_of ns j) origin (fits_time i ei) (fits_time j ej) (fits_origin i ei) pi.late pj.late (omega (arith, ai, aj, at, apart, most))

    start_there : (i : ℕ) → IsEntry ns i → place_of ns i ≡ p → start_at 10 p origin ≤ time_of ns i
    start_there i e at =
        let a = (placed i e).at in
        subst (λ (q : ℕ). start_at 10 q origin ≤ time_of ns i) (sym a ∙ at) (start-le 10 (time_of ns i) origin (fits_time i e) (fits_origin i e))

    start_below : (i : ℕ) → IsEntry ns i → start_at 10 p origin ≤ time_of ns i
    start_below i e = ⊎_elim
        (λ (at : place_of ns i ≡ p). start_there i e at)
        (λ (apart : place_of ns i ≢ p).
        let a = start_there (next_of ns p) first_entry next_at in let b = in_order (next_of ns p) i first_entry e next_at apart in omega (arith, a, b))
        (cases_eq (place_of ns i) p)

    pub start_fits : start_at 10 p origin < 2 ^ 64
    start_fits = let a = start_below (next_of ns p) first_entry in let b = (placed (next_of ns p) first_entry).fits in omega (arith, a, b)

    pub is_bound : IsBound ns (start_at 10 p origin)
    is_bound = record { some = (next_of ns p, first_entry); below = start_below }

    -- no entry is before a time that stands in a place before the first one
    pub all_later : (t : ℕ) → t < 2 ^ 64 → origin ≤ t → place_at 10 t origin < p → AreFrom ns t
    all_later t fits late less i e =
        let pi = placed i e in let at = pi.at in let most = first-le i e in
        let after : t < time_of ns i = place_order 10 t (time_of ns i) origin (fits_word t fits) (fits_time i e) (fits_origin i e) late pi.late (omega (arith, at, most, less)) in
        omega (arith, after)

    pub there_is_one : ((j : ℕ) → IsAt ns p j → time_of ns j < 0) → ⊥
    there_is_one none = let a = none (next_of ns p) (record { within = first_entry.within; entry = first_entry.entry; at = next_at }) in omega (arith, a)

    pub is_least : (i : ℕ) → IsLeastFrom ns p 0 i → IsLeastTime ns (time_of ns i)
    is_least i least =
        let e : IsEntry ns i = record { within = least.there.within; entry = least.there.entry; live = let a = least.there.at in omega (arith, a, first.within) } in
        record {
          held = (i, e, refl);
          least = λ j ej. ⊎_elim
              (λ (at : place_of ns j ≡ p). least.least j (record { within = ej.within; entry = ej.entry; at = at }) (omega arith))
              (λ (apart : place_of ns j ≢ p). let a = in_order i j e ej least.there.at apart in omega (arith, a))
              (cases_eq (place_of ns j) p);
        }

  module _ (t : ℕ) where
    pub none_before : t < origin → (i : ℕ) → IsEntry ns i → time_of ns i ≢ t
    none_before less i e same = let a = (placed i e).late in omega (arith, a, same, less)

    at_place : (i : ℕ) → IsEntry ns i → time_of ns i ≡ t → IsAt ns (place_at 10 t origin) i
    at_place i e same = record { within = e.within; entry = e.entry; at = (placed i e).at ∙ ap (λ u. place_at 10 u origin) same }

    pub none_due : ((j : ℕ) → IsAt ns (place_at 10 t origin) j → time_of ns j < t) → (i : ℕ) → IsEntry ns i → time_of ns i ≢ t
    none_due none i e same = let a = none i (at_place i e same) in omega (arith, a, same)

    pub none_there : (b : ℕ) → IsLeastFrom ns (place_at 10 t origin) t b → time_of ns b ≢ t → (i : ℕ) → IsEntry ns i → time_of ns i ≢ t
    none_there b least apart i e same =
        let a = least.least i (at_place i e same) (omega (arith, same)) in let l = least.late in
        apart (omega (arith, a, l, same))

    pub is_due_node : (b : ℕ) → place_at 10 t origin < 704 → IsLeastFrom ns (place_at 10 t origin) t b → time_of ns b ≡ t → IsDueNode ns t b
    is_due_node b low least same = record {
      there = record { within = least.there.within; entry = least.there.entry; live = let a = least.there.at in omega (arith, a, low) };
      due = same;
    }
