-- Rings of nodes: what is left where a node is taken out or put in, and that each entry is met on the way from the head.
use Rattle.std.proofs.Common.{◌≡◌, ℕ, zero, suc, ◌+◌, ◌≢◌, ◌≤◌, ◌<◌, sym, ap, ◌∙◌, subst, ⊎_elim, arith}
use Rattle.std.proofs.lemmas.Bool.{cases_eq, cases_lt}
use Rattle.timed_queue.specs.Nodes.{IsLinked}

module _ (len : ℕ) (next before place up : ℕ → ℕ) (is : IsLinked len next before place up) where
  -- the node before an entry is another one
  apart-before : (i : ℕ) → i < len → 704 ≤ i → place i < 704 → before i ≢ i
  apart-before i within entry live same =
      let less : up (before i) < up i = is.rises i within entry live in
      let e : up (before i) ≡ up i = ap up same in
      omega (arith, less, e)

  apart-next : (i : ℕ) → i < len → 704 ≤ i → place i < 704 → next i ≢ i
  apart-next i within entry live same =
      apart-before i within entry live (sym (ap before same) ∙ is.next_back i within live)

  -- the head of a ring, and what the next one of each has where it has it, all of the ring have
  reach_below : (P : ℕ → Type 0) (x : ℕ) → P x → ((j : ℕ) → j < len → place j ≡ x → P j → P (next j)) → x < 704 → (n j : ℕ) → up j < n → j < len → place j ≡ x → P j
  reach_below P x head step low zero j less within at = absurd (omega (arith, less))
  reach_below P x head step low (suc n) j less within at = ⊎_elim
      (λ (small : j < 704). subst P (sym at ∙ is.heads j within small) head)
      (λ (entry : 704 ≤ j).
      let live : place j < 704 = omega (arith, at, low) in
      let first : up (before j) < up j = is.rises j within entry live in
      let there : place (before j) ≡ x = is.before_place j within live ∙ at in
      subst P (is.before_back j within live) (step (before j) (is.before_in j within live) there
      (reach_below P x head step low n (before j) (omega (arith, first, less)) (is.before_in j within live) there)))
      (cases_lt j 704)

  pub reach : (P : ℕ → Type 0) (x : ℕ) → x < 704 → P x → ((j : ℕ) → j < len → place j ≡ x → P j → P (next j)) → (j : ℕ) → j < len → place j ≡ x → P j
  reach P x low head step j within at = reach_below P x head step low (suc (up j)) j (omega arith) within at

  module _ (i : ℕ) (within : i < len) (entry : 704 ≤ i) (live : place i < 704) (next' before' place' : ℕ → ℕ)
      (next_at : next' (before i) ≡ next i) (next_other : (j : ℕ) → j ≢ before i → next' j ≡ next j)
      (before_at : before' (next i) ≡ before i) (before_other : (j : ℕ) → j ≢ next i → before' j ≡ before j)
      (place_at : place' i ≡ 705) (place_other : (j : ℕ) → j ≢ i → place' j ≡ place j) where
    stays : (j : ℕ) → place' j < 704 → j ≢ i
    stays j low same = let e : place' j ≡ 705 = ap place' same ∙ place_at in omega (arith, e, low)

    lives : (j : ℕ) → place' j < 704 → place j < 704
    lives j low = let e : place' j ≡ place j = place_other j (stays j low) in omega (arith, e, low)

    next_entry : (j : ℕ) → j < len → place j < 704 → next j ≡ i → j ≡ before i
    next_entry j jin low same = sym (is.next_back j jin low) ∙ ap before same

    before_entry : (j : ℕ) → j < len → place j < 704 → before j ≡ i → j ≡ next i
    before_entry j jin low same = sym (is.before_back j jin low) ∙ ap next same

    pub unlinks : IsLinked len next' before' place' up
    unlinks = record {
      next_in = λ j jin low. ⊎_elim
          (λ (same : j ≡ before i). let e : next' j ≡ next i = ap next' same ∙ next_at in let g : next i < len = is.next_in i within live in omega (arith, e, g))
          (λ (apart : j ≢ before i). let e : next' j ≡ next j = next_other j apart in let g : next j < len = is.next_in j jin (lives j low) in omega (arith, e, g))
          (cases_eq j (before i));
      next_place = λ j jin low. ⊎_elim
          (λ (same : j ≡ before i). ap place' (ap next' same ∙ next_at) ∙ place_other (next i) (apart-next i within entry live) ∙ is.next_place i within live
          ∙ sym (is.before_place i within live) ∙ ap place (sym same) ∙ sym (place_other j (stays j low)))
          (λ (apart : j ≢ before i). ap place' (next_other j apart) ∙ place_other (next j) (λ same. apart (next_entry j jin (lives j low) same))
          ∙ is.next_place j jin (lives j low) ∙ sym (place_other j (stays j low)))
          (cases_eq j (before i));
      next_back = λ j jin low. ⊎_elim
          (λ (same : j ≡ before i). ap before' (ap next' same ∙ next_at) ∙ before_at ∙ sym same)
          (λ (apart : j ≢ before i). ap before' (next_other j apart)
          ∙ before_other (next j) (λ same. stays j low (sym (is.next_back j jin (lives j low)) ∙ ap before same ∙ is.next_back i within live))
          ∙ is.next_back j jin (lives j low))
          (cases_eq j (before i));
      before_in = λ j jin low. ⊎_elim
          (λ (same : j ≡ next i). let e : before' j ≡ before i = ap before' same ∙ before_at in let g : before i < len = is.before_in i within live in omega (arith, e, g))
          (λ (apart : j ≢ next i). let e : before' j ≡ before j = before_other j apart in let g : before j < len = is.before_in j jin (lives j low) in omega (arith, e, g))
          (cases_eq j (next i));
      before_place = λ j jin low. ⊎_elim
          (λ (same : j ≡ next i). ap place' (ap before' same ∙ before_at) ∙ place_other (before i) (apart-before i within entry live) ∙ is.before_place i within live
          ∙ sym (is.next_place i within live) ∙ ap place (sym same) ∙ sym (place_other j (stays j low)))
          (λ (apart : j ≢ next i). ap place' (before_other j apart) ∙ place_other (before j) (λ same. apart (before_entry j jin (lives j low) same))
          ∙ is.before_place j jin (lives j low) ∙ sym (place_other j (stays j low)))
          (cases_eq j (next i));
      before_back = λ j jin low. ⊎_elim
          (λ (same : j ≡ next i). ap next' (ap before' same ∙ before_at) ∙ next_at ∙ sym same)
          (λ (apart : j ≢ next i). ap next' (before_other j apart)
          ∙ next_other (before j) (λ same. stays j low (sym (is.before_back j jin (lives j low)) ∙ ap next same ∙ is.before_back i within live))
          ∙ is.before_back j jin (lives j low))
          (cases_eq j (next i));
      rises = λ j jin big low. ⊎_elim
          (λ (same : j ≡ next i).
          let e : up (before' j) ≡ up (before i) = ap up (ap before' same ∙ before_at) in
          let one : up (before i) < up i = is.rises i within entry live in
          let two : up (before j) < up j = is.rises j jin big (lives j low) in
          let f : up (before j) ≡ up i = ap up (ap before same ∙ is.next_back i within live) in
          omega (arith, e, one, two, f))
          (λ (apart : j ≢ next i).
          let e : up (before' j) ≡ up (before j) = ap up (before_other j apart) in
          let two : up (before j) < up j = is.rises j jin big (lives j low) in
          omega (arith, e, two))
          (cases_eq j (next i));
      heads = λ j jin low. place_other j (λ same. omega (arith, same, low, entry)) ∙ is.heads j jin low;
    }

  module _ (i q : ℕ) (within : i < len) (entry : 704 ≤ i) (loose : 704 ≤ place i) (low_q : q < 704) (q_in : q < len) (next' before' place' up' : ℕ → ℕ)
      (next_last : next' (before q) ≡ i) (next_at : next' i ≡ q) (next_other : (j : ℕ) → j ≢ before q → j ≢ i → next' j ≡ next j)
      (before_head : before' q ≡ i) (before_at : before' i ≡ before q) (before_other : (j : ℕ) → j ≢ q → j ≢ i → before' j ≡ before j)
      (place_at : place' i ≡ q) (place_other : (j : ℕ) → j ≢ i → place' j ≡ place j)
      (up_at : up' i ≡ up (before q) + 1) (up_other : (j : ℕ) → j ≢ i → up' j ≡ up j) where
    q_place : place q ≡ q
    q_place = is.heads q q_in low_q

    q_live : place q < 704
    q_live = omega (arith, q_place, low_q)

    -- a node in a place is not the new one
    not_new : (j : ℕ) → place j < 704 → j ≢ i
    not_new j low same = let e : place j ≡ place i = ap place same in omega (arith, e, low, loose)

    last_place : place (before q) ≡ q
    last_place = is.before_place q q_in q_live ∙ q_place

    last_old : before q ≢ i
    last_old = not_new (before q) (omega (arith, last_place, low_q))

    head_old : q ≢ i
    head_old = not_new q q_live

    old : (j : ℕ) → place' j < 704 → j ≢ i → place j < 704
    old j low apart = let e : place' j ≡ place j = place_other j apart in omega (arith, e, low)

    pub links : IsLinked len next' before' place' up'
    links = record {
      next_in = λ j jin low. ⊎_elim
          (λ (same : j ≡ i). let e : next' j ≡ q = ap next' same ∙ next_at in omega (arith, e, q_in))
          (λ (apart : j ≢ i). ⊎_elim
          (λ (same : j ≡ before q). let e : next' j ≡ i = ap next' same ∙ next_last in omega (arith, e, within))
          (λ (apart' : j ≢ before q). let e : next' j ≡ next j = next_other j apart' apart in let g : next j < len = is.next_in j jin (old j low apart) in omega (arith, e, g))
          (cases_eq j (before q)))
          (cases_eq j i);
      next_place = λ j jin low. ⊎_elim
          (λ (same : j ≡ i). ap place' (ap next' same ∙ next_at) ∙ place_other q head_old ∙ q_place ∙ sym place_at ∙ ap place' (sym same))
          (λ (apart : j ≢ i). ⊎_elim
          (λ (same : j ≡ before q). ap place' (ap next' same ∙ next_last) ∙ place_at ∙ sym (place_other j apart ∙ ap place same ∙ last_place))
          (λ (apart' : j ≢ before q). let there = is.next_place j jin (old j low apart) in
          ap place' (next_other j apart' apart) ∙ place_other (next j) (not_new (next j) (let g = old j low apart in omega (arith, there, g))) ∙ there ∙ sym (place_other j apart))
          (cases_eq j (before q)))
          (cases_eq j i);
      next_back = λ j jin low. ⊎_elim
          (λ (same : j ≡ i). ap before' (ap next' same ∙ next_at) ∙ before_head ∙ sym same)
          (λ (apart : j ≢ i). ⊎_elim
          (λ (same : j ≡ before q). ap before' (ap next' same ∙ next_last) ∙ before_at ∙ sym same)
          (λ (apart' : j ≢ before q). let there = is.next_place j jin (old j low apart) in
          ap before' (next_other j apart' apart)
          ∙ before_other (next j) (λ same. apart' (sym (is.next_back j jin (old j low apart)) ∙ ap before same))
          (not_new (next j) (let g = old j low apart in omega (arith, there, g)))
          ∙ is.next_back j jin (old j low apart))
          (cases_eq j (before q)))
          (cases_eq j i);
      before_in = λ j jin low. ⊎_elim
          (λ (same : j ≡ i). let e : before' j ≡ before q = ap before' same ∙ before_at in let g : before q < len = is.before_in q q_in q_live in omega (arith, e, g))
          (λ (apart : j ≢ i). ⊎_elim
          (λ (same : j ≡ q). let e : before' j ≡ i = ap before' same ∙ before_head in omega (arith, e, within))
          (λ (apart' : j ≢ q). let e : before' j ≡ before j = before_other j apart' apart in let g : before j < len = is.before_in j jin (old j low apart) in omega (arith, e, g))
          (cases_eq j q))
          (cases_eq j i);
      before_place = λ j jin low. ⊎_elim
          (λ (same : j ≡ i). ap place' (ap before' same ∙ before_at) ∙ place_other (before q) last_old ∙ last_place ∙ sym place_at ∙ ap place' (sym same))
          (λ (apart : j ≢ i). ⊎_elim
          (λ (same : j ≡ q). ap place' (ap before' same ∙ before_head) ∙ place_at ∙ sym (place_other j apart ∙ ap place same ∙ q_place))
          (λ (apart' : j ≢ q). let there = is.before_place j jin (old j low apart) in
          ap place' (before_other j apart' apart) ∙ place_other (before j) (not_new (before j) (let g = old j low apart in omega (arith, there, g))) ∙ there ∙ sym (place_other j apart))
          (cases_eq j q))
          (cases_eq j i);
      before_back = λ j jin low. ⊎_elim
          (λ (same : j ≡ i). ap next' (ap before' same ∙ before_at) ∙ next_last ∙ sym same)
          (λ (apart : j ≢ i). ⊎_elim
          (λ (same : j ≡ q). ap next' (ap before' same ∙ before_head) ∙ next_at ∙ sym same)
          (λ (apart' : j ≢ q). let there = is.before_place j jin (old j low apart) in
          ap next' (before_other j apart' apart)
          ∙ next_other (before j) (λ same. apart' (sym (is.before_back j jin (old j low apart)) ∙ ap next same ∙ is.before_back q q_in q_live))
          (not_new (before j) (let g = old j low apart in omega (arith, there, g)))
          ∙ is.before_back j jin (old j low apart))
          (cases_eq j q))
          (cases_eq j i);
      rises = λ j jin big low. ⊎_elim
          (λ (same : j ≡ i).
          let e : up' (before' j) ≡ up (before q) = ap up' (ap before' same ∙ before_at) ∙ up_other (before q) last_old in
          let f : up' j ≡ up (before q) + 1 = ap up' same ∙ up_at in
          omega (arith, e, f))
          (λ (apart : j ≢ i).
          let there : place (before j) ≡ place j = is.before_place j jin (old j low apart) in
          let lower : place j < 704 = old j low apart in
          let e : up' (before' j) ≡ up (before j) = ap up' (before_other j (λ same. omega (arith, same, low_q, big)) apart) ∙ up_other (before j) (not_new (before j) (omega (arith, there, lower))) in
          let f : up' j ≡ up j = up_other j apart in
          let two : up (before j) < up j = is.rises j jin big lower in
          omega (arith, e, f, two))
          (cases_eq j i);
      heads = λ j jin low. place_other j (λ same. omega (arith, same, low, entry)) ∙ is.heads j jin low;
    }
