-- On the way along the ring of a place each entry of the place is met once.
use Rattle.std.proofs.Common.{◌≡◌, ◌≢◌, ◌⊎◌, ℕ, ◌+◌, ◌<◌, ◌≤◌, Bool, true, false, cond, eqb, ltb, List, length, Option, Some, None, refl, sym, ap, ◌∙◌, subst, inl, inr, ⊎_elim, arith, eq-eqb, ne_eqb, true≢false}
use Rattle.std.proofs.lemmas.Bool.{cases_eq, cases_lt, lt-ltb, le-ltb}
use Rattle.timed_queue.specs.declared.chains.Node.{Node}
use Rattle.timed_queue.specs.Nodes.{AreLinked, IsAt, IsLeastFrom, next_of, before_of, place_of, time_of}
use Rattle.timed_queue.specs.Nearer.{nearer_of}
use Rattle.timed_queue.proofs.LinkLaws.{reach}
use Rattle.timed_queue.proofs.CountLaws.{count_below, count-le, count_none, count_more}

-- of the nodes that were met, one with the least time that is not below t
abbrev pub IsBestOf : List Node → ℕ → (ℕ → Bool) → Option ℕ → Type 0
IsBestOf ns t seen None = (j : ℕ) → seen j ≡ true → time_of ns j < t
IsBestOf ns t seen (Some b) = (seen b ≡ true) × (t ≤ time_of ns b) × ((j : ℕ) → seen j ≡ true → t ≤ time_of ns j → time_of ns b ≤ time_of ns j)

-- so many nodes of the place were met, and this one is next
pub record IsWalk (ns : List Node) (p t steps at : ℕ) (least : Option ℕ) : Type 0 where
  pub up : ℕ → ℕ
  pub rings : AreLinked ns up
  pub low : p < 704
  pub seen : ℕ → Bool
  pub count : count_below (length ns) seen ≡ steps
  pub at_in : at < length ns
  pub at_place : place_of ns at ≡ p
  pub closed : (j : ℕ) → (seen j ≡ true) ⊎ (j ≡ p) → (seen (next_of ns j) ≡ true) ⊎ (next_of ns j ≡ at)
  pub each : (j : ℕ) → seen j ≡ true → IsAt ns p j
  pub later : (j : ℕ) → seen j ≡ true → (at ≡ p) ⊎ (up j < up at)
  pub best : IsBestOf ns t seen least

pub walk_begins : (ns : List Node) (up : ℕ → ℕ) (p t : ℕ) → AreLinked ns up → p < 704 → p < length ns → IsWalk ns p t 0 (next_of ns p) None
walk_begins ns up p t rings low within =
    let at : place_of ns p ≡ p = rings.heads p within low in
    let live : place_of ns p < 704 = omega (arith, at, low) in
    record {
      up = up;
      rings = rings;
      low = low;
      seen = λ _. false;
      count = count_none (length ns) (λ _. false) (λ _. refl);
      at_in = rings.next_in p within live;
      at_place = rings.next_place p within live ∙ at;
      closed = λ j met. ⊎_elim (λ (e : false ≡ true). absurd (true≢false (sym e))) (λ (e : j ≡ p). inr (ap (next_of ns) e)) met;
      each = λ j e. absurd (true≢false (sym e));
      later = λ j e. absurd (true≢false (sym e));
      best = λ j e. absurd (true≢false (sym e));
    }

module _ (ns : List Node) (p t steps at : ℕ) (least : Option ℕ) (is : IsWalk ns p t steps at least) where
  module _ (apart : at ≢ p) where
    pub entry_at : IsAt ns p at
    entry_at = record {
      within = is.at_in;
      entry = ⊎_elim (λ (small : at < 704). absurd (apart (sym (is.rings.heads at is.at_in small) ∙ is.at_place))) (λ (big : 704 ≤ at). big) (cases_lt at 704);
      at = is.at_place;
    }

    live_at : place_of ns at < 704
    live_at = let e = is.at_place in omega (arith, e, is.low)

    unseen_by : (b : Bool) → is.seen at ≡ b → is.seen at ≡ false
    unseen_by false e = e
    unseen_by true e = absurd (⊎_elim (λ (here : at ≡ p). apart here) (λ (less : is.up at < is.up at). omega (arith, less)) (is.later at e))

    unseen : is.seen at ≡ false
    unseen = unseen_by (is.seen at) refl

    abbrev more : ℕ → Bool
    more j = cond (eqb j at) true (is.seen j)

    more_here : (j : ℕ) → j ≡ at → more j ≡ true
    more_here j same = ap (λ b. cond b true (is.seen j)) (eq-eqb j at same)

    more_other : (j : ℕ) → j ≢ at → more j ≡ is.seen j
    more_other j far = ap (λ b. cond b true (is.seen j)) (ne_eqb j at far)

    more_old : (j : ℕ) → is.seen j ≡ true → more j ≡ true
    more_old j e = ⊎_elim (λ (same : j ≡ at). more_here j same) (λ (far : j ≢ at). more_other j far ∙ e) (cases_eq j at)

    counted : count_below (length ns) more ≡ steps + 1
    counted = count_more (length ns) is.seen more at is.at_in unseen (more_here at refl) more_other ∙ ap (λ n. n + 1) is.count

    -- there are more nodes than were met
    pub steps-lt : steps < length ns
    steps-lt = let most = count-le (length ns) more in omega (arith, counted, most)

    met_cases : {C : Type 0} (j : ℕ) → more j ≡ true → (j ≡ at → C) → (is.seen j ≡ true → C) → C
    met_cases j e here old = ⊎_elim here (λ (far : j ≢ at). old (sym (more_other j far) ∙ e)) (cases_eq j at)

    best_next : (o : Option ℕ) → IsBestOf ns t is.seen o → IsBestOf ns t more (nearer_of ns o at t)
    best_next None best = ⊎_elim
        (λ (below : time_of ns at < t).
        subst (λ (b : Bool). IsBestOf ns t more (cond b None (Some at))) (sym (lt-ltb (time_of ns at) t below))
        (λ j e. met_cases j e (λ (same : j ≡ at). let f : time_of ns j ≡ time_of ns at = ap (time_of ns) same in omega (arith, f, below)) (λ old. best j old)))
        (λ (late : t ≤ time_of ns at).
        subst (λ (b : Bool). IsBestOf ns t more (cond b None (Some at))) (sym (le-ltb (time_of ns at) t late))
        (more_here at refl, late, λ j e not_below. met_cases j e (λ (same : j ≡ at). let f : time_of ns j ≡ time_of ns at = ap (time_of ns) same in omega (arith, f)) (λ old. let g = best j old in omega (arith, g, not_below))))
        (cases_lt (time_of ns at) t)
    best_next (Some b) best = ⊎_elim
        (λ (below : time_of ns at < t).
        subst (λ (w : Bool). IsBestOf ns t more (cond w (Some b) (cond (ltb (time_of ns at) (time_of ns b)) (Some at) (Some b)))) (sym (lt-ltb (time_of ns at) t below))
        (more_old b best.0, best.1, λ j e not_below. met_cases j e (λ (same : j ≡ at). let f : time_of ns j ≡ time_of ns at = ap (time_of ns) same in omega (arith, f, below, not_below)) (λ old. best.2 j old not_below)))
        (λ (late : t ≤ time_of ns at).
        subst (λ (w : Bool). IsBestOf ns t more (cond w (Some b) (cond (ltb (time_of ns at) (time_of ns b)) (Some at) (Some b)))) (sym (le-ltb (time_of ns at) t late))
        (⊎_elim
        (λ (less : time_of ns at < time_of ns b).
        subst (λ (w : Bool). IsBestOf ns t more (cond w (Some at) (Some b))) (sym (lt-ltb (time_of ns at) (time_of ns b) less))
        (more_here at refl, late, λ j e not_below. met_cases j e (λ (same : j ≡ at). let f : time_of ns j ≡ time_of ns at = ap (time_of ns) same in omega (arith, f)) (λ old. let g = best.2 j old not_below in omega (arith, g, less))))
        (λ (most : time_of ns b ≤ time_of ns at).
        subst (λ (w : Bool). IsBestOf ns t more (cond w (Some at) (Some b))) (sym (le-ltb (time_of ns at) (time_of ns b) most))
        (more_old b best.0, best.1, λ j e not_below. met_cases j e (λ (same : j ≡ at). let f : time_of ns j ≡ time_of ns at = ap (time_of ns) same in omega (arith, f, most)) (λ old. best.2 j old not_below)))
        (cases_lt (time_of ns at) (time_of ns b))))
        (cases_lt (time_of ns at) t)

    next_up : (next_of ns at ≡ p) ⊎ (is.up at < is.up (next_of ns at))
    next_up = ⊎_elim
        (λ (small : next_of ns at < 704). inl (sym (is.rings.heads (next_of ns at) (is.rings.next_in at is.at_in live_at) small) ∙ is.rings.next_place at is.at_in live_at ∙ is.at_place))
        (λ (big : 704 ≤ next_of ns at).
        let there : place_of ns (next_of ns at) ≡ place_of ns at = is.rings.next_place at is.at_in live_at in
        let rise : is.up (before_of ns (next_of ns at)) < is.up (next_of ns at) = is.rings.rises (next_of ns at) (is.rings.next_in at is.at_in live_at) big (omega (arith, there, live_at)) in
        let back : is.up (before_of ns (next_of ns at)) ≡ is.up at = ap is.up (is.rings.next_back at is.at_in live_at) in
        inr (omega (arith, rise, back)))
        (cases_lt (next_of ns at) 704)

    pub walk_goes_on : IsWalk ns p t (steps + 1) (next_of ns at) (nearer_of ns least at t)
    walk_goes_on = record {
      up = is.up;
      rings = is.rings;
      low = is.low;
      seen = more;
      count = counted;
      at_in = is.rings.next_in at is.at_in live_at;
      at_place = is.rings.next_place at is.at_in live_at ∙ is.at_place;
      closed = λ j which. ⊎_elim
          (λ (same : j ≡ at). inr (ap (next_of ns) same))
          (λ (far : j ≢ at). ⊎_elim
          (λ (old : is.seen (next_of ns j) ≡ true). inl (more_old (next_of ns j) old))
          (λ (here : next_of ns j ≡ at). inl (more_here (next_of ns j) here))
          (is.closed j (⊎_elim (λ (e : more j ≡ true). inl (sym (more_other j far) ∙ e)) (λ (e : j ≡ p). inr e) which)))
          (cases_eq j at);
      each = λ j e. met_cases j e (λ (same : j ≡ at). subst (λ (k : ℕ). IsAt ns p k) (sym same) entry_at) (λ old. is.each j old);
      later = λ j e. ⊎_elim
          (λ (home : next_of ns at ≡ p). inl home)
          (λ (rise : is.up at < is.up (next_of ns at)). inr (met_cases j e
          (λ (same : j ≡ at). let f : is.up j ≡ is.up at = ap is.up same in omega (arith, f, rise))
          (λ old. ⊎_elim (λ (here : at ≡ p). absurd (apart here)) (λ (less : is.up j < is.up at). omega (arith, less, rise)) (is.later j old))))
          next_up;
      best = best_next least is.best;
    }

    pub walk_hits : time_of ns at ≡ t → IsLeastFrom ns p t at
    walk_hits e = record { there = entry_at; late = omega (arith, e); least = λ j there late. omega (arith, e, late) }

  module _ (home : at ≡ p) where
    all_met : (j : ℕ) → IsAt ns p j → is.seen j ≡ true
    all_met j there = ⊎_elim
        (λ (e : is.seen j ≡ true). e)
        (λ (e : j ≡ p). let big = there.entry in absurd (omega (arith, e, big, is.low)))
        (reach (length ns) (next_of ns) (before_of ns) (place_of ns) is.up is.rings (λ (k : ℕ). (is.seen k ≡ true) ⊎ (k ≡ p)) p is.low (inr refl)
        (λ k within at_p which. ⊎_elim (λ (e : is.seen (next_of ns k) ≡ true). inl e) (λ (e : next_of ns k ≡ at). inr (e ∙ home)) (is.closed k which)) j there.within there.at)

    pub walk_none : least ≡ None → (j : ℕ) → IsAt ns p j → time_of ns j < t
    walk_none e j there = let best = subst (λ (o : Option ℕ). IsBestOf ns t is.seen o) e is.best in best j (all_met j there)

    pub walk_some : (b : ℕ) → least ≡ Some b → IsLeastFrom ns p t b
    walk_some b e = let best = subst (λ (o : Option ℕ). IsBestOf ns t is.seen o) e is.best in record {
      there = is.each b best.0;
      late = best.1;
      least = λ j there late. best.2 j (all_met j there) late;
    }

  -- a node of the best was met
  pub best_in : (b : ℕ) → least ≡ Some b → b < length ns
  best_in b e = let best = subst (λ (o : Option ℕ). IsBestOf ns t is.seen o) e is.best in (is.each b best.0).within
