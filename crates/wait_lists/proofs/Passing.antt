-- How far an event has gone over the waits.
use Rattle.std.proofs.Common.{◌≡◌, ℕ, ◌+◌, ◌≤◌, ◌≢◌, Bool, true, false, true≢false, cond, ◌&&◌, List, [], ◌∷◌, ◌++◌, length, Option, Some, None, refl, sym, ap, ◌∙◌, arith, ⊎_elim}
use Rattle.std.specs.Prelude.{is_some, is_none, ◌==◌}
use Rattle.std.specs.FinMap as maps
use Rattle.std.specs.FinSet as sets
use Rattle.std.proofs.lemmas.Bool.{cases_eq}
use Rattle.std.proofs.lemmas.List.Sums.{sum_by-append}
use Rattle.event_core.specs.declared.event.Ev.{Ev}
use Rattle.wait_lists.specs.Waits.{Wait, Waits, after, named_by, waits_for, waits_naming, wait_after, is_met_by, with_wait, AddsEach}
use Rattle.numbered_slots.proofs.MapLemmas.{get-updated_same, get-updated_other}
use Rattle.wait_lists.proofs.Counted.{times, times-same, times-other, length-le_keys}
use Rattle.wait_lists.proofs.MetLemmas.{wait_after-unnamed, naming-met, naming-waits, at_most_one, counted}

-- the event has struck some of the waits, and those that are added are met
pub record Passed (first now : Waits) (e : Ev) (added : List ℕ) : Type 0 where
  pub rest : now ≡ record first { waits = now.waits }
  -- what it leaves of each wait in the end is the same
  pub ends : (p : ℕ) → wait_after now p e ≡ wait_after first p e
  pub named : (p : ℕ) → waits_for now p e ≡ true → waits_for first p e ≡ true
  pub once : (p : ℕ) → times p added ≡ cond (is_some (maps.get first.waits p) && is_none (maps.get now.waits p)) 1 0

some_none : {X : Type 0} (o : Option X) → (is_some o && is_none o) ≡ false
some_none None = refl
some_none (Some x) = refl

pub passed_none : (w : Waits) (e : Ev) → Passed w w e []
passed_none w e = record { rest = refl; ends = λ _. refl; named = λ _ is. is; once = λ p. sym (ap (λ b. cond b 1 0) (some_none (maps.get w.waits p))) }

named-some : (e : Ev) (o : Option Wait) → named_by e o ≡ true → is_some o ≡ true
named-some e None is = is
named-some e (Some w) is = refl

not_none : {X : Type 0} (o : Option X) → is_some o ≡ true → is_none o ≡ false
not_none None is = absurd (true≢false (sym is))
not_none (Some x) is = refl

and_false : (b : Bool) → (b && false) ≡ false
and_false true = refl
and_false false = refl

module _ (first now : Waits) (e : Ev) (added : List ℕ) (passed : Passed first now e added) where
  -- one that is struck yet was not added
  pub not-added : (p : ℕ) → waits_for now p e ≡ true → times p added ≡ 0
  not-added p is = passed.once p ∙ ap (λ b. cond (is_some (maps.get first.waits p) && b) 1 0) (not_none (maps.get now.waits p) (named-some e (maps.get now.waits p) is)) ∙ ap (λ b. cond b 1 0) (and_false (is_some (maps.get first.waits p)))

  added-met : (p : ℕ) → 1 ≤ times p added → is_met_by first p e ≡ true
  added-met p some = by_wait (maps.get now.waits p) refl
      (counted (is_some (maps.get first.waits p) && is_none (maps.get now.waits p)) (omega (arith, passed.once p, some)))
    where
      none_after : (b : Bool) → after b e None ≡ None
      none_after true = refl
      none_after false = refl

      first_true : (b c : Bool) → (b && c) ≡ true → b ≡ true
      first_true true c is = refl
      first_true false c is = is

      by_wait : (o : Option Wait) → maps.get now.waits p ≡ o → (is_some (maps.get first.waits p) && is_none o) ≡ true → is_met_by first p e ≡ true
      by_wait None gone both =
          ap (λ b. b && is_none (wait_after first p e)) (first_true (is_some (maps.get first.waits p)) true both)
          ∙ ap is_none (sym (passed.ends p) ∙ ap (after (sets.contains now.muted p) e) gone ∙ none_after (sets.contains now.muted p))
      by_wait (Some w) there both = absurd (true≢false (sym both ∙ and_false (is_some (maps.get first.waits p))))

  -- there is room for one more that waits for the event
  pub room-more : (p : ℕ) → waits_for now p e ≡ true → length added + 1 ≤ maps.len (waits_naming first e)
  room-more p is = omega (
    arith,
    length-le_keys (waits_naming first e) (p ∷ added)
        (λ q. ⊎_elim
        (λ (same : p ≡ q). omega (arith, times-same q p added same, ap (λ k. times k added) (sym same) ∙ not-added p is))
        (λ apart. omega (arith, times-other q p added apart, passed.once q, at_most_one (is_some (maps.get first.waits q) && is_none (maps.get now.waits q))))
        (cases_eq p q))
        (λ q some. ⊎_elim
        (λ (same : p ≡ q). naming-waits first e q (ap (λ k. waits_for first k e) (sym same) ∙ passed.named p is))
        (λ apart. naming-met first e q (added-met q (omega (arith, times-other q p added apart))))
        (cases_eq p q)),
  )

  -- one wait that is not muted is struck
  module _ (new : Waits) (p : ℕ) (wait : Option Wait) (is : new ≡ with_wait now p wait) (waits : waits_for now p e ≡ true) (same_end : after (sets.contains now.muted p) e wait ≡ wait_after now p e) where
    get_same : maps.get new.waits p ≡ wait
    get_same = ap (λ w. maps.get w.waits p) is ∙ get-updated_same now.waits p wait p refl

    get_other : (q : ℕ) → q ≢ p → maps.get new.waits q ≡ maps.get now.waits q
    get_other q apart = ap (λ w. maps.get w.waits q) is ∙ get-updated_other now.waits p wait q apart

    muted_same : new.muted ≡ now.muted
    muted_same = ap (λ w. w.muted) is

    pub passed_more : Passed first new e (added ++ cond (is_none wait) (p ∷ []) [])
    passed_more = record {
      rest = is ∙ ap (λ w. with_wait w p wait) passed.rest ∙ ap (λ m. record first { waits = m }) (sym (ap (λ w. w.waits) is));
      ends = λ q. ⊎_elim
          (λ (same : q ≡ p). ap (λ k. wait_after new k e) same ∙ (λ i. after (sets.contains (muted_same i) p) e (get_same i)) ∙ same_end ∙ passed.ends p ∙ ap (λ k. wait_after first k e) (sym same))
          (λ apart. (λ i. after (sets.contains (muted_same i) q) e (get_other q apart i)) ∙ passed.ends q)
          (cases_eq q p);
      named = λ q named. ⊎_elim
          (λ (same : q ≡ p). ap (λ k. waits_for first k e) same ∙ passed.named p waits)
          (λ apart. passed.named q (ap (named_by e) (sym (get_other q apart)) ∙ named))
          (cases_eq q p);
      once = λ q. sum_by-append (λ x. cond (x == q) 1 0) added (cond (is_none wait) (p ∷ []) []) ∙ ⊎_elim
          (λ (same : q ≡ p).
          let was : is_some (maps.get first.waits p) ≡ true = named-some e (maps.get first.waits p) (passed.named p waits) in
          (λ i. (ap (λ k. times k added) same ∙ not-added p waits) i + (ap (λ k. times k (cond (is_none wait) (p ∷ []) [])) same ∙ one (is_none wait)) i)
          ∙ zero_add (cond (is_none wait) 1 0)
          ∙ sym (ap (λ k. cond (is_some (maps.get first.waits k) && is_none (maps.get new.waits k)) 1 0) same ∙ (λ i. cond (was i && is_none (get_same i)) 1 0)))
          (λ apart.
          (λ i. times q added + other (is_none wait) q apart i) ∙ add_zero (times q added) ∙ passed.once q ∙ sym (ap (λ o. cond (is_some (maps.get first.waits q) && is_none o) 1 0) (get_other q apart)))
          (cases_eq q p);
    }
      where
        zero_add : (n : ℕ) → 0 + n ≡ n
        zero_add n = omega arith

        add_zero : (n : ℕ) → n + 0 ≡ n
        add_zero n = omega arith

        one : (b : Bool) → times p (cond b (p ∷ []) []) ≡ cond b 1 0
        one true = times-same p p [] refl
        one false = refl

        other : (b : Bool) (q : ℕ) → q ≢ p → times q (cond b (p ∷ []) []) ≡ 0
        other true q apart = times-other q p [] (λ e. apart (sym e))
        other false q apart = refl

  -- once all that still wait for the event are muted
  module _ (done : (p : ℕ) → waits_for now p e ≡ true → sets.contains now.muted p ≡ true) where
    pub passed_struck : (p : ℕ) → maps.get now.waits p ≡ wait_after first p e
    passed_struck p = sym (by_mark (sets.contains now.muted p) refl) ∙ passed.ends p
      where
        by_mark : (b : Bool) → sets.contains now.muted p ≡ b → wait_after now p e ≡ maps.get now.waits p
        by_mark true marked = ap (λ b. after b e (maps.get now.waits p)) marked
        by_mark false free = wait_after-unnamed now e p (by_name (waits_for now p e) refl)
          where
            by_name : (b : Bool) → waits_for now p e ≡ b → b ≡ false
            by_name true is = absurd (true≢false (sym (done p is) ∙ free))
            by_name false is = refl

    pub passed_met : (out more : List ℕ) → more ≡ out ++ added → AddsEach out more (λ p. is_met_by first p e)
    passed_met out more behind = record {
      added = added;
      behind = behind;
      once = λ p. passed.once p ∙ ap (λ o. cond (is_some (maps.get first.waits p) && is_none o) 1 0) (passed_struck p);
    }
