-- The instances whose wait an event meets, in rising order.
use Rattle.std.proofs.Common.{◌≡◌, ℕ, zero, suc, ◌+◌, ◌<◌, ◌≤◌, ◌≢◌, Bool, true, false, true≢false, cond, ◌&&◌, List, [], ◌∷◌, ◌++◌, length, get_or, drop, Option, Some, None, refl, sym, ap, ◌∙◌, subst, arith, ⊎_elim, append-nil, add-one, ◌-◌}
use Rattle.std.specs.Prelude.{is_some, is_none, ◌==◌}
use Rattle.std.specs.List.Sorted.{IsStrictlyIncreasing}
use Rattle.std.specs.FinMap as maps
use Rattle.std.proofs.lemmas.Bool.{cases_eq, cases_lt}
use Rattle.std.proofs.lemmas.List.{length-append, get_or_append_left, drop_at}
use Rattle.std.proofs.lemmas.List.Sums.{sum_by-append}
use Rattle.std.proofs.Math.Seq.{get_or-append_seam}
use Rattle.event_core.specs.declared.event.Ev.{Ev}
use Rattle.wait_lists.specs.Waits.{Wait, Waits, names, left_by, after, named_by, waits_for, waits_naming, wait_after, is_met_by, AddsEach}
use Rattle.wait_lists.proofs.Counted.{times, times-same, times-other, length-le_keys}

met-named : (mark : Bool) (e : Ev) (wait : Option Wait) → (is_some wait && is_none (after mark e wait)) ≡ true → named_by e wait ≡ true
met-named true e None met = met
met-named true e (Some w) met = absurd (true≢false (sym met))
met-named false e None met = met
met-named false e (Some w) met = by_names (names e w) met
  where
    by_names : (b : Bool) → is_none (cond b (left_by e w) (Some w)) ≡ true → b ≡ true
    by_names true is = refl
    by_names false is = absurd (true≢false (sym is))

after-unnamed : (mark : Bool) (e : Ev) (wait : Option Wait) → named_by e wait ≡ false → after mark e wait ≡ wait
after-unnamed true e wait apart = refl
after-unnamed false e None apart = refl
after-unnamed false e (Some w) apart = ap (λ b. cond b (left_by e w) (Some w)) apart

named-some : (e : Ev) (wait : Option Wait) → named_by e wait ≡ true → is_some wait ≡ true
named-some e None named = named
named-some e (Some w) named = refl

pub at_most_one : (b : Bool) → cond b 1 0 ≤ 1
at_most_one true = omega arith
at_most_one false = omega arith

pub counted : (b : Bool) → 1 ≤ cond b 1 0 → b ≡ true
counted true is = refl
counted false is = absurd (omega arith)

module _ (w : Waits) (e : Ev) where
  -- one that does not wait for the event is passed by
  pub wait_after-unnamed : (p : ℕ) → waits_for w p e ≡ false → wait_after w p e ≡ maps.get w.waits p
  wait_after-unnamed p apart = after-unnamed _ e (maps.get w.waits p) apart

  pub unmet : (p : ℕ) → waits_for w p e ≡ false → is_met_by w p e ≡ false
  unmet p apart = elim (is_met_by w p e) as (λ b. is_met_by w p e ≡ b → b ≡ false) [
    | true ↦ λ met. absurd (true≢false (sym (met-named _ e (maps.get w.waits p) met) ∙ apart))
    | false ↦ λ _. refl
  ] refl

  get-naming : (p : ℕ) → maps.get (waits_naming w e) p ≡ cond (waits_for w p e) (maps.get w.waits p) None
  get-naming p = maps.get-retain_keys w.waits (λ q. waits_for w q e) p (λ x tied. ap (λ q. waits_for w q e) (sym (maps.nat_cmp-IsAntisymmetric p x tied)))

  pub naming-waits : (p : ℕ) → waits_for w p e ≡ true → maps.contains_key (waits_naming w e) p ≡ true
  naming-waits p named = ap is_some (get-naming p) ∙ ap (λ b. is_some (cond b (maps.get w.waits p) None)) named ∙ named-some e (maps.get w.waits p) named

  pub naming-met : (p : ℕ) → is_met_by w p e ≡ true → maps.contains_key (waits_naming w e) p ≡ true
  naming-met p met = naming-waits p (met-named _ e (maps.get w.waits p) met)

  pub waits-naming : (p : ℕ) → maps.contains_key (waits_naming w e) p ≡ true → maps.contains_key w.waits p ≡ true
  waits-naming p is = by_test (waits_for w p e) (sym (ap is_some (get-naming p)) ∙ is)
    where
      by_test : (b : Bool) → is_some (cond b (maps.get w.waits p) None) ≡ true → is_some (maps.get w.waits p) ≡ true
      by_test true is = is
      by_test false is = absurd (true≢false (sym is))

  -- p, if it is met
  abbrev pub one : ℕ → List ℕ
  one p = cond (is_met_by w p e) (p ∷ []) []

  -- those below n that are met
  abbrev pub met_below : ℕ → List ℕ
  met_below zero = []
  met_below (suc n) = met_below n ++ one n

  times-one_same : (b : Bool) (p : ℕ) → times p (cond b (p ∷ []) []) ≡ cond b 1 0
  times-one_same true p = times-same p p [] refl
  times-one_same false p = refl

  times-one_other : (b : Bool) (p q : ℕ) → p ≢ q → times q (cond b (p ∷ []) []) ≡ 0
  times-one_other true p q apart = times-other q p [] apart
  times-one_other false p q apart = refl

  times-append : (q : ℕ) (xs ys : List ℕ) → times q (xs ++ ys) ≡ times q xs + times q ys
  times-append q xs ys = sum_by-append (λ x. cond (x == q) 1 0) xs ys

  times-past : (n q : ℕ) → n ≤ q → times q (met_below n) ≡ 0
  times-past zero q past = refl
  times-past (suc n) q past = omega (arith, times-append q (met_below n) (one n), times-past n q (omega arith), times-one_other (is_met_by w n e) n q (λ same. absurd (omega arith)))

  times-below : (n q : ℕ) → q < n → times q (met_below n) ≡ cond (is_met_by w q e) 1 0
  times-below zero q below = absurd (omega arith)
  times-below (suc n) q below = ⊎_elim
      (λ (same : n ≡ q). omega (
        arith,
        times-append q (met_below n) (one n),
        times-past n q (omega arith),
        ap (λ k. times k (one n)) (sym same) ∙ times-one_same (is_met_by w n e) n ∙ ap (λ k. cond (is_met_by w k e) 1 0) same,
      ))
      (λ apart. omega (arith, times-append q (met_below n) (one n), times-below n q (omega arith), times-one_other (is_met_by w n e) n q apart))
      (cases_eq n q)

  -- no more than those that wait for the event
  pub length-met_below : (n : ℕ) → length (met_below n) ≤ maps.len (waits_naming w e)
  length-met_below n = length-le_keys (waits_naming w e) (met_below n)
      (λ q. ⊎_elim
      (λ below. omega (arith, times-below n q below, at_most_one (is_met_by w q e)))
      (λ past. omega (arith, times-past n q past))
      (cases_lt q n))
      (λ q stands. ⊎_elim
      (λ below. naming-met q (counted (is_met_by w q e) (omega (arith, times-below n q below))))
      (λ past. absurd (omega (arith, times-past n q past)))
      (cases_lt q n))

  below_push : (xs : List ℕ) (n : ℕ) (b : Bool) → ((k : ℕ) → k < length xs → get_or xs k 0 < n) → (k : ℕ) → k < length (xs ++ cond b (n ∷ []) []) → get_or (xs ++ cond b (n ∷ []) []) k 0 < suc n
  below_push xs n true below k inside = ⊎_elim
      (λ before. omega (arith, get_or_append_left xs (n ∷ []) 0 k before, below k before))
      (λ past. let last : k ≡ length xs = omega (arith, length-append xs (n ∷ [])) in omega (arith, ap (λ j. get_or (xs ++ n ∷ []) j 0) last, get_or-append_seam xs n [] 0))
      (cases_lt k (length xs))
  below_push xs n false below k inside = omega (arith, ap (λ l. get_or l k 0) (append-nil xs), ap length (append-nil xs), below k (omega (arith, ap length (append-nil xs))))

  met_below-below : (n k : ℕ) → k < length (met_below n) → get_or (met_below n) k 0 < n
  met_below-below zero k inside = absurd (omega arith)
  met_below-below (suc n) k inside = below_push (met_below n) n (is_met_by w n e) (met_below-below n) k inside

  rising_push : (xs : List ℕ) (n : ℕ) (b : Bool) → ((k : ℕ) → k < length xs → get_or xs k 0 < n) → IsStrictlyIncreasing xs → IsStrictlyIncreasing (xs ++ cond b (n ∷ []) [])
  rising_push xs n true below rising k inside =
      let before : k < length xs = omega (arith, length-append xs (n ∷ [])) in ⊎_elim
      (λ next. omega (arith, get_or_append_left xs (n ∷ []) 0 k before, get_or_append_left xs (n ∷ []) 0 (k + 1) next, rising k next))
      (λ past. let last : k + 1 ≡ length xs = omega arith in
      omega (arith, get_or_append_left xs (n ∷ []) 0 k before, ap (λ j. get_or (xs ++ n ∷ []) j 0) last, get_or-append_seam xs n [] 0, below k before))
      (cases_lt (k + 1) (length xs))
  rising_push xs n false below rising k inside = omega (
    arith,
    ap (λ l. get_or l k 0) (append-nil xs),
    ap (λ l. get_or l (k + 1) 0) (append-nil xs),
    rising k (omega (arith, ap length (append-nil xs))),
  )

  pub rising-met_below : (n : ℕ) → IsStrictlyIncreasing (met_below n)
  rising-met_below zero k inside = absurd (omega arith)
  rising-met_below (suc n) k inside = rising_push (met_below n) n (is_met_by w n e) (met_below-below n) (rising-met_below n) k inside

  -- where none waits from one serial up to another, no more are met
  skipped : (from d : ℕ) → ((q : ℕ) → from ≤ q → q < from + d → waits_for w q e ≡ false) → met_below (from + d) ≡ met_below from
  skipped from zero none = let same : from + 0 ≡ from = omega arith in ap met_below same
  skipped from (suc d) none =
      let next : from + suc d ≡ suc (from + d) = omega arith in
      ap met_below next
      ∙ ap (λ b. met_below (from + d) ++ cond b ((from + d) ∷ []) []) (unmet (from + d) (none (from + d) (omega arith) (omega arith)))
      ∙ append-nil (met_below (from + d))
      ∙ skipped from d (λ q after before. none q after (omega arith))

  pub met_below-next : (from p : ℕ) → from ≤ p → ((q : ℕ) → from ≤ q → q < p → waits_for w q e ≡ false) → met_below (p + 1) ≡ met_below from ++ one p
  met_below-next from p le none =
      let d : (d : ℕ) × (p ≡ from + d) = (p - from, omega arith) in
      ap met_below (add-one p) ∙ ap (λ l. l ++ one p) (ap met_below d.1 ∙ skipped from d.0 (λ q after before. none q after (omega arith)))

  -- once all that wait are passed, each that is met stands once, and no other
  pub adds_each : (old new : List ℕ) (from : ℕ) → new ≡ old ++ met_below from → ((q : ℕ) → from ≤ q → waits_for w q e ≡ false) → AddsEach old new (λ p. is_met_by w p e)
  adds_each old new from is none = record {
    added = met_below from;
    behind = is;
    once = λ q. ⊎_elim
        (times-below from q)
        (λ past. times-past from q past ∙ ap (λ b. cond b 1 0) (sym (unmet q (none q past))))
        (cases_lt q from);
  }

  pub rising_behind : (old new : List ℕ) (from : ℕ) → new ≡ old ++ met_below from → IsStrictlyIncreasing (drop (length old) new)
  rising_behind old new from is =
      let same : drop (length old) new ≡ met_below from = ap (drop (length old)) is ∙ drop_at old (met_below from) (length old) refl in
      let P : List ℕ → Type 0 = λ l. IsStrictlyIncreasing l in subst P (sym same) (rising-met_below from)
