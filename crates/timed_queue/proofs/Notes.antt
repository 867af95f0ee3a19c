-- The flags of the names that may be there, after each change.
use Rattle.std.proofs.Common.{◌≡◌, ◌≢◌, ℕ, zero, suc, ◌+◌, ◌<◌, Bool, true, false, cond, not, List, [], ◌∷◌, ◌++◌, length, get_or, None, Some, refl, sym, ap, ◌∙◌, ⊎_elim, arith, eq-eqb, ne_eqb, true≢false}
use Rattle.std.specs.Prelude.{is_some, ◌==◌}
use Rattle.std.proofs.lemmas.Bool.{cases_eq}
use Rattle.std.specs.FinMap as maps
use Rattle.sim_time.specs.declared.moments.Time.{Time}
use Rattle.timed_queue.specs.Timed.{Timed, is_due, without_due, with_time}
use Rattle.timed_queue.specs.Timed as timed
use Rattle.timed_queue.specs.Alone.{IsNoted}
use Rattle.timed_queue.proofs.MapLemmas.{get-inserted, get-removed, get-retained}

abbrev pub has : Timed → ℕ → Bool
has q p = maps.contains_key q.times p

-- a name whose flag is not set is not there
pub out_by : (flags : List Bool) (test : ℕ → Bool) (name : ℕ) → IsNoted flags test → name < length flags → not (get_or flags name false) ≡ true → test name ≡ false
out_by flags test name noted within out = by_test (test name) refl
  where
    both : (b : Bool) → b ≡ true → not b ≡ true → ⊥
    both b is isnt = true≢false (sym isnt ∙ ap not is)

    by_test : (b : Bool) → test name ≡ b → test name ≡ false
    by_test true is = absurd (both (get_or flags name false) (noted.noted name is within) out)
    by_test false is = is

-- names that are not there any more need no change
pub noted_fewer : (flags : List Bool) (test test' : ℕ → Bool) → ((p : ℕ) → test' p ≡ true → test p ≡ true) → IsNoted flags test → IsNoted flags test'
noted_fewer flags test test' fewer noted = record { noted = λ p is within. noted.noted p (fewer p is) within }

pub noted_set : (flags flags' : List Bool) (q q' : Timed) (name : ℕ) (t : Time) → q' ≡ with_time q name t → length flags' ≡ length flags → (name < length flags → get_or flags' name false ≡ true)
    → ((p : ℕ) → p ≢ name → get_or flags' p false ≡ get_or flags p false) → IsNoted flags (has q) → IsNoted flags' (has q')
noted_set flags flags' q q' name t is long here others noted = record {
  noted = λ p there within. ⊎_elim
      (λ (same : p ≡ name). ap (λ k. get_or flags' k false) same ∙ here (omega (arith, within, long, same)))
      (λ (apart : p ≢ name). others p apart ∙ noted.noted p
      (sym (ap is_some (get-inserted q.times name t p ∙ ap (λ b. cond b (Some t) (maps.get q.times p)) (ne_eqb p name apart))) ∙ ap (λ (w : Timed). has w p) (sym is) ∙ there)
      (omega (arith, within, long)))
      (cases_eq p name);
}

pub noted_cleared : (flags flags' : List Bool) (q q' : Timed) (name : ℕ) → q' ≡ timed.without q name → length flags' ≡ length flags
    → ((p : ℕ) → p ≢ name → get_or flags' p false ≡ get_or flags p false) → IsNoted flags (has q) → IsNoted flags' (has q')
noted_cleared flags flags' q q' name is long others noted = record {
  noted = λ p there within.
      let left : is_some (cond (p == name) None (maps.get q.times p)) ≡ true = sym (ap is_some (get-removed q.times name p)) ∙ ap (λ (w : Timed). has w p) (sym is) ∙ there in ⊎_elim
      (λ (same : p ≡ name). absurd (true≢false (sym left ∙ ap (λ b. is_some (cond b None (maps.get q.times p))) (eq-eqb p name same))))
      (λ (apart : p ≢ name). others p apart ∙ noted.noted p
      (sym (ap (λ b. is_some (cond b None (maps.get q.times p))) (ne_eqb p name apart)) ∙ left)
      (omega (arith, within, long)))
      (cases_eq p name);
}

-- those that are not due were there
pub was_there : (q q' : Timed) (t : Time) → q' ≡ without_due q t → (p : ℕ) → has q' p ≡ true → has q p ≡ true
was_there q q' t is p there = by_test (not (is_due q.times t p)) (sym (ap is_some (get-retained q.times (λ k. not (is_due q.times t k)) p)) ∙ ap (λ (w : Timed). has w p) (sym is) ∙ there)
  where
    by_test : (b : Bool) → is_some (cond b (maps.get q.times p) None) ≡ true → has q p ≡ true
    by_test true h = h
    by_test false h = absurd (true≢false (sym h))

-- a flag more, which is set
pub noted_pushed : (flags flags' : List Bool) (test : ℕ → Bool) → flags' ≡ flags ++ true ∷ [] → IsNoted flags test → IsNoted flags' test
noted_pushed flags flags' test is noted = record {
  noted = λ p there within. ap (λ fs. get_or fs p false) is ∙ more flags p (λ low. noted.noted p there low) (omega (arith, within, ap length is, longer flags));
}
  where
    longer : (fs : List Bool) → length (fs ++ true ∷ []) ≡ length fs + 1
    longer [] = refl
    longer (f ∷ fs) = omega (arith, longer fs)

    more : (fs : List Bool) (p : ℕ) → (p < length fs → get_or fs p false ≡ true) → p < length fs + 1 → get_or (fs ++ true ∷ []) p false ≡ true
    more [] zero old within = refl
    more [] (suc p) old within = absurd (omega (arith, within))
    more (f ∷ fs) zero old within = old (omega arith)
    more (f ∷ fs) (suc p) old within = more fs p (λ low. old (omega (arith, low))) (omega (arith, within))
