-- Each change of a pool beside the same change of the payloads of a configuration.
use Rattle.std.proofs.Common.{◌≡◌, ◌≢◌, ◌≤◌, ◌<◌, ◌+◌, ◌-◌, ◌⊎◌, inl, inr, ℕ, suc, cond, [], ◌∷◌, ◌++◌, length, set, Option, Some, None, refl, sym, ap, ◌∙◌, ⊎_elim, arith}
use Rattle.std.specs.Prelude.{slice_get, is_some, unwrap_or, filter}
use Rattle.std.specs.Ordering.{nat_cmp}
use Rattle.std.specs.FinMap as map
use Rattle.std.proofs.lemmas.Bool.{cases_eq, cases_lt}
use Rattle.std.proofs.lemmas.Option.{none-some, same_Some}
use Rattle.std.proofs.lemmas.List.{length-append}
use Rattle.sim_model.specs.NumberedSlots.Updated.{updated}
use Rattle.sim_model.proofs.NumberedSlots.MapLemmas.{same_gets, get-updated_same, get-updated_other, is_updated, is_insert, len-updated, get-insert_same, get-insert_other, get-remove_same, get-remove_other}
use Rattle.sim_model.specs.PayloadPool.Payloads as pool
use Rattle.sim_model.specs.PayloadPool.Payloads.{one_more, one_less, rewritten, new_payload, payload_in}
use Rattle.sim_model.specs.PayloadPool.declared.payload.Payload.{Payload}
use Rattle.sim_model.specs.PayloadPool.declared.pool.Counted.{Counted}
use Rattle.sim_model.specs.Payloads.{Payloads, counted_at, live_payloads, with_made, with_acquired, with_released, with_payload}
use Rattle.kernel_transactions.specs.Board.{StandsForPool}
use Rattle.kernel_transactions.proofs.Lists.{get-set_same, get-set_past, get-set_other, length-set, get-push_last, get-push_other}

-- ---- what is counted at a number

counted_here : (ps : Payloads) (t : ℕ) (o : Option Counted) (x : Option (Option Counted)) → slice_get ps t ≡ x → (x ≡ None → o ≡ None) → counted_at (set ps t o) t ≡ o
counted_here ps t o None past none = ap (λ r. unwrap_or r None) (get-set_past ps t o past) ∙ sym (none refl)
counted_here ps t o (Some y) there none = ap (λ r. unwrap_or r None) (get-set_same ps t y o there)

counted_other : (ps : Payloads) (t u : ℕ) (o : Option Counted) → u ≢ t → counted_at (set ps t o) u ≡ counted_at ps u
counted_other ps t u o apart = ap (λ r. unwrap_or r None) (get-set_other ps t u o apart)

pub live_counted : (p : pool.Payloads) (t : ℕ) (o : Option Counted) → (pool.with_counted p t o).live ≡ updated p.live t o
live_counted p t None = refl
live_counted p t (Some c) = refl

pub next_counted : (p : pool.Payloads) (t : ℕ) (o : Option Counted) → (pool.with_counted p t o).next ≡ p.next
next_counted p t None = refl
next_counted p t (Some c) = refl

module _ (p : pool.Payloads) (ps : Payloads) (stands : StandsForPool p ps) where
  -- ---- what is counted at one number changes

  module _ (t : ℕ) (f : Option Counted → Option Counted) (nothing : f None ≡ None) where
    here : (u : ℕ) → u ≡ t → map.get (pool.with_counted p t (f (map.get p.live t))).live u ≡ counted_at (set ps t (f (counted_at ps t))) u
    here u same = ap (λ m. map.get m u) (live_counted p t (f (map.get p.live t)))
        ∙ get-updated_same p.live t (f (map.get p.live t)) u same
        ∙ ap f (stands.each t)
        ∙ sym (counted_here ps t (f (counted_at ps t)) (slice_get ps t) refl (λ past. ap (λ r. f (unwrap_or r None)) past ∙ nothing))
        ∙ ap (counted_at (set ps t (f (counted_at ps t)))) (sym same)

    there : (u : ℕ) → u ≢ t → map.get (pool.with_counted p t (f (map.get p.live t))).live u ≡ counted_at (set ps t (f (counted_at ps t))) u
    there u apart = ap (λ m. map.get m u) (live_counted p t (f (map.get p.live t)))
        ∙ get-updated_other p.live t (f (map.get p.live t)) u apart
        ∙ stands.each u
        ∙ sym (counted_other ps t u (f (counted_at ps t)) apart)

    counted : StandsForPool (pool.with_counted p t (f (map.get p.live t))) (set ps t (f (counted_at ps t)))
    counted = record {
      each = λ u. ⊎_elim (here u) (there u) (cases_eq u t);
      next = next_counted p t (f (map.get p.live t)) ∙ stands.next ∙ sym (length-set ps t (f (counted_at ps t)));
    }

  pub acquired : (t : ℕ) → StandsForPool (pool.with_acquired p t) (with_acquired ps t)
  acquired t = counted t one_more refl

  pub released : (t : ℕ) → StandsForPool (pool.with_released p t) (with_released ps t)
  released t = counted t one_less refl

  pub written : (t : ℕ) (q : Payload) → StandsForPool (pool.with_payload p t q) (with_payload ps t q)
  written t q = counted t (λ o. rewritten o q) refl

  -- ---- one more

  module _ (c : Counted) where
    new_here : (u : ℕ) → u ≡ p.next → map.get (map.insert p.live p.next c) u ≡ counted_at (ps ++ Some c ∷ []) u
    new_here u same = get-insert_same p.live p.next c u same
        ∙ sym (ap (λ r. unwrap_or r None) (get-push_last ps (Some c)))
        ∙ ap (counted_at (ps ++ Some c ∷ [])) (sym (same ∙ stands.next))

    new_there : (u : ℕ) → u ≢ p.next → map.get (map.insert p.live p.next c) u ≡ counted_at (ps ++ Some c ∷ []) u
    new_there u apart = get-insert_other p.live p.next c u apart ∙ stands.each u
        ∙ sym (ap (λ r. unwrap_or r None) (get-push_other ps (Some c) u (λ same. apart (same ∙ sym stands.next))))

  pub made : (len enables : ℕ) → StandsForPool (pool.with_made p len enables) (with_made ps len enables)
  made len enables = record {
    each = λ u. ⊎_elim (new_here (record { payload = new_payload len enables; count = 1 }) u) (new_there (record { payload = new_payload len enables; count = 1 }) u) (cases_eq u p.next);
    next = ap (λ n. n + 1) stands.next ∙ sym (length-append ps (Some (record { payload = new_payload len enables; count = 1 }) ∷ []));
  }

  -- ---- what is read

  pub payload_read : (t : ℕ) → pool.payload_of p t ≡ payload_in (counted_at ps t)
  payload_read t = ap payload_in (stands.each t)

-- ---- how many are live

-- a map that has from k on what the list has, and nothing below
live_step : (o : Option Counted) (ps : Payloads) (n m : ℕ) → m ≡ length (filter is_some ps) → n ≡ cond (is_some o) 1 0 + m → n ≡ length (filter is_some (o ∷ ps))
live_step None ps n m rest all = all ∙ ap (λ k. 0 + k) rest ∙ omega arith
live_step (Some c) ps n m rest all = all ∙ ap (λ k. 1 + k) rest ∙ omega arith

live_from : (ps : Payloads) (k : ℕ) (m : map.FinMap nat_cmp Counted) → ((t : ℕ) → map.get m (k + t) ≡ counted_at ps t) → ((t : ℕ) → t < k → map.get m t ≡ None)
    → map.len m ≡ length (filter is_some ps)
live_from [] k m from below = ap map.len (same_gets map.empty m (λ q. nowhere q (cases_lt q k) ∙ sym (map.get-empty nat_cmp q))) ∙ map.len-empty nat_cmp Counted
  where
    nowhere : (q : ℕ) → (q < k) ⊎ (k ≤ q) → map.get m q ≡ None
    nowhere q (inl before) = below q before
    nowhere q (inr after) = ap (map.get m) (let e : q ≡ k + (q - k) = omega arith in e) ∙ from (q - k)
live_from (o ∷ ps) k m from below = live_step o ps (map.len m) (map.len (map.remove m k))
    (live_from ps (k + 1) (map.remove m k)
    (λ t. get-remove_other m k (k + 1 + t) (omega arith) ∙ ap (map.get m) (let e : k + 1 + t ≡ k + suc t = omega arith in e) ∙ from (suc t))
    (λ t before. ⊎_elim (λ same. get-remove_same m k t same) (λ apart. get-remove_other m k t apart ∙ below t (omega arith)) (cases_eq t k)))
    (ap map.len (is_updated (map.remove m k) m k o (ap (map.get m) (let e : k ≡ k + 0 = omega arith in e) ∙ from 0) (λ q apart. sym (get-remove_other m k q apart)))
    ∙ len-updated (map.remove m k) k o (get-remove_same m k k refl))

pub live_read : (p : pool.Payloads) (ps : Payloads) → StandsForPool p ps → map.len p.live ≡ live_payloads ps
live_read p ps stands = live_from ps 0 p.live (λ t. ap (map.get p.live) (let e : 0 + t ≡ t = omega arith in e) ∙ stands.each t) (λ t below. absurd (let no : ⊥ = omega arith in no))

-- what a payload says already, written again
rewritten_as : (p : pool.Payloads) (t : ℕ) (q : Payload) (o : Option Counted) → map.get p.live t ≡ o → payload_in o ≡ Some q → pool.with_counted p t (rewritten o q) ≡ p
rewritten_as p t q None at is = absurd (none-some q is)
rewritten_as p t q (Some d) at is = ap (λ live. record p { live = live })
    (ap (λ r. map.insert p.live t (record d { payload = r })) (sym (same_Some d.payload q is)) ∙ sym (is_insert p.live p.live t d at (λ u apart. refl)))

pub rewritten_same : (p : pool.Payloads) (t : ℕ) (q : Payload) → pool.payload_of p t ≡ Some q → pool.with_payload p t q ≡ p
rewritten_same p t q there =
    rewritten_as p t q (map.get p.live t) refl there
