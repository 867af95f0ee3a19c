-- How the bound on numbers and counts goes with each change of a pool.
use Rattle.std.proofs.Common.{◌≡◌, ◌≢◌, ◌≤◌, ◌+◌, ◌-◌, ◌==◌, ℕ, Bool, true, false, cond, Option, Some, None, refl, sym, ap, ◌∙◌, ⊎_elim, arith}
use Rattle.std.specs.Prelude.{is_some}
use Rattle.std.specs.Ordering.{nat_cmp}
use Rattle.std.specs.Cmp.{nat_cmp_total}
use Rattle.std.specs.FinMap as map
use Rattle.std.proofs.lemmas.Bool.{cases_eq}
use Rattle.std.proofs.lemmas.Option.{none-some, same_Some}
use Rattle.sim_model.specs.NumberedSlots.Updated.{updated}
use Rattle.sim_model.proofs.NumberedSlots.MapLemmas.{get-updated_same, get-updated_other, get-insert_same, get-insert_other, len-insert_new, len-insert_there}
use Rattle.sim_model.specs.PayloadPool.Payloads as pool
use Rattle.sim_model.specs.PayloadPool.Payloads.{one_more, one_less, rewritten, new_payload}
use Rattle.sim_model.specs.PayloadPool.declared.payload.Payload.{Payload}
use Rattle.sim_model.specs.PayloadPool.declared.pool.Counted.{Counted}
use Rattle.kernel_transactions.specs.Board.{AreWithin}
use Rattle.kernel_transactions.proofs.Pools.{live_counted, next_counted}

-- no more entries than before, where nothing is put in where nothing was
len_removed : (m : map.FinMap nat_cmp Counted) (t : ℕ) (b : Bool) → map.len (map.remove m t) ≡ cond b (map.len m - 1) (map.len m) → map.len (map.remove m t) ≤ map.len m
len_removed m t true is = omega arith
len_removed m t false is = omega arith

len_changed : (m : map.FinMap nat_cmp Counted) (t : ℕ) (f : Option Counted → Option Counted) → f None ≡ None → (o : Option Counted) → map.get m t ≡ o → (p : Option Counted) → f o ≡ p
    → map.len (updated m t p) ≤ map.len m
len_changed m t f nothing o at None is = len_removed m t (is_some (map.get m t)) (map.len-remove nat_cmp_total m t)
len_changed m t f nothing None at (Some c) is = absurd (none-some c (sym nothing ∙ is))
len_changed m t f nothing (Some d) at (Some c) is =
    let same : map.len (map.insert m t c) ≡ map.len m = len-insert_there m t c (ap is_some at) in omega arith

module _ (n : ℕ) (p : pool.Payloads) (within : AreWithin n p) where
  -- what is counted at one number changes
  module _ (m : ℕ) (more : n ≤ m) (t : ℕ) (f : Option Counted → Option Counted) (nothing : f None ≡ None)
      (bounded : (o : Option Counted) → ((c : Counted) → o ≡ Some c → c.count ≤ n) → (d : Counted) → f o ≡ Some d → d.count ≤ m) where
    at : (u : ℕ) → u ≡ t → (d : Counted) → map.get (pool.with_counted p t (f (map.get p.live t))).live u ≡ Some d → d.count ≤ m
    at u same d there = bounded (map.get p.live t) (within.counts t) d
        (sym (get-updated_same p.live t (f (map.get p.live t)) u same) ∙ sym (ap (λ m. map.get m u) (live_counted p t (f (map.get p.live t)))) ∙ there)

    apart_from : (u : ℕ) → u ≢ t → (d : Counted) → map.get (pool.with_counted p t (f (map.get p.live t))).live u ≡ Some d → d.count ≤ m
    apart_from u apart d there =
        let before : d.count ≤ n = within.counts u d
        (sym (get-updated_other p.live t (f (map.get p.live t)) u apart) ∙ sym (ap (λ m. map.get m u) (live_counted p t (f (map.get p.live t)))) ∙ there) in
        omega arith

    counted : AreWithin m (pool.with_counted p t (f (map.get p.live t)))
    counted = record {
      numbers = let same : (pool.with_counted p t (f (map.get p.live t))).next ≡ p.next = next_counted p t (f (map.get p.live t)) in
          let before : p.next ≤ n = within.numbers in omega arith;
      counts = λ u d there. ⊎_elim (λ same. at u same d there) (λ apart. apart_from u apart d there) (cases_eq u t);
      live = let few : map.len p.live ≤ 16384 = within.live in
          let no_more : map.len (updated p.live t (f (map.get p.live t))) ≤ map.len p.live = len_changed p.live t f nothing (map.get p.live t) refl (f (map.get p.live t)) refl in
          let same : map.len (pool.with_counted p t (f (map.get p.live t))).live ≡ map.len (updated p.live t (f (map.get p.live t))) = ap map.len (live_counted p t (f (map.get p.live t))) in
          omega arith;
    }

  more_held : (o : Option Counted) → ((c : Counted) → o ≡ Some c → c.count ≤ n) → (d : Counted) → one_more o ≡ Some d → d.count ≤ n + 1
  more_held None all d is = absurd (none-some d is)
  more_held (Some c) all d is =
      let before : c.count ≤ n = all c refl in
      let same : c.count + 1 ≡ d.count = ap (λ x. x.count) (same_Some (record c { count = c.count + 1 }) d is) in omega arith

  less_by : (c d : Counted) (b : Bool) → c.count ≤ n → cond b None (Some (record c { count = c.count - 1 })) ≡ Some d → d.count ≤ n
  less_by c d true before is = absurd (none-some d is)
  less_by c d false before is = let same : c.count - 1 ≡ d.count = ap (λ x. x.count) (same_Some (record c { count = c.count - 1 }) d is) in omega arith

  less_held : (o : Option Counted) → ((c : Counted) → o ≡ Some c → c.count ≤ n) → (d : Counted) → one_less o ≡ Some d → d.count ≤ n
  less_held None all d is = absurd (none-some d is)
  less_held (Some c) all d is = less_by c d (c.count - 1 == 0) (all c refl) is

  same_held : (q : Payload) (o : Option Counted) → ((c : Counted) → o ≡ Some c → c.count ≤ n) → (d : Counted) → rewritten o q ≡ Some d → d.count ≤ n
  same_held q None all d is = absurd (none-some d is)
  same_held q (Some c) all d is =
      let before : c.count ≤ n = all c refl in
      let same : c.count ≡ d.count = ap (λ x. x.count) (same_Some (record c { payload = q }) d is) in omega arith

  pub acquired_within : (t : ℕ) → AreWithin (n + 1) (pool.with_acquired p t)
  acquired_within t = counted (n + 1) (omega arith) t one_more refl more_held

  pub released_within : (t : ℕ) → AreWithin n (pool.with_released p t)
  released_within t = counted n (omega arith) t one_less refl less_held

  pub written_within : (t : ℕ) (q : Payload) → AreWithin n (pool.with_payload p t q)
  written_within t q = counted n (omega arith) t (λ o. rewritten o q) refl (same_held q)

  -- one more payload
  pub made_within : (len enables : ℕ) → map.get p.live p.next ≡ None → map.len p.live ≢ 16384 → AreWithin (n + 1) (pool.with_made p len enables)
  made_within len enables fresh room = record {
    numbers = let before : p.next ≤ n = within.numbers in omega arith;
    counts = λ u d there. ⊎_elim
        (λ (same : u ≡ p.next).
        let one : 1 ≡ d.count = ap (λ x. x.count) (same_Some (record { payload = new_payload len enables; count = 1 }) d
        (sym (get-insert_same p.live p.next (record { payload = new_payload len enables; count = 1 }) u same) ∙ there)) in omega arith)
        (λ (apart : u ≢ p.next).
        let before : d.count ≤ n = within.counts u d (sym (get-insert_other p.live p.next (record { payload = new_payload len enables; count = 1 }) u apart) ∙ there) in omega arith)
        (cases_eq u p.next);
    live = let few : map.len p.live ≤ 16384 = within.live in
        let more : map.len (pool.with_made p len enables).live ≡ map.len p.live + 1 = len-insert_new p.live p.next (record { payload = new_payload len enables; count = 1 }) fresh in
        omega arith;
  }

-- a bound holds of what has a lower one
pub within_more : (n m : ℕ) (p : pool.Payloads) → n ≤ m → AreWithin n p → AreWithin m p
within_more n m p more within = record {
  numbers = let before : p.next ≤ n = within.numbers in omega arith;
  counts = λ t c there. let before : c.count ≤ n = within.counts t c there in omega arith;
  live = within.live;
}
