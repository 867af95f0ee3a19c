-- A pool with one payload more.
use Rattle.std.proofs.Common.{◌≡◌, ◌≢◌, ℕ, ◌+◌, List, [], ◌∷◌, ◌++◌, length, Option, Some, refl, sym, ap, ◌∙◌, inl, inr, arith}
use Rattle.std.specs.FinMap as map
use Rattle.std.specs.Ordering.{nat_cmp}
use Rattle.std.proofs.lemmas.Bool.{cases_lt}
use Rattle.std.proofs.lemmas.List.{get_or_append_left, get_or_push, length-append}
use Rattle.numbered_slots.proofs.MapLemmas.{get-insert_same, get-insert_other}
use Rattle.traffic_file.specs.PayloadPool.Payloads.{Payloads, with_made, with_payload, with_counted, rewritten, new_payload}
use Rattle.traffic_file.specs.PayloadPool.declared.payload.Payload.{Payload}
use Rattle.traffic_file.specs.PayloadPool.declared.pool.Counted.{Counted}
use Rattle.traffic_file.specs.PayloadPool.declared.payload.TheConstants.{IGNORE, INCOMPLETE}
use Rattle.bus_router.specs.Pools.{IsPoolOf}

abbrev no_payload : Payload
no_payload = record { command = IGNORE; address = 0; bytes = []; enables = []; width = 0; status = INCOMPLETE }

abbrev held_once : Payload → Option Counted
held_once p = Some (record { payload = p; count = 1 })

module _ (pool : Payloads) (p : Payload) where
  abbrev made : Payloads
  made = with_made pool 1 0

  -- what stands under the next number once a payload is made
  made_there : map.get made.live pool.next ≡ Some (record { payload = new_payload 1 0; count = 1 })
  made_there = get-insert_same pool.live pool.next (record { payload = new_payload 1 0; count = 1 }) pool.next refl

  added : Payloads
  added = with_counted made pool.next (Some (record { payload = p; count = 1 }))

  added_is : with_payload made pool.next p ≡ with_counted made pool.next (Some (record { payload = p; count = 1 }))
  added_is = ap (λ o. with_counted made pool.next (rewritten o p)) made_there

  there : (k : ℕ) → k ≡ pool.next → map.get (with_payload made pool.next p).live k ≡ Some (record { payload = p; count = 1 })
  there k is = ap (λ (q : Payloads). map.get q.live k) added_is ∙ get-insert_same made.live pool.next (record { payload = p; count = 1 }) k is

  elsewhere : (k : ℕ) → k ≢ pool.next → map.get (with_payload made pool.next p).live k ≡ map.get pool.live k
  elsewhere k apart =
      ap (λ (q : Payloads). map.get q.live k) added_is
      ∙ get-insert_other made.live pool.next (record { payload = p; count = 1 }) k apart
      ∙ get-insert_other pool.live pool.next (record { payload = new_payload 1 0; count = 1 }) k apart

  next_is : (with_payload made pool.next p).next ≡ pool.next + 1
  next_is = ap (λ (q : Payloads). q.next) added_is

  pub pool_more : (payloads : List Payload) → IsPoolOf payloads pool → IsPoolOf (payloads ++ p ∷ []) (with_payload (with_made pool 1 0) pool.next p)
  pool_more payloads it = record {
    made = next_is ∙ ap (λ n. n + 1) it.made ∙ sym (length-append payloads (p ∷ []));
    each = λ k below. elim (cases_lt k (length payloads)) [
      | inl earlier ↦
          let next = it.made in
          elsewhere k (λ e. absurd (omega arith)) ∙ it.each k earlier ∙ ap held_once (sym (get_or_append_left payloads (p ∷ []) no_payload k earlier))
      | inr from ↦
          let long = length-append payloads (p ∷ []) in
          let e : length payloads ≡ k = omega arith in
          there k (sym e ∙ sym it.made) ∙ ap held_once (sym (get_or_push payloads p no_payload k e))
    ];
    none = λ k past.
        let long = length-append payloads (p ∷ []) in
        let next = it.made in
        elsewhere k (λ e. absurd (omega arith)) ∙ it.none k (omega arith);
  }

pub pool_none : (pool : Payloads) → pool.live ≡ map.empty → pool.next ≡ 0 → IsPoolOf [] pool
pool_none pool empty first = record {
  made = first;
  each = λ k below. absurd (omega arith);
  none = λ k past. ap (λ m. map.get m k) empty ∙ map.get-empty nat_cmp k;
}
