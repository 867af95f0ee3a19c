-- What holding a payload once more or once less makes of a pool.
use Rattle.std.proofs.Common.{◌≡◌, ℕ, ◌-◌, Some, None, cond, sym, ap, ◌∙◌, eq-eqb}
use Rattle.std.specs.FinMap as map
use Rattle.std.proofs.lemmas.Option.{same_Some}
use Rattle.payload_pool.specs.declared.pool.Counted.{Counted}
use Rattle.payload_pool.specs.Payloads.{Payloads, new_payload, one_more, one_less, with_counted, with_made, with_acquired, with_released}
use Rattle.numbered_slots.proofs.MapLemmas.{get-insert_same, remove_absent, remove-insert}
use Rattle.numbered_slots.specs.Numbered.{without}

-- what is not live cannot be taken out
pub without_absent : (p : Payloads) (t : ℕ) → map.get p.live t ≡ None → p ≡ without p t
without_absent p t none = ap (λ live. record p { live = live }) (remove_absent p.live t none)

pub acquired_absent : (p : Payloads) (t : ℕ) → map.get p.live t ≡ None → p ≡ with_acquired p t
acquired_absent p t none = without_absent p t none ∙ ap (λ o. with_counted p t (one_more o)) (sym none)

pub released_absent : (p : Payloads) (t : ℕ) → map.get p.live t ≡ None → p ≡ with_released p t
released_absent p t none = without_absent p t none ∙ ap (λ o. with_counted p t (one_less o)) (sym none)

-- the last that held it is gone
pub released_last : (p : Payloads) (t : ℕ) (c d : Counted) → map.get p.live t ≡ Some c → c.count - 1 ≡ 0 → without (with_counted p t (Some d)) t ≡ with_released p t
released_last p t c d there last =
    ap (λ live. record p { live = live }) (remove-insert p.live t d)
    ∙ sym (ap (λ b. with_counted p t (cond b None (Some (record c { count = c.count - 1 })))) (eq-eqb (c.count - 1) 0 last))
    ∙ ap (λ o. with_counted p t (one_less o)) (sym there)

-- a payload that was just made is held once
pub count-made : (p : Payloads) (len enables t : ℕ) → t ≡ p.next → (c : Counted) → map.get (with_made p len enables).live t ≡ Some c → c.count ≡ 1
count-made p len enables t same c there =
    ap (λ d. d.count) (same_Some c _ (sym there ∙ get-insert_same p.live p.next (record { payload = new_payload len enables; count = 1 }) t same))
