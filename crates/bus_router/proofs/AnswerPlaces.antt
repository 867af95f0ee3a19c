-- What is listed place by place.
use Rattle.std.proofs.Common.{◌≡◌, ℕ, ◌+◌, ◌<◌, ◌≤◌, Bool, true, false, cond, List, [], ◌∷◌, ◌++◌, length, get_or, Option, Some, refl, ap, ◌∙◌, subst, inl, inr, arith}
use Rattle.std.specs.Prelude.{find}
use Rattle.std.specs.Option.{option_map_or}
use Rattle.std.proofs.lemmas.Bool.{cases_lt, and_parts, leb-true}
use Rattle.std.proofs.lemmas.List.{get_or_append_left, get_or_push}
use Rattle.traffic_file.specs.DmiMap.declared.ranges.TargetRange.{TargetRange}
use Rattle.traffic_file.specs.DmiMap.Ranges.{has}
use Rattle.traffic_file.specs.declared.Bus.{Bus}
use Rattle.traffic_file.specs.Traffic.{line_at}
use Rattle.traffic_file.specs.TextLines.declared.actions.BusAction.{BusAction}
use Rattle.traffic_file.specs.TextLines.declared.actions.BusAction.TheVariants.{Get, Put}
use Rattle.traffic_file.specs.PayloadPool.declared.payload.Payload.{Payload}
use Rattle.bus_router.specs.Answers.{asked_by, asked, low_of}

-- one more at the end
pub push_each : {X : Type 0} (f : ℕ → X) (d : X) (xs : List X) (i : ℕ) (x : X) → length xs ≡ i → ((k : ℕ) → k < i → get_or xs k d ≡ f k) → x ≡ f i
    → (k : ℕ) → k < i + 1 → get_or (xs ++ x ∷ []) k d ≡ f k
push_each f d xs i x many each is k below = elim (cases_lt k i) [
  | inl less ↦ get_or_append_left xs (x ∷ []) d k (omega arith) ∙ each k less
  | inr from ↦
      let e : i ≡ k = omega arith in
      subst (λ n. get_or (xs ++ x ∷ []) n d ≡ f n) e (get_or_push xs x d i many ∙ is)
]

low_step : (address : ℕ) (range : TargetRange) (rest : Option TargetRange) (b : Bool) → has address range ≡ b
    → option_map_or (λ (r : TargetRange). r.low) rest 0 ≤ address → option_map_or (λ (r : TargetRange). r.low) (cond b (Some range) rest) 0 ≤ address
low_step address range rest true is below = leb-true range.low address (and_parts _ _ is).0
low_step address range rest false is below = below

low_found : (address : ℕ) (ranges : List TargetRange) → option_map_or (λ (range : TargetRange). range.low) (find (has address) ranges) 0 ≤ address
low_found address [] = omega arith
low_found address (range ∷ ranges) = low_step address range (find (has address) ranges) (has address range) refl (low_found address ranges)

-- the home of an access does not begin above its address
pub low_within : (bus : Bus) (k : ℕ) → low_of bus k ≤ (line_at bus k).address
low_within bus k = low_found (line_at bus k).address bus.map

asked_address : (address : ℕ) (action : BusAction) → (asked_by address action).address ≡ address
asked_address address (Get len) = refl
asked_address address (Put bytes) = refl

-- what is asked of a home does not lie below its first address
pub low_reached : (bus : Bus) (k low : ℕ) (p : Payload) → low ≡ low_of bus k → p ≡ asked bus k → low ≤ p.address
low_reached bus k low p low_is is =
    let address = ap (λ (q : Payload). q.address) is ∙ asked_address (line_at bus k).address (line_at bus k).action in
    let below = low_within bus k in
    omega arith
