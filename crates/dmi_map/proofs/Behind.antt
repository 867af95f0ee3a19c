-- A place behind another comes behind all that stand before that one.
use Rattle.std.proofs.Common.{◌≡◌, ℕ, ◌+◌, ◌<◌, false, List, length, get_or, subst, inl, inr, arith}
use Rattle.std.proofs.lemmas.Bool.{cases_lt}
use Rattle.dmi_map.specs.declared.order.Rank.{Rank}
use Rattle.dmi_map.specs.Ranks.{is_before, ComesBefore, AreInOrder}
use Rattle.dmi_map.proofs.Orders.{before_trans, before_or_behind}

pub before_all : (ranks : ℕ → Rank) (places : List ℕ) (at k : ℕ) → AreInOrder ranks places → at < length places → get_or places at 0 < k
    → is_before (ranks k) k (ranks (get_or places at 0)) (get_or places at 0) ≡ false
    → (i : ℕ) → i < at + 1 → ComesBefore ranks (get_or places i 0) k
before_all ranks places at k sorted within less is_not i below =
    let last = before_or_behind (ranks (get_or places at 0)) (get_or places at 0) (ranks k) k less is_not in
    elim (cases_lt i at) [
      | inl earlier ↦ before_trans (ranks (get_or places i 0)) (get_or places i 0) (ranks (get_or places at 0)) (get_or places at 0) (ranks k) k (sorted i at earlier within) last
      | inr from ↦ let e : at ≡ i = omega arith in subst (λ n. ComesBefore ranks (get_or places n 0) k) e last
    ]
