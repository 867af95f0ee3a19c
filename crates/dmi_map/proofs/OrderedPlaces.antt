-- Places while they are put in order one by one: those below a place that have something are held.
use Rattle.std.proofs.Common.{◌≡◌, ℕ, zero, suc, ◌+◌, ◌<◌, ◌≤◌, ◌↔◌, ◌⊎◌, List, ◌∷◌, length, get_or, map, sym, ap, ◌∙◌, subst, inl, inr, arith}
use Rattle.std.specs.Prelude.{Contains}
use Rattle.std.specs.List.Sorted.{IsPermutation}
use Rattle.std.proofs.lemmas.Bool.{cases_lt}
use Rattle.std.proofs.lemmas.List.{get_or-map, get_or_past, length-map}
use Rattle.std.proofs.lemmas.List.Elements.{Contains-get_or}
use Rattle.std.proofs.lemmas.List.Sorted.{Contains-permutation, IsPermutation-sym}
use Rattle.dmi_map.specs.declared.order.Rank.{Rank}
use Rattle.dmi_map.specs.Ranks.{rank_at, is_before, AreInOrder}

-- ---- ranks

-- the ranks of a list, place by place, where what stands past its end has the least
pub rank_of : {X : Type 0} (f : X → Rank) (d : X) (xs : List X) (k : ℕ) → f d ≡ record { first = 0; second = 0 } → rank_at (map f xs) k ≡ f (get_or xs k d)
rank_of f d xs k none = elim (cases_lt k (length xs)) [
  | inl below ↦ get_or-map f xs k d (record { first = 0; second = 0 }) below
  | inr past ↦
      let long = length-map xs f in
      get_or_past (map f xs) k (record { first = 0; second = 0 }) (omega arith) ∙ sym none ∙ ap f (sym (get_or_past xs k d past))
]

-- an order by the same ranks
pub order_by_same : (f g : ℕ → Rank) → ((k : ℕ) → f k ≡ g k) → (ks : List ℕ) → AreInOrder f ks → AreInOrder g ks
order_by_same f g same ks sorted i j less below =
    let x = get_or ks i 0 in
    let y = get_or ks j 0 in
    ap (λ (r : Rank). is_before r x (g y) y) (sym (same x)) ∙ ap (λ (r : Rank). is_before (f x) x r y) (sym (same y)) ∙ sorted i j less below

-- ---- one more

pub split : (p x : ℕ) (ps : List ℕ) → Contains (p ∷ ps) x → (p ≡ x) ⊎ Contains ps x
split p x ps (zero, below, is) = inl is
split p x ps (suc k, below, is) = inr (k, omega arith, is)

-- those below n that have something are held
abbrev pub HoldsBelow : (ℕ → Type 0) → List ℕ → ℕ → Type 0
HoldsBelow P ks n = (k : ℕ) → Contains ks k ↔ ((k < n) × P k)

pub all_below : (P : ℕ → Type 0) (ks : List ℕ) (n : ℕ) → HoldsBelow P ks n → (i : ℕ) → i < length ks → get_or ks i 0 < n
all_below P ks n holds i below = ((holds (get_or ks i 0)).0 (Contains-get_or ks i 0 below)).0

pub one_more : (P : ℕ → Type 0) (old new : List ℕ) (n : ℕ) → HoldsBelow P old n → IsPermutation (n ∷ old) new → P n → HoldsBelow P new (n + 1)
one_more P old new n holds same here k = (to, from)
  where
    to : Contains new k → (k < n + 1) × P k
    to held = elim (split n k old (Contains-permutation new (n ∷ old) k (IsPermutation-sym (n ∷ old) new same) held)) [
      | inl is ↦ (omega arith, subst P is here)
      | inr earlier ↦ let it = (holds k).0 earlier in (omega arith, it.1)
    ]

    from : (k < n + 1) × P k → Contains new k
    from it = Contains-permutation (n ∷ old) new k same (held (cases_lt k n))
      where
        held : (k < n) ⊎ (n ≤ k) → Contains (n ∷ old) k
        held (inl less) = let x = (holds k).1 (less, it.1) in (suc x.0, (let b = x.1 in omega arith), x.2)
        held (inr past) = (0, omega arith, (let b = it.0 in let e : n ≡ k = omega arith in e))

pub none_more : (P : ℕ → Type 0) (ks : List ℕ) (n : ℕ) → HoldsBelow P ks n → (P n → ⊥) → HoldsBelow P ks (n + 1)
none_more P ks n holds lacks k = (λ held. let it = (holds k).0 held in (omega arith, it.1), λ it. (holds k).1 (below it (cases_lt k n), it.1))
  where
    below : (k < n + 1) × P k → (k < n) ⊎ (n ≤ k) → k < n
    below it (inl less) = less
    below it (inr past) = let b = it.0 in let e : k ≡ n = omega arith in absurd (lacks (subst P e it.1))
