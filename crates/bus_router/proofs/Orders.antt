-- The last of some accesses, in the order of the file and in the order in which they arrive.
use Rattle.std.proofs.Common.{◌≡◌, ◌≢◌, ℕ, zero, suc, ◌<◌, ◌≤◌, ◌⊎◌, subst, sym, inl, inr, arith}
use Rattle.std.proofs.lemmas.Bool.{cases_eq, cases_lt}
use Rattle.bus_router.specs.Times.{Table, Earlier}

-- ---- the last place below n at which f is i

pub record LastAt (f : ℕ → ℕ) (i n : ℕ) : Type 0 where
  pub place : ℕ
  pub below : place < n
  pub is : f place ≡ i
  pub none_after : (m : ℕ) → place < m → m < n → f m ≢ i

abbrev pub IsNowhereBelow : (ℕ → ℕ) → ℕ → ℕ → Type 0
IsNowhereBelow f i n = (m : ℕ) → m < n → f m ≢ i

pub last_at : (f : ℕ → ℕ) (i n : ℕ) → IsNowhereBelow f i n ⊎ LastAt f i n
last_at f i zero = inl (λ m below same. absurd (omega arith))
last_at f i (suc n) = step (cases_eq (f n) i) (last_at f i n)
  where
    step : (f n ≡ i) ⊎ (f n ≢ i) → IsNowhereBelow f i n ⊎ LastAt f i n → IsNowhereBelow f i (suc n) ⊎ LastAt f i (suc n)
    step (inl same) before = inr (record { place = n; below = omega arith; is = same; none_after = λ m above below is. absurd (omega arith) })
    step (inr apart) (inl none) = inl (λ m below is. elim (cases_eq m n) [ inl here ↦ apart (subst (λ p. f p ≡ i) here is) | inr other ↦ none m (omega arith) is ])
    step (inr apart) (inr last) = inr (record {
      place = last.place;
      below = omega arith;
      is = last.is;
      none_after = λ m above below is. elim (cases_eq m n) [ inl here ↦ apart (subst (λ p. f p ≡ i) here is) | inr other ↦ last.none_after m above (omega arith) is ];
    })

-- ---- what arrives earlier

pub earlier_from : (table : Table) (j k : ℕ) → (table j).a ≤ (table k).a → j < k → Earlier table j k
earlier_from table j k le less = elim (cases_lt (table j).a (table k).a) [ inl below ↦ inl below | inr above ↦ inr (omega arith, less) ]

pub asymmetric : (table : Table) (j k : ℕ) → Earlier table j k → Earlier table k j → ⊥
asymmetric table j k (inl less) (inl more) = omega arith
asymmetric table j k (inl less) (inr even) = let same = even.0 in omega arith
asymmetric table j k (inr even) (inl more) = let same = even.0 in omega arith
asymmetric table j k (inr even) (inr also) = let one = even.1 in let other = also.1 in omega arith

pub transitive : (table : Table) (i j k : ℕ) → Earlier table i j → Earlier table j k → Earlier table i k
transitive table i j k (inl less) (inl more) = inl (omega arith)
transitive table i j k (inl less) (inr even) = let same = even.0 in inl (omega arith)
transitive table i j k (inr even) (inl more) = let same = even.0 in inl (omega arith)
transitive table i j k (inr even) (inr also) = let same = even.0 in let next = also.0 in let less = even.1 in let more = also.1 in inr (omega arith, omega arith)

-- ---- the latest of those below n that meet Q

pub record LatestBelow (table : Table) (Q : ℕ → Type 0) (n : ℕ) : Type 0 where
  pub place : ℕ
  pub below : place < n
  pub meets : Q place
  pub latest : (m : ℕ) → m < n → Q m → (m ≡ place) ⊎ Earlier table m place

abbrev pub NoneBelow : (ℕ → Type 0) → ℕ → Type 0
NoneBelow Q n = (m : ℕ) → m < n → Q m → ⊥

pub latest_below : (table : Table) (Q : ℕ → Type 0) (decide : (m : ℕ) → Q m ⊎ (Q m → ⊥)) (n : ℕ) → NoneBelow Q n ⊎ LatestBelow table Q n
latest_below table Q decide zero = inl (λ m below meets. omega arith)
latest_below table Q decide (suc n) = step (decide n) (latest_below table Q decide n)
  where
    step : Q n ⊎ (Q n → ⊥) → NoneBelow Q n ⊎ LatestBelow table Q n → NoneBelow Q (suc n) ⊎ LatestBelow table Q (suc n)
    step (inr not) (inl none) = inl (λ m below meets. elim (cases_eq m n) [ inl is ↦ not (subst Q is meets) | inr other ↦ none m (omega arith) meets ])
    step (inr not) (inr last) = inr (record {
      place = last.place;
      below = omega arith;
      meets = last.meets;
      latest = λ m below meets. elim (cases_eq m n) [ inl is ↦ absurd (not (subst Q is meets)) | inr other ↦ last.latest m (omega arith) meets ];
    })
    step (inl here) (inl none) = inr (record {
      place = n;
      below = omega arith;
      meets = here;
      latest = λ m below meets. elim (cases_eq m n) [ inl is ↦ inl is | inr other ↦ absurd (none m (omega arith) meets) ];
    })
    step (inl here) (inr last) = by_arrival (cases_lt (table n).a (table last.place).a)
      where
        by_arrival : ((table n).a < (table last.place).a) ⊎ ((table last.place).a ≤ (table n).a) → NoneBelow Q (suc n) ⊎ LatestBelow table Q (suc n)
        by_arrival (inl less) = inr (record {
          place = last.place;
          below = omega arith;
          meets = last.meets;
          latest = λ m below meets. elim (cases_eq m n) [
            | inl is ↦ inr (inl (subst (λ p. (table p).a < (table last.place).a) (sym is) less))
            | inr other ↦ last.latest m (omega arith) meets
          ];
        })
        by_arrival (inr not) = inr (record {
          place = n;
          below = omega arith;
          meets = here;
          latest = λ m below meets. elim (cases_eq m n) [ inl is ↦ inl is | inr other ↦ inr (behind m (last.latest m (omega arith) meets)) ];
        })
          where
            last_first : Earlier table last.place n
            last_first = earlier_from table last.place n not last.below

            behind : (m : ℕ) → (m ≡ last.place) ⊎ Earlier table m last.place → Earlier table m n
            behind m (inl is) = subst (λ p. Earlier table p n) (sym is) last_first
            behind m (inr first) = transitive table m last.place n first last_first
