-- A block inside a block: by its first step as by its last.
use Rattle.std.proofs.Common.{◌≡◌, ◌⊎◌, ℕ, refl, sym, subst, inl, inr}
use Rattle.std.specs.Prelude.{Contains}
use Rattle.model_rules.specs.FlatDesign.Code.{Arena, Statement}
use Rattle.model_rules.specs.FlatDesign.Reach.{Inside, itself, deeper, IsIn, Holds, inner_blocks}

module _ (a : Arena) where
  -- through an inner block of one of its statements
  pub record Through (b j : ℕ) : Type 0 where
    pub statement : Statement
    pub inner : ℕ
    pub stands : IsIn a b statement
    pub has : Contains (inner_blocks statement) inner
    pub inside : Inside a inner j

  pub first_step : (b j : ℕ) → Inside a b j → (b ≡ j) ⊎ Through b j
  first_step b _ (itself _) = inl refl
  first_step b _ (deeper _ k j s i stands has) =
      elim (first_step b k i) [
        | inl e ↦ inr (record { statement = s; inner = j; stands = subst (λ x. IsIn a x s) (sym e) stands; has = has; inside = itself j })
        | inr w ↦ inr (record { statement = w.statement; inner = w.inner; stands = w.stands; has = w.has; inside = deeper w.inner k j s w.inside stands has })
      ]

  inside_more : (b k j : ℕ) (s : Statement) → IsIn a b s → Contains (inner_blocks s) k → Inside a k j → Inside a b j
  inside_more b _ _ s here has (itself k) = deeper b b k s (itself b) here has
  inside_more b _ _ s here has (deeper k l j t i stands inner) = deeper b l j t (inside_more b k l s here has i) stands inner

  -- what an inner block of a statement holds, its own block holds
  pub holds_more : (b k : ℕ) (s t : Statement) → IsIn a b s → Contains (inner_blocks s) k → Holds a k t → Holds a b t
  holds_more b k s t here has x = record { block = x.block; inside = inside_more b k x.block s here has x.inside; stands = x.stands }

  pub holds_own : (b : ℕ) (s : Statement) → IsIn a b s → Holds a b s
  holds_own b s here = record { block = b; inside = itself b; stands = here }
