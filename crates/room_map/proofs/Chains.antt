-- Chains of free nodes.
use Rattle.std.proofs.Common.{◌≡◌, ℕ, zero, suc, ◌+◌, ◌<◌, ◌≤◌, ⊎_elim, List, [], ◌∷◌, length, refl, sym, ap, subst, arith}
use Rattle.std.specs.Prelude.{slice_get}
use Rattle.std.proofs.lemmas.Bool.{cases_lt}
use Rattle.room_map.specs.declared.nodes.Node.{Node}
use Rattle.room_map.specs.Shape.{is_at}
use Rattle.room_map.specs.Nodes.{Changed}
use Rattle.room_map.specs.Layout.{among, falling, next_in, next_at, IsChain}
use Rattle.room_map.proofs.Sizes.{at_itself, at_other, at_some}

pub length-falling : (from n : ℕ) (is : List ℕ) → length (falling from n is) ≡ n + length is
unfolding falling
length-falling from zero is = omega arith
length-falling from (suc n) is = omega (arith, length-falling from n is)

pub falling-suc : (from n : ℕ) (is : List ℕ) → falling from (suc n) is ≡ (from + n) ∷ falling from n is
unfolding falling
falling-suc from n is = refl

pub falling-zero : (from : ℕ) (is : List ℕ) → falling from zero is ≡ is
unfolding falling
falling-zero from is = refl

pub among-below : (from n : ℕ) (is : List ℕ) (q : ℕ) → q < from → among q (falling from n is) ≡ among q is
unfolding falling
among-below from zero is q h = refl
among-below from (suc n) is q h = omega (arith, among-below from n is q h, at_other (from + n) q (λ e. omega (arith, e, h)))

pub among-above : (from n : ℕ) (is : List ℕ) (q : ℕ) → from + n ≤ q → among q (falling from n is) ≡ among q is
unfolding falling
among-above from zero is q h = refl
among-above from (suc n) is q h = omega (arith, among-above from n is q (omega arith), at_other (from + n) q (λ e. omega (arith, e, h)))

pub among-le : (from n : ℕ) (is : List ℕ) (q : ℕ) → among q (falling from n is) ≤ among q is + 1
unfolding falling
among-le from zero is q = omega arith
among-le from (suc n) is q = ⊎_elim
    (λ (h : q < from + n). omega (arith, among-le from n is q, at_other (from + n) q (λ e. omega (arith, e, h))))
    (λ (h : from + n ≤ q). omega (arith, among-above from n is q h, at_most (from + n) q))
    (cases_lt q (from + n))
  where
    at_most : (i k : ℕ) → is_at i k ≤ 1
    at_most i k = ⊎_elim (λ (some : 0 < is_at i k). omega (arith, at_itself i, ap (is_at i) (at_some i k some))) (λ (none : is_at i k ≤ 0). omega arith) (cases_lt 0 (is_at i k))

module _ {K V : Type 0} where
  pub chain_kept : {own : ℕ → ℕ} {ns ms : List (Node K V)} (i : ℕ) (is : List ℕ) → Changed own ns ms → ((q : ℕ) → 0 < among q is → own q ≡ 0) → IsChain ns i is → IsChain ms i is
  chain_kept i [] d apart chain = tt
  chain_kept {own} {ns} {ms} i (j ∷ js) d apart chain =
      let same : next_at ns j ≡ next_at ms j = ap (next_in {K = K} {V = V}) (sym (d.others j (apart j (omega (arith, at_itself j))))) in
      (chain.0, omega (arith, chain.1, d.long), subst (λ x. IsChain ms x js) same (chain_kept (next_at ns j) js d (λ q h. apart q (omega (arith, h))) chain.2))

  -- the nodes of a chain are there
  pub chain_there : (ns : List (Node K V)) (i : ℕ) (is : List ℕ) (q : ℕ) → IsChain ns i is → length ns ≤ q → among q is ≡ 0
  chain_there ns i [] q chain far = refl
  chain_there ns i (j ∷ js) q chain far = omega (arith, at_other j q (λ e. omega (arith, e, far, chain.1)), chain_there ns (next_at ns j) js q chain.2 far)

  -- a chain stays where nodes are added behind
  pub chain_grown : (ns ms : List (Node K V)) (i : ℕ) (is : List ℕ) → ((q : ℕ) → q < length ns → slice_get ms q ≡ slice_get ns q) → length ns ≤ length ms → IsChain ns i is → IsChain ms i is
  chain_grown ns ms i [] same long chain = tt
  chain_grown ns ms i (j ∷ js) same long chain =
      let next : next_at ns j ≡ next_at ms j = ap (next_in {K = K} {V = V}) (sym (same j chain.1)) in
      (chain.0, omega (arith, chain.1, long), subst (λ x. IsChain ms x js) next (chain_grown ns ms (next_at ns j) js same long chain.2))
