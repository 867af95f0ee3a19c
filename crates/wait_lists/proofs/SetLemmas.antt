-- Finite sets of numbers, told number by number.
use Rattle.std.proofs.Common.{◌≡◌, ℕ, ◌≢◌, Bool, true, false, cond, not, ◌||◌, ◌&&◌, refl, sym, ap, ◌∙◌, ⊎_elim}
use Rattle.std.proofs.lemmas.Bool.{cases_eq}
use Rattle.std.specs.Ordering.{nat_cmp, eq_by_cmp}
use Rattle.std.specs.Cmp.{nat_cmp_total}
use Rattle.std.specs.FinSet as set
use Rattle.numbered_slots.proofs.MapLemmas.{ties_itself, ties_no_other}
use Rattle.wait_lists.specs.Waits.{marked}

pub contains-marked : (s : set.FinSet nat_cmp) (k : ℕ) (b : Bool) (q : ℕ) → set.contains (marked s k b) q ≡ cond (eq_by_cmp nat_cmp q k) b (set.contains s q)
contains-marked s k true q = set.contains-insert nat_cmp_total s k q ∙ or_cond (eq_by_cmp nat_cmp q k) _
  where
    or_cond : (a b : Bool) → (a || b) ≡ cond a true b
    or_cond true b = refl
    or_cond false b = refl
contains-marked s k false q = set.contains-remove nat_cmp_total s k q ∙ and_cond (eq_by_cmp nat_cmp q k) _
  where
    and_cond : (a b : Bool) → (not a && b) ≡ cond a false b
    and_cond true b = refl
    and_cond false b = refl

pub contains-marked_same : (s : set.FinSet nat_cmp) (k : ℕ) (b : Bool) (q : ℕ) → q ≡ k → set.contains (marked s k b) q ≡ b
contains-marked_same s k b q same = contains-marked s k b q ∙ ap (λ t. cond t b (set.contains s q)) (ties_itself q k same)

pub contains-marked_other : (s : set.FinSet nat_cmp) (k : ℕ) (b : Bool) (q : ℕ) → q ≢ k → set.contains (marked s k b) q ≡ set.contains s q
contains-marked_other s k b q apart = contains-marked s k b q ∙ ap (λ t. cond t b (set.contains s q)) (ties_no_other q k apart)

-- a set that has k or not, and of the others those that s has
pub is_marked : (s new : set.FinSet nat_cmp) (k : ℕ) (b : Bool) → set.contains new k ≡ b → ((q : ℕ) → q ≢ k → set.contains new q ≡ set.contains s q)
    → new ≡ marked s k b
is_marked s new k b here there = set.same_set nat_cmp_total set.nat_cmp-IsAntisymmetric new _ (λ q. ⊎_elim
    (λ same. ap (set.contains new) same ∙ here ∙ sym (contains-marked_same s k b q same))
    (λ apart. there q apart ∙ sym (contains-marked_other s k b q apart))
    (cases_eq q k))

pub same_members : (s new : set.FinSet nat_cmp) → ((q : ℕ) → set.contains new q ≡ set.contains s q) → new ≡ s
same_members s new each = set.same_set nat_cmp_total set.nat_cmp-IsAntisymmetric new s each
