-- What is picked from the members of a set.
use Rattle.std.proofs.Common.{◌≡◌, ℕ, ◌-◌, ◌%◌, ◌≤◌, List, length, slice_get, None, refl, sym, ap, ◌∙◌, arith}
use Rattle.std.proofs.lemmas.Option.{slice_get_past}
use Rattle.std.specs.Cmp.{nat_cmp_total}
use Rattle.std.specs.Ordering.{nat_cmp}
use Rattle.std.specs.FinSet as set
use Rattle.rand_pcg.specs.Lcg.{Lcg}
use Rattle.rand_pcg.specs.Pcg.{pcg32}
use Rattle.kernel_state.specs.ReadySet.Ready.{rising, in_order}
use Rattle.kernel_state.proofs.ReadySet.Rising.{rising-in_order, has-in_order}
use Rattle.kernel_state.proofs.ReadySet.Shown.{len-set_of, contains-set_of}
use Rattle.kernel_state.specs.SimModel.Clean.{times}
use Rattle.kernel_state.specs.SimModel.Waits.{holds}
use Rattle.kernel_state.specs.SimModel.Runs.{Chooser, least, greatest, seeded, listed, picked, at_place}
use Rattle.kernel_phases.proofs.Places.{rising_place}
use Rattle.kernel_phases.proofs.Orders.{same_order, any_order, same_length}

pub place_of_set : (s : set.FinSet nat_cmp) (k : ℕ) → at_place (rising s) k ≡ slice_get (rising s) k
place_of_set s k = rising_place (rising s) (rising-in_order (set.items s)) k

set_of_rising : (s : set.FinSet nat_cmp) → set.from_list (rising s) ≡ s
set_of_rising s = set.same_set nat_cmp_total set.nat_cmp-IsAntisymmetric (set.from_list (rising s)) s
    (λ q. contains-set_of (rising s) q ∙ has-in_order q (set.items s) ∙ sym (set.contains-items s q))

pub length_rising : (s : set.FinSet nat_cmp) → length (rising s) ≡ set.len s
length_rising s = sym (len-set_of (rising s) (rising-in_order (set.items s))) ∙ ap set.len (set_of_rising s)

-- where there is no member, nothing is at any place
pub nothing_there : (s : set.FinSet nat_cmp) (k : ℕ) → set.len s ≡ 0 → at_place (rising s) k ≡ None
nothing_there s k empty = let n = length_rising s in place_of_set s k ∙ slice_get_past (rising s) k (omega (arith, n, empty))

-- ---- a chooser of each kind

pub least_chosen : (s : set.FinSet nat_cmp) → slice_get (rising s) 0 ≡ picked least (rising s)
least_chosen s = sym (place_of_set s 0)

pub greatest_chosen : (s : set.FinSet nat_cmp) → slice_get (rising s) (set.len s - 1) ≡ picked greatest (rising s)
greatest_chosen s = ap (λ n. slice_get (rising s) (n - 1)) (sym (length_rising s)) ∙ sym (place_of_set s (length (rising s) - 1))

pub seeded_chosen : (g : Lcg) (s : set.FinSet nat_cmp) → at_place (rising s) ((pcg32 g).0 % set.len s) ≡ picked (seeded g) (rising s)
seeded_chosen g s = ap (λ n. at_place (rising s) ((pcg32 g).0 % n)) (sym (length_rising s))

-- ---- from a list in any order

pub in_any_order : (k : Chooser) (xs : List ℕ) → ((q : ℕ) → times q xs ≤ 1) → picked k xs ≡ picked k (in_order xs)
in_any_order least xs once = sym (any_order xs once 0)
in_any_order greatest xs once = ap (λ n. at_place xs (n - 1)) (sym (same_length xs once)) ∙ sym (any_order xs once (length (in_order xs) - 1))
in_any_order (seeded g) xs once = ap (λ n. at_place xs ((pcg32 g).0 % n)) (sym (same_length xs once)) ∙ sym (any_order xs once ((pcg32 g).0 % length (in_order xs)))
in_any_order (listed choices) xs once = refl

pub alike : (k : Chooser) (s : set.FinSet nat_cmp) (xs : List ℕ) → ((q : ℕ) → set.contains s q ≡ holds xs q) → ((q : ℕ) → times q xs ≤ 1) → picked k xs ≡ picked k (rising s)
alike k s xs same once = in_any_order k xs once ∙ ap (picked k) (same_order s xs same)
