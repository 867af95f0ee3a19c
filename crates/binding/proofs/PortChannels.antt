-- A port's kept channels tell whether it has too many or too few.
use Rattle.std.proofs.Common.{◌≡◌, ◌≤◌, ℕ, List, length, min, refl, ap, ◌∙◌, arith}
use Rattle.std.specs.Prelude.{◌==◌, ◌||◌, nat_lt}
use Rattle.std.proofs.lemmas.Bool.Decides.{nat_tests}
use Rattle.std.proofs.lemmas.List.{length-take}
use Rattle.design_rules.specs.ModelTree.declared.types.BoundRule.{BoundRule}
use Rattle.design_rules.specs.ModelTree.declared.types.BoundRule.TheVariants as bound
use Rattle.design_rules.specs.FlatDesign.declared.objects.Objects.{Objects}
use Rattle.design_rules.specs.Paths.{ends_of}
use Rattle.design_rules.specs.BindingFaults.{first_broken, has_twice, has_too_few, port_fault}
use Rattle.binding.specs.Ends.{kept_ends}

many_kept : (size n : ℕ) → size ≤ 64 → nat_lt size (min 65 n) ≡ nat_lt size n
many_kept size n small = grind (arith, nat_tests)

none_kept : (n : ℕ) → (min 65 n == 0) ≡ (n == 0)
none_kept n = grind (arith, nat_tests)

less_kept : (size n : ℕ) → size ≤ 64 → nat_lt (min 65 n) size ≡ nat_lt n size
less_kept size n small = grind (arith, nat_tests)

few_kept : (rule : BoundRule) (size n : ℕ) → size ≤ 64 → has_too_few rule size (min 65 n) ≡ has_too_few rule size n
few_kept bound.One size n small = none_kept n
few_kept bound.Zero size n small = refl
few_kept bound.All size n small = ap (λ b. b || nat_lt (min 65 n) size) (none_kept n) ∙ ap (λ b. n == 0 || b) (less_kept size n small)

pub judged_kept : (os : Objects) (i size : ℕ) (rule : BoundRule) (row : List ℕ) → row ≡ kept_ends os i → size ≤ 64
    → first_broken (has_twice (ends_of os i)) (nat_lt size (length row)) (has_too_few rule size (length row)) ≡ port_fault size rule (ends_of os i)
judged_kept os i size rule row is small =
    let e = ap (λ (xs : List ℕ). length xs) is ∙ length-take 65 (ends_of os i) in
    ap (λ n. first_broken (has_twice (ends_of os i)) (nat_lt size n) (has_too_few rule size n)) e
    ∙ ap (λ b. first_broken (has_twice (ends_of os i)) b (has_too_few rule size (min 65 (length (ends_of os i))))) (many_kept size (length (ends_of os i)) small)
    ∙ ap (first_broken (has_twice (ends_of os i)) (nat_lt size (length (ends_of os i)))) (few_kept rule size (length (ends_of os i)) small)
