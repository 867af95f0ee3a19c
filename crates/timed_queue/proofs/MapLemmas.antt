-- Finite maps from numbers, told key by key.
use Rattle.std.proofs.Common.{◌≡◌, ℕ, Bool, cond, Some, None, sym, ap, ◌∙◌}
use Rattle.std.specs.Ordering.{nat_cmp}
use Rattle.std.specs.Cmp.{nat_cmp_total, unsigned_tied}
use Rattle.std.specs.Prelude.{◌==◌}
use Rattle.std.specs.FinMap as map

module _ {X : Type 0} where
  pub same_gets : (m new : map.FinMap nat_cmp X) → ((q : ℕ) → map.get new q ≡ map.get m q) → new ≡ m
  same_gets m new each = map.same_map nat_cmp_total map.nat_cmp-IsAntisymmetric new m each

  pub get-inserted : (m : map.FinMap nat_cmp X) (k : ℕ) (x : X) (q : ℕ) → map.get (map.insert m k x) q ≡ cond (q == k) (Some x) (map.get m q)
  get-inserted m k x q = map.get-insert nat_cmp_total m k x q ∙ ap (λ b. cond b (Some x) (map.get m q)) (unsigned_tied q k)

  pub get-removed : (m : map.FinMap nat_cmp X) (k q : ℕ) → map.get (map.remove m k) q ≡ cond (q == k) None (map.get m q)
  get-removed m k q = map.get-remove nat_cmp_total m k q ∙ ap (λ b. cond b None (map.get m q)) (unsigned_tied q k)

  pub get-retained : (m : map.FinMap nat_cmp X) (p : ℕ → Bool) (q : ℕ) → map.get (map.retain_keys m p) q ≡ cond (p q) (map.get m q) None
  get-retained m p q = map.get-retain_keys m p q (λ x tied. ap p (sym (map.nat_cmp-IsAntisymmetric q x tied)))
