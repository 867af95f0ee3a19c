-- Objects within the limits.
use Rattle.std.proofs.Common.{◌≡◌, ◌<◌, ℕ, Bool, true, false, cond, Some, None, length, refl, arith}
use Rattle.std.specs.Prelude.{◌||◌, ◌^◌, nat_lt}
use Rattle.std.proofs.lemmas.Bool.Decides.{nat_tests}
use Rattle.elaborate_objects.specs.ModelTree.Tree as tree
use Rattle.elaborate_objects.specs.DesignRules.Listing.{list_of}
use Rattle.elaborate_objects.specs.DesignRules.ObjectFaults.{bytes_of, are_too_many, limit_fault}

not_many : {A : Type 0} (b : Bool) (x : A) → cond b (Some x) None ≡ None → b ≡ false
not_many true x h = cc
not_many false x h = refl

few : (a b : ℕ) → (nat_lt 65536 a || nat_lt 67108864 b) ≡ false → a < 2 ^ 32
few a b h = grind (arith, nat_tests, h)

pub objects_few : (m : tree.Model) → limit_fault m ≡ None → length (list_of m) < 2 ^ 32
objects_few m h = few (length (list_of m)) (bytes_of (list_of m)) (not_many (are_too_many (list_of m)) _ h)
