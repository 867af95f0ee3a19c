-- The place of a module by the place of its name.
use Rattle.std.proofs.Common.{◌≡◌, ◌≤◌, ℕ, ◌+◌, Bool, true, false, cond, List, [], ◌∷◌, length, map, Some, None, refl, sym, ap, ◌∙◌, arith}
use Rattle.std.specs.Prelude.{bytes_eq, not, unwrap_or, nat_lt}
use Rattle.std.specs.List.{position_or_len}
use Rattle.std.proofs.lemmas.Bool.Decides.{nat_tests}
use Rattle.std.proofs.lemmas.List.{length-map}
use Rattle.std.proofs.lemmas.List.Sums.{prefix_len-le-length}
use Rattle.check_names.specs.ModelTree.Views.{modules_of}
use Rattle.check_names.specs.ModelTree.declared.items.Module.{Module}
use Rattle.design_rules.specs.Forms.{module_place}
use Rattle.check_names.specs.Tables.{place_in}
use Rattle.elaborate_objects.specs.Places.{names_of_modules}

named_place : (q : List ℕ) (ms : List Module) → position_or_len (λ other. bytes_eq other q) (names_of_modules ms) ≡ module_place (modules_of ms) q
named_place q [] = refl
named_place q (m ∷ ms) = ap (λ n. cond (not (bytes_eq m.name q)) (1 + n) 0) (named_place q ms)

-- a place, or the length where there is none
or_length : (n k : ℕ) (b : Bool) → nat_lt k n ≡ b → k ≤ n → unwrap_or (cond b (Some k) None) n ≡ k
or_length n k true e le = refl
or_length n k false e le = grind (arith, nat_tests, e, le)

pub placed : (q : List ℕ) (ms : List Module) → unwrap_or (place_in (names_of_modules ms) q) (length ms) ≡ module_place (modules_of ms) q
placed q ms =
    let k = position_or_len (λ other. bytes_eq other q) (names_of_modules ms) in
    let long = length-map ms (λ (m : Module). m.name) in
    ap (λ n. unwrap_or (place_in (names_of_modules ms) q) n) (sym long)
    ∙ or_length (length (names_of_modules ms)) k (nat_lt k (length (names_of_modules ms))) refl (prefix_len-le-length _ (names_of_modules ms))
    ∙ named_place q ms
