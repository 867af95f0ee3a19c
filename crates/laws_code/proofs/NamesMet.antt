-- Names of a construct that breaks no rule are known, and are what is needed.
use Rattle.std.proofs.Common.{◌≡◌, ℕ, Bool, true, false, not, List, [], ◌∷◌, Option, Some, None, refl}
use Rattle.std.specs.Prelude.{is_some, option_map}
use Rattle.std.specs.List.{AllByRecursion}
use Rattle.code_rules.specs.ModelTree.Tree as tree
use Rattle.code_rules.specs.ModelRules.Scopes.{Scope, meaning_of, is_known}
use Rattle.code_rules.specs.ModelRules.declared.meanings.Meaning.{Meaning}
use Rattle.code_rules.specs.ModelRules.Sites.{Site, sites}
use Rattle.code_rules.specs.ModelRules.Names.{Used, first, name_if, uses, meets, unknown_use, unknown_beside, unknown_name, is_unmet, wrong_use, wrong_beside, wrong_kind}
use Rattle.code_rules.specs.ModelRules.Passes.{fault_by, fault_at, constructs, passes, first_fault}
use Rattle.code_rules.proofs.ModelRules.Firsts.{or_none, all_none, each_none}
use Rattle.laws_code.specs.Met.{IsMet, UsesAreMet, AllAreMet}

mapped_none : {A B : Type 0} (f : A → B) (o : Option A) → option_map f o ≡ None → o ≡ None
mapped_none f None h = refl
mapped_none f (Some x) h = cc

not_named : (b : Bool) (name : List ℕ) → name_if b name ≡ None → b ≡ false
not_named false name h = refl
not_named true name h = cc

turned : (b : Bool) → not b ≡ false → b ≡ true
turned true h = refl
turned false h = cc

-- by what the name stands for
met : (s : Scope) (u : Used) (o : Option Meaning) → meaning_of s u.0 ≡ o → not (is_some o) ≡ false → is_unmet u.1 o ≡ false → IsMet s u
met s u None e known unmet = cc
met s u (Some m) e known unmet = record { meaning = m; known = e; meets_need = turned (meets u.1 m) unmet }

is_met : (s : Scope) (u : Used) → unknown_use s u ≡ None → wrong_use s u ≡ None → IsMet s u
is_met s u h k = met s u (meaning_of s u.0) refl (not_named (not (is_known s u.0)) u.0 h) (not_named (is_unmet u.1 (meaning_of s u.0)) u.0 k)

are_met : (s : Scope) (us : List Used) → AllByRecursion (λ u. unknown_use s u ≡ None) us → AllByRecursion (λ u. wrong_use s u ≡ None) us → AllByRecursion (IsMet s) us
are_met s [] h k = tt
are_met s (u ∷ us) h k = (is_met s u h.0 k.0, are_met s us h.1 k.1)

-- of a construct that breaks no rule
pub site_met : (x : Site) → unknown_name x ≡ None → wrong_kind x ≡ None → UsesAreMet x
site_met x h k =
    let a = or_none (first (unknown_use x.scope) (uses x.part)) (unknown_beside x.scope x.part) h in
    let b = or_none (first (wrong_use x.scope) (uses x.part)) (wrong_beside x.scope x.part) k in
    are_met x.scope (uses x.part) (all_none (unknown_use x.scope) (uses x.part) a.0) (all_none (wrong_use x.scope) (uses x.part) b.0)

construct_met : (x : Site) → fault_at constructs x ≡ None → UsesAreMet x
construct_met x h =
    let all = all_none (fault_by x) constructs h in
    site_met x (mapped_none _ (unknown_name x) all.0) (mapped_none _ (wrong_kind x) all.1.0)

all_met : (xs : List Site) → AllByRecursion (λ x. fault_at constructs x ≡ None) xs → AllByRecursion UsesAreMet xs
all_met [] h = tt
all_met (x ∷ xs) h = (construct_met x h.0, all_met xs h.1)

pub without_fault : (m : tree.Model) → first_fault m ≡ None → AllAreMet m
without_fault m h = all_met (sites m) (each_none (sites m) passes h).1.0
