-- The objects of an instance by their names.
use Rattle.std.proofs.Common.{◌≡◌, ◌≤◌, ℕ, suc, ◌+◌, Bool, true, false, cond, List, [], ◌∷◌, ◌++◌, map, drop, length, Option, Some, None, refl, sym, ap, ◌∙◌, arith}
use Rattle.std.specs.Prelude.{nat_lt, unwrap_or, option_map}
use Rattle.std.specs.List.{position_from, position_or_len}
use Rattle.std.proofs.lemmas.Bool.Decides.{nat_tests}
use Rattle.std.proofs.lemmas.List.{map-append, length-drop}
use Rattle.std.proofs.lemmas.List.Elements.{filter_map-append}
use Rattle.std.proofs.lemmas.Option.{slice_get_past}
use Rattle.elaborate_objects.specs.ModelTree.Tree as tree
use Rattle.elaborate_objects.specs.FlatDesign.declared.objects.Object.{Object}
use Rattle.elaborate_objects.specs.FlatDesign.declared.objects.ObjectForm.TheVariants as form
use Rattle.elaborate_objects.specs.FlatDesign.declared.design.Denoted.{Denoted}
use Rattle.elaborate_objects.specs.FlatDesign.declared.design.Denoted.TheVariants as denoted
use Rattle.elaborate_objects.specs.ModelRules.Meanings.{Declared, declaration, declarations, declared_name}
use Rattle.elaborate_objects.specs.DesignRules.Listing.{is_child}
use Rattle.elaborate_objects.specs.DesignRules.declared.bindings.Joined.{Joined}
use Rattle.elaborate_objects.specs.DesignRules.declared.counts.Counts.{Counts}
use Rattle.elaborate_objects.specs.DesignRules.Counting.{behind, along}
use Rattle.elaborate_objects.specs.DesignRules.Denoting.{denoted_by, object_denoted, named_in, names_in}
use Rattle.elaborate_design.specs.Named.{denoted_if}

-- the first place that passes, of a list whose places are numbered from k on

lt_more : (m n : ℕ) → nat_lt (1 + m) (suc n) ≡ nat_lt m n
lt_more m n = grind (arith, nat_tests)

lt_first : (n : ℕ) → nat_lt 0 (suc n) ≡ true
lt_first n = grind (arith, nat_tests)

some_more : (b : Bool) (k p : ℕ) → cond b (Some ((k + 1) + p)) None ≡ cond b (Some (k + (1 + p))) None
some_more true k p = ap Some (omega arith)
some_more false k p = refl

some_here : (k : ℕ) → Some k ≡ Some (k + 0)
some_here k = ap Some (omega arith)

module _ {X : Type 0} (t : X → Bool) where
  by : (b : Bool) (x : X) (xs : List X) (k : ℕ) → t x ≡ b → position_from t (k + 1) xs ≡ cond (nat_lt (position_or_len t xs) (length xs)) (Some ((k + 1) + position_or_len t xs)) None
      → position_from t k (x ∷ xs) ≡ cond (nat_lt (position_or_len t (x ∷ xs)) (length (x ∷ xs))) (Some (k + position_or_len t (x ∷ xs))) None
  by true x xs k e h = rw e (some_here k ∙ ap (λ b. cond b (Some (k + 0)) None) (sym (lt_first (length xs))))
  by false x xs k e h =
      rw e (h ∙ some_more (nat_lt (position_or_len t xs) (length xs)) k (position_or_len t xs)
      ∙ ap (λ b. cond b (Some (k + (1 + position_or_len t xs))) None) (sym (lt_more (position_or_len t xs) (length xs))))

  pub from_place : (k : ℕ) (xs : List X) → position_from t k xs ≡ cond (nat_lt (position_or_len t xs) (length xs)) (Some (k + position_or_len t xs)) None
  from_place k [] = refl
  from_place k (x ∷ xs) = by (t x) x xs k refl (from_place (k + 1) xs)

-- what stands under a name is what the name stands for

module _ (all : List Denoted) (os : List Object) (same : length all ≡ length os) (instance : ℕ) (name : List ℕ) where
  abbrev p : ℕ
  p = position_or_len (is_child instance name) (drop 1 os)

  past : nat_lt p (length (drop 1 os)) ≡ false → length all ≤ 1 + p
  past none =
      let e = length-drop 1 os in
      grind (arith, nat_tests, none, e, same)

  found_if : (b : Bool) → nat_lt p (length (drop 1 os)) ≡ b → denoted_if all (cond b (Some (1 + p)) None) ≡ object_denoted all (1 + p)
  found_if true e = refl
  found_if false e = sym (ap (λ o. unwrap_or o denoted.Nothing) (slice_get_past all (1 + p) (past e)))

  pub under_name : (o : Option ℕ) → o ≡ position_from (is_child instance name) 1 (drop 1 os) → denoted_if all o ≡ named_in all os instance name
  under_name o is =
      ap (denoted_if all) (is ∙ from_place (is_child instance name) 1 (drop 1 os)) ∙ found_if (nat_lt p (length (drop 1 os))) refl

-- the names of items

module _ (all : List Denoted) (os : List Object) (instance : ℕ) where
  abbrev pub one_name : Option (List ℕ) → List Denoted
  one_name None = []
  one_name (Some name) = named_in all os instance name ∷ []

  declares : (o : Option Declared) → (i : tree.Item) → declaration i ≡ o → names_in all os instance (i ∷ []) ≡ one_name (option_map (λ (d : Declared). d.name) o)
  declares None i e = rw e refl
  declares (Some d) i e = rw e refl

  pub names_one : (i : tree.Item) → names_in all os instance (i ∷ []) ≡ one_name (declared_name i)
  names_one i = declares (declaration i) i refl

  pub names_more : (i : tree.Item) (is : List tree.Item) → names_in all os instance (i ∷ is) ≡ names_in all os instance (i ∷ []) ++ names_in all os instance is
  names_more i is =
      ap (map (λ (d : Declared). named_in all os instance d.name)) (filter_map-append declaration (i ∷ []) is)
      ∙ map-append (λ (d : Declared). named_in all os instance d.name) (declarations (i ∷ [])) (declarations is)

-- what the objects are, is as long as these
pub denoted_long : (hops : List Joined) (n : Counts) (os : List Object) → length (along (λ m (o : Object). denoted_by hops m o.form ∷ []) n os) ≡ length os
denoted_long hops n [] = refl
denoted_long hops n (o ∷ os) = ap suc (denoted_long hops (behind n o.form) os)
