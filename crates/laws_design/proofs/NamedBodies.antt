-- The body of an item stands at the place of its name among the names of the bodies of its module.
use Rattle.std.proofs.Common.{◌≡◌, ◌<◌, ℕ, zero, suc, ◌+◌, Bool, true, false, cond, not, List, [], ◌∷◌, map, length, Option, Some, None, refl, sym, ap, ◌∙◌, subst, true≢false, arith}
use Rattle.std.specs.Prelude.{slice_get, bytes_eq, filter_map, option_map, position, nat_lt, Contains}
use Rattle.std.specs.List.{AllByRecursion, IsDistinct, cons_option, position_or_len}
use Rattle.std.proofs.lemmas.Bool.{lt-ltb}
use Rattle.std.proofs.lemmas.List.{length-map}
use Rattle.std.proofs.lemmas.Option.{slice_get_within}
use Rattle.std.proofs.lemmas.Slice.Eq.{bytes_eq-Decides}
use Rattle.elaborate_objects.specs.ModelTree.Tree as tree
use Rattle.elaborate_objects.specs.ModelRules.Meanings.{Declared, declaration, declarations, declared_name}
use Rattle.elaborate_objects.specs.ModelRules.Distinct.{names_of}
use Rattle.laws_code.specs.CodeRules.Deeds.{has_body}
use Rattle.laws_code.specs.CodeRules.Bodies as source
use Rattle.laws_code.specs.CodeRules.Bodies.{Source, source_of, source_name}
use Rattle.elaborate_objects.specs.DesignRules.Forms.{Name}
use Rattle.elaborate_objects.proofs.DesignRules.Lists.{nothing_in}
use Rattle.laws_code.proofs.Coded.{positioned}
use Rattle.laws_code.proofs.Bodies.{names_in, distinct_head, rest_distinct, all_behind}
use Rattle.laws_design.proofs.Children.{same_some}

-- what has a body is declared under the name of that

declared_source : (i : tree.Item) (x : Source) → source_of i ≡ Some x → declared_name i ≡ Some (source_name x)
declared_source (tree.clock line c) x e = ap (λ y. Some (source_name y)) (same_some (source.of_clock c) x e)
declared_source (tree.function line f) x e = ap (λ y. Some (source_name y)) (same_some (source.of_function f) x e)
declared_source (tree.process line p) x e = ap (λ y. Some (source_name y)) (same_some (source.of_process p) x e)
declared_source other x e = cc

body_name : (i : tree.Item) → has_body i ≡ option_map source_name (source_of i)
body_name (tree.signal line s) = refl
body_name other = refl

-- names that differ

first_apart : (o : Option Declared) (ds : List Declared) (name : Name) → option_map (λ (d : Declared). d.name) o ≡ Some name → IsDistinct bytes_eq (names_in (cons_option o ds)) → AllByRecursion (λ y. bytes_eq name y ≡ false) (names_in ds)
first_apart None ds name e h = cc
first_apart (Some d) ds name e h = subst (λ n. AllByRecursion (λ y. bytes_eq n y ≡ false) (names_in ds)) (same_some d.name name e) (distinct_head d.name (names_in ds) h).0

declared_first : (P : Name → Type 0) (o : Option Declared) (ds : List Declared) (name : Name) → option_map (λ (d : Declared). d.name) o ≡ Some name → AllByRecursion P (names_in (cons_option o ds)) → P name
declared_first P None ds name e h = cc
declared_first P (Some d) ds name e h = subst P (same_some d.name name e) h.0

declared_in : (P : Name → Type 0) (is : List tree.Item) (i : tree.Item) (name : Name) → Contains is i → declared_name i ≡ Some name → AllByRecursion P (names_of is) → P name
declared_in P [] i name at e h = absurd (nothing_in i at)
declared_in P (x ∷ is) i name (zero, below, same) e h = declared_first P (declaration x) (declarations is) name (ap declared_name same ∙ e) h
declared_in P (x ∷ is) i name (suc k, below, same) e h = declared_in P is i name (k, omega arith, same) e (all_behind P (declaration x) (declarations is) h)

-- places

abbrev pub place_in : Name → List Name → ℕ
place_in name ns = position_or_len (λ z. bytes_eq z name) ns

found_behind : (b : Bool) (n : ℕ) (x : Source) (xs : List Source) (y : Source) → b ≡ false → slice_get xs n ≡ Some y → slice_get (x ∷ xs) (cond (not b) (1 + n) 0) ≡ Some y
found_behind true n x xs y h e = absurd (true≢false h)
found_behind false n x xs y h e = subst (λ k. slice_get (x ∷ xs) k ≡ Some y) (let k : suc n ≡ 1 + n = omega arith in k) e

found_here : (b : Bool) (n : ℕ) (x : Source) (xs : List Source) → b ≡ true → slice_get (x ∷ xs) (cond (not b) (1 + n) 0) ≡ Some x
found_here true n x xs h = refl
found_here false n x xs h = absurd (true≢false (sym h))

behind : (o : Option Source) (n : Option Name) (xs : List Source) (ns : List Name) (name : Name) (x : Source) → n ≡ option_map source_name o → ((y : Source) → o ≡ Some y → bytes_eq (source_name y) name ≡ false)
    → slice_get xs (place_in name ns) ≡ Some x → slice_get (cons_option o xs) (place_in name (cons_option n ns)) ≡ Some x
behind None n xs ns name x e apart h = subst (λ k. slice_get xs (place_in name (cons_option k ns)) ≡ Some x) (sym e) h
behind (Some y) n xs ns name x e apart h =
    subst (λ k. slice_get (y ∷ xs) (place_in name (cons_option k ns)) ≡ Some x) (sym e) (found_behind (bytes_eq (source_name y) name) (place_in name ns) y xs x (apart y refl) h)

here : (o : Option Source) (n : Option Name) (xs : List Source) (ns : List Name) (x : Source) → o ≡ Some x → n ≡ Some (source_name x) → slice_get (cons_option o xs) (place_in (source_name x) (cons_option n ns)) ≡ Some x
here o n xs ns x e f =
    subst (λ q. slice_get (cons_option q xs) (place_in (source_name x) (cons_option n ns)) ≡ Some x) (sym e)
    (subst (λ k. slice_get (x ∷ xs) (place_in (source_name x) (cons_option k ns)) ≡ Some x) (sym f)
    (found_here (bytes_eq (source_name x) (source_name x)) (place_in (source_name x) ns) x xs ((bytes_eq-Decides (source_name x) (source_name x)).1 refl)))

pub at_source : (is : List tree.Item) (i : tree.Item) (x : Source) → Contains is i → source_of i ≡ Some x → IsDistinct bytes_eq (names_of is) → slice_get (filter_map source_of is) (place_in (source_name x) (filter_map has_body is)) ≡ Some x
at_source [] i x at e d = absurd (nothing_in i at)
at_source (y ∷ is) i x (zero, below, same) e d =
    here (source_of y) (has_body y) (filter_map source_of is) (filter_map has_body is) x (ap source_of same ∙ e) (body_name y ∙ ap (option_map source_name) (ap source_of same ∙ e))
at_source (y ∷ is) i x (suc k, below, same) e d =
    behind (source_of y) (has_body y) (filter_map source_of is) (filter_map has_body is) (source_name x) x (body_name y)
    (λ z f. declared_in (λ n. bytes_eq (source_name z) n ≡ false) is i (source_name x) (k, omega arith, same) (declared_source i x e) (first_apart (declaration y) (declarations is) (source_name z) (declared_source y z f) d))
    (at_source is i x (k, omega arith, same) e (rest_distinct (declaration y) (declarations is) d))

names_step : (o : Option Source) (n : Option Name) (xs : List Source) (ns : List Name) → n ≡ option_map source_name o → ns ≡ map source_name xs → cons_option n ns ≡ map source_name (cons_option o xs)
names_step None n xs ns e f = ap (λ k. cons_option k ns) e ∙ f
names_step (Some y) n xs ns e f = ap (λ k. cons_option k ns) e ∙ ap (λ zs. source_name y ∷ zs) f

names_are : (is : List tree.Item) → filter_map has_body is ≡ map source_name (filter_map source_of is)
names_are [] = refl
names_are (i ∷ is) = names_step (source_of i) (has_body i) (filter_map source_of is) (filter_map has_body is) (body_name i) (names_are is)

-- so the name has a position
pub place_is : (is : List tree.Item) (x : Source) → slice_get (filter_map source_of is) (place_in (source_name x) (filter_map has_body is)) ≡ Some x
    → position (λ z. bytes_eq z (source_name x)) (filter_map has_body is) ≡ Some (place_in (source_name x) (filter_map has_body is))
place_is is x at =
    let q = place_in (source_name x) (filter_map has_body is) in
    let short = slice_get_within (filter_map source_of is) q x at in
    let same = length-map (filter_map source_of is) source_name in
    let long = ap (λ (ns : List Name). length ns) (names_are is) in
    let below : q < length (filter_map has_body is) = omega (arith, short, same, long) in
    positioned (nat_lt q (length (filter_map has_body is))) q (lt-ltb q (length (filter_map has_body is)) below)
