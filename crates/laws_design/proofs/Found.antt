-- The body of an item of a model, by the number that its object has.
use Rattle.std.proofs.Common.{◌≡◌, ◌<◌, ℕ, zero, suc, ◌+◌, List, [], ◌∷◌, ◌++◌, take, length, Option, Some, None, refl, sym, ap, ◌∙◌, subst, arith}
use Rattle.std.specs.Prelude.{slice_get, filter_map, option_map, unwrap_or, option_to_list, Contains}
use Rattle.std.specs.List.{flat_map, cons_option}
use Rattle.std.proofs.lemmas.List.{length-map}
use Rattle.std.proofs.lemmas.Option.{slice_get-map, slice_get_within}
use Rattle.elaborate_objects.specs.ModelTree.Tree as tree
use Rattle.elaborate_objects.specs.FlatDesign.Code.{Arena, arena_of, body_at}
use Rattle.elaborate_objects.specs.FlatDesign.declared.code.CodeBody.{CodeBody}
use Rattle.elaborate_objects.specs.FlatDesign.declared.design.Design.{Design}
use Rattle.elaborate_objects.specs.ModelRules.Scopes.{Scope, item_scope}
use Rattle.elaborate_objects.specs.ModelRules.Passes.{first_fault}
use Rattle.laws_code.specs.CodeRules.Deeds.{Home, has_body, body_number}
use Rattle.laws_code.specs.CodeRules.Bodies.{Source, source_of, source_name, IsBody, IsBodyIf, AreBodies, around_item, body_count}
use Rattle.elaborate_objects.specs.DesignRules.Forms.{around, items_in, bodies_in, body}
use Rattle.elaborate_objects.specs.DesignRules.Designs.{IsDesignOf}
use Rattle.elaborate_objects.specs.DesignRules.Statics.{source_list, lists_among, static_lists, static_list}
use Rattle.laws_design.proofs.Children.{same_some, slice_left, slice_right}
use Rattle.laws_design.proofs.Handlers.{home_at, placed, bodies_there, differ}
use Rattle.laws_design.proofs.NamedBodies.{place_in, at_source, place_is}

module _ (modules : List tree.Module) (all : List tree.Item) (place : ℕ) (h : Home) (a : Arena) where
  -- the body of a source, at a place of bodies
  pub record IsBodyAt (x : Source) (bodies : List CodeBody) (k : ℕ) : Type 0 where
    pub scope : Scope
    pub body : CodeBody
    pub there : slice_get bodies k ≡ Some body
    pub is_body : IsBody place h a scope x body

  body_if : (o : Option Source) (s : Scope) (xs : List Source) (bodies mid : List CodeBody) (k : ℕ) (x : Source) → IsBodyIf place h a s o bodies mid → slice_get (cons_option o xs) k ≡ Some x
      → ((j : ℕ) → slice_get xs j ≡ Some x → IsBodyAt x mid j) → IsBodyAt x bodies k
  body_if None s xs bodies mid k x r e rest = subst (λ bs. IsBodyAt x bs k) (sym r) (rest k e)
  body_if (Some y) s xs bodies mid zero x r e rest = record { scope = s; body = r.0; there = ap (λ bs. slice_get bs 0) r.1; is_body = subst (λ z. IsBody place h a s z r.0) (same_some y x e) r.2 }
  body_if (Some y) s xs bodies mid (suc k) x r e rest =
      let w = rest k e in
      record { scope = w.scope; body = w.body; there = ap (λ bs. slice_get bs (suc k)) r.1 ∙ w.there; is_body = w.is_body }

  pub body_of_source : (is : List tree.Item) (bodies rest : List CodeBody) → AreBodies modules all place h a is bodies rest → (k : ℕ) (x : Source) → slice_get (filter_map source_of is) k ≡ Some x → IsBodyAt x bodies k
  body_of_source [] bodies rest r k x e = cc
  body_of_source (i ∷ is) bodies rest r k x e =
      body_if (source_of i) (item_scope modules all (around_item i)) (filter_map source_of is) bodies r.0 k x r.1 e (λ j f. body_of_source is r.0 rest r.2 j x f)

-- what a body is sensitive to

sources_step : (o : Option Source) (xs : List Source) (n : ℕ) → length xs ≡ n → length (cons_option o xs) ≡ length (option_to_list o) + n
sources_step None xs n e = let z : length xs ≡ 0 + n = omega (arith, e) in z
sources_step (Some x) xs n e = omega (arith, e)

sources_count : (is : List tree.Item) → length (filter_map source_of is) ≡ body_count is
sources_count [] = refl
sources_count (i ∷ is) = sources_step (source_of i) (filter_map source_of is) (body_count is) (sources_count is)

module _ (all : List tree.Module) where
  lists_count : (x : tree.Module) → length (lists_among all x.items x.items) ≡ body_count x.items
  lists_count x = length-map (filter_map source_of x.items) (source_list all x.items) ∙ sources_count x.items

  -- the lists of a module are behind those of the modules before it
  list_there : (ms : List tree.Module) (place : ℕ) (x : tree.Module) (q : ℕ) → slice_get ms place ≡ Some x → q < body_count x.items
      → slice_get (flat_map (λ (y : tree.Module). lists_among all y.items y.items) ms) (bodies_in (take place ms) + q) ≡ slice_get (lists_among all x.items x.items) q
  list_there [] place x q at short = cc
  list_there (y ∷ ms) zero x q at short =
      let c = lists_count y in
      let same : q < length (lists_among all y.items y.items) = subst (λ (z : tree.Module). q < length (lists_among all z.items z.items)) (sym (same_some y x at)) (let d = lists_count x in omega (arith, d, short)) in
      ap (slice_get (lists_among all y.items y.items ++ flat_map (λ (z : tree.Module). lists_among all z.items z.items) ms)) (let e : 0 + q ≡ q = omega arith in e)
      ∙ slice_left (lists_among all y.items y.items) (flat_map (λ (z : tree.Module). lists_among all z.items z.items) ms) q same ∙ ap (λ (z : tree.Module). slice_get (lists_among all z.items z.items) q) (same_some y x at)
  list_there (y ∷ ms) (suc place) x q at short =
      let c = lists_count y in
      let e : body_count y.items + bodies_in (take place ms) + q ≡ length (lists_among all y.items y.items) + (bodies_in (take place ms) + q) = omega (arith, c) in
      ap (slice_get (lists_among all y.items y.items ++ flat_map (λ (z : tree.Module). lists_among all z.items z.items) ms)) e
      ∙ slice_right (lists_among all y.items y.items) (flat_map (λ (z : tree.Module). lists_among all z.items z.items) ms) (bodies_in (take place ms) + q)
      ∙ list_there ms place x q at short

module _ (m : tree.Model) (clean : first_fault m ≡ None) (d : Design) (design : IsDesignOf m d) where
  -- the body of an item of the module at a place, by its number, and what it is sensitive to
  pub record IsBodyOfItem (place : ℕ) (z : tree.Module) (x : Source) (number : ℕ) : Type 0 where
    pub scope : Scope
    pub body : CodeBody
    pub found : body_at (arena_of d.code) number ≡ Some body
    pub is_body : IsBody place (home_at m clean d design place) (arena_of d.code) scope x body
    pub written : static_list (static_lists m.modules) number ≡ source_list m.modules z.items x

  pub body_of_item : (place : ℕ) (z : tree.Module) → slice_get m.modules place ≡ Some z → (i : tree.Item) (x : Source) → Contains z.items i → source_of i ≡ Some x → IsBodyOfItem place z x (body (around m.modules place) (source_name x))
  body_of_item place z there i x listed has =
      let first = bodies_in (take place m.modules) in
      let q = place_in (source_name x) (filter_map has_body z.items) in
      let at = at_source z.items i x listed has (differ m clean d design place z there) in
      let b = bodies_there m clean d design place z there in
      let t = body_of_source m.modules z.items place (home_at m clean d design place) (arena_of d.code) z.items b.bodies b.rest b.read q x at in
      let number : body (around m.modules place) (source_name x) ≡ first + q =
      ap (λ (is : List tree.Item). unwrap_or (body_number (record { first_body = first; exceptions = [] }) is (source_name x)) 0) (ap items_in there)
      ∙ ap (λ o. unwrap_or (option_map (λ n. first + n) o) 0) (place_is z.items x at) in
      let short = slice_get_within (filter_map source_of z.items) q x at in
      let count = sources_count z.items in
      let list = list_there m.modules m.modules place z q there (omega (arith, short, count)) ∙ slice_get-map (source_list m.modules z.items) (filter_map source_of z.items) q ∙ ap (option_map (source_list m.modules z.items)) at in
      record {
        scope = t.scope;
        body = t.body;
        found = placed m clean d design b.before b.bodies first q q (body (around m.modules place) (source_name x)) t.body b.total b.count refl (sym number) t.there;
        is_body = t.is_body;
        written = ap (λ n. static_list (static_lists m.modules) n) number ∙ ap (λ o. unwrap_or o []) list;
      }
