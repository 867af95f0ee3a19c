-- The bodies of items.
use Rattle.std.proofs.Common.{◌≡◌, ℕ, ◌+◌, ◌<◌, List, [], ◌∷◌, ◌++◌, map, drop, length, get_or, ap, sym, ◌∙◌, arith, refl, append_assoc, drop-cons, add-one}
use Rattle.std.specs.Prelude.{option_to_list}
use Rattle.std.specs.List.{cons_option}
use Rattle.std.proofs.lemmas.List.Elements.{filter_map-append}
use Rattle.check_names.specs.ModelTree.Tree as tree
use Rattle.check_names.specs.ModelTree.Views.{item_of}
use Rattle.check_names.specs.ModelTree.declared.items.Item.{Item}
use Rattle.design_rules.specs.CodeRules.Deeds.{has_body}
use Rattle.design_rules.specs.CodeRules.Bodies.{source_of, body_count}
use Rattle.elaborate_objects.specs.Names.{names_of_bodies}

one_body : (i : tree.Item) (xs : List (List ℕ)) → length (cons_option (has_body i) xs) ≡ length (option_to_list (source_of i)) + length xs
one_body (tree.signal line s) xs = omega arith
one_body (tree.resolved line name) xs = omega arith
one_body (tree.clock line c) xs = omega arith
one_body (tree.fifo line t name size) xs = omega arith
one_body (tree.plain line kind name) xs = omega arith
one_body (tree.semaphore line name c) xs = omega arith
one_body (tree.memory line name size) xs = omega arith
one_body (tree.variable line t name c) xs = omega arith
one_body (tree.port line i name size) xs = omega arith
one_body (tree.export line i name) xs = omega arith
one_body (tree.initiator line name role) xs = omega arith
one_body (tree.target line name role) xs = omega arith
one_body (tree.instance line kind name) xs = omega arith
one_body (tree.bind line left right) xs = omega arith
one_body (tree.function line f) xs = omega arith
one_body (tree.process line p) xs = omega arith

pub counted : (is : List tree.Item) → length (names_of_bodies is) ≡ body_count is
counted [] = refl
counted (i ∷ is) = one_body i (names_of_bodies is) ∙ ap (λ n. length (option_to_list (source_of i)) + n) (counted is)

pub one_named : (x : Item) (xs : List Item) → names_of_bodies (map item_of (x ∷ xs)) ≡ names_of_bodies (item_of x ∷ []) ++ names_of_bodies (map item_of xs)
one_named x xs = filter_map-append has_body (item_of x ∷ []) (map item_of xs)

-- a walk along items, at the item k of it
module _ {A : Type 0} (part : List Item → List A) (here : Item → List A) (one : (x : Item) (xs : List Item) → part (x ∷ xs) ≡ here x ++ part xs) (xs : List Item) (k : ℕ) (x : Item) (within : k < length xs) (is : x ≡ get_or xs k x) where
  pub turn : (now new whole : List A) → new ≡ now ++ here x → now ++ part (drop k xs) ≡ whole → new ++ part (drop (k + 1) xs) ≡ whole
  turn now new whole e h =
      let at_turn = ap part (rw (add-one, drop-cons xs k x within, ← is) refl) ∙ one x (drop (k + 1) xs) in
      ap (λ ys. ys ++ part (drop (k + 1) xs)) e ∙ append_assoc now (here x) (part (drop (k + 1) xs)) ∙ sym (ap (λ ys. now ++ ys) at_turn) ∙ h
