-- Bodies, one item and one module after another.
use Rattle.std.proofs.Common.{◌≡◌, ◌<◌, ℕ, ◌+◌, List, [], ◌∷◌, ◌++◌, length, get_or, Option, Some, None, refl, sym, ap, ◌∙◌, subst, append_assoc, length-append, arith}
use Rattle.std.specs.Prelude.{option_to_list}
use Rattle.std.proofs.lemmas.List.{append-nil, get_or-map}
use Rattle.model_tree.specs.Tree as tree
use Rattle.model_tree.specs.declared.items.Item.{Item}
use Rattle.model_tree.specs.declared.items.Module.{Module}
use Rattle.flat_design.specs.Code.{Arena}
use Rattle.flat_design.specs.declared.code.CodeBody.{CodeBody}
use Rattle.code_rules.specs.ModelRules.Scopes.{Scope, item_scope}
use Rattle.code_rules.specs.Deeds.{Home}
use Rattle.code_rules.specs.Bodies.{Source, source_of, around_item, body_count, IsBodyIf, AreBodies, AreModules}
use Rattle.code_blocks.specs.LawsCode.HasCode.{BodyIfHasCode, ItemsHaveCode, ModulesHaveCode}
use Rattle.check_reach.specs.CheckNames.ModelNames.{module_items}
use Rattle.code_blocks.specs.declared.laid.Laid.{Laid}
use Rattle.model_check.specs.Parts.{AddsBodies, home_from}

-- how many bodies there are

one_counted : (place : ℕ) (h : Home) (a : Arena) (s : Scope) (source : Option Source) (bodies rest : List CodeBody)
    → IsBodyIf place h a s source bodies rest → length bodies ≡ length (option_to_list source) + length rest
one_counted place h a s None bodies rest is = omega (arith, ap length is)
one_counted place h a s (Some x) bodies rest is = omega (arith, ap length is.1)

pub bodies_counted : (modules : List tree.Module) (all : List tree.Item) (place : ℕ) (h : Home) (a : Arena) (items : List tree.Item) (bodies rest : List CodeBody)
    → AreBodies modules all place h a items bodies rest → length bodies ≡ body_count items + length rest
bodies_counted modules all place h a [] bodies rest are = omega (arith, ap length are)
bodies_counted modules all place h a (i ∷ is) bodies rest are =
    let one = one_counted place h a (item_scope modules all (around_item i)) (source_of i) bodies are.0 are.1 in
    let others = bodies_counted modules all place h a is are.0 rest are.2 in
    omega (arith, one, others)

module _ (modules : List tree.Module) (all : List tree.Item) (h : Home) where
  pub first_coded : (i : tree.Item) (is js : List tree.Item) → is ≡ i ∷ js → ItemsHaveCode modules all h is
      → BodyIfHasCode h (item_scope modules all (around_item i)) (source_of i) × ItemsHaveCode modules all h js
  first_coded i is js e coded = subst (ItemsHaveCode modules all h) e coded

  -- the body of one more item
  pub next_bodies : (place : ℕ) (a : Arena) (whole is js : List tree.Item) (i : tree.Item) (done : List CodeBody) (b : Option CodeBody) → is ≡ i ∷ js
      → ((tail rest : List CodeBody) → AreBodies modules all place h a is tail rest → AreBodies modules all place h a whole (done ++ tail) rest)
      → ((rest : List CodeBody) → IsBodyIf place h a (item_scope modules all (around_item i)) (source_of i) (option_to_list b ++ rest) rest)
      → (tail rest : List CodeBody) → AreBodies modules all place h a js tail rest → AreBodies modules all place h a whole ((done ++ option_to_list b) ++ tail) rest
  next_bodies place a whole is js i done b e before here tail rest are =
      subst (λ bs. AreBodies modules all place h a whole bs rest) (sym (append_assoc done (option_to_list b) tail))
      (before (option_to_list b ++ tail) rest (subst (λ ks. AreBodies modules all place h a ks (option_to_list b ++ tail) rest) (sym e) (tail, here tail, are)))

module _ (modules : List tree.Module) (exceptions : List (List ℕ)) where
  pub first_module_coded : (first : ℕ) (m : tree.Module) (ms ns : List tree.Module) → ms ≡ m ∷ ns → ModulesHaveCode modules exceptions first ms
      → ItemsHaveCode modules m.items (home_from first exceptions) m.items × ModulesHaveCode modules exceptions (first + body_count m.items) ns
  first_module_coded first m ms ns e coded = subst (ModulesHaveCode modules exceptions first) e coded

  -- the bodies of one more module
  pub next_modules : (a : Arena) (place first next : ℕ) (whole ms ns : List tree.Module) (m : tree.Module) (done more : List CodeBody) → ms ≡ m ∷ ns → next ≡ first + body_count m.items
      → ((rest : List CodeBody) → AreModules modules exceptions a place first ms rest → AreModules modules exceptions a 0 0 whole (done ++ rest))
      → ((rest : List CodeBody) → AreBodies modules m.items place (home_from first exceptions) a m.items (more ++ rest) rest)
      → (rest : List CodeBody) → AreModules modules exceptions a (place + 1) next ns rest → AreModules modules exceptions a 0 0 whole ((done ++ more) ++ rest)
  next_modules a place first next whole ms ns m done more e counted before here rest are =
      subst (AreModules modules exceptions a 0 0 whole) (sym (append_assoc done more rest))
      (before (more ++ rest) (subst (λ ks. AreModules modules exceptions a place first ks (more ++ rest)) (sym e) (rest, here rest, subst (λ n. AreModules modules exceptions a (place + 1) n ns rest) counted are)))

-- so many bodies there are behind one more module
pub module_counted : (modules : List tree.Module) (all : List tree.Item) (place : ℕ) (h : Home) (a : Arena) (items : List tree.Item) (done more new : List CodeBody) → new ≡ done ++ more
    → ((rest : List CodeBody) → AreBodies modules all place h a items (more ++ rest) rest) → length new ≡ length done + body_count items
module_counted modules all place h a items done more new grown are =
    let counted = bodies_counted modules all place h a items (more ++ []) [] (are []) in
    omega (arith, ap length grown, length-append done more, ap length (append-nil more), counted)

-- the items of the module at a place of the text
pub items_at : (ms : List Module) (i : ℕ) (x : Module) → i < length ms → x ≡ get_or ms i x → get_or (module_items ms) i [] ≡ x.items.items
items_at ms i x within is = get_or-map (λ (m : Module). m.items.items) ms i x [] within ∙ ap (λ (m : Module). m.items.items) (sym is)

-- bodies that are told by what is equal
pub added_at : (l : Laid) (old new : List CodeBody) (modules : List tree.Module) (names items all : List tree.Item) (p place first n : ℕ) (exceptions : List (List ℕ))
    → names ≡ all → items ≡ all → p ≡ place → n ≡ first
    → AddsBodies l old new (λ a xs rest. AreBodies modules names p (home_from n exceptions) a items xs rest)
    → AddsBodies l old new (λ a xs rest. AreBodies modules all place (home_from first exceptions) a all xs rest)
added_at l old new modules names items all p place first n exceptions e f g h added = (
  added.0,
  added.1,
  λ a begins rest.
      let at_first = subst (λ (k : ℕ). AreBodies modules names p (home_from k exceptions) a items (added.0 ++ rest) rest) h (added.2 a begins rest) in
      let at_place = subst (λ (k : ℕ). AreBodies modules names k (home_from first exceptions) a items (added.0 ++ rest) rest) g at_first in
      let at_items = subst (λ (is : List tree.Item). AreBodies modules names place (home_from first exceptions) a is (added.0 ++ rest) rest) f at_place in
      subst (λ (is : List tree.Item). AreBodies modules is place (home_from first exceptions) a all (added.0 ++ rest) rest) e at_items,
)

-- items that have code, told by what is equal
pub coded_at : (modules : List tree.Module) (names items all : List tree.Item) (first n : ℕ) (exceptions : List (List ℕ)) → names ≡ all → items ≡ all → n ≡ first
    → ItemsHaveCode modules all (home_from first exceptions) all → ItemsHaveCode modules names (home_from n exceptions) items
coded_at modules names items all first n exceptions e f g coded =
    subst (λ (k : ℕ). ItemsHaveCode modules names (home_from k exceptions) items) (sym g)
    (subst (λ (is : List tree.Item). ItemsHaveCode modules is (home_from first exceptions) items) (sym e)
    (subst (λ (is : List tree.Item). ItemsHaveCode modules all (home_from first exceptions) is) (sym f) coded))

-- the modules of a model, told by what is equal

pub modules_at : (ms ns whole : List tree.Module) (xs ys : List (List ℕ)) (a : Arena) (bodies : List CodeBody) → ms ≡ whole → ns ≡ whole → xs ≡ ys
    → AreModules ms xs a 0 0 ns bodies → AreModules whole ys a 0 0 whole bodies
modules_at ms ns whole xs ys a bodies e f g are =
    subst (λ (zs : List (List ℕ)). AreModules whole zs a 0 0 whole bodies) g
    (subst (λ (os : List tree.Module). AreModules whole xs a 0 0 os bodies) f (subst (λ (os : List tree.Module). AreModules os xs a 0 0 ns bodies) e are))

pub modules_coded_at : (ms ns whole : List tree.Module) (xs ys : List (List ℕ)) → ms ≡ whole → ns ≡ whole → xs ≡ ys
    → ModulesHaveCode whole ys 0 whole → ModulesHaveCode ms xs 0 ns
modules_coded_at ms ns whole xs ys e f g coded =
    subst (λ (zs : List (List ℕ)). ModulesHaveCode ms zs 0 ns) (sym g)
    (subst (λ (os : List tree.Module). ModulesHaveCode ms ys 0 os) (sym f) (subst (λ (os : List tree.Module). ModulesHaveCode os ys 0 whole) (sym e) coded))
