-- The body of a process of a model, in code that reads back as the model's.
use Rattle.std.proofs.Common.{◌≡◌, ℕ, zero, suc, ◌+◌, List, [], ◌∷◌, ◌++◌, length, take, Option, Some, None, refl, sym, ap, ◌∙◌, subst, append_assoc, length-append, arith}
use Rattle.std.specs.Prelude.{slice_get, option_to_list}
use Rattle.std.proofs.lemmas.List.Sums.{sum_by-cons}
use Rattle.code_rules.specs.ModelTree.Tree as tree
use Rattle.code_rules.specs.FlatDesign.Code.{Arena}
use Rattle.code_rules.specs.FlatDesign.declared.code.CodeBody.{CodeBody}
use Rattle.code_rules.specs.ModelRules.Scopes.{Scope, item_scope}
use Rattle.code_rules.specs.Deeds.{Home}
use Rattle.code_rules.specs.Bodies as source
use Rattle.code_rules.specs.Bodies.{Source, source_of, IsBody, IsBodyIf, AreBodies, around_item, body_count, exceptions_of, AreModules, IsCodeOf}
use Rattle.laws_clocked.specs.Coded.{bodies_in}

same_item : (x y : tree.Item) → Some x ≡ Some y → x ≡ y
same_item x y e = cc

same_module : (x y : tree.Module) → Some x ≡ Some y → x ≡ y
same_module x y e = cc

-- the body of this number
pub at_place : (pre : List CodeBody) (b : CodeBody) (post : List CodeBody) → slice_get (pre ++ b ∷ post) (length pre) ≡ Some b
at_place [] b post = refl
at_place (x ∷ pre) b post = at_place pre b post

pub both_lengths : (xs ys : List CodeBody) (n k : ℕ) → length xs ≡ n → length ys ≡ k → length (xs ++ ys) ≡ n + k
both_lengths xs ys n k e g = length-append xs ys ∙ ap (λ j. j + length ys) e ∙ ap (λ j. n + j) g

module _ (modules : List tree.Module) (all : List tree.Item) (place : ℕ) (h : Home) (a : Arena) where
  -- the bodies of some items are the first, which leave the rest
  used_if : (o : Option Source) (s : Scope) (bodies mid : List CodeBody) → IsBodyIf place h a s o bodies mid → (used : List CodeBody) × (bodies ≡ used ++ mid) × (length used ≡ length (option_to_list o))
  used_if None s bodies mid r = ([], r, refl)
  used_if (Some x) s bodies mid r = (r.0 ∷ [], r.1, refl)

  pub used_bodies : (is : List tree.Item) (bodies rest : List CodeBody) → AreBodies modules all place h a is bodies rest → (used : List CodeBody) × (bodies ≡ used ++ rest) × (length used ≡ body_count is)
  used_bodies [] bodies rest r = ([], r, refl)
  used_bodies (i ∷ is) bodies rest r =
      let first = used_if (source_of i) (item_scope modules all (around_item i)) bodies r.0 r.1 in
      let more = used_bodies is r.0 rest r.2 in
      (first.0 ++ more.0, first.1 ∙ ap (λ (xs : List CodeBody). first.0 ++ xs) more.1 ∙ sym (append_assoc first.0 more.0 rest), both_lengths first.0 more.0 (length (option_to_list (source_of i))) (body_count is) first.2 more.2)

  -- the body of a process, behind so many others
  abbrev pub BodyOf : tree.ProcessItem → ℕ → List CodeBody → Type 0
  BodyOf p n bodies =
      (pre : List CodeBody) × (b : CodeBody) × (post : List CodeBody) × (bodies ≡ pre ++ b ∷ post) × (length pre ≡ n) × IsBody place h a (item_scope modules all p.name) (source.of_process p) b

  behind_bodies : (p : tree.ProcessItem) (used bodies mid : List CodeBody) (n k : ℕ) → bodies ≡ used ++ mid → length used ≡ n → BodyOf p k mid → BodyOf p (n + k) bodies
  behind_bodies p used bodies mid n k e g x =
      (used ++ x.0, x.1, x.2, e ∙ ap (λ (xs : List CodeBody). used ++ xs) x.3 ∙ sym (append_assoc used x.0 (x.1 ∷ x.2)), both_lengths used x.0 n k g x.4, x.5)

  here : (i : tree.Item) (line : ℕ) (p : tree.ProcessItem) (bodies mid : List CodeBody) → i ≡ tree.process line p → IsBodyIf place h a (item_scope modules all (around_item i)) (source_of i) bodies mid → BodyOf p 0 bodies
  here i line p bodies mid e r =
      let k = subst (λ (j : tree.Item). IsBodyIf place h a (item_scope modules all (around_item j)) (source_of j) bodies mid) e r in
      ([], k.0, mid, k.1, refl, k.2)

  pub process_body : (is : List tree.Item) (bodies rest : List CodeBody) → AreBodies modules all place h a is bodies rest → (n line : ℕ) (p : tree.ProcessItem) → slice_get is n ≡ Some (tree.process line p) → BodyOf p (body_count (take n is)) bodies
  process_body [] bodies rest r n line p e = cc
  process_body (i ∷ is) bodies rest r zero line p e = here i line p bodies r.0 (same_item i (tree.process line p) e) r.1
  process_body (i ∷ is) bodies rest r (suc n) line p e =
      let first = used_if (source_of i) (item_scope modules all (around_item i)) bodies r.0 r.1 in
      behind_bodies p first.0 bodies r.0 (length (option_to_list (source_of i))) (body_count (take n is)) first.1 first.2 (process_body is r.0 rest r.2 n line p e)

-- the bodies of a module of a model
pub record BodiesOf (modules : List tree.Module) (exceptions : List (List ℕ)) (a : Arena) (place start before : ℕ) (x : tree.Module) (bodies : List CodeBody) : Type 0 where
  pub first : ℕ
  pub pre : List CodeBody
  pub own : List CodeBody
  pub rest : List CodeBody
  pub they_are : bodies ≡ pre ++ own
  pub count : length pre ≡ before
  pub first_is : first ≡ start + before
  pub read : AreBodies modules x.items place (record { first_body = first; exceptions = exceptions }) a x.items own rest

module _ (modules : List tree.Module) (exceptions : List (List ℕ)) (a : Arena) where
  head_bodies : (m x : tree.Module) (place first : ℕ) (bodies rest : List CodeBody) → m ≡ x → AreBodies modules m.items place (record { first_body = first; exceptions = exceptions }) a m.items bodies rest → BodiesOf modules exceptions a place first 0 x bodies
  head_bodies m x place first bodies rest e r =
      record {
        first = first;
        pre = [];
        own = bodies;
        rest = rest;
        they_are = refl;
        count = refl;
        first_is = omega arith;
        read = subst (λ (y : tree.Module). AreBodies modules y.items place (record { first_body = first; exceptions = exceptions }) a y.items bodies rest) e r;
      }

  pub module_bodies : (ms : List tree.Module) (place first : ℕ) (bodies : List CodeBody) → AreModules modules exceptions a place first ms bodies → (n : ℕ) (x : tree.Module) → slice_get ms n ≡ Some x → BodiesOf modules exceptions a (place + n) first (bodies_in (take n ms)) x bodies
  module_bodies [] place first bodies r n x e = cc
  module_bodies (m ∷ ms) place first bodies r zero x e =
      subst (λ k. BodiesOf modules exceptions a k first 0 x bodies) (let same : place ≡ place + 0 = omega arith in same) (head_bodies m x place first bodies r.0 (same_module m x e) r.1)
  module_bodies (m ∷ ms) place first bodies r (suc n) x e =
      let used = used_bodies modules m.items place (record { first_body = first; exceptions = exceptions }) a m.items bodies r.0 r.1 in
      let more = module_bodies ms (place + 1) (first + body_count m.items) r.0 r.2 n x e in
      subst (λ j. BodiesOf modules exceptions a (place + suc n) first j x bodies) (sym (sum_by-cons (λ (y : tree.Module). body_count y.items) m (take n ms)))
      (subst (λ k. BodiesOf modules exceptions a k first (body_count m.items + bodies_in (take n ms)) x bodies) (let same : place + 1 + n ≡ place + suc n = omega arith in same)
      (record {
        first = more.first;
        pre = used.0 ++ more.pre;
        own = more.own;
        rest = more.rest;
        they_are = used.1 ∙ ap (λ (xs : List CodeBody). used.0 ++ xs) more.they_are ∙ sym (append_assoc used.0 more.pre more.own);
        count = both_lengths used.0 more.pre (body_count m.items) (bodies_in (take n ms)) used.2 more.count;
        first_is = (let e = more.first_is in let g : more.first ≡ first + (body_count m.items + bodies_in (take n ms)) = omega arith in g);
        read = more.read;
      }))
