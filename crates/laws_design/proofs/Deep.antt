-- Where no module has itself, one level of instances more adds no object.
use Rattle.std.proofs.Common.{◌≡◌, ◌<◌, ◌≤◌, ◌+◌, ◌-◌, ◌⊎◌, ℕ, zero, suc, Bool, true, false, cond, List, [], ◌∷◌, ◌++◌, length, Option, Some, None, refl, sym, ap, ◌∙◌, subst, inl, inr, arith}
use Rattle.std.specs.Prelude.{◌==◌, ◌||◌, Contains}
use Rattle.std.specs.List.{AllByRecursion, IsDistinct, find, flat_map, list_any}
use Rattle.std.proofs.lemmas.Bool.{eqb-true, false≢true, cases_lt}
use Rattle.std.proofs.lemmas.Bool.Decides.{nat_tests}
use Rattle.std.proofs.lemmas.List.Elements.{Contains-append_left, Contains-append_right}
use Rattle.std.proofs.lemmas.Map.Steps.{length-le_from_distinct_below}
use Rattle.std.proofs.lemmas.Option.{slice_get_past}
use Rattle.elaborate_objects.specs.ModelTree.Tree as tree
use Rattle.elaborate_objects.specs.FlatDesign.declared.objects.Object.{Object}
use Rattle.elaborate_objects.proofs.ModelRules.Firsts.{or_none}
use Rattle.elaborate_objects.specs.DesignRules.declared.made.Made.{Made}
use Rattle.elaborate_objects.specs.DesignRules.Forms.{Around, around, items_in, items_at, module_place, object_form}
use Rattle.elaborate_objects.specs.DesignRules.Listing.{Inside, object_if, of_item, of_items, inside_within, inside}
use Rattle.elaborate_objects.specs.DesignRules.ObjectFaults.{made_by, made_at, has_within, leads_to, fault_at, first_of_itself, cycle_at, cycle_from, cycle_fault}
use Rattle.elaborate_objects.proofs.Closed.{any_from, or_cases, nothing_in}
use Rattle.laws_design.proofs.SizedItems.{mapped_none}

or_true : (a b : Bool) → (a ≡ true) ⊎ (b ≡ true) → (a || b) ≡ true
or_true true b h = refl
or_true false b (inl h) = absurd (false≢true h)
or_true false b (inr h) = h

any_in : {X : Type 0} (p : X → Bool) (xs : List X) (x : X) → Contains xs x → p x ≡ true → list_any p xs ≡ true
any_in p [] x at h = absurd (nothing_in x at)
any_in p (y ∷ ys) x (zero, below, is) h = or_true (p y) (list_any p ys) (inl (ap p is ∙ h))
any_in p (y ∷ ys) x (suc k, below, is) h = or_true (p y) (list_any p ys) (inr (any_in p ys x (k, omega arith, is) h))

none_or : {X : Type 0} (p : X → Bool) (x : X) (xs : List X) (b : Bool) → (find p xs ≡ None → list_any p xs ≡ false) → cond b (Some x) (find p xs) ≡ None → (b || list_any p xs) ≡ false
none_or p x xs true rest h = cc
none_or p x xs false rest h = rest h

none_any : {X : Type 0} (p : X → Bool) (xs : List X) → find p xs ≡ None → list_any p xs ≡ false
none_any p [] h = refl
none_any p (x ∷ xs) h = none_or p x xs (p x) (none_any p xs) h

same : (n : ℕ) → (n == n) ≡ true
same n = grind (arith, nat_tests)

module _ (ms : List tree.Module) where
  -- no module has itself
  at_all : (k j : ℕ) (more : List tree.Module) → cycle_from ms k more ≡ None → j < length more → list_any (leads_to ms (k + j)) (made_at ms (k + j)) ≡ false
  at_all k j [] h below = absurd (omega (arith, below))
  at_all k zero (m ∷ more) h below =
      let p = or_none (cycle_at ms k m) (cycle_from ms (k + 1) more) h in
      let e : k ≡ k + 0 = omega arith in
      subst (λ i. list_any (leads_to ms i) (made_at ms i) ≡ false) e (none_any (leads_to ms k) (made_at ms k) (mapped_none (fault_at m) (first_of_itself ms k) p.0))
  at_all k (suc j) (m ∷ more) h below =
      let p = or_none (cycle_at ms k m) (cycle_from ms (k + 1) more) h in
      let e : k + 1 + j ≡ k + suc j = omega arith in
      subst (λ i. list_any (leads_to ms i) (made_at ms i) ≡ false) e (at_all (k + 1) j more p.1 (omega (arith, below)))

  made_past : (j : ℕ) → length ms ≤ j → made_at ms j ≡ []
  made_past j past = ap (λ (o : Option tree.Module). flat_map (made_by ms) (items_in o)) (slice_get_past ms j past)

  acyclic : cycle_from ms 0 ms ≡ None → (p : ℕ) → has_within (suc (length ms)) ms p p ≡ false
  unfolding has_within
  acyclic h p =
      let e : 0 + p ≡ p = omega arith in
      elim (cases_lt p (length ms)) [
        | inl below ↦ subst (λ i. list_any (leads_to ms i) (made_at ms i) ≡ false) e (at_all 0 p ms h below)
        | inr past ↦ ap (list_any (leads_to ms p)) (made_past p past)
      ]

  -- one instance more
  more_has : (p n j : ℕ) → has_within n ms p j ≡ true → has_within (suc n) ms p j ≡ true
  unfolding has_within
  more_has p zero j h = cc
  more_has p (suc n) j h =
      let w = any_from (λ (x : Made). x.place == p || has_within n ms p x.place) (made_at ms j) h in
      any_in (λ (x : Made). x.place == p || has_within (suc n) ms p x.place) (made_at ms j) w.0 w.1
      (or_true (w.0.place == p) (has_within (suc n) ms p w.0.place)
      (elim (or_cases (w.0.place == p) (has_within n ms p w.0.place) w.2) [
        | inl here ↦ inl here
        | inr deeper ↦ inr (more_has p n w.0.place deeper)
      ]))

  all_has : (p n d j : ℕ) → has_within n ms p j ≡ true → has_within (n + d) ms p j ≡ true
  all_has p n zero j h = let e : n ≡ n + 0 = omega arith in subst (λ k. has_within k ms p j ≡ true) e h
  all_has p n (suc d) j h = let e : suc (n + d) ≡ n + suc d = omega arith in subst (λ k. has_within k ms p j ≡ true) e (more_has p (n + d) j (all_has p n d j h))

  -- an instance in a module, and what has that module
  module _ (p : ℕ) (x : Made) (at : Contains (made_at ms p) x) where
    first_has : (n : ℕ) → has_within (suc n) ms x.place p ≡ true
    unfolding has_within
    first_has n =
        any_in (λ (y : Made). y.place == x.place || has_within n ms x.place y.place) (made_at ms p) x at (or_true (x.place == x.place) (has_within n ms x.place x.place) (inl (same x.place)))

    then_has : (n q : ℕ) → has_within n ms p q ≡ true → has_within (suc n) ms x.place q ≡ true
    unfolding has_within
    then_has zero q h = cc
    then_has (suc n) q h =
        let w = any_from (λ (y : Made). y.place == p || has_within n ms p y.place) (made_at ms q) h in
        any_in (λ (y : Made). y.place == x.place || has_within (suc n) ms x.place y.place) (made_at ms q) w.0 w.1
        (or_true (w.0.place == x.place) (has_within (suc n) ms x.place w.0.place)
        (inr
        (elim (or_cases (w.0.place == p) (has_within n ms p w.0.place) w.2) [
          | inl here ↦ subst (λ i. has_within (suc n) ms x.place i ≡ true) (sym (eqb-true w.0.place p here)) (first_has n)
          | inr deeper ↦ then_has n w.0.place deeper
        ])))

    next_all : (n : ℕ) (qs : List ℕ) → AllByRecursion (λ q. has_within n ms p q ≡ true) qs → AllByRecursion (λ q. has_within (suc n) ms x.place q ≡ true) qs
    next_all n [] h = tt
    next_all n (q ∷ qs) h = (then_has n q h.0, next_all n qs h.1)

  module _ (clean : cycle_from ms 0 ms ≡ None) where
    apart_one : (p n : ℕ) → n ≤ suc (length ms) → (b : Bool) (q : ℕ) → (p == q) ≡ b → has_within n ms p q ≡ true → (p == q) ≡ false
    apart_one p n few true q e h =
        let all : n + (suc (length ms) - n) ≡ suc (length ms) = omega (arith, few) in
        let itself = subst (λ i. has_within n ms p i ≡ true) (sym (eqb-true p q e)) h in
        absurd (false≢true (sym (acyclic clean p) ∙ subst (λ k. has_within k ms p p ≡ true) all (all_has p n (suc (length ms) - n) p itself)))
    apart_one p n few false q e h = e

    apart : (p n : ℕ) → n ≤ suc (length ms) → (qs : List ℕ) → AllByRecursion (λ q. has_within n ms p q ≡ true) qs → AllByRecursion (λ q. (p == q) ≡ false) qs
    apart p n few [] h = tt
    apart p n few (q ∷ qs) h = (apart_one p n few (p == q) q refl h.0, apart p n few qs h.1)

    member_below : (qs : List ℕ) → AllByRecursion (λ q. q < length ms) qs → (q : ℕ) → list_any (λ y. q == y) qs ≡ true → q < length ms
    member_below [] h q is = cc
    member_below (y ∷ ys) h q is =
        elim (or_cases (q == y) (list_any (λ z. q == z) ys) is) [
          | inl here ↦ subst (λ i. i < length ms) (sym (eqb-true q y here)) h.0
          | inr there ↦ member_below ys h.1 q there
        ]

    few_of : (qs : List ℕ) → IsDistinct (λ a b. a == b) qs → AllByRecursion (λ q. q < length ms) qs → length qs ≤ length ms
    few_of qs distinct below = length-le_from_distinct_below qs (length ms) distinct (member_below qs below)

    distinct_more : (p : ℕ) (qs : List ℕ) → AllByRecursion (λ q. has_within (length qs) ms p q ≡ true) qs → IsDistinct (λ a b. a == b) qs → AllByRecursion (λ q. q < length ms) qs
        → IsDistinct (λ a b. a == b) (p ∷ qs)
    unfolding IsDistinct
    distinct_more p qs h distinct below = let few = few_of qs distinct below in (apart p (length qs) (omega (arith, few)) qs h, distinct)

    -- past the modules there are no objects
    no_items : (p : ℕ) → length ms ≤ p → items_at ms p ≡ []
    no_items p past = ap items_in (slice_get_past ms p past)

    nothing : (p : ℕ) → length ms ≤ p → (n at : ℕ) → inside_within n ms at p ≡ []
    unfolding inside_within
    nothing p past zero at = refl
    nothing p past (suc n) at = ap (of_items (inside_within n ms) (around ms p) at (at + 1)) (no_items p past)

-- items whose instances have the same objects

module _ (i j : Inside) (a : Around) (parent : ℕ) where
  one_same : (at : ℕ) (x : tree.Item) → ((y : Made) → Contains (made_by a.modules x) y → (k : ℕ) → i k y.place ≡ j k y.place) → of_item i a parent at x ≡ of_item j a parent at x
  one_same at (tree.signal line s) h = refl
  one_same at (tree.resolved line name) h = refl
  one_same at (tree.clock line c) h = refl
  one_same at (tree.fifo line t name size) h = refl
  one_same at (tree.plain line kind name) h = refl
  one_same at (tree.semaphore line name c) h = refl
  one_same at (tree.memory line name size) h = refl
  one_same at (tree.variable line t name c) h = refl
  one_same at (tree.port line p name size) h = refl
  one_same at (tree.export line p name) h = refl
  one_same at (tree.initiator line name role) h = refl
  one_same at (tree.target line name role) h = refl
  one_same at (tree.instance line kind name) h =
      ap (λ (os : List Object). object_if parent (tree.instance line kind name) (object_form a (tree.instance line kind name)) ++ os)
      (h (record { line = line; place = module_place a.modules kind }) (0, omega arith, refl) at)
  one_same at (tree.bind line left right) h = refl
  one_same at (tree.function line f) h = refl
  one_same at (tree.process line p) h = refl

  all_same : (at : ℕ) (is : List tree.Item) → ((y : Made) → Contains (flat_map (made_by a.modules) is) y → (k : ℕ) → i k y.place ≡ j k y.place) → of_items i a parent at is ≡ of_items j a parent at is
  all_same at [] h = refl
  all_same at (x ∷ is) h =
      let e = one_same at x (λ y c. h y (Contains-append_left (made_by a.modules x) (flat_map (made_by a.modules) is) y c)) in
      ap (λ (os : List Object). os ++ of_items i a parent (at + length os) is) e
      ∙ ap (λ (os : List Object). of_item j a parent at x ++ os)
      (all_same (at + length (of_item j a parent at x)) is (λ y c. h y (Contains-append_right (made_by a.modules x) (flat_map (made_by a.modules) is) y c)))

-- the modules around are distinct, so that there are no more of them than modules

deep : (ms : List tree.Module) → cycle_from ms 0 ms ≡ None → (n k : ℕ) (qs : List ℕ) (p at : ℕ) → AllByRecursion (λ q. has_within (length qs) ms p q ≡ true) qs
    → IsDistinct (λ a b. a == b) qs → AllByRecursion (λ q. q < length ms) qs → length ms ≤ n + length qs → inside_within (n + k) ms at p ≡ inside_within n ms at p
unfolding inside_within
deep ms clean zero k qs p at h distinct below most =
    elim (cases_lt p (length ms)) [
      | inl within ↦ absurd (let few = few_of ms clean (p ∷ qs) (distinct_more ms clean p qs h distinct below) (within, below) in omega (arith, few, most))
      | inr past ↦ nothing ms clean p past (0 + k) at
    ]
deep ms clean (suc n) k qs p at h distinct below most =
    let e : suc (n + k) ≡ suc n + k = omega arith in
    elim (cases_lt p (length ms)) [
      | inl within ↦
          subst (λ m. inside_within m ms at p ≡ inside_within (suc n) ms at p) e
          (all_same (inside_within (n + k) ms) (inside_within n ms) (around ms p) at (at + 1) (items_at ms p)
          (λ x c r.
          deep ms clean n k (p ∷ qs) x.place r (first_has ms p x c (length qs), next_all ms p x c (length qs) qs h) (distinct_more ms clean p qs h distinct below) (within, below)
          (omega (arith, most))))
      | inr past ↦ nothing ms clean p past (suc n + k) at ∙ sym (nothing ms clean p past (suc n) at)
    ]

pub none_left_out : (m : tree.Model) → cycle_fault m ≡ None → (n : ℕ) → length m.modules ≤ n → (at place : ℕ) → inside_within n m.modules at place ≡ inside m.modules at place
unfolding IsDistinct
none_left_out m clean n most at place =
    let ms = m.modules in
    let e : length ms + (n - length ms) ≡ n = omega (arith, most) in
    subst (λ j. inside_within j ms at place ≡ inside_within (length ms) ms at place) e
    (deep ms clean (length ms) (n - length ms) [] place at tt tt tt (omega arith))
