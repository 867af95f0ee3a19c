-- The objects in an instance: in object order they are those that its module gives.
use Rattle.std.proofs.Common.{◌≡◌, ◌<◌, ◌≤◌, ◌==◌, ℕ, zero, suc, ◌+◌, ◌-◌, false, List, [], ◌∷◌, ◌++◌, map, length, Some, refl, sym, ap, ◌∙◌, subst, inl, inr, arith}
use Rattle.std.specs.Prelude.{slice_get, filter, unwrap_or, Contains}
use Rattle.std.specs.List.{AllByRecursion}
use Rattle.std.proofs.lemmas.Bool.{eq-eqb, ne_eqb, cases_lt, cond-true, cond-false}
use Rattle.std.proofs.lemmas.List.{append-nil, length-append}
use Rattle.std.proofs.lemmas.List.Elements.{filter-append, Contains-append_right}
use Rattle.std.proofs.lemmas.Option.{slice_get_within}
use Rattle.elaborate_objects.specs.FlatDesign.declared.objects.Object.{Object}
use Rattle.elaborate_objects.specs.FlatDesign.declared.objects.ObjectForm.{ObjectForm}
use Rattle.elaborate_objects.specs.FlatDesign.declared.objects.ObjectForm.TheVariants as form
use Rattle.elaborate_objects.specs.DesignRules.Listing.{Inside}
use Rattle.elaborate_objects.specs.Rows.{Row}
use Rattle.elaborate_objects.specs.Left.{Rows, rows_at, object_of, inside_form, of_rows, rows_within}

-- places in two lists, one behind the other

pub same_some : {A : Type 0} (x y : A) → Some x ≡ Some y → x ≡ y
same_some x y h = ap (λ o. unwrap_or o x) h

pub slice_left : {A : Type 0} (xs ys : List A) (k : ℕ) → k < length xs → slice_get (xs ++ ys) k ≡ slice_get xs k
slice_left [] ys k h = absurd (omega (arith, h))
slice_left (x ∷ xs) ys zero h = refl
slice_left (x ∷ xs) ys (suc k) h = slice_left xs ys k (omega (arith, h))

pub slice_right : {A : Type 0} (xs ys : List A) (k : ℕ) → slice_get (xs ++ ys) (length xs + k) ≡ slice_get ys k
slice_right [] ys k = ap (slice_get ys) (let e : 0 + k ≡ k = omega arith in e)
slice_right (x ∷ xs) ys k = ap (slice_get (x ∷ xs ++ ys)) (let e : length (x ∷ xs) + k ≡ suc (length xs + k) = omega arith in e) ∙ slice_right xs ys k

pub head_in : {X : Type 0} (x : X) (xs : List X) → Contains (x ∷ xs) x
head_in x xs = (0, omega arith, refl)

pub tail_in : {X : Type 0} (x y : X) (ys : List X) → Contains ys x → Contains (y ∷ ys) x
tail_in x y ys h = Contains-append_right (y ∷ []) ys x h

pub all_map : {X : Type 0} (P Q : X → Type 0) → ((x : X) → P x → Q x) → (xs : List X) → AllByRecursion P xs → AllByRecursion Q xs
all_map P Q f [] h = tt
all_map P Q f (x ∷ xs) h = (f x h.0, all_map P Q f xs h.1)

pub all_append : {X : Type 0} (P : X → Type 0) (xs ys : List X) → AllByRecursion P xs → AllByRecursion P ys → AllByRecursion P (xs ++ ys)
all_append P [] ys h k = k
all_append P (x ∷ xs) ys h k = (h.0, all_append P xs ys h.1 k)

-- the objects that are in the instance of this number
abbrev pub in_instance : ℕ → List Object → List Object
in_instance j os = filter (λ (o : Object). o.parent == j) os

-- none of these objects is
abbrev Avoids : ℕ → List Object → Type 0
Avoids j os = AllByRecursion (λ (o : Object). (o.parent == j) ≡ false) os

none_in : (j : ℕ) (os : List Object) → Avoids j os → in_instance j os ≡ []
none_in j [] h = refl
none_in j (o ∷ os) h = cond-false (o.parent == j) (o ∷ in_instance j os) (in_instance j os) h.0 ∙ none_in j os h.1

without_first : (j : ℕ) (o : Object) (xs ys : List Object) → (o.parent == j) ≡ false → in_instance j (o ∷ (xs ++ ys)) ≡ in_instance j xs ++ in_instance j ys
without_first j o xs ys h = cond-false (o.parent == j) (o ∷ in_instance j (xs ++ ys)) (in_instance j (xs ++ ys)) h ∙ filter-append (λ (x : Object). x.parent == j) xs ys

-- what is so of no objects, and of those in an instance, is so of those inside an object
inside_any : (inside : Inside) (P : List Object → Type 0) (at : ℕ) (f : ObjectForm) → P [] → ((q : ℕ) → f ≡ form.Instance q → P (inside at q)) → P (inside_form inside at f)
inside_any inside P at (form.Instance m) none some = some m refl
inside_any inside P at other none some = none

-- objects in an instance are in it, or in one that comes after it; and they are in one that comes before them

abbrev Lower : Inside → Type 0
Lower inside = (j at q : ℕ) → j < at → Avoids j (inside at q)

abbrev Upper : Inside → Type 0
Upper inside = (j at q : ℕ) → at + 1 + length (inside at q) ≤ j → Avoids j (inside at q)

lower_rows : (inside : Inside) → Lower inside → (parent at j : ℕ) (rs : List Row) → (parent ≡ j → ⊥) → j < at → Avoids j (of_rows inside parent at rs)
lower_rows inside low parent at j [] ne below = tt
lower_rows inside low parent at j (r ∷ rs) ne below =
    let xs = inside_form inside at r.form in (
      ne_eqb parent j ne,
      all_append (λ (o : Object). (o.parent == j) ≡ false) xs (of_rows inside parent (at + 1 + length xs) rs) (inside_any inside (Avoids j) at r.form tt (λ q e. low j at q below))
          (lower_rows inside low parent (at + 1 + length xs) j rs ne (omega (arith, below))),
    )

lower_within : (t : Rows) (n : ℕ) → Lower (rows_within n t)
unfolding rows_within
lower_within t zero j at q below = tt
lower_within t (suc n) j at q below = lower_rows (rows_within n t) (lower_within t n) at (at + 1) j (rows_at t q) (λ e. omega (arith, e, below)) (omega (arith, below))

upper_rows : (inside : Inside) → Upper inside → (parent at j : ℕ) (rs : List Row) → parent < at → at + length (of_rows inside parent at rs) ≤ j → Avoids j (of_rows inside parent at rs)
upper_rows inside up parent at j [] below long = tt
upper_rows inside up parent at j (r ∷ rs) below long =
    let xs = inside_form inside at r.form in
    let ys = of_rows inside parent (at + 1 + length xs) rs in
    let l = length-append xs ys in (
      ne_eqb parent j (λ e. omega (arith, e, below, long)),
      all_append (λ (o : Object). (o.parent == j) ≡ false) xs ys
          (inside_any inside (λ zs. at + 1 + length zs ≤ j → Avoids j zs) at r.form (λ _. tt) (λ q e k. up j at q k) (omega (arith, long, l)))
          (upper_rows inside up parent (at + 1 + length xs) j rs (omega (arith, below)) (omega (arith, long, l))),
    )

upper_within : (t : Rows) (n : ℕ) → Upper (rows_within n t)
unfolding rows_within
upper_within t zero j at q long = tt
upper_within t (suc n) j at q long = upper_rows (rows_within n t) (upper_within t n) at (at + 1) j (rows_at t q) (omega arith) long

-- so many instances, one in the other, suffice
unfoldable pub Enough : ℕ → Rows → ℕ → Type 0
Enough zero t q = rows_at t q ≡ []
Enough (suc n) t q = AllByRecursion (λ (r : Row). (p : ℕ) → r.form ≡ form.Instance p → Enough n t p) (rows_at t q)

-- those in the instance itself
own_rows : (inside : Inside) → Lower inside → (parent at : ℕ) (rs : List Row) → parent < at → in_instance parent (of_rows inside parent at rs) ≡ map (object_of parent) rs
own_rows inside low parent at [] below = refl
own_rows inside low parent at (r ∷ rs) below =
    let xs = inside_form inside at r.form in
    let ys = of_rows inside parent (at + 1 + length xs) rs in
    cond-true (parent == parent) (object_of parent r ∷ in_instance parent (xs ++ ys)) (in_instance parent (xs ++ ys)) (eq-eqb parent parent refl)
    ∙ ap (λ zs. object_of parent r ∷ zs)
    (filter-append (λ (x : Object). x.parent == parent) xs ys
    ∙ ap (λ zs. zs ++ in_instance parent ys) (none_in parent xs (inside_any inside (Avoids parent) at r.form tt (λ q e. low parent at q below)))
    ∙ own_rows inside low parent (at + 1 + length xs) rs (omega (arith, below)))

own_within : (t : Rows) (n at q : ℕ) → Enough n t q → in_instance at (rows_within n t at q) ≡ map (object_of at) (rows_at t q)
unfolding rows_within Enough
own_within t zero at q e = sym (ap (map (object_of at)) e)
own_within t (suc n) at q e = own_rows (rows_within n t) (lower_within t n) at (at + 1) (rows_at t q) (omega arith)

-- and those in an instance that is found inside
abbrev Finds : Rows → (ℕ → Type 0) → Inside → Type 0
Finds t Good inside =
    (at p k : ℕ) (o : Object) (q : ℕ) → Good p → slice_get (inside at p) k ≡ Some o → o.form ≡ form.Instance q
    → in_instance (at + 1 + k) (inside at p) ≡ map (object_of (at + 1 + k)) (rows_at t q)

module _ (t : Rows) (Good : ℕ → Type 0) (inside : Inside) (low : Lower inside) (up : Upper inside)
    (own : (at q : ℕ) → Good q → in_instance at (inside at q) ≡ map (object_of at) (rows_at t q)) (finds : Finds t Good inside) where
  abbrev AreGood : List Row → Type 0
  AreGood rs = AllByRecursion (λ (r : Row). (p : ℕ) → r.form ≡ form.Instance p → Good p) rs

  first_found : (parent at : ℕ) (r : Row) (rs : List Row) (q : ℕ) → parent < at → Good q → r.form ≡ form.Instance q → in_instance at (of_rows inside parent at (r ∷ rs)) ≡ map (object_of at) (rows_at t q)
  first_found parent at r rs q below good e =
      let xs = inside_form inside at r.form in
      let ys = of_rows inside parent (at + 1 + length xs) rs in
      let apart : parent ≡ at → ⊥ = λ i. omega (arith, i, below) in
      without_first at (object_of parent r) xs ys (ne_eqb parent at apart)
      ∙ ap (λ zs. in_instance at xs ++ zs) (none_in at ys (lower_rows inside low parent (at + 1 + length xs) at rs apart (omega arith)))
      ∙ append-nil (in_instance at xs)
      ∙ ap (λ f. in_instance at (inside_form inside at f)) e
      ∙ own at q good

  inner_found : (parent at : ℕ) (r : Row) (rs : List Row) (k : ℕ) (o : Object) (q : ℕ) → parent < at → ((p : ℕ) → r.form ≡ form.Instance p → Good p) → k < length (inside_form inside at r.form)
      → slice_get (inside_form inside at r.form) k ≡ Some o → o.form ≡ form.Instance q → in_instance (at + 1 + k) (of_rows inside parent at (r ∷ rs)) ≡ map (object_of (at + 1 + k)) (rows_at t q)
  inner_found parent at r rs k o q below good short found e =
      let xs = inside_form inside at r.form in
      let ys = of_rows inside parent (at + 1 + length xs) rs in
      let apart : parent ≡ at + 1 + k → ⊥ = λ i. omega (arith, i, below) in
      without_first (at + 1 + k) (object_of parent r) xs ys (ne_eqb parent (at + 1 + k) apart)
      ∙ ap (λ zs. in_instance (at + 1 + k) xs ++ zs) (none_in (at + 1 + k) ys (lower_rows inside low parent (at + 1 + length xs) (at + 1 + k) rs apart (omega (arith, short))))
      ∙ append-nil (in_instance (at + 1 + k) xs)
      ∙ inside_any inside (λ zs. slice_get zs k ≡ Some o → in_instance (at + 1 + k) zs ≡ map (object_of (at + 1 + k)) (rows_at t q)) at r.form (λ i. cc) (λ p i there. finds at p k o q (good p i) there e) found

  later_found : (parent at : ℕ) (r : Row) (rs : List Row) (k : ℕ) (q : ℕ) → parent < at → length (inside_form inside at r.form) ≤ k
      → in_instance (at + 1 + k) (of_rows inside parent (at + 1 + length (inside_form inside at r.form)) rs) ≡ map (object_of (at + 1 + k)) (rows_at t q)
      → in_instance (at + 1 + k) (of_rows inside parent at (r ∷ rs)) ≡ map (object_of (at + 1 + k)) (rows_at t q)
  later_found parent at r rs k q below long rest =
      let xs = inside_form inside at r.form in
      let ys = of_rows inside parent (at + 1 + length xs) rs in
      without_first (at + 1 + k) (object_of parent r) xs ys (ne_eqb parent (at + 1 + k) (λ i. omega (arith, i, below)))
      ∙ ap (λ zs. zs ++ in_instance (at + 1 + k) ys)
      (none_in (at + 1 + k) xs (inside_any inside (λ zs. length zs ≤ k → Avoids (at + 1 + k) zs) at r.form (λ _. tt) (λ p e short. up (at + 1 + k) at p (omega (arith, short))) long))
      ∙ rest

  rows_found : (parent at : ℕ) (rs : List Row) → parent < at → AreGood rs → (k : ℕ) (o : Object) (q : ℕ) → slice_get (of_rows inside parent at rs) k ≡ Some o → o.form ≡ form.Instance q
      → in_instance (at + k) (of_rows inside parent at rs) ≡ map (object_of (at + k)) (rows_at t q)
  rows_found parent at [] below good k o q found e = cc
  rows_found parent at (r ∷ rs) below good zero o q found e =
      let same = same_some (object_of parent r) o found in
      let i = ap (λ (x : Object). x.form) same ∙ e in
      subst (λ j. in_instance j (of_rows inside parent at (r ∷ rs)) ≡ map (object_of j) (rows_at t q)) (let z : at ≡ at + 0 = omega arith in z) (first_found parent at r rs q below (good.0 q i) i)
  rows_found parent at (r ∷ rs) below good (suc k) o q found e =
      let xs = inside_form inside at r.form in
      let ys = of_rows inside parent (at + 1 + length xs) rs in
      subst (λ j. in_instance j (of_rows inside parent at (r ∷ rs)) ≡ map (object_of j) (rows_at t q)) (let z : at + 1 + k ≡ at + suc k = omega arith in z)
      (elim (cases_lt k (length xs)) [
        | inl short ↦ inner_found parent at r rs k o q below good.0 short (sym (slice_left xs ys k short) ∙ found) e
        | inr long ↦
            let z : length xs + (k - length xs) ≡ k = omega (arith, long) in
            let there = sym (slice_right xs ys (k - length xs)) ∙ ap (slice_get (xs ++ ys)) z ∙ found in
            let w : at + 1 + length xs + (k - length xs) ≡ at + 1 + k = omega (arith, long) in
            later_found parent at r rs k q below long
            (subst (λ j. in_instance j ys ≡ map (object_of j) (rows_at t q)) w (rows_found parent (at + 1 + length xs) rs (omega (arith, below)) good.1 (k - length xs) o q there e))
      ])

found_within : (t : Rows) (n : ℕ) → Finds t (Enough n t) (rows_within n t)
unfolding rows_within Enough
found_within t zero at p k o q good found e = cc
found_within t (suc n) at p k o q good found e =
    rows_found t (Enough n t) (rows_within n t) (lower_within t n) (upper_within t n) (own_within t n) (found_within t n) at (at + 1) (rows_at t p) (omega arith) good k o q found e

abbrev place_of_form : ObjectForm → ℕ
place_of_form (form.Instance q) = q
place_of_form other = 0

-- of the top instance and the objects behind it
pub children_in : (t : Rows) (n : ℕ) (top : Object) (p : ℕ) → top.form ≡ form.Instance p → Enough n t p → (j : ℕ) (o : Object) (q : ℕ)
    → slice_get (top ∷ rows_within n t 0 p) j ≡ Some o → o.form ≡ form.Instance q → in_instance j (rows_within n t 0 p) ≡ map (object_of j) (rows_at t q)
children_in t n top p is enough zero o q found e =
    let same = ap (λ (x : Object). place_of_form x.form) (same_some top o found) in
    own_within t n 0 p enough ∙ ap (λ k. map (object_of 0) (rows_at t k)) (sym (ap place_of_form is) ∙ same ∙ ap place_of_form e)
children_in t n top p is enough (suc k) o q found e =
    subst (λ j. in_instance j (rows_within n t 0 p) ≡ map (object_of j) (rows_at t q)) (let z : 0 + 1 + k ≡ suc k = omega arith in z) (found_within t n 0 p k o q enough found e)

-- each object behind the top instance comes from a row of the module of the instance that it is in

module _ (t : Rows) (all : List Object) where
  -- the number of an instance of the module at this place
  abbrev pub IsInstance : ℕ → ℕ → Type 0
  IsInstance j q = (o : Object) × (slice_get all j ≡ Some o) × (o.form ≡ form.Instance q)

  pub record IsGiven (o : Object) : Type 0 where
    pub place : ℕ
    pub row : Row
    pub around : IsInstance o.parent place
    pub listed : Contains (rows_at t place) row
    pub is : o ≡ object_of o.parent row

  abbrev Sits : ℕ → List Object → Type 0
  Sits at os = (k : ℕ) (o : Object) → slice_get os k ≡ Some o → slice_get all (at + k) ≡ Some o

  abbrev Gives : Inside → Type 0
  Gives inside = (at p : ℕ) → IsInstance at p → Sits (at + 1) (inside at p) → AllByRecursion IsGiven (inside at p)

  module _ (inside : Inside) (gives : Gives inside) where
    sits_later : (at : ℕ) (o : Object) (xs ys : List Object) → Sits at (o ∷ (xs ++ ys)) → Sits (at + 1 + length xs) ys
    sits_later at o xs ys sits k x found =
        subst (λ j. slice_get all j ≡ Some x) (let e : at + suc (length xs + k) ≡ at + 1 + length xs + k = omega arith in e) (sits (suc (length xs + k)) x (slice_right xs ys k ∙ found))

    sits_inner : (at : ℕ) (o : Object) (xs ys : List Object) → Sits at (o ∷ (xs ++ ys)) → Sits (at + 1) xs
    sits_inner at o xs ys sits k x found =
        subst (λ j. slice_get all j ≡ Some x) (let e : at + suc k ≡ at + 1 + k = omega arith in e) (sits (suc k) x (slice_left xs ys k (slice_get_within xs k x found) ∙ found))

    sits_first : (at : ℕ) (o : Object) (os : List Object) → Sits at (o ∷ os) → slice_get all at ≡ Some o
    sits_first at o os sits = subst (λ j. slice_get all j ≡ Some o) (let e : at + 0 ≡ at = omega arith in e) (sits 0 o refl)

    rows_give : (parent at p : ℕ) (rs : List Row) → IsInstance parent p → ((r : Row) → Contains rs r → Contains (rows_at t p) r) → Sits at (of_rows inside parent at rs) → AllByRecursion IsGiven (of_rows inside parent at rs)
    rows_give parent at p [] around part sits = tt
    rows_give parent at p (r ∷ rs) around part sits =
        let xs = inside_form inside at r.form in
        let ys = of_rows inside parent (at + 1 + length xs) rs in
        let there = sits_first at (object_of parent r) (xs ++ ys) sits in (
          record { place = p; row = r; around = around; listed = part r (head_in r rs); is = refl },
          all_append IsGiven xs ys
              (inside_any inside (λ zs. Sits (at + 1) zs → AllByRecursion IsGiven zs) at r.form (λ _. tt) (λ q e k. gives at q (object_of parent r, there, e) k) (sits_inner at (object_of parent r) xs ys sits))
              (rows_give parent (at + 1 + length xs) p rs around (λ x k. part x (tail_in x r rs k)) (sits_later at (object_of parent r) xs ys sits)),
        )

  gives_within : (n : ℕ) → Gives (rows_within n t)
  unfolding rows_within
  gives_within zero at p around sits = tt
  gives_within (suc n) at p around sits = rows_give (rows_within n t) (gives_within n) at (at + 1) p (rows_at t p) around (λ r k. k) sits

pub given_all : (t : Rows) (n : ℕ) (top : Object) (p : ℕ) → top.form ≡ form.Instance p → AllByRecursion (IsGiven t (top ∷ rows_within n t 0 p)) (rows_within n t 0 p)
given_all t n top p is =
    gives_within t (top ∷ rows_within n t 0 p) n 0 p (top, refl, is)
    (λ k o found. ap (slice_get (top ∷ rows_within n t 0 p)) (let e : 0 + 1 + k ≡ suc k = omega arith in e) ∙ found)
