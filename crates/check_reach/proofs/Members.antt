-- What stands in lists.
use Rattle.std.proofs.Common.{◌≡◌, ◌⊎◌, ℕ, Bool, true, false, ◌||◌, ◌&&◌, not, cond, List, [], ◌∷◌, ◌++◌, map, filter_map, length, Option, Some, None, refl, sym, ap, ◌∙◌, subst, inl, inr, arith, ◌<◌, ◌≤◌, ◌+◌}
use Rattle.std.specs.Prelude.{bytes_eq, filter, find, is_some, position}
use Rattle.std.specs.List.{list_any, list_all, flat_map, cons_option, prefix_len, AllByRecursion}
use Rattle.std.proofs.lemmas.Bool.{lt-ltb}
use Rattle.std.proofs.lemmas.Slice.Eq.{bytes_eq-Decides}
use Rattle.std.proofs.lemmas.List.Folds.{list_any-append}
use Rattle.check_expressions.specs.ModelRules.Reach.{Body, Names, is_among, names_where}

abbrev pub In : {X : Type 0} → X → List X → Type 0
In x [] = ⊥
In x (y ∷ ys) = (x ≡ y) ⊎ In x ys

-- tests

pub and_true : (a b : Bool) → (a && b) ≡ true → (a ≡ true) × (b ≡ true)
and_true true b h = (refl, h)
and_true false b h = cc

pub and_both : (a b : Bool) → a ≡ true → b ≡ true → (a && b) ≡ true
and_both true b h k = k
and_both false b h k = cc

pub or_cases : (a b : Bool) → (a || b) ≡ true → (a ≡ true) ⊎ (b ≡ true)
or_cases true b h = inl refl
or_cases false b h = inr h

pub or_left : (a b : Bool) → a ≡ true → (a || b) ≡ true
or_left true b h = refl
or_left false b h = cc

pub or_right : (a b : Bool) → b ≡ true → (a || b) ≡ true
or_right true b h = refl
or_right false b h = h

pub same_test : (a b : Bool) → (a ≡ true → b ≡ true) → (b ≡ true → a ≡ true) → a ≡ b
same_test true b f g = sym (f refl)
same_test false true f g = g refl
same_test false false f g = refl

-- names

pub same_bytes : (n : List ℕ) → bytes_eq n n ≡ true
same_bytes n = (bytes_eq-Decides n n).1 refl

pub equal_bytes : (a b : List ℕ) → bytes_eq a b ≡ true → a ≡ b
equal_bytes a b h = (bytes_eq-Decides a b).0 h

-- tests of lists

any_or : {X : Type 0} (p : X → Bool) (x : X) (xs : List X) → (p x ≡ true) ⊎ (list_any p xs ≡ true) → (list_any p xs ≡ true → (y : X) × In y xs × (p y ≡ true)) → (y : X) × In y (x ∷ xs) × (p y ≡ true)
any_or p x xs (inl here) rest = (x, inl refl, here)
any_or p x xs (inr there) rest = let w = rest there in (w.0, inr w.1, w.2)

pub any_in : {X : Type 0} (p : X → Bool) (xs : List X) → list_any p xs ≡ true → (x : X) × In x xs × (p x ≡ true)
any_in p [] h = cc
any_in p (x ∷ xs) h = any_or p x xs (or_cases (p x) (list_any p xs) h) (any_in p xs)

pub in_any : {X : Type 0} (p : X → Bool) (xs : List X) (x : X) → In x xs → p x ≡ true → list_any p xs ≡ true
in_any p [] x at h = absurd at
in_any p (y ∷ ys) x (inl is) h = or_left (p y) (list_any p ys) (subst (λ z. p z ≡ true) is h)
in_any p (y ∷ ys) x (inr at) h = or_right (p y) (list_any p ys) (in_any p ys x at h)

pub all_from : {X : Type 0} (P : X → Type 0) (xs : List X) → ((x : X) → In x xs → P x) → AllByRecursion P xs
all_from P [] f = tt
all_from P (x ∷ xs) f = (f x (inl refl), all_from P xs (λ y at. f y (inr at)))

pub all_at : {X : Type 0} (P : X → Type 0) (xs : List X) → AllByRecursion P xs → (x : X) → In x xs → P x
all_at P [] h x at = absurd at
all_at P (y ∷ ys) h x (inl is) = subst P (sym is) h.0
all_at P (y ∷ ys) h x (inr at) = all_at P ys h.1 x at

pub list_from : {X : Type 0} (p : X → Bool) (xs : List X) → ((x : X) → In x xs → p x ≡ true) → list_all p xs ≡ true
list_from p [] f = refl
list_from p (x ∷ xs) f = and_both (p x) (list_all p xs) (f x (inl refl)) (list_from p xs (λ y at. f y (inr at)))

pub list_at : {X : Type 0} (p : X → Bool) (xs : List X) → list_all p xs ≡ true → (x : X) → In x xs → p x ≡ true
list_at p [] h x at = absurd at
list_at p (y ∷ ys) h x (inl is) = subst (λ z. p z ≡ true) (sym is) (and_true (p y) (list_all p ys) h).0
list_at p (y ∷ ys) h x (inr at) = list_at p ys (and_true (p y) (list_all p ys) h).1 x at

-- lists that come of lists

pub in_left : {X : Type 0} (x : X) (xs ys : List X) → In x xs → In x (xs ++ ys)
in_left x [] ys at = absurd at
in_left x (z ∷ zs) ys (inl is) = inl is
in_left x (z ∷ zs) ys (inr at) = inr (in_left x zs ys at)

pub in_right : {X : Type 0} (x : X) (xs ys : List X) → In x ys → In x (xs ++ ys)
in_right x [] ys at = at
in_right x (z ∷ zs) ys at = inr (in_right x zs ys at)

pub in_either : {X : Type 0} (x : X) (xs ys : List X) → In x (xs ++ ys) → In x xs ⊎ In x ys
in_either x [] ys at = inr at
in_either x (z ∷ zs) ys (inl is) = inl (inl is)
in_either x (z ∷ zs) ys (inr at) = elim (in_either x zs ys at) [ inl there ↦ inl (inr there) | inr behind ↦ inr behind ]

pub in_map : {X Y : Type 0} (f : X → Y) (xs : List X) (y : Y) → In y (map f xs) → (x : X) × In x xs × (y ≡ f x)
in_map f [] y at = absurd at
in_map f (x ∷ xs) y (inl is) = (x, inl refl, is)
in_map f (x ∷ xs) y (inr at) = let w = in_map f xs y at in (w.0, inr w.1, w.2)

pub map_in : {X Y : Type 0} (f : X → Y) (xs : List X) (x : X) → In x xs → In (f x) (map f xs)
map_in f [] x at = absurd at
map_in f (y ∷ ys) x (inl is) = inl (ap f is)
map_in f (y ∷ ys) x (inr at) = inr (map_in f ys x at)

module _ {X Y : Type 0} (h : X → Option Y) where
  in_cons : (x : X) (o : Option Y) (xs : List X) (y : Y) → h x ≡ o → In y (cons_option o (filter_map h xs)) → (In y (filter_map h xs) → (z : X) × In z xs × (h z ≡ Some y)) → (z : X) × In z (x ∷ xs) × (h z ≡ Some y)
  in_cons x None xs y e at rest = let w = rest at in (w.0, inr w.1, w.2)
  in_cons x (Some v) xs y e (inl is) rest = (x, inl refl, e ∙ ap Some (sym is))
  in_cons x (Some v) xs y e (inr at) rest = let w = rest at in (w.0, inr w.1, w.2)

  pub in_filter_map : (xs : List X) (y : Y) → In y (filter_map h xs) → (x : X) × In x xs × (h x ≡ Some y)
  in_filter_map [] y at = absurd at
  in_filter_map (x ∷ xs) y at = in_cons x (h x) xs y refl at (in_filter_map xs y)

  cons_behind : (o : Option Y) (ys : List Y) (y : Y) → In y ys → In y (cons_option o ys)
  cons_behind None ys y at = at
  cons_behind (Some v) ys y at = inr at

  cons_here : (o : Option Y) (ys : List Y) (y : Y) → o ≡ Some y → In y (cons_option o ys)
  cons_here o ys y e = rw e (inl refl)

  pub filter_map_in : (xs : List X) (x : X) (y : Y) → In x xs → h x ≡ Some y → In y (filter_map h xs)
  filter_map_in [] x y at e = absurd at
  filter_map_in (z ∷ zs) x y (inl is) e = cons_here (h z) (filter_map h zs) y (ap h (sym is) ∙ e)
  filter_map_in (z ∷ zs) x y (inr at) e = cons_behind (h z) (filter_map h zs) y (filter_map_in zs x y at e)

  length_cons : (o : Option Y) (ys : List Y) (n : ℕ) → length ys ≤ n → length (cons_option o ys) ≤ n + 1
  length_cons None ys n h = omega (arith, h)
  length_cons (Some y) ys n h = omega (arith, h)

  pub length_filtered : (xs : List X) → length (filter_map h xs) ≤ length xs
  length_filtered [] = omega arith
  length_filtered (x ∷ xs) = let more = length_cons (h x) (filter_map h xs) (length xs) (length_filtered xs) in omega (arith, more)

pub in_flat_map : {X Y : Type 0} (g : X → List Y) (xs : List X) (y : Y) → In y (flat_map g xs) → (x : X) × In x xs × In y (g x)
in_flat_map g [] y at = absurd at
in_flat_map g (x ∷ xs) y at =
    elim (in_either y (g x) (flat_map g xs) at) [
      | inl here ↦ (x, inl refl, here)
      | inr there ↦ let w = in_flat_map g xs y there in (w.0, inr w.1, w.2)
    ]

pub flat_map_in : {X Y : Type 0} (g : X → List Y) (xs : List X) (x : X) (y : Y) → In x xs → In y (g x) → In y (flat_map g xs)
flat_map_in g [] x y at h = absurd at
flat_map_in g (z ∷ zs) x y (inl is) h = in_left y (g z) (flat_map g zs) (subst (λ w. In y (g w)) is h)
flat_map_in g (z ∷ zs) x y (inr at) h = in_right y (g z) (flat_map g zs) (flat_map_in g zs x y at h)

module _ {X : Type 0} (p : X → Bool) where
  in_kept : (b : Bool) (x : X) (xs : List X) (y : X) → p x ≡ b → In y (cond b (x ∷ filter p xs) (filter p xs)) → (In y (filter p xs) → In y xs × (p y ≡ true)) → In y (x ∷ xs) × (p y ≡ true)
  in_kept true x xs y e (inl is) rest = (inl is, subst (λ z. p z ≡ true) (sym is) e)
  in_kept true x xs y e (inr at) rest = let w = rest at in (inr w.0, w.1)
  in_kept false x xs y e at rest = let w = rest at in (inr w.0, w.1)

  pub in_filter : (xs : List X) (y : X) → In y (filter p xs) → In y xs × (p y ≡ true)
  in_filter [] y at = absurd at
  in_filter (x ∷ xs) y at = in_kept (p x) x xs y refl at (in_filter xs y)

  kept_here : (b : Bool) (x : X) (ys : List X) → b ≡ true → In x (cond b (x ∷ ys) ys)
  kept_here true x ys h = inl refl
  kept_here false x ys h = cc

  kept_behind : (b : Bool) (x y : X) (ys : List X) → In y ys → In y (cond b (x ∷ ys) ys)
  kept_behind true x y ys at = inr at
  kept_behind false x y ys at = at

  pub filter_in : (xs : List X) (y : X) → In y xs → p y ≡ true → In y (filter p xs)
  filter_in [] y at h = absurd at
  filter_in (x ∷ xs) y (inl is) h = subst (λ z. In z (cond (p x) (x ∷ filter p xs) (filter p xs))) (sym is) (kept_here (p x) x (filter p xs) (subst (λ z. p z ≡ true) is h))
  filter_in (x ∷ xs) y (inr at) h = kept_behind (p x) x y (filter p xs) (filter_in xs y at h)

  found_if : (b : Bool) (x : X) (o : Option X) (xs : List X) → p x ≡ b → is_some (cond b (Some x) o) ≡ true → (is_some o ≡ true → list_any p xs ≡ true) → (b || list_any p xs) ≡ true
  found_if true x o xs e h rest = refl
  found_if false x o xs e h rest = rest h

  pub found_any : (xs : List X) → is_some (find p xs) ≡ true → list_any p xs ≡ true
  found_any [] h = cc
  found_any (x ∷ xs) h = found_if (p x) x (find p xs) xs refl h (found_any xs)

  any_found_if : (b a : Bool) (x : X) (o : Option X) → (b || a) ≡ true → (a ≡ true → is_some o ≡ true) → is_some (cond b (Some x) o) ≡ true
  any_found_if true a x o h rest = refl
  any_found_if false a x o h rest = rest h

  pub any_found : (xs : List X) → list_any p xs ≡ true → is_some (find p xs) ≡ true
  any_found [] h = cc
  any_found (x ∷ xs) h = any_found_if (p x) (list_any p xs) x (find p xs) h (any_found xs)

  prefix_if : (b a : Bool) (r n : ℕ) → (b || a) ≡ true → (a ≡ true → r < n) → cond (not b) (1 + r) 0 < n + 1
  prefix_if true a r n h rest = omega arith
  prefix_if false a r n h rest = let less = rest h in omega (arith, less)

  prefix_within : (xs : List X) → list_any p xs ≡ true → prefix_len (λ x. not (p x)) xs < length xs
  prefix_within [] h = cc
  prefix_within (x ∷ xs) h = let less = prefix_if (p x) (list_any p xs) (prefix_len (λ y. not (p y)) xs) (length xs) h (prefix_within xs) in omega (arith, less)

  pub any_position : (xs : List X) → list_any p xs ≡ true → (k : ℕ) × (position p xs ≡ Some k)
  any_position xs h =
      let less = prefix_within xs h in
      (prefix_len (λ x. not (p x)) xs, rw (lt-ltb (prefix_len (λ x. not (p x)) xs) (length xs) less) refl)

-- names among others

pub among_in : (names : Names) (n : List ℕ) → is_among names n ≡ true → In n names
among_in [] n h = cc
among_in (m ∷ ms) n h =
    elim (or_cases (bytes_eq m n) (is_among ms n) h) [
      | inl same ↦ inl (sym (equal_bytes m n same))
      | inr rest ↦ inr (among_in ms n rest)
    ]

pub in_among : (names : Names) (n : List ℕ) → In n names → is_among names n ≡ true
in_among names n at = in_any (λ m. bytes_eq m n) names n at (same_bytes n)

pub in_where : (test : Body → Bool) (bs : List Body) (n : List ℕ) → In n (names_where test bs) → (b : Body) × In b bs × (test b ≡ true) × (n ≡ b.name)
in_where test bs n at =
    let w = in_map (λ (b : Body). b.name) (filter test bs) n at in
    let f = in_filter test bs w.0 w.1 in
    (w.0, f.0, f.1, w.2)

pub where_in : (test : Body → Bool) (bs : List Body) (b : Body) → In b bs → test b ≡ true → In b.name (names_where test bs)
where_in test bs b at h = map_in (λ (x : Body). x.name) (filter test bs) b (filter_in test bs b at h)

-- of lists that come of a list, one behind another
pub among_flat : {X : Type 0} (g : X → Names) (xs : List X) (n : List ℕ) → is_among (flat_map g xs) n ≡ list_any (λ x. is_among (g x) n) xs
among_flat g [] n = refl
among_flat g (x ∷ xs) n = list_any-append (λ m. bytes_eq m n) (g x) (flat_map g xs) ∙ ap (λ b. is_among (g x) n || b) (among_flat g xs n)

pub any_same : {X : Type 0} (p q : X → Bool) → ((x : X) → p x ≡ q x) → (xs : List X) → list_any p xs ≡ list_any q xs
any_same p q same [] = refl
any_same p q same (x ∷ xs) = rw (same x, any_same p q same xs) refl
