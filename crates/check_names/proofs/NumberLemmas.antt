-- Tables of the first of equal names.
use Rattle.std.proofs.Common.{subst, ◌≡◌, ℕ, suc, ◌+◌, Bool, true, false, cond, List, [], ◌∷◌, ◌++◌, map, take, length, Option, Some, None, refl, sym, ap, ◌∙◌, arith, append_assoc}
use Rattle.std.specs.Prelude.{bytes_eq, find, position, is_some, option_map, option_and_then, slice_get, nat_lt}
use Rattle.std.specs.Map.{lookup}
use Rattle.std.specs.Option.{option_or}
use Rattle.std.specs.List.{position_or_len}
use Rattle.std.proofs.lemmas.Bool.Decides.{nat_tests}
use Rattle.std.proofs.lemmas.Slice.Eq.{bytes_eq-Decides}
use Rattle.std.proofs.lemmas.List.{append-nil}
use Rattle.model_rules.specs.Members.{entry}
use Rattle.check_names.specs.Tables.{Numbers, with_first, numbered_from, numbered, place_in}

-- a map's entries by the texts of their keys
module _ {K : Type 0} (name_of : K → List ℕ) (q : List ℕ) (test : K → Bool) (same : (k : K) → test k ≡ bytes_eq (name_of k) q) where
  at_entry : (b : Bool) (e : K × ℕ) (o : Option ℕ) (p : Option (List ℕ × ℕ)) → o ≡ option_map (λ (x : List ℕ × ℕ). x.1) p
      → cond b (Some e.1) o ≡ option_map (λ (x : List ℕ × ℕ). x.1) (cond b (Some (name_of e.0, e.1)) p)
  at_entry true e o p h = refl
  at_entry false e o p h = h

  pub found : (es : List (K × ℕ)) → lookup test es ≡ entry q (map (λ (e : K × ℕ). (name_of e.0, e.1)) es)
  found [] = refl
  found (e ∷ es) =
      ap (λ b. cond b (Some e.1) (lookup test es)) (same e.0)
      ∙ at_entry (bytes_eq (name_of e.0) q) e (lookup test es) (find (λ (x : List ℕ × ℕ). bytes_eq x.0 q) (map (λ (x : K × ℕ). (name_of x.0, x.1)) es)) (found es)

pub known : (t : Numbers) (name : List ℕ) (n : ℕ) → is_some (entry name t) ≡ true → t ≡ with_first t name n
known t name n h = rw h refl

pub absent : (t : Numbers) (name : List ℕ) (n : ℕ) → is_some (entry name t) ≡ false → t ++ (name, n) ∷ [] ≡ with_first t name n
absent t name n h = rw h refl

-- one name more
pub numbered_push : (k : ℕ) (t : Numbers) (xs : List (List ℕ)) (name : List ℕ) → numbered_from k t (xs ++ name ∷ []) ≡ with_first (numbered_from k t xs) name (k + length xs)
numbered_push k t [] name = ap (λ n. with_first t name n) (omega arith)
numbered_push k t (x ∷ xs) name =
    numbered_push (k + 1) (with_first t x k) xs name ∙ ap (λ n. with_first (numbered_from (k + 1) (with_first t x k) xs) name n) (omega arith)

-- a table only gets names behind those that it has
module _ (name : List ℕ) (n : ℕ) where
  by_known : (b : Bool) (t : Numbers) → (more : Numbers) × (cond b t (t ++ (name, n) ∷ []) ≡ t ++ more)
  by_known true t = ([], sym (append-nil t))
  by_known false t = ((name, n) ∷ [], refl)

pub grown : (k : ℕ) (t : Numbers) (xs : List (List ℕ)) → (more : Numbers) × (numbered_from k t xs ≡ t ++ more)
grown k t [] = ([], sym (append-nil t))
grown k t (x ∷ xs) =
    let here = by_known x k (is_some (entry x t)) t in
    let rest = grown (k + 1) (with_first t x k) xs in
    (here.0 ++ rest.0, rest.1 ∙ ap (λ u. u ++ rest.0) here.1 ∙ append_assoc t here.0 rest.0)

numbered_append : (k : ℕ) (t : Numbers) (xs ys : List (List ℕ)) → (more : Numbers) × (numbered_from k t (xs ++ ys) ≡ numbered_from k t xs ++ more)
numbered_append k t [] ys = grown k t ys
numbered_append k t (x ∷ xs) ys = numbered_append (k + 1) (with_first t x k) xs ys

-- what the table had before some names were put in
pub numbered_take : (xs ys : List (List ℕ)) → take (length (numbered xs)) (numbered (xs ++ ys)) ≡ numbered xs
numbered_take xs ys = let m = numbered_append 0 [] xs ys in rw (m.1) (take-seam (numbered xs) m.0)
  where
    take-seam : (t more : Numbers) → take (length t) (t ++ more) ≡ t
    take-seam [] more = refl
    take-seam (e ∷ t) more = ap (λ u. e ∷ u) (take-seam t more)

-- the place under a name is that of the first such name

within_more : (n : ℕ) → nat_lt 0 (suc n) ≡ true
within_more n = grind (arith, nat_tests)

more_within : (m n : ℕ) → nat_lt (1 + m) (suc n) ≡ nat_lt m n
more_within m n = grind (arith, nat_tests)

some_if : (b : Bool) (n : ℕ) → cond b (Some (1 + n)) None ≡ option_map (λ (m : ℕ). 1 + m) (cond b (Some n) None)
some_if true n = refl
some_if false n = refl

at_first : {X : Type 0} → (p : X → Bool) (x : X) (xs : List X) (b : Bool) → p x ≡ b → position p (x ∷ xs) ≡ cond b (Some 0) (option_map (λ (n : ℕ). 1 + n) (position p xs))
at_first p x xs true h = rw h (ap (λ b. cond b (Some 0) None) (within_more (length xs)))
at_first p x xs false h =
    rw h (ap (λ b. cond b (Some (1 + position_or_len p xs)) None) (more_within (position_or_len p xs) (length xs)) ∙ some_if (nat_lt (position_or_len p xs) (length xs)) (position_or_len p xs))

pub no_some : {A : Type 0} (o : Option A) → is_some o ≡ false → o ≡ None
no_some None h = refl
no_some (Some x) h = cc

-- the entry under a name, of one put in front of others
or_none : {A : Type 0} (o : Option A) → o ≡ option_or o None
or_none None = refl
or_none (Some x) = refl

entry_append : (q : List ℕ) (t : Numbers) (name : List ℕ) (n : ℕ) → entry q (t ++ (name, n) ∷ []) ≡ option_or (entry q t) (cond (bytes_eq name q) (Some n) None)
entry_append q [] name n = by (bytes_eq name q)
  where
    by : (b : Bool) → option_map (λ (e : List ℕ × ℕ). e.1) (cond b (Some (name, n)) None) ≡ cond b (Some n) None
    by true = refl
    by false = refl
entry_append q (e ∷ t) name n = by (bytes_eq e.0 q) (entry_append q t name n)
  where
    by : (b : Bool) → entry q (t ++ (name, n) ∷ []) ≡ option_or (entry q t) (cond (bytes_eq name q) (Some n) None)
        → option_map (λ (e : List ℕ × ℕ). e.1) (cond b (Some e) (find (λ (e : List ℕ × ℕ). bytes_eq e.0 q) (t ++ (name, n) ∷ [])))
        ≡ option_or (option_map (λ (e : List ℕ × ℕ). e.1) (cond b (Some e) (find (λ (e : List ℕ × ℕ). bytes_eq e.0 q) t))) (cond (bytes_eq name q) (Some n) None)
    by true h = refl
    by false h = h

some_or : {A : Type 0} (o p : Option A) → is_some o ≡ true → o ≡ option_or o p
some_or None p h = cc
some_or (Some x) p h = refl

module _ (q : List ℕ) (t : Numbers) (name : List ℕ) (n : ℕ) where
  by_name : (b : Bool) → bytes_eq name q ≡ b → is_some (entry name t) ≡ true → entry q t ≡ option_or (entry q t) (cond b (Some n) None)
  by_name true same h = some_or (entry q t) (Some n) (subst (λ x. is_some (entry x t) ≡ true) ((bytes_eq-Decides name q).0 same) h)
  by_name false same h = or_none (entry q t)

  by_there : (b : Bool) → is_some (entry name t) ≡ b → entry q (cond b t (t ++ (name, n) ∷ [])) ≡ option_or (entry q t) (cond (bytes_eq name q) (Some n) None)
  by_there true h = by_name (bytes_eq name q) refl h
  by_there false h = entry_append q t name n

  pub entry_first : entry q (with_first t name n) ≡ option_or (entry q t) (cond (bytes_eq name q) (Some n) None)
  entry_first = by_there (is_some (entry name t)) refl

place_here : (k : ℕ) (b : Bool) (o p : Option ℕ) → option_or (option_or o (cond b (Some k) None)) (option_map (λ (i : ℕ). (k + 1) + i) p) ≡ option_or o (option_map (λ (i : ℕ). k + i) (cond b (Some 0) (option_map (λ (n : ℕ). 1 + n) p)))
place_here k b (Some x) p = refl
place_here k true None p = ap Some (omega arith)
place_here k false None None = refl
place_here k false None (Some i) = ap Some (omega arith)

placed : (q : List ℕ) (k : ℕ) (t : Numbers) (names : List (List ℕ)) → entry q (numbered_from k t names) ≡ option_or (entry q t) (option_map (λ (i : ℕ). k + i) (place_in names q))
placed q k t [] = or_none (entry q t)
placed q k t (name ∷ names) =
    placed q (k + 1) (with_first t name k) names
    ∙ ap (λ o. option_or o (option_map (λ (i : ℕ). (k + 1) + i) (place_in names q))) (entry_first q t name k)
    ∙ place_here k (bytes_eq name q) (entry q t) (place_in names q)
    ∙ ap (λ o. option_or (entry q t) (option_map (λ (i : ℕ). k + i) o)) (sym (at_first (λ other. bytes_eq other q) name names (bytes_eq name q) refl))

same_place : (o : Option ℕ) → option_map (λ (i : ℕ). 0 + i) o ≡ o
same_place None = refl
same_place (Some i) = ap Some (omega arith)

-- the number under a name in such a table is the place of the first such name
pub place_under : (q : List ℕ) (names : List (List ℕ)) → entry q (numbered names) ≡ place_in names q
place_under q names = placed q 0 [] names ∙ same_place (place_in names q)

one_more : (n : ℕ) → 1 + n ≡ suc n
one_more n = omega arith

-- what is found by a name is what stands at its place
pub find_by_place : {X : Type 0} (p : X → Bool) (xs : List X) → find p xs ≡ option_and_then (slice_get xs) (position p xs)
find_by_place p [] = refl
find_by_place p (x ∷ xs) = by (find_by_place p xs) (p x) refl
  where
    shifted : (o : Option ℕ) → option_and_then (slice_get xs) o ≡ option_and_then (slice_get (x ∷ xs)) (option_map (λ (n : ℕ). 1 + n) o)
    shifted None = refl
    shifted (Some n) = ap (slice_get (x ∷ xs)) (sym (one_more n))

    by : find p xs ≡ option_and_then (slice_get xs) (position p xs) → (b : Bool) → p x ≡ b → cond b (Some x) (find p xs) ≡ option_and_then (slice_get (x ∷ xs)) (position p (x ∷ xs))
    by rest true h = sym (ap (option_and_then (slice_get (x ∷ xs))) (at_first p x xs true h))
    by rest false h = rest ∙ shifted (position p xs) ∙ sym (ap (option_and_then (slice_get (x ∷ xs))) (at_first p x xs false h))

-- the place in a list is that in the list of its names
pub position_map : {X : Type 0} (name_of : X → List ℕ) (q : List ℕ) (xs : List X) → place_in (map name_of xs) q ≡ position (λ x. bytes_eq (name_of x) q) xs
position_map name_of q [] = refl
position_map name_of q (x ∷ xs) =
    at_first (λ other. bytes_eq other q) (name_of x) (map name_of xs) (bytes_eq (name_of x) q) refl
    ∙ ap (λ o. cond (bytes_eq (name_of x) q) (Some 0) (option_map (λ (n : ℕ). 1 + n) o)) (position_map name_of q xs)
    ∙ sym (at_first (λ y. bytes_eq (name_of y) q) x xs (bytes_eq (name_of x) q) refl)
