-- The locals that are visible: what is found of them, one more, and what is left behind a block.
use Rattle.std.proofs.Common.{◌≡◌, ℕ, ◌+◌, ◌<◌, suc, zero, Bool, true, false, cond, List, [], ◌∷◌, ◌++◌, map, take, drop, length, get_or, Some, refl, sym, ap, ◌∙◌, arith}
use Rattle.std.specs.Prelude.{bytes_eq, find, option_map, option_and_then, slice_get}
use Rattle.std.proofs.lemmas.List.{map-append, take-map, take-append-drop}
use Rattle.model_rules.specs.Members.{entry}
use Rattle.model_rules.specs.Scopes.{is_local}
use Rattle.check_names.specs.Tables.{Numbers, with_first, numbered_from, numbered}
use Rattle.check_names.specs.LocalNames.{local_of, name_of, sizes_from, AreKept}
use Rattle.check_names.specs.declared.locals.Visible.{Visible}
use Rattle.check_names.proofs.NumberLemmas.{numbered_push, numbered_take, place_under, find_by_place, position_map}

-- what is found in what comes of a list comes of what is found in the list
pub find_map : {X Y : Type 0} (f : X → Y) (p : Y → Bool) (xs : List X) → option_map f (find (λ x. p (f x)) xs) ≡ find p (map f xs)
find_map f p [] = refl
find_map f p (x ∷ xs) = by (p (f x)) (find_map f p xs)
  where
    by : (b : Bool) → option_map f (find (λ y. p (f y)) xs) ≡ find p (map f xs) → option_map f (cond b (Some x) (find (λ y. p (f y)) xs)) ≡ cond b (Some (f x)) (find p (map f xs))
    by true h = refl
    by false h = h

pub found_local : (q : List ℕ) (visible : List Visible) (table : Numbers) → AreKept visible table
    → option_map local_of (option_and_then (slice_get visible) (entry q table)) ≡ find (is_local q) (map local_of visible)
found_local q visible table k =
    ap (λ t. option_map local_of (option_and_then (slice_get visible) (entry q t))) k.in_table
    ∙ ap (λ o. option_map local_of (option_and_then (slice_get visible) o)) (place_under q (map name_of visible) ∙ position_map name_of q visible)
    ∙ ap (option_map local_of) (sym (find_by_place (λ (v : Visible). bytes_eq (name_of v) q) visible))
    ∙ find_map local_of (is_local q) visible

-- one more

sizes_push : (n : ℕ) (t : Numbers) (xs : List (List ℕ)) (x : List ℕ) → sizes_from n t (xs ++ x ∷ []) ≡ sizes_from n t xs ++ length (numbered_from n t xs) ∷ []
sizes_push n t [] x = refl
sizes_push n t (y ∷ xs) x = ap (λ ns. length t ∷ ns) (sizes_push (n + 1) (with_first t y n) xs x)

pub length_map : {X Y : Type 0} (f : X → Y) (xs : List X) → length (map f xs) ≡ length xs
length_map f [] = refl
length_map f (x ∷ xs) = ap (λ n. suc n) (length_map f xs)

pub kept_push : (visible : List Visible) (table : Numbers) (v : Visible) → AreKept visible table → v.named ≡ length table
    → AreKept (visible ++ v ∷ []) (with_first table (name_of v) (length visible))
kept_push visible table v k h = record {
  in_table =
      ap (λ t. with_first t (name_of v) (length visible)) k.in_table
      ∙ ap (λ n. with_first (numbered (map name_of visible)) (name_of v) n) (sym (length_map name_of visible))
      ∙ ap (λ n. with_first (numbered (map name_of visible)) (name_of v) n) (omega arith)
      ∙ sym (numbered_push 0 [] (map name_of visible) (name_of v))
      ∙ ap numbered (sym (map-append name_of visible (v ∷ [])));
  sizes =
      map-append (λ (x : Visible). x.named) visible (v ∷ [])
      ∙ ap (λ ns. ns ++ v.named ∷ []) k.sizes
      ∙ ap (λ n. sizes_from 0 [] (map name_of visible) ++ n ∷ []) (h ∙ ap length k.in_table)
      ∙ sym (sizes_push 0 [] (map name_of visible) (name_of v))
      ∙ ap (sizes_from 0 []) (sym (map-append name_of visible (v ∷ [])));
}

-- what is left

sizes_take : (n : ℕ) (k : ℕ) (t : Numbers) (xs : List (List ℕ)) → take n (sizes_from k t xs) ≡ sizes_from k t (take n xs)
sizes_take zero k t xs = refl
sizes_take (suc n) k t [] = refl
sizes_take (suc n) k t (x ∷ xs) = ap (λ ns. length t ∷ ns) (sizes_take n (k + 1) (with_first t x k) xs)

size_at : (n : ℕ) (k : ℕ) (t : Numbers) (xs : List (List ℕ)) (d : ℕ) → n < length xs → get_or (sizes_from k t xs) n d ≡ length (numbered_from k t (take n xs))
size_at n k t [] d h = absurd (omega arith)
size_at zero k t (x ∷ xs) d h = refl
size_at (suc n) k t (x ∷ xs) d h = size_at n (k + 1) (with_first t x k) xs d (omega arith)

get_map : {X Y : Type 0} (f : X → Y) (xs : List X) (n : ℕ) (d : X) → get_or (map f xs) n (f d) ≡ f (get_or xs n d)
get_map f [] n d = refl
get_map f (x ∷ xs) zero d = refl
get_map f (x ∷ xs) (suc n) d = get_map f xs n d

pub kept_take : (visible : List Visible) (table : Numbers) (n : ℕ) (d : Visible) → AreKept visible table → n < length visible
    → AreKept (take n visible) (take (get_or visible n d).named table)
kept_take visible table n d k h =
    let names : List (List ℕ) = map name_of visible in
    let within : n < length names = omega (arith, length_map name_of visible) in
    let size : (get_or visible n d).named ≡ length (numbered (take n names)) =
    sym (get_map (λ (x : Visible). x.named) visible n d) ∙ ap (λ ns. get_or ns n d.named) k.sizes ∙ size_at n 0 [] names d.named within in
    record {
      in_table =
          ap (λ m. take m table) size
          ∙ ap (λ t. take (length (numbered (take n names))) t) (k.in_table ∙ ap numbered (sym (take-append-drop n names)))
          ∙ numbered_take (take n names) (drop n names)
          ∙ ap numbered (take-map name_of n visible);
      sizes =
          sym (take-map (λ (x : Visible). x.named) n visible)
          ∙ ap (take n) k.sizes
          ∙ sizes_take n 0 [] names
          ∙ ap (sizes_from 0 []) (take-map name_of n visible);
    }
