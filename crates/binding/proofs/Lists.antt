-- Lists: the front of two lists, one behind the other, and of what lists lead to.
use Rattle.std.proofs.Common.{◌≡◌, ◌<◌, ◌≤◌, ◌+◌, ℕ, zero, suc, List, [], ◌∷◌, ◌++◌, length, take, drop, get_or, refl, sym, ap, ◌∙◌, arith}
use Rattle.std.specs.List.{flat_map, AllByRecursion}
use Rattle.std.proofs.lemmas.List.{length-take, append_assoc, take_all, take_at, take_more, take-append-drop, take-take, flat_map_more}

module _ {A : Type 0} where
  -- only the front of a list counts for the front of a longer one
  pub take_front : (n : ℕ) (xs ys : List A) → take n (take n xs ++ ys) ≡ take n (xs ++ ys)
  take_front zero xs ys = refl
  take_front (suc n) [] ys = refl
  take_front (suc n) (x ∷ xs) ys = ap (λ zs. x ∷ zs) (take_front n xs ys)

  take_back_within : (n m : ℕ) → n ≤ m → (xs ys : List A) → take n (xs ++ take m ys) ≡ take n (xs ++ ys)
  take_back_within n m few [] ys = take-take n m ys few
  take_back_within zero m few (x ∷ xs) ys = refl
  take_back_within (suc n) m few (x ∷ xs) ys = ap (λ zs. x ∷ zs) (take_back_within n m (omega arith) xs ys)

  pub take_back : (n : ℕ) (xs ys : List A) → take n (xs ++ take n ys) ≡ take n (xs ++ ys)
  take_back n xs ys = take_back_within n n (omega arith) xs ys

  -- a list to which the first k items of another were added is the front of both, where it is as long,
  pub front_full : (n k : ℕ) (found xs ys : List A) → found ≡ xs ++ take k ys → length found ≡ n → found ≡ take n (xs ++ ys)
  front_full n k found xs ys is long =
      sym (take_at found (drop k ys) n long)
      ∙ ap (λ zs. take n (zs ++ drop k ys)) is
      ∙ ap (take n) (append_assoc xs (take k ys) (drop k ys) ∙ ap (λ zs. xs ++ zs) (take-append-drop k ys))

  -- or where that is all of it
  pub front_all : (n k : ℕ) (found xs ys : List A) → found ≡ xs ++ take k ys → length ys ≤ k → length found ≤ n → found ≡ take n (xs ++ ys)
  front_all n k found xs ys is all few =
      let e : found ≡ xs ++ ys = is ∙ ap (λ zs. xs ++ zs) (take_all k ys all) in
      sym (take_all n found few) ∙ ap (take n) e

  -- the front of what one more item leads to
  pub front_more : {X : Type 0} (n k : ℕ) (g : X → List A) (xs : List X) (d : X) (found after : List A) → k < length xs
      → found ≡ take n (flat_map g (take k xs)) → after ≡ take n (found ++ g (get_or xs k d)) → after ≡ take n (flat_map g (take (k + 1) xs))
  front_more n k g xs d found after below is more =
      more ∙ ap (λ zs. take n (zs ++ g (get_or xs k d))) is ∙ take_front n (flat_map g (take k xs)) (g (get_or xs k d))
      ∙ ap (take n) (flat_map_more g [] (take k xs) (get_or xs k d)) ∙ ap (λ ys. take n (flat_map g ys)) (sym (take_more xs k d below))

  -- the front of what items lead to is known from the fronts of each
  pub front_known : {X : Type 0} (n : ℕ) (f g : X → List A) (xs : List X) → AllByRecursion (λ x. (rest : List A) → take n (f x ++ rest) ≡ take n (g x ++ rest)) xs
      → take n (flat_map f xs) ≡ take n (flat_map g xs)
  front_known n f g [] h = refl
  front_known n f g (x ∷ xs) h =
      h.0 (flat_map f xs) ∙ sym (take_back n (g x) (flat_map f xs)) ∙ ap (λ zs. take n (g x ++ zs)) (front_known n f g xs h.1)
      ∙ take_back n (g x) (flat_map g xs)

  -- a front that is shorter than it may be is all
  pub short_all : (n : ℕ) (xs front : List A) → front ≡ take n xs → length front < n → front ≡ xs
  short_all n xs front is short =
      let e = ap (λ (ys : List A). length ys) is ∙ length-take n xs in
      is ∙ take_all n xs (omega (arith, e, short))
