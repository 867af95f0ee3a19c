-- What a list contains, by its places.
use Rattle.std.proofs.Common.{subst, ◌≡◌, ◌<◌, ◌≤◌, ◌+◌, ◌*◌, ℕ, zero, suc, List, [], ◌∷◌, ◌++◌, length, get_or, map, refl, sym, ap, ◌∙◌, inl, inr, ⊎_elim, arith}
use Rattle.std.specs.Prelude.{◌⊎◌, Contains, unwrap_or}
use Rattle.std.proofs.lemmas.List.{length-map, get_or_default, get_or-map, get_or_append_left, get_or_push}
use Rattle.std.proofs.lemmas.Option.{slice_get_cases}
use Rattle.std.proofs.lemmas.Bool.{cases_lt}
use Rattle.sim_model.specs.FlatDesign.Code.{Arena, block_at}
use Rattle.kernel_bodies.specs.Depths.{EachBelow, EachFits, IsDeep, IsDeepBelow, blocks_of, depth_of}

pub contains_at : (xs : List ℕ) (k : ℕ) → k < length xs → Contains xs (get_or xs k 0)
contains_at xs k h = (k, h, get_or_default xs k (get_or xs k 0) 0 h)

pub place_of : (xs : List ℕ) (x : ℕ) → Contains xs x → (k : ℕ) × (k < length xs) × (get_or xs k 0 ≡ x)
place_of xs x h = (h.0, h.1, get_or_default xs h.0 0 x h.1 ∙ h.2)

pub contains_mapped : {A : Type 0} (f : A → ℕ) (xs : List A) (k : ℕ) (d : A) → k < length xs → Contains (map f xs) (f (get_or xs k d))
contains_mapped f xs k d h = (k, omega (arith, h, length-map xs f), get_or-map f xs k d (f (get_or xs k d)) h)

-- a fact of each place of a list that grows at its end; past the end stands 0
pub push_holds : (P : ℕ → ℕ → Type 0) (ds : List ℕ) (d : ℕ) → ((j : ℕ) → P j (get_or ds j 0)) → P (length ds) d → (j : ℕ) → P j (get_or (ds ++ d ∷ []) j 0)
push_holds P [] d all last zero = last
push_holds P [] d all last (suc j) = all (suc j)
push_holds P (x ∷ ds) d all last zero = all zero
push_holds P (x ∷ ds) d all last (suc j) = push_holds (λ i. P (suc i)) ds d (λ i. all (suc i)) last j

pub small_push : (ds : List ℕ) (d : ℕ) → ((j : ℕ) → depth_of ds j ≤ 2 * j) → d ≤ 2 * length ds → (j : ℕ) → depth_of (ds ++ d ∷ []) j ≤ 2 * j
small_push ds d all last j = push_holds (λ i x. x ≤ 2 * i) ds d all last j

pub nothing_there : (xs : List ℕ) (s : ℕ) → xs ≡ [] → Contains xs s → ⊥
nothing_there [] s e h = absurd (omega (arith, h.1))
nothing_there (x ∷ xs) s e h = cc

lt_or_eq : (b n : ℕ) → b < n + 1 → (b < n) ⊎ (b ≡ n)
lt_or_eq b n h = search_lt (cases_lt b n)
  where
    search_lt : (b < n) ⊎ (n ≤ b) → (b < n) ⊎ (b ≡ n)
    search_lt w = elim w [ inl lt ↦ inl lt | inr le ↦ inr (omega (arith, h, le)) ]

-- one block more
module _ (a : Arena) (nested : (b s j : ℕ) → Contains (block_at a b) s → Contains (blocks_of a s) j → j < b) where
  pub deep_push : (ds : List ℕ) (d : ℕ) → IsDeepBelow a ds (length ds)
      → ((s j : ℕ) → Contains (block_at a (length ds)) s → Contains (blocks_of a s) j → depth_of ds j + 2 ≤ d) → IsDeepBelow a (ds ++ d ∷ []) (length ds + 1)
  deep_push ds d below last b s j h in_block in_statement =
      let lower = nested b s j in_block in_statement in
      let same : depth_of (ds ++ d ∷ []) j ≡ depth_of ds j = get_or_append_left ds (d ∷ []) 0 j (omega (arith, h, lower)) in
      ⊎_elim
      (λ (e : b < length ds).
      omega (arith, same, get_or_append_left ds (d ∷ []) 0 b e, below b s j e in_block in_statement))
      (λ (e : b ≡ length ds).
      let P : ℕ → Type 0 = λ n. Contains (block_at a n) s in
      omega (arith, same, get_or_push ds d 0 b (sym e), last s j (subst P e in_block) in_statement))
      (lt_or_eq b (length ds) h)

  pub deep_all : (ds : List ℕ) → IsDeepBelow a ds (length a.blocks) → IsDeep a ds
  deep_all ds below b s j in_block in_statement = below b s j (block_within b s in_block) in_block in_statement
    where
      block_within : (b s : ℕ) → Contains (block_at a b) s → b < length a.blocks
      block_within b s h = ⊎_elim (λ (w : _). w.1) (λ (w : _). absurd (nothing_there (block_at a b) s (ap (λ o. unwrap_or o []) w.1) h)) (slice_get_cases a.blocks b).1

-- facts of each number of a list, by its places

pub each_below : (n : ℕ) (xs : List ℕ) → ((j : ℕ) → Contains xs j → j < n) → EachBelow n xs
each_below n [] h = tt
each_below n (x ∷ xs) h = (h x (0, omega arith, refl), each_below n xs (λ j q. h j (suc q.0, omega (arith, q.1), q.2)))

pub below_at : (n : ℕ) (xs : List ℕ) → EachBelow n xs → (k : ℕ) → k < length xs → get_or xs k 0 < n
below_at n [] h k lt = absurd (omega (arith, lt))
below_at n (x ∷ xs) h zero lt = h.0
below_at n (x ∷ xs) h (suc k) lt = below_at n xs h.1 k (omega (arith, lt))

pub fits_from : (ds : List ℕ) (most : ℕ) (xs : List ℕ) → ((k : ℕ) → k < length xs → depth_of ds (get_or xs k 0) + 2 ≤ most) → EachFits ds most xs
fits_from ds most [] h = tt
fits_from ds most (x ∷ xs) h = (h 0 (omega arith), fits_from ds most xs (λ k lt. h (suc k) (omega (arith, lt))))

fits_by : (ds : List ℕ) (most : ℕ) (xs : List ℕ) → EachFits ds most xs → (k : ℕ) → k < length xs → (j : ℕ) → get_or xs k j ≡ j → depth_of ds j + 2 ≤ most
fits_by ds most [] h k lt j e = absurd (omega (arith, lt))
fits_by ds most (x ∷ xs) h zero lt j e = let P : ℕ → Type 0 = λ y. depth_of ds y + 2 ≤ most in subst P e h.0
fits_by ds most (x ∷ xs) h (suc k) lt j e = fits_by ds most xs h.1 k (omega (arith, lt)) j e

pub fits_at : (ds : List ℕ) (most : ℕ) (xs : List ℕ) (j : ℕ) → EachFits ds most xs → Contains xs j → depth_of ds j + 2 ≤ most
fits_at ds most xs j h q = fits_by ds most xs h q.0 q.1 j q.2

pub fits_more : (ds : List ℕ) (most more : ℕ) (xs : List ℕ) → most ≤ more → EachFits ds most xs → EachFits ds more xs
fits_more ds most more [] le h = tt
fits_more ds most more (x ∷ xs) le h = (omega (arith, le, h.0), fits_more ds most more xs le h.1)

pub mapped_at : {A : Type 0} (f : A → ℕ) (xs : List A) (k r : ℕ) (d : A) (g : ℕ → ℕ) → k < length xs → r ≡ g (f (get_or xs k d)) → r ≡ g (get_or (map f xs) k 0)
mapped_at f xs k r d g h e = e ∙ ap g (sym (get_or-map f xs k d 0 h))
