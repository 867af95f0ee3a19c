-- An unwinding of blocks and frames, and an exception that is raised inside them.
use Rattle.std.proofs.Common.{◌≡◌, ℕ, ◌+◌, ◌<◌, ◌≤◌, zero, suc, Bool, true, false, List, [], ◌∷◌, ◌++◌, Option, Some, None, length, map, take, drop, get_or, set, refl, sym, ap, ◌∙◌, subst, arith, length-append}
use Rattle.std.specs.List.{insert}
use Rattle.std.specs.Prelude.{◌||◌, ◌==◌, cond, option_map, find, Contains}
use Rattle.sim_model.specs.FlatDesign.Code as code
use Rattle.sim_model.specs.FlatDesign.Code.{Arena, Statement, block_at, statement_at}
use Rattle.sim_model.specs.FlatDesign.Reach.{inner_blocks}
use Rattle.sim_model.specs.FlatDesign.declared.code.Handler.{Handler}
use Rattle.sim_model.specs.Residual.{Residual, goal, followed}
use Rattle.sim_model.specs.declared.plain.Goal.{Goal}
use Rattle.sim_model.specs.Unwinding.{unw, catches, handles, handler_of, handler_block, raise}
use Rattle.kernel_bodies.specs.Depths.{handlers_of, handlers_if, handlers_in, blocks_in, depth_of}
use Rattle.kernel_bodies.specs.declared.layers.Open.{Open}
use Rattle.kernel_bodies.specs.declared.layers.Open.TheVariants as layer
use Rattle.kernel_bodies.specs.Layers.{around, inside, rest_at}
use Rattle.kernel_bodies.specs.Sought.{is_handling, is_goal, NoneIs, LastIs, among}
use Rattle.kernel_bodies.specs.Unwound.{unwound, in_front, unwound_all, handler_in}
use Rattle.kernel_bodies.specs.Room.{FitsLayer, FitsAll, Fits, kept_inside, kept_along}
use Rattle.kernel_bodies.proofs.Passing.{through_block, if_true, if_false}
use Rattle.kernel_bodies.proofs.Seeking.{among_none, among_last, catches_inside}
use Rattle.kernel_bodies.proofs.Rooms.{all_split, kept_small, fits_more}

-- all is unwound

unw_followed : (r : Residual) (ss : List ℕ) → unw (followed r ss) ≡ unw r
unw_followed r [] = refl
unw_followed r (s ∷ ss) = refl

unw_around : (a : Arena) (l : Open) (ls : List Open) (r q : Residual) → unw r ≡ inside a ls q → unw (around a l r) ≡ inside a (in_front (unwound l) ls) q
unw_around a (layer.Rest c) ls r q e = unw_followed r (rest_at a c) ∙ e
unw_around a (layer.Again s) ls r q e = e
unw_around a (layer.Owed u) ls r q e = ap (around a (layer.Owed u)) e
unw_around a (layer.Guard u) ls r q e = ap (around a (layer.Owed u)) e
unw_around a (layer.Try s) ls r q e = e
unw_around a layer.Run ls r q e = ap (around a layer.Run) e
unw_around a (layer.Goal k) ls r q e = e

pub unw_inside : (a : Arena) (ls : List Open) (r : Residual) → unw (inside a ls r) ≡ inside a (unwound_all ls) (unw r)
unw_inside a [] r = refl
unw_inside a (l ∷ ls) r = unw_around a l (unwound_all ls) (inside a ls r) (unw r) (unw_inside a ls r)

-- an exception

block_of_handler : (a : Arena) (o : Option Handler) (b : ℕ) → option_map (λ (h : Handler). h.block) o ≡ Some b → handler_block a o ≡ block_at a b
block_of_handler a None b e = cc
block_of_handler a (Some h) b e = ap (block_at a) same
  where
    same : h.block ≡ b
    same = cc

raise_here : (a : Arena) (l : Open) (r q : Residual) (e b : ℕ) (k : Goal) → is_handling a e l ≡ true → handler_in a e l ≡ Some b → catches r e ≡ false → q ≡ unw r
    → raise a (around a l r) e k ≡ followed (goal q k) (rest_at a (record { block = b; place = 0 }))
raise_here a (layer.Rest c) r q e b k h w n u = cc
raise_here a (layer.Again s) r q e b k h w n u = cc
raise_here a (layer.Owed x) r q e b k h w n u = cc
raise_here a (layer.Guard x) r q e b k h w n u = cc
raise_here a (layer.Try s) r q e b k h w n u =
    if_false (catches r e) _ _ n
    ∙ if_true (handles (handlers_of a s) e) _ _ h
    ∙ ap (followed (goal (unw r) k)) (block_of_handler a (handler_of (handlers_of a s) e) b w)
    ∙ ap (λ p. followed (goal p k) (block_at a b)) (sym u)
raise_here a layer.Run r q e b k h w n u = cc
raise_here a (layer.Goal g) r q e b k h w n u = cc

abbrev pub raised_blocks : List Open → ℕ → ℕ → Goal → List Open
raised_blocks ls i b k = take i ls ++ layer.Rest (record { block = b; place = 0 }) ∷ layer.Goal k ∷ unwound_all (drop (suc i) ls)

pub raise_inside : (a : Arena) (ls : List Open) (r : Residual) (e b : ℕ) (k : Goal) (i : ℕ) (d : Open) → LastIs (is_handling a e) ls i → handler_in a e (get_or ls i d) ≡ Some b → catches r e ≡ false
    → raise a (inside a ls r) e k ≡ inside a (raised_blocks ls i b k) (unw r)
raise_inside a [] r e b k i d h w n = absurd h
raise_inside a (l ∷ ls) r e b k zero d h w n =
    raise_here a l (inside a ls r) (inside a (unwound_all ls) (unw r)) e b k h.0 w (catches_inside a e ls r ∙ ap (λ x. x || among (is_handling a e) ls) n ∙ among_none (is_handling a e) ls h.1) (sym (unw_inside a ls r))
raise_inside a (l ∷ ls) r e b k (suc i) d h w n =
    (through_block a l).raises (inside a ls r) e k (catches_inside a e ls r ∙ ap (λ x. x || among (is_handling a e) ls) n ∙ among_last (is_handling a e) ls i h)
    ∙ ap (around a l) (raise_inside a ls r e b k i d h w n)

-- as the code makes it

pub raised_is : (ls ms : List Open) (i : ℕ) (m g : Open) → i < length ls → set (take (suc i) ls ++ g ∷ ms) i m ≡ take i ls ++ m ∷ g ∷ ms
raised_is [] ms i m g h = absurd (omega (arith, h))
raised_is (l ∷ ls) ms zero m g h = refl
raised_is (l ∷ ls) ms (suc i) m g h = ap (λ ks. l ∷ ks) (raised_is ls ms i m g (omega (arith, h)))

-- room

kept_not : (t : ℕ) (l : Open) → is_goal l ≡ false → kept_inside t l ≡ t
kept_not t (layer.Rest c) e = refl
kept_not t (layer.Again s) e = refl
kept_not t (layer.Owed u) e = refl
kept_not t (layer.Guard u) e = refl
kept_not t (layer.Try s) e = refl
kept_not t layer.Run e = refl
kept_not t (layer.Goal k) e = cc

pub kept_none : (t : ℕ) (ls : List Open) → NoneIs is_goal ls → kept_along t ls ≡ t
kept_none t [] h = refl
kept_none t (l ∷ ls) h = ap (λ u. kept_along u ls) (kept_not t l h.0) ∙ kept_none t ls h.1

-- what is unwound needs no more room, wherever it stands no further in
module _ (a : Arena) (depths : List ℕ) (most : ℕ) where
  pub all_unwound : (t u i j : ℕ) (ls : List Open) → u ≤ 1 → i + t ≤ j + u → FitsAll a depths most u j ls → FitsAll a depths most t i (unwound_all ls)
  all_unwound t u i j [] few le h = tt
  all_unwound t u i j (layer.Rest c ∷ ls) few le h = all_unwound t u i (j + 1) ls few (omega (arith, le)) h.1
  all_unwound t u i j (layer.Again s ∷ ls) few le h = all_unwound t u i (j + 1) ls few (omega (arith, le)) h.1
  all_unwound t u i j (layer.Owed b ∷ ls) few le h = (omega (arith, le, h.0), all_unwound t u (i + 1) (j + 1) ls few (omega (arith, le)) h.1)
  all_unwound t u i j (layer.Guard b ∷ ls) few le h = (omega (arith, le, h.0), all_unwound t u (i + 1) (j + 1) ls few (omega (arith, le)) h.1)
  all_unwound t u i j (layer.Try s ∷ ls) few le h = all_unwound t u i (j + 1) ls few (omega (arith, le)) h.1
  all_unwound t u i j (layer.Run ∷ ls) few le h = (omega (arith, le, h.0), all_unwound t u (i + 1) (j + 1) ls few (omega (arith, le)) h.1)
  all_unwound t u i j (layer.Goal k ∷ ls) few le h = all_unwound t 0 i (j + 1) ls (omega arith) (omega (arith, le, few)) h.1

pub unwound_shorter : (t u i j : ℕ) (ls : List Open) → u ≤ 1 → i + t ≤ j + u → i + length (unwound_all ls) + kept_along t (unwound_all ls) ≤ j + length ls + kept_along u ls
unwound_shorter t u i j [] few le = omega (arith, le)
unwound_shorter t u i j (layer.Rest c ∷ ls) few le = omega (arith, unwound_shorter t u i (j + 1) ls few (omega (arith, le)))
unwound_shorter t u i j (layer.Again s ∷ ls) few le = omega (arith, unwound_shorter t u i (j + 1) ls few (omega (arith, le)))
unwound_shorter t u i j (layer.Owed b ∷ ls) few le = omega (arith, unwound_shorter t u (i + 1) (j + 1) ls few (omega (arith, le)))
unwound_shorter t u i j (layer.Guard b ∷ ls) few le = omega (arith, unwound_shorter t u (i + 1) (j + 1) ls few (omega (arith, le)))
unwound_shorter t u i j (layer.Try s ∷ ls) few le = omega (arith, unwound_shorter t u i (j + 1) ls few (omega (arith, le)))
unwound_shorter t u i j (layer.Run ∷ ls) few le = omega (arith, unwound_shorter t u (i + 1) (j + 1) ls few (omega (arith, le)))
unwound_shorter t u i j (layer.Goal k ∷ ls) few le = omega (arith, unwound_shorter t 0 i (j + 1) ls (omega arith) (omega (arith, le, few)))

pub fits_unwound : (a : Arena) (depths : List ℕ) (most : ℕ) (ls : List Open) → Fits a depths most 1 0 ls None → Fits a depths most 1 0 (unwound_all ls) None
fits_unwound a depths most ls h = (all_unwound a depths most 1 1 0 0 ls (omega arith) (omega arith) h.0, omega (arith, h.1, unwound_shorter 1 1 0 0 ls (omega arith) (omega arith)))

pub unwound_few : (ls : List Open) (n : ℕ) → length (take n ls ++ unwound_all (drop n ls)) ≤ length ls
unwound_few ls zero = omega (arith, unwound_shorter 0 0 0 0 ls (omega arith) (omega arith), kept_small 0 ls, kept_small 0 (unwound_all ls))
unwound_few [] (suc n) = omega arith
unwound_few (l ∷ ls) (suc n) = omega (arith, unwound_few ls n)

pub insert_there : (ls us : List Open) (n : ℕ) (g : Open) → n ≤ length ls → insert (take n ls ++ us) n g ≡ take n ls ++ g ∷ us
insert_there ls us zero g h = refl
insert_there [] us (suc n) g h = absurd (omega (arith, h))
insert_there (l ∷ ls) us (suc n) g h = ap (λ ms. l ∷ ms) (insert_there ls us n g (omega (arith, h)))

-- the block of a handler is a block of its `try`

contains_later : (x y : ℕ) (xs : List ℕ) → Contains xs y → Contains (x ∷ xs) y
contains_later x y xs h = (suc h.0, omega (arith, h.1), h.2)

found_block : (test : Handler → Bool) (hs : List Handler) (b : ℕ) → option_map (λ (h : Handler). h.block) (find test hs) ≡ Some b → Contains (map (λ (h : Handler). h.block) hs) b
found_block test [] b e = cc
found_block test (h ∷ hs) b e = by_test (test h) e (found_block test hs b)
  where
    some_is : (x y : ℕ) → Some x ≡ Some y → x ≡ y
    some_is x y q = cc

    by_test : (t : Bool) → option_map (λ (h : Handler). h.block) (cond t (Some h) (find test hs)) ≡ Some b
        → (option_map (λ (h : Handler). h.block) (find test hs) ≡ Some b → Contains (map (λ (h : Handler). h.block) hs) b) → Contains (map (λ (h : Handler). h.block) (h ∷ hs)) b
    by_test true q more = (0, omega arith, some_is h.block b q)
    by_test false q more = contains_later h.block b (map (λ (h : Handler). h.block) hs) (more q)

handler_inner : (x : Statement) (e b : ℕ) → option_map (λ (h : Handler). h.block) (handler_of (handlers_in x) e) ≡ Some b → Contains (inner_blocks x) b
handler_inner (code.try_ j hs) e b q = contains_later j b (map (λ (h : Handler). h.block) hs) (found_block (λ (h : Handler). h.exception == e) hs b q)
handler_inner (code.if_ t j None) e b q = cc
handler_inner (code.if_ t j (Some other)) e b q = cc
handler_inner x e b q = cc

handler_contained : (o : Option Statement) (e b : ℕ) → option_map (λ (h : Handler). h.block) (handler_of (handlers_if o) e) ≡ Some b → Contains (blocks_in o) b
handler_contained None e b q = cc
handler_contained (Some x) e b q = handler_inner x e b q

handler_room : (a : Arena) (depths : List ℕ) (most t i : ℕ) (l : Open) (e b : ℕ) → handler_in a e l ≡ Some b → FitsLayer a depths most t i l → i + t + depth_of depths b + 2 ≤ most
handler_room a depths most t i (layer.Rest c) e b q h = cc
handler_room a depths most t i (layer.Again s) e b q h = cc
handler_room a depths most t i (layer.Owed u) e b q h = cc
handler_room a depths most t i (layer.Guard u) e b q h = cc
handler_room a depths most t i (layer.Try s) e b q h = h.1 b (handler_contained (statement_at a s) e b q)
handler_room a depths most t i layer.Run e b q h = cc
handler_room a depths most t i (layer.Goal k) e b q h = cc

pub apart : (ls : List Open) (i : ℕ) (d : Open) → i < length ls → ls ≡ take i ls ++ get_or ls i d ∷ drop (suc i) ls
apart [] i d h = absurd (omega (arith, h))
apart (l ∷ ls) zero d h = refl
apart (l ∷ ls) (suc i) d h = ap (λ ms. l ∷ ms) (apart ls i d (omega (arith, h)))

none_take : (ls : List Open) (i : ℕ) → NoneIs is_goal ls → NoneIs is_goal (take i ls)
none_take [] zero h = tt
none_take [] (suc i) h = tt
none_take (l ∷ ls) zero h = tt
none_take (l ∷ ls) (suc i) h = (h.0, none_take ls i h.1)

none_there : (ls : List Open) (i : ℕ) (d : Open) → i < length ls → NoneIs is_goal ls → is_goal (get_or ls i d) ≡ false
none_there [] i d h n = absurd (omega (arith, h))
none_there (l ∷ ls) zero d h n = n.0
none_there (l ∷ ls) (suc i) d h n = none_there ls i d (omega (arith, h)) n.1

module _ (a : Arena) (depths : List ℕ) (most : ℕ) (ls : List Open) (i : ℕ) (d : Open) (e b : ℕ) (k : Goal) (h : i < length ls) (q : handler_in a e (get_or ls i d) ≡ Some b) (n : NoneIs is_goal ls)
    (fits : Fits a depths most 1 0 ls None) where
  outer_kept : kept_along 1 (take i ls) ≡ 1
  outer_kept = kept_none 1 (take i ls) (none_take ls i n)

  split : FitsAll a depths most 1 0 (take i ls) × FitsAll a depths most (kept_along 1 (take i ls)) (0 + length (take i ls)) (get_or ls i d ∷ drop (suc i) ls)
  split = let P : List Open → Type 0 = λ ms. FitsAll a depths most 1 0 ms in all_split a depths most 1 0 (take i ls) (get_or ls i d ∷ drop (suc i) ls) (subst P (apart ls i d h) fits.0)

  at_index : FitsAll a depths most 1 (length (take i ls)) (get_or ls i d ∷ drop (suc i) ls)
  at_index =
      let P : ℕ → Type 0 = λ t. FitsAll a depths most t (0 + length (take i ls)) (get_or ls i d ∷ drop (suc i) ls) in
      let Q : ℕ → Type 0 = λ j. FitsAll a depths most 1 j (get_or ls i d ∷ drop (suc i) ls) in
      let z : 0 + length (take i ls) ≡ length (take i ls) = omega arith in
      subst Q z (subst P outer_kept split.1)

  inner : FitsAll a depths most 1 (length (take i ls) + 1) (drop (suc i) ls)
  inner = let P : ℕ → Type 0 = λ t. FitsAll a depths most t (length (take i ls) + 1) (drop (suc i) ls) in subst P (kept_not 1 (get_or ls i d) (none_there ls i d h n)) at_index.1

  whole_length : length (take i ls) + length (drop (suc i) ls) + 2 ≤ most
  whole_length = omega (arith, fits.1, kept_none 1 ls n, ap length (apart ls i d h), length-append (take i ls) (get_or ls i d ∷ drop (suc i) ls))

  pub raise_fits : Fits a depths most 1 0 (raised_blocks ls i b k) None
  raise_fits =
      let room = handler_room a depths most 1 (length (take i ls)) (get_or ls i d) e b q at_index.0 in
      let shorter = unwound_shorter 0 0 0 0 (drop (suc i) ls) (omega arith) (omega arith) in
      let small = kept_small 0 (drop (suc i) ls) in
      let smaller = kept_small 0 (unwound_all (drop (suc i) ls)) in
      let unwinding = all_unwound a depths most 0 1 (length (take i ls) + 1 + 1) (length (take i ls) + 1) (drop (suc i) ls) (omega arith) (omega arith) inner in
      fits_more a depths most (take i ls) (layer.Rest (record { block = b; place = 0 }) ∷ layer.Goal k ∷ unwound_all (drop (suc i) ls)) None split.0
      ((omega (arith, room, outer_kept), (omega (arith, room), unwinding)), omega (arith, whole_length, shorter, small, smaller))
