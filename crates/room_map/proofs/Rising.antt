-- What the words on entries say of a list that is put together of two.
use Rattle.std.proofs.Common.{◌≡◌, Bool, true, false, cond, List, [], ◌∷◌, ◌++◌, Some, None, refl, sym, ap, ◌∙◌, true≢false}
use Rattle.std.specs.Prelude.{is_some}
use Rattle.std.specs.declared.cmp.Ordering.{Ordering}
use Rattle.std.specs.declared.cmp.Ordering.TheVariants.{Less, Equal, Greater}
use Rattle.std.specs.Ordering.{is_lt, is_eq, ordering_reverse}
use Rattle.std.specs.Cmp.{IsTotalOrder, alike_right}
use Rattle.std.specs.FinMap.{find, put}
use Rattle.std.specs.FinMap.Entries.{by_order}
use Rattle.room_map.specs.Entries.{AllAbove, IsRising, without, first_not_below}

module _ {K V : Type 0} (R : K → K → Ordering) where
  -- k is above each key
  abbrev pub AllBelow : K → List (K × V) → Type 0
  AllBelow k [] = Unit {0}
  AllBelow k (e ∷ es) = (R e.0 k ≡ Less) × AllBelow k es

module _ {K : Type 0} {R : K → K → Ordering} (o : IsTotalOrder R) where
  pub turned : (x y : K) → R x y ≡ Less → R y x ≡ Greater
  turned x y h = o.antisymm y x ∙ ap ordering_reverse h

  pub turned_back : (x y : K) → R x y ≡ Greater → R y x ≡ Less
  turned_back x y h = o.antisymm y x ∙ ap ordering_reverse h

module _ {K V : Type 0} {R : K → K → Ordering} (o : IsTotalOrder R) where
  above_more : (x y : K) (es : List (K × V)) → R x y ≡ Less → AllAbove R y es → AllAbove R x es
  above_more x y [] h above = tt
  above_more x y (e ∷ es) h above = (o.trans x y e.0 h above.0, above_more x y es h above.1)

  above_tied : (x y : K) (es : List (K × V)) → R x y ≡ Equal → AllAbove R y es → AllAbove R x es
  above_tied x y [] h above = tt
  above_tied x y (e ∷ es) h above = (o.congr x y e.0 h ∙ above.0, above_tied x y es h above.1)

  -- a key that is not above e is not above those behind e
  pub above_from : (k : K) (e : K × V) (es : List (K × V)) → R k e.0 ≡ Less → AllAbove R e.0 es → AllAbove R k (e ∷ es)
  above_from k e es h above = (h, above_more k e.0 es h above)

  pub above_at : (k : K) (e : K × V) (es : List (K × V)) → R k e.0 ≡ Equal → AllAbove R e.0 es → AllAbove R k es
  above_at k e es h above = above_tied k e.0 es h above

  -- ---- where each key is above k

  pub find-above : (k : K) (es : List (K × V)) → AllAbove R k es → find R k es ≡ None
  find-above k [] above = refl
  find-above k (e ∷ es) above = ap (λ w. cond (is_eq w) (Some e.1) (find R k es)) above.0 ∙ find-above k es above.1

  pub without-above : (k : K) (es : List (K × V)) → AllAbove R k es → without R k es ≡ es
  without-above k [] above = refl
  without-above k (e ∷ es) above = ap (λ w. cond (is_eq w) (without R k es) (e ∷ without R k es)) above.0 ∙ ap (λ r. e ∷ r) (without-above k es above.1)

  -- ---- where k is above each key of the first list

  pub find-append : (k : K) (l m : List (K × V)) → AllBelow R k l → find R k (l ++ m) ≡ find R k m
  find-append k [] m below = refl
  find-append k (e ∷ l) m below = ap (λ w. cond (is_eq w) (Some e.1) (find R k (l ++ m))) (turned o e.0 k below.0) ∙ find-append k l m below.1

  pub put-append : (k : K) (v : V) (l m : List (K × V)) → AllBelow R k l → put R k v (l ++ m) ≡ l ++ put R k v m
  put-append k v [] m below = refl
  put-append k v (e ∷ l) m below =
      ap (λ w. by_order w ((k, v) ∷ e ∷ (l ++ m)) ((e.0, v) ∷ (l ++ m)) (e ∷ put R k v (l ++ m))) (turned o e.0 k below.0) ∙ ap (λ r. e ∷ r) (put-append k v l m below.1)

  pub without-append : (k : K) (l m : List (K × V)) → AllBelow R k l → without R k (l ++ m) ≡ l ++ without R k m
  without-append k [] m below = refl
  without-append k (e ∷ l) m below =
      ap (λ w. cond (is_eq w) (without R k (l ++ m)) (e ∷ without R k (l ++ m))) (turned o e.0 k below.0) ∙ ap (λ r. e ∷ r) (without-append k l m below.1)

  pub first-append : (k : K) (l m : List (K × V)) → AllBelow R k l → first_not_below R k (l ++ m) ≡ first_not_below R k m
  first-append k [] m below = refl
  first-append k (e ∷ l) m below = ap (λ w. cond (is_lt w) (first_not_below R k (l ++ m)) (Some e)) below.0 ∙ first-append k l m below.1

  -- ---- where k is below each key of the second list

  pub find-append_above : (k : K) (l m : List (K × V)) → AllAbove R k m → find R k (l ++ m) ≡ find R k l
  find-append_above k [] m above = find-above k m above
  find-append_above k (e ∷ l) m above = ap (cond (is_eq (R k e.0)) (Some e.1)) (find-append_above k l m above)

  pub without-append_above : (k : K) (l m : List (K × V)) → AllAbove R k m → without R k (l ++ m) ≡ without R k l ++ m
  without-append_above k [] m above = without-above k m above
  without-append_above k (e ∷ l) m above = by_test (is_eq (R k e.0)) (without-append_above k l m above)
    where
      by_test : (b : Bool) → without R k (l ++ m) ≡ without R k l ++ m
          → cond b (without R k (l ++ m)) (e ∷ without R k (l ++ m)) ≡ cond b (without R k l) (e ∷ without R k l) ++ m
      by_test true rest = rest
      by_test false rest = ap (λ r. e ∷ r) rest

  pub put-append_above : (k : K) (v : V) (l : List (K × V)) (e : K × V) (r : List (K × V)) → R k e.0 ≡ Less → put R k v (l ++ e ∷ r) ≡ put R k v l ++ e ∷ r
  put-append_above k v [] e r h = ap (λ w. by_order w ((k, v) ∷ e ∷ r) ((e.0, v) ∷ r) (e ∷ put R k v r)) h
  put-append_above k v (x ∷ l) e r h = by_case (R k x.0) (put-append_above k v l e r h)
    where
      by_case : (w : Ordering) → put R k v (l ++ e ∷ r) ≡ put R k v l ++ e ∷ r
          → by_order w ((k, v) ∷ x ∷ (l ++ e ∷ r)) ((x.0, v) ∷ (l ++ e ∷ r)) (x ∷ put R k v (l ++ e ∷ r)) ≡ by_order w ((k, v) ∷ x ∷ l) ((x.0, v) ∷ l) (x ∷ put R k v l) ++ e ∷ r
      by_case Less rest = refl
      by_case Equal rest = refl
      by_case Greater rest = ap (λ s. x ∷ s) rest

  -- ---- the first key not below k, in two lists

  pub first-append_some : (k : K) (l m : List (K × V)) (x : K × V) → first_not_below R k l ≡ Some x → first_not_below R k (l ++ m) ≡ Some x
  first-append_some k [] m x h = absurd (no_some h)
    where
      no_some : None ≡ Some x → ⊥
      no_some h = cc
  first-append_some k (e ∷ l) m x h = by_test (is_lt (R e.0 k)) (first-append_some k l m x) h
    where
      by_test : (b : Bool) → (first_not_below R k l ≡ Some x → first_not_below R k (l ++ m) ≡ Some x)
          → cond b (first_not_below R k l) (Some e) ≡ Some x → cond b (first_not_below R k (l ++ m)) (Some e) ≡ Some x
      by_test true rest is = rest is
      by_test false rest is = is

  pub first-append_none : (k : K) (l m : List (K × V)) → first_not_below R k l ≡ None → first_not_below R k (l ++ m) ≡ first_not_below R k m
  first-append_none k [] m h = refl
  first-append_none k (e ∷ l) m h = by_test (is_lt (R e.0 k)) (first-append_none k l m) h
    where
      by_test : (b : Bool) → (first_not_below R k l ≡ None → first_not_below R k (l ++ m) ≡ first_not_below R k m)
          → cond b (first_not_below R k l) (Some e) ≡ None → cond b (first_not_below R k (l ++ m)) (Some e) ≡ first_not_below R k m
      by_test true rest is = rest is
      by_test false rest is = absurd (no_none is)
        where
          no_none : Some e ≡ None → ⊥
          no_none g = cc

  -- ---- lists that rise

  above_middle : (x : K) (l : List (K × V)) (e : K × V) (r : List (K × V)) → AllAbove R x (l ++ e ∷ r) → R x e.0 ≡ Less
  above_middle x [] e r above = above.0
  above_middle x (y ∷ l) e r above = above_middle x l e r above.1

  above_front : (x : K) (l m : List (K × V)) → AllAbove R x (l ++ m) → AllAbove R x l
  above_front x [] m above = tt
  above_front x (y ∷ l) m above = (above.0, above_front x l m above.1)

  pub rising_front : (l m : List (K × V)) → IsRising R (l ++ m) → IsRising R l
  rising_front [] m rises = tt
  rising_front (x ∷ l) m rises = (above_front x.0 l m rises.0, rising_front l m rises.1)

  pub rising_back : (l : List (K × V)) (e : K × V) (r : List (K × V)) → IsRising R (l ++ e ∷ r) → AllAbove R e.0 r × IsRising R r
  rising_back [] e r rises = rises
  rising_back (x ∷ l) e r rises = rising_back l e r rises.1

  pub all_below : (l : List (K × V)) (e : K × V) (r : List (K × V)) → IsRising R (l ++ e ∷ r) → AllBelow R e.0 l
  all_below [] e r rises = tt
  all_below (x ∷ l) e r rises = (above_middle x.0 l e r rises.0, all_below l e r rises.1)

  pub below_more : (x y : K) (es : List (K × V)) → R x y ≡ Less → AllBelow R x es → AllBelow R y es
  below_more x y [] h below = tt
  below_more x y (e ∷ es) h below = (o.trans e.0 x y below.0 h, below_more x y es h below.1)

  pub below_tied : (x y : K) (es : List (K × V)) → R x y ≡ Equal → AllBelow R x es → AllBelow R y es
  below_tied x y [] h below = tt
  below_tied x y (e ∷ es) h below = (sym (alike_right o x y e.0 h) ∙ below.0, below_tied x y es h below.1)

  -- ---- what a change leaves rising

  above-put : (x k : K) (v : V) (es : List (K × V)) → R x k ≡ Less → AllAbove R x es → AllAbove R x (put R k v es)
  above-put x k v [] h above = (h, tt)
  above-put x k v (e ∷ es) h above = by_case (R k e.0) (above-put x k v es h above.1)
    where
      by_case : (w : Ordering) → AllAbove R x (put R k v es) → AllAbove R x (by_order w ((k, v) ∷ e ∷ es) ((e.0, v) ∷ es) (e ∷ put R k v es))
      by_case Less rest = (h, above)
      by_case Equal rest = above
      by_case Greater rest = (above.0, rest)

  pub rising-put : (k : K) (v : V) (es : List (K × V)) → IsRising R es → IsRising R (put R k v es)
  rising-put k v [] rises = (tt, tt)
  rising-put k v (e ∷ es) rises = by_case (R k e.0) refl (rising-put k v es rises.1)
    where
      by_case : (w : Ordering) → R k e.0 ≡ w → IsRising R (put R k v es) → IsRising R (by_order w ((k, v) ∷ e ∷ es) ((e.0, v) ∷ es) (e ∷ put R k v es))
      by_case Less h rest = (above_from k e es h rises.0, rises)
      by_case Equal h rest = rises
      by_case Greater h rest = (above-put e.0 k v es (turned_back o k e.0 h) rises.0, rest)

  above-without : (x k : K) (es : List (K × V)) → AllAbove R x es → AllAbove R x (without R k es)
  above-without x k [] above = tt
  above-without x k (e ∷ es) above = by_test (is_eq (R k e.0)) (above-without x k es above.1)
    where
      by_test : (b : Bool) → AllAbove R x (without R k es) → AllAbove R x (cond b (without R k es) (e ∷ without R k es))
      by_test true rest = rest
      by_test false rest = (above.0, rest)

  pub rising-without : (k : K) (es : List (K × V)) → IsRising R es → IsRising R (without R k es)
  rising-without k [] rises = tt
  rising-without k (e ∷ es) rises = by_test (is_eq (R k e.0)) (rising-without k es rises.1)
    where
      by_test : (b : Bool) → IsRising R (without R k es) → IsRising R (cond b (without R k es) (e ∷ without R k es))
      by_test true rest = rest
      by_test false rest = (above-without e.0 k es rises.0, rest)

  -- ---- a key that is not there

  pub without-absent : (k : K) (es : List (K × V)) → is_some (find R k es) ≡ false → without R k es ≡ es
  without-absent k [] none = refl
  without-absent k (e ∷ es) none = by_test (is_eq (R k e.0)) none (without-absent k es)
    where
      by_test : (b : Bool) → is_some (cond b (Some e.1) (find R k es)) ≡ false → (is_some (find R k es) ≡ false → without R k es ≡ es)
          → cond b (without R k es) (e ∷ without R k es) ≡ e ∷ es
      by_test true is rest = absurd (true≢false is)
      by_test false is rest = ap (λ s. e ∷ s) (rest is)
