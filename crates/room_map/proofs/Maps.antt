-- The words on entries against those on finite maps.
use Rattle.std.proofs.Common.{◌≡◌, ◌+◌, ◌≤◌, Bool, true, false, cond, not, List, [], ◌∷◌, length, Some, None, Option, refl, sym, ap, ◌∙◌, subst, arith}
use Rattle.std.specs.Prelude.{T, ◌&&◌, ◌==◌, is_some}
use Rattle.std.specs.declared.cmp.Ordering.{Ordering}
use Rattle.std.specs.declared.cmp.Ordering.TheVariants.{Less, Equal, Greater}
use Rattle.std.specs.Ordering.{is_lt, is_eq, eq_by_cmp}
use Rattle.std.specs.Cmp.{IsTotalOrder, alike_right}
use Rattle.std.specs.FinMap as map
use Rattle.std.specs.FinMap.{FinMap, find, put, is_sorted}
use Rattle.std.specs.FinMap.Entries.{by_order, below_all, length-put, where_key, find-where_key, is_sorted-where_key}
use Rattle.std.proofs.lemmas.Bool.{eqb-true}
use Rattle.std.proofs.lemmas.List.Filters.{length-filter_both}
use Rattle.room_map.specs.Entries.{AllAbove, IsRising, without, as_map}
use Rattle.room_map.proofs.Rising.{above_at, without-absent, without-above, rising-put, rising-without}

both : (a b : Bool) → T a → T b → T (a && b)
both true b p q = q
both false b p q = p

first_of : (a b : Bool) → T (a && b) → T a
first_of true b h = tt
first_of false b h = absurd h

second_of : (a b : Bool) → T (a && b) → T b
second_of true b h = h
second_of false b h = absurd h

less_of : (w : Ordering) → T (is_lt w) → w ≡ Less
less_of Less h = refl
less_of Equal h = absurd h
less_of Greater h = absurd h

no_items : {A : Type 0} (es : List A) → length es ≡ 0 → es ≡ []
no_items [] none = refl
no_items (e ∷ es) none = absurd (omega arith)

module _ {K V : Type 0} {R : K → K → Ordering} (o : IsTotalOrder R) where
  below_from_above : (k : K) (es : List (K × V)) → AllAbove R k es → T (below_all R k es)
  below_from_above k [] above = tt
  below_from_above k (e ∷ es) above = both (is_lt (R k e.0)) (below_all R k es) (subst (λ w. T (is_lt w)) (sym above.0) tt) (below_from_above k es above.1)

  pub sorted_from_rising : (es : List (K × V)) → IsRising R es → T (is_sorted R es)
  sorted_from_rising [] rises = tt
  sorted_from_rising (e ∷ es) rises = both (below_all R e.0 es) (is_sorted R es) (below_from_above e.0 es rises.0) (sorted_from_rising es rises.1)

  put-above : (k : K) (v : V) (es : List (K × V)) → AllAbove R k es → put R k v es ≡ (k, v) ∷ es
  put-above k v [] above = refl
  put-above k v (e ∷ es) above = ap (λ w. by_order w ((k, v) ∷ e ∷ es) ((e.0, v) ∷ es) (e ∷ put R k v es)) above.0

  -- a rising list is the list of its map's entries
  pub entries-as_map : (es : List (K × V)) → IsRising R es → map.entries (as_map R es) ≡ es
  entries-as_map [] rises = no_items (map.entries (map.empty {X = V} {R = R})) (sym (map.len-entries (map.empty {X = V} {R = R})) ∙ map.len-empty R V)
  entries-as_map (e ∷ es) rises =
      map.entries-insert o (as_map R es) e.0 e.1 ∙ ap (put R e.0 e.1) (entries-as_map es rises.1) ∙ put-above e.0 e.1 es rises.0

  pub as_map-put : (k : K) (v : V) (es : List (K × V)) → IsRising R es → as_map R (put R k v es) ≡ map.insert (as_map R es) k v
  as_map-put k v es rises = map.same_entries_map (as_map R (put R k v es)) (map.insert (as_map R es) k v)
      (entries-as_map (put R k v es) (rising-put o k v es rises) ∙ ap (put R k v) (sym (entries-as_map es rises)) ∙ sym (map.entries-insert o (as_map R es) k v))

  pub get-as_map : (es : List (K × V)) (q : K) → map.get (as_map R es) q ≡ find R q es
  get-as_map es q = map.get-from_entries o es q

  pub length-put_new : (k : K) (v : V) (es : List (K × V)) → IsRising R es → find R k es ≡ None → length (put R k v es) ≡ length es + 1
  length-put_new k v es rises none = length-put R o k v es (sorted_from_rising es rises) ∙ ap (λ x. cond (is_some x) (length es) (length es + 1)) none

  pub length-put_there : (k : K) (v : V) (es : List (K × V)) → IsRising R es → is_some (find R k es) ≡ true → length (put R k v es) ≡ length es
  length-put_there k v es rises there = length-put R o k v es (sorted_from_rising es rises) ∙ ap (λ b. cond b (length es) (length es + 1)) there

  pub length-without : (k : K) (es : List (K × V)) → IsRising R es → length (without R k es) + cond (is_some (find R k es)) 1 0 ≡ length es
  length-without k [] rises = omega arith
  length-without k (e ∷ es) rises = by_case (R k e.0) refl (length-without k es rises.1)
    where
      by_case : (w : Ordering) → R k e.0 ≡ w → length (without R k es) + cond (is_some (find R k es)) 1 0 ≡ length es
          → length (cond (is_eq w) (without R k es) (e ∷ without R k es)) + cond (is_some (cond (is_eq w) (Some e.1) (find R k es))) 1 0 ≡ length (e ∷ es)
      by_case Less h rest = omega (arith, rest)
      by_case Equal h rest = omega (arith, ap length (without-above o k es (above_at o k e es h rises.0)))
      by_case Greater h rest = omega (arith, rest)

  pub find-without : (k q : K) (es : List (K × V)) → find R q (without R k es) ≡ cond (eq_by_cmp R q k) None (find R q es)
  find-without k q [] = by_test (eq_by_cmp R q k)
    where
      by_test : (b : Bool) → ◌≡◌ {A = Option V} None (cond b None None)
      by_test true = refl
      by_test false = refl
  find-without k q (e ∷ es) = by_case (R k e.0) refl (find-without k q es)
    where
      apart : (b c : Bool) (x y z : Option V) → x ≡ cond c None y → (T b → T c → ⊥) → cond b (Some e.1) x ≡ cond c None (cond b (Some e.1) y)
      apart true true x y z h never = absurd (never tt tt)
      apart true false x y z h _ = refl
      apart false true x y z h _ = h
      apart false false x y z h _ = h

      tied : (b c : Bool) (x y : Option V) → b ≡ c → x ≡ cond c None y → x ≡ cond c None (cond b (Some e.1) y)
      tied true true x y same h = h
      tied true false x y same h = absurd (subst T same tt)
      tied false true x y same h = h
      tied false false x y same h = h

      equal : (w : Ordering) → T (is_eq w) → w ≡ Equal
      equal Less h = absurd h
      equal Equal h = refl
      equal Greater h = absurd h

      joins : T (eq_by_cmp R q e.0) → T (eq_by_cmp R q k) → R k e.0 ≡ Equal
      joins a b = sym (o.congr q k e.0 (equal (R q k) b)) ∙ equal (R q e.0) a

      by_case : (w : Ordering) → R k e.0 ≡ w → find R q (without R k es) ≡ cond (eq_by_cmp R q k) None (find R q es)
          → find R q (cond (is_eq w) (without R k es) (e ∷ without R k es)) ≡ cond (eq_by_cmp R q k) None (find R q (e ∷ es))
      by_case Less h rest = apart (eq_by_cmp R q e.0) (eq_by_cmp R q k) (find R q (without R k es)) (find R q es) None rest (λ a b. differ (sym h ∙ joins a b))
        where
          differ : Less ≡ Equal → ⊥
          differ g = cc
      by_case Equal h rest = tied (eq_by_cmp R q e.0) (eq_by_cmp R q k) (find R q (without R k es)) (find R q es) (ap is_eq (sym (alike_right o k e.0 q h))) rest
      by_case Greater h rest = apart (eq_by_cmp R q e.0) (eq_by_cmp R q k) (find R q (without R k es)) (find R q es) None rest (λ a b. differ (sym h ∙ joins a b))
        where
          differ : Greater ≡ Equal → ⊥
          differ g = cc

  pub as_map-without : map.IsAntisymmetric R → (k : K) (es : List (K × V)) → as_map R (without R k es) ≡ map.remove (as_map R es) k
  as_map-without exact k es = map.same_map o exact (as_map R (without R k es)) (map.remove (as_map R es) k) (λ q.
      get-as_map (without R k es) q ∙ find-without k q es ∙ ap (cond (eq_by_cmp R q k) None) (sym (get-as_map es q)) ∙ sym (map.get-remove o (as_map R es) k q))

  -- ---- a map with no entry

  pub get-none : (k : K) (es : List (K × V)) → (length es == 0) ≡ true → None ≡ map.get (as_map R es) k
  get-none k es none = sym (get-as_map es k ∙ ap (find R k) (no_items es (eqb-true (length es) 0 none)))

  pub remove-none : map.IsAntisymmetric R → (k : K) (es : List (K × V)) → (length es == 0) ≡ true → as_map R es ≡ map.remove (as_map R es) k
  remove-none exact k es none =
      ap (as_map R) (sym (without-absent o k es (ap (λ l. is_some (find R k l)) (no_items es (eqb-true (length es) 0 none))))) ∙ as_map-without exact k es

  -- ---- any map, by its entries

  above_from_below : (k : K) (es : List (K × V)) → T (below_all R k es) → AllAbove R k es
  above_from_below k [] h = tt
  above_from_below k (e ∷ es) h = (less_of (R k e.0) (first_of (is_lt (R k e.0)) (below_all R k es) h), above_from_below k es (second_of (is_lt (R k e.0)) (below_all R k es) h))

  pub rising_from_sorted : (es : List (K × V)) → T (is_sorted R es) → IsRising R es
  rising_from_sorted [] h = tt
  rising_from_sorted (e ∷ es) h = (above_from_below e.0 es (first_of (below_all R e.0 es) (is_sorted R es) h), rising_from_sorted es (second_of (below_all R e.0 es) (is_sorted R es) h))

  pub rising-entries : (m : FinMap R V) → IsRising R (map.entries m)
  rising-entries m = rising_from_sorted (map.entries m) (map.entries_sorted m)

  pub as_map-entries : (m : FinMap R V) → as_map R (map.entries m) ≡ m
  as_map-entries m = map.same_entries_map (as_map R (map.entries m)) m (entries-as_map (map.entries m) (rising-entries m))

  pub entries-remove : map.IsAntisymmetric R → (m : FinMap R V) (k : K) → map.entries (map.remove m k) ≡ without R k (map.entries m)
  entries-remove exact m k =
      ap map.entries (ap (λ n. map.remove n k) (sym (as_map-entries m)) ∙ sym (as_map-without exact k (map.entries m)))
      ∙ entries-as_map (without R k (map.entries m)) (rising-without o k (map.entries m) (rising-entries m))

  pub entries-retain_keys : map.IsAntisymmetric R → (m : FinMap R V) (p : K → Bool) → map.entries (map.retain_keys m p) ≡ where_key R p (map.entries m)
  entries-retain_keys exact m p =
      let es = map.entries m in
      let h = is_sorted-where_key R p es (map.entries_sorted m) in
      ap map.entries (map.same_map o exact (map.retain_keys m p) (map.from_sorted {R = R} (where_key R p es)) (λ q.
      let alike : (x : K) → R q x ≡ Equal → p x ≡ p q = λ x tied. ap p (sym (exact q x tied)) in
      map.get-retain_keys m p q alike ∙ ap (λ w. cond (p q) w None) (map.get-entries m q) ∙ sym (find-where_key R p q alike es) ∙ sym (map.get-from_sorted R (where_key R p es) q h)))
      ∙ map.entries-from_sorted R (where_key R p es) h

  pub len-retain_keys-le : map.IsAntisymmetric R → (m : FinMap R V) (p : K → Bool) → map.len (map.retain_keys m p) ≤ map.len m
  len-retain_keys-le exact m p = omega (
    arith,
    map.len-entries (map.retain_keys m p) ∙ ap length (entries-retain_keys exact m p),
    map.len-entries m,
    length-filter_both (λ (e : K × V). p e.0) (λ (e : K × V). not (p e.0)) (λ _. refl) (map.entries m),
  )
