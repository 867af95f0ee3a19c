-- What each call leaves of a map that is kept.
use Rattle.std.proofs.Common.{◌≡◌, ℕ, zero, suc, ◌+◌, ◌<◌, ◌≤◌, ◌^◌, ⊎_elim, true, List, [], ◌∷◌, ◌++◌, length, None, take, drop, append-nil, refl, sym, ap, ◌∙◌, subst, arith}
use Rattle.std.specs.Prelude.{slice_get, is_some}
use Rattle.std.proofs.lemmas.Bool.{cases_lt}
use Rattle.std.proofs.lemmas.Option.{slice_get_past, slice_get_within}
use Rattle.std.specs.declared.cmp.Ordering.{Ordering}
use Rattle.std.specs.Cmp.{IsTotalOrder}
use Rattle.std.specs.FinMap.{find}
use Rattle.room_map.specs.declared.nodes.Node.{Node}
use Rattle.room_map.specs.Entries.{IsRising}
use Rattle.room_map.specs.Shape.{Shape, Bare, Fork, is_at, entries, height, times}
use Rattle.room_map.specs.Nodes.{top, node_over, IsHeld, Under, Changed, CanEnter, HasEntered, HasKey, HasValue, CanLeave, HasLeft}
use Rattle.room_map.specs.Layout.{among, falling, shape_over, tree_at, tree, next_at, IsChain, IsKept}
use Rattle.room_map.proofs.Sizes.{is_max, height-le, at_itself}
use Rattle.room_map.proofs.Held.{under_kept, held_there}
use Rattle.room_map.proofs.Rising.{rising-put, rising-without}
use Rattle.room_map.proofs.Maps.{length-put_new}
use Rattle.room_map.proofs.Chains.{length-falling, among-below, among-le, chain_kept, chain_there}

module _ {K V : Type 0} where
  tree_is : (n : ℕ) (ns : List (Node K V)) (i : ℕ) (t : Shape K V) → Under ns i t → height t ≤ n → tree_at n ns i ≡ t
  unfolding tree_at
  tree_is zero ns i Bare u low = refl
  tree_is zero ns i (Fork j l k v r) u low = absurd (omega (arith, low))
  tree_is (suc n) ns i Bare u low = ap (shape_over i (tree_at n ns)) (slice_get_past ns i (omega (arith, u.is_top, u.few)))
  tree_is (suc n) ns i (Fork j l k v r) u low =
      let m = is_max (height l) (height r) in
      let left = tree_is n ns (top l) l (record { is_top = refl; held = u.held.1; few = u.few }) (omega (arith, low)) in
      let right = tree_is n ns (top r) r (record { is_top = refl; held = u.held.2; few = u.few }) (omega (arith, low)) in
      ap (shape_over i (tree_at n ns)) (ap (slice_get ns) u.is_top ∙ u.held.0) ∙ (λ p. Fork (u.is_top p) (left p) k v (right p))

  held_grown : (ns ms : List (Node K V)) (t : Shape K V) → ((q : ℕ) → q < length ns → slice_get ms q ≡ slice_get ns q) → IsHeld ns t → IsHeld ms t
  held_grown ns ms Bare same held = tt
  held_grown ns ms (Fork i l k v r) same held = (same i (slice_get_within ns i (node_over l k v r) held.0) ∙ held.0, held_grown ns ms l same held.1, held_grown ns ms r same held.2)

module _ {K V : Type 0} {R : K → K → Ordering} {ns : List (Node K V)} {root free spare : ℕ} {t : Shape K V} where
  pub kept_tree : IsKept R ns root free spare t → tree ns root ≡ t
  kept_tree k = tree_is (length ns) ns root t k.under (omega (arith, height-le t, k.all))

  pub few_kept : IsKept R ns root free spare t → length (entries t) + spare < 2 ^ 32
  few_kept k = subst (λ (x : ℕ). x < 2 ^ 32) (sym k.all) k.under.few

  pub kept_as : IsKept R ns root free spare t → IsKept R ns root free spare (tree ns root)
  kept_as k = subst (IsKept R ns root free spare) (sym (kept_tree k)) k

-- the first free node, and the others
pub record FirstFree {K V : Type 0} (ns : List (Node K V)) (free spare : ℕ) (t : Shape K V) : Type 0 where
  pub rest : List ℕ
  pub there : free < length ns
  pub chain : IsChain ns (next_at ns free) rest
  pub as_many : length rest + 1 ≡ spare
  pub apart : (q : ℕ) → times q t + is_at free q + among q rest ≤ 1

module _ {K V : Type 0} {ns : List (Node K V)} {free spare : ℕ} {t : Shape K V} where
  first_of_chain : (is : List ℕ) → IsChain ns free is → length is ≡ spare → 0 < spare → ((q : ℕ) → times q t + among q is ≤ 1) → FirstFree ns free spare t
  first_of_chain [] chain as_many some apart = absurd (omega arith)
  first_of_chain (j ∷ js) chain as_many some apart = record {
    rest = js;
    there = omega (arith, chain.0, chain.1);
    chain = subst (λ (x : ℕ). IsChain ns (next_at ns x) js) (sym chain.0) chain.2;
    as_many = omega (arith, as_many);
    apart = λ q. omega (arith, apart q, ap (λ x. is_at x q) chain.0);
  }

module _ {K V : Type 0} {R : K → K → Ordering} {ns : List (Node K V)} {root free spare : ℕ} {t : Shape K V} where
  pub first_free : IsKept R ns root free spare t → 0 < spare → FirstFree ns free spare t
  first_free k some = first_of_chain k.places k.chain k.as_many some k.apart

  pub can_enter : {key : K} → IsKept R ns root free spare t → FirstFree ns free spare t → find R key (entries t) ≡ None → CanEnter R ns root key free t
  can_enter k f absent = record {
    under = k.under;
    there = f.there;
    apart = λ q. omega (arith, f.apart q);
    small = omega (arith, k.all, f.as_many, k.under.few);
    balanced = k.balanced;
    rises = k.rises;
    absent = absent;
  }

  pub kept_entered : IsTotalOrder R → {ms : List (Node K V)} {key : K} {value : V} {top less : ℕ} {u : Shape K V} → IsKept R ns root free spare t → FirstFree ns free spare t → less + 1 ≡ spare → find R key (entries t) ≡ None
      → Under ms top u → HasEntered R t free key value u → Changed (λ q. times q t + is_at free q) ns ms → IsKept R ms top (next_at ns free) less u
  kept_entered ord {ms} {key} {value} k f one absent under h d = record {
    under = under;
    places = f.rest;
    chain = chain_kept (next_at ns free) f.rest d (λ q some. omega (arith, f.apart q, some)) f.chain;
    as_many = omega (arith, f.as_many, one);
    all = omega (arith, k.all, d.long, one, ap length h.has, length-put_new ord key value (entries t) k.rises absent);
    apart = λ q. omega (arith, f.apart q, h.places q);
    balanced = h.balanced;
    rises = subst (IsRising R) (sym h.has) (rising-put ord key value (entries t) k.rises);
  }

  pub has_key : {key : K} → IsKept R ns root free spare t → is_some (find R key (entries t)) ≡ true → HasKey R ns root key t
  has_key k present = record { under = k.under; apart = λ q. omega (arith, k.apart q); rises = k.rises; present = present }

  pub kept_value : IsTotalOrder R → {ms : List (Node K V)} {key : K} {value : V} {u : Shape K V} → IsKept R ns root free spare t → Under ms root u → HasValue R t key value u → Changed (λ q. times q t) ns ms → IsKept R ms root free spare u
  kept_value ord {ms} {key} {value} k under h d = record {
    under = under;
    places = k.places;
    chain = chain_kept free k.places d (λ q some. omega (arith, k.apart q, some)) k.chain;
    as_many = k.as_many;
    all = omega (arith, k.all, d.long, h.as_many);
    apart = λ q. omega (arith, k.apart q, h.places q);
    balanced = h.balanced k.balanced;
    rises = subst (IsRising R) (sym h.has) (rising-put ord key value (entries t) k.rises);
  }

  pub can_leave : {key : K} → IsKept R ns root free spare t → is_some (find R key (entries t)) ≡ true → CanLeave R ns root key t
  can_leave k present = record { has_key = has_key k present; small = omega (arith, k.all, k.under.few); balanced = k.balanced }

  pub left_there : {ms : List (Node K V)} {key : K} {x : ℕ} {u : Shape K V} → IsKept R ns root free spare t → HasLeft R t key x u → Changed (λ q. times q t) ns ms → x < length ms
  left_there {x = x} k h d = omega (arith, held_there ns t x k.under.held (omega (arith, h.places x, at_itself x)), d.long)

  pub kept_left : IsTotalOrder R → {ms os : List (Node K V)} {key : K} {top x : ℕ} {u : Shape K V} → IsKept R ns root free spare t → length (entries u) + 1 ≡ length (entries t)
      → Under ms top u → HasLeft R t key x u → Changed (λ q. times q t) ns ms → next_at os x ≡ free → Changed (is_at x) ms os → IsKept R os top x (spare + 1) u
  kept_left ord {ms} {os} {key} {top} {x} {u} k one under h d next e =
      let rest = chain_kept free k.places e (λ q some. omega (arith, k.apart q, h.places q, some)) (chain_kept free k.places d (λ q some. omega (arith, k.apart q, some)) k.chain) in
      record {
        under = under_kept top u e (λ q. omega (arith, h.places q, k.apart q)) under;
        places = x ∷ k.places;
        chain = (refl, omega (arith, left_there k h d, e.long), subst (λ (y : ℕ). IsChain os y k.places) (sym next) rest);
        as_many = omega (arith, k.as_many);
        all = omega (arith, k.all, one, d.long, e.long);
        apart = λ q. omega (arith, k.apart q, h.places q);
        balanced = h.balanced;
        rises = subst (IsRising R) (sym h.has) (rising-without ord key (entries t) k.rises);
      }

  pub kept_grown : {ms : List (Node K V)} (first more : ℕ) → IsKept R ns root free spare t → ((q : ℕ) → q < length ns → slice_get ms q ≡ slice_get ns q) → length ms ≡ length ns + more → length ms < 2 ^ 32
      → ((is : List ℕ) → IsChain ns free is → ((q : ℕ) → length ns ≤ q → among q is ≡ 0) → IsChain ms first (falling (length ns) more is)) → IsKept R ms root first (spare + more) t
  kept_grown {ms} first more k same long few chain = record {
    under = record { is_top = k.under.is_top; held = held_grown ns ms t same k.under.held; few = few };
    places = falling (length ns) more k.places;
    chain = chain k.places k.chain (λ q far. chain_there ns free k.places q k.chain far);
    as_many = omega (arith, length-falling (length ns) more k.places, k.as_many);
    all = omega (arith, k.all, long);
    apart = λ q. ⊎_elim
        (λ (h : q < length ns). omega (arith, among-below (length ns) more k.places q h, k.apart q))
        (λ (h : length ns ≤ q). ⊎_elim
        (λ (some : 0 < times q t). absurd (omega (arith, held_there ns t q k.under.held some, h)))
        (λ (none : times q t ≤ 0). omega (arith, among-le (length ns) more k.places q, chain_there ns free k.places q k.chain h))
        (cases_lt 0 (times q t)))
        (cases_lt q (length ns));
    balanced = k.balanced;
    rises = k.rises;
  }

-- no node, and nothing in them
pub none_kept : {K V : Type 0} (R : K → K → Ordering) (ns : List (Node K V)) → ns ≡ [] → IsKept R ns 4294967295 4294967295 0 Bare
none_kept R ns none = record {
  under = record { is_top = refl; held = tt; few = omega (arith, ap length none) };
  places = [];
  chain = tt;
  as_many = refl;
  all = omega (arith, ap length none);
  apart = λ q. omega arith;
  balanced = tt;
  rises = tt;
}

-- ---- the same nodes, by another name

module _ {K V : Type 0} where
  -- a vector whose items were all written
  pub written : (old new : List (Node K V)) (n : ℕ) → n ≡ length old → length new ≡ length old → take n (new ++ drop (length new) old) ≡ new
  written old new n full same =
      let all : drop (length new) old ≡ [] = drop_all (length new) old (omega arith) in
      let front : new ++ drop (length new) old ≡ new = ap (λ xs. new ++ xs) all ∙ append-nil new in
      ap (take n) front ∙ take_all n new (omega arith)
    where
      drop_all : (k : ℕ) (xs : List (Node K V)) → length xs ≤ k → drop k xs ≡ []
      drop_all zero [] h = refl
      drop_all zero (x ∷ xs) h = absurd (omega arith)
      drop_all (suc k) [] h = refl
      drop_all (suc k) (x ∷ xs) h = drop_all k xs (omega arith)

      take_all : (k : ℕ) (xs : List (Node K V)) → length xs ≤ k → take k xs ≡ xs
      take_all zero [] h = refl
      take_all zero (x ∷ xs) h = absurd (omega arith)
      take_all (suc k) [] h = refl
      take_all (suc k) (x ∷ xs) h = ap (λ ys. x ∷ ys) (take_all k xs (omega arith))

  pub under_in : {ns ms : List (Node K V)} {i : ℕ} {t : Shape K V} → ms ≡ ns → Under ns i t → Under ms i t
  under_in {i = i} {t} e u = subst (λ (xs : List (Node K V)). Under xs i t) (sym e) u

  pub changed_in : {own : ℕ → ℕ} {ns ms os : List (Node K V)} → ms ≡ ns → Changed own ms os → Changed own ns os
  changed_in {own} {os = os} e d = subst (λ (xs : List (Node K V)). Changed own xs os) e d

module _ {K V : Type 0} {R : K → K → Ordering} where
  pub enter_in : {ns ms : List (Node K V)} {i s : ℕ} {key : K} {t : Shape K V} → ms ≡ ns → CanEnter R ns i key s t → CanEnter R ms i key s t
  enter_in {i = i} {s} {key} {t} e u = subst (λ (xs : List (Node K V)). CanEnter R xs i key s t) (sym e) u

  pub has_in : {ns ms : List (Node K V)} {i : ℕ} {key : K} {t : Shape K V} → ms ≡ ns → HasKey R ns i key t → HasKey R ms i key t
  has_in {i = i} {key} {t} e u = subst (λ (xs : List (Node K V)). HasKey R xs i key t) (sym e) u

  pub leave_in : {ns ms : List (Node K V)} {i : ℕ} {key : K} {t : Shape K V} → ms ≡ ns → CanLeave R ns i key t → CanLeave R ms i key t
  leave_in {i = i} {key} {t} e u = subst (λ (xs : List (Node K V)). CanLeave R xs i key t) (sym e) u

  pub kept_in : {ns ms : List (Node K V)} {root free first spare : ℕ} {t : Shape K V} → ms ≡ ns → first ≡ free → IsKept R ns root free spare t → IsKept R ms root first spare t
  kept_in {ns} {ms} {root} {free} {first} {spare} {t} e f k =
      subst (λ (x : ℕ). IsKept R ms root x spare t) (sym f) (subst (λ (xs : List (Node K V)). IsKept R xs root free spare t) (sym e) k)

-- what stood in front of what was added
pub front_stays : {X : Type 0} (p : ℕ) (xs ys : List X) (q : ℕ) → length xs ≤ p → q < length xs → slice_get (take p xs ++ ys) q ≡ slice_get xs q
front_stays p [] ys q long h = absurd (omega arith)
front_stays zero (x ∷ xs) ys q long h = absurd (omega arith)
front_stays (suc p) (x ∷ xs) ys zero long h = refl
front_stays (suc p) (x ∷ xs) ys (suc q) long h = front_stays p xs ys q (omega arith) (omega arith)
