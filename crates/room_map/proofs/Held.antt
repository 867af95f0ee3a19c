-- What the nodes hold, and that it stays where none of its nodes is changed.
use Rattle.std.proofs.Common.{◌≡◌, ℕ, zero, suc, ◌+◌, ◌<◌, ◌≤◌, List, [], ◌∷◌, length, length-append, Some, None, ⊎_elim, set, refl, sym, ap, ◌∙◌, subst, arith}
use Rattle.std.specs.Prelude.{slice_get, max}
use Rattle.std.proofs.lemmas.Bool.{cases_lt}
use Rattle.std.proofs.lemmas.Option.{slice_get_past, slice_get_within}
use Rattle.room_map.specs.declared.nodes.Node.{Node}
use Rattle.room_map.specs.Shape.{Shape, Bare, Fork, is_at, entries, height, times}
use Rattle.room_map.specs.Nodes.{top, node_over, raised, IsHeld, Under, Changed, AreSides, AreThree, height_in, height_at}
use Rattle.room_map.proofs.Sizes.{at_itself, is_max, at_some}

pub slice_get-set_same : {X : Type 0} (xs : List X) (i : ℕ) (w : X) → i < length xs → slice_get (set xs i w) i ≡ Some w
slice_get-set_same [] i w h = absurd (omega arith)
slice_get-set_same (x ∷ xs) zero w h = refl
slice_get-set_same (x ∷ xs) (suc i) w h = slice_get-set_same xs i w (omega arith)

-- a place within the list has an item
pub item_there : {X : Type 0} (xs : List X) (i : ℕ) → i < length xs → slice_get xs i ≡ None → ⊥
item_there [] i h none = omega arith
item_there (x ∷ xs) zero h none = cc
item_there (x ∷ xs) (suc i) h none = item_there xs i (omega arith) none

pub slice_get-set_other : {X : Type 0} (xs : List X) (i j : ℕ) (w : X) → (j ≡ i → ⊥) → slice_get (set xs i w) j ≡ slice_get xs j
slice_get-set_other [] i j w apart = refl
slice_get-set_other (x ∷ xs) zero zero w apart = absurd (apart refl)
slice_get-set_other (x ∷ xs) zero (suc j) w apart = refl
slice_get-set_other (x ∷ xs) (suc i) zero w apart = refl
slice_get-set_other (x ∷ xs) (suc i) (suc j) w apart = slice_get-set_other xs i j w (λ e. apart (ap suc e))

module _ {K V : Type 0} where
  held_kept : (own : ℕ → ℕ) (ns ms : List (Node K V)) (t : Shape K V) → ((k : ℕ) → own k ≡ 0 → slice_get ms k ≡ slice_get ns k) → ((k : ℕ) → times k t + own k ≤ 1) → IsHeld ns t → IsHeld ms t
  held_kept own ns ms Bare same apart held = tt
  held_kept own ns ms (Fork i l k v r) same apart held = (
    same i (omega (arith, apart i, at_itself i)) ∙ held.0,
    held_kept own ns ms l same (λ k. omega (arith, apart k)) held.1,
    held_kept own ns ms r same (λ k. omega (arith, apart k)) held.2,
  )

  -- a tree none of whose places is owned stays
  pub under_kept : {own : ℕ → ℕ} {ns ms : List (Node K V)} (i : ℕ) (t : Shape K V) → Changed own ns ms → ((k : ℕ) → times k t + own k ≤ 1) → Under ns i t → Under ms i t
  under_kept {own} {ns} {ms} i t c apart u = record {
    is_top = u.is_top;
    held = held_kept own ns ms t c.others apart u.held;
    few = omega (arith, c.long, u.few);
  }

  pub changed_both : {f h : ℕ → ℕ} {ns ms os : List (Node K V)} → Changed f ns ms → Changed h ms os → Changed (λ k. f k + h k) ns os
  changed_both {f} {h} c d = record { others = λ k own. d.others k (omega (arith, own)) ∙ c.others k (omega (arith, own)); long = d.long ∙ c.long }

  pub changed_more : {f h : ℕ → ℕ} {ns ms : List (Node K V)} → Changed f ns ms → ((k : ℕ) → f k ≤ h k) → Changed h ns ms
  changed_more {f} {h} c more = record { others = λ k own. c.others k (omega (arith, own, more k)); long = c.long }

  pub changed_where : {f h : ℕ → ℕ} {ns ms : List (Node K V)} → Changed f ns ms → ((k : ℕ) → h k ≡ 0 → f k ≡ 0) → Changed h ns ms
  changed_where c where_none = record { others = λ k own. c.others k (where_none k own); long = c.long }

  pub unchanged : {h : ℕ → ℕ} {ns : List (Node K V)} → Changed h ns ns
  unchanged = record { others = λ k none. refl; long = refl }

  pub length-fork : (i : ℕ) (l : Shape K V) (k : K) (v : V) (r : Shape K V) → length (entries (Fork i l k v r)) ≡ length (entries l) + 1 + length (entries r)
  length-fork i l k v r = omega (arith, length-append (entries l) ((k, v) ∷ entries r))

  pub node_is : {i j n h : ℕ} (l : Shape K V) (k : K) (v : V) (r : Shape K V) → i ≡ top l → j ≡ top r → n ≡ length (entries l) + 1 + length (entries r) → h ≡ max (height l) (height r) + 1
      → ◌≡◌ {A = Node K V} (record { left = i; right = j; count = n; height = h; key = k; value = v }) (node_over l k v r)
  node_is l k v r a b c d = λ p. record { left = a p; right = b p; count = c p; height = d p; key = k; value = v }

  -- the node of an entry over two sides
  pub record IsNode (ns : List (Node K V)) (n : Node K V) (l : Shape K V) (k : K) (v : V) (r : Shape K V) : Type 0 where
    pub left : Under ns n.left l
    pub right : Under ns n.right r
    pub key : n.key ≡ k
    pub value : n.value ≡ v
    pub node : n ≡ node_over l k v r

  -- the node under a link, and the tree over its sides
  pub record IsOver (ns : List (Node K V)) (i : ℕ) (t : Shape K V) (n : Node K V) : Type 0 where
    pub l : Shape K V
    pub r : Shape K V
    pub is : t ≡ Fork i l n.key n.value r
    pub node : IsNode ns n l n.key n.value r

  no_node : (n : Node K V) → Some n ≡ None → ⊥
  no_node n h = cc

  pub same_node : {x y : Node K V} → Some x ≡ Some y → x ≡ y
  same_node h = cc

  pub bare : {ns : List (Node K V)} {i : ℕ} (t : Shape K V) → Under ns i t → slice_get ns i ≡ None → t ≡ Bare
  bare Bare u none = refl
  bare {ns} {i} (Fork j l k v r) u none = absurd (no_node (node_over l k v r) (sym (u.held.0) ∙ ap (slice_get ns) (sym u.is_top) ∙ none))

  -- the uppermost node is there
  pub fork_there : {ns : List (Node K V)} {i j : ℕ} {l r : Shape K V} {k : K} {v : V} → Under ns i (Fork j l k v r) → slice_get ns i ≡ None → ⊥
  fork_there {ns} {i} {j} {l} {r} {k} {v} u none = no_node (node_over l k v r) (sym (u.held.0) ∙ ap (slice_get ns) (sym u.is_top) ∙ none)

  pub high_there : {ns : List (Node K V)} {i : ℕ} (h : ℕ) (t : Shape K V) → Under ns i t → height t ≡ h + 2 → slice_get ns i ≡ None → ⊥
  high_there h Bare u high none = omega (arith, high)
  high_there h (Fork j l k v r) u high none = fork_there u none

  pub node_of : {ns : List (Node K V)} {i j : ℕ} {n : Node K V} {l r : Shape K V} {k : K} {v : V} → Under ns i (Fork j l k v r) → slice_get ns i ≡ Some n → IsNode ns n l k v r
  node_of {ns} {i} {j} {n} {l} {r} {k} {v} u there =
      let node : n ≡ node_over l k v r = same_node (sym there ∙ ap (slice_get ns) u.is_top ∙ u.held.0) in
      record {
        left = record { is_top = ap {A = Node K V} (λ n. n.left) node; held = u.held.1; few = u.few };
        right = record { is_top = ap {A = Node K V} (λ n. n.right) node; held = u.held.2; few = u.few };
        key = ap {A = Node K V} (λ n. n.key) node;
        value = ap {A = Node K V} (λ n. n.value) node;
        node = node;
      }

  pub forked : {ns : List (Node K V)} {i : ℕ} {n : Node K V} (t : Shape K V) → Under ns i t → slice_get ns i ≡ Some n → IsOver ns i t n
  forked {ns} {i} {n} Bare u there = absurd (no_node n (sym there ∙ slice_get_past ns i (omega (arith, u.is_top, u.few))))
  forked {ns} {i} {n} (Fork j l k v r) u there =
      let o : IsNode ns n l k v r = node_of u there in
      record {
        l = l;
        r = r;
        is = λ p. Fork (sym u.is_top p) l (sym o.key p) (sym o.value p) r;
        node = record { left = o.left; right = o.right; key = refl; value = refl; node = o.node ∙ (λ p. node_over l (sym o.key p) (sym o.value p) r) };
      }

  -- a node over two sides that have an entry more than it counted, and are not higher than it allows
  pub raised_over : {ns ms : List (Node K V)} {i : ℕ} {n : Node K V} {l r : Shape K V} → AreSides ns n.left l i n.right r → n.count ≡ length (entries l) + length (entries r) → n.height ≡ max (height l) (height r) + 1
      → slice_get ms i ≡ Some (raised n) → Changed (is_at i) ns ms → Under ms i (Fork i l n.key n.value r)
  raised_over {n = n} {l} {r} s count high written d =
      let left = under_kept n.left l d (λ k. omega (arith, s.apart k)) s.left in
      let right = under_kept n.right r d (λ k. omega (arith, s.apart k)) s.right in
      record {
        is_top = refl;
        held = (written ∙ ap Some (node_is l n.key n.value r s.left.is_top s.right.is_top (omega (arith, count)) high), left.held, right.held);
        few = left.few;
      }

  -- three trees: two of them, and then all

  pub first_two : {ns : List (Node K V)} {i j m x y : ℕ} {a b c : Shape K V} → AreThree ns i a x j b y m c → AreSides ns i a x j b
  first_two {c = c} s = record { left = s.first; right = s.second; there = s.x_there; apart = λ k. omega (arith, s.apart k); small = omega (arith, s.small) }

  pub last_two : {ns : List (Node K V)} {i j m x y : ℕ} {a b c : Shape K V} → AreThree ns i a x j b y m c → AreSides ns j b y m c
  last_two s = record { left = s.second; right = s.third; there = s.y_there; apart = λ k. omega (arith, s.apart k); small = omega (arith, s.small) }

  pub then_third : {ns ms : List (Node K V)} {i j m x y z : ℕ} {a b c : Shape K V} {k : K} {v : V} → AreThree ns i a x j b y m c → Changed (is_at x) ns ms → Under ms z (Fork x a k v b)
      → AreSides ms z (Fork x a k v b) y m c
  then_third {m = m} {x = x} {a = a} {b = b} {c = c} {k = k} {v = v} s d u = record {
    left = u;
    right = under_kept m c d (λ q. omega (arith, s.apart q)) s.third;
    there = omega (arith, s.y_there, d.long);
    apart = λ q. omega (arith, s.apart q);
    small = omega (arith, s.small, length-fork x a k v b);
  }

  pub then_first : {ns ms : List (Node K V)} {i j m x y z : ℕ} {a b c : Shape K V} {k : K} {v : V} → AreThree ns i a x j b y m c → Changed (is_at y) ns ms → Under ms z (Fork y b k v c)
      → AreSides ms i a x z (Fork y b k v c)
  then_first {i = i} {y = y} {a = a} {b = b} {c = c} {k = k} {v = v} s d u = record {
    left = under_kept i a d (λ q. omega (arith, s.apart q)) s.first;
    right = u;
    there = omega (arith, s.x_there, d.long);
    apart = λ q. omega (arith, s.apart q);
    small = omega (arith, s.small, length-fork y b k v c);
  }

  -- the uppermost entry of the middle one of three trees goes up

  pub spread_left : {ns : List (Node K V)} {i j m x y : ℕ} {n : Node K V} {a l r c : Shape K V} {k : K} {v : V} → AreThree ns i a x j (Fork j l k v r) y m c → IsNode ns n l k v r
      → AreSides ns i a x n.left l
  spread_left {j = j} {l = l} {r = r} {k = k} {v = v} s o = record { left = s.first; right = o.left; there = s.x_there; apart = λ q. omega (arith, s.apart q); small = omega (arith, s.small, length-fork j l k v r) }

  pub spread_right : {ns ms : List (Node K V)} {i j m x y : ℕ} {n : Node K V} {a l r c : Shape K V} {k : K} {v : V} → AreThree ns i a x j (Fork j l k v r) y m c → IsNode ns n l k v r → Changed (is_at x) ns ms
      → AreSides ms n.right r y m c
  spread_right {j = j} {m = m} {n = n} {l = l} {r = r} {c = c} {k = k} {v = v} s o d = record {
    left = under_kept n.right r d (λ q. omega (arith, s.apart q)) o.right;
    right = under_kept m c d (λ q. omega (arith, s.apart q)) s.third;
    there = omega (arith, s.y_there, d.long);
    apart = λ q. omega (arith, s.apart q);
    small = omega (arith, s.small, length-fork j l k v r);
  }

  pub spread_top : {ns ms os : List (Node K V)} {i j m x y z w : ℕ} {a l r c : Shape K V} {k kx ky : K} {v vx vy : V} → AreThree ns i a x j (Fork j l k v r) y m c → Changed (is_at x) ns ms → Changed (is_at y) ms os
      → Under ms z (Fork x a kx vx l) → Under os w (Fork y r ky vy c) → AreSides os z (Fork x a kx vx l) j w (Fork y r ky vy c)
  spread_top {i = i} {j = j} {x = x} {y = y} {z = z} {a = a} {l = l} {r = r} {c = c} {k = k} {kx = kx} {ky = ky} {v = v} {vx = vx} {vy = vy} s d e u w = record {
    left = under_kept z (Fork x a kx vx l) e (λ q. omega (arith, s.apart q)) u;
    right = w;
    there = omega (arith, slice_get_within _ j _ s.second.held.0, d.long, e.long);
    apart = λ q. omega (arith, s.apart q);
    small = omega (arith, s.small, length-fork j l k v r, length-fork x a kx vx l, length-fork y r ky vy c);
  }

  pub under_same : {ns : List (Node K V)} {i j : ℕ} {l r : Shape K V} {k k' : K} {v v' : V} → k ≡ k' → v ≡ v' → Under ns i (Fork j l k v r) → Under ns i (Fork j l k' v' r)
  under_same {ns} {i} {j} {l} {r} {k} {k'} {v} {v'} e f u = subst (λ (w : V). Under ns i (Fork j l k' w r)) f (subst (λ (h : K). Under ns i (Fork j l h v r)) e u)

  -- one of two sides taken apart

  pub record IsFork (i : ℕ) (t : Shape K V) : Type 0 where
    pub l : Shape K V
    pub k : K
    pub v : V
    pub r : Shape K V
    pub is : t ≡ Fork i l k v r

  pub is_fork : {ns : List (Node K V)} {i : ℕ} (t : Shape K V) → Under ns i t → 0 < height t → IsFork i t
  is_fork Bare u h = absurd (omega (arith, h))
  is_fork {ns} {i} (Fork j l k v r) u h = record { l = l; k = k; v = v; r = r; is = ap (λ j. Fork j l k v r) (sym u.is_top) }

  pub three_left : {ns : List (Node K V)} {i j x : ℕ} {n : Node K V} {l r : Shape K V} → AreSides ns i l x j r → slice_get ns i ≡ Some n → (o : IsOver ns i l n) → AreThree ns n.left o.l i n.right o.r x j r
  three_left {ns} {i} {j} {x} {n} {l} {r} s there o = record {
    first = o.node.left;
    second = o.node.right;
    third = s.right;
    x_there = slice_get_within ns i n there;
    y_there = s.there;
    apart = λ q. omega (arith, s.apart q, ap (times q) o.is);
    small = omega (arith, s.small, ap (λ t. length (entries t)) o.is, length-fork i o.l n.key n.value o.r);
  }

  pub three_right : {ns : List (Node K V)} {i j x : ℕ} {n : Node K V} {l r : Shape K V} → AreSides ns i l x j r → slice_get ns j ≡ Some n → (o : IsOver ns j r n) → AreThree ns i l x n.left o.l j n.right o.r
  three_right {ns} {i} {j} {x} {n} {l} {r} s there o = record {
    first = s.left;
    second = o.node.left;
    third = o.node.right;
    x_there = s.there;
    y_there = slice_get_within ns j n there;
    apart = λ q. omega (arith, s.apart q, ap (times q) o.is);
    small = omega (arith, s.small, ap (λ t. length (entries t)) o.is, length-fork j o.l n.key n.value o.r);
  }

  pub three_fork : {ns : List (Node K V)} {i j m x y : ℕ} {a b d c : Shape K V} → AreThree ns i a x j b y m c → b ≡ d → AreThree ns i a x j d y m c
  three_fork {ns} {i} {j} {m} {x} {y} {a} {b} {d} {c} s e = subst (λ (t : Shape K V). AreThree ns i a x j t y m c) e s

  -- ---- the height that is kept

  pub height_of : {ns : List (Node K V)} {i : ℕ} (t : Shape K V) → Under ns i t → height_at ns i ≡ height t
  height_of {ns} {i} Bare u = ap (height_in {K = K} {V = V}) (slice_get_past ns i (omega (arith, u.is_top, u.few)))
  height_of {ns} {i} (Fork j l k v r) u = ap (height_in {K = K} {V = V}) (ap (slice_get ns) u.is_top ∙ u.held.0)

  pub lower_left : {ns : List (Node K V)} {i : ℕ} {n : Node K V} (t : Shape K V) → Under ns i t → IsOver ns i t n → height_at ns n.left < height_at ns i
  lower_left t u o = let m = is_max (height o.l) (height o.r) in omega (arith, height_of t u, ap height o.is, height_of o.l o.node.left)

  pub lower_right : {ns : List (Node K V)} {i : ℕ} {n : Node K V} (t : Shape K V) → Under ns i t → IsOver ns i t n → height_at ns n.right < height_at ns i
  lower_right t u o = let m = is_max (height o.l) (height o.r) in omega (arith, height_of t u, ap height o.is, height_of o.r o.node.right)

  pub below_left : {ns : List (Node K V)} {i : ℕ} {n : Node K V} (t : Shape K V) → Under ns i t → slice_get ns i ≡ Some n → height_at ns n.left < height_at ns i
  below_left t u there = lower_left t u (forked t u there)

  pub below_right : {ns : List (Node K V)} {i : ℕ} {n : Node K V} (t : Shape K V) → Under ns i t → slice_get ns i ≡ Some n → height_at ns n.right < height_at ns i
  below_right t u there = lower_right t u (forked t u there)

  pub count_of : {ns : List (Node K V)} {i : ℕ} {n : Node K V} (t : Shape K V) → Under ns i t → slice_get ns i ≡ Some n → n.count ≡ length (entries t)
  count_of {ns} {i} {n} t u there = over (forked t u there)
    where
      over : IsOver ns i t n → n.count ≡ length (entries t)
      over o = ap {A = Node K V} (λ n. n.count) o.node.node ∙ sym (ap (λ t. length (entries t)) o.is ∙ length-fork i o.l n.key n.value o.r)

  pub height_in_node : {ns : List (Node K V)} {i : ℕ} {n : Node K V} (t : Shape K V) → Under ns i t → slice_get ns i ≡ Some n → n.height ≡ height t
  height_in_node {ns} {i} {n} t u there = over (forked t u there)
    where
      over : IsOver ns i t n → n.height ≡ height t
      over o = ap {A = Node K V} (λ n. n.height) o.node.node ∙ sym (ap height o.is)

  -- a place of a tree that is held is there
  pub held_there : (ns : List (Node K V)) (t : Shape K V) (q : ℕ) → IsHeld ns t → 0 < times q t → q < length ns
  held_there ns Bare q h some = absurd (omega arith)
  held_there ns (Fork i l k v r) q h some = ⊎_elim
      (λ (a : 0 < times q l). held_there ns l q h.1 a)
      (λ (a : times q l ≤ 0). ⊎_elim
      (λ (b : 0 < times q r). held_there ns r q h.2 b)
      (λ (b : times q r ≤ 0). let same : i ≡ q = at_some i q (omega (arith, some)) in omega (arith, slice_get_within ns i (node_over l k v r) h.0))
      (cases_lt 0 (times q r)))
      (cases_lt 0 (times q l))
