-- What two calls that close a tree, one after another, make of three trees.
use Rattle.std.proofs.Common.{◌≡◌, ℕ, ◌+◌, ◌<◌, ◌≤◌, ◌^◌, List, Some, sym, ap, ◌∙◌, subst, arith}
use Rattle.std.specs.Prelude.{slice_get}
use Rattle.room_map.specs.declared.nodes.Node.{Node}
use Rattle.room_map.specs.Shape.{Shape, Fork, is_at, height, times, IsBalanced}
use Rattle.room_map.specs.Nodes.{Under, Changed, AreSides, AreThree, AreNear, IsEven}
use Rattle.room_map.proofs.Sizes.{height-le}
use Rattle.room_map.proofs.Held.{IsOver, IsNode, IsFork, node_of, forked, is_fork, spread_left, spread_right, spread_top, under_same, three_left, three_right, three_fork, changed_more}
use Rattle.room_map.proofs.Even.{even_as_is, even_once, even_back, even_twice, even_twice_back}

module _ {K V : Type 0} {ns : List (Node K V)} {i j m x y : ℕ} {n : Node K V} {a l r c : Shape K V} {k : K} {v : V} where
  -- ---- the uppermost entry of the middle one of three trees goes up

  pub left_of_three : AreThree ns i a x j (Fork j l k v r) y m c → slice_get ns j ≡ Some n → AreSides ns i a x n.left l
  left_of_three s there = spread_left s (node_of s.second there)

  pub right_of_three : {ms : List (Node K V)} → AreThree ns i a x j (Fork j l k v r) y m c → slice_get ns j ≡ Some n → Changed (is_at x) ns ms → AreSides ms n.right r y m c
  right_of_three s there d = spread_right s (node_of s.second there) d

  pub top_of_three : {ms os : List (Node K V)} {z w : ℕ} {kx ky : K} {vx vy : V} → AreThree ns i a x j (Fork j l k v r) y m c → slice_get ns j ≡ Some n → Changed (is_at x) ns ms → Changed (is_at y) ms os
      → ((p q : Shape K V) → AreSides ns i p x n.left q → Under ms z (Fork x p kx vx q)) → ((p q : Shape K V) → AreSides ms n.right p y m q → Under os w (Fork y p ky vy q))
      → AreSides os z (Fork x a kx vx l) j w (Fork y r ky vy c)
  top_of_three {os = os} {z} {w} {kx} {ky} {vx} {vy} s there d e left right = over (node_of s.second there)
    where
      over : IsNode ns n l k v r → AreSides os z (Fork x a kx vx l) j w (Fork y r ky vy c)
      over o = spread_top s d e (left a l (spread_left s o)) (right r c (spread_right s o d))

  pub spread_three : {ms os ps : List (Node K V)} {z w h : ℕ} {kx ky : K} {vx vy : V} → AreThree ns i a x j (Fork j l k v r) y m c → slice_get ns j ≡ Some n → Changed (is_at x) ns ms → Changed (is_at y) ms os
      → ((p q : Shape K V) → AreSides ns i p x n.left q → Under ms z (Fork x p kx vx q)) → ((p q : Shape K V) → AreSides ms n.right p y m q → Under os w (Fork y p ky vy q))
      → ((p q : Shape K V) → AreSides os z p j w q → Under ps h (Fork j p n.key n.value q))
      → Under ps h (Fork j (Fork x a kx vx l) k v (Fork y r ky vy c))
  spread_three {ps = ps} {h = h} {kx = kx} {ky} {vx} {vy} s there d e left right top = over (node_of s.second there)
    where
      over : IsNode ns n l k v r → Under ps h (Fork j (Fork x a kx vx l) k v (Fork y r ky vy c))
      over o = under_same o.key o.value (top (Fork x a kx vx l) (Fork y r ky vy c) (spread_top s d e (left a l (spread_left s o)) (right r c (spread_right s o d))))

module _ {K V : Type 0} {ns : List (Node K V)} {i j x : ℕ} {n : Node K V} {l r : Shape K V} where
  -- ---- the left one of two sides is higher by two

  pub may_spread_left : {hl hr : ℕ} → AreNear ns i l x j r → height l ≡ height r + 2 → slice_get ns i ≡ Some n → hl < hr → ((t : Shape K V) → Under ns n.left t → hl ≡ height t) → ((t : Shape K V) → Under ns n.right t → hr ≡ height t)
      → (p : Shape K V) × (a : Shape K V) × (k : K) × (v : V) × (b : Shape K V) × (q : Shape K V) × AreThree ns n.left p i n.right (Fork n.right a k v b) x j q
  may_spread_left {hl} {hr} near high there more left right = over (forked l near.sides.left there)
    where
      twice : (o : IsOver ns i l n) → IsFork n.right o.r → (p : Shape K V) × (a : Shape K V) × (k : K) × (v : V) × (b : Shape K V) × (q : Shape K V) × AreThree ns n.left p i n.right (Fork n.right a k v b) x j q
      twice o f = (o.l, f.l, f.k, f.v, f.r, r, three_fork (three_left near.sides there o) f.is)

      over : IsOver ns i l n → (p : Shape K V) × (a : Shape K V) × (k : K) × (v : V) × (b : Shape K V) × (q : Shape K V) × AreThree ns n.left p i n.right (Fork n.right a k v b) x j q
      over o = twice o (is_fork o.r o.node.right (omega (arith, more, right o.r o.node.right)))

  pub may_stack_left : AreNear ns i l x j r → slice_get ns i ≡ Some n → (p : Shape K V) × (a : Shape K V) × (q : Shape K V) × AreThree ns n.left p i n.right a x j q
  may_stack_left near there = over (forked l near.sides.left there)
    where
      over : IsOver ns i l n → (p : Shape K V) × (a : Shape K V) × (q : Shape K V) × AreThree ns n.left p i n.right a x j q
      over o = (o.l, o.r, r, three_left near.sides there o)

  pub spread_left_side : {hl hr z : ℕ} {sk : K} {sv : V} {ms : List (Node K V)} → AreNear ns i l x j r → height l ≡ height r + 2 → slice_get ns i ≡ Some n → hl < hr → ((t : Shape K V) → Under ns n.left t → hl ≡ height t) → ((t : Shape K V) → Under ns n.right t → hr ≡ height t)
      → ((p a b q : Shape K V) (k : K) (v : V) → AreThree ns n.left p i n.right (Fork n.right a k v b) x j q → Under ms z (Fork n.right (Fork i p n.key n.value a) k v (Fork x b sk sv q)))
      → Changed (λ q. is_at i q + is_at n.right q + is_at x q) ns ms → (u : Shape K V) × Under ms z u × IsEven l x sk sv r u × Changed (λ q. times q l + is_at x q + times q r) ns ms
  spread_left_side {hl} {hr} {z} {sk} {sv} {ms} near high there more left right run d = over (forked l near.sides.left there)
    where
      twice : (o : IsOver ns i l n) → IsFork n.right o.r → (u : Shape K V) × Under ms z u × IsEven l x sk sv r u × Changed (λ q. times q l + is_at x q + times q r) ns ms
      twice o f =
          let e : l ≡ Fork i o.l n.key n.value (Fork n.right f.l f.k f.v f.r) = o.is ∙ ap (λ t. Fork i o.l n.key n.value t) f.is in
          let lower : height o.l < height (Fork n.right f.l f.k f.v f.r) = omega (arith, more, left o.l o.node.left, right o.r o.node.right, ap height f.is) in
          let even = even_twice i o.l n.key n.value n.right f.l f.k f.v f.r x sk sv r (subst IsBalanced e near.left_even) near.right_even (ap height (sym e) ∙ high) lower in
          (Fork n.right (Fork i o.l n.key n.value f.l) f.k f.v (Fork x f.r sk sv r), run o.l f.l f.r r f.k f.v (three_fork (three_left near.sides there o) f.is), subst (λ t. IsEven t x sk sv r (Fork n.right (Fork i o.l n.key n.value f.l) f.k f.v (Fork x f.r sk sv r))) (sym e) even, changed_more d (λ q. omega (arith, ap (times q) e)))

      over : IsOver ns i l n → (u : Shape K V) × Under ms z u × IsEven l x sk sv r u × Changed (λ q. times q l + is_at x q + times q r) ns ms
      over o = twice o (is_fork o.r o.node.right (omega (arith, more, right o.r o.node.right)))

  pub stack_left_side : {hl hr z : ℕ} {sk : K} {sv : V} {ms : List (Node K V)} → AreNear ns i l x j r → height l ≡ height r + 2 → slice_get ns i ≡ Some n → hr ≤ hl → ((t : Shape K V) → Under ns n.left t → hl ≡ height t) → ((t : Shape K V) → Under ns n.right t → hr ≡ height t)
      → ((p a q : Shape K V) → AreThree ns n.left p i n.right a x j q → Under ms z (Fork i p n.key n.value (Fork x a sk sv q)))
      → Changed (λ q. is_at i q + is_at x q) ns ms → (u : Shape K V) × Under ms z u × IsEven l x sk sv r u × Changed (λ q. times q l + is_at x q + times q r) ns ms
  stack_left_side {hl} {hr} {z} {sk} {sv} {ms} near high there less left right run d = over (forked l near.sides.left there)
    where
      over : IsOver ns i l n → (u : Shape K V) × Under ms z u × IsEven l x sk sv r u × Changed (λ q. times q l + is_at x q + times q r) ns ms
      over o =
          let lower : height o.r ≤ height o.l = omega (arith, less, left o.l o.node.left, right o.r o.node.right) in
          let even = even_once i o.l n.key n.value o.r x sk sv r (subst IsBalanced o.is near.left_even) near.right_even (ap height (sym o.is) ∙ high) lower in
          (Fork i o.l n.key n.value (Fork x o.r sk sv r), run o.l o.r r (three_left near.sides there o), subst (λ t. IsEven t x sk sv r (Fork i o.l n.key n.value (Fork x o.r sk sv r))) (sym o.is) even, changed_more d (λ q. omega (arith, ap (times q) o.is)))

module _ {K V : Type 0} {ns : List (Node K V)} {i j x : ℕ} {n : Node K V} {l r : Shape K V} where
  -- ---- the right one of two sides is higher by two

  pub may_spread_right : {hl hr : ℕ} → AreNear ns i l x j r → height r ≡ height l + 2 → slice_get ns j ≡ Some n → hr < hl → ((t : Shape K V) → Under ns n.left t → hl ≡ height t) → ((t : Shape K V) → Under ns n.right t → hr ≡ height t)
      → (p : Shape K V) × (a : Shape K V) × (k : K) × (v : V) × (b : Shape K V) × (q : Shape K V) × AreThree ns i p x n.left (Fork n.left a k v b) j n.right q
  may_spread_right {hl} {hr} near high there more left right = over (forked r near.sides.right there)
    where
      twice : (o : IsOver ns j r n) → IsFork n.left o.l → (p : Shape K V) × (a : Shape K V) × (k : K) × (v : V) × (b : Shape K V) × (q : Shape K V) × AreThree ns i p x n.left (Fork n.left a k v b) j n.right q
      twice o f = (l, f.l, f.k, f.v, f.r, o.r, three_fork (three_right near.sides there o) f.is)

      over : IsOver ns j r n → (p : Shape K V) × (a : Shape K V) × (k : K) × (v : V) × (b : Shape K V) × (q : Shape K V) × AreThree ns i p x n.left (Fork n.left a k v b) j n.right q
      over o = twice o (is_fork o.l o.node.left (omega (arith, more, left o.l o.node.left)))

  pub may_stack_right : AreNear ns i l x j r → slice_get ns j ≡ Some n → (p : Shape K V) × (a : Shape K V) × (q : Shape K V) × AreThree ns i p x n.left a j n.right q
  may_stack_right near there = over (forked r near.sides.right there)
    where
      over : IsOver ns j r n → (p : Shape K V) × (a : Shape K V) × (q : Shape K V) × AreThree ns i p x n.left a j n.right q
      over o = (l, o.l, o.r, three_right near.sides there o)

  pub spread_right_side : {hl hr z : ℕ} {sk : K} {sv : V} {ms : List (Node K V)} → AreNear ns i l x j r → height r ≡ height l + 2 → slice_get ns j ≡ Some n → hr < hl → ((t : Shape K V) → Under ns n.left t → hl ≡ height t) → ((t : Shape K V) → Under ns n.right t → hr ≡ height t)
      → ((p a b q : Shape K V) (k : K) (v : V) → AreThree ns i p x n.left (Fork n.left a k v b) j n.right q → Under ms z (Fork n.left (Fork x p sk sv a) k v (Fork j b n.key n.value q)))
      → Changed (λ q. is_at x q + is_at n.left q + is_at j q) ns ms → (u : Shape K V) × Under ms z u × IsEven l x sk sv r u × Changed (λ q. times q l + is_at x q + times q r) ns ms
  spread_right_side {hl} {hr} {z} {sk} {sv} {ms} near high there more left right run d = over (forked r near.sides.right there)
    where
      twice : (o : IsOver ns j r n) → IsFork n.left o.l → (u : Shape K V) × Under ms z u × IsEven l x sk sv r u × Changed (λ q. times q l + is_at x q + times q r) ns ms
      twice o f =
          let e : r ≡ Fork j (Fork n.left f.l f.k f.v f.r) n.key n.value o.r = o.is ∙ ap (λ t. Fork j t n.key n.value o.r) f.is in
          let lower : height o.r < height (Fork n.left f.l f.k f.v f.r) = omega (arith, more, left o.l o.node.left, right o.r o.node.right, ap height f.is) in
          let even = even_twice_back j n.left f.l f.k f.v f.r n.key n.value o.r x sk sv l near.left_even (subst IsBalanced e near.right_even) (ap height (sym e) ∙ high) lower in
          (Fork n.left (Fork x l sk sv f.l) f.k f.v (Fork j f.r n.key n.value o.r), run l f.l f.r o.r f.k f.v (three_fork (three_right near.sides there o) f.is), subst (λ t. IsEven l x sk sv t (Fork n.left (Fork x l sk sv f.l) f.k f.v (Fork j f.r n.key n.value o.r))) (sym e) even, changed_more d (λ q. omega (arith, ap (times q) e)))

      over : IsOver ns j r n → (u : Shape K V) × Under ms z u × IsEven l x sk sv r u × Changed (λ q. times q l + is_at x q + times q r) ns ms
      over o = twice o (is_fork o.l o.node.left (omega (arith, more, left o.l o.node.left)))

  pub stack_right_side : {hl hr z : ℕ} {sk : K} {sv : V} {ms : List (Node K V)} → AreNear ns i l x j r → height r ≡ height l + 2 → slice_get ns j ≡ Some n → hl ≤ hr → ((t : Shape K V) → Under ns n.left t → hl ≡ height t) → ((t : Shape K V) → Under ns n.right t → hr ≡ height t)
      → ((p a q : Shape K V) → AreThree ns i p x n.left a j n.right q → Under ms z (Fork j (Fork x p sk sv a) n.key n.value q))
      → Changed (λ q. is_at x q + is_at j q) ns ms → (u : Shape K V) × Under ms z u × IsEven l x sk sv r u × Changed (λ q. times q l + is_at x q + times q r) ns ms
  stack_right_side {hl} {hr} {z} {sk} {sv} {ms} near high there less left right run d = over (forked r near.sides.right there)
    where
      over : IsOver ns j r n → (u : Shape K V) × Under ms z u × IsEven l x sk sv r u × Changed (λ q. times q l + is_at x q + times q r) ns ms
      over o =
          let lower : height o.l ≤ height o.r = omega (arith, less, left o.l o.node.left, right o.r o.node.right) in
          let even = even_back j o.l n.key n.value o.r x sk sv l near.left_even (subst IsBalanced o.is near.right_even) (ap height (sym o.is) ∙ high) lower in
          (Fork j (Fork x l sk sv o.l) n.key n.value o.r, run l o.l o.r (three_right near.sides there o), subst (λ t. IsEven l x sk sv t (Fork j (Fork x l sk sv o.l) n.key n.value o.r)) (sym o.is) even, changed_more d (λ q. omega (arith, ap (times q) o.is)))

module _ {K V : Type 0} {ns : List (Node K V)} {i j x : ℕ} {l r : Shape K V} where
  -- ---- two sides that differ by at most one in height

  pub left_low : {h : ℕ} → AreSides ns i l x j r → ((t : Shape K V) → Under ns i t → h ≡ height t) → h + 1 < 2 ^ 32
  left_low s high = omega (arith, high l s.left, height-le l, s.small)

  pub right_low : {h : ℕ} → AreSides ns i l x j r → ((t : Shape K V) → Under ns j t → h ≡ height t) → h + 1 < 2 ^ 32
  right_low s high = omega (arith, high r s.right, height-le r, s.small)

  pub left_by_two : {hl hr : ℕ} → AreNear ns i l x j r → ((t : Shape K V) → Under ns i t → hl ≡ height t) → ((t : Shape K V) → Under ns j t → hr ≡ height t) → hr + 1 < hl → height l ≡ height r + 2
  left_by_two near left right more = omega (arith, more, left l near.sides.left, right r near.sides.right, near.left_near)

  pub right_by_two : {hl hr : ℕ} → AreNear ns i l x j r → ((t : Shape K V) → Under ns i t → hl ≡ height t) → ((t : Shape K V) → Under ns j t → hr ≡ height t) → hl + 1 < hr → height r ≡ height l + 2
  right_by_two near left right more = omega (arith, more, left l near.sides.left, right r near.sides.right, near.right_near)

  pub close_near : {hl hr z : ℕ} {k : K} {v : V} {ms : List (Node K V)} → AreNear ns i l x j r → ((t : Shape K V) → Under ns i t → hl ≡ height t) → ((t : Shape K V) → Under ns j t → hr ≡ height t) → hl ≤ hr + 1 → hr ≤ hl + 1
      → ((p q : Shape K V) → AreSides ns i p x j q → Under ms z (Fork x p k v q)) → Changed (is_at x) ns ms
      → (u : Shape K V) × Under ms z u × IsEven l x k v r u × Changed (λ q. times q l + is_at x q + times q r) ns ms
  close_near {k = k} {v = v} near left right low_left low_right close d =
      let a : height l ≤ height r + 1 = omega (arith, low_left, left l near.sides.left, right r near.sides.right) in
      let b : height r ≤ height l + 1 = omega (arith, low_right, left l near.sides.left, right r near.sides.right) in
      (Fork x l k v r, close l r near.sides, even_as_is x l k v r near.left_even near.right_even a b, changed_more d (λ q. omega arith))
