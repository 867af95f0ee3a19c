-- How high trees are that were turned, and that they are balanced.
use Rattle.std.proofs.Common.{◌≡◌, ℕ, ◌+◌, ◌<◌, ◌≤◌, ◌∷◌, append_assoc, refl, sym, arith}
use Rattle.std.specs.Prelude.{max}
use Rattle.room_map.specs.Shape.{Shape, Fork, entries, height, IsBalanced}
use Rattle.room_map.specs.Nodes.{IsHighOver, IsEven}
use Rattle.room_map.proofs.Sizes.{is_max}

-- one turn: the higher side of the higher side stays outside
record TurnedOnce (a b r : ℕ) : Type 0 where
  near : b ≤ r + 1
  near_back : r ≤ b + 1
  up : a ≤ max b r + 1 + 1
  down : max b r + 1 ≤ a + 1
  high : IsHighOver (max a b + 1) r (max a (max b r + 1) + 1)

turned_once : (a b r : ℕ) → max a b + 1 ≡ r + 2 → a ≤ b + 1 → b ≤ a → TurnedOnce a b r
turned_once a b r e near le =
    let m = is_max a b in
    let at : a ≡ r + 1 = omega arith in
    let n = is_max b r in
    let bt : max b r ≡ b = omega arith in
    let o = is_max a (max b r + 1) in
    let ot : max a (max b r + 1) ≡ b + 1 = omega arith in
    let w = is_max (max a b + 1) r in
    record {
      near = omega arith;
      near_back = omega arith;
      up = omega arith;
      down = omega arith;
      high = record { left = omega arith; right = omega arith; low = omega arith; as_high = λ h g. absurd (omega arith) };
    }

record TurnedBack (l b c : ℕ) : Type 0 where
  near : l ≤ b + 1
  near_back : b ≤ l + 1
  up : c ≤ max l b + 1 + 1
  down : max l b + 1 ≤ c + 1
  high : IsHighOver l (max b c + 1) (max (max l b + 1) c + 1)

turned_back : (l b c : ℕ) → max b c + 1 ≡ l + 2 → c ≤ b + 1 → b ≤ c → TurnedBack l b c
turned_back l b c e near le =
    let m = is_max b c in
    let ct : c ≡ l + 1 = omega arith in
    let n = is_max l b in
    let bt : max l b ≡ b = omega arith in
    let o = is_max (max l b + 1) c in
    let ot : max (max l b + 1) c ≡ b + 1 = omega arith in
    let w = is_max l (max b c + 1) in
    record {
      near = omega arith;
      near_back = omega arith;
      up = omega arith;
      down = omega arith;
      high = record { left = omega arith; right = omega arith; low = omega arith; as_high = λ h g. absurd (omega arith) };
    }

-- two turns: four sides of nearly the same height
record Spread (p b c q n : ℕ) : Type 0 where
  left : max p b + 1 ≡ n + 1
  right : max c q + 1 ≡ n + 1
  all : max (max p b + 1) (max c q + 1) + 1 ≡ n + 2

spread : (p b c q n : ℕ) → p ≡ n → q ≡ n → b ≤ n → c ≤ n → Spread p b c q n
spread p b c q n e f g h =
    let m = is_max p b in
    let o = is_max c q in
    let mt : max p b ≡ n = omega arith in
    let ot : max c q ≡ n = omega arith in
    let w = is_max (max p b + 1) (max c q + 1) in
    record { left = omega arith; right = omega arith; all = omega arith }

module _ {K V : Type 0} where
  pub even_once : (i : ℕ) (a : Shape K V) (kx : K) (vx : V) (b : Shape K V) (x : ℕ) (k : K) (v : V) (r : Shape K V) → IsBalanced (Fork i a kx vx b) → IsBalanced r → height (Fork i a kx vx b) ≡ height r + 2 → height b ≤ height a
      → IsEven (Fork i a kx vx b) x k v r (Fork i a kx vx (Fork x b k v r))
  even_once i a kx vx b x k v r l_even r_even e le =
      let t = turned_once (height a) (height b) (height r) e l_even.2 le in
      record {
        has = sym (append_assoc (entries a) ((kx, vx) ∷ entries b) ((k, v) ∷ entries r));
        places = λ q. omega arith;
        balanced = (l_even.0, (l_even.1, r_even, t.near, t.near_back), t.up, t.down);
        high = t.high;
      }

  pub even_back : (j : ℕ) (b : Shape K V) (ky : K) (vy : V) (c : Shape K V) (x : ℕ) (k : K) (v : V) (l : Shape K V) → IsBalanced l → IsBalanced (Fork j b ky vy c) → height (Fork j b ky vy c) ≡ height l + 2 → height b ≤ height c
      → IsEven l x k v (Fork j b ky vy c) (Fork j (Fork x l k v b) ky vy c)
  even_back j b ky vy c x k v l l_even r_even e le =
      let t = turned_back (height l) (height b) (height c) e r_even.3 le in
      record {
        has = append_assoc (entries l) ((k, v) ∷ entries b) ((ky, vy) ∷ entries c);
        places = λ q. omega arith;
        balanced = ((l_even, r_even.0, t.near, t.near_back), r_even.1, t.down, t.up);
        high = t.high;
      }

  pub even_twice : (i : ℕ) (a : Shape K V) (kx : K) (vx : V) (m : ℕ) (b : Shape K V) (km : K) (vm : V) (c : Shape K V) (x : ℕ) (k : K) (v : V) (r : Shape K V)
      → IsBalanced (Fork i a kx vx (Fork m b km vm c)) → IsBalanced r → height (Fork i a kx vx (Fork m b km vm c)) ≡ height r + 2 → height a < height (Fork m b km vm c)
      → IsEven (Fork i a kx vx (Fork m b km vm c)) x k v r (Fork m (Fork i a kx vx b) km vm (Fork x c k v r))
  even_twice i a kx vx m b km vm c x k v r l_even r_even e lt =
      let bc = is_max (height b) (height c) in
      let up = is_max (height a) (max (height b) (height c) + 1) in
      let same : height a ≡ height r = omega (arith, l_even.2, l_even.3, e, lt) in
      let two : max (height b) (height c) ≡ height r = omega (arith, l_even.2, l_even.3, e, lt) in
      let t = spread (height a) (height b) (height c) (height r) (height r) same refl (omega arith) (omega arith) in
      let w = is_max (max (height a) (max (height b) (height c) + 1) + 1) (height r) in
      let bn = l_even.1.2 in
      let cn = l_even.1.3 in
      record {
        has = simp append_assoc;
        places = λ q. omega arith;
        balanced = ((l_even.0, l_even.1.0, omega arith, omega arith), (l_even.1.1, r_even, omega arith, omega arith), omega (arith, t.left, t.right), omega (arith, t.left, t.right));
        high = record { left = omega (arith, t.all); right = omega (arith, t.all); low = omega (arith, t.all); as_high = λ h g. absurd (omega arith) };
      }

  pub even_twice_back : (j m : ℕ) (b : Shape K V) (km : K) (vm : V) (c : Shape K V) (ky : K) (vy : V) (d : Shape K V) (x : ℕ) (k : K) (v : V) (l : Shape K V)
      → IsBalanced l → IsBalanced (Fork j (Fork m b km vm c) ky vy d) → height (Fork j (Fork m b km vm c) ky vy d) ≡ height l + 2 → height d < height (Fork m b km vm c)
      → IsEven l x k v (Fork j (Fork m b km vm c) ky vy d) (Fork m (Fork x l k v b) km vm (Fork j c ky vy d))
  even_twice_back j m b km vm c ky vy d x k v l l_even r_even e lt =
      let bc = is_max (height b) (height c) in
      let up = is_max (max (height b) (height c) + 1) (height d) in
      let same : height d ≡ height l = omega (arith, r_even.2, r_even.3, e, lt) in
      let two : max (height b) (height c) ≡ height l = omega (arith, r_even.2, r_even.3, e, lt) in
      let t = spread (height l) (height b) (height c) (height d) (height l) refl same (omega arith) (omega arith) in
      let w = is_max (height l) (max (max (height b) (height c) + 1) (height d) + 1) in
      let bn = r_even.0.2 in
      let cn = r_even.0.3 in
      record {
        has = simp append_assoc;
        places = λ q. omega arith;
        balanced = ((l_even, r_even.0.0, omega arith, omega arith), (r_even.0.1, r_even.1, omega arith, omega arith), omega (arith, t.left, t.right), omega (arith, t.left, t.right));
        high = record { left = omega (arith, t.all); right = omega (arith, t.all); low = omega (arith, t.all); as_high = λ h g. absurd (omega arith) };
      }

  -- ---- an entry over two sides that are near

  pub even_as_is : (x : ℕ) (l : Shape K V) (k : K) (v : V) (r : Shape K V) → IsBalanced l → IsBalanced r → height l ≤ height r + 1 → height r ≤ height l + 1 → IsEven l x k v r (Fork x l k v r)
  even_as_is x l k v r l_even r_even near back =
      let m = is_max (height l) (height r) in
      record {
        has = refl;
        places = λ q. refl;
        balanced = (l_even, r_even, near, back);
        high = record { left = omega arith; right = omega arith; low = omega arith; as_high = λ h g. refl };
      }
