-- A balanced tree is low.
use Rattle.std.proofs.Common.{◌≡◌, ℕ, zero, suc, ◌+◌, ◌*◌, ◌^◌, ◌<◌, ◌≤◌, ⊎_elim, length, refl, ap, ◌∙◌, subst, arith}
use Rattle.std.specs.Prelude.{max}
use Rattle.std.proofs.Math.Nat.{mul-add, add-mul, pow-suc, pow-zero, pow-le-pow_right, mul-le-mul}
use Rattle.std.proofs.lemmas.Bool.{cases_lt}
use Rattle.room_map.specs.Shape.{Shape, Bare, Fork, entries, height, IsBalanced}
use Rattle.room_map.proofs.Sizes.{is_max}
use Rattle.room_map.proofs.Held.{length-fork}

square : (a : ℕ) → a ^ 2 ≡ a * a
square a = pow-suc a 1 ∙ ap (λ x. x * a) (pow-suc a 0 ∙ ap (λ x. x * a) (pow-zero a) ∙ omega arith)

-- the square of a sum of two, each of which has a square of at least p
four : (a b p : ℕ) → p ≤ a * a → p ≤ b * b → 4 * p ≤ (a + b) * (a + b)
four a b p l r =
    let wide : (a + b) * (a + b) ≡ (a * a + b * a) + (a * b + b * b) = mul-add (a + b) a b ∙ (λ i. add-mul a b a i + add-mul a b b i) in
    ⊎_elim
    (λ (h : a < b). let one : a * a ≤ b * a = mul-le-mul (omega arith) (omega arith) in let two : a * a ≤ a * b = mul-le-mul (omega arith) (omega arith) in omega (arith, wide))
    (λ (h : b ≤ a). let one : b * b ≤ b * a = mul-le-mul (omega arith) (omega arith) in let two : b * b ≤ a * b = mul-le-mul (omega arith) (omega arith) in omega (arith, wide))
    (cases_lt a b)

power_up : (m : ℕ) → 2 ^ suc (suc m) ≡ 4 * 2 ^ m
power_up m = omega (arith, pow-suc 2 (suc m), pow-suc 2 m)

-- one node more over two sides, of which none is lower than m
step : (m a b : ℕ) (x y : ℕ) → m ≤ x → m ≤ y → 2 ^ x ≤ a * a → 2 ^ y ≤ b * b → 2 ^ suc (suc m) ≤ (a + b) * (a + b)
step m a b x y h g l r =
    let two : 0 < 2 = omega arith in
    let px : 2 ^ m ≤ 2 ^ x = pow-le-pow_right two h in
    let py : 2 ^ m ≤ 2 ^ y = pow-le-pow_right two g in
    let f = four a b (2 ^ m) (omega arith) (omega arith) in
    omega (arith, power_up m, f)

high : (n : ℕ) (a b x y : ℕ) → n ≡ max x y → x ≤ y + 1 → y ≤ x + 1 → 1 ≤ a → 1 ≤ b → 2 ^ x ≤ a * a → 2 ^ y ≤ b * b → 2 ^ suc n ≤ (a + b) * (a + b)
high zero a b x y e near back la lb l r =
    let f = four a b 1 (mul-le-mul la la) (mul-le-mul lb lb) in
    omega (arith, f)
high (suc m) a b x y e near back la lb l r =
    let w = is_max x y in
    step m a b x y (omega arith) (omega arith) l r

module _ {K V : Type 0} where
  low : (t : Shape K V) → IsBalanced t → 2 ^ height t ≤ (length (entries t) + 1) * (length (entries t) + 1)
  low Bare even = omega arith
  low (Fork i l k v r) even =
      let a = length (entries l) + 1 in
      let b = length (entries r) + 1 in
      let h = high (max (height l) (height r)) a b (height l) (height r) refl even.2 even.3 (omega arith) (omega arith) (low l even.0) (low r even.1) in
      let up : suc (max (height l) (height r)) ≡ max (height l) (height r) + 1 = omega arith in
      let n : a + b ≡ length (entries (Fork i l k v r)) + 1 = omega (arith, length-fork i l k v r) in
      subst (λ x. 2 ^ (max (height l) (height r) + 1) ≤ x * x) n (subst (λ x. 2 ^ x ≤ (a + b) * (a + b)) up h)

  -- twice as many nodes let the longest way grow by two at most
  pub shallow : (t : Shape K V) → IsBalanced t → 2 ^ height t ≤ (length (entries t) + 1) ^ 2
  shallow t even = rw (square (length (entries t) + 1)) (low t even)
