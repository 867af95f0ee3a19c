-- Places counted, and how high a tree is.
use Rattle.std.proofs.Common.{◌≡◌, ℕ, ◌+◌, ◌<◌, ◌≤◌, cond, ◌∷◌, length, length-append, ⊎_elim, refl, sym, ap, ◌∙◌, arith}
use Rattle.std.specs.Prelude.{max}
use Rattle.std.proofs.Math.Nat.{le-max_left, le-max_right, max-eq_left, max-eq_right}
use Rattle.std.proofs.lemmas.Bool.{eq-eqb}
use Rattle.std.proofs.lemmas.Bool.Decides.{eqb_tells}
use Rattle.room_map.specs.Shape.{Shape, Bare, Fork, is_at, entries, height}

pub at_itself : (i : ℕ) → is_at i i ≡ 1
unfolding is_at
at_itself i = ap (λ b. cond b 1 0) (eq-eqb i i refl)

pub at_other : (i k : ℕ) → (k ≡ i → ⊥) → is_at i k ≡ 0
unfolding is_at
at_other i k apart = ⊎_elim (λ t. absurd (apart (sym t.1))) (λ f. ap (λ b. cond b 1 0) f.0) (eqb_tells i k)

pub not_at : (i k : ℕ) → is_at i k ≡ 0 → k ≡ i → ⊥
not_at i k none same = absurd (omega (arith, at_itself i, ap (is_at i) same))

pub at_some : (i k : ℕ) → 0 < is_at i k → i ≡ k
at_some i k some = ⊎_elim (λ t. t.1) (λ f. absurd (omega (arith, some, at_other i k (λ e. f.1 (sym e))))) (eqb_tells i k)

-- what `max` is
pub record IsMax (a b m : ℕ) : Type 0 where
  pub left : a ≤ m
  pub right : b ≤ m
  pub to_right : a ≤ b → m ≡ b
  pub to_left : b ≤ a → m ≡ a

pub is_max : (a b : ℕ) → IsMax a b (max a b)
is_max a b = record { left = le-max_left a b; right = le-max_right a b; to_right = λ h. max-eq_right h; to_left = λ h. max-eq_left h }

pub max_below : (a b : ℕ) → max a b ≤ a + b
max_below a b = let m = is_max a b in omega arith

module _ {K V : Type 0} where
  pub height-le : (t : Shape K V) → height t ≤ length (entries t)
  height-le Bare = omega arith
  height-le (Fork i l k v r) =
      let m = is_max (height l) (height r) in
      let a : height l ≤ length (entries l) = height-le l in
      let b : height r ≤ length (entries r) = height-le r in
      let s : length (entries (Fork i l k v r)) ≡ length (entries l) + (1 + length (entries r)) = length-append (entries l) ((k, v) ∷ entries r) ∙ ap (λ n. length (entries l) + n) (omega arith) in
      omega arith
