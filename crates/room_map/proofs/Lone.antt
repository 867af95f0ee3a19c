-- The only entry of a tree leaves it.
use Rattle.std.proofs.Common.{◌≡◌, ℕ, Bool, true, false, cond, List, [], ◌∷◌, length, Some, None, refl, sym, ap, arith, true≢false}
use Rattle.std.specs.Prelude.{is_some}
use Rattle.std.specs.declared.cmp.Ordering.{Ordering}
use Rattle.std.specs.Ordering.{is_eq}
use Rattle.room_map.specs.declared.nodes.Node.{Node}
use Rattle.room_map.specs.Shape.{Shape, Bare, Fork, is_at, entries, times}
use Rattle.room_map.specs.Nodes.{Under, Changed, CanLeave, HasLeft}
use Rattle.room_map.proofs.Sizes.{is_max}
use Rattle.room_map.proofs.Held.{unchanged, length-fork}

gone : {K V : Type 0} (k : K) (v : V) (b : Bool) → is_some (cond b (Some v) None) ≡ true → ◌≡◌ {A = List (K × V)} [] (cond b [] ((k, v) ∷ []))
gone k v true there = refl
gone k v false there = absurd (true≢false (sym there))

module _ {K V : Type 0} {R : K → K → Ordering} {ns : List (Node K V)} {i : ℕ} {key : K} where
  over_none : (j : ℕ) (k : K) (v : V) → CanLeave R ns i key (Fork j Bare k v Bare)
      → (u : Shape K V) × Under ns 4294967295 u × HasLeft R (Fork j Bare k v Bare) key i u × Changed (λ q. times q (Fork j Bare k v Bare)) ns ns
  over_none j k v e = (
    Bare,
    record { is_top = refl; held = tt; few = e.has_key.under.few },
    record {
      has = gone k v (is_eq (R key k)) e.has_key.present;
      places = λ q. omega (arith, ap (λ x. is_at x q) e.has_key.under.is_top);
      balanced = tt;
      low = omega arith;
      high = omega (arith, (is_max 0 0).to_right (omega arith));
    },
    unchanged,
  )

  pub lone_leaves : (t : Shape K V) → CanLeave R ns i key t → length (entries t) ≡ 1
      → (u : Shape K V) × Under ns 4294967295 u × HasLeft R t key i u × Changed (λ q. times q t) ns ns
  lone_leaves Bare e one = absurd (omega (arith, one))
  lone_leaves (Fork j Bare k v Bare) e one = over_none j k v e
  lone_leaves (Fork j Bare k v (Fork a l x y r)) e one =
      absurd (omega (arith, one, length-fork j Bare k v (Fork a l x y r), length-fork a l x y r))
  lone_leaves (Fork j (Fork a l x y r) k v b) e one =
      absurd (omega (arith, one, length-fork j (Fork a l x y r) k v b, length-fork a l x y r))
