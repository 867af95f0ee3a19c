-- A rising list at one of its entries, and what the words on entries say there.
use Rattle.std.proofs.Common.{◌≡◌, ◌<◌, List, ◌∷◌, ◌++◌, length, length-append, arith, Some, None, ℕ, refl, sym, ap, ◌∙◌, subst, cond}
use Rattle.std.specs.declared.cmp.Ordering.{Ordering}
use Rattle.std.specs.declared.cmp.Ordering.TheVariants.{Less, Equal, Greater}
use Rattle.std.specs.Ordering.{is_lt, is_eq}
use Rattle.std.specs.Cmp.{IsTotalOrder, tied_back}
use Rattle.std.specs.FinMap.{find, put}
use Rattle.std.specs.FinMap.Entries.{by_order}
use Rattle.room_map.specs.declared.nodes.Node.{Node}
use Rattle.room_map.specs.Shape.{Shape, entries}
use Rattle.room_map.proofs.Held.{IsOver}
use Rattle.room_map.specs.Entries.{AllAbove, IsRising, without, first_not_below}
use Rattle.room_map.proofs.Rising.{AllBelow, turned, turned_back, above_from, above_at, find-append, put-append, without-append, first-append, find-append_above, without-append_above, put-append_above, first-append_some, first-append_none, rising_front, rising_back, all_below, below_more, below_tied, without-above}

-- d has l, then e, then r, and rises
pub record IsCut {K V : Type 0} (R : K → K → Ordering) (d l : List (K × V)) (e : K × V) (r : List (K × V)) : Type 0 where
  pub is : d ≡ l ++ e ∷ r
  pub rises : IsRising R (l ++ e ∷ r)

pub cut_over : {K V : Type 0} (R : K → K → Ordering) {ns : List (Node K V)} {i : ℕ} {t : Shape K V} {n : Node K V} (o : IsOver ns i t n)
    → IsRising R (entries t) → IsCut R (entries t) (entries o.l) (n.key, n.value) (entries o.r)
cut_over R {t = t} {n = n} o rises = record { is = ap entries o.is; rises = subst (λ t. IsRising R (entries t)) o.is rises }

not_less : {X : Type 0} (w : Ordering) (a b : X) → (w ≡ Less → ⊥) → cond (is_lt w) a b ≡ b
not_less Less a b h = absurd (h refl)
not_less Equal a b h = refl
not_less Greater a b h = refl

-- a key that is neither below nor there is above
pub greater_left : (w : Ordering) → (w ≡ Less → ⊥) → (w ≡ Equal → ⊥) → w ≡ Greater
greater_left Less less equal = absurd (less refl)
greater_left Equal less equal = absurd (equal refl)
greater_left Greater less equal = refl

module _ {K V : Type 0} {R : K → K → Ordering} where
  pub left_shorter : {d l r : List (K × V)} {e : K × V} → IsCut R d l e r → length l < length d
  left_shorter {d} {l} {r} {e} c = omega (arith, ap length c.is, length-append l (e ∷ r))

  pub right_shorter : {d l r : List (K × V)} {e : K × V} → IsCut R d l e r → length r < length d
  right_shorter {d} {l} {r} {e} c = omega (arith, ap length c.is, length-append l (e ∷ r))

module _ {K V : Type 0} {R : K → K → Ordering} (o : IsTotalOrder R) where
  pub left_rises : {d l r : List (K × V)} {e : K × V} → IsCut R d l e r → IsRising R l
  left_rises {d} {l} {r} {e} c = rising_front o l (e ∷ r) c.rises

  pub right_rises : {d l r : List (K × V)} {e : K × V} → IsCut R d l e r → IsRising R r
  right_rises {d} {l} {r} {e} c = (rising_back o l e r c.rises).1

  above : {d l r : List (K × V)} {e : K × V} (k : K) → IsCut R d l e r → R k e.0 ≡ Less → AllAbove R k (e ∷ r)
  above {d} {l} {r} {e} k c h = above_from o k e r h (rising_back o l e r c.rises).0

  below : {d l r : List (K × V)} {e : K × V} (k : K) → IsCut R d l e r → R k e.0 ≡ Greater → AllBelow R k l
  below {d} {l} {r} {e} k c h = below_more o e.0 k l (turned_back o k e.0 h) (all_below o l e r c.rises)

  below_here : {d l r : List (K × V)} {e : K × V} (k : K) → IsCut R d l e r → R k e.0 ≡ Equal → AllBelow R k l
  below_here {d} {l} {r} {e} k c h = below_tied o e.0 k l (tied_back o k e.0 h) (all_below o l e r c.rises)

  pub find_left : {d l r : List (K × V)} {e : K × V} (k : K) → IsCut R d l e r → R k e.0 ≡ Less → find R k d ≡ find R k l
  find_left {d} {l} {r} {e} k c h = ap (find R k) c.is ∙ find-append_above o k l (e ∷ r) (above k c h)

  pub find_right : {d l r : List (K × V)} {e : K × V} (k : K) → IsCut R d l e r → R k e.0 ≡ Greater → find R k d ≡ find R k r
  find_right {d} {l} {r} {e} k c h = ap (find R k) c.is ∙ find-append o k l (e ∷ r) (below k c h) ∙ ap (λ w. cond (is_eq w) (Some e.1) (find R k r)) h

  pub find_here : {d l r : List (K × V)} {e : K × V} (k : K) → IsCut R d l e r → R k e.0 ≡ Equal → find R k d ≡ Some e.1
  find_here {d} {l} {r} {e} k c h = ap (find R k) c.is ∙ find-append o k l (e ∷ r) (below_here k c h) ∙ ap (λ w. cond (is_eq w) (Some e.1) (find R k r)) h

  pub put_left : {d l r : List (K × V)} {e : K × V} (k : K) (v : V) → IsCut R d l e r → R k e.0 ≡ Less → put R k v d ≡ put R k v l ++ e ∷ r
  put_left {d} {l} {r} {e} k v c h = ap (put R k v) c.is ∙ put-append_above o k v l e r h

  pub put_right : {d l r : List (K × V)} {e : K × V} (k : K) (v : V) → IsCut R d l e r → R k e.0 ≡ Greater → put R k v d ≡ l ++ e ∷ put R k v r
  put_right {d} {l} {r} {e} k v c h = ap (put R k v) c.is ∙ put-append o k v l (e ∷ r) (below k c h)
      ∙ ap (λ w. l ++ by_order w ((k, v) ∷ e ∷ r) ((e.0, v) ∷ r) (e ∷ put R k v r)) h

  pub put_here : {d l r : List (K × V)} {e : K × V} (k : K) (v : V) → IsCut R d l e r → R k e.0 ≡ Equal → put R k v d ≡ l ++ (e.0, v) ∷ r
  put_here {d} {l} {r} {e} k v c h = ap (put R k v) c.is ∙ put-append o k v l (e ∷ r) (below_here k c h)
      ∙ ap (λ w. l ++ by_order w ((k, v) ∷ e ∷ r) ((e.0, v) ∷ r) (e ∷ put R k v r)) h

  pub without_left : {d l r : List (K × V)} {e : K × V} (k : K) → IsCut R d l e r → R k e.0 ≡ Less → without R k d ≡ without R k l ++ e ∷ r
  without_left {d} {l} {r} {e} k c h = ap (without R k) c.is ∙ without-append_above o k l (e ∷ r) (above k c h)

  pub without_right : {d l r : List (K × V)} {e : K × V} (k : K) → IsCut R d l e r → R k e.0 ≡ Greater → without R k d ≡ l ++ e ∷ without R k r
  without_right {d} {l} {r} {e} k c h = ap (without R k) c.is ∙ without-append o k l (e ∷ r) (below k c h)
      ∙ ap (λ w. l ++ cond (is_eq w) (without R k r) (e ∷ without R k r)) h

  pub without_here : {d l r : List (K × V)} {e : K × V} (k : K) → IsCut R d l e r → R k e.0 ≡ Equal → without R k d ≡ l ++ r
  without_here {d} {l} {r} {e} k c h = ap (without R k) c.is ∙ without-append o k l (e ∷ r) (below_here k c h)
      ∙ ap (λ w. l ++ cond (is_eq w) (without R k r) (e ∷ without R k r)) h
      ∙ ap (λ s. l ++ s) (without-above o k r (above_at o k e r h (rising_back o l e r c.rises).0))

  pub first_right : {d l r : List (K × V)} {e : K × V} (k : K) → IsCut R d l e r → R e.0 k ≡ Less → first_not_below R k d ≡ first_not_below R k r
  first_right {d} {l} {r} {e} k c h = ap (first_not_below R k) c.is ∙ first-append o k l (e ∷ r) (below k c (turned o e.0 k h))
      ∙ ap (λ w. cond (is_lt w) (first_not_below R k r) (Some e)) h

  pub first_left : {d l r : List (K × V)} {e : K × V} (k : K) (x : K × V) → IsCut R d l e r → first_not_below R k l ≡ Some x → first_not_below R k d ≡ Some x
  first_left {d} {l} {r} {e} k x c h = ap (first_not_below R k) c.is ∙ first-append_some o k l (e ∷ r) x h

  pub first_here : {d l r : List (K × V)} {e : K × V} (k : K) → IsCut R d l e r → (R e.0 k ≡ Less → ⊥) → first_not_below R k l ≡ None → first_not_below R k d ≡ Some e
  first_here {d} {l} {r} {e} k c h none = ap (first_not_below R k) c.is ∙ first-append_none o k l (e ∷ r) none ∙ not_less (R e.0 k) (first_not_below R k r) (Some e) h

  pub absent_above : {d l r : List (K × V)} {e : K × V} (k : K) → IsCut R d l e r → find R k d ≡ None → (R k e.0 ≡ Less → ⊥) → R k e.0 ≡ Greater
  absent_above {d} {l} {r} {e} k c none less = greater_left (R k e.0) less (λ h. no_some (sym (find_here k c h) ∙ none))
    where
      no_some : Some e.1 ≡ None → ⊥
      no_some h = cc
