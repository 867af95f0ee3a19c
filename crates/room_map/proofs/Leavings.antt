-- What is left of a tree that an entry leaves, and of one where a value is put anew.
use Rattle.std.proofs.Common.{◌≡◌, ℕ, ◌+◌, ◌≤◌, true, false, List, ◌∷◌, ◌++◌, length, Some, refl, sym, ap, ◌∙◌, arith, append-nil}
use Rattle.std.specs.Prelude.{slice_get, max, is_some}
use Rattle.std.proofs.lemmas.Option.{slice_get_within}
use Rattle.std.specs.declared.cmp.Ordering.{Ordering}
use Rattle.std.specs.declared.cmp.Ordering.TheVariants.{Less, Equal, Greater}
use Rattle.std.specs.Cmp.{IsTotalOrder}
use Rattle.std.specs.FinMap.{find}
use Rattle.room_map.specs.declared.nodes.Node.{Node}
use Rattle.room_map.specs.Shape.{Shape, Bare, Fork, is_at, entries, height, times}
use Rattle.room_map.specs.Nodes.{top, Under, Changed, AreNear, IsEven, CanSplit, IsSplit, CanJoin, IsJoined, HasKey, HasValue, CanLeave, HasLeft}
use Rattle.room_map.proofs.Sizes.{is_max, at_itself}
use Rattle.room_map.proofs.Held.{IsOver, under_kept, length-fork, node_is, held_there}
use Rattle.room_map.proofs.Maps.{length-without}
use Rattle.room_map.proofs.Cuts.{cut_over, left_shorter, right_shorter, left_rises, right_rises, find_left, find_right, put_left, put_right, put_here, without_left, without_right, without_here}
use Rattle.room_map.proofs.Changes.{over_shrinks, over_shrinks_right, sides_even}

module _ {K V : Type 0} {ns : List (Node K V)} {i : ℕ} {n : Node K V} {t : Shape K V} where
  -- ---- the first entry taken out

  pub split_left : {below : Node K V} → CanSplit ns i n t → (o : IsOver ns i t n) → slice_get ns n.left ≡ Some below → CanSplit ns n.left below o.l
  split_left s o there = record {
    under = o.node.left;
    there = there;
    apart = λ q. omega (arith, s.apart q, ap (times q) o.is);
    small = omega (arith, s.small, ap (λ t. length (entries t)) o.is, length-fork i o.l n.key n.value o.r);
    balanced = (sides_even o s.balanced).left;
  }

  pub split_near : {ms : List (Node K V)} {j x : ℕ} {k : K} {v : V} {u : Shape K V} → CanSplit ns i n t → (o : IsOver ns i t n) → Under ms j u → IsSplit o.l x k v u → Changed (λ q. times q o.l) ns ms → AreNear ms j u i n.right o.r
  split_near s o under h d =
      let even = sides_even o s.balanced in
      record {
        sides = record {
          left = under;
          right = under_kept n.right o.r d (λ q. omega (arith, s.apart q, ap (times q) o.is)) o.node.right;
          there = omega (arith, slice_get_within ns i n s.there, d.long);
          apart = λ q. omega (arith, s.apart q, ap (times q) o.is, h.places q);
          small = omega (arith, s.small, ap length h.has, ap (λ t. length (entries t)) o.is, length-fork i o.l n.key n.value o.r);
        };
        left_even = h.balanced;
        right_even = even.right;
        left_near = omega (arith, h.low, even.near);
        right_near = omega (arith, h.high, even.back);
      }

  pub split_done : {x : ℕ} {k : K} {v : V} {u w : Shape K V} → CanSplit ns i n t → (o : IsOver ns i t n) → IsSplit o.l x k v u → IsEven u i n.key n.value o.r w → IsSplit t x k v w
  split_done {k = k} {v = v} {u = u} {w = w} s o h even =
      let b = sides_even o s.balanced in
      let g = over_shrinks (height o.l) (height o.r) (height u) (height w) b.near b.back h.low h.high even.high in
      record {
        has = ap entries o.is ∙ ap (λ es. es ++ (n.key, n.value) ∷ entries o.r) h.has ∙ ap (λ es. (k, v) ∷ es) (sym even.has);
        places = λ q. omega (arith, even.places q, h.places q, ap (times q) o.is);
        balanced = even.balanced;
        low = omega (arith, g.0, ap height o.is);
        high = omega (arith, g.1, ap height o.is);
      }

  pub split_here : CanSplit ns i n t → (o : IsOver ns i t n) → o.l ≡ Bare → IsSplit t i n.key n.value o.r
  split_here s o none =
      let b = sides_even o s.balanced in
      let m = is_max (height o.l) (height o.r) in
      record {
        has = ap entries o.is ∙ ap (λ l. entries l ++ (n.key, n.value) ∷ entries o.r) none;
        places = λ q. omega (arith, ap (times q) o.is, ap (times q) none);
        balanced = b.right;
        low = omega (arith, ap height o.is);
        high = omega (arith, ap height o.is, ap height none);
      }

module _ {K V : Type 0} {ns : List (Node K V)} {i j : ℕ} {l r : Shape K V} where
  -- ---- two sides joined

  pub join_split : {n : Node K V} → CanJoin ns i l j r → slice_get ns j ≡ Some n → CanSplit ns j n r
  join_split s there = record { under = s.right; there = there; apart = λ q. omega (arith, s.apart q); small = omega (arith, s.small); balanced = s.right_even }

  pub join_near : {ms : List (Node K V)} {m x : ℕ} {k : K} {v : V} {u : Shape K V} → CanJoin ns i l j r → Under ms m u → IsSplit r x k v u → Changed (λ q. times q r) ns ms → AreNear ms i l x m u
  join_near {ms} {m} {x} s under h d = record {
    sides = record {
      left = under_kept i l d (λ q. omega (arith, s.apart q)) s.left;
      right = under;
      there = omega (arith, held_there ns r x s.right.held (omega (arith, h.places x, at_itself x)), d.long);
      apart = λ q. omega (arith, s.apart q, h.places q);
      small = omega (arith, s.small, ap length h.has);
    };
    left_even = s.left_even;
    right_even = h.balanced;
    left_near = omega (arith, h.high, s.left_near);
    right_near = omega (arith, h.low, s.right_near);
  }

  pub join_done : {x : ℕ} {k : K} {v : V} {u w : Shape K V} → CanJoin ns i l j r → IsSplit r x k v u → IsEven l x k v u w → IsJoined l r w
  join_done {u = u} {w = w} s h even =
      let g = over_shrinks_right (height l) (height r) (height u) (height w) s.left_near s.right_near h.low h.high even.high in
      record {
        has = even.has ∙ ap (λ es. entries l ++ es) (sym h.has);
        places = λ q. omega (arith, even.places q, h.places q);
        balanced = even.balanced;
        low = g.0;
        high = omega (arith, g.1);
      }

  pub join_bare : CanJoin ns i l j r → r ≡ Bare → IsJoined l r l
  join_bare s none =
      let m = is_max (height l) (height r) in
      record {
        has = sym (append-nil (entries l)) ∙ ap (λ r. entries l ++ entries r) (sym none);
        places = λ q. omega (arith, ap (times q) none);
        balanced = s.left_even;
        low = omega arith;
        high = omega (arith, ap height none);
      }

module _ {K V : Type 0} {R : K → K → Ordering} (ord : IsTotalOrder R) {ns : List (Node K V)} {i : ℕ} {n : Node K V} {t : Shape K V} {key : K} where
  -- ---- a key that is there, on one side

  pub key_left : HasKey R ns i key t → (o : IsOver ns i t n) → R key n.key ≡ Less → HasKey R ns n.left key o.l
  key_left e o less =
      let cut = cut_over R o e.rises in
      record {
        under = o.node.left;
        apart = λ q. omega (arith, e.apart q, ap (times q) o.is);
        rises = left_rises ord cut;
        present = ap is_some (sym (find_left ord key cut less)) ∙ e.present;
      }

  pub key_right : HasKey R ns i key t → (o : IsOver ns i t n) → R key n.key ≡ Greater → HasKey R ns n.right key o.r
  key_right e o more =
      let cut = cut_over R o e.rises in
      record {
        under = o.node.right;
        apart = λ q. omega (arith, e.apart q, ap (times q) o.is);
        rises = right_rises ord cut;
        present = ap is_some (sym (find_right ord key cut more)) ∙ e.present;
      }

  -- ---- an entry less

  pub leave_left : CanLeave R ns i key t → (o : IsOver ns i t n) → R key n.key ≡ Less → CanLeave R ns n.left key o.l
  leave_left e o less =
      let cut = cut_over R o e.has_key.rises in
      record { has_key = key_left e.has_key o less; small = omega (arith, e.small, left_shorter cut); balanced = (sides_even o e.balanced).left }

  pub leave_right : CanLeave R ns i key t → (o : IsOver ns i t n) → R key n.key ≡ Greater → CanLeave R ns n.right key o.r
  leave_right e o more =
      let cut = cut_over R o e.has_key.rises in
      record { has_key = key_right e.has_key o more; small = omega (arith, e.small, right_shorter cut); balanced = (sides_even o e.balanced).right }

  pub leave_join : CanLeave R ns i key t → (o : IsOver ns i t n) → CanJoin ns n.left o.l n.right o.r
  leave_join e o =
      let b = sides_even o e.balanced in
      record {
        left = o.node.left;
        right = o.node.right;
        apart = λ q. omega (arith, e.has_key.apart q, ap (times q) o.is);
        small = omega (arith, e.small, ap (λ t. length (entries t)) o.is, length-fork i o.l n.key n.value o.r);
        left_even = b.left;
        right_even = b.right;
        left_near = b.near;
        right_near = b.back;
      }

  pub left_near_left : {j x : ℕ} {ms : List (Node K V)} {u : Shape K V} → CanLeave R ns i key t → slice_get ns i ≡ Some n → (o : IsOver ns i t n) → R key n.key ≡ Less
      → Under ms j u → HasLeft R o.l key x u → Changed (λ q. times q o.l) ns ms → AreNear ms j u i n.right o.r
  left_near_left {u = u} e there o less under h d =
      let inner = key_left e.has_key o less in
      let even = sides_even o e.balanced in
      let short : length (entries u) ≤ length (entries o.l) = omega (arith, ap length h.has, length-without ord key (entries o.l) inner.rises) in
      record {
        sides = record {
          left = under;
          right = under_kept n.right o.r d (λ q. omega (arith, e.has_key.apart q, ap (times q) o.is)) o.node.right;
          there = omega (arith, slice_get_within ns i n there, d.long);
          apart = λ q. omega (arith, e.has_key.apart q, ap (times q) o.is, h.places q);
          small = omega (arith, e.small, short, ap (λ t. length (entries t)) o.is, length-fork i o.l n.key n.value o.r);
        };
        left_even = h.balanced;
        right_even = even.right;
        left_near = omega (arith, h.low, even.near);
        right_near = omega (arith, h.high, even.back);
      }

  pub left_near_right : {j x : ℕ} {ms : List (Node K V)} {u : Shape K V} → CanLeave R ns i key t → slice_get ns i ≡ Some n → (o : IsOver ns i t n) → R key n.key ≡ Greater
      → Under ms j u → HasLeft R o.r key x u → Changed (λ q. times q o.r) ns ms → AreNear ms n.left o.l i j u
  left_near_right {u = u} e there o more under h d =
      let inner = key_right e.has_key o more in
      let even = sides_even o e.balanced in
      let short : length (entries u) ≤ length (entries o.r) = omega (arith, ap length h.has, length-without ord key (entries o.r) inner.rises) in
      record {
        sides = record {
          left = under_kept n.left o.l d (λ q. omega (arith, e.has_key.apart q, ap (times q) o.is)) o.node.left;
          right = under;
          there = omega (arith, slice_get_within ns i n there, d.long);
          apart = λ q. omega (arith, e.has_key.apart q, ap (times q) o.is, h.places q);
          small = omega (arith, e.small, short, ap (λ t. length (entries t)) o.is, length-fork i o.l n.key n.value o.r);
        };
        left_even = even.left;
        right_even = h.balanced;
        left_near = omega (arith, h.high, even.near);
        right_near = omega (arith, h.low, even.back);
      }

  pub left_left : {x : ℕ} {u w : Shape K V} → CanLeave R ns i key t → (o : IsOver ns i t n) → R key n.key ≡ Less → HasLeft R o.l key x u → IsEven u i n.key n.value o.r w → HasLeft R t key x w
  left_left {u = u} {w = w} e o less h even =
      let cut = cut_over R o e.has_key.rises in
      let b = sides_even o e.balanced in
      let g = over_shrinks (height o.l) (height o.r) (height u) (height w) b.near b.back h.low h.high even.high in
      record {
        has = even.has ∙ ap (λ es. es ++ (n.key, n.value) ∷ entries o.r) h.has ∙ sym (without_left ord key cut less);
        places = λ q. omega (arith, even.places q, h.places q, ap (times q) o.is);
        balanced = even.balanced;
        low = omega (arith, g.0, ap height o.is);
        high = omega (arith, g.1, ap height o.is);
      }

  pub left_right : {x : ℕ} {u w : Shape K V} → CanLeave R ns i key t → (o : IsOver ns i t n) → R key n.key ≡ Greater → HasLeft R o.r key x u → IsEven o.l i n.key n.value u w → HasLeft R t key x w
  left_right {u = u} {w = w} e o more h even =
      let cut = cut_over R o e.has_key.rises in
      let b = sides_even o e.balanced in
      let g = over_shrinks_right (height o.l) (height o.r) (height u) (height w) b.near b.back h.low h.high even.high in
      record {
        has = even.has ∙ ap (λ es. entries o.l ++ (n.key, n.value) ∷ es) h.has ∙ sym (without_right ord key cut more);
        places = λ q. omega (arith, even.places q, h.places q, ap (times q) o.is);
        balanced = even.balanced;
        low = omega (arith, g.0, ap height o.is);
        high = omega (arith, g.1, ap height o.is);
      }

  pub left_here : {u : Shape K V} → CanLeave R ns i key t → (o : IsOver ns i t n) → R key n.key ≡ Equal → IsJoined o.l o.r u → HasLeft R t key i u
  left_here e o equal h =
      let cut = cut_over R o e.has_key.rises in
      record {
        has = h.has ∙ sym (without_here ord key cut equal);
        places = λ q. omega (arith, h.places q, ap (times q) o.is);
        balanced = h.balanced;
        low = omega (arith, h.low, ap height o.is);
        high = omega (arith, h.high, ap height o.is);
      }

  -- ---- a value put anew

  pub value_under_left : {ms : List (Node K V)} {value : V} {u : Shape K V} → HasKey R ns i key t → slice_get ns i ≡ Some n → (o : IsOver ns i t n) → Under ms n.left u → HasValue R o.l key value u → Changed (λ q. times q o.l) ns ms
      → Under ms i (Fork i u n.key n.value o.r)
  value_under_left {u = u} e there o under h d =
      let right = under_kept n.right o.r d (λ q. omega (arith, e.apart q, ap (times q) o.is)) o.node.right in
      let same = node_is u n.key n.value o.r (sym h.is_top) refl (omega (arith, h.as_many)) (ap (λ x. max x (height o.r) + 1) (sym h.as_high)) in
      record {
        is_top = refl;
        held = (d.others i (omega (arith, e.apart i, ap (times i) o.is, at_itself i)) ∙ there ∙ ap Some (o.node.node ∙ same), under.held, right.held);
        few = under.few;
      }

  pub value_under_right : {ms : List (Node K V)} {value : V} {u : Shape K V} → HasKey R ns i key t → slice_get ns i ≡ Some n → (o : IsOver ns i t n) → Under ms n.right u → HasValue R o.r key value u → Changed (λ q. times q o.r) ns ms
      → Under ms i (Fork i o.l n.key n.value u)
  value_under_right {u = u} e there o under h d =
      let left = under_kept n.left o.l d (λ q. omega (arith, e.apart q, ap (times q) o.is)) o.node.left in
      let same = node_is o.l n.key n.value u refl (sym h.is_top) (omega (arith, h.as_many)) (ap (λ x. max (height o.l) x + 1) (sym h.as_high)) in
      record {
        is_top = refl;
        held = (d.others i (omega (arith, e.apart i, ap (times i) o.is, at_itself i)) ∙ there ∙ ap Some (o.node.node ∙ same), left.held, under.held);
        few = under.few;
      }

  pub value_under_here : {ms : List (Node K V)} {value : V} → HasKey R ns i key t → (o : IsOver ns i t n) → slice_get ms i ≡ Some (record { left = n.left; right = n.right; count = n.count; height = n.height; key = n.key; value = value })
      → Changed (is_at i) ns ms → Under ms i (Fork i o.l n.key value o.r)
  value_under_here {value = value} e o there d =
      let left = under_kept n.left o.l d (λ q. omega (arith, e.apart q, ap (times q) o.is)) o.node.left in
      let right = under_kept n.right o.r d (λ q. omega (arith, e.apart q, ap (times q) o.is)) o.node.right in
      let same = node_is o.l n.key value o.r o.node.left.is_top o.node.right.is_top (ap {A = Node K V} (λ n. n.count) o.node.node) (ap {A = Node K V} (λ n. n.height) o.node.node) in
      record { is_top = refl; held = (there ∙ ap Some same, left.held, right.held); few = left.few }

  pub value_left : {value : V} {u : Shape K V} → HasKey R ns i key t → (o : IsOver ns i t n) → R key n.key ≡ Less → HasValue R o.l key value u → HasValue R t key value (Fork i u n.key n.value o.r)
  value_left {value} {u} e o less h =
      let cut = cut_over R o e.rises in
      record {
        is_top = ap top (sym o.is);
        has = ap (λ es. es ++ (n.key, n.value) ∷ entries o.r) h.has ∙ sym (put_left ord key value cut less);
        as_many = omega (arith, h.as_many, length-fork i u n.key n.value o.r, ap (λ t. length (entries t)) o.is, length-fork i o.l n.key n.value o.r);
        places = λ q. omega (arith, h.places q, ap (times q) o.is);
        balanced = λ b. let s = sides_even o b in (h.balanced s.left, s.right, omega (arith, s.near, h.as_high), omega (arith, s.back, h.as_high));
        as_high = ap (λ x. max x (height o.r) + 1) h.as_high ∙ ap height (sym o.is);
      }

  pub value_right : {value : V} {u : Shape K V} → HasKey R ns i key t → (o : IsOver ns i t n) → R key n.key ≡ Greater → HasValue R o.r key value u → HasValue R t key value (Fork i o.l n.key n.value u)
  value_right {value} {u} e o more h =
      let cut = cut_over R o e.rises in
      record {
        is_top = ap top (sym o.is);
        has = ap (λ es. entries o.l ++ (n.key, n.value) ∷ es) h.has ∙ sym (put_right ord key value cut more);
        as_many = omega (arith, h.as_many, length-fork i o.l n.key n.value u, ap (λ t. length (entries t)) o.is, length-fork i o.l n.key n.value o.r);
        places = λ q. omega (arith, h.places q, ap (times q) o.is);
        balanced = λ b. let s = sides_even o b in (s.left, h.balanced s.right, omega (arith, s.near, h.as_high), omega (arith, s.back, h.as_high));
        as_high = ap (λ x. max (height o.l) x + 1) h.as_high ∙ ap height (sym o.is);
      }

  pub value_here : {value : V} → HasKey R ns i key t → (o : IsOver ns i t n) → R key n.key ≡ Equal → HasValue R t key value (Fork i o.l n.key value o.r)
  value_here {value} e o equal =
      let cut = cut_over R o e.rises in
      record {
        is_top = ap top (sym o.is);
        has = sym (put_here ord key value cut equal);
        as_many = omega (arith, length-fork i o.l n.key value o.r, ap (λ t. length (entries t)) o.is, length-fork i o.l n.key n.value o.r);
        places = λ q. omega (arith, ap (times q) o.is);
        balanced = λ b. let s = sides_even o b in (s.left, s.right, s.near, s.back);
        as_high = ap height (sym o.is);
      }

pub no_key_in_bare : {K V : Type 0} {R : K → K → Ordering} {ns : List (Node K V)} {i : ℕ} {t : Shape K V} {key : K} → HasKey R ns i key t → t ≡ Bare → ⊥
no_key_in_bare {R = R} {key = key} e none = nothing (sym e.present ∙ ap (λ t. is_some (find R key (entries t))) none)
  where
    nothing : true ≡ false → ⊥
    nothing h = cc
