-- What a call on one side of a tree, and the balancing after it, make of the whole tree.
use Rattle.std.proofs.Common.{◌≡◌, ℕ, ◌+◌, ◌<◌, ◌^◌, List, length, Some, ap, subst, arith}
use Rattle.std.specs.Prelude.{slice_get}
use Rattle.std.proofs.lemmas.Option.{slice_get_within}
use Rattle.std.specs.declared.cmp.Ordering.{Ordering}
use Rattle.std.specs.declared.cmp.Ordering.TheVariants.{Less, Equal, Greater}
use Rattle.std.specs.Cmp.{IsTotalOrder}
use Rattle.room_map.specs.declared.nodes.Node.{Node}
use Rattle.room_map.specs.Shape.{Shape, Fork, is_at, height, times}
use Rattle.room_map.specs.Nodes.{raised, Under, Changed, AreNear, IsEven, CanSplit, IsSplit, CanJoin, IsJoined, CanEnter, HasEntered, HasKey, HasValue, CanLeave, HasLeft}
use Rattle.room_map.proofs.Held.{IsOver, forked, changed_both, changed_where}
use Rattle.room_map.proofs.Cuts.{cut_over, absent_above}
use Rattle.room_map.proofs.Changes.{enter_left, enter_right, entered_near_left, entered_near_right, entered_left, entered_right, node_stays, count_small, raised_left, raised_right}
use Rattle.room_map.proofs.Leavings.{split_left, split_near, split_done, join_split, join_near, join_done, key_left, key_right, leave_left, leave_right, leave_join, left_near_left, left_near_right, left_left, left_right, left_here, value_under_left, value_under_right, value_under_here, value_left, value_right, value_here}

module _ {K V : Type 0} {ns : List (Node K V)} {i : ℕ} {n : Node K V} {t : Shape K V} where
  -- ---- the first entry taken out

  pub may_split : {below : Node K V} → CanSplit ns i n t → slice_get ns n.left ≡ Some below → (u : Shape K V) × CanSplit ns n.left below u
  may_split {below} s there = over (forked t s.under s.there)
    where
      over : IsOver ns i t n → (u : Shape K V) × CanSplit ns n.left below u
      over o = (o.l, split_left s o there)

  pub near_split : {j x : ℕ} {k : K} {v : V} {below : Node K V} {ms : List (Node K V)} → CanSplit ns i n t → slice_get ns n.left ≡ Some below
      → ((l : Shape K V) → CanSplit ns n.left below l → (u : Shape K V) × Under ms j u × IsSplit l x k v u × Changed (λ q. times q l) ns ms)
      → (l : Shape K V) × (r : Shape K V) × AreNear ms j l i n.right r
  near_split {j = j} {ms = ms} s there inner = over (forked t s.under s.there)
    where
      over : IsOver ns i t n → (l : Shape K V) × (r : Shape K V) × AreNear ms j l i n.right r
      over o =
          let done = inner o.l (split_left s o there) in
          (done.0, o.r, split_near s o done.1 done.2 done.3)

  pub split_below : {j m x : ℕ} {k : K} {v : V} {below : Node K V} {ms os : List (Node K V)} → CanSplit ns i n t → slice_get ns n.left ≡ Some below
      → ((l : Shape K V) → CanSplit ns n.left below l → (u : Shape K V) × Under ms j u × IsSplit l x k v u × Changed (λ q. times q l) ns ms)
      → ((l r : Shape K V) → AreNear ms j l i n.right r → (u : Shape K V) × Under os m u × IsEven l i n.key n.value r u × Changed (λ q. times q l + is_at i q + times q r) ms os)
      → (u : Shape K V) × Under os m u × IsSplit t x k v u × Changed (λ q. times q t) ns os
  split_below {m = m} {x = x} {k = k} {v = v} {os = os} s there inner balance = over (forked t s.under s.there)
    where
      over : IsOver ns i t n → (u : Shape K V) × Under os m u × IsSplit t x k v u × Changed (λ q. times q t) ns os
      over o =
          let done = inner o.l (split_left s o there) in
          let all = balance done.0 o.r (split_near s o done.1 done.2 done.3) in
          (all.0, all.1, split_done s o done.2 all.2, changed_where (changed_both done.3 all.3) (λ q none. omega (arith, none, done.2.places q, ap (times q) o.is)))

module _ {K V : Type 0} {ns : List (Node K V)} {i j : ℕ} {n : Node K V} {l r : Shape K V} where
  -- ---- two sides joined

  pub near_join : {m x : ℕ} {k : K} {v : V} {ms : List (Node K V)} → CanJoin ns i l j r → slice_get ns j ≡ Some n
      → ((t : Shape K V) → CanSplit ns j n t → (u : Shape K V) × Under ms m u × IsSplit t x k v u × Changed (λ q. times q t) ns ms)
      → (a : Shape K V) × (b : Shape K V) × AreNear ms i a x m b
  near_join s there inner =
      let done = inner r (join_split s there) in
      (l, done.0, join_near s done.1 done.2 done.3)

  pub join_both : {m x h : ℕ} {k : K} {v : V} {ms os : List (Node K V)} → CanJoin ns i l j r → slice_get ns j ≡ Some n
      → ((t : Shape K V) → CanSplit ns j n t → (u : Shape K V) × Under ms m u × IsSplit t x k v u × Changed (λ q. times q t) ns ms)
      → ((a b : Shape K V) → AreNear ms i a x m b → (u : Shape K V) × Under os h u × IsEven a x k v b u × Changed (λ q. times q a + is_at x q + times q b) ms os)
      → (u : Shape K V) × Under os h u × IsJoined l r u × Changed (λ q. times q l + times q r) ns os
  join_both s there inner balance =
      let done = inner r (join_split s there) in
      let all = balance l done.0 (join_near s done.1 done.2 done.3) in
      (all.0, all.1, join_done s done.2 all.2, changed_where (changed_both done.3 all.3) (λ q none. omega (arith, none, done.2.places q)))

module _ {K V : Type 0} {R : K → K → Ordering} (ord : IsTotalOrder R) {ns : List (Node K V)} {i : ℕ} {n : Node K V} {t : Shape K V} {key : K} where
  -- ---- an entry more

  pub may_enter_left : {s : ℕ} → CanEnter R ns i key s t → slice_get ns i ≡ Some n → R key n.key ≡ Less → (u : Shape K V) × CanEnter R ns n.left key s u
  may_enter_left {s} e there less = over (forked t e.under there)
    where
      over : IsOver ns i t n → (u : Shape K V) × CanEnter R ns n.left key s u
      over o = (o.l, enter_left ord e o less)

  pub near_enter_left : {s j : ℕ} {value : V} {ms : List (Node K V)} → CanEnter R ns i key s t → slice_get ns i ≡ Some n → R key n.key ≡ Less
      → ((l : Shape K V) → CanEnter R ns n.left key s l → (u : Shape K V) × Under ms j u × HasEntered R l s key value u × Changed (λ q. times q l + is_at s q) ns ms)
      → (l : Shape K V) × (r : Shape K V) × AreNear ms j l i n.right r
  near_enter_left {s} {j} {value} {ms} e there less inner = over (forked t e.under there)
    where
      over : IsOver ns i t n → (l : Shape K V) × (r : Shape K V) × AreNear ms j l i n.right r
      over o =
          let done = inner o.l (enter_left ord e o less) in
          (done.0, o.r, entered_near_left ord e there o less done.1 done.2 done.3)

  pub enter_on_left : {s j m : ℕ} {value : V} {ms os : List (Node K V)} → CanEnter R ns i key s t → slice_get ns i ≡ Some n → R key n.key ≡ Less
      → ((l : Shape K V) → CanEnter R ns n.left key s l → (u : Shape K V) × Under ms j u × HasEntered R l s key value u × Changed (λ q. times q l + is_at s q) ns ms)
      → ((l r : Shape K V) → AreNear ms j l i n.right r → (u : Shape K V) × Under os m u × IsEven l i n.key n.value r u × Changed (λ q. times q l + is_at i q + times q r) ms os)
      → (u : Shape K V) × Under os m u × HasEntered R t s key value u × Changed (λ q. times q t + is_at s q) ns os
  enter_on_left {s} {j} {m} {value} {ms} {os} e there less inner balance = over (forked t e.under there)
    where
      over : IsOver ns i t n → (u : Shape K V) × Under os m u × HasEntered R t s key value u × Changed (λ q. times q t + is_at s q) ns os
      over o =
          let done = inner o.l (enter_left ord e o less) in
          let all = balance done.0 o.r (entered_near_left ord e there o less done.1 done.2 done.3) in
          (all.0, all.1, entered_left ord e o less done.2 all.2, changed_where (changed_both done.3 all.3) (λ q none. omega (arith, none, done.2.places q, ap (times q) o.is)))

  pub may_raise_left : {s j : ℕ} {value : V} {ms : List (Node K V)} → CanEnter R ns i key s t → slice_get ns i ≡ Some n → R key n.key ≡ Less
      → ((l : Shape K V) → CanEnter R ns n.left key s l → (u : Shape K V) × Under ms j u × HasEntered R l s key value u × Changed (λ q. times q l + is_at s q) ns ms)
      → (i < length ms) × ((m : Node K V) → slice_get ms i ≡ Some m → m.count + 1 < 2 ^ 32)
  may_raise_left {ms = ms} e there less inner = over (forked t e.under there)
    where
      over : IsOver ns i t n → (i < length ms) × ((m : Node K V) → slice_get ms i ≡ Some m → m.count + 1 < 2 ^ 32)
      over o =
          let done = inner o.l (enter_left ord e o less) in
          let stays = node_stays o.l e there o (omega arith) done.3 in
          (slice_get_within ms i n stays, count_small ms e there stays)

  pub raise_on_left : {s j : ℕ} {h : ℕ} {value : V} {ms os : List (Node K V)} → CanEnter R ns i key s t → slice_get ns i ≡ Some n → R key n.key ≡ Less
      → ((l : Shape K V) → CanEnter R ns n.left key s l → (u : Shape K V) × Under ms j u × HasEntered R l s key value u × Changed (λ q. times q l + is_at s q) ns ms)
      → j ≡ n.left → ((l : Shape K V) → Under ms j l → h ≡ height l) → h < n.height → ((m : Node K V) → slice_get ms i ≡ Some m → slice_get os i ≡ Some (raised m)) → Changed (is_at i) ms os
      → (u : Shape K V) × Under os i u × HasEntered R t s key value u × Changed (λ q. times q t + is_at s q) ns os
  raise_on_left {s} {j} {h} {value} {ms} {os} e there less inner same high low written c = over (forked t e.under there)
    where
      over : IsOver ns i t n → (u : Shape K V) × Under os i u × HasEntered R t s key value u × Changed (λ q. times q t + is_at s q) ns os
      over o =
          let done = inner o.l (enter_left ord e o less) in
          let all = raised_left ord e there o less (subst (λ x. Under ms x done.0) same done.1) done.2 done.3 (omega (arith, high done.0 done.1, low)) (written n (node_stays o.l e there o (omega arith) done.3)) c in
          (Fork i done.0 n.key n.value o.r, all.0, entered_left ord e o less done.2 all.1, changed_where (changed_both done.3 c) (λ q none. omega (arith, none, ap (times q) o.is)))

  pub may_enter_right : {s : ℕ} → CanEnter R ns i key s t → slice_get ns i ≡ Some n → (R key n.key ≡ Less → ⊥) → (u : Shape K V) × CanEnter R ns n.right key s u
  may_enter_right {s} e there more = over (forked t e.under there)
    where
      over : IsOver ns i t n → (u : Shape K V) × CanEnter R ns n.right key s u
      over o = (o.r, enter_right ord e o (absent_above ord key (cut_over R o e.rises) e.absent more))

  pub near_enter_right : {s j : ℕ} {value : V} {ms : List (Node K V)} → CanEnter R ns i key s t → slice_get ns i ≡ Some n → (R key n.key ≡ Less → ⊥)
      → ((l : Shape K V) → CanEnter R ns n.right key s l → (u : Shape K V) × Under ms j u × HasEntered R l s key value u × Changed (λ q. times q l + is_at s q) ns ms)
      → (l : Shape K V) × (r : Shape K V) × AreNear ms n.left l i j r
  near_enter_right {s} {j} {value} {ms} e there more inner = over (forked t e.under there)
    where
      over : IsOver ns i t n → (l : Shape K V) × (r : Shape K V) × AreNear ms n.left l i j r
      over o =
          let done = inner o.r (enter_right ord e o (absent_above ord key (cut_over R o e.rises) e.absent more)) in
          (o.l, done.0, entered_near_right ord e there o (absent_above ord key (cut_over R o e.rises) e.absent more) done.1 done.2 done.3)

  pub enter_on_right : {s j m : ℕ} {value : V} {ms os : List (Node K V)} → CanEnter R ns i key s t → slice_get ns i ≡ Some n → (R key n.key ≡ Less → ⊥)
      → ((l : Shape K V) → CanEnter R ns n.right key s l → (u : Shape K V) × Under ms j u × HasEntered R l s key value u × Changed (λ q. times q l + is_at s q) ns ms)
      → ((l r : Shape K V) → AreNear ms n.left l i j r → (u : Shape K V) × Under os m u × IsEven l i n.key n.value r u × Changed (λ q. times q l + is_at i q + times q r) ms os)
      → (u : Shape K V) × Under os m u × HasEntered R t s key value u × Changed (λ q. times q t + is_at s q) ns os
  enter_on_right {s} {j} {m} {value} {ms} {os} e there more inner balance = over (forked t e.under there)
    where
      over : IsOver ns i t n → (u : Shape K V) × Under os m u × HasEntered R t s key value u × Changed (λ q. times q t + is_at s q) ns os
      over o =
          let done = inner o.r (enter_right ord e o (absent_above ord key (cut_over R o e.rises) e.absent more)) in
          let all = balance o.l done.0 (entered_near_right ord e there o (absent_above ord key (cut_over R o e.rises) e.absent more) done.1 done.2 done.3) in
          (all.0, all.1, entered_right ord e o (absent_above ord key (cut_over R o e.rises) e.absent more) done.2 all.2, changed_where (changed_both done.3 all.3) (λ q none. omega (arith, none, done.2.places q, ap (times q) o.is)))

  pub may_raise_right : {s j : ℕ} {value : V} {ms : List (Node K V)} → CanEnter R ns i key s t → slice_get ns i ≡ Some n → (R key n.key ≡ Less → ⊥)
      → ((l : Shape K V) → CanEnter R ns n.right key s l → (u : Shape K V) × Under ms j u × HasEntered R l s key value u × Changed (λ q. times q l + is_at s q) ns ms)
      → (i < length ms) × ((m : Node K V) → slice_get ms i ≡ Some m → m.count + 1 < 2 ^ 32)
  may_raise_right {ms = ms} e there more inner = over (forked t e.under there)
    where
      over : IsOver ns i t n → (i < length ms) × ((m : Node K V) → slice_get ms i ≡ Some m → m.count + 1 < 2 ^ 32)
      over o =
          let done = inner o.r (enter_right ord e o (absent_above ord key (cut_over R o e.rises) e.absent more)) in
          let stays = node_stays o.r e there o (omega arith) done.3 in
          (slice_get_within ms i n stays, count_small ms e there stays)

  pub raise_on_right : {s j : ℕ} {h : ℕ} {value : V} {ms os : List (Node K V)} → CanEnter R ns i key s t → slice_get ns i ≡ Some n → (R key n.key ≡ Less → ⊥)
      → ((l : Shape K V) → CanEnter R ns n.right key s l → (u : Shape K V) × Under ms j u × HasEntered R l s key value u × Changed (λ q. times q l + is_at s q) ns ms)
      → j ≡ n.right → ((l : Shape K V) → Under ms j l → h ≡ height l) → h < n.height → ((m : Node K V) → slice_get ms i ≡ Some m → slice_get os i ≡ Some (raised m)) → Changed (is_at i) ms os
      → (u : Shape K V) × Under os i u × HasEntered R t s key value u × Changed (λ q. times q t + is_at s q) ns os
  raise_on_right {s} {j} {h} {value} {ms} {os} e there more inner same high low written c = over (forked t e.under there)
    where
      over : IsOver ns i t n → (u : Shape K V) × Under os i u × HasEntered R t s key value u × Changed (λ q. times q t + is_at s q) ns os
      over o =
          let greater = absent_above ord key (cut_over R o e.rises) e.absent more in
          let done = inner o.r (enter_right ord e o greater) in
          let all = raised_right ord e there o greater (subst (λ x. Under ms x done.0) same done.1) done.2 done.3 (omega (arith, high done.0 done.1, low)) (written n (node_stays o.r e there o (omega arith) done.3)) c in
          (Fork i o.l n.key n.value done.0, all.0, entered_right ord e o greater done.2 all.1, changed_where (changed_both done.3 c) (λ q none. omega (arith, none, ap (times q) o.is)))

  -- ---- an entry less

  pub may_leave_left : CanLeave R ns i key t → slice_get ns i ≡ Some n → R key n.key ≡ Less → (u : Shape K V) × CanLeave R ns n.left key u
  may_leave_left e there less = over (forked t e.has_key.under there)
    where
      over : IsOver ns i t n → (u : Shape K V) × CanLeave R ns n.left key u
      over o = (o.l, leave_left ord e o less)

  pub near_leave_left : {j x : ℕ} {ms : List (Node K V)} → CanLeave R ns i key t → slice_get ns i ≡ Some n → R key n.key ≡ Less
      → ((l : Shape K V) → CanLeave R ns n.left key l → (u : Shape K V) × Under ms j u × HasLeft R l key x u × Changed (λ q. times q l) ns ms)
      → (l : Shape K V) × (r : Shape K V) × AreNear ms j l i n.right r
  near_leave_left {j} {x} {ms} e there less inner = over (forked t e.has_key.under there)
    where
      over : IsOver ns i t n → (l : Shape K V) × (r : Shape K V) × AreNear ms j l i n.right r
      over o =
          let done = inner o.l (leave_left ord e o less) in
          (done.0, o.r, left_near_left ord e there o less done.1 done.2 done.3)

  pub leave_on_left : {j m x : ℕ} {ms os : List (Node K V)} → CanLeave R ns i key t → slice_get ns i ≡ Some n → R key n.key ≡ Less
      → ((l : Shape K V) → CanLeave R ns n.left key l → (u : Shape K V) × Under ms j u × HasLeft R l key x u × Changed (λ q. times q l) ns ms)
      → ((l r : Shape K V) → AreNear ms j l i n.right r → (u : Shape K V) × Under os m u × IsEven l i n.key n.value r u × Changed (λ q. times q l + is_at i q + times q r) ms os)
      → (u : Shape K V) × Under os m u × HasLeft R t key x u × Changed (λ q. times q t) ns os
  leave_on_left {j} {m} {x} {ms} {os} e there less inner balance = over (forked t e.has_key.under there)
    where
      over : IsOver ns i t n → (u : Shape K V) × Under os m u × HasLeft R t key x u × Changed (λ q. times q t) ns os
      over o =
          let done = inner o.l (leave_left ord e o less) in
          let all = balance done.0 o.r (left_near_left ord e there o less done.1 done.2 done.3) in
          (all.0, all.1, left_left ord e o less done.2 all.2, changed_where (changed_both done.3 all.3) (λ q none. omega (arith, none, done.2.places q, ap (times q) o.is)))

  pub may_leave_right : CanLeave R ns i key t → slice_get ns i ≡ Some n → R key n.key ≡ Greater → (u : Shape K V) × CanLeave R ns n.right key u
  may_leave_right e there more = over (forked t e.has_key.under there)
    where
      over : IsOver ns i t n → (u : Shape K V) × CanLeave R ns n.right key u
      over o = (o.r, leave_right ord e o more)

  pub near_leave_right : {j x : ℕ} {ms : List (Node K V)} → CanLeave R ns i key t → slice_get ns i ≡ Some n → R key n.key ≡ Greater
      → ((l : Shape K V) → CanLeave R ns n.right key l → (u : Shape K V) × Under ms j u × HasLeft R l key x u × Changed (λ q. times q l) ns ms)
      → (l : Shape K V) × (r : Shape K V) × AreNear ms n.left l i j r
  near_leave_right {j} {x} {ms} e there more inner = over (forked t e.has_key.under there)
    where
      over : IsOver ns i t n → (l : Shape K V) × (r : Shape K V) × AreNear ms n.left l i j r
      over o =
          let done = inner o.r (leave_right ord e o more) in
          (o.l, done.0, left_near_right ord e there o more done.1 done.2 done.3)

  pub leave_on_right : {j m x : ℕ} {ms os : List (Node K V)} → CanLeave R ns i key t → slice_get ns i ≡ Some n → R key n.key ≡ Greater
      → ((l : Shape K V) → CanLeave R ns n.right key l → (u : Shape K V) × Under ms j u × HasLeft R l key x u × Changed (λ q. times q l) ns ms)
      → ((l r : Shape K V) → AreNear ms n.left l i j r → (u : Shape K V) × Under os m u × IsEven l i n.key n.value r u × Changed (λ q. times q l + is_at i q + times q r) ms os)
      → (u : Shape K V) × Under os m u × HasLeft R t key x u × Changed (λ q. times q t) ns os
  leave_on_right {j} {m} {x} {ms} {os} e there more inner balance = over (forked t e.has_key.under there)
    where
      over : IsOver ns i t n → (u : Shape K V) × Under os m u × HasLeft R t key x u × Changed (λ q. times q t) ns os
      over o =
          let done = inner o.r (leave_right ord e o more) in
          let all = balance o.l done.0 (left_near_right ord e there o more done.1 done.2 done.3) in
          (all.0, all.1, left_right ord e o more done.2 all.2, changed_where (changed_both done.3 all.3) (λ q none. omega (arith, none, done.2.places q, ap (times q) o.is)))

  pub may_join : CanLeave R ns i key t → slice_get ns i ≡ Some n → (l : Shape K V) × (r : Shape K V) × CanJoin ns n.left l n.right r
  may_join e there = over (forked t e.has_key.under there)
    where
      over : IsOver ns i t n → (l : Shape K V) × (r : Shape K V) × CanJoin ns n.left l n.right r
      over o = (o.l, o.r, leave_join ord e o)

  pub leave_here : {m : ℕ} {os : List (Node K V)} → CanLeave R ns i key t → slice_get ns i ≡ Some n → R key n.key ≡ Equal
      → ((l r : Shape K V) → CanJoin ns n.left l n.right r → (u : Shape K V) × Under os m u × IsJoined l r u × Changed (λ q. times q l + times q r) ns os)
      → (u : Shape K V) × Under os m u × HasLeft R t key i u × Changed (λ q. times q t) ns os
  leave_here {m} {os} e there equal join = over (forked t e.has_key.under there)
    where
      over : IsOver ns i t n → (u : Shape K V) × Under os m u × HasLeft R t key i u × Changed (λ q. times q t) ns os
      over o =
          let all = join o.l o.r (leave_join ord e o) in
          (all.0, all.1, left_here ord e o equal all.2, changed_where all.3 (λ q none. omega (arith, none, ap (times q) o.is)))

  -- ---- a value put anew

  pub may_set_left : HasKey R ns i key t → slice_get ns i ≡ Some n → R key n.key ≡ Less → (u : Shape K V) × HasKey R ns n.left key u
  may_set_left e there less = over (forked t e.under there)
    where
      over : IsOver ns i t n → (u : Shape K V) × HasKey R ns n.left key u
      over o = (o.l, key_left ord e o less)

  pub set_on_left : {value : V} {ms : List (Node K V)} → HasKey R ns i key t → slice_get ns i ≡ Some n → R key n.key ≡ Less
      → ((l : Shape K V) → HasKey R ns n.left key l → (u : Shape K V) × Under ms n.left u × HasValue R l key value u × Changed (λ q. times q l) ns ms)
      → (u : Shape K V) × Under ms i u × HasValue R t key value u × Changed (λ q. times q t) ns ms
  set_on_left {value} {ms} e there less inner = over (forked t e.under there)
    where
      over : IsOver ns i t n → (u : Shape K V) × Under ms i u × HasValue R t key value u × Changed (λ q. times q t) ns ms
      over o =
          let done = inner o.l (key_left ord e o less) in
          (Fork i done.0 n.key n.value o.r, value_under_left ord e there o done.1 done.2 done.3, value_left ord e o less done.2, changed_where done.3 (λ q none. omega (arith, none, ap (times q) o.is)))

  pub may_set_right : HasKey R ns i key t → slice_get ns i ≡ Some n → R key n.key ≡ Greater → (u : Shape K V) × HasKey R ns n.right key u
  may_set_right e there more = over (forked t e.under there)
    where
      over : IsOver ns i t n → (u : Shape K V) × HasKey R ns n.right key u
      over o = (o.r, key_right ord e o more)

  pub set_on_right : {value : V} {ms : List (Node K V)} → HasKey R ns i key t → slice_get ns i ≡ Some n → R key n.key ≡ Greater
      → ((l : Shape K V) → HasKey R ns n.right key l → (u : Shape K V) × Under ms n.right u × HasValue R l key value u × Changed (λ q. times q l) ns ms)
      → (u : Shape K V) × Under ms i u × HasValue R t key value u × Changed (λ q. times q t) ns ms
  set_on_right {value} {ms} e there more inner = over (forked t e.under there)
    where
      over : IsOver ns i t n → (u : Shape K V) × Under ms i u × HasValue R t key value u × Changed (λ q. times q t) ns ms
      over o =
          let done = inner o.r (key_right ord e o more) in
          (Fork i o.l n.key n.value done.0, value_under_right ord e there o done.1 done.2 done.3, value_right ord e o more done.2, changed_where done.3 (λ q none. omega (arith, none, ap (times q) o.is)))

  pub set_here : {value : V} {ms : List (Node K V)} → HasKey R ns i key t → slice_get ns i ≡ Some n → R key n.key ≡ Equal
      → slice_get ms i ≡ Some (record { left = n.left; right = n.right; count = n.count; height = n.height; key = n.key; value = value }) → Changed (is_at i) ns ms
      → (u : Shape K V) × Under ms i u × HasValue R t key value u × Changed (λ q. times q t) ns ms
  set_here {value} {ms} e there equal written d = over (forked t e.under there)
    where
      over : IsOver ns i t n → (u : Shape K V) × Under ms i u × HasValue R t key value u × Changed (λ q. times q t) ns ms
      over o = (Fork i o.l n.key value o.r, value_under_here ord e o written d, value_here ord e o equal, changed_where d (λ q none. omega (arith, none, ap (times q) o.is)))
