-- What a change of one side is to the whole tree.
use Rattle.std.proofs.Common.{◌≡◌, ℕ, ◌+◌, ◌<◌, ◌≤◌, ◌^◌, List, ◌∷◌, ◌++◌, length, Some, None, ⊎_elim, refl, sym, ap, ◌∙◌, subst, arith}
use Rattle.std.specs.Prelude.{slice_get, max}
use Rattle.std.proofs.lemmas.Bool.{cases_lt}
use Rattle.std.proofs.lemmas.Option.{slice_get_past, slice_get_within}
use Rattle.std.specs.declared.cmp.Ordering.{Ordering}
use Rattle.std.specs.declared.cmp.Ordering.TheVariants.{Less, Greater}
use Rattle.std.specs.Cmp.{IsTotalOrder}
use Rattle.room_map.specs.declared.nodes.Node.{Node}
use Rattle.room_map.specs.Shape.{Shape, Bare, Fork, is_at, entries, height, times, IsBalanced}
use Rattle.room_map.specs.Nodes.{raised, Under, Changed, AreNear, IsHighOver, IsEven, CanEnter, HasEntered}
use Rattle.room_map.proofs.Sizes.{is_max, at_itself}
use Rattle.room_map.proofs.Held.{IsOver, bare, same_node, under_kept, changed_more, length-fork, count_of, raised_over}
use Rattle.room_map.proofs.Even.{even_as_is}
use Rattle.room_map.proofs.Maps.{length-put_new}
use Rattle.room_map.proofs.Cuts.{cut_over, left_shorter, right_shorter, left_rises, right_rises, find_left, find_right, put_left, put_right}

-- ---- heights: a side that grew or shrank by one

pub over_grows : (a b c h : ℕ) → a ≤ b + 1 → b ≤ a + 1 → a ≤ c → c ≤ a + 1 → IsHighOver c b h → (max a b + 1 ≤ h) × (h ≤ max a b + 1 + 1)
over_grows a b c h near back more one w =
    let m = is_max a b in
    let n = is_max c b in
    ⊎_elim (λ (far : b + 1 < c). (omega arith, omega arith)) (λ (close : c ≤ b + 1). let e = w.as_high close (omega arith) in (omega arith, omega arith)) (cases_lt (b + 1) c)

pub over_grows_right : (a b c h : ℕ) → a ≤ b + 1 → b ≤ a + 1 → b ≤ c → c ≤ b + 1 → IsHighOver a c h → (max a b + 1 ≤ h) × (h ≤ max a b + 1 + 1)
over_grows_right a b c h near back more one w =
    let m = is_max a b in
    let n = is_max a c in
    ⊎_elim (λ (far : a + 1 < c). (omega arith, omega arith)) (λ (close : c ≤ a + 1). let e = w.as_high (omega arith) close in (omega arith, omega arith)) (cases_lt (a + 1) c)

pub over_shrinks : (a b c h : ℕ) → a ≤ b + 1 → b ≤ a + 1 → c ≤ a → a ≤ c + 1 → IsHighOver c b h → (h ≤ max a b + 1) × (max a b + 1 ≤ h + 1)
over_shrinks a b c h near back less one w =
    let m = is_max a b in
    let n = is_max c b in
    ⊎_elim (λ (far : c + 1 < b). (omega arith, omega arith)) (λ (close : b ≤ c + 1). let e = w.as_high (omega arith) close in (omega arith, omega arith)) (cases_lt (c + 1) b)

pub over_shrinks_right : (a b c h : ℕ) → a ≤ b + 1 → b ≤ a + 1 → c ≤ b → b ≤ c + 1 → IsHighOver a c h → (h ≤ max a b + 1) × (max a b + 1 ≤ h + 1)
over_shrinks_right a b c h near back less one w =
    let m = is_max a b in
    let n = is_max a c in
    ⊎_elim (λ (far : c + 1 < a). (omega arith, omega arith)) (λ (close : a ≤ c + 1). let e = w.as_high close (omega arith) in (omega arith, omega arith)) (cases_lt (c + 1) a)

-- a side that grew to the height c, beside one of the height b, under a node that is as high as before
record GrewBelow (a b c h : ℕ) : Type 0 where
  near : c ≤ b + 1
  back : b ≤ c + 1
  same : h ≡ max c b + 1

grew_below : (a b c h : ℕ) → a ≤ b + 1 → b ≤ a + 1 → a ≤ c → c < h → h ≡ max a b + 1 → GrewBelow a b c h
grew_below a b c h near back more low high =
    let m = is_max a b in
    let n = is_max c b in
    record { near = omega arith; back = omega arith; same = omega arith }

record GrewBelowRight (a b c h : ℕ) : Type 0 where
  near : a ≤ c + 1
  back : c ≤ a + 1
  same : h ≡ max a c + 1

grew_below_right : (a b c h : ℕ) → a ≤ b + 1 → b ≤ a + 1 → b ≤ c → c < h → h ≡ max a b + 1 → GrewBelowRight a b c h
grew_below_right a b c h near back more low high =
    let m = is_max a b in
    let n = is_max a c in
    record { near = omega arith; back = omega arith; same = omega arith }

-- the sides of a balanced tree
pub record SidesEven {K V : Type 0} (ns : List (Node K V)) (i : ℕ) (t : Shape K V) (n : Node K V) (o : IsOver ns i t n) : Type 0 where
  pub left : IsBalanced o.l
  pub right : IsBalanced o.r
  pub near : height o.l ≤ height o.r + 1
  pub back : height o.r ≤ height o.l + 1

pub sides_even : {K V : Type 0} {ns : List (Node K V)} {i : ℕ} {t : Shape K V} {n : Node K V} (o : IsOver ns i t n) → IsBalanced t → SidesEven ns i t n o
sides_even {n = n} o even =
    let b = subst IsBalanced o.is even in
    record { left = b.0; right = b.1; near = b.2; back = b.3 }

module _ {K V : Type 0} {R : K → K → Ordering} {ns : List (Node K V)} {i s : ℕ} {t : Shape K V} {key : K} where
  one_longer : {value : V} {u : Shape K V} → IsTotalOrder R → CanEnter R ns i key s t → HasEntered R t s key value u → length (entries u) ≡ length (entries t) + 1
  one_longer {value} ord e h = ap length h.has ∙ length-put_new ord key value (entries t) e.rises e.absent

  -- a node stays where only one of its sides changes
  pub node_stays : {n : Node K V} (side : Shape K V) {ms : List (Node K V)} → CanEnter R ns i key s t → slice_get ns i ≡ Some n → (o : IsOver ns i t n) → times i side ≤ times i o.l + times i o.r
      → Changed (λ q. times q side + is_at s q) ns ms → slice_get ms i ≡ Some n
  node_stays side e there o of d = d.others i (omega (arith, e.apart i, of, at_itself i, ap (times i) o.is)) ∙ there

  pub count_small : {n : Node K V} (ms : List (Node K V)) → CanEnter R ns i key s t → slice_get ns i ≡ Some n → slice_get ms i ≡ Some n → (m : Node K V) → slice_get ms i ≡ Some m → m.count + 1 < 2 ^ 32
  count_small ms e there stays m got = omega (arith, ap {A = Node K V} (λ n. n.count) (same_node (sym got ∙ stays)), count_of t e.under there, e.small)

module _ {K V : Type 0} {R : K → K → Ordering} (ord : IsTotalOrder R) {ns : List (Node K V)} {i : ℕ} {n : Node K V} {t : Shape K V} {key : K} where
  -- ---- an entry more

  pub enter_left : {s : ℕ} → CanEnter R ns i key s t → (o : IsOver ns i t n) → R key n.key ≡ Less → CanEnter R ns n.left key s o.l
  enter_left e o less =
      let cut = cut_over R o e.rises in
      record {
        under = o.node.left;
        there = e.there;
        apart = λ q. omega (arith, e.apart q, ap (times q) o.is);
        small = omega (arith, e.small, left_shorter cut);
        balanced = (sides_even o e.balanced).left;
        rises = left_rises ord cut;
        absent = sym (find_left ord key cut less) ∙ e.absent;
      }

  pub enter_right : {s : ℕ} → CanEnter R ns i key s t → (o : IsOver ns i t n) → R key n.key ≡ Greater → CanEnter R ns n.right key s o.r
  enter_right e o more =
      let cut = cut_over R o e.rises in
      record {
        under = o.node.right;
        there = e.there;
        apart = λ q. omega (arith, e.apart q, ap (times q) o.is);
        small = omega (arith, e.small, right_shorter cut);
        balanced = (sides_even o e.balanced).right;
        rises = right_rises ord cut;
        absent = sym (find_right ord key cut more) ∙ e.absent;
      }

  pub entered_near_left : {s j : ℕ} {value : V} {ms : List (Node K V)} {u : Shape K V} → CanEnter R ns i key s t → slice_get ns i ≡ Some n → (o : IsOver ns i t n) → R key n.key ≡ Less
      → Under ms j u → HasEntered R o.l s key value u → Changed (λ q. times q o.l + is_at s q) ns ms → AreNear ms j u i n.right o.r
  entered_near_left {s} {j} {value} {ms} {u} e there o less under h d =
      let long : length (entries u) ≡ length (entries o.l) + 1 = one_longer ord (enter_left e o less) h in
      let even = sides_even o e.balanced in
      record {
        sides = record {
          left = under;
          right = under_kept n.right o.r d (λ q. omega (arith, e.apart q, ap (times q) o.is)) o.node.right;
          there = omega (arith, slice_get_within ns i n there, d.long);
          apart = λ q. omega (arith, e.apart q, ap (times q) o.is, h.places q);
          small = omega (arith, e.small, long, ap (λ t. length (entries t)) o.is, length-fork i o.l n.key n.value o.r);
        };
        left_even = h.balanced;
        right_even = even.right;
        left_near = omega (arith, h.high, even.near);
        right_near = omega (arith, h.low, even.back);
      }

  pub entered_near_right : {s j : ℕ} {value : V} {ms : List (Node K V)} {u : Shape K V} → CanEnter R ns i key s t → slice_get ns i ≡ Some n → (o : IsOver ns i t n) → R key n.key ≡ Greater
      → Under ms j u → HasEntered R o.r s key value u → Changed (λ q. times q o.r + is_at s q) ns ms → AreNear ms n.left o.l i j u
  entered_near_right {s} {j} {value} {ms} {u} e there o more under h d =
      let long : length (entries u) ≡ length (entries o.r) + 1 = one_longer ord (enter_right e o more) h in
      let even = sides_even o e.balanced in
      record {
        sides = record {
          left = under_kept n.left o.l d (λ q. omega (arith, e.apart q, ap (times q) o.is)) o.node.left;
          right = under;
          there = omega (arith, slice_get_within ns i n there, d.long);
          apart = λ q. omega (arith, e.apart q, ap (times q) o.is, h.places q);
          small = omega (arith, e.small, long, ap (λ t. length (entries t)) o.is, length-fork i o.l n.key n.value o.r);
        };
        left_even = even.left;
        right_even = h.balanced;
        left_near = omega (arith, h.low, even.near);
        right_near = omega (arith, h.high, even.back);
      }

  pub entered_left : {s : ℕ} {value : V} {u w : Shape K V} → CanEnter R ns i key s t → (o : IsOver ns i t n) → R key n.key ≡ Less → HasEntered R o.l s key value u → IsEven u i n.key n.value o.r w → HasEntered R t s key value w
  entered_left {s} {value} {u} {w} e o less h even =
      let cut = cut_over R o e.rises in
      let b = sides_even o e.balanced in
      let g = over_grows (height o.l) (height o.r) (height u) (height w) b.near b.back h.low h.high even.high in
      record {
        has = even.has ∙ ap (λ es. es ++ (n.key, n.value) ∷ entries o.r) h.has ∙ sym (put_left ord key value cut less);
        places = λ q. omega (arith, even.places q, h.places q, ap (times q) o.is);
        balanced = even.balanced;
        low = omega (arith, g.0, ap height o.is);
        high = omega (arith, g.1, ap height o.is);
      }

  pub entered_right : {s : ℕ} {value : V} {u w : Shape K V} → CanEnter R ns i key s t → (o : IsOver ns i t n) → R key n.key ≡ Greater → HasEntered R o.r s key value u → IsEven o.l i n.key n.value u w → HasEntered R t s key value w
  entered_right {s} {value} {u} {w} e o more h even =
      let cut = cut_over R o e.rises in
      let b = sides_even o e.balanced in
      let g = over_grows_right (height o.l) (height o.r) (height u) (height w) b.near b.back h.low h.high even.high in
      record {
        has = even.has ∙ ap (λ es. entries o.l ++ (n.key, n.value) ∷ es) h.has ∙ sym (put_right ord key value cut more);
        places = λ q. omega (arith, even.places q, h.places q, ap (times q) o.is);
        balanced = even.balanced;
        low = omega (arith, g.0, ap height o.is);
        high = omega (arith, g.1, ap height o.is);
      }

  -- ---- a node that counts an entry more

  pub raised_left : {s : ℕ} {value : V} {ms os : List (Node K V)} {u : Shape K V} → CanEnter R ns i key s t → slice_get ns i ≡ Some n → (o : IsOver ns i t n) → R key n.key ≡ Less
      → Under ms n.left u → HasEntered R o.l s key value u → Changed (λ q. times q o.l + is_at s q) ns ms → height u < n.height → slice_get os i ≡ Some (raised n) → Changed (is_at i) ms os
      → Under os i (Fork i u n.key n.value o.r) × IsEven u i n.key n.value o.r (Fork i u n.key n.value o.r)
  raised_left {u = u} e there o less under h d low written c =
      let near = entered_near_left e there o less under h d in
      let b = sides_even o e.balanced in
      let long = one_longer ord (enter_left e o less) h in
      let g = grew_below (height o.l) (height o.r) (height u) n.height b.near b.back h.low low (ap {A = Node K V} (λ n. n.height) o.node.node) in (
        raised_over near.sides (omega (arith, ap {A = Node K V} (λ n. n.count) o.node.node, long)) g.same written c,
        even_as_is i u n.key n.value o.r near.left_even near.right_even g.near g.back,
      )

  pub raised_right : {s : ℕ} {value : V} {ms os : List (Node K V)} {u : Shape K V} → CanEnter R ns i key s t → slice_get ns i ≡ Some n → (o : IsOver ns i t n) → R key n.key ≡ Greater
      → Under ms n.right u → HasEntered R o.r s key value u → Changed (λ q. times q o.r + is_at s q) ns ms → height u < n.height → slice_get os i ≡ Some (raised n) → Changed (is_at i) ms os
      → Under os i (Fork i o.l n.key n.value u) × IsEven o.l i n.key n.value u (Fork i o.l n.key n.value u)
  raised_right {u = u} e there o more under h d low written c =
      let near = entered_near_right e there o more under h d in
      let b = sides_even o e.balanced in
      let long = one_longer ord (enter_right e o more) h in
      let g = grew_below_right (height o.l) (height o.r) (height u) n.height b.near b.back h.low low (ap {A = Node K V} (λ n. n.height) o.node.node) in (
        raised_over near.sides (omega (arith, ap {A = Node K V} (λ n. n.count) o.node.node, long)) g.same written c,
        even_as_is i o.l n.key n.value u near.left_even near.right_even g.near g.back,
      )

no_entry_here : {K V : Type 0} (R : K → K → Ordering) (s : ℕ) (key : K) (value : V) → HasEntered R Bare s key value (Fork s Bare key value Bare)
no_entry_here R s key value =
    let m = is_max 0 0 in
    record { has = refl; places = λ q. omega arith; balanced = (tt, tt, omega arith, omega arith); low = omega arith; high = omega arith }

no_entry_yet : {K V : Type 0} {R : K → K → Ordering} {s : ℕ} {key : K} {value : V} {t : Shape K V} → t ≡ Bare → HasEntered R t s key value (Fork s Bare key value Bare)
no_entry_yet {R = R} {s} {key} {value} none = subst (λ t. HasEntered R t s key value (Fork s Bare key value Bare)) (sym none) (no_entry_here R s key value)

-- an entry is alone where no node hung from the link
pub alone_enters : {K V : Type 0} {R : K → K → Ordering} {ns ms : List (Node K V)} {i s j : ℕ} {key : K} {value : V} (t : Shape K V) → CanEnter R ns i key s t → slice_get ns i ≡ None
    → Under ms j (Fork s Bare key value Bare) → Changed (is_at s) ns ms → (u : Shape K V) × Under ms j u × HasEntered R t s key value u × Changed (λ q. times q t + is_at s q) ns ms
alone_enters {s = s} {key = key} {value = value} t e none under changed = (Fork s Bare key value Bare, under, no_entry_yet (bare t e.under none), changed_more changed (λ q. omega arith))

pub nothing_there : {K V : Type 0} {ns : List (Node K V)} {i : ℕ} {t : Shape K V} → Under ns i t → i ≡ 4294967295 → slice_get ns i ≡ None
nothing_there {ns = ns} {i} u none = slice_get_past ns i (omega (arith, u.few, none))
