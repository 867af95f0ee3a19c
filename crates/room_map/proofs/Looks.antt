-- What a look down one side of a tree tells of the whole tree.
use Rattle.std.proofs.Common.{◌≡◌, ℕ, ◌-◌, ◌<◌, ◌≤◌, List, length, Option, Some, None, sym, ap, ◌∙◌, subst, arith}
use Rattle.std.specs.Prelude.{slice_get}
use Rattle.std.specs.declared.cmp.Ordering.{Ordering}
use Rattle.std.specs.declared.cmp.Ordering.TheVariants.{Less, Equal, Greater}
use Rattle.std.specs.Cmp.{IsTotalOrder}
use Rattle.std.specs.FinMap.{find}
use Rattle.room_map.specs.declared.nodes.Node.{Node}
use Rattle.room_map.specs.Shape.{Shape, entries}
use Rattle.room_map.specs.Entries.{IsRising, first_not_below}
use Rattle.room_map.specs.Nodes.{Under}
use Rattle.room_map.proofs.Held.{IsOver, bare, forked}
use Rattle.room_map.proofs.Places.{before_item, at_item, behind_item}
use Rattle.room_map.proofs.Cuts.{cut_over, left_rises, right_rises, find_left, find_right, find_here, first_left, first_right, first_here}

module _ {K V : Type 0} {ns : List (Node K V)} {i : ℕ} {n : Node K V} {t : Shape K V} where
  -- ---- what hangs from one of the links

  pub under_left : Under ns i t → slice_get ns i ≡ Some n → (l : Shape K V) × Under ns n.left l
  under_left u there = over (forked t u there)
    where
      over : IsOver ns i t n → (l : Shape K V) × Under ns n.left l
      over o = (o.l, o.node.left)

  pub under_right : Under ns i t → slice_get ns i ≡ Some n → (r : Shape K V) × Under ns n.right r
  under_right u there = over (forked t u there)
    where
      over : IsOver ns i t n → (r : Shape K V) × Under ns n.right r
      over o = (o.r, o.node.right)

  -- ---- the entry at a place of the order

  pub kth_left : {b k : ℕ} {found : Option (K × V)} → Under ns i t → slice_get ns i ≡ Some n → ((l : Shape K V) → Under ns n.left l → b ≡ length (entries l)) → k < b
      → ((l : Shape K V) → Under ns n.left l → found ≡ slice_get (entries l) k) → found ≡ slice_get (entries t) k
  kth_left {b} {k} {found} u there count low below = over (forked t u there)
    where
      over : IsOver ns i t n → found ≡ slice_get (entries t) k
      over o = below o.l o.node.left ∙ sym (ap (λ t. slice_get (entries t) k) o.is ∙ before_item (entries o.l) (n.key, n.value) (entries o.r) k (subst (λ (x : ℕ). k < x) (count o.l o.node.left) low))

  pub kth_right : {b k : ℕ} {found : Option (K × V)} → Under ns i t → slice_get ns i ≡ Some n → ((l : Shape K V) → Under ns n.left l → b ≡ length (entries l)) → b < k
      → ((r : Shape K V) → Under ns n.right r → found ≡ slice_get (entries r) (k - b - 1)) → found ≡ slice_get (entries t) k
  kth_right {b} {k} {found} u there count high below = over (forked t u there)
    where
      over : IsOver ns i t n → found ≡ slice_get (entries t) k
      over o = below o.r o.node.right ∙ sym (ap (λ t. slice_get (entries t) k) o.is ∙ behind_item (entries o.l) (n.key, n.value) (entries o.r) k (k - b - 1) (omega (arith, count o.l o.node.left, high)))

  pub kth_here : {b k : ℕ} → Under ns i t → slice_get ns i ≡ Some n → ((l : Shape K V) → Under ns n.left l → b ≡ length (entries l)) → b ≤ k → k ≤ b → Some (n.key, n.value) ≡ slice_get (entries t) k
  kth_here {b} {k} u there count low high = over (forked t u there)
    where
      over : IsOver ns i t n → Some (n.key, n.value) ≡ slice_get (entries t) k
      over o = sym (ap (λ t. slice_get (entries t) k) o.is ∙ at_item (entries o.l) (n.key, n.value) (entries o.r) k (omega (arith, count o.l o.node.left, low, high)))

module _ {K V : Type 0} {R : K → K → Ordering} (ord : IsTotalOrder R) {ns : List (Node K V)} {i : ℕ} {n : Node K V} {t : Shape K V} {key : K} where
  -- ---- the value at a key, and the first entry from a key on

  pub find_on_left : {found : Option V} → Under ns i t → IsRising R (entries t) → slice_get ns i ≡ Some n → R key n.key ≡ Less
      → ((l : Shape K V) → Under ns n.left l → IsRising R (entries l) → found ≡ find R key (entries l)) → found ≡ find R key (entries t)
  find_on_left {found} u rises there less below = over (forked t u there)
    where
      over : IsOver ns i t n → found ≡ find R key (entries t)
      over o = let cut = cut_over R o rises in below o.l o.node.left (left_rises ord cut) ∙ sym (find_left ord key cut less)

  pub find_on_right : {found : Option V} → Under ns i t → IsRising R (entries t) → slice_get ns i ≡ Some n → R key n.key ≡ Greater
      → ((r : Shape K V) → Under ns n.right r → IsRising R (entries r) → found ≡ find R key (entries r)) → found ≡ find R key (entries t)
  find_on_right {found} u rises there more below = over (forked t u there)
    where
      over : IsOver ns i t n → found ≡ find R key (entries t)
      over o = let cut = cut_over R o rises in below o.r o.node.right (right_rises ord cut) ∙ sym (find_right ord key cut more)

  pub find_at_node : Under ns i t → IsRising R (entries t) → slice_get ns i ≡ Some n → R key n.key ≡ Equal → Some n.value ≡ find R key (entries t)
  find_at_node u rises there equal = over (forked t u there)
    where
      over : IsOver ns i t n → Some n.value ≡ find R key (entries t)
      over o = sym (find_here ord key (cut_over R o rises) equal)

  pub first_on_right : {found : Option (K × V)} → Under ns i t → IsRising R (entries t) → slice_get ns i ≡ Some n → R n.key key ≡ Less
      → ((r : Shape K V) → Under ns n.right r → IsRising R (entries r) → found ≡ first_not_below R key (entries r)) → found ≡ first_not_below R key (entries t)
  first_on_right {found} u rises there less below = over (forked t u there)
    where
      over : IsOver ns i t n → found ≡ first_not_below R key (entries t)
      over o = let cut = cut_over R o rises in below o.r o.node.right (right_rises ord cut) ∙ sym (first_right ord key cut less)

  pub first_at_node : {found : Option (K × V)} → Under ns i t → IsRising R (entries t) → slice_get ns i ≡ Some n → (R n.key key ≡ Less → ⊥)
      → ((l : Shape K V) → Under ns n.left l → IsRising R (entries l) → found ≡ first_not_below R key (entries l)) → found ≡ None → Some (n.key, n.value) ≡ first_not_below R key (entries t)
  first_at_node {found} u rises there more below none = over (forked t u there)
    where
      over : IsOver ns i t n → Some (n.key, n.value) ≡ first_not_below R key (entries t)
      over o = let cut = cut_over R o rises in sym (first_here ord key cut more (sym (below o.l o.node.left (left_rises ord cut)) ∙ none))

module _ {K V : Type 0} {R : K → K → Ordering} (ord : IsTotalOrder R) {ns : List (Node K V)} {i : ℕ} {n : Node K V} {t : Shape K V} where
  pub first_on_left : (key : K) {found : Option (K × V)} {e : K × V} → Under ns i t → IsRising R (entries t) → slice_get ns i ≡ Some n
      → ((l : Shape K V) → Under ns n.left l → IsRising R (entries l) → found ≡ first_not_below R key (entries l)) → found ≡ Some e → Some e ≡ first_not_below R key (entries t)
  first_on_left key {found} {e} u rises there below some = over (forked t u there)
    where
      over : IsOver ns i t n → Some e ≡ first_not_below R key (entries t)
      over o = let cut = cut_over R o rises in sym (first_left ord key e cut (sym (below o.l o.node.left (left_rises ord cut)) ∙ some))

-- a tree hangs from the link in which the key is found as it is among these entries
pub record IsSought {K V : Type 0} (R : K → K → Ordering) (ns : List (Node K V)) (i : ℕ) (key : K) (es : List (K × V)) : Type 0 where
  pub tree : Shape K V
  pub under : Under ns i tree
  pub rises : IsRising R (entries tree)
  pub same : find R key (entries tree) ≡ find R key es

module _ {K V : Type 0} {R : K → K → Ordering} (ord : IsTotalOrder R) {ns : List (Node K V)} {i : ℕ} {n : Node K V} {key : K} {es : List (K × V)} where
  pub sought_left : IsSought R ns i key es → slice_get ns i ≡ Some n → R key n.key ≡ Less → IsSought R ns n.left key es
  sought_left s there less = over (forked s.tree s.under there)
    where
      over : IsOver ns i s.tree n → IsSought R ns n.left key es
      over o = let cut = cut_over R o s.rises in record { tree = o.l; under = o.node.left; rises = left_rises ord cut; same = sym (find_left ord key cut less) ∙ s.same }

  pub sought_right : IsSought R ns i key es → slice_get ns i ≡ Some n → R key n.key ≡ Greater → IsSought R ns n.right key es
  sought_right s there more = over (forked s.tree s.under there)
    where
      over : IsOver ns i s.tree n → IsSought R ns n.right key es
      over o = let cut = cut_over R o s.rises in record { tree = o.r; under = o.node.right; rises = right_rises ord cut; same = sym (find_right ord key cut more) ∙ s.same }

  pub sought_here : IsSought R ns i key es → slice_get ns i ≡ Some n → R key n.key ≡ Equal → Some n.value ≡ find R key es
  sought_here s there equal = find_at_node ord s.under s.rises there equal ∙ s.same

module _ {K V : Type 0} {R : K → K → Ordering} {ns : List (Node K V)} {i : ℕ} {key : K} {es : List (K × V)} where
  pub sought_nowhere : IsSought R ns i key es → slice_get ns i ≡ None → None ≡ find R key es
  sought_nowhere s none = sym (ap (λ t. find R key (entries t)) (bare s.tree s.under none)) ∙ s.same
