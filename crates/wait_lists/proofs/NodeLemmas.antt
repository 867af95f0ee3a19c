-- The links of nodes, read and changed.
use Rattle.std.proofs.Common.{◌≡◌, ℕ, ◌<◌, ◌≤◌, ◌≢◌, Bool, true, false, true≢false, cond, ◌&&◌, List, [], ◌∷◌, length, get_or, Option, Some, None, refl, sym, ap, ◌∙◌, arith, eq-eqb, ne_eqb}
use Rattle.std.specs.Prelude.{slice_get, ◌==◌, is_some}
use Rattle.std.proofs.lemmas.Bool.Decides.{nat_tests}
use Rattle.std.proofs.lemmas.Option.{slice_get_read, slice_get_past, slice_get_within}
use Rattle.wait_lists.specs.declared.nodes.Node.{Node}
use Rattle.wait_lists.specs.declared.waiter.Waiter.{Waiter}
use Rattle.wait_lists.specs.Chains.{none, Link, Links, IsList, has_tag, upd, with_next, with_prev, at_front, cut, first_after}
use Rattle.wait_lists.specs.Nodes.{event_link, wait_link, by_event, by_wait, refirst}
use Rattle.wait_lists.proofs.Counted.{times-same}
use Rattle.wait_lists.proofs.Chains.{In, lives}

module _ (nodes : List Node) where
  pub outside-event : length nodes ≤ none → by_event nodes none ≡ None
  outside-event few = ap event_link (slice_get_past nodes none few)

  pub outside-wait : length nodes ≤ none → by_wait nodes none ≡ None
  outside-wait few = ap wait_link (slice_get_past nodes none few)

  module _ (i : ℕ) (n : Node) (inside : i < length nodes) (read : n ≡ get_or nodes i n) where
    pub event-read : by_event nodes i ≡ Some (record { tag = n.code; next = n.next; prev = n.prev })
    event-read = ap event_link (slice_get_read nodes (length nodes) i n refl inside read)

    pub wait-read : by_wait nodes i ≡ Some (record { tag = n.waiter; next = n.after; prev = n.before })
    wait-read = ap wait_link (slice_get_read nodes (length nodes) i n refl inside read)

  pub event-within : (j : ℕ) → is_some (by_event nodes j) ≡ true → j < length nodes
  event-within j is = by_node (slice_get nodes j) refl is
    where
      by_node : (o : Option Node) → slice_get nodes j ≡ o → is_some (event_link o) ≡ true → j < length nodes
      by_node None found is = absurd (true≢false (sym is))
      by_node (Some n) found is = slice_get_within nodes j n found

  pub wait-within : (j : ℕ) → is_some (by_wait nodes j) ≡ true → j < length nodes
  wait-within j is = by_node (slice_get nodes j) refl is
    where
      by_node : (o : Option Node) → slice_get nodes j ≡ o → is_some (wait_link o) ≡ true → j < length nodes
      by_node None found is = absurd (true≢false (sym is))
      by_node (Some n) found is = slice_get_within nodes j n found

-- a node stands in both
pub wait-there : (nodes : List Node) (i : ℕ) (l : Link) → by_event nodes i ≡ Some l → (m : Link) × (by_wait nodes i ≡ Some m)
wait-there nodes i l here = by_node (slice_get nodes i) here
  where
    by_node : (o : Option Node) → event_link o ≡ Some l → (m : Link) × (wait_link o ≡ Some m)
    by_node None is = let e : None ≡ Some l = is in cc
    by_node (Some n) is = (record { tag = n.waiter; next = n.after; prev = n.before }, refl)

pub event-there : (nodes : List Node) (i : ℕ) (m : Link) → by_wait nodes i ≡ Some m → (l : Link) × (by_event nodes i ≡ Some l)
event-there nodes i m here = by_node (slice_get nodes i) here
  where
    by_node : (o : Option Node) → wait_link o ≡ Some m → (l : Link) × (event_link o ≡ Some l)
    by_node None is = let e : None ≡ Some m = is in cc
    by_node (Some n) is = (record { tag = n.code; next = n.next; prev = n.prev }, refl)

pub same_link : (o : Option Link) (k l : Link) → o ≡ Some k → o ≡ Some l → k ≡ l
same_link o k l here also = let e : Some k ≡ Some l = sym here ∙ also in cc

-- three writes cut a node out
pub cut-made : (L A B C : Links) (i t : ℕ) (k l : Link) → k ≡ l → ((j : ℕ) → A j ≡ upd k.prev (with_next k.next) L j) → ((j : ℕ) → B j ≡ upd k.next (with_prev k.prev) A j)
    → ((j : ℕ) → C j ≡ upd i (at_front t none) B j) → (j : ℕ) → C j ≡ cut t i l L j
cut-made L A B C i t k l same a b c j =
    c j
    ∙ ap (λ X. upd i (at_front t none) X j) (λ x n. b n x)
    ∙ ap (λ X. upd i (at_front t none) (upd k.next (with_prev k.prev) X) j) (λ x n. a n x)
    ∙ ap (λ m. cut t i m L j) same

eqb_swap : (a b : ℕ) → (a == b) ≡ (b == a)
eqb_swap a b = grind (arith, nat_tests)

and_true : (b : Bool) → (b && true) ≡ b
and_true true = refl
and_true false = refl

and_false : (b : Bool) → (b && false) ≡ false
and_false true = refl
and_false false = refl

-- the list of a node that was the first begins behind it
pub first-then : (k l : Link) → k ≡ l → k.prev ≡ none → (c f x : ℕ) → x ≡ cond (c == k.tag) k.next f → x ≡ first_after c l f
first-then k l same is c f x begins =
    begins
    ∙ ap (λ b. cond b k.next f) (eqb_swap c k.tag ∙ sym (and_true (k.tag == c)) ∙ ap (λ b. (k.tag == c) && b) (sym (eq-eqb k.prev none is)))
    ∙ ap (λ m. first_after c m f) same

pub first-else : (k l : Link) → k ≡ l → k.prev ≢ none → (c f x : ℕ) → x ≡ f → x ≡ first_after c l f
first-else k l same apart c f x begins =
    begins
    ∙ sym (ap (λ b. cond b k.next f) (ap (λ b. (k.tag == c) && b) (ne_eqb k.prev none apart) ∙ and_false (k.tag == c)))
    ∙ ap (λ m. first_after c m f) same

pub refirst-same : (f g : ℕ → ℕ) (o : Option Waiter) → ((x : ℕ) → f x ≡ g x) → refirst f o ≡ refirst g o
refirst-same f g None same = refl
refirst-same f g (Some w) same = ap (λ x. Some (record w { first = x })) (same w.first)

pub refirst-kept : (g : ℕ → ℕ) (o : Option Waiter) → ((x : ℕ) → x ≡ g x) → o ≡ refirst g o
refirst-kept g None same = refl
refirst-kept g (Some w) same = ap (λ x. Some (record w { first = x })) (same w.first)

-- a list with a node begins somewhere
pub first-there : (L : Links) → L none ≡ None → (c first : ℕ) (ns : List ℕ) (i : ℕ) → IsList L c first ns → In i ns → first ≢ none
first-there L outside c first [] i list member e = omega arith
first-there L outside c first (x ∷ xs) i list member e =
    true≢false (sym (lives L c first (x ∷ xs) list x (omega (arith, times-same x x xs refl))) ∙ ap (λ k. has_tag c (L k)) (sym list.goes.0 ∙ e) ∙ ap (has_tag c) outside)
