-- A node moves from the list of one tag to that of another, or leaves or joins the list of a waiter.
use Rattle.std.proofs.Common.{◌≡◌, ℕ, ◌<◌, ◌≤◌, ◌≢◌, Bool, true, false, true≢false, cond, List, ◌∷◌, length, Option, Some, None, refl, sym, ap, ◌∙◌, subst, arith, eq-eqb, ne_eqb, ⊎_elim}
use Rattle.std.specs.Prelude.{slice_get, ◌==◌}
use Rattle.std.proofs.lemmas.Bool.{cases_eq}
use Rattle.std.proofs.lemmas.Option.{slice_get_within}
use Rattle.wait_lists.specs.declared.waiter.Waiter.{Waiter}
use Rattle.wait_lists.specs.Chains.{none, loose, Link, Links, has_tag, IsList, leave, changed, upd, with_next, with_prev, at_front, cut, put, first_after}
use Rattle.wait_lists.specs.Nodes.{refirst, first_at, HasRows}
use Rattle.wait_lists.proofs.Chains.{upd-same, list-cut, list-put_here, list-put_other, tag-cut_other, tag-cut_here, tag-put_other, tag-put_at}

changed-some : (f : Link → Link) (o : Option Link) (l : Link) → o ≡ Some l → changed f o ≡ Some (f l)
changed-some f o l is = ap (changed f) is

upd-some : (i : ℕ) (f : Link → Link) (L : Links) (j : ℕ) (l : Link) → L j ≡ Some l → (k : Link) × (upd i f L j ≡ Some k)
upd-some i f L j l is = by_test (j == i)
  where
    by_test : (b : Bool) → (k : Link) × (cond b (changed f (L j)) (L j) ≡ Some k)
    by_test true = (f l, changed-some f (L j) l is)
    by_test false = (l, is)

-- a node that was cut out has the tag of those that are out
pub cut-here : (L : Links) (t i : ℕ) (l : Link) → L i ≡ Some l → (k : Link) × (cut t i l L i ≡ Some k) × (k.tag ≡ t)
cut-here L t i l here =
    let one = upd-some l.prev (with_next l.next) L i l here in
    let two = upd-some l.next (with_prev l.prev) (upd l.prev (with_next l.next) L) i one.0 one.1 in (
      at_front t none two.0,
      upd-same i i (at_front t none) (upd l.next (with_prev l.prev) (upd l.prev (with_next l.next) L)) refl ∙ changed-some (at_front t none) (upd l.next (with_prev l.prev) (upd l.prev (with_next l.next) L) i) two.0 two.1,
      refl,
    )

pub IsSome-tag : (o : Option Link) (l : Link) → o ≡ Some l → has_tag l.tag o ≡ true
IsSome-tag o l is = ap (has_tag l.tag) is ∙ eq-eqb l.tag l.tag refl

pub tag-none : (c : ℕ) (o : Option Link) (l : Link) → o ≡ Some l → has_tag c o ≡ true → l.tag ≡ c
tag-none c o l is tagged = ⊎_elim (λ e. e) (λ apart. absurd (true≢false (sym tagged ∙ ap (has_tag c) is ∙ ne_eqb l.tag c apart))) (cases_eq l.tag c)

pub untagged : (t i c : ℕ) → (t == c) ≡ true → t ≡ c
untagged t i c is = ⊎_elim (λ e. e) (λ apart. absurd (true≢false (sym is ∙ ne_eqb t c apart))) (cases_eq t c)

-- from its list to that of the tag d
module _ (E0 E1 E2 : Links) (outside0 : E0 none ≡ None) (outside1 : E1 none ≡ None) (i : ℕ) (l : Link) (here : E0 i ≡ Some l) (listed : 0 < l.tag) (d : ℕ) (is_list : 0 < d)
    (first0 first1 first2 : ℕ → ℕ) (lists : (c : ℕ) → 0 < c → (ns : List ℕ) × IsList E0 c (first0 c) ns)
    (e1 : (j : ℕ) → E1 j ≡ cut loose i l E0 j) (f1 : (c : ℕ) → first1 c ≡ first_after c l (first0 c))
    (e2 : (j : ℕ) → E2 j ≡ put d i (first1 d) E1 j) (f2 : (c : ℕ) → first2 c ≡ cond (c == d) i (first1 c)) where
  own : (ns : List ℕ) × IsList E0 l.tag (first0 l.tag) ns
  own = lists l.tag listed

  pub cut_out : (c : ℕ) (ns : List ℕ) → 0 < c → IsList E0 c (first0 c) ns → IsList E1 c (first1 c) (leave i ns)
  cut_out c ns some list =
      let away : c ≢ loose = λ e. absurd (omega arith) in
      let P : ℕ → Type 0 = λ f. IsList E1 c f (leave i ns) in
      let Q : Links → Type 0 = λ L. IsList L c (first_after c l (first0 c)) (leave i ns) in
      subst P (sym (f1 c)) (subst Q (λ x j. sym (e1 j) x) (list-cut E0 outside0 i l here loose c (first0 c) (first0 l.tag) ns own.0 away own.1 list))

  loose_now : (k : Link) × (E1 i ≡ Some k) × (k.tag ≡ loose)
  loose_now = let k = cut-here E0 loose i l here in (k.0, e1 i ∙ k.1, k.2)

  there : (ns : List ℕ) × IsList E1 d (first1 d) ns
  there = (leave i (lists d is_list).0, cut_out d (lists d is_list).0 is_list (lists d is_list).1)

  pub moved-here : (ns : List ℕ) → IsList E0 d (first0 d) ns → IsList E2 d (first2 d) (i ∷ leave i ns)
  moved-here ns list =
      let apart : loose_now.0.tag ≢ d = λ e. absurd (omega (arith, loose_now.2)) in
      let P : ℕ → Type 0 = λ f. IsList E2 d f (i ∷ leave i ns) in
      let Q : Links → Type 0 = λ L. IsList L d i (i ∷ leave i ns) in
      subst P (sym (f2 d ∙ ap (λ b. cond b i (first1 d)) (eq-eqb d d refl)))
      (subst Q (λ x j. sym (e2 j) x) (list-put_here E1 outside1 i d (first1 d) (leave i ns) loose_now.0 loose_now.1 apart (cut_out d ns is_list list)))

  pub moved-other : (c : ℕ) (ns : List ℕ) → 0 < c → c ≢ d → IsList E0 c (first0 c) ns → IsList E2 c (first2 c) (leave i ns)
  moved-other c ns some other list =
      let apart : loose_now.0.tag ≢ d = λ e. absurd (omega (arith, loose_now.2)) in
      let away : loose_now.0.tag ≢ c = λ e. absurd (omega (arith, loose_now.2)) in
      let P : ℕ → Type 0 = λ f. IsList E2 c f (leave i ns) in
      let Q : Links → Type 0 = λ L. IsList L c (first1 c) (leave i ns) in
      subst P (sym (f2 c ∙ ap (λ b. cond b i (first1 c)) (ne_eqb c d other)))
      (subst Q (λ x j. sym (e2 j) x) (list-put_other E1 outside1 i d (first1 d) there.0 loose_now.0 loose_now.1 apart there.1 c (first1 c) (leave i ns) other away (cut_out c ns some list)))

  pub moved-tags : (c j : ℕ) → j ≢ i → has_tag c (E2 j) ≡ has_tag c (E0 j)
  moved-tags c j other =
      let apart : loose_now.0.tag ≢ d = λ e. absurd (omega (arith, loose_now.2)) in
      ap (has_tag c) (e2 j) ∙ tag-put_other E1 outside1 i d (first1 d) there.0 loose_now.0 loose_now.1 apart there.1 c j other
      ∙ ap (has_tag c) (e1 j) ∙ tag-cut_other E0 outside0 i l here loose c j other

  pub moved-tag : (c : ℕ) → has_tag c (E2 i) ≡ (d == c)
  moved-tag c =
      let apart : loose_now.0.tag ≢ d = λ e. absurd (omega (arith, loose_now.2)) in
      ap (has_tag c) (e2 i) ∙ tag-put_at E1 outside1 i d (first1 d) there.0 loose_now.0 loose_now.1 apart there.1 c

read-refirst : (f : ℕ → ℕ) (o : Option Waiter) (w : Waiter) → refirst f o ≡ Some w → (v : Waiter) × (o ≡ Some v) × (w ≡ record v { first = f v.first })
read-refirst f None w is = let e : None ≡ Some w = is in cc
read-refirst f (Some v) w is = (v, refl, let e : Some (record v { first = f v.first }) ≡ Some w = is in cc)

-- out of the list of its waiter
module _ (W0 W1 : Links) (outside : W0 none ≡ None) (i : ℕ) (m : Link) (here : W0 i ≡ Some m) (ws vs : List Waiter) (few : length ws ≤ none) (own : Waiter) (owner : slice_get ws m.tag ≡ Some own)
    (rows : HasRows W0 ws) (w1 : (j : ℕ) → W1 j ≡ cut none i m W0 j) (firsts : (k : ℕ) → slice_get vs k ≡ refirst (first_after k m) (slice_get ws k)) where
  pub left-row : (at : ℕ) (w : Waiter) (ns : List ℕ) → slice_get ws at ≡ Some w → IsList W0 at w.first ns → IsList W1 at (first_after at m w.first) (leave i ns)
  left-row at w ns is list =
      let inside : at < length ws = slice_get_within ws at w is in
      let away : at ≢ none = λ e. absurd (omega arith) in
      let Q : Links → Type 0 = λ L. IsList L at (first_after at m w.first) (leave i ns) in
      subst Q (λ x j. sym (w1 j) x) (list-cut W0 outside i m here none at w.first own.first ns (rows m.tag own owner).0 away (rows m.tag own owner).1 list)

  pub left-rows : HasRows W1 vs
  left-rows at v is =
      let one = read-refirst (first_after at m) (slice_get ws at) v (sym (firsts at) ∙ is) in
      let row = rows at one.0 one.1 in
      let P : Waiter → Type 0 = λ w. IsList W1 at w.first (leave i row.0) in
      (leave i row.0, subst P (sym one.2) (left-row at one.0 row.0 one.1 row.1))

  pub left-tags : (c j : ℕ) → j ≢ i → has_tag c (W1 j) ≡ has_tag c (W0 j)
  left-tags c j other = ap (has_tag c) (w1 j) ∙ tag-cut_other W0 outside i m here none c j other

  pub left-tag : (c : ℕ) → has_tag c (W1 i) ≡ (none == c)
  left-tag c = ap (has_tag c) (w1 i) ∙ tag-cut_here W0 outside i m here none c

-- into the list of a waiter
module _ (W0 W1 : Links) (outside : W0 none ≡ None) (i : ℕ) (k : Link) (here : W0 i ≡ Some k) (out : k.tag ≡ none) (ws vs : List Waiter) (few : length ws ≤ none) (at : ℕ) (own : Waiter) (owner : slice_get ws at ≡ Some own)
    (rows : HasRows W0 ws) (w1 : (j : ℕ) → W1 j ≡ put at i own.first W0 j) (firsts : (n : ℕ) → slice_get vs n ≡ refirst (first_at at i n) (slice_get ws n)) where
  apart : k.tag ≢ at
  apart e = let inside : at < length ws = slice_get_within ws at own owner in absurd (omega arith)

  pub joined-here : (ns : List ℕ) → IsList W0 at own.first ns → IsList W1 at i (i ∷ ns)
  joined-here ns list = let Q : Links → Type 0 = λ L. IsList L at i (i ∷ ns) in subst Q (λ x j. sym (w1 j) x) (list-put_here W0 outside i at own.first ns k here apart list)

  pub joined-other : (n : ℕ) (w : Waiter) (ns : List ℕ) → slice_get ws n ≡ Some w → n ≢ at → IsList W0 n w.first ns → IsList W1 n w.first ns
  joined-other n w ns is other list =
      let inside : n < length ws = slice_get_within ws n w is in
      let away : k.tag ≢ n = λ e. absurd (omega arith) in
      let Q : Links → Type 0 = λ L. IsList L n w.first ns in
      subst Q (λ x j. sym (w1 j) x) (list-put_other W0 outside i at own.first (rows at own owner).0 k here apart (rows at own owner).1 n w.first ns other away list)

  pub joined-rows : HasRows W1 vs
  joined-rows n v is =
      let one = read-refirst (first_at at i n) (slice_get ws n) v (sym (firsts n) ∙ is) in
      let row = rows n one.0 one.1 in
      ⊎_elim
      (λ (e : n ≡ at).
      let same : Some one.0 ≡ Some own = sym one.1 ∙ ap (slice_get ws) e ∙ owner in
      let w_is : one.0 ≡ own = cc in
      let first_is : v.first ≡ i = ap (λ w. w.first) one.2 ∙ ap (λ b. cond b i one.0.first) (eq-eqb n at e) in
      let P : ℕ → Type 0 = λ f. IsList W1 n f (i ∷ row.0) in
      let R : ℕ → Type 0 = λ m. IsList W1 m i (i ∷ row.0) in
      let S : ℕ → Type 0 = λ m. IsList W0 m own.first row.0 in
      let T : Waiter → Type 0 = λ w. IsList W0 n w.first row.0 in
      (i ∷ row.0, subst P (sym first_is) (subst R (sym e) (joined-here row.0 (subst S e (subst T w_is row.1))))))
      (λ other.
      let first_is : v.first ≡ one.0.first = ap (λ w. w.first) one.2 ∙ ap (λ b. cond b i one.0.first) (ne_eqb n at other) in
      let P : ℕ → Type 0 = λ f. IsList W1 n f row.0 in
      (row.0, subst P (sym first_is) (joined-other n one.0 row.0 one.1 other row.1)))
      (cases_eq n at)

  pub joined-tags : (c j : ℕ) → j ≢ i → has_tag c (W1 j) ≡ has_tag c (W0 j)
  joined-tags c j other = ap (has_tag c) (w1 j) ∙ tag-put_other W0 outside i at own.first (rows at own owner).0 k here apart (rows at own owner).1 c j other

  pub joined-tag : (c : ℕ) → has_tag c (W1 i) ≡ (at == c)
  joined-tag c = ap (has_tag c) (w1 i) ∙ tag-put_at W0 outside i at own.first (rows at own owner).0 k here apart (rows at own owner).1 c
