-- A node is cut out of its list, or put at the front of one: what becomes of each list.
use Rattle.std.proofs.Common.{◌≡◌, ℕ, zero, suc, ◌+◌, ◌<◌, ◌≤◌, ◌≢◌, Bool, true, false, true≢false, cond, ◌&&◌, List, [], ◌∷◌, length, Option, Some, None, refl, sym, ap, ◌∙◌, subst, arith, eq-eqb, ne_eqb, ◌⊎◌, ⊎_elim, inl, inr}
use Rattle.std.specs.Prelude.{◌==◌, is_some}
use Rattle.std.proofs.lemmas.Bool.{cases_eq}
use Rattle.wait_lists.specs.Chains.{none, Link, Links, next_of, prev_of, has_tag, Goes, IsList, leave, changed, upd, with_next, with_prev, at_front, cut, put, first_after, begun, walk}
use Rattle.wait_lists.proofs.Counted.{times, times-same, times-other}

-- a number stands in the list
abbrev pub In : ℕ → List ℕ → Type 0
In i ns = 1 ≤ times i ns

-- no number stands there twice
abbrev pub Once : List ℕ → Type 0
Once ns = (i : ℕ) → times i ns ≤ 1

in_here : (i x : ℕ) (xs : List ℕ) → x ≡ i → In i (x ∷ xs)
in_here i x xs e = omega (arith, times-same i x xs e)

in_there : (i x : ℕ) (xs : List ℕ) → In i xs → In i (x ∷ xs)
in_there i x xs h = ⊎_elim (λ (e : x ≡ i). in_here i x xs e) (λ apart. omega (arith, times-other i x xs apart)) (cases_eq x i)

in_rest : (i x : ℕ) (xs : List ℕ) → x ≢ i → In i (x ∷ xs) → In i xs
in_rest i x xs apart h = omega (arith, times-other i x xs apart)

times-le : (i x : ℕ) (xs : List ℕ) → times i xs ≤ times i (x ∷ xs)
times-le i x xs = ⊎_elim (λ (e : x ≡ i). omega (arith, times-same i x xs e)) (λ apart. omega (arith, times-other i x xs apart)) (cases_eq x i)

once_rest : (x : ℕ) (xs : List ℕ) → Once (x ∷ xs) → Once xs
once_rest x xs once i = omega (arith, times-le i x xs, once i)

-- the first does not stand behind itself
first_apart : (x j : ℕ) (xs : List ℕ) → Once (x ∷ xs) → In j xs → j ≢ x
first_apart x j xs once member e = omega (arith, times-same j x xs (sym e), once j)

out_apart : (b j : ℕ) (xs : List ℕ) → times b xs ≡ 0 → In j xs → j ≢ b
out_apart b j xs out member e = omega (arith, ap (λ k. times k xs) e)

pub leave-none : (i : ℕ) (xs : List ℕ) → times i xs ≡ 0 → leave i xs ≡ xs
leave-none i [] out = refl
leave-none i (x ∷ xs) out = ⊎_elim
    (λ (e : x ≡ i). absurd (omega (arith, times-same i x xs e)))
    (λ apart. ap (λ b. cond b (leave i xs) (x ∷ leave i xs)) (ne_eqb x i apart) ∙ ap (λ l. x ∷ l) (leave-none i xs (omega (arith, times-other i x xs apart))))
    (cases_eq x i)

leave-here : (i x : ℕ) (xs : List ℕ) → x ≡ i → leave i (x ∷ xs) ≡ leave i xs
leave-here i x xs e = ap (λ b. cond b (leave i xs) (x ∷ leave i xs)) (eq-eqb x i e)

leave-there : (i x : ℕ) (xs : List ℕ) → x ≢ i → leave i (x ∷ xs) ≡ x ∷ leave i xs
leave-there i x xs apart = ap (λ b. cond b (leave i xs) (x ∷ leave i xs)) (ne_eqb x i apart)

pub times-leave_same : (i : ℕ) (xs : List ℕ) → times i (leave i xs) ≡ 0
times-leave_same i [] = refl
times-leave_same i (x ∷ xs) = ⊎_elim
    (λ (e : x ≡ i). ap (times i) (leave-here i x xs e) ∙ times-leave_same i xs)
    (λ apart. ap (times i) (leave-there i x xs apart) ∙ times-other i x (leave i xs) apart ∙ times-leave_same i xs)
    (cases_eq x i)

pub times-leave_other : (i j : ℕ) (xs : List ℕ) → j ≢ i → times j (leave i xs) ≡ times j xs
times-leave_other i j [] other = refl
times-leave_other i j (x ∷ xs) other = ⊎_elim
    (λ (e : x ≡ i). ap (times j) (leave-here i x xs e) ∙ times-leave_other i j xs other ∙ sym (times-other j x xs (λ f. other (sym f ∙ e))))
    (λ apart. ap (times j) (leave-there i x xs apart) ∙ ⊎_elim
    (λ (f : x ≡ j). times-same j x (leave i xs) f ∙ ap (λ n. 1 + n) (times-leave_other i j xs other) ∙ sym (times-same j x xs f))
    (λ away. times-other j x (leave i xs) away ∙ times-leave_other i j xs other ∙ sym (times-other j x xs away))
    (cases_eq x j))
    (cases_eq x i)

pub length-leave : (i : ℕ) (xs : List ℕ) → length (leave i xs) + times i xs ≡ length xs
length-leave i [] = refl
length-leave i (x ∷ xs) = ⊎_elim
    (λ (e : x ≡ i). omega (arith, ap length (leave-here i x xs e), times-same i x xs e, length-leave i xs))
    (λ apart. omega (arith, ap length (leave-there i x xs apart), times-other i x xs apart, length-leave i xs))
    (cases_eq x i)

-- links that are the same at each node of the list go over the same nodes
pub goes-same : (L M : Links) (ns : List ℕ) (b at : ℕ) → ((j : ℕ) → In j ns → next_of (M j) ≡ next_of (L j)) → ((j : ℕ) → In j ns → prev_of (M j) ≡ prev_of (L j))
    → Goes L b at ns → Goes M b at ns
goes-same L M [] b at nexts prevs goes = goes
goes-same L M (x ∷ xs) b at nexts prevs goes =
    let here : In x (x ∷ xs) = in_here x x xs refl in
    let P : ℕ → Type 0 = λ n. Goes M x n xs in
    (goes.0, prevs x here ∙ goes.1, subst P (sym (nexts x here)) (goes-same L M xs x (next_of (L x)) (λ j m. nexts j (in_there j x xs m)) (λ j m. prevs j (in_there j x xs m)) goes.2))

-- the nodes that a node of the list knows stand there too
prev-in : (L : Links) (ns : List ℕ) (b at i : ℕ) → Goes L b at ns → In i ns → (prev_of (L i) ≡ b) ⊎ In (prev_of (L i)) ns
prev-in L [] b at i goes member = absurd (omega arith)
prev-in L (x ∷ xs) b at i goes member = ⊎_elim
    (λ (e : x ≡ i). inl (ap (λ k. prev_of (L k)) (sym e) ∙ goes.1))
    (λ apart. inr (⊎_elim
    (λ (e : prev_of (L i) ≡ x). in_here (prev_of (L i)) x xs (sym e))
    (λ m. in_there (prev_of (L i)) x xs m)
    (prev-in L xs x (next_of (L x)) i goes.2 (in_rest i x xs apart member))))
    (cases_eq x i)

first-in : (L : Links) (ns : List ℕ) (b at : ℕ) → Goes L b at ns → (at ≡ none) ⊎ In at ns
first-in L [] b at goes = inl goes
first-in L (x ∷ xs) b at goes = inr (in_here at x xs (sym goes.0))

next-in : (L : Links) (ns : List ℕ) (b at i : ℕ) → Goes L b at ns → In i ns → (next_of (L i) ≡ none) ⊎ In (next_of (L i)) ns
next-in L [] b at i goes member = absurd (omega arith)
next-in L (x ∷ xs) b at i goes member = ⊎_elim
    (λ e. inl e)
    (λ m. inr (in_there (next_of (L i)) x xs m))
    (⊎_elim
    (λ (e : x ≡ i). let P : ℕ → Type 0 = λ k. (next_of (L k) ≡ none) ⊎ In (next_of (L k)) xs in subst P e (first-in L xs x (next_of (L x)) goes.2))
    (λ apart. next-in L xs x (next_of (L x)) i goes.2 (in_rest i x xs apart member))
    (cases_eq x i))

next-changed : (f : Link → Link) → ((l : Link) → (f l).next ≡ l.next) → (o : Option Link) → next_of (changed f o) ≡ next_of o
next-changed f keeps None = refl
next-changed f keeps (Some l) = keeps l

prev-changed : (f : Link → Link) → ((l : Link) → (f l).prev ≡ l.prev) → (o : Option Link) → prev_of (changed f o) ≡ prev_of o
prev-changed f keeps None = refl
prev-changed f keeps (Some l) = keeps l

tag-changed : (f : Link → Link) → ((l : Link) → (f l).tag ≡ l.tag) → (c : ℕ) (o : Option Link) → has_tag c (changed f o) ≡ has_tag c o
tag-changed f keeps c None = refl
tag-changed f keeps c (Some l) = ap (λ t. t == c) (keeps l)

-- what a test chooses
picked : {X Y : Type 0} (g : X → Y) (b : Bool) (x y : X) (z : Y) → g x ≡ z → g y ≡ z → g (cond b x y) ≡ z
picked g true x y z p q = p
picked g false x y z p q = q

pub upd-same : (i j : ℕ) (f : Link → Link) (L : Links) → j ≡ i → upd i f L j ≡ changed f (L j)
upd-same i j f L e = ap (λ b. cond b (changed f (L j)) (L j)) (eq-eqb j i e)

pub upd-other : (i j : ℕ) (f : Link → Link) (L : Links) → j ≢ i → upd i f L j ≡ L j
upd-other i j f L apart = ap (λ b. cond b (changed f (L j)) (L j)) (ne_eqb j i apart)

next-upd_prev : (i p j : ℕ) (L : Links) → next_of (upd i (with_prev p) L j) ≡ next_of (L j)
next-upd_prev i p j L = picked next_of (j == i) (changed (with_prev p) (L j)) (L j) (next_of (L j)) (next-changed (with_prev p) (λ _. refl) (L j)) refl

prev-upd_next : (i n j : ℕ) (L : Links) → prev_of (upd i (with_next n) L j) ≡ prev_of (L j)
prev-upd_next i n j L = picked prev_of (j == i) (changed (with_next n) (L j)) (L j) (prev_of (L j)) (prev-changed (with_next n) (λ _. refl) (L j)) refl

pub tag-upd : (i : ℕ) (f : Link → Link) → ((l : Link) → (f l).tag ≡ l.tag) → (c j : ℕ) (L : Links) → has_tag c (upd i f L j) ≡ has_tag c (L j)
tag-upd i f keeps c j L = picked (has_tag c) (j == i) (changed f (L j)) (L j) (has_tag c (L j)) (tag-changed f keeps c (L j)) refl

next-there : (n : ℕ) (o : Option Link) → is_some o ≡ true → next_of (changed (with_next n) o) ≡ n
next-there n None is = absurd (true≢false (sym is))
next-there n (Some l) is = refl

prev-there : (p : ℕ) (o : Option Link) → is_some o ≡ true → prev_of (changed (with_prev p) o) ≡ p
prev-there p None is = absurd (true≢false (sym is))
prev-there p (Some l) is = refl

tag-front : (c first t : ℕ) (o : Option Link) → is_some o ≡ true → has_tag c (changed (at_front t first) o) ≡ (t == c)
tag-front c first t None is = absurd (true≢false (sym is))
tag-front c first t (Some l) is = refl

prev-front : (first t : ℕ) (o : Option Link) → prev_of (changed (at_front t first) o) ≡ none
prev-front first t None = refl
prev-front first t (Some l) = refl

next-front : (first t : ℕ) (o : Option Link) → is_some o ≡ true → next_of (changed (at_front t first) o) ≡ first
next-front first t None is = absurd (true≢false (sym is))
next-front first t (Some l) is = refl

tagged_is : (c : ℕ) (o : Option Link) → has_tag c o ≡ true → is_some o ≡ true
tagged_is c None is = is
tagged_is c (Some l) is = refl

upd-is : (i j : ℕ) (f : Link → Link) (L : Links) → is_some (upd i f L j) ≡ is_some (L j)
upd-is i j f L = picked is_some (j == i) (changed f (L j)) (L j) (is_some (L j)) (changed-is (L j)) refl
  where
    changed-is : (o : Option Link) → is_some (changed f o) ≡ is_some o
    changed-is None = refl
    changed-is (Some l) = refl

-- a list's nodes are there
pub lives : (L : Links) (c first : ℕ) (ns : List ℕ) → IsList L c first ns → (j : ℕ) → In j ns → has_tag c (L j) ≡ true
lives L c first ns list j member = by_test (has_tag c (L j)) (list.each j)
  where
    by_test : (b : Bool) → times j ns ≡ cond b 1 0 → b ≡ true
    by_test true is = refl
    by_test false is = absurd (omega arith)

pub once_in : (L : Links) (c first : ℕ) (ns : List ℕ) → IsList L c first ns → Once ns
once_in L c first ns list i = by_test (has_tag c (L i)) (list.each i)
  where
    by_test : (b : Bool) → times i ns ≡ cond b 1 0 → times i ns ≤ 1
    by_test true is = omega arith
    by_test false is = omega arith

pub in_list : (L : Links) (c first : ℕ) (ns : List ℕ) → IsList L c first ns → (j : ℕ) → has_tag c (L j) ≡ true → In j ns
in_list L c first ns list j is = omega (arith, list.each j ∙ ap (λ b. cond b 1 0) is)

pub out_of : (L : Links) (c first : ℕ) (ns : List ℕ) → IsList L c first ns → (j : ℕ) → has_tag c (L j) ≡ false → times j ns ≡ 0
out_of L c first ns list j is = list.each j ∙ ap (λ b. cond b 1 0) is

module _ (L : Links) (outside : L none ≡ None) (i : ℕ) (l : Link) (here : L i ≡ Some l) (t : ℕ) where
  M : Links
  M = cut t i l L

  next-other : (j : ℕ) → j ≢ i → j ≢ l.prev → next_of (M j) ≡ next_of (L j)
  unfolding M
  next-other j apart away =
      ap next_of (upd-other i j (at_front t none) (upd l.next (with_prev l.prev) (upd l.prev (with_next l.next) L)) apart)
      ∙ next-upd_prev l.next l.prev j (upd l.prev (with_next l.next) L)
      ∙ ap next_of (upd-other l.prev j (with_next l.next) L away)

  next-at : (j : ℕ) → j ≢ i → j ≡ l.prev → is_some (L j) ≡ true → next_of (M j) ≡ l.next
  unfolding M
  next-at j apart e there =
      ap next_of (upd-other i j (at_front t none) (upd l.next (with_prev l.prev) (upd l.prev (with_next l.next) L)) apart)
      ∙ next-upd_prev l.next l.prev j (upd l.prev (with_next l.next) L)
      ∙ ap next_of (upd-same l.prev j (with_next l.next) L e)
      ∙ next-there l.next (L j) there

  prev-other : (j : ℕ) → j ≢ i → j ≢ l.next → prev_of (M j) ≡ prev_of (L j)
  unfolding M
  prev-other j apart away =
      ap prev_of (upd-other i j (at_front t none) (upd l.next (with_prev l.prev) (upd l.prev (with_next l.next) L)) apart)
      ∙ ap prev_of (upd-other l.next j (with_prev l.prev) (upd l.prev (with_next l.next) L) away)
      ∙ prev-upd_next l.prev l.next j L

  prev-at : (j : ℕ) → j ≢ i → j ≡ l.next → is_some (L j) ≡ true → prev_of (M j) ≡ l.prev
  unfolding M
  prev-at j apart e there =
      ap prev_of (upd-other i j (at_front t none) (upd l.next (with_prev l.prev) (upd l.prev (with_next l.next) L)) apart)
      ∙ ap prev_of (upd-same l.next j (with_prev l.prev) (upd l.prev (with_next l.next) L) e)
      ∙ prev-there l.prev (upd l.prev (with_next l.next) L j) (upd-is l.prev j (with_next l.next) L ∙ there)

  tag-other : (c j : ℕ) → j ≢ i → has_tag c (M j) ≡ has_tag c (L j)
  unfolding M
  tag-other c j apart =
      ap (has_tag c) (upd-other i j (at_front t none) (upd l.next (with_prev l.prev) (upd l.prev (with_next l.next) L)) apart)
      ∙ tag-upd l.next (with_prev l.prev) (λ _. refl) c j (upd l.prev (with_next l.next) L)
      ∙ tag-upd l.prev (with_next l.next) (λ _. refl) c j L

  tag-here : (c : ℕ) → has_tag c (M i) ≡ (t == c)
  unfolding M
  tag-here c =
      ap (has_tag c) (upd-same i i (at_front t none) (upd l.next (with_prev l.prev) (upd l.prev (with_next l.next) L)) refl)
      ∙ tag-front c none t (upd l.next (with_prev l.prev) (upd l.prev (with_next l.next) L) i)
      (upd-is l.next i (with_prev l.prev) (upd l.prev (with_next l.next) L) ∙ upd-is l.prev i (with_next l.next) L ∙ ap is_some here)

  pub tag-cut_other : (c j : ℕ) → j ≢ i → has_tag c (cut t i l L j) ≡ has_tag c (L j)
  unfolding M
  tag-cut_other c j apart = tag-other c j apart

  pub tag-cut_here : (c : ℕ) → has_tag c (cut t i l L i) ≡ (t == c)
  unfolding M
  tag-cut_here c = tag-here c

  -- behind the node that is cut
  behind : (ns : List ℕ) (b : ℕ) → l.prev ≡ b → Goes L i l.next ns → Once (i ∷ ns) → times b ns ≡ 0 → ((j : ℕ) → In j ns → is_some (L j) ≡ true) → Goes M b l.next ns
  behind [] b is goes once out live = goes
  behind (y ∷ ys) b is goes once out live =
      let rest : Once (y ∷ ys) = once_rest i (y ∷ ys) once in
      let apart : (j : ℕ) → In j (y ∷ ys) → j ≢ i = λ j m. first_apart i j (y ∷ ys) once m in
      let away : (j : ℕ) → In j (y ∷ ys) → j ≢ l.prev = λ j m e. out_apart b j (y ∷ ys) out m (e ∙ is) in
      let y_in : In y (y ∷ ys) = in_here y y ys refl in
      let P : ℕ → Type 0 = λ n. Goes M y n ys in (
        goes.0,
        prev-at y (apart y y_in) (sym goes.0) (live y y_in) ∙ is,
        subst P (sym (next-other y (apart y y_in) (away y y_in)))
            (goes-same L M ys y (next_of (L y))
            (λ j m. next-other j (apart j (in_there j y ys m)) (away j (in_there j y ys m)))
            (λ j m. prev-other j (apart j (in_there j y ys m)) (λ e. first_apart y j ys rest m (e ∙ goes.0)))
            goes.2),
      )

  goes-cut : (ns : List ℕ) (b at : ℕ) → Goes L b at ns → Once ns → times b ns ≡ 0 → ((j : ℕ) → In j ns → is_some (L j) ≡ true) → In i ns
      → Goes M b (cond (l.prev == b) l.next at) (leave i ns)
  goes-cut [] b at goes once out live member = absurd (omega arith)
  goes-cut (x ∷ xs) b at goes once out live member = ⊎_elim
      (λ (e : x ≡ i).
      let same : L x ≡ Some l = ap L e ∙ here in
      let is : l.prev ≡ b = sym (ap prev_of same) ∙ goes.1 in
      let gone : leave i (x ∷ xs) ≡ xs = leave-here i x xs e ∙ leave-none i xs (omega (arith, times-same i x xs e, once i)) in
      let P : List ℕ → Type 0 = λ ms. Goes M b (cond (l.prev == b) l.next at) ms in
      let Q : ℕ → Type 0 = λ n. Goes M b n xs in
      let R : ℕ → Type 0 = λ k. Goes L k l.next xs in
      let S : ℕ → Type 0 = λ n. Goes L x n xs in
      let T : ℕ → Type 0 = λ k. Once (k ∷ xs) in
      subst P (sym gone) (subst Q (sym (ap (λ c. cond c l.next at) (eq-eqb l.prev b is)))
      (behind xs b is (subst R e (subst S (ap next_of same) goes.2)) (subst T e once) (omega (arith, times-le b x xs)) (λ j m. live j (in_there j x xs m)))))
      (λ apart.
      let inner : In i xs = in_rest i x xs apart member in
      let stays : leave i (x ∷ xs) ≡ x ∷ leave i xs = leave-there i x xs apart in
      let prev_is : prev_of (L i) ≡ l.prev = ap prev_of here in
      let next_is : next_of (L i) ≡ l.next = ap next_of here in
      let prev_in : In l.prev (x ∷ xs) = ⊎_elim
      (λ (e : prev_of (L i) ≡ x). in_here l.prev x xs (sym e ∙ prev_is))
      (λ m. in_there l.prev x xs (let P : ℕ → Type 0 = λ k. In k xs in subst P prev_is m))
      (prev-in L xs x (next_of (L x)) i goes.2 inner) in
      let away : l.prev ≢ b = out_apart b l.prev (x ∷ xs) out prev_in in
      let x_next : x ≢ l.next = λ (f : x ≡ l.next). ⊎_elim
      (λ (e : next_of (L i) ≡ none). true≢false (sym (live x (in_here x x xs refl)) ∙ ap (λ k. is_some (L k)) (f ∙ sym next_is ∙ e) ∙ ap is_some outside))
      (λ m. first_apart x l.next xs once (let P : ℕ → Type 0 = λ k. In k xs in subst P next_is m) (sym f))
      (next-in L xs x (next_of (L x)) i goes.2 inner) in
      let x_live : is_some (L x) ≡ true = live x (in_here x x xs refl) in
      let x_now : next_of (M x) ≡ cond (l.prev == x) l.next (next_of (L x)) = ⊎_elim
      (λ (e : l.prev ≡ x). next-at x apart (sym e) x_live ∙ sym (ap (λ c. cond c l.next (next_of (L x))) (eq-eqb l.prev x e)))
      (λ far. next-other x apart (λ e. far (sym e)) ∙ sym (ap (λ c. cond c l.next (next_of (L x))) (ne_eqb l.prev x far)))
      (cases_eq l.prev x) in
      let P : List ℕ → Type 0 = λ ms. Goes M b (cond (l.prev == b) l.next at) ms in
      let Q : ℕ → Type 0 = λ n. Goes M x n (leave i xs) in
      subst P (sym stays) (
        ap (λ c. cond c l.next at) (ne_eqb l.prev b away) ∙ goes.0,
        prev-other x apart x_next ∙ goes.1,
        subst Q (sym x_now) (goes-cut xs x (next_of (L x)) goes.2 (once_rest x xs once) (omega (arith, times-same x x xs refl, once x)) (λ j m. live j (in_there j x xs m)) inner),
      ))
      (cases_eq x i)

  -- of a list of another tag no node is known to the one that is cut
  known-apart : (c first own : ℕ) (ns ms : List ℕ) → IsList L c first ns → IsList L l.tag own ms → c ≢ l.tag → (j : ℕ) → In j ns → (k : ℕ) → (k ≡ none) ⊎ In k ms → j ≢ k
  known-apart c first own ns ms list mine other j member k known e = ⊎_elim
      (λ (f : k ≡ none). true≢false (sym (tagged_is c (L j) (lives L c first ns list j member)) ∙ ap (λ n. is_some (L n)) (e ∙ f) ∙ ap is_some outside))
      (λ m. two_tags (L j) (lives L c first ns list j member) (ap (λ n. has_tag l.tag (L n)) e ∙ lives L l.tag own ms mine k m))
      known
    where
      two_tags : (o : Option Link) → has_tag c o ≡ true → has_tag l.tag o ≡ true → ⊥
      two_tags None is also = true≢false (sym is)
      two_tags (Some k) is also = ⊎_elim
          (λ (e : k.tag ≡ c). ⊎_elim (λ (f : k.tag ≡ l.tag). other (sym e ∙ f)) (λ far. true≢false (sym also ∙ ne_eqb k.tag l.tag far)) (cases_eq k.tag l.tag))
          (λ far. true≢false (sym is ∙ ne_eqb k.tag c far))
          (cases_eq k.tag c)

  -- each list without the node
  pub list-cut : (c first own : ℕ) (ns ms : List ℕ) → c ≢ t → IsList L l.tag own ms → IsList L c first ns → IsList (cut t i l L) c (first_after c l first) (leave i ns)
  unfolding M
  list-cut c first own ns ms kept mine list = record { goes = goes; each = each }
    where
      i_mine : In i ms
      i_mine = in_list L l.tag own ms mine i (ap (has_tag l.tag) here ∙ eq-eqb l.tag l.tag refl)

      each : (j : ℕ) → times j (leave i ns) ≡ cond (has_tag c (M j)) 1 0
      each j = ⊎_elim
          (λ (e : j ≡ i). ap (λ k. times k (leave i ns)) e ∙ times-leave_same i ns ∙ sym (ap (λ k. cond (has_tag c (M k)) 1 0) e ∙ ap (λ b. cond b 1 0) (tag-here c ∙ ne_eqb t c (λ f. kept (sym f)))))
          (λ apart. times-leave_other i j ns apart ∙ list.each j ∙ sym (ap (λ b. cond b 1 0) (tag-other c j apart)))
          (cases_eq j i)

      none_out : times none ns ≡ 0
      none_out = out_of L c first ns list none (ap (has_tag c) outside)

      goes : Goes M none (first_after c l first) (leave i ns)
      goes = ⊎_elim
          (λ (e : l.tag ≡ c).
          let member : In i ns = in_list L c first ns list i (ap (has_tag c) here ∙ eq-eqb l.tag c e) in
          let P : ℕ → Type 0 = λ n. Goes M none n (leave i ns) in
          subst P (sym (ap (λ b. cond (b && (l.prev == none)) l.next first) (eq-eqb l.tag c e)))
          (goes-cut ns none first list.goes (once_in L c first ns list) none_out (λ j m. tagged_is c (L j) (lives L c first ns list j m)) member))
          (λ other.
          let far : c ≢ l.tag = λ e. other (sym e) in
          let stays : leave i ns ≡ ns = leave-none i ns (out_of L c first ns list i (ap (has_tag c) here ∙ ne_eqb l.tag c other)) in
          let P : ℕ → Type 0 = λ n. Goes M none n (leave i ns) in
          let Q : List ℕ → Type 0 = λ xs. Goes M none first xs in
          let prev_known : (l.prev ≡ none) ⊎ In l.prev ms = let R : ℕ → Type 0 = λ k. (k ≡ none) ⊎ In k ms in subst R (ap prev_of here) (prev-in L ms none own i mine.goes i_mine) in
          let next_known : (l.next ≡ none) ⊎ In l.next ms = let R : ℕ → Type 0 = λ k. (k ≡ none) ⊎ In k ms in subst R (ap next_of here) (next-in L ms none own i mine.goes i_mine) in
          subst P (sym (ap (λ b. cond (b && (l.prev == none)) l.next first) (ne_eqb l.tag c other)))
          (subst Q (sym stays) (goes-same L M ns none first
          (λ j m. next-other j (known-apart c first own ns ms list mine far j m i (inr i_mine)) (known-apart c first own ns ms list mine far j m l.prev prev_known))
          (λ j m. prev-other j (known-apart c first own ns ms list mine far j m i (inr i_mine)) (known-apart c first own ns ms list mine far j m l.next next_known))
          list.goes)))
          (cases_eq l.tag c)

module _ (L : Links) (outside : L none ≡ None) (i c first : ℕ) (ns : List ℕ) (k : Link) (here : L i ≡ Some k) (apart_tag : k.tag ≢ c) (list : IsList L c first ns) where
  N : Links
  N = put c i first L

  next-put : (j : ℕ) → j ≢ i → next_of (N j) ≡ next_of (L j)
  unfolding N
  next-put j apart = ap next_of (upd-other i j (at_front c first) (upd first (with_prev i) L) apart) ∙ next-upd_prev first i j L

  prev-put_other : (j : ℕ) → j ≢ i → j ≢ first → prev_of (N j) ≡ prev_of (L j)
  unfolding N
  prev-put_other j apart away = ap prev_of (upd-other i j (at_front c first) (upd first (with_prev i) L) apart) ∙ ap prev_of (upd-other first j (with_prev i) L away)

  prev-put_at : (j : ℕ) → j ≢ i → j ≡ first → is_some (L j) ≡ true → prev_of (N j) ≡ i
  unfolding N
  prev-put_at j apart e there =
      ap prev_of (upd-other i j (at_front c first) (upd first (with_prev i) L) apart) ∙ ap prev_of (upd-same first j (with_prev i) L e) ∙ prev-there i (L j) there

  tag-put : (d j : ℕ) → j ≢ i → has_tag d (N j) ≡ has_tag d (L j)
  unfolding N
  tag-put d j apart = ap (has_tag d) (upd-other i j (at_front c first) (upd first (with_prev i) L) apart) ∙ tag-upd first (with_prev i) (λ _. refl) d j L

  there_put : is_some (upd first (with_prev i) L i) ≡ true
  there_put = upd-is first i (with_prev i) L ∙ ap is_some here

  tag-put_here : (d : ℕ) → has_tag d (N i) ≡ (c == d)
  unfolding N
  tag-put_here d = ap (has_tag d) (upd-same i i (at_front c first) (upd first (with_prev i) L) refl) ∙ tag-front d first c (upd first (with_prev i) L i) there_put

  prev-put_here : prev_of (N i) ≡ none
  unfolding N
  prev-put_here = ap prev_of (upd-same i i (at_front c first) (upd first (with_prev i) L) refl) ∙ prev-front first c (upd first (with_prev i) L i)

  next-put_here : next_of (N i) ≡ first
  unfolding N
  next-put_here = ap next_of (upd-same i i (at_front c first) (upd first (with_prev i) L) refl) ∙ next-front first c (upd first (with_prev i) L i) there_put

  pub tag-put_other : (d j : ℕ) → j ≢ i → has_tag d (put c i first L j) ≡ has_tag d (L j)
  unfolding N
  tag-put_other d j apart = tag-put d j apart

  pub tag-put_at : (d : ℕ) → has_tag d (put c i first L i) ≡ (c == d)
  unfolding N
  tag-put_at d = tag-put_here d

  i_out : times i ns ≡ 0
  i_out = out_of L c first ns list i (ap (has_tag c) here ∙ ne_eqb k.tag c apart_tag)

  behind_put : (ms : List ℕ) (b : ℕ) → Goes L b first ms → Once ms → times i ms ≡ 0 → ((j : ℕ) → In j ms → is_some (L j) ≡ true) → Goes N i first ms
  behind_put [] b goes once out live = goes
  behind_put (y ∷ ys) b goes once out live =
      let apart : (j : ℕ) → In j (y ∷ ys) → j ≢ i = λ j m. out_apart i j (y ∷ ys) out m in
      let y_in : In y (y ∷ ys) = in_here y y ys refl in
      let P : ℕ → Type 0 = λ n. Goes N y n ys in (
        goes.0,
        prev-put_at y (apart y y_in) (sym goes.0) (live y y_in),
        subst P (sym (next-put y (apart y y_in)))
            (goes-same L N ys y (next_of (L y))
            (λ j m. next-put j (apart j (in_there j y ys m)))
            (λ j m. prev-put_other j (apart j (in_there j y ys m)) (λ e. first_apart y j ys once m (e ∙ goes.0)))
            goes.2),
      )

  -- the list with the node in front
  pub list-put_here : IsList (put c i first L) c i (i ∷ ns)
  unfolding N
  list-put_here = record {
    goes = let P : ℕ → Type 0 = λ n. Goes N i n ns in
        (refl, prev-put_here, subst P (sym next-put_here) (behind_put ns none list.goes (once_in L c first ns list) i_out (λ j m. tagged_is c (L j) (lives L c first ns list j m))));
    each = λ j. ⊎_elim
        (λ (e : i ≡ j). times-same j i ns e ∙ ap (λ n. 1 + n) (ap (λ x. times x ns) (sym e) ∙ i_out) ∙ one j e)
        (λ apart. times-other j i ns apart ∙ list.each j ∙ sym (ap (λ b. cond b 1 0) (tag-put c j (λ e. apart (sym e)))))
        (cases_eq i j);
  }
    where
      one : (j : ℕ) → i ≡ j → 1 + 0 ≡ cond (has_tag c (N j)) 1 0
      one j e = sym (ap (λ x. cond (has_tag c (N x)) 1 0) (sym e) ∙ ap (λ b. cond b 1 0) (tag-put_here c ∙ eq-eqb c c refl))

  first_known : (first ≡ none) ⊎ In first ns
  first_known = first-in L ns none first list.goes

  two_tags_put : (d : ℕ) (o : Option Link) → d ≢ c → has_tag c o ≡ true → has_tag d o ≡ true → ⊥
  two_tags_put d None other is also = true≢false (sym is)
  two_tags_put d (Some k) other is also = ⊎_elim
      (λ (e : k.tag ≡ c). ⊎_elim (λ (f : k.tag ≡ d). other (sym f ∙ e)) (λ far. true≢false (sym also ∙ ne_eqb k.tag d far)) (cases_eq k.tag d))
      (λ far. true≢false (sym is ∙ ne_eqb k.tag c far))
      (cases_eq k.tag c)

  -- the other lists stay
  pub list-put_other : (d g : ℕ) (ms : List ℕ) → d ≢ c → k.tag ≢ d → IsList L d g ms → IsList (put c i first L) d g ms
  unfolding N
  list-put_other d g ms other away more = record {
    goes = goes-same L N ms none g
        (λ j m. next-put j (far j m))
        (λ j m. prev-put_other j (far j m) (λ e. ⊎_elim
        (λ (f : first ≡ none). true≢false (sym (tagged_is d (L j) (lives L d g ms more j m)) ∙ ap (λ n. is_some (L n)) (e ∙ f) ∙ ap is_some outside))
        (λ inside. two_tags_put d (L j) other (ap (λ n. has_tag c (L n)) e ∙ lives L c first ns list first inside) (lives L d g ms more j m))
        first_known))
        more.goes;
    each = λ j. ⊎_elim
        (λ (e : j ≡ i). out_of L d g ms more j (ap (λ x. has_tag d (L x)) e ∙ ap (has_tag d) here ∙ ne_eqb k.tag d away)
        ∙ sym (ap (λ x. cond (has_tag d (N x)) 1 0) e ∙ ap (λ b. cond b 1 0) (tag-put_here d ∙ ne_eqb c d (λ f. other (sym f)))))
        (λ apart. more.each j ∙ sym (ap (λ b. cond b 1 0) (tag-put d j apart)))
        (cases_eq j i);
  }
    where
      far : (j : ℕ) → In j ms → j ≢ i
      far j m e = true≢false (sym (lives L d g ms more j m) ∙ ap (λ x. has_tag d (L x)) e ∙ ap (has_tag d) here ∙ ne_eqb k.tag d away)

-- so many numbers at most are below n
pub few-below : (n : ℕ) (xs : List ℕ) → Once xs → ((j : ℕ) → In j xs → j < n) → length xs ≤ n
few-below zero [] once below = omega arith
few-below zero (x ∷ xs) once below = let no : x < 0 = below x (in_here x x xs refl) in absurd (omega arith)
few-below (suc n) xs once below = omega (
  arith,
  length-leave n xs,
  once n,
  few-below n (leave n xs)
      (λ j. ⊎_elim (λ (e : j ≡ n). omega (arith, ap (λ k. times k (leave n xs)) e ∙ times-leave_same n xs)) (λ apart. omega (arith, times-leave_other n j xs apart, once j)) (cases_eq j n))
      (λ j m. ⊎_elim
      (λ (e : j ≡ n). absurd (omega (arith, ap (λ k. times k (leave n xs)) e ∙ times-leave_same n xs)))
      (λ apart. let below_more : j < suc n = below j (omega (arith, times-leave_other n j xs apart)) in omega arith)
      (cases_eq j n)),
)

begun-none : (at : ℕ) (rest : List ℕ) (o : Option Link) → o ≡ None → begun at o rest ≡ []
begun-none at rest o is = ap (λ x. begun at x rest) is

begun-some : (at : ℕ) (rest : List ℕ) (o : Option Link) → is_some o ≡ true → begun at o rest ≡ at ∷ rest
begun-some at rest None is = absurd (true≢false (sym is))
begun-some at rest (Some l) is = refl

pub walk-goes : (L : Links) → L none ≡ None → (n : ℕ) (ns : List ℕ) (b at : ℕ) → Goes L b at ns → ((j : ℕ) → In j ns → is_some (L j) ≡ true) → length ns ≤ n → walk n L at ≡ ns
unfolding walk
walk-goes L outside zero [] b at goes live short = refl
walk-goes L outside zero (x ∷ xs) b at goes live short = absurd (omega arith)
walk-goes L outside (suc n) [] b at goes live short = begun-none at (walk n L (next_of (L at))) (L at) (ap L goes ∙ outside)
walk-goes L outside (suc n) (x ∷ xs) b at goes live short =
    begun-some at (walk n L (next_of (L at))) (L at) (ap (λ k. is_some (L k)) goes.0 ∙ live x (in_here x x xs refl))
    ∙ (λ i. goes.0 i ∷ walk n L (next_of (L (goes.0 i))))
    ∙ ap (λ l. x ∷ l) (walk-goes L outside n xs x (next_of (L x)) goes.2 (λ j m. live j (in_there j x xs m)) (omega arith))

-- what a list's walk gives, where there are so many nodes
pub walk-list : (L : Links) → L none ≡ None → (n c first : ℕ) (ns : List ℕ) → IsList L c first ns → ((j : ℕ) → is_some (L j) ≡ true → j < n) → walk n L first ≡ ns
walk-list L outside n c first ns list below =
    let live : (j : ℕ) → In j ns → is_some (L j) ≡ true = λ j m. tagged_is c (L j) (lives L c first ns list j m) in
    walk-goes L outside n ns none first list.goes live (few-below n ns (once_in L c first ns list) (λ j m. below j (live j m)))
