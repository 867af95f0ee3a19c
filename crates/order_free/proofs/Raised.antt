-- Labels that rise: they grow, and the blocks whose labels rose are listed.
use Rattle.std.proofs.Common.{◌≡◌, ◌<◌, ◌≤◌, ◌+◌, ◌⊎◌, inl, inr, ℕ, zero, suc, Bool, true, false, List, [], ◌∷◌, length, get_or, refl, sym, ap, ◌∙◌, subst, arith}
use Rattle.std.specs.Prelude.{slice_set, Contains, if◌then◌else◌, ◌==◌}
use Rattle.std.proofs.lemmas.List.{length-set, length-append, get_or_append_left}
use Rattle.std.proofs.Math.Seq.{get_or-append_seam}
use Rattle.std.proofs.lemmas.Bool.{eq-eqb, eqb-true}
use Rattle.order_free.specs.Users.{is_within, joined, Shows}
use Rattle.order_free.specs.Spreading.{label_at, Spreading, raise_if, raise, raise_all, raise_roots, rises, all_rises, StandsFrom}
use Rattle.order_free.specs.declared.users.Users.{Users}
use Rattle.order_free.specs.declared.users.Users.TheVariants as users
use Rattle.order_free.specs.declared.roots.Root.{Root}
use Rattle.order_free.proofs.Elements.{no_element, element_cases, element_here, element_there}
use Rattle.order_free.proofs.Within.{not_both, within_same, within_many, within_left, within_right, within_along, shows_joined}

-- one label

pub set_label : (labels : List Users) (n : ℕ) (x : Users) (k : ℕ) → (label_at (slice_set labels n x) k ≡ label_at labels k) ⊎ ((k ≡ n) × (label_at (slice_set labels n x) k ≡ x))
set_label [] n x k = inl refl
set_label (y ∷ ys) zero x zero = inr (refl, refl)
set_label (y ∷ ys) zero x (suc k) = inl refl
set_label (y ∷ ys) (suc n) x zero = inl refl
set_label (y ∷ ys) (suc n) x (suc k) = elim (set_label ys n x k) [ inl same ↦ inl same | inr w ↦ inr (ap suc w.0, w.1) ]

pub set_own : (labels : List Users) (n : ℕ) (x : Users) → (label_at labels n ≡ users.Many) ⊎ (label_at (slice_set labels n x) n ≡ x)
set_own [] n x = inl refl
set_own (y ∷ ys) zero x = inr refl
set_own (y ∷ ys) (suc n) x = set_own ys n x

pub set_within : (labels : List Users) (n : ℕ) (x : Users) → n < length labels → label_at (slice_set labels n x) n ≡ x
set_within [] n x below = absurd (omega (arith, below))
set_within (y ∷ ys) zero x below = refl
set_within (y ∷ ys) (suc n) x below = set_within ys n x (omega (arith, below))

-- how often labels can rise

one_rises : (q p : ℕ) (b : Bool) → (q == p) ≡ b → (p == q) ≡ false → rises (if b then users.One q else users.Many) + 1 ≤ 1
one_rises q p true is h = absurd (not_both (sym (eq-eqb p q (sym (eqb-true q p is))) ∙ h))
one_rises q p false is h = omega arith

joined_rises : (y x : Users) → is_within x y ≡ false → rises (joined y x) + 1 ≤ rises y
joined_rises users.Nobody users.Nobody h = absurd (not_both h)
joined_rises users.Nobody (users.One p) h = omega arith
joined_rises users.Nobody users.Many h = omega arith
joined_rises (users.One q) users.Nobody h = absurd (not_both h)
joined_rises (users.One q) (users.One p) h = one_rises q p (q == p) refl h
joined_rises (users.One q) users.Many h = omega arith
joined_rises users.Many x h = absurd (not_both (sym (within_many x) ∙ h))

set_rises : (labels : List Users) (n : ℕ) (x : Users) → rises x + 1 ≤ rises (label_at labels n) → all_rises (slice_set labels n x) + 1 ≤ all_rises labels
set_rises [] n x h = absurd (omega (arith, h))
set_rises (y ∷ ys) zero x h = omega (arith, h)
set_rises (y ∷ ys) (suc n) x h = let rest = set_rises ys n x h in omega (arith, rest)

-- what stays and what grows from one spreading to a later one
pub record Rise (s t : Spreading) : Type 0 where
  pub many : length t.0 ≡ length s.0
  pub grows : (k : ℕ) → is_within (label_at s.0 k) (label_at t.0 k) ≡ true
  pub moved : (k : ℕ) → (label_at t.0 k ≡ label_at s.0 k) ⊎ StandsFrom (length s.1) t.1 k
  pub kept : (i d : ℕ) → i < length s.1 → get_or t.1 i d ≡ get_or s.1 i d
  pub longer : length s.1 ≤ length t.1
  pub work : all_rises t.0 + length t.1 ≤ all_rises s.0 + length s.1

rise_same : (s : Spreading) → Rise s s
rise_same s = record {
  many = refl;
  grows = λ k. within_same (label_at s.0 k);
  moved = λ k. inl refl;
  kept = λ i d below. refl;
  longer = omega arith;
  work = omega arith;
}

pub stands_still : (s t : Spreading) (place k : ℕ) → Rise s t → StandsFrom place s.1 k → StandsFrom place t.1 k
stands_still s t place k r h =
    let below = h.2 in
    let longer = r.longer in
    (h.0, h.1, omega (arith, below, longer), r.kept h.0 k h.2 ∙ h.3)

pub contains_still : (s t : Spreading) (k : ℕ) → Rise s t → Contains s.1 k → Contains t.1 k
contains_still s t k r h =
    let below = h.1 in
    let longer = r.longer in
    (h.0, omega (arith, below, longer), r.kept h.0 k h.1 ∙ h.2)

pub stands_before : (place before : ℕ) (xs : List ℕ) (k : ℕ) → before ≤ place → StandsFrom place xs k → StandsFrom before xs k
stands_before place before xs k h w = let at = w.1 in (w.0, omega (arith, h, at), w.2, w.3)

pub rise_then : (s t r : Spreading) → Rise s t → Rise t r → Rise s r
rise_then s t r a b =
    let a_longer = a.longer in
    let b_longer = b.longer in
    let a_work = a.work in
    let b_work = b.work in
    record {
      many = b.many ∙ a.many;
      grows = λ k. within_along (label_at s.0 k) (label_at t.0 k) (label_at r.0 k) (a.grows k) (b.grows k);
      moved = λ k. elim (b.moved k) [
        | inl same ↦ elim (a.moved k) [
          | inl too ↦ inl (same ∙ too)
          | inr there ↦ inr (stands_still t r (length s.1) k b there)
        ]
        | inr there ↦ inr (stands_before (length t.1) (length s.1) r.1 k a_longer there)
      ];
      kept = λ i d below. b.kept i d (omega (arith, below, a_longer)) ∙ a.kept i d below;
      longer = omega (arith, a_longer, b_longer);
      work = omega (arith, a_work, b_work);
    }

module _ (x : Users) (n : ℕ) (s : Spreading) where
  raised : is_within x (label_at s.0 n) ≡ false → Rise s (raise_if false x n s)
  raised is =
      let z = joined (label_at s.0 n) x in
      let more = length-append s.1 (n ∷ []) in
      let fewer = set_rises s.0 n z (joined_rises (label_at s.0 n) x is) in
      record {
        many = length-set s.0 n z;
        grows = λ k. elim (set_label s.0 n z k) [
          | inl same ↦ ap (is_within (label_at s.0 k)) same ∙ within_same (label_at s.0 k)
          | inr w ↦ ap (is_within (label_at s.0 k)) w.1 ∙ ap (λ i. is_within (label_at s.0 i) z) w.0 ∙ within_left (label_at s.0 n) x
        ];
        moved = λ k. elim (set_label s.0 n z k) [
          | inl same ↦ inl same
          | inr w ↦ inr (length s.1, omega arith, omega (arith, more), get_or-append_seam s.1 n [] k ∙ sym w.0)
        ];
        kept = λ i d below. get_or_append_left s.1 (n ∷ []) d i below;
        longer = omega (arith, more);
        work = omega (arith, more, fewer);
      }

  rise_if : (b : Bool) → is_within x (label_at s.0 n) ≡ b → Rise s (raise_if b x n s)
  rise_if true is = rise_same s
  rise_if false is = raised is

  pub raise_rises : Rise s (raise x n s)
  raise_rises = rise_if (is_within x (label_at s.0 n)) refl

  reached_if : (b : Bool) → is_within x (label_at s.0 n) ≡ b → is_within x (label_at (raise_if b x n s).0 n) ≡ true
  reached_if true is = is
  reached_if false is =
      elim (set_own s.0 n (joined (label_at s.0 n) x)) [
        | inl many ↦ absurd (not_both (sym (ap (is_within x) many ∙ within_many x) ∙ is))
        | inr own ↦ ap (is_within x) own ∙ within_right (label_at s.0 n) x
      ]

  pub raise_reaches : is_within x (label_at (raise x n s).0 n) ≡ true
  raise_reaches = reached_if (is_within x (label_at s.0 n)) refl

  shown_if : (P : ℕ → ℕ → Type 0) (count : ℕ) → Shows (P n) x → ((k : ℕ) → k < count → Shows (P k) (label_at s.0 k)) → (b : Bool) (k : ℕ) → k < count → Shows (P k) (label_at (raise_if b x n s).0 k)
  shown_if P count here before true k below = before k below
  shown_if P count here before false k below =
      elim (set_label s.0 n (joined (label_at s.0 n) x) k) [
        | inl same ↦ subst (Shows (P k)) (sym same) (before k below)
        | inr w ↦
            subst (Shows (P k)) (sym w.1)
            (shows_joined (P k) (label_at s.0 n) x (subst (λ i. Shows (P k) (label_at s.0 i)) w.0 (before k below)) (subst (λ i. Shows (P i) x) (sym w.0) here))
      ]

  pub raise_shown : (P : ℕ → ℕ → Type 0) (count : ℕ) → Shows (P n) x → ((k : ℕ) → k < count → Shows (P k) (label_at s.0 k)) → (k : ℕ) → k < count → Shows (P k) (label_at (raise x n s).0 k)
  raise_shown P count here before = shown_if P count here before (is_within x (label_at s.0 n))

-- many labels

pub all_rise : (x : Users) (ns : List ℕ) (s : Spreading) → Rise s (raise_all x ns s)
all_rise x [] s = rise_same s
all_rise x (n ∷ ns) s = rise_then s (raise x n s) (raise_all x ns (raise x n s)) (raise_rises x n s) (all_rise x ns (raise x n s))

pub all_reached : (x : Users) (ns : List ℕ) (s : Spreading) (n : ℕ) → Contains ns n → is_within x (label_at (raise_all x ns s).0 n) ≡ true
all_reached x [] s n h = absurd (no_element n h)
all_reached x (m ∷ ms) s n h =
    elim (element_cases m ms n h) [
      | inl is ↦
          within_along x (label_at (raise x m s).0 n) (label_at (raise_all x ms (raise x m s)).0 n)
          (subst (λ i. is_within x (label_at (raise x m s).0 i) ≡ true) is (raise_reaches x m s)) ((all_rise x ms (raise x m s)).grows n)
      | inr there ↦ all_reached x ms (raise x m s) n there
    ]

pub all_shown : (P : ℕ → ℕ → Type 0) (count : ℕ) (x : Users) (ns : List ℕ) (s : Spreading) → ((n : ℕ) → Contains ns n → Shows (P n) x) → ((k : ℕ) → k < count → Shows (P k) (label_at s.0 k))
    → (k : ℕ) → k < count → Shows (P k) (label_at (raise_all x ns s).0 k)
all_shown P count x [] s all before = before
all_shown P count x (n ∷ ns) s all before =
    all_shown P count x ns (raise x n s) (λ m h. all m (element_there n ns m h)) (raise_shown x n s P count (all n (element_here n ns)) before)

pub roots_rise : (rs : List Root) (s : Spreading) → Rise s (raise_roots rs s)
roots_rise [] s = rise_same s
roots_rise (r ∷ rs) s =
    let t = raise (users.One r.process) r.block s in
    rise_then s t (raise_roots rs t) (raise_rises (users.One r.process) r.block s) (roots_rise rs t)

pub roots_reached : (rs : List Root) (s : Spreading) (r : Root) → Contains rs r → is_within (users.One r.process) (label_at (raise_roots rs s).0 r.block) ≡ true
roots_reached [] s r h = absurd (no_element r h)
roots_reached (q ∷ qs) s r h =
    let t = raise (users.One q.process) q.block s in
    elim (element_cases q qs r h) [
      | inl is ↦
          subst (λ (v : Root). is_within (users.One v.process) (label_at (raise_roots qs t).0 v.block) ≡ true) is
          (within_along (users.One q.process) (label_at t.0 q.block) (label_at (raise_roots qs t).0 q.block) (raise_reaches (users.One q.process) q.block s) ((roots_rise qs t).grows q.block))
      | inr there ↦ roots_reached qs t r there
    ]

pub roots_shown : (P : ℕ → ℕ → Type 0) (count : ℕ) (rs : List Root) (s : Spreading) → ((r : Root) → Contains rs r → P r.block r.process) → ((k : ℕ) → k < count → Shows (P k) (label_at s.0 k))
    → (k : ℕ) → k < count → Shows (P k) (label_at (raise_roots rs s).0 k)
roots_shown P count [] s all before = before
roots_shown P count (r ∷ rs) s all before =
    roots_shown P count rs (raise (users.One r.process) r.block s) (λ q h. all q (element_there r rs q h))
    (raise_shown (users.One r.process) r.block s P count (all r (element_here r rs)) before)
