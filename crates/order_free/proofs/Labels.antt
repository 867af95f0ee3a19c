-- Labels that are spread tell who comes to each block.
use Rattle.std.proofs.Common.{◌≡◌, ◌<◌, ◌≤◌, ◌+◌, ◌⊎◌, inl, inr, ℕ, zero, suc, true, List, [], ◌∷◌, length, replicate, get_or, refl, sym, ap, ◌∙◌, subst, arith}
use Rattle.std.specs.Prelude.{slice_set, Contains}
use Rattle.std.proofs.lemmas.List.{length-set, length-replicate}
use Rattle.std.proofs.lemmas.Bool.{cases_lt}
use Rattle.std.proofs.lemmas.Option.{slice_get_past}
use Rattle.std.proofs.lemmas.List.{get_or_default}
use Rattle.order_free.specs.declared.blocks.BlockPart.{BlockPart}
use Rattle.order_free.specs.Users.{is_within, Shows}
use Rattle.order_free.specs.Spreading as spreading
use Rattle.order_free.specs.Spreading.{label_at, targets_in, targets_at, Spreading, raise_all, raise_roots, root, ComesTo, StandsFrom, IsUnderWay, AreLabels, AreEmpty, cleared}
use Rattle.order_free.specs.declared.users.Users.{Users}
use Rattle.order_free.specs.declared.users.Users.TheVariants as users
use Rattle.order_free.specs.declared.roots.Root.{Root}
use Rattle.order_free.proofs.Elements.{no_element, element_cases}
use Rattle.order_free.proofs.Within.{not_both, within_along, shows_more}
use Rattle.order_free.proofs.Raised.{set_label, set_within, Rise, stands_still, contains_still, all_rise, all_reached, all_shown, roots_rise, roots_reached, roots_shown}

pub target_within : (parts : List BlockPart) (b t : ℕ) → Contains (targets_at parts b) t → b < length parts
target_within parts b t h =
    elim (cases_lt b (length parts)) [
      | inl below ↦ below
      | inr past ↦ absurd (no_element t (subst (λ o. Contains (targets_in o) t) (slice_get_past parts b past) h))
    ]

-- the next block is followed
module _ (parts : List BlockPart) (roots : List Root) (i : ℕ) (s : Spreading) (u : IsUnderWay parts roots i s) (n : ℕ) (below : i < length s.1) (is : n ≡ get_or s.1 i n) where
  abbrev x : Users
  x = label_at s.0 n

  abbrev after : Spreading
  after = raise_all x (targets_at parts n) s

  rise : Rise s after
  rise = all_rise x (targets_at parts n) s

  here_followed : (b t : ℕ) → b ≡ n → label_at after.0 b ≡ label_at s.0 b → Contains (targets_at parts b) t → is_within (label_at after.0 b) (label_at after.0 t) ≡ true
  here_followed b t same still h =
      ap (λ y. is_within y (label_at after.0 t)) (still ∙ ap (label_at s.0) same)
      ∙ all_reached x (targets_at parts n) s t (subst (λ k. Contains (targets_at parts k) t) same h)

  at_place : (b t k : ℕ) → (i < k) ⊎ (k ≤ i) → i ≤ k → k < length s.1 → get_or s.1 k b ≡ b → label_at after.0 b ≡ label_at s.0 b → Contains (targets_at parts b) t
      → StandsFrom (i + 1) after.1 b ⊎ (is_within (label_at after.0 b) (label_at after.0 t) ≡ true)
  at_place b t k (inl later) from within e still h = inl (stands_still s after (i + 1) b rise (k, omega (arith, later), within, e))
  at_place b t k (inr not) from within e still h =
      let same : k ≡ i = omega (arith, from, not) in
      let there : get_or s.1 i b ≡ b = subst (λ j. get_or s.1 j b ≡ b) same e in
      inr (here_followed b t (sym there ∙ get_or_default s.1 i b n below ∙ sym is) still h)

  followed_on : (b t : ℕ) → b < length parts → Contains (targets_at parts b) t → StandsFrom (i + 1) after.1 b ⊎ (is_within (label_at after.0 b) (label_at after.0 t) ≡ true)
  followed_on b t within h =
      elim (rise.moved b) [
        | inl still ↦ elim (u.followed b t within h) [
          | inl w ↦ at_place b t w.0 (cases_lt i w.0) w.1 w.2 w.3 still h
          | inr k ↦ inr (ap (λ y. is_within y (label_at after.0 t)) still ∙ within_along (label_at s.0 b) (label_at s.0 t) (label_at after.0 t) k (rise.grows t))
        ]
        | inr w ↦ let at = w.1 in inl (w.0, omega (arith, at, below), w.2, w.3)
      ]

  came : (t : ℕ) → Contains (targets_at parts n) t → Shows (λ p. ComesTo parts roots p t) x
  came t h =
      shows_more (λ p. ComesTo parts roots p n) (λ p. ComesTo parts roots p t) (λ p k. spreading.goes_on n t k h) x (u.shown n (target_within parts n t h))

  pub one_followed : IsUnderWay parts roots (i + 1) after
  one_followed = record {
    many = rise.many ∙ u.many;
    rooted = λ r h. within_along (users.One r.process) (label_at s.0 r.block) (label_at after.0 r.block) (u.rooted r h) (rise.grows r.block);
    followed = followed_on;
    listed = λ b within. elim (rise.moved b) [
      | inl still ↦ elim (u.listed b within) [
        | inl nobody ↦ inl (still ∙ nobody)
        | inr there ↦ inr (contains_still s after b rise there)
      ]
      | inr w ↦ inr (w.0, w.2, w.3)
    ];
    shown = all_shown (λ b p. ComesTo parts roots p b) (length parts) x (targets_at parts n) s came u.shown;
  }

-- where all that is listed is followed
module _ (parts : List BlockPart) (roots : List Root) (i : ℕ) (s : Spreading) (u : IsUnderWay parts roots i s) (ended : length s.1 ≤ i) where
  done_at : (b t : ℕ) → StandsFrom i s.1 b ⊎ (is_within (label_at s.0 b) (label_at s.0 t) ≡ true) → is_within (label_at s.0 b) (label_at s.0 t) ≡ true
  done_at b t (inl w) = let from = w.1 in let below = w.2 in absurd (omega (arith, from, below, ended))
  done_at b t (inr k) = k

  come_within : (p : ℕ) {b : ℕ} → ComesTo parts roots p b → is_within (users.One p) (label_at s.0 b) ≡ true
  come_within p (spreading.begins b h) = u.rooted (root p b) h
  come_within p (spreading.goes_on b t k h) =
      within_along (users.One p) (label_at s.0 b) (label_at s.0 t) (come_within p k) (done_at b t (u.followed b t (target_within parts b t h) h))

  somebody_listed : (p b : ℕ) → is_within (users.One p) (label_at s.0 b) ≡ true → (label_at s.0 b ≡ users.Nobody) ⊎ Contains s.1 b → Contains s.1 b
  somebody_listed p b k (inl nobody) = absurd (not_both (sym k ∙ ap (is_within (users.One p)) nobody))
  somebody_listed p b k (inr there) = there

  pub all_followed : AreLabels parts roots s.0 s.1
  all_followed = record {
    many = u.many;
    come = λ p b below h. (come_within p h, somebody_listed p b (come_within p h) (u.listed b below));
    listed = u.listed;
    shown = u.shown;
  }

-- the roots are listed first
pub roots_first : (parts : List BlockPart) (roots : List Root) (labels : List Users) → AreEmpty parts labels → IsUnderWay parts roots 0 (raise_roots roots (labels, []))
roots_first parts roots labels empty =
    let s : Spreading = (labels, []) in
    let t = raise_roots roots s in
    let rise = roots_rise roots s in
    record {
      many = rise.many ∙ empty.many;
      rooted = roots_reached roots s;
      followed = λ b t' within h. elim (rise.moved b) [
        | inl still ↦ inr (ap (λ y. is_within y (label_at t.0 t')) (still ∙ empty.none b within))
        | inr w ↦ inl w
      ];
      listed = λ b within. elim (rise.moved b) [ inl still ↦ inl (still ∙ empty.none b within) | inr w ↦ inr (w.0, w.2, w.3) ];
      shown = roots_shown (λ b p. ComesTo parts roots p b) (length parts) roots s (λ r h. spreading.begins r.block h) (λ b within. subst (Shows (λ p. ComesTo parts roots p b)) (sym (empty.none b within)) tt);
    }

-- labels that are taken back

cleared_length : (ns : List ℕ) (labels : List Users) → length (cleared ns labels) ≡ length labels
cleared_length [] labels = refl
cleared_length (n ∷ ns) labels = cleared_length ns (slice_set labels n users.Nobody) ∙ length-set labels n users.Nobody

nobody_still : (ns : List ℕ) (labels : List Users) (b : ℕ) → label_at labels b ≡ users.Nobody → label_at (cleared ns labels) b ≡ users.Nobody
nobody_still [] labels b h = h
nobody_still (n ∷ ns) labels b h =
    nobody_still ns (slice_set labels n users.Nobody) b (elim (set_label labels n users.Nobody b) [ inl same ↦ same ∙ h | inr w ↦ w.1 ])

nobody_there : (ns : List ℕ) (labels : List Users) (b : ℕ) → b < length labels → Contains ns b → label_at (cleared ns labels) b ≡ users.Nobody
nobody_there [] labels b below h = absurd (no_element b h)
nobody_there (n ∷ ns) labels b below h =
    let next = slice_set labels n users.Nobody in
    elim (element_cases n ns b h) [
      | inl is ↦ nobody_still ns next b (ap (λ k. label_at (slice_set labels k users.Nobody) b) is ∙ set_within labels b users.Nobody below)
      | inr there ↦ nobody_there ns next b (subst (λ k. b < k) (sym (length-set labels n users.Nobody)) below) there
    ]

pub all_cleared : (parts : List BlockPart) (roots : List Root) (labels : List Users) (listing : List ℕ) → AreLabels parts roots labels listing → AreEmpty parts (cleared listing labels)
all_cleared parts roots labels listing are = record {
  many = cleared_length listing labels ∙ are.many;
  none = λ b below. elim (are.listed b below) [
    | inl nobody ↦ nobody_still listing labels b nobody
    | inr there ↦ nobody_there listing labels b (subst (λ k. b < k) (sym are.many) below) there
  ];
}

none_at : (count b : ℕ) → b < count → label_at (replicate count users.Nobody) b ≡ users.Nobody
none_at zero b below = absurd (omega (arith, below))
none_at (suc count) zero below = refl
none_at (suc count) (suc b) below = none_at count b (omega (arith, below))

pub none_labelled : (parts : List BlockPart) → AreEmpty parts (replicate (length parts) users.Nobody)
none_labelled parts = record { many = length-replicate (length parts) users.Nobody; none = none_at (length parts) }
