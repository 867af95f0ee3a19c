-- The marks of the slots that hold the value of their own number.
use Rattle.std.proofs.Common.{nat_cmp, ◌≡◌, ◌≢◌, ◌+◌, ◌<◌, ◌≤◌, ℕ, zero, suc, Bool, true, false, cond, List, [], ◌∷◌, ◌++◌, Some, None, length, set, slice_get, refl, sym, ap, ◌∙◌, ◌⊎◌, inl, inr, ⊎_elim, arith}
use Rattle.std.specs.Prelude.{◌==◌}
use Rattle.std.proofs.lemmas.Bool.{cases_eq, false≢true, cond_both, eqb-true}
use Rattle.std.specs.BTreeMap as tree
use Rattle.numbered_slots.specs.Layout.{TellsHomes, AreHome}
use Rattle.numbered_slots.proofs.SlotLemmas.{other_key, none_some}

is_Some : {A : Type 0} {x y : A} → Some x ≡ Some y → x ≡ y
is_Some e = cc

-- what is read of a list with one more is read of the list, or is the last
get_pushed : (flags : List Bool) (last : Bool) (k : ℕ) → slice_get (flags ++ last ∷ []) k ≡ Some true → (slice_get flags k ≡ Some true) ⊎ ((k ≡ length flags) × (last ≡ true))
get_pushed [] last zero e = inr (refl, is_Some e)
get_pushed [] last (suc k) e = inl e
get_pushed (f ∷ fs) last zero e = inl e
get_pushed (f ∷ fs) last (suc k) e = ⊎_elim (λ there. inl there) (λ here. inr (ap suc here.0, here.1)) (get_pushed fs last k e)

-- what is still marked was marked, and is not the one that was taken back
get_struck : (flags : List Bool) (n k : ℕ) → slice_get (set flags n false) k ≡ Some true → (k ≢ n) × (slice_get flags k ≡ Some true)
get_struck [] n k e = absurd (none_some refl e)
get_struck (f ∷ fs) zero zero e = absurd (false≢true (is_Some e))
get_struck (f ∷ fs) zero (suc k) e = (λ same. omega (arith, same), e)
get_struck (f ∷ fs) (suc n) zero e = (λ same. omega (arith, same), e)
get_struck (f ∷ fs) (suc n) (suc k) e = let rest = get_struck fs n k e in (λ same. rest.0 (omega (arith, same)), rest.1)

pub tells-empty : (at_home : List Bool) (keys : tree.BTreeMap ℕ ℕ) → at_home ≡ [] → TellsHomes at_home keys
tells-empty at_home keys none k at = absurd (none_some (ap (λ flags. slice_get flags k) none) at)

-- a new number has this slot, which is marked where it is the number itself
module _ (at_home new : List Bool) (m keys : tree.BTreeMap ℕ ℕ) (next slot : ℕ) (tells : TellsHomes at_home m)
    (fresh : tree.get nat_cmp m next ≡ None) (put : tree.Updates nat_cmp m keys next (Some slot)) where
  tells-before : TellsHomes at_home keys
  tells-before k at =
      let was = tells k at in
      other_key m keys next _ put k (λ same. none_some fresh (sym (ap (tree.get nat_cmp m) same) ∙ was)) ∙ was

  tells-pushed : slot ≡ length at_home → TellsHomes (at_home ++ (slot == next) ∷ []) keys
  tells-pushed last k at = ⊎_elim
      (λ there. tells-before k there)
      (λ here. let own : slot ≡ next = eqb-true slot next here.1 in
      let same : k ≡ slot = here.0 ∙ sym last in
      ap (tree.get nat_cmp keys) (same ∙ own) ∙ put.1 ∙ ap (λ x. Some x) (sym same))
      (get_pushed at_home (slot == next) k at)

  pub tells-inserted : new ≡ cond (slot == length at_home) (at_home ++ (slot == next) ∷ []) at_home → TellsHomes new keys
  tells-inserted is = rw (is) (cond_both (slot == length at_home) _ _ (λ flags. TellsHomes flags keys)
      (λ last. tells-pushed (eqb-true slot (length at_home) last)) (λ _. tells-before))

-- a number is taken out, and its own slot is marked no more
pub tells-removed : (at_home new : List Bool) (m keys : tree.BTreeMap ℕ ℕ) (number : ℕ) → TellsHomes at_home m
    → tree.Updates nat_cmp m keys number None → new ≡ set at_home number false → TellsHomes new keys
tells-removed at_home new m keys number tells cut is k at =
    let was = get_struck at_home number k (ap (λ flags. slice_get flags k) (sym is) ∙ at) in
    other_key m keys number _ cut k was.0 ∙ tells k was.1

-- ---- the number below which each stands at home

pub homes-inserted : (homes new : ℕ) (m keys : tree.BTreeMap ℕ ℕ) (next slot : ℕ) → AreHome homes m → tree.get nat_cmp m next ≡ None
    → tree.Updates nat_cmp m keys next (Some slot) → (new ≡ homes) ⊎ ((new ≡ next + 1) × (homes ≡ next) × (slot ≡ next)) → AreHome new keys
homes-inserted homes new m keys next slot are fresh put told k h = ⊎_elim
    (λ same. before (omega (arith, h, same)))
    (λ more.
    let is : new ≡ next + 1 = more.0 in
    let at : homes ≡ next = more.1 in
    ⊎_elim
    (λ e. ap (tree.get nat_cmp keys) e ∙ put.1 ∙ ap (λ x. Some x) (more.2 ∙ sym e))
    (λ apart. before (omega (arith, h, is, at, apart)))
    (cases_eq k next))
    told
  where
    before : k < homes → tree.get nat_cmp keys k ≡ Some k
    before less =
        let was = are k less in
        other_key m keys next _ put k (λ same. none_some fresh (sym (ap (tree.get nat_cmp m) same) ∙ was)) ∙ was

pub homes-removed : (homes new : ℕ) (m keys : tree.BTreeMap ℕ ℕ) (number : ℕ) → AreHome homes m → tree.Updates nat_cmp m keys number None → new ≤ homes → new ≤ number
    → AreHome new keys
homes-removed homes new m keys number are cut less low k h =
    other_key m keys number _ cut k (λ same. omega (arith, h, low, same)) ∙ are k (omega (arith, h, less))
