-- Where processes begin, instance by instance.
use Rattle.std.proofs.Common.{◌≡◌, ◌==◌, ◌<◌, ◌≤◌, ◌+◌, ◌⊎◌, inl, inr, ℕ, zero, suc, Bool, true, false, List, [], ◌∷◌, ◌++◌, length, replicate, Option, Some, None, Result, Ok, Err, OnOk, refl, sym, ap, ◌∙◌, subst, arith}
use Rattle.std.specs.Prelude.{slice_get, slice_set, option_map, Contains}
use Rattle.std.proofs.lemmas.List.{length-set, length-replicate}
use Rattle.std.proofs.lemmas.List.Elements.{Contains-append_left, Contains-push, Contains-push_cases}
use Rattle.std.proofs.lemmas.Bool.{eqb-true, eqb-false, cases_lt}
use Rattle.flat_design.specs.Code.{arena_of, body_at}
use Rattle.flat_design.specs.declared.code.CodeBody.{CodeBody}
use Rattle.flat_design.specs.declared.design.ProcessPart.{ProcessPart}
use Rattle.flat_design.specs.declared.design.Design.{Design}
use Rattle.order_free.specs.Spreading.{root}
use Rattle.order_free.specs.Roots.{home_of, IsRoot, roots_at, AreRoots, AreRootsOf}
use Rattle.order_free.specs.declared.roots.Root.{Root}
use Rattle.order_free.proofs.Elements.{no_element}

row_empty : (count n : ℕ) → roots_at (replicate count []) n ≡ []
row_empty zero n = refl
row_empty (suc count) zero = refl
row_empty (suc count) (suc n) = row_empty count n

pub row_set : (rows : List (List Root)) (k : ℕ) (row : List Root) → k < length rows → roots_at (slice_set rows k row) k ≡ row
row_set [] k row within = absurd (omega (arith, within))
row_set (r ∷ rows) zero row within = refl
row_set (r ∷ rows) (suc k) row within = row_set rows k row (omega (arith, within))

row_other : (rows : List (List Root)) (k n : ℕ) (row : List Root) → (n ≡ k → ⊥) → roots_at (slice_set rows k row) n ≡ roots_at rows n
row_other [] k n row differ = refl
row_other (r ∷ rows) zero zero row differ = absurd (differ refl)
row_other (r ∷ rows) zero (suc n) row differ = refl
row_other (r ∷ rows) (suc k) zero row differ = refl
row_other (r ∷ rows) (suc k) (suc n) row differ = row_other rows k n row (λ e. differ (ap suc e))

pub none_begun : (d : Design) → AreRoots d 0 (replicate (length d.instances + 1) [])
none_begun d = record {
  many = length-replicate (length d.instances + 1) [];
  are = λ home r h. absurd (no_element r (subst (λ rs. Contains rs r) (row_empty (length d.instances + 1) home) h));
  all = λ home p b below is. absurd (let k : p < 0 = below in omega (arith, k));
}

pub home_within : (d : Design) (part : ProcessPart) → home_of d part < length d.instances + 1
home_within d part = let n = length d.instances in let m = part.home in omega arith

module _ (d : Design) (p : ℕ) (part : ProcessPart) (rows : List (List Root)) (found : slice_get d.processes p ≡ Some part) (before : AreRoots d p rows) where
  same_part : (q : ProcessPart) → slice_get d.processes p ≡ Some q → q ≡ part
  same_part q is = let e : Some q ≡ Some part = sym is ∙ found in cc

  -- its body is not there
  module _ (none : option_map (λ (b : CodeBody). b.block) (body_at (arena_of d.code) part.code) ≡ None) where
    no_body : (o : Option CodeBody) → option_map (λ (b : CodeBody). b.block) o ≡ None → (b : CodeBody) → o ≡ Some b → ⊥
    no_body None e b is = cc
    no_body (Some c) e b is = cc

    not_begun : (q : ProcessPart) (b : CodeBody) → slice_get d.processes p ≡ Some q → body_at (arena_of d.code) q.code ≡ Some b → ⊥
    not_begun q b at is = no_body (body_at (arena_of d.code) part.code) none b (subst (λ (o : ProcessPart). body_at (arena_of d.code) o.code ≡ Some b) (same_part q at) is)

    all_before : (home q b : ℕ) → (q < p) ⊎ (p ≤ q) → q < p + 1 → IsRoot d home q b → Contains (roots_at rows home) (root q b)
    all_before home q b (inl below) within is = before.all home q b below is
    all_before home q b (inr not) within is =
        let same : q ≡ p = omega (arith, within, not) in
        absurd (not_begun is.part is.body (subst (λ k. slice_get d.processes k ≡ Some is.part) same is.found) is.code)

    pub none_more : AreRoots d (p + 1) rows
    none_more = record { many = before.many; are = before.are; all = λ home q b within is. all_before home q b (cases_lt q p) within is }

  -- it begins in this block
  module _ (block : ℕ) (some : option_map (λ (b : CodeBody). b.block) (body_at (arena_of d.code) part.code) ≡ Some block) where
    abbrev home : ℕ
    home = home_of d part

    abbrev row : List Root
    row = roots_at rows home ++ root p block ∷ []

    abbrev after : List (List Root)
    after = slice_set rows home row

    within : home < length rows
    within = let few = home_within d part in let many = before.many in omega (arith, few, many)

    body_of : (o : Option CodeBody) → option_map (λ (b : CodeBody). b.block) o ≡ Some block → (b : CodeBody) × (o ≡ Some b) × (b.block ≡ block)
    body_of None e = cc
    body_of (Some b) e = (b, refl, let same : Some b.block ≡ Some block = e in cc)

    begins : IsRoot d home p block
    begins = let w = body_of (body_at (arena_of d.code) part.code) some in record { part = part; body = w.0; found = found; code = w.1; there = refl; block = w.2 }

    row_are : (r : Root) → Contains row r → IsRoot d home r.process r.block
    row_are r h =
        elim (Contains-push_cases (roots_at rows home) (root p block) r h) [
          | inl old ↦ before.are home r old
          | inr is ↦ subst (λ (v : Root). IsRoot d home v.process v.block) is begins
        ]

    are_by : (k : ℕ) (r : Root) (b : Bool) → (k == home) ≡ b → Contains (roots_at after k) r → IsRoot d k r.process r.block
    are_by k r true is h =
        let same = eqb-true k home is in
        subst (λ i. IsRoot d i r.process r.block) (sym same)
        (row_are r (subst (λ rs. Contains rs r) (row_set rows home row within) (subst (λ i. Contains (roots_at after i) r) same h)))
    are_by k r false is h = before.are k r (subst (λ rs. Contains rs r) (row_other rows home k row (eqb-false k home is)) h)

    still_by : (k : ℕ) (r : Root) (b : Bool) → (k == home) ≡ b → Contains (roots_at rows k) r → Contains (roots_at after k) r
    still_by k r true is h =
        let same = eqb-true k home is in
        subst (λ i. Contains (roots_at after i) r) (sym same)
        (subst (λ rs. Contains rs r) (sym (row_set rows home row within)) (Contains-append_left (roots_at rows home) (root p block ∷ []) r (subst (λ i. Contains (roots_at rows i) r) same h)))
    still_by k r false is h = subst (λ rs. Contains rs r) (sym (row_other rows home k row (eqb-false k home is))) h

    new_there : (k b : ℕ) (part' : ProcessPart) (body : CodeBody) → part' ≡ part → body_at (arena_of d.code) part'.code ≡ Some body → home_of d part' ≡ k → body.block ≡ b → Contains (roots_at after k) (root p b)
    new_there k b part' body same code there at =
        let w = body_of (body_at (arena_of d.code) part.code) some in
        let code_here : body_at (arena_of d.code) part.code ≡ Some body = subst (λ (o : ProcessPart). body_at (arena_of d.code) o.code ≡ Some body) same code in
        let one : Some w.0 ≡ Some body = sym w.1 ∙ code_here in
        let same_body : w.0 ≡ body = cc in
        let same_block : block ≡ b = sym w.2 ∙ ap (λ (c : CodeBody). c.block) same_body ∙ at in
        let same_home : home ≡ k = ap (home_of d) (sym same) ∙ there in
        subst (λ i. Contains (roots_at after i) (root p b)) same_home
        (subst (λ j. Contains (roots_at after home) (root p j)) same_block
        (subst (λ rs. Contains rs (root p block)) (sym (row_set rows home row within)) (Contains-push (roots_at rows home) (root p block))))

    all_after : (k q b : ℕ) → (q < p) ⊎ (p ≤ q) → q < p + 1 → IsRoot d k q b → Contains (roots_at after k) (root q b)
    all_after k q b (inl below) few is = still_by k (root q b) (k == home) refl (before.all k q b below is)
    all_after k q b (inr not) few is =
        let same : q ≡ p = omega (arith, few, not) in
        subst (λ i. Contains (roots_at after k) (root i b)) (sym same)
        (new_there k b is.part is.body (same_part is.part (subst (λ i. slice_get d.processes i ≡ Some is.part) same is.found)) is.code is.there is.block)

    pub one_more : AreRoots d (p + 1) after
    one_more = record {
      many = length-set rows home row ∙ before.many;
      are = λ k r h. are_by k r (k == home) refl h;
      all = λ k q b few is. all_after k q b (cases_lt q p) few is;
    }

pub roots_of_home : (d : Design) (rows : List (List Root)) (home : ℕ) → AreRoots d (length d.processes) rows → ((p : ℕ) (b : ℕ) → IsRoot d home p b → p < length d.processes) → AreRootsOf d home (roots_at rows home)
roots_of_home d rows home h below = record { are = h.are home; all = λ p b is. h.all home p b (below p b is) is }

-- what adding a place to begin leaves, where there is memory
module _ (d : Design) (p : ℕ) (part : ProcessPart) (rows : List (List Root)) (found : slice_get d.processes p ≡ Some part) (before : AreRoots d p rows) (block : ℕ)
    (some : Some block ≡ option_map (λ (b : CodeBody). b.block) (body_at (arena_of d.code) part.code)) where
  pub one_begun : {A E : Type 0} (r : Result A E) (after : List (List Root)) (home : ℕ) → home ≡ home_of d part → OnOk r (after ≡ slice_set rows home (roots_at rows home ++ root p block ∷ []))
      → OnOk r (AreRoots d (p + 1) after)
  one_begun (Ok v) after home is e =
      subst (AreRoots d (p + 1)) (sym (e ∙ ap (λ h. slice_set rows h (roots_at rows h ++ root p block ∷ [])) is)) (one_more d p part rows found before block (sym some))
  one_begun (Err x) after home is e = tt
