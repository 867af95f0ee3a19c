-- Rows and variables, one more at a time.
use Rattle.std.proofs.Common.{◌≡◌, ◌<◌, ◌≤◌, ◌+◌, ◌-◌, ◌++◌, ℕ, zero, suc, Bool, true, false, List, [], ◌∷◌, Option, Some, None, drop, length, replicate, get_or, append_assoc, refl, sym, ap, ◌∙◌, arith}
use Rattle.std.specs.Prelude.{◌==◌, ◌&&◌, not, slice_set, if◌then◌else◌}
use Rattle.std.proofs.lemmas.List.{length-set, drop_all, drop_more}
use Rattle.std.proofs.lemmas.Bool.{eqb-true, eqb-false}
use Rattle.flat_design.specs.declared.design.Visible.{Visible}
use Rattle.flat_design.specs.declared.objects.Object.{Object}
use Rattle.laws_runs.specs.SimModel.Trace.{items_from}
use Rattle.vcd_trace.specs.Tables.{row_of, with_item, variable_at, variable_of}

pub row_empty : (count n : ℕ) → row_of (replicate count []) n ≡ []
row_empty zero n = refl
row_empty (suc count) zero = refl
row_empty (suc count) (suc n) = row_empty count n

row_set : (rows : List (List ℕ)) (k : ℕ) (row : List ℕ) → k < length rows → row_of (slice_set rows k row) k ≡ row
row_set [] k row within = absurd (omega (arith, within))
row_set (r ∷ rows) zero row within = refl
row_set (r ∷ rows) (suc k) row within = row_set rows k row (omega (arith, within))

row_other : (rows : List (List ℕ)) (k n : ℕ) (row : List ℕ) → (k ≡ n → ⊥) → row_of (slice_set rows k row) n ≡ row_of rows n
row_other [] k n row differ = refl
row_other (r ∷ rows) zero zero row differ = absurd (differ refl)
row_other (r ∷ rows) zero (suc n) row differ = refl
row_other (r ∷ rows) (suc k) zero row differ = refl
row_other (r ∷ rows) (suc k) (suc n) row differ = row_other rows k n row (λ e. differ (ap suc e))

pub as_many : (rows : List (List ℕ)) (at i : ℕ) → length (with_item rows at i) ≡ length rows
as_many rows at i = by (i == at)
  where
    by : (b : Bool) → length (if b then rows else slice_set rows at (row_of rows at ++ i ∷ [])) ≡ length rows
    by true = refl
    by false = length-set rows at (row_of rows at ++ i ∷ [])

-- an object that is put into the row of its instance is there, and no more to come
module _ (rows : List (List ℕ)) (i : ℕ) (o : Object) (more : List ℕ) where
  abbrev Added : ℕ → List (List ℕ) → Bool → Type 0
  Added at new b = row_of new at ++ more ≡ row_of rows at ++ (if b then i ∷ more else more)

  by_self : (at : ℕ) → at < length rows → (mine : Bool) → (o.parent == at) ≡ mine → (self : Bool) → (i == o.parent) ≡ self
      → Added at (if self then rows else slice_set rows o.parent (row_of rows o.parent ++ i ∷ [])) (mine && not (i == at))
  by_self at within true e true s =
      let parent : o.parent ≡ at = eqb-true o.parent at e in
      let own : (i == at) ≡ true = ap (λ (k : ℕ). i == k) (sym parent) ∙ s in
      rw own refl
  by_self at within true e false s =
      let parent : o.parent ≡ at = eqb-true o.parent at e in
      let other : (i == at) ≡ false = ap (λ (k : ℕ). i == k) (sym parent) ∙ s in
      let put : row_of (slice_set rows o.parent (row_of rows o.parent ++ i ∷ [])) at ≡ row_of rows at ++ i ∷ [] =
      ap (λ (k : ℕ). row_of (slice_set rows k (row_of rows k ++ i ∷ [])) at) parent ∙ row_set rows at (row_of rows at ++ i ∷ []) within in
      ap (λ (row : List ℕ). row ++ more) put
      ∙ append_assoc (row_of rows at) (i ∷ []) more
      ∙ ap (λ (b : Bool). row_of rows at ++ (if not b then i ∷ more else more)) (sym other)
  by_self at within false e true s = refl
  by_self at within false e false s =
      ap (λ (row : List ℕ). row ++ more) (row_other rows o.parent at (row_of rows o.parent ++ i ∷ []) (eqb-false o.parent at e))

pub item_added : (rows : List (List ℕ)) (os : List Object) (i : ℕ) (d : Object) (at : ℕ) → i < length os → at < length rows
    → row_of (with_item rows (get_or os i d).parent i) at ++ items_from at (i + 1) (drop (i + 1) os) ≡ row_of rows at ++ items_from at i (drop i os)
item_added rows os i d at below within =
    let o = get_or os i d in
    let up : suc i ≡ i + 1 = omega arith in
    by_self rows i o (items_from at (i + 1) (drop (i + 1) os)) at within (o.parent == at) refl (i == o.parent) refl
    ∙ ap (λ (k : ℕ). row_of rows at ++ (if (o.parent == at) && not (i == at) then i ∷ items_from at k (drop (i + 1) os) else items_from at k (drop (i + 1) os))) (sym up)
    ∙ ap (λ (xs : List Object). row_of rows at ++ items_from at i xs) (sym (drop_more os i d below))

-- variables

pub variable_none : (count i : ℕ) → variable_at (replicate count None) i ≡ None
variable_none zero i = refl
variable_none (suc count) zero = refl
variable_none (suc count) (suc i) = variable_none count i

variable_set : (vs : List (Option ℕ)) (k : ℕ) (o : Option ℕ) → k < length vs → variable_at (slice_set vs k o) k ≡ o
variable_set [] k o within = absurd (omega (arith, within))
variable_set (v ∷ vs) zero o within = refl
variable_set (v ∷ vs) (suc k) o within = variable_set vs k o (omega (arith, within))

variable_other : (vs : List (Option ℕ)) (k n : ℕ) (o : Option ℕ) → (k ≡ n → ⊥) → variable_at (slice_set vs k o) n ≡ variable_at vs n
variable_other [] k n o differ = refl
variable_other (v ∷ vs) zero zero o differ = absurd (differ refl)
variable_other (v ∷ vs) zero (suc n) o differ = refl
variable_other (v ∷ vs) (suc k) zero o differ = refl
variable_other (v ∷ vs) (suc k) (suc n) o differ = variable_other vs k n o (λ e. differ (ap suc e))

by_object : (vs : List (Option ℕ)) (v : Visible) (n i : ℕ) (rest : Option ℕ) → i < length vs → (b : Bool) → (v.object == i) ≡ b → variable_at vs i ≡ rest
    → variable_at (slice_set vs v.object (Some n)) i ≡ (if b then Some n else rest)
by_object vs v n i rest within true e h =
    ap (λ (k : ℕ). variable_at (slice_set vs k (Some n)) i) (eqb-true v.object i e) ∙ variable_set vs i (Some n) within
by_object vs v n i rest within false e h = variable_other vs v.object i (Some n) (eqb-false v.object i e) ∙ h

-- before all variables are seen none is found
pub none_found : (vs : List Visible) (count i : ℕ) → variable_at (replicate count None) i ≡ variable_of i (length vs) (drop (length vs) vs)
none_found vs count i =
    let none : drop (length vs) vs ≡ [] = drop_all (length vs) vs (omega arith) in
    variable_none count i ∙ sym (ap (variable_of i (length vs)) none)

-- one variable more, from the last down
pub found_down : (visible : List Visible) (p : ℕ) (d : Visible) (vs : List (Option ℕ)) (i : ℕ) → 0 < p → p ≤ length visible → i < length vs
    → variable_at vs i ≡ variable_of i p (drop p visible)
    → variable_at (slice_set vs (get_or visible (p - 1) d).object (Some (p - 1))) i ≡ variable_of i (p - 1) (drop (p - 1) visible)
found_down visible p d vs i some most within h =
    let v = get_or visible (p - 1) d in
    let up : p - 1 + 1 ≡ p = omega (arith, some) in
    let next : suc (p - 1) ≡ p = omega (arith, some) in
    let here : drop (p - 1) visible ≡ v ∷ drop p visible = drop_more visible (p - 1) d (omega (arith, some, most)) ∙ ap (λ (k : ℕ). v ∷ drop k visible) up in
    by_object vs v (p - 1) i (variable_of i p (drop p visible)) within (v.object == i) refl h
    ∙ ap (λ (k : ℕ). if v.object == i then Some (p - 1) else variable_of i k (drop p visible)) (sym next)
    ∙ ap (variable_of i (p - 1)) (sym here)
