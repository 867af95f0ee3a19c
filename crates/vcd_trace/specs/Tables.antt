-- Tables of objects: what stands in each instance, and which variable shows the values of each object.
use Rattle.std.specs.Prelude.{ℕ, suc, ◌==◌, List, [], ◌∷◌, ◌++◌, if◌then◌else◌, slice_get, slice_set, unwrap_or, Option, Some, None}
use Rattle.flat_design.specs.declared.design.Visible.{Visible}

abbrev pub row_of : List (List ℕ) → ℕ → List ℕ
row_of rows at = unwrap_or (slice_get rows at) []

-- object i is put into the row of an instance, unless it is that one itself
abbrev pub with_item : List (List ℕ) → ℕ → ℕ → List (List ℕ)
with_item rows at i = if i == at then rows else slice_set rows at (row_of rows at ++ i ∷ [])

abbrev pub variable_at : List (Option ℕ) → ℕ → Option ℕ
variable_at variables i = unwrap_or (slice_get variables i) None

-- the number of the first variable of object i; n is the number of the first of these
abbrev pub variable_of : ℕ → ℕ → List Visible → Option ℕ
variable_of i n [] = None
variable_of i n (v ∷ vs) = if v.object == i then Some n else variable_of i (suc n) vs
