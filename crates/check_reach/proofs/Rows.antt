-- Rows of edges, and marks over them.
use Rattle.std.proofs.Common.{◌≡◌, ◌==◌, ◌<◌, ◌≤◌, ◌+◌, ◌++◌, ◌⊎◌, inl, inr, ℕ, zero, suc, Bool, true, false, List, [], ◌∷◌, length, replicate, get_or, drop, drop-cons, add-one, append_assoc, refl, sym, ap, ◌∙◌, arith}
use Rattle.std.specs.Prelude.{slice_set}
use Rattle.std.specs.List.{list_all}
use Rattle.std.proofs.lemmas.Bool.{eqb-true, eqb-false, cases_lt}
use Rattle.check_reach.specs.declared.edges.Edge.{Edge}
use Rattle.check_reach.specs.Edges.{is_marked, target_if, targets, IsSpread}
use Rattle.check_reach.specs.Spreading.{row_of, with_edge, IsUnderWay}

pub row_empty : (count n : ℕ) → row_of (replicate count []) n ≡ []
row_empty zero n = refl
row_empty (suc count) zero = refl
row_empty (suc count) (suc n) = row_empty count n

-- a target is put into the row of its source

row_set : (rows : List (List ℕ)) (k : ℕ) (row : List ℕ) → k < length rows → row_of (slice_set rows k row) k ≡ row
row_set [] k row within = absurd (omega (arith, within))
row_set (r ∷ rows) zero row within = refl
row_set (r ∷ rows) (suc k) row within = row_set rows k row (omega (arith, within))

row_other : (rows : List (List ℕ)) (k n : ℕ) (row : List ℕ) → (k ≡ n → ⊥) → row_of (slice_set rows k row) n ≡ row_of rows n
row_other [] k n row differ = refl
row_other (r ∷ rows) zero zero row differ = absurd (differ refl)
row_other (r ∷ rows) zero (suc n) row differ = refl
row_other (r ∷ rows) (suc k) zero row differ = refl
row_other (r ∷ rows) (suc k) (suc n) row differ = row_other rows k n row (λ e. differ (ap suc e))

added_if : (rows : List (List ℕ)) (e : Edge) (n : ℕ) (more : List ℕ) → n < length rows → (b : Bool) → (e.source == n) ≡ b
    → row_of (with_edge rows e) n ++ more ≡ row_of rows n ++ target_if b e.target more
added_if rows e n more within true is =
    let source : e.source ≡ n = eqb-true e.source n is in
    ap (λ k. row_of (slice_set rows k (row_of rows k ++ e.target ∷ [])) n ++ more) source
    ∙ ap (λ row. row ++ more) (row_set rows n (row_of rows n ++ e.target ∷ []) within)
    ∙ append_assoc (row_of rows n) (e.target ∷ []) more
added_if rows e n more within false is =
    ap (λ row. row ++ more) (row_other rows e.source n (row_of rows e.source ++ e.target ∷ []) (eqb-false e.source n is))

-- a walk along edges, at the edge i of them
pub edge_added : (rows : List (List ℕ)) (edges : List Edge) (i : ℕ) (d : Edge) (n : ℕ) → i < length edges → n < length rows
    → row_of rows n ++ targets (drop i edges) n ≡ targets edges n → row_of (with_edge rows (get_or edges i d)) n ++ targets (drop (i + 1) edges) n ≡ targets edges n
edge_added rows edges i d n below within h =
    let e = get_or edges i d in
    let here : drop i edges ≡ e ∷ drop (i + 1) edges = rw (add-one, drop-cons edges i d below) refl in
    added_if rows e n (targets (drop (i + 1) edges) n) within (e.source == n) refl
    ∙ ap (λ (es : List Edge). row_of rows n ++ targets es n) (sym here)
    ∙ h

past_rows : (rows : List (List ℕ)) (n : ℕ) → length rows ≤ n → row_of rows n ≡ []
past_rows [] n h = refl
past_rows (r ∷ rows) zero h = absurd (omega (arith, h))
past_rows (r ∷ rows) (suc n) h = past_rows rows n (omega (arith, h))

row_within : (p : ℕ → Bool) (count : ℕ) (edges : List Edge) (rows : List (List ℕ)) (n : ℕ) → length rows ≡ count → ((k : ℕ) → k < count → row_of rows k ≡ targets edges k)
    → (n < count → list_all p (targets edges n) ≡ true) → (n < count) ⊎ (count ≤ n) → list_all p (row_of rows n) ≡ true
row_within p count edges rows n many are h (inl below) = ap (list_all p) (are n below) ∙ h below
row_within p count edges rows n many are h (inr past) = ap (list_all p) (past_rows rows n (omega (arith, many, past)))

-- where nothing waits the marks are spread
pub is_spread : (count : ℕ) (edges : List Edge) (rows : List (List ℕ)) (roots : List ℕ) (marks : List Bool) → length rows ≡ count
    → ((k : ℕ) → k < count → row_of rows k ≡ targets edges k) → IsUnderWay count rows roots (marks, []) → IsSpread count edges roots marks
is_spread count edges rows roots marks many are u = record {
  as_many = u.as_many;
  has_roots = u.has_roots;
  closed = λ n below marked. ap (list_all (is_marked marks)) (sym (are n below)) ∙ u.followed n below marked;
  least = λ other has closed.
      let h = u.least other has (λ n is. row_within other count edges rows n many are (λ below. closed n below is) (cases_lt n count)) in
      λ n below marked. h.0 n (omega (arith, below, u.as_many)) marked;
}
