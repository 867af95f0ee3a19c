-- Rows after one is written: how many are begun and done, and that no time passes the limit.
use Rattle.std.proofs.Common.{◌≡◌, ◌≢◌, ℕ, ◌+◌, ◌^◌, ◌<◌, ◌≤◌, Bool, false, cond, List, length, ap, ◌∙◌, inl, inr, arith, lt-ltb}
use Rattle.std.specs.Prelude.{slice_set, nat_lt, count_by}
use Rattle.std.proofs.lemmas.Bool.{cases_eq}
use Rattle.std.proofs.lemmas.List.{get_or-set_same, get_or-set_other}
use Rattle.std.proofs.lemmas.List.Sums.{sum_by-set, count_by-le-length}
use Rattle.bus_router.specs.declared.rows.BusRow.{BusRow}
use Rattle.bus_router.specs.Times.{row_at}
use Rattle.bus_router.specs.Making.{AreBounded, done_count, begun_count, limit}

abbrev pub no_row : BusRow
no_row = record { b = 0; a = 0; s = 0; e = 0; r = 0; direct = false }

pub count_set : (p : BusRow → Bool) (rows : List BusRow) (k : ℕ) (row : BusRow) → k < length rows
    → count_by p (slice_set rows k row) + cond {A = ℕ} (p (row_at rows k)) 1 0 ≡ count_by p rows + cond {A = ℕ} (p row) 1 0
count_set p rows k row there = sum_by-set (λ (r : BusRow). cond (p r) 1 0) rows k row no_row there

counts : (x : ℕ) → 0 < x → cond {A = ℕ} (nat_lt 0 x) 1 0 ≡ 1
counts x some = ap (λ b. cond {A = ℕ} b 1 0) (lt-ltb 0 x some)

counts_not : (x : ℕ) → x ≡ 0 → cond {A = ℕ} (nat_lt 0 x) 1 0 ≡ 0
counts_not x none = ap (λ n. cond {A = ℕ} (nat_lt 0 n) 1 0) none

pub few_done : (rows : List BusRow) → done_count rows ≤ length rows
few_done rows = count_by-le-length (λ (row : BusRow). nat_lt 0 row.r) rows

pub few_begun : (rows : List BusRow) → begun_count rows ≤ length rows
few_begun rows = count_by-le-length (λ (row : BusRow). nat_lt 0 row.a) rows

module _ (rows : List BusRow) (k : ℕ) (row : BusRow) (there : k < length rows) where
  pub at_k : row_at (slice_set rows k row) k ≡ row
  at_k = get_or-set_same rows k row no_row there

  pub at_other : (m : ℕ) → m ≢ k → row_at (slice_set rows k row) m ≡ row_at rows m
  at_other m off = get_or-set_other rows k m row no_row off

  pub done_same : (row_at rows k).r ≡ 0 → row.r ≡ 0 → done_count (slice_set rows k row) ≡ done_count rows
  done_same was is =
      let sums = count_set (λ (r : BusRow). nat_lt 0 r.r) rows k row there in
      let one = counts_not (row_at rows k).r was in
      let other = counts_not row.r is in
      omega arith

  pub done_more : (row_at rows k).r ≡ 0 → 0 < row.r → done_count (slice_set rows k row) ≡ done_count rows + 1
  done_more was is =
      let sums = count_set (λ (r : BusRow). nat_lt 0 r.r) rows k row there in
      let one = counts_not (row_at rows k).r was in
      let other = counts row.r is in
      omega arith

  pub begun_same : 0 < (row_at rows k).a → 0 < row.a → begun_count (slice_set rows k row) ≡ begun_count rows
  begun_same was is =
      let sums = count_set (λ (r : BusRow). nat_lt 0 r.a) rows k row there in
      let one = counts (row_at rows k).a was in
      let other = counts row.a is in
      omega arith

  pub begun_more : (row_at rows k).a ≡ 0 → 0 < row.a → begun_count (slice_set rows k row) ≡ begun_count rows + 1
  begun_more was is =
      let sums = count_set (λ (r : BusRow). nat_lt 0 r.a) rows k row there in
      let one = counts_not (row_at rows k).a was in
      let other = counts row.a is in
      omega arith

  pub bounded_set : AreBounded rows → done_count rows ≤ done_count (slice_set rows k row) → row.r < limit (slice_set rows k row) → row.a < limit (slice_set rows k row) + 2 ^ 40
      → AreBounded (slice_set rows k row)
  bounded_set bounded more back arrived = record {
    back = λ m. elim (cases_eq m k) [
      | inl here ↦ let same : (row_at (slice_set rows k row) m).r ≡ row.r = ap (λ p. (row_at (slice_set rows k row) p).r) here ∙ ap (λ (r : BusRow). r.r) at_k in omega arith
      | inr off ↦ let same = ap (λ (r : BusRow). r.r) (at_other m off) in let was = bounded.back m in omega arith
    ];
    arrived = λ m. elim (cases_eq m k) [
      | inl here ↦ let same : (row_at (slice_set rows k row) m).a ≡ row.a = ap (λ p. (row_at (slice_set rows k row) p).a) here ∙ ap (λ (r : BusRow). r.a) at_k in omega arith
      | inr off ↦ let same = ap (λ (r : BusRow). r.a) (at_other m off) in let was = bounded.arrived m in omega arith
    ];
  }
