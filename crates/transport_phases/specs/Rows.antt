-- What a contract sees of a `Hop`: its rows, and for how many more of them there is room.
use Rattle.std.specs.Prelude.{◌⊎◌, ℕ, ◌+◌, ◌<◌, IsTrue, Option, None, Some, if◌then◌else◌, unwrap_or, refl}
use Rattle.std.specs.Ordering.{nat_cmp}
use Rattle.std.specs.Coded.{Coded, code_by, coded×, coded_ℕ}
use Rattle.std.specs.FinMap as map
use Rattle.transport_phases.specs.declared.transaction.Kept.{Kept}
use Rattle.transport_phases.specs.contracts.transaction.Kept as kept_row
use Rattle.transport_phases.specs.Phases.{fresh, is_fresh}

-- the row of each transaction that has one
pub record Rows : Type 0 where
  pub kept : map.FinMap nat_cmp Kept
  pub spare : ℕ

-- the rows are stored as the pair of their fields
abbrev pub rows_code : Coded Rows
rows_code =
    code_by
    (map.FinMap nat_cmp Kept × ℕ)
    (coded× (map.code coded_ℕ kept_row.the_row.coded) coded_ℕ)
    (λ r. (r.kept, r.spare))
    (λ p. record { kept = p.0; spare = p.1 })
    (λ _. refl)

-- the row that a transaction has: none where it is idle and has no call open
abbrev pub row_of : Kept → Option Kept
row_of k = if is_fresh k then None else Some k

-- what is kept of a transaction: nothing of one that has no row
abbrev pub kept_in : map.FinMap nat_cmp Kept → ℕ → Kept
kept_in rows t = unwrap_or (map.get rows t) fresh

-- the transaction has a row, or there is room for one
abbrev pub IsRegistered : Rows → ℕ → Type 0
IsRegistered r t = IsTrue (map.contains_key r.kept t) ⊎ (0 < r.spare)

-- how many rows there is room for in all
abbrev pub places : Rows → ℕ
places r = map.len r.kept + r.spare
