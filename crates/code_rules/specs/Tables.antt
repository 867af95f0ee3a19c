-- How rooms are found: by a table of the greatest number of events in each block, made block by block, inner ones first. No
-- public clause speaks of it.
use Rattle.std.specs.Prelude.{ℕ, List, [], ◌∷◌, ◌++◌, max, slice_index, Option, Some, None}
use Rattle.std.specs.List.{fold}
use Rattle.model_rules.specs.FlatDesign.Code.{Statement, Arena, statement_at}
use Rattle.model_rules.specs.FlatDesign.Reach.{inner_blocks}
use Rattle.model_rules.specs.FlatDesign.Sound.{events_of}
use Rattle.model_rules.specs.FlatDesign.declared.code.BodyKind.{BodyKind}
use Rattle.model_rules.specs.FlatDesign.declared.code.BodyKind.TheVariants as body_kind
use Rattle.model_rules.specs.FlatDesign.declared.code.CodeBody.{CodeBody}

-- a block past the table has none
abbrev pub in_block : List ℕ → ℕ → ℕ
in_block table b = slice_index table b

abbrev pub greatest_in : {A : Type 0} → (A → ℕ) → ℕ → List A → ℕ
greatest_in h first xs = fold (λ most x. max most (h x)) first xs

abbrev pub in_blocks : List ℕ → ℕ → List ℕ → ℕ
in_blocks table first bs = greatest_in (in_block table) first bs

abbrev pub in_statement : List ℕ → Statement → ℕ
in_statement table s = in_blocks table (events_of s) (inner_blocks s)

abbrev pub in_found : List ℕ → Option Statement → ℕ
in_found table None = 0
in_found table (Some s) = in_statement table s

abbrev pub in_numbers : Arena → List ℕ → List ℕ → ℕ
in_numbers a table ids = greatest_in (λ n. in_found table (statement_at a n)) 0 ids

abbrev pub with_block : Arena → List ℕ → List ℕ → List ℕ
with_block a table ids = table ++ in_numbers a table ids ∷ []

abbrev pub table_of : Arena → List ℕ
table_of a = fold (with_block a) [] a.blocks

abbrev pub if_function : BodyKind → ℕ → ℕ
if_function body_kind.Function n = n
if_function body_kind.Thread n = 0
if_function body_kind.Method n = 0
if_function body_kind.Clock n = 0

abbrev pub in_functions : List ℕ → List CodeBody → ℕ
in_functions table bs = greatest_in (λ (b : CodeBody). if_function b.kind (in_block table b.block)) 0 bs

abbrev pub with_room : List ℕ → ℕ → CodeBody → CodeBody
with_room table functions b = record b { room = max functions (in_block table b.block) }
