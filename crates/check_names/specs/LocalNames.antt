-- The parameters and local variables that are visible at a place, and how many were declared before it.
use Rattle.std.specs.Prelude.{◌≡◌, ℕ, ◌+◌, List, [], ◌∷◌, ◌++◌, map, take, length}
use Rattle.model_rules.specs.ModelTree.declared.types.VarType.{VarType}
use Rattle.model_rules.specs.Meanings.{variable_type}
use Rattle.model_rules.specs.Scopes.{Local}
use Rattle.check_names.specs.Tables.{Numbers, with_first, numbered}
use Rattle.check_names.specs.declared.locals.Visible.{Visible}

-- what is visible, and the number of declarations
pub record LocalNames : Type 0 where
  pub visible : List Local
  pub count : ℕ

abbrev pub no_locals : LocalNames
no_locals = record { visible = []; count = 0 }

-- one more is declared
abbrev pub with_name : LocalNames → List ℕ → VarType → LocalNames
with_name l name t = record { visible = l.visible ++ (record { name = name; number = l.count; value_type = variable_type t }) ∷ []; count = l.count + 1 }

-- only the first so many stay visible
abbrev pub left_at : ℕ → LocalNames → LocalNames
left_at n l = record { visible = take n l.visible; count = l.count }

-- how they are kept

abbrev pub local_of : Visible → Local
local_of v = record { name = v.name.now; number = v.number; value_type = v.value_type }

abbrev pub name_of : Visible → List ℕ
name_of v = v.name.now

-- how many names the table had before each of these
abbrev pub sizes_from : ℕ → Numbers → List (List ℕ) → List ℕ
sizes_from n t [] = []
sizes_from n t (name ∷ names) = length t ∷ sizes_from (n + 1) (with_first t name n) names

-- the table has the first of equal names, and each knows how many names the table had before it
pub record AreKept (visible : List Visible) (table : Numbers) : Type 0 where
  pub in_table : table ≡ numbered (map name_of visible)
  pub sizes : map (λ (v : Visible). v.named) visible ≡ sizes_from 0 [] (map name_of visible)
