-- What each module gives an instance of it: a row for each item that is an object, in text order.
use Rattle.std.specs.Prelude.{ℕ, ◌+◌, List, [], ◌∷◌, ◌++◌, unwrap_or, Option, Some, None}
use Rattle.check_names.specs.ModelTree.Tree as tree
use Rattle.check_names.specs.ModelTree.Lines.{item_line}
use Rattle.check_names.specs.FlatDesign.declared.objects.ObjectForm.{ObjectForm}
use Rattle.check_names.specs.ModelRules.Meanings.{declared_name}
use Rattle.design_rules.specs.CodeRules.Bodies.{body_count}
use Rattle.design_rules.specs.Forms.{Name, Around, object_form}
use Rattle.elaborate_objects.specs.declared.rows.ObjectRow.{ObjectRow}

-- an object but for the instance that it is in
pub record Row : Type 0 where
  pub name : Name
  pub line : ℕ
  pub form : ObjectForm

abbrev pub row_if : tree.Item → Option ObjectForm → List Row
row_if i None = []
row_if i (Some f) = (record { name = unwrap_or (declared_name i) []; line = item_line i; form = f }) ∷ []

abbrev pub rows_in : Around → List tree.Item → List Row
rows_in a [] = []
rows_in a (i ∷ is) = row_if i (object_form a i) ++ rows_in a is

-- of each module from one on, whose first body has this number
abbrev pub rows_from : List tree.Module → ℕ → List tree.Module → List (List Row)
rows_from ms first [] = []
rows_from ms first (m ∷ more) = rows_in (record { modules = ms; items = m.items; first_body = first }) m.items ∷ rows_from ms (first + body_count m.items) more

abbrev pub rows_of : List tree.Module → List (List Row)
rows_of ms = rows_from ms 0 ms

-- how they are kept
abbrev pub row_of : ObjectRow → Row
row_of r = record { name = r.name.now; line = r.line; form = r.form }
