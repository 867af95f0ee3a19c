use Rattle.std.proofs.Common.{◌≡◌, ◌++◌, map, drop}
use Rattle.check_names.specs.ModelTree.Views.{item_of}
use Rattle.design_rules.specs.Forms.{Around}
use Rattle.elaborate_objects.specs.Names.{AreAround}
use Rattle.elaborate_objects.specs.Rows.{row_of, rows_in}
use Rattle.elaborate_objects.proofs.rows.rows_among.Given as goal

abbrev pub invariant-loop-item : goal.invariant-loop-item
invariant-loop-item l = (a : Around) → AreAround l.names a → map row_of l.rows ++ rows_in a (map item_of (drop l.item-index l.items)) ≡ rows_in a (map item_of l.items)
