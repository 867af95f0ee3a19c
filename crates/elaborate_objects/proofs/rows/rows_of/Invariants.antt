use Rattle.std.proofs.Common.{◌≡◌, ◌++◌, map, drop}
use Rattle.check_names.specs.ModelTree.Views.{modules_of}
use Rattle.elaborate_objects.specs.Rows as spec
use Rattle.elaborate_objects.specs.Rows.{row_of, rows_from}
use Rattle.elaborate_objects.proofs.rows.rows_of.Given as goal

abbrev pub invariant-loop-module : goal.invariant-loop-module
invariant-loop-module l =
    map (map row_of) l.all.items ++ rows_from (modules_of l.modules) l.first_body (modules_of (drop l.module-index l.modules)) ≡ spec.rows_of (modules_of l.modules)
