use Rattle.std.proofs.Common.{◌≡◌, ◌++◌, drop, length}
use Rattle.check_names.specs.Tables.{numbered, numbered_from}
use Rattle.check_names.specs.ModelNames.{module_items, names_of_modules}
use Rattle.check_names.proofs.model_names.ModelNames.new.Given as goal

abbrev pub invariant-loop-module : goal.invariant-loop-module
invariant-loop-module l = record {
  all : l.tables.items ++ module_items (drop l.module-index l.modules) ≡ module_items l.modules;
  named : numbered_from (length l.tables.items) l.places (names_of_modules (drop l.module-index l.modules)) ≡ numbered (names_of_modules l.modules);
}
