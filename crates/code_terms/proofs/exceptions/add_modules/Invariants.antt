use Rattle.std.proofs.Common.{◌≡◌, drop}
use Rattle.model_tree.specs.Views.{modules_of}
use Rattle.code_terms.specs.Names.{thrown_in_modules, with_all}
use Rattle.code_terms.proofs.exceptions.add_modules.Given as goal

abbrev pub invariant-loop-module : goal.invariant-loop-module
invariant-loop-module l = with_all l.names (thrown_in_modules (modules_of (drop l.module-index l.modules))) ≡ with_all l.fn.names (thrown_in_modules (modules_of l.modules))
