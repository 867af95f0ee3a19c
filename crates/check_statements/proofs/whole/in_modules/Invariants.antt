use Rattle.std.proofs.Common.{◌≡◌, [], drop}
use Rattle.model_tree.specs.Views.{modules_of}
use Rattle.check_statements.specs.Doubled.{in_modules}
use Rattle.check_statements.proofs.whole.in_modules.Given as goal

abbrev pub invariant-loop-owner : goal.invariant-loop-owner
invariant-loop-owner l = in_modules (modules_of l.modules) [] ≡ in_modules (modules_of (drop l.owner-index l.modules)) l.before
