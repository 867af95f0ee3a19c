use Rattle.std.proofs.Common.{◌≡◌}
use Rattle.design_rules.specs.Objects.{path_of}
use Rattle.binding.specs.Names.{path_through}
use Rattle.binding.proofs.paths.path_of.Given as goal

abbrev pub invariant-loop-up : goal.invariant-loop-up
invariant-loop-up l = path_of l.objects l.i ≡ path_through l.objects (path_of l.objects l.at) l.up.items

abbrev pub decreases-loop-up : goal.decreases-loop-up
decreases-loop-up l = l.at
