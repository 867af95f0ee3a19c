use Rattle.std.proofs.Common.{◌≡◌, drop}
use Rattle.design_rules.specs.Objects.{object_at, name_of}
use Rattle.binding.specs.Names.{path_through}
use Rattle.binding.proofs.paths.written.Given as goal

abbrev pub invariant-loop-k : goal.invariant-loop-k
invariant-loop-k l = l.path.items ≡ path_through l.objects (name_of (object_at l.objects l.top)) (drop l.k l.up)
