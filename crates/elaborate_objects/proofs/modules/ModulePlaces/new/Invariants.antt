use Rattle.std.proofs.Common.{◌≡◌, take}
use Rattle.elaborate_objects.specs.Places.{names_of_modules}
use Rattle.elaborate_objects.proofs.modules.ModulePlaces.new.Given as goal

abbrev pub invariant-loop-module : goal.invariant-loop-module
invariant-loop-module l = l.places ≡ names_of_modules (take l.module-index l.modules)
