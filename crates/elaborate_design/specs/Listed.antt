-- The objects of a design, as far as their names need it.
use Rattle.std.specs.Prelude.{◌<◌, List, length}
use Rattle.elaborate_objects.specs.FlatDesign.declared.objects.Object.{Object}
use Rattle.elaborate_objects.specs.Parents.{AreInside}

-- there is a top instance, and each object is in an instance before it
pub record AreListed (os : List Object) : Type 0 where
  pub some : 0 < length os
  pub inside : AreInside os
