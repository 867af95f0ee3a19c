-- What is found out of all objects before they are judged.
use Rattle.design_rules.specs.FlatDesign.declared.objects.Objects.{Objects}
use Rattle.design_rules.specs.Objects.{bindings_of}
use Rattle.binding.specs.declared.known.Known.{Known}
use Rattle.binding.specs.Rows.{AreRows}
use Rattle.binding.specs.Order.{IsOrder}
use Rattle.binding.specs.Ends.{kept_ends}
use Rattle.binding.specs.Leaders.{AreLed}

pub record IsKnown (os : Objects) (k : Known) : Type 0 where
  pub linked : AreRows (bindings_of os) k.from
  pub ordered : IsOrder os k.order.items
  pub ended : AreRows (kept_ends os) k.ends
  pub led : AreLed os k.leading.items
