-- What a `Table` ends as, where a `&mut` to one of its instances is returned.
use Rattle.std.specs.Prelude.{ℕ, Option}
use Rattle.std.specs.Borrow.{LendsIf, Fml, RattleType, MutBor}
use Rattle.numbered_slots.specs.Numbered.{with_value}
use Rattle.instance_table.specs.Instances.{Instances}
use Rattle.instance_table.specs.declared.instances.Instance.{Instance}
use Rattle.instance_table.specs.contracts.instances.Instance as instance
use Rattle.instance_table.specs.contracts.Table as table

-- the serial has the last instance written through the borrow, and at `None` the table stays as it is
abbrev pub lends_instance : (B : RattleType) → MutBor (Instances B.Denot) → ℕ → Option (MutBor (Instance B.Denot)) → Fml
lends_instance B t serial r =
    LendsIf (table.the_row B) (instance.the_row B) t r (with_value t.now serial) t.now
