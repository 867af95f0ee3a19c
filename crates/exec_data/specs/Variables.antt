-- The variable that a name stands for.
use Rattle.std.specs.Prelude.{ℕ, Option, Some, None}
use Rattle.flat_design.specs.declared.design.Denoted.{Denoted}
use Rattle.flat_design.specs.declared.design.Denoted.TheVariants as denoted

abbrev pub number_of : Denoted → Option ℕ
number_of denoted.Nothing = None
number_of (denoted.Channel ch) = None
number_of (denoted.Event e) = None
number_of (denoted.Keeper k) = None
number_of (denoted.Memory m) = None
number_of (denoted.Variable n) = Some n
number_of (denoted.Port n) = None
number_of (denoted.Process p) = None
number_of (denoted.Socket hop forward) = None
