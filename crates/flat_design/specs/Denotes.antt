-- What names stand for in an instance of a module.
use Rattle.std.specs.Prelude.{ℕ, List, slice_get, option_map, option_and_then, unwrap_or, Option, None}
use Rattle.flat_design.specs.declared.value_types.ValueType.{ValueType}
use Rattle.flat_design.specs.declared.names.NameUse.{NameUse}
use Rattle.flat_design.specs.declared.names.NameUse.TheVariants as name_use
use Rattle.flat_design.specs.declared.code.Local.{Local}
use Rattle.flat_design.specs.declared.design.Denoted.{Denoted}
use Rattle.flat_design.specs.declared.design.Denoted.TheVariants as denoted
use Rattle.flat_design.specs.declared.design.Design.{Design}

-- what the name at this place of its module stands for in the instance of this number
abbrev pub denoted_at : Design → ℕ → ℕ → Denoted
denoted_at d home n = unwrap_or (option_and_then (λ i. slice_get i.names n) (slice_get d.instances home)) denoted.Nothing

-- where a statement stands: in this instance of its module, among these local variables
pub record Context : Type 0 where
  pub design : Design
  pub home : ℕ
  pub locals : List Local

abbrev pub declared : Context → ℕ → Denoted
declared c n = denoted_at c.design c.home n

-- the type of a variable of a module
abbrev pub type_of_variable : Design → Denoted → Option ValueType
type_of_variable d denoted.Nothing = None
type_of_variable d (denoted.Channel c) = None
type_of_variable d (denoted.Event e) = None
type_of_variable d (denoted.Keeper k) = None
type_of_variable d (denoted.Memory m) = None
type_of_variable d (denoted.Variable v) = option_map (λ p. p.value_type) (slice_get d.variables v)
type_of_variable d (denoted.Port p) = None
type_of_variable d (denoted.Process p) = None
type_of_variable d (denoted.Socket hop forward) = None

-- the type of a variable, a local one or one of the module
abbrev pub variable_type : Context → NameUse → Option ValueType
variable_type c (name_use.Local i) = option_map (λ (l : Local). l.value_type) (slice_get c.locals i)
variable_type c (name_use.Declared n) = type_of_variable c.design (declared c n)
