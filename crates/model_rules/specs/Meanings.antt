-- The types that declarations give, and what each declaration makes of its name.
use Rattle.std.specs.Prelude.{ℕ, Bool, true, false, ◌&&◌, nat_le, if◌then◌else◌, List, filter_map, option_map, Option, Some, None}
use Rattle.flat_design.specs.ModelTree.Tree as tree
use Rattle.flat_design.specs.ModelTree.declared.types.TypeForm.{TypeForm}
use Rattle.flat_design.specs.ModelTree.declared.types.TypeForm.TheVariants as form
use Rattle.flat_design.specs.ModelTree.declared.types.SignalType.{SignalType}
use Rattle.flat_design.specs.ModelTree.declared.types.VarType.{VarType}
use Rattle.flat_design.specs.ModelTree.declared.types.VarType.TheVariants as var_type
use Rattle.flat_design.specs.ModelTree.declared.types.Interface.{Interface}
use Rattle.flat_design.specs.ModelTree.declared.types.Interface.TheVariants as interface
use Rattle.flat_design.specs.ModelTree.declared.types.PortSize.{PortSize}
use Rattle.flat_design.specs.ModelTree.declared.items.PlainKind.{PlainKind}
use Rattle.flat_design.specs.ModelTree.declared.items.PlainKind.TheVariants as plain
use Rattle.flat_design.specs.ModelTree.declared.items.InitiatorRole.{InitiatorRole}
use Rattle.flat_design.specs.ModelTree.declared.items.InitiatorRole.TheVariants as initiator
use Rattle.flat_design.specs.ModelTree.declared.items.TargetRole.{TargetRole}
use Rattle.flat_design.specs.ModelTree.declared.items.TargetRole.TheVariants as target
use Rattle.flat_design.specs.declared.value_types.ValueType.{ValueType}
use Rattle.flat_design.specs.declared.value_types.ValueType.TheVariants as type
use Rattle.model_rules.specs.declared.meanings.Meaning.{Meaning}
use Rattle.model_rules.specs.declared.meanings.Meaning.TheVariants as meaning

-- widths are 1 to 64
abbrev pub is_width : ℕ → Bool
is_width width = nat_le 1 width && nat_le width 64

abbrev pub if_width : ℕ → ValueType → Option ValueType
if_width width t = if is_width width then Some t else None

-- the type of values that a written type stands for; none where its width is out of range
abbrev pub form_type : TypeForm → Option ValueType
form_type form.Bool = Some type.Bool
form_type form.Logic = Some type.Logic
form_type (form.Int width) = if_width width (type.Int width)
form_type (form.Uint width) = if_width width (type.Uint width)
form_type (form.Vector width) = if_width width (type.Vector width)

abbrev pub signal_type : SignalType → Option ValueType
signal_type t = form_type t.form

abbrev pub variable_type : VarType → Option ValueType
variable_type (var_type.Plain t) = signal_type t
variable_type var_type.Time = Some type.Time
variable_type var_type.Process = Some type.Process
variable_type var_type.Payload = Some type.Payload

-- the size of a port: 1 where none is written
abbrev pub port_size : Option PortSize → ℕ
port_size None = 1
port_size (Some size) = size.count

abbrev pub port_meaning : Interface → ℕ → Meaning
port_meaning (interface.In t) size = meaning.In (signal_type t) size
port_meaning (interface.Out t) size = meaning.Out (signal_type t) size
port_meaning (interface.FifoIn t) size = meaning.FifoIn (signal_type t) size
port_meaning (interface.FifoOut t) size = meaning.FifoOut (signal_type t) size
port_meaning interface.Mutex size = meaning.MutexPort size
port_meaning interface.Semaphore size = meaning.SemaphorePort size

abbrev pub plain_meaning : PlainKind → Meaning
plain_meaning plain.Mutex = meaning.Mutex
plain_meaning plain.Event = meaning.Event
plain_meaning plain.Keeper = meaning.Keeper

abbrev pub hands_on : InitiatorRole → Bool
hands_on initiator.Pass = true
hands_on (initiator.Own backward) = false

abbrev pub takes_over : TargetRole → Bool
takes_over target.Pass = true
takes_over (target.Own blocking forward) = false

-- a name that a module declares, and what it stands for
pub record Declared : Type 0 where
  pub name : List ℕ
  pub meaning : Meaning

abbrev pub as_declared : List ℕ → Meaning → Option Declared
as_declared name m = Some (record { name = name; meaning = m })

-- what an item declares; a binding declares nothing
abbrev pub declaration : tree.Item → Option Declared
declaration (tree.signal line s) = as_declared s.name (meaning.Signal (signal_type s.value_type))
declaration (tree.resolved line name) = as_declared name meaning.Resolved
declaration (tree.clock line c) = as_declared c.name meaning.Clock
declaration (tree.fifo line t name size) = as_declared name (meaning.Fifo (signal_type t))
declaration (tree.plain line kind name) = as_declared name (plain_meaning kind)
declaration (tree.semaphore line name c) = as_declared name meaning.Semaphore
declaration (tree.memory line name size) = as_declared name meaning.Memory
declaration (tree.variable line t name c) = as_declared name (meaning.Variable (variable_type t))
declaration (tree.port line i name size) = as_declared name (port_meaning i (port_size size))
declaration (tree.export line i name) = as_declared name meaning.Export
declaration (tree.initiator line name role) = as_declared name (meaning.Initiator (hands_on role))
declaration (tree.target line name role) = as_declared name (meaning.Target (takes_over role))
declaration (tree.instance line kind name) = as_declared name meaning.Instance
declaration (tree.bind line left right) = None
declaration (tree.function line f) = as_declared f.name meaning.Function
declaration (tree.process line p) = as_declared p.name meaning.Process

-- those of a module, in text order
abbrev pub declarations : List tree.Item → List Declared
declarations items = filter_map declaration items

abbrev pub declared_name : tree.Item → Option (List ℕ)
declared_name i = option_map (λ d. d.name) (declaration i)
