-- The first fault of a binding: each binding is judged in object order, and then each port, export and socket.
use Rattle.std.specs.Prelude.{◌==◌, ◌||◌, ◌+◌, ℕ, Bool, true, false, not, nat_lt, List, [], ◌∷◌, length, Option, Some, None, option_map}
use Rattle.std.specs.List.{list_any}
use Rattle.std.specs.Option.{option_or}
use Rattle.code_rules.specs.ModelTree.declared.faults.Fault.{Fault}
use Rattle.code_rules.specs.ModelTree.declared.faults.Kind.{Kind}
use Rattle.code_rules.specs.ModelTree.declared.faults.Kind.TheVariants as kind
use Rattle.code_rules.specs.ModelTree.declared.types.BoundRule.{BoundRule}
use Rattle.code_rules.specs.ModelTree.declared.types.BoundRule.TheVariants as bound
use Rattle.code_rules.specs.FlatDesign.declared.objects.Object.{Object}
use Rattle.code_rules.specs.FlatDesign.declared.objects.ObjectForm.{ObjectForm}
use Rattle.code_rules.specs.FlatDesign.declared.objects.ObjectForm.TheVariants as form
use Rattle.code_rules.specs.FlatDesign.declared.objects.Binding.{Binding}
use Rattle.code_rules.specs.FlatDesign.declared.objects.Objects.{Objects}
use Rattle.design_rules.specs.Objects.{bindings_of, path_of}
use Rattle.design_rules.specs.Fits.{kind_differs}
use Rattle.design_rules.specs.Paths.{ends_of, leaders_of}

-- one of them stands there twice
abbrev pub has_twice : List ℕ → Bool
has_twice [] = false
has_twice (x ∷ xs) = list_any (λ y. y == x) xs || has_twice xs

-- two of them differ
abbrev pub has_two : List ℕ → Bool
has_two [] = false
has_two (x ∷ xs) = list_any (λ y. not (y == x)) xs

-- at one object the kinds are tried in this order
abbrev pub first_broken : Bool → Bool → Bool → Option Kind
first_broken true many few = Some kind.DoubleBound
first_broken false true few = Some kind.TooMany
first_broken false false true = Some kind.Unbound
first_broken false false false = None

-- so many channels are too few for a port of this size
abbrev pub has_too_few : BoundRule → ℕ → ℕ → Bool
has_too_few bound.One size n = n == 0
has_too_few bound.Zero size n = false
has_too_few bound.All size n = n == 0 || nat_lt n size

-- a port with these channels
abbrev pub port_fault : ℕ → BoundRule → List ℕ → Option Kind
port_fault size rule channels = first_broken (has_twice channels) (nat_lt size (length channels)) (has_too_few rule size (length channels))

-- an export or an initiator with so many bindings
abbrev pub single_fault : ℕ → Option Kind
single_fault n = first_broken (nat_lt 1 n) false (n == 0)

-- a target with `pass`, with so many bindings, to which these initiators lead
abbrev pub pass_fault : ℕ → List ℕ → Option Kind
pass_fault n leaders = first_broken (nat_lt 1 n || has_two leaders) false (n == 0)

-- a target without it
abbrev pub target_fault : List ℕ → Option Kind
target_fault leaders = first_broken (has_two leaders) false (length leaders == 0)

abbrev pub socket_fault : ℕ → List ℕ → Bool → Option Kind
socket_fault n leaders true = pass_fault n leaders
socket_fault n leaders false = target_fault leaders

-- what is wrong with the object of this number and form
abbrev pub broken_at : Objects → ℕ → ObjectForm → Option Kind
broken_at os i (form.Instance m) = None
broken_at os i (form.Signal kind many t initial) = None
broken_at os i form.Resolved = None
broken_at os i (form.Clock period high start code) = None
broken_at os i (form.Fifo t size) = None
broken_at os i form.Mutex = None
broken_at os i form.Event = None
broken_at os i form.Keeper = None
broken_at os i (form.Semaphore start) = None
broken_at os i (form.Memory size) = None
broken_at os i (form.Variable t initial) = None
broken_at os i (form.Port leads_to size rule) = port_fault size rule (ends_of os i)
broken_at os i (form.Export leads_to) = single_fault (length (bindings_of os i))
broken_at os i (form.Initiator pass backward) = single_fault (length (bindings_of os i))
broken_at os i (form.Target pass blocking forward) = socket_fault (length (bindings_of os i)) (leaders_of os i) pass
broken_at os i (form.Process kind code dont_initialize) = None

-- a fault of this kind at this line, with the path of the object of this number
abbrev pub fault_of : Objects → ℕ → ℕ → Kind → Fault
fault_of os line i k = record { kind = k; line = line; name = path_of os i }

-- of the object of this number, at the line of its declaration
abbrev pub object_fault : Objects → ℕ → Object → Option Fault
object_fault os i o = option_map (fault_of os o.line i) (broken_at os i o.form)

-- of objects, of which the first has this number
abbrev pub objects_fault : Objects → ℕ → List Object → Option Fault
objects_fault os i [] = None
objects_fault os i (o ∷ more) = option_or (object_fault os i o) (objects_fault os (i + 1) more)

-- of a binding, at its line, with the path of its left end
abbrev pub fault_if : Objects → Binding → Bool → Option Fault
fault_if os b false = None
fault_if os b true = Some (fault_of os b.line b.left kind.KindDiffers)

abbrev pub binding_fault : Objects → Binding → Option Fault
binding_fault os b = fault_if os b (kind_differs os b)

abbrev pub bindings_fault : Objects → List Binding → Option Fault
bindings_fault os [] = None
bindings_fault os (b ∷ more) = option_or (binding_fault os b) (bindings_fault os more)

abbrev pub first_fault : Objects → Option Fault
first_fault os = option_or (bindings_fault os os.binds) (objects_fault os 0 os.list)
