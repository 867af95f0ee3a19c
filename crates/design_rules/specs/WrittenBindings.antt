-- Objects written by hand: each with its line, its name, and the number of the instance that it is in.
use Rattle.std.specs.Prelude.{ℕ, Bool, true, false, List, [], ◌∷◌, codes, Option, None}
use Rattle.code_rules.specs.ModelTree.declared.items.SignalKind.TheVariants as signal_kind
use Rattle.code_rules.specs.ModelTree.declared.types.BoundRule.{BoundRule}
use Rattle.code_rules.specs.ModelTree.declared.types.BoundRule.TheVariants as bound
use Rattle.code_rules.specs.ModelTree.declared.faults.Fault.{Fault}
use Rattle.code_rules.specs.ModelTree.declared.faults.Kind.{Kind}
use Rattle.code_rules.specs.FlatDesign.ValueTypes.{default_value}
use Rattle.code_rules.specs.FlatDesign.declared.value_types.ValueType.{ValueType}
use Rattle.code_rules.specs.FlatDesign.declared.value_types.ValueType.TheVariants as type
use Rattle.code_rules.specs.FlatDesign.declared.objects.LeadsTo.{LeadsTo}
use Rattle.code_rules.specs.FlatDesign.declared.objects.LeadsTo.TheVariants as leads
use Rattle.code_rules.specs.FlatDesign.declared.objects.Object.{Object}
use Rattle.code_rules.specs.FlatDesign.declared.objects.ObjectForm.{ObjectForm}
use Rattle.code_rules.specs.FlatDesign.declared.objects.ObjectForm.TheVariants as form
use Rattle.code_rules.specs.FlatDesign.declared.objects.Binding.{Binding}
use Rattle.code_rules.specs.FlatDesign.declared.objects.Objects.{Objects}

abbrev pub object : ℕ → List ℕ → ℕ → ObjectForm → Object
object line name parent f = record { name = name; line = line; parent = parent; form = f }

-- a binding at this line of an instance
abbrev pub bind : ℕ → ℕ → ℕ → ℕ → Binding
bind line instance left right = record { line = line; instance = instance; left = left; right = right }

abbrev pub objects : List Object → List Binding → Objects
objects list binds = record { list = list; binds = binds }

abbrev pub a_fault : Kind → ℕ → List ℕ → Fault
a_fault k line name = record { kind = k; line = line; name = name }

-- forms

abbrev pub instance : ObjectForm
instance = form.Instance 0

abbrev pub signal : ValueType → ObjectForm
signal t = form.Signal signal_kind.Signal false t (default_value t)

abbrev pub buffer : ValueType → ObjectForm
buffer t = form.Signal signal_kind.Buffer false t (default_value t)

abbrev pub fifo : ValueType → ObjectForm
fifo t = form.Fifo t 1

abbrev pub clock : ObjectForm
clock = form.Clock (record { 0 = 10 }) (record { 0 = 5 }) (record { 0 = 0 }) 0

abbrev pub port : LeadsTo → ℕ → BoundRule → ObjectForm
port l size rule = form.Port l size rule

abbrev pub export : LeadsTo → ObjectForm
export l = form.Export l

abbrev pub initiator : ObjectForm
initiator = form.Initiator false None

abbrev pub pass_initiator : ObjectForm
pass_initiator = form.Initiator true None

abbrev pub target : ObjectForm
target = form.Target false None None

abbrev pub pass_target : ObjectForm
pass_target = form.Target true None None

-- an instance m with two signals of type bool, 1 and 2, and a child c, 3, that has a port p, 4
abbrev pub with_port : ObjectForm → List Binding → Objects
with_port p binds = objects
    (object 9 (codes "m") 0 instance ∷ object 1 (codes "a") 0 (signal type.Bool) ∷ object 2 (codes "b") 0 (signal type.Bool)
    ∷ object 3 (codes "c") 0 instance ∷ object 4 (codes "p") 3 p ∷ []) binds

-- the same with an object x of m, 1, in place of the signals, and c, 2, with its port, 3
abbrev pub with_right : ObjectForm → ObjectForm → Objects
with_right x p = objects
    (object 9 (codes "m") 0 instance ∷ object 1 (codes "x") 0 x ∷ object 2 (codes "c") 0 instance ∷ object 3 (codes "p") 2 p ∷ [])
    (bind 5 0 3 1 ∷ [])

-- an instance m with a child c, 1, that has a port p of two places, 2; and a child d, 3, that has signals s and r, 4 and 5,
-- and exports x and y, 6 and 7. Both exports are bound in d, and the port to both.
abbrev pub through_exports : ℕ → ℕ → Objects
through_exports x y = objects
    (object 9 (codes "m") 0 instance ∷ object 1 (codes "c") 0 instance ∷ object 2 (codes "p") 1 (port (leads.In type.Bool) 2 bound.One)
    ∷ object 3 (codes "d") 0 instance ∷ object 4 (codes "s") 3 (signal type.Bool) ∷ object 5 (codes "r") 3 (signal type.Bool)
    ∷ object 6 (codes "x") 3 (export (leads.In type.Bool)) ∷ object 7 (codes "y") 3 (export (leads.In type.Bool)) ∷ [])
    (bind 7 0 2 6 ∷ bind 8 0 2 7 ∷ bind 5 3 6 x ∷ bind 6 3 7 y ∷ [])

-- an instance m with a child c, 1, that has a port p, 2; and a child d, 3, that has an export x, 4, and a child e, 5, with a
-- signal s, 6, and an export y, 7
abbrev pub port_first : List Binding → Objects
port_first binds = objects
    (object 9 (codes "m") 0 instance ∷ object 1 (codes "c") 0 instance ∷ object 2 (codes "p") 1 (port (leads.In type.Bool) 1 bound.One)
    ∷ object 3 (codes "d") 0 instance ∷ object 4 (codes "x") 3 (export (leads.In type.Bool)) ∷ object 5 (codes "e") 3 instance
    ∷ object 6 (codes "s") 5 (signal type.Bool) ∷ object 7 (codes "y") 5 (export (leads.Out type.Bool)) ∷ [])
    binds

-- the same with c behind d: the exports x and y are 2 and 5, the signal s is 4, and the port p is 7
abbrev pub port_last : List Binding → Objects
port_last binds = objects
    (object 9 (codes "m") 0 instance ∷ object 1 (codes "d") 0 instance ∷ object 2 (codes "x") 1 (export (leads.In type.Bool))
    ∷ object 3 (codes "e") 1 instance ∷ object 4 (codes "s") 3 (signal type.Bool) ∷ object 5 (codes "y") 3 (export (leads.Out type.Bool))
    ∷ object 6 (codes "c") 0 instance ∷ object 7 (codes "p") 6 (port (leads.In type.Bool) 1 bound.One) ∷ [])
    binds

-- an instance m with signals a and b of these types, 1 and 2, and a child c, 3, with ports q and p that read bools, 4 and 5
abbrev pub two_ports : ValueType → ValueType → List Binding → Objects
two_ports t u binds = objects
    (object 9 (codes "m") 0 instance ∷ object 1 (codes "a") 0 (signal t) ∷ object 2 (codes "b") 0 (signal u) ∷ object 3 (codes "c") 0 instance
    ∷ object 4 (codes "q") 3 (port (leads.In type.Bool) 1 bound.One) ∷ object 5 (codes "p") 3 (port (leads.In type.Bool) 1 bound.One) ∷ [])
    binds

-- an instance m with signals a and b, 1 and 2, and a child c, 3, that has a port q of two places, 4, a child k, 5, with a
-- port p of four places, 6, and a signal z, 7
abbrev pub port_of_port : List Binding → Objects
port_of_port binds = objects
    (object 9 (codes "m") 0 instance ∷ object 1 (codes "a") 0 (signal type.Bool) ∷ object 2 (codes "b") 0 (signal type.Bool)
    ∷ object 3 (codes "c") 0 instance ∷ object 4 (codes "q") 3 (port (leads.In type.Bool) 2 bound.One) ∷ object 5 (codes "k") 3 instance
    ∷ object 6 (codes "p") 5 (port (leads.In type.Bool) 4 bound.One) ∷ object 7 (codes "z") 3 (signal type.Bool) ∷ [])
    binds

-- an instance m with children i, 1, and j, 3, that have initiators s, 2 and 4, and a child g, 5, with a target t, 6
abbrev pub two_initiators : List Binding → Objects
two_initiators binds = objects
    (object 9 (codes "m") 0 instance ∷ object 1 (codes "i") 0 instance ∷ object 2 (codes "s") 1 initiator
    ∷ object 3 (codes "j") 0 instance ∷ object 4 (codes "s") 3 initiator ∷ object 5 (codes "g") 0 instance ∷ object 6 (codes "t") 5 target ∷ [])
    binds

-- an instance m with children i, 1, and j, 3, that have initiators s, 2 and 4, and a child d, 5, with a target t that has
-- `pass`, 6, and a child e, 7, with a target u, 8
abbrev pub passed_on : ObjectForm → List Binding → Objects
passed_on other binds = objects
    (object 9 (codes "m") 0 instance ∷ object 1 (codes "i") 0 instance ∷ object 2 (codes "s") 1 initiator
    ∷ object 3 (codes "j") 0 instance ∷ object 4 (codes "s") 3 other ∷ object 5 (codes "d") 0 instance ∷ object 6 (codes "t") 5 pass_target
    ∷ object 7 (codes "e") 5 instance ∷ object 8 (codes "u") 7 target ∷ [])
    binds

-- an instance m with a child c, 1, that has an initiator s with `pass`, 2, and a child k, 3, with an initiator q, 4; and a
-- child g, 5, with a target t, 6
abbrev pub from_inside : ObjectForm → List Binding → Objects
from_inside q binds = objects
    (object 9 (codes "m") 0 instance ∷ object 1 (codes "c") 0 instance ∷ object 2 (codes "s") 1 pass_initiator
    ∷ object 3 (codes "k") 1 instance ∷ object 4 (codes "q") 3 q ∷ object 5 (codes "g") 0 instance ∷ object 6 (codes "t") 5 target ∷ [])
    binds

-- an instance m with a child d, 1, that has a target t with `pass`, 2, a child e, 3, with a target u, 4, and a child f, 5,
-- with an initiator q, 6
abbrev pub led_inside : List Binding → Objects
led_inside binds = objects
    (object 9 (codes "m") 0 instance ∷ object 1 (codes "d") 0 instance ∷ object 2 (codes "t") 1 pass_target ∷ object 3 (codes "e") 1 instance
    ∷ object 4 (codes "u") 3 target ∷ object 5 (codes "f") 1 instance ∷ object 6 (codes "q") 5 initiator ∷ [])
    binds
