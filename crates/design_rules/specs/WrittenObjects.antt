-- Models written by hand: each item with its line.
use Rattle.std.specs.Prelude.{ℕ, false, List, [], ◌∷◌, codes, Option, Some, None}
use Rattle.code_rules.specs.ModelTree.Tree as tree
use Rattle.code_rules.specs.ModelTree.declared.items.SignalKind.TheVariants as signal_kind
use Rattle.code_rules.specs.ModelTree.declared.items.ProcessKind.TheVariants as process_kind
use Rattle.code_rules.specs.ModelTree.declared.types.TypeForm.{TypeForm}
use Rattle.code_rules.specs.ModelTree.declared.types.TypeForm.TheVariants as type_form
use Rattle.code_rules.specs.ModelTree.declared.types.Interface.TheVariants as interface
use Rattle.code_rules.specs.ModelTree.declared.types.SignalType.{SignalType}
use Rattle.code_rules.specs.ModelTree.declared.types.ConstantForm.{ConstantForm}
use Rattle.code_rules.specs.ModelTree.declared.types.End.{End}
use Rattle.code_rules.specs.ModelTree.declared.faults.Fault.{Fault}
use Rattle.code_rules.specs.ModelTree.declared.faults.Kind.{Kind}
use Rattle.code_rules.specs.FlatDesign.declared.objects.Binding.{Binding}
use Rattle.code_rules.specs.FlatDesign.declared.objects.Object.{Object}
use Rattle.code_rules.specs.FlatDesign.declared.objects.ObjectForm.{ObjectForm}
use Rattle.design_rules.specs.Forms.{Name}

-- a text of these modules, with a top instance `m` of the module M on line 90
abbrev pub models : List tree.Module → tree.Model
models ms = record { modules = ms; top = record { line = 90; «module» = codes "M"; name = codes "m" } }

abbrev pub a_module : Name → List tree.Item → tree.Module
a_module name items = record { line = 1; name = name; items = items }

abbrev pub typed : TypeForm → SignalType
typed f = record { line = 1; form = f }

abbrev pub signal : ℕ → TypeForm → Name → Option ConstantForm → tree.Item
signal line f name None = tree.signal line (record { kind = signal_kind.Signal; many = false; value_type = typed f; name = name; initial = None })
signal line f name (Some c) =
    tree.signal line (record { kind = signal_kind.Signal; many = false; value_type = typed f; name = name; initial = Some (record { line = line; form = c }) })

abbrev pub thread : ℕ → Name → tree.Item
thread line name = tree.process line (record { kind = process_kind.Thread; name = name; sensitive = []; dont_initialize = false; body = tree.over })

abbrev pub function : ℕ → Name → tree.Item
function line name = tree.function line (record { name = name; parameters = []; answer = None; body = tree.over })

abbrev pub inst : ℕ → Name → Name → tree.Item
inst line kind name = tree.instance line kind name

abbrev pub in_port : ℕ → Name → tree.Item
in_port line name = tree.port line (interface.In (typed type_form.Bool)) name None

abbrev pub own : Name → End
own name = record { line = 1; name = name; member = None }

abbrev pub of_child : Name → Name → End
of_child name member = record { line = 1; name = name; member = Some member }

-- what is wanted

abbrev pub object : ℕ → Name → ℕ → ObjectForm → Object
object line name parent f = record { name = name; line = line; parent = parent; form = f }

abbrev pub binding : ℕ → ℕ → ℕ → ℕ → Binding
binding line instance left right = record { line = line; instance = instance; left = left; right = right }

abbrev pub fault : Kind → ℕ → Name → Option Fault
fault k line name = Some (record { kind = k; line = line; name = name })

-- models

-- a signal, a child with a port and a thread, and a binding of the port to the signal; and the child's module
abbrev pub with_child : tree.Model
with_child =
    models
    (a_module (codes "M") (thread 2 (codes "t") ∷ inst 3 (codes "C") (codes "c") ∷ signal 4 type_form.Bool (codes "s") None ∷ tree.bind 5 (of_child (codes "c") (codes "p")) (own (codes "s")) ∷ [])
    ∷ a_module (codes "C") (function 7 (codes "f") ∷ in_port 8 (codes "p") ∷ thread 9 (codes "t") ∷ []) ∷ [])

-- M has two instances of C, and C has this many bytes of memory
abbrev pub with_memories : ℕ → tree.Model
with_memories size =
    models
    (a_module (codes "M") (inst 2 (codes "C") (codes "c") ∷ inst 3 (codes "C") (codes "d") ∷ [])
    ∷ a_module (codes "C") (tree.memory 5 (codes "a") size ∷ []) ∷ [])

-- M has an instance of A, A of B, and B of the module of this name
abbrev pub in_a_row : Name → tree.Model
in_a_row last =
    models
    (a_module (codes "M") (inst 2 (codes "A") (codes "a") ∷ [])
    ∷ a_module (codes "A") (inst 4 (codes "D") (codes "d") ∷ inst 5 (codes "B") (codes "b") ∷ [])
    ∷ a_module (codes "B") (inst 7 last (codes "x") ∷ [])
    ∷ a_module (codes "D") [] ∷ [])
