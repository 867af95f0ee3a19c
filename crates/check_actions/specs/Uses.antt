-- What is found at single constructs: their names, their types, and the rules of their own.
use Rattle.std.specs.Prelude.{ℕ, Bool, List, map, Option, Some}
use Rattle.std.specs.Option.{option_or}
use Rattle.model_tree.specs.Tree as tree
use Rattle.model_tree.specs.declared.faults.Fault.{Fault}
use Rattle.model_tree.specs.declared.faults.Kind.TheVariants as kind
use Rattle.check_expressions.specs.ModelRules.Scopes.{Scope}
use Rattle.check_expressions.specs.ModelRules.Sites.{Part, of_operation, of_statement}
use Rattle.check_expressions.specs.ModelRules.Names.{Used as NameUsed, first, unknown_use, wrong_use, operation_uses, action_uses}
use Rattle.check_expressions.specs.ModelRules.Values.{operation_differs, action_differs}
use Rattle.check_expressions.specs.ModelRules.Calls.{bad_spawn_in, argument_count_in, return_differs_in}
use Rattle.check_expressions.specs.ModelRules.Items.{binding_in}
use Rattle.check_expressions.specs.Findings.{told, told_if}
use Rattle.check_actions.specs.declared.uses.Used.{Used}

abbrev pub used_of : Used → NameUsed
used_of u = (u.name.now, u.need)

abbrev pub uses_of : List Used → List NameUsed
uses_of us = map used_of us

-- the names that are used are known and of their kind, and types fit; else what the other rules say
abbrev pub site_fault : Scope → ℕ → List NameUsed → Bool → Option Fault → Option Fault
site_fault s line uses differs extra =
    option_or (told kind.UnknownName line (first (unknown_use s) uses))
    (option_or (told kind.WrongKind line (first (wrong_use s) uses)) (option_or (told_if kind.TypeDiffers line s.around differs) extra))

-- the rules on spawned functions, on calls, on returned values, and on sockets in transport calls
abbrev pub extra_fault : Scope → ℕ → Part → Option Fault
extra_fault s line part =
    option_or (told kind.BadSpawn line (bad_spawn_in s part))
    (option_or (told kind.ArgumentCount line (argument_count_in s part))
    (option_or (told kind.ReturnDiffers line (return_differs_in s part)) (told kind.BadBinding line (binding_in s part))))

-- an operation itself
abbrev pub operation_fault : Scope → ℕ → tree.Operation → Option Fault
operation_fault s line o = site_fault s line (operation_uses o) (operation_differs s o) (extra_fault s line (of_operation o))

-- a statement itself that gives no value
abbrev pub action_fault : Scope → ℕ → tree.Action → Option Fault
action_fault s line a = site_fault s line (action_uses a) (action_differs s a) (extra_fault s line (of_statement (tree.act line a)))

-- the event of a member
abbrev pub event_at : tree.Channel → List ℕ → tree.Event
event_at c name = record { channel = c; member = Some name }
