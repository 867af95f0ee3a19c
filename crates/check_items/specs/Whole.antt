-- What is found at items, one behind another, whatever stands before them.
use Rattle.std.specs.Prelude.{Bool, true, false, List, [], ◌∷◌, Option, None}
use Rattle.std.specs.Option.{option_or}
use Rattle.model_tree.specs.Tree as tree
use Rattle.model_tree.specs.declared.faults.Fault.{Fault}
use Rattle.model_tree.specs.declared.types.Parameter.{Parameter}
use Rattle.check_statements.specs.ModelRules.Scopes.{Scope, item_scope, with_local, with_parameters}
use Rattle.check_statements.specs.ModelRules.Sites.{variable_type_sites, answer_sites, events_sites, item_sites, around_item}
use Rattle.check_statements.specs.ModelRules.Passes.{constructs, fault_of}
use Rattle.check_statements.specs.Walked.{in_block}

-- parameters, each of which is visible behind it
abbrev pub in_parameters : List Parameter → Scope → Option Fault
in_parameters [] s = None
in_parameters (p ∷ ps) s = option_or (fault_of constructs (variable_type_sites s p.var_type)) (in_parameters ps (with_local s p.name p.var_type))

-- the type of a function's answer and its body, where its parameters are visible
abbrev pub in_body : tree.FunctionItem → Scope → Option Fault
in_body f s = option_or (fault_of constructs (answer_sites s f.answer)) (in_block f.body s)

abbrev pub in_function : tree.FunctionItem → Scope → Option Fault
in_function f s = option_or (in_parameters f.parameters s) (in_body f (with_parameters s f.parameters))

abbrev pub in_process : tree.ProcessItem → Scope → Option Fault
in_process p s = option_or (fault_of constructs (events_sites s true p.sensitive)) (in_block p.body s)

-- an item that holds no statements
abbrev pub is_plain : tree.Item → Bool
is_plain (tree.function line f) = false
is_plain (tree.process line p) = false
is_plain other = true

-- an item with its parts
unfoldable pub item_fault : Scope → tree.Item → Option Fault
item_fault s i = fault_of constructs (item_sites s [] i)

-- the items of a module
abbrev pub items_fault : List tree.Module → List tree.Item → List tree.Item → Option Fault
items_fault modules all [] = None
items_fault modules all (i ∷ is) = option_or (item_fault (item_scope modules all (around_item i)) i) (items_fault modules all is)

-- the items of modules
abbrev pub modules_fault : List tree.Module → List tree.Module → Option Fault
modules_fault all [] = None
modules_fault all (m ∷ ms) = option_or (items_fault all m.items m.items) (modules_fault all ms)
