-- Calls, spawned functions and handlers: signatures, arguments and returned values.
use Rattle.std.specs.Prelude.{ℕ, ◌==◌, ◌||◌, Bool, true, false, not, List, [], ◌∷◌, length, is_some, Option, Some, None}
use Rattle.std.specs.List.{list_any}
use Rattle.std.specs.Option.{option_or}
use Rattle.flat_design.specs.ModelTree.Tree as tree
use Rattle.flat_design.specs.ModelTree.declared.types.VarType.{VarType}
use Rattle.flat_design.specs.ModelTree.declared.types.Parameter.{Parameter}
use Rattle.flat_design.specs.ModelTree.declared.items.InitiatorRole.{InitiatorRole}
use Rattle.flat_design.specs.ModelTree.declared.items.InitiatorRole.TheVariants as initiator
use Rattle.flat_design.specs.ModelTree.declared.items.TargetRole.{TargetRole}
use Rattle.flat_design.specs.ModelTree.declared.items.TargetRole.TheVariants as target
use Rattle.flat_design.specs.Sound.{blocking_parameters, nonblocking_parameters}
use Rattle.flat_design.specs.declared.value_types.ValueType.{ValueType}
use Rattle.flat_design.specs.declared.value_types.ValueType.TheVariants as type
use Rattle.model_rules.specs.Meanings.{variable_type}
use Rattle.model_rules.specs.Scopes.{Scope, meaning_of, function_named}
use Rattle.model_rules.specs.Targets.{differ}
use Rattle.model_rules.specs.declared.meanings.Meaning.{Meaning}
use Rattle.model_rules.specs.declared.meanings.Meaning.TheVariants as meaning
use Rattle.model_rules.specs.Sites as part
use Rattle.model_rules.specs.Sites.{Part, Site}
use Rattle.model_rules.specs.Names.{name_if}
use Rattle.model_rules.specs.Values.{called_parameters}

abbrev pub same_bool : Bool → Bool → Bool
same_bool true b = b
same_bool false b = not b

-- handlers: bt has (payload, inout time); fw and bw have (payload, inout int<32>, inout time) and give int<32>

-- parameters of other types or ways than these
abbrev pub parameters_differ : List (ValueType × Bool) → List Parameter → Bool
parameters_differ [] [] = false
parameters_differ [] (p ∷ ps) = true
parameters_differ (w ∷ ws) [] = true
parameters_differ (w ∷ ws) (p ∷ ps) = differ (Some w.0) (variable_type p.var_type) || (not (same_bool w.1 p.inout) || parameters_differ ws ps)

abbrev pub answer_differs : Option ValueType → Option VarType → Bool
answer_differs None None = false
answer_differs None (Some t) = true
answer_differs (Some w) None = true
answer_differs (Some w) (Some t) = differ (Some w) (variable_type t)

abbrev pub is_bad_handler : List (ValueType × Bool) → Option ValueType → Option tree.FunctionItem → Bool
is_bad_handler parameters answer None = false
is_bad_handler parameters answer (Some f) = parameters_differ parameters f.parameters || answer_differs answer f.answer

abbrev pub bad_handler_if : Scope → List (ValueType × Bool) → Option ValueType → Option (List ℕ) → Option (List ℕ)
bad_handler_if s parameters answer None = None
bad_handler_if s parameters answer (Some name) = name_if (is_bad_handler parameters answer (function_named s.items name)) name

abbrev pub blocking_handler : Scope → Option (List ℕ) → Option (List ℕ)
blocking_handler s name = bad_handler_if s blocking_parameters None name

abbrev pub nonblocking_handler : Scope → Option (List ℕ) → Option (List ℕ)
nonblocking_handler s name = bad_handler_if s nonblocking_parameters (Some (type.Int 32)) name

abbrev pub initiator_handler : Scope → InitiatorRole → Option (List ℕ)
initiator_handler s initiator.Pass = None
initiator_handler s (initiator.Own backward) = nonblocking_handler s backward

abbrev pub target_handler : Scope → TargetRole → Option (List ℕ)
target_handler s target.Pass = None
target_handler s (target.Own blocking forward) = option_or (blocking_handler s blocking) (nonblocking_handler s forward)

abbrev pub handler_in_item : Scope → tree.Item → Option (List ℕ)
handler_in_item s (tree.initiator line name role) = initiator_handler s role
handler_in_item s (tree.target line name role) = target_handler s role
handler_in_item s other = None

abbrev pub handler_in : Scope → Part → Option (List ℕ)
handler_in s (part.of_item before i) = handler_in_item s i
handler_in s other = None

abbrev pub bad_handler : Site → Option (List ℕ)
bad_handler x = handler_in x.scope x.part

-- a spawned function has no inout parameter

abbrev pub has_inout : List Parameter → Bool
has_inout ps = list_any (λ (p : Parameter). p.inout) ps

abbrev pub bad_spawn_in : Scope → Part → Option (List ℕ)
bad_spawn_in s (part.of_statement (tree.act line (tree.spawn x))) = name_if (has_inout (called_parameters s x.function)) x.function
bad_spawn_in s other = None

abbrev pub bad_spawn : Site → Option (List ℕ)
bad_spawn x = bad_spawn_in x.scope x.part

-- the number of arguments is right, and an inout argument is a variable of exactly the type; a name that is not known is
-- no fault of the call's

abbrev pub is_other_variable : Option ValueType → Option Meaning → Bool
is_other_variable t None = false
is_other_variable t (Some (meaning.Variable s)) = differ t s
is_other_variable t (Some other) = true

abbrev pub is_no_inout : Scope → Parameter → tree.Expression → Bool
is_no_inout s p (tree.named line name) = is_other_variable (variable_type p.var_type) (meaning_of s name)
is_no_inout s p other = true

abbrev pub inout_wrong : Scope → Bool → Parameter → tree.Expression → Bool
inout_wrong s true p e = is_no_inout s p e
inout_wrong s false p e = false

abbrev pub inouts_wrong : Scope → List Parameter → List tree.Expression → Bool
inouts_wrong s [] es = false
inouts_wrong s (p ∷ ps) [] = false
inouts_wrong s (p ∷ ps) (e ∷ es) = inout_wrong s p.inout p e || inouts_wrong s ps es

abbrev pub count_differs : Option tree.FunctionItem → List tree.Expression → Bool
count_differs None es = false
count_differs (Some f) es = not (length f.parameters == length es)

abbrev pub argument_count_in : Scope → Part → Option (List ℕ)
argument_count_in s (part.of_operation (tree.call name es)) = name_if (count_differs (function_named s.items name) es || inouts_wrong s (called_parameters s name) es) name
argument_count_in s (part.of_statement (tree.act line (tree.spawn x))) = name_if (count_differs (function_named s.items x.function) x.arguments) x.function
argument_count_in s other = None

abbrev pub argument_count : Site → Option (List ℕ)
argument_count x = argument_count_in x.scope x.part

-- a value is returned exactly where the function has a type

abbrev pub return_differs_in : Scope → Part → Option (List ℕ)
return_differs_in s (part.of_statement (tree.act line (tree.return_ e))) = name_if (not (same_bool (is_some s.answer) (is_some e))) s.around
return_differs_in s other = None

abbrev pub return_differs : Site → Option (List ℕ)
return_differs x = return_differs_in x.scope x.part
