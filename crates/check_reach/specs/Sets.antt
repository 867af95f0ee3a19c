-- Sets of the names of a module, by marks on their numbers.
use Rattle.std.specs.Prelude.{◌≡◌, ℕ, Bool, false, List, [], length, map, position, filter_map, is_some, option_map, option_and_then, Option, Some, None}
use Rattle.std.specs.List.{flat_map}
use Rattle.model_tree.specs.Tree as tree
use Rattle.flat_design.specs.declared.code.BodyKind.TheVariants as body_kind
use Rattle.check_expressions.specs.ModelRules.Meanings.{declarations}
use Rattle.check_expressions.specs.ModelRules.Scopes.{is_declared, function_named}
use Rattle.check_expressions.specs.ModelRules.Reach.{Names, Placed, is_among, is_of_kind, is_process_of, from_methods, from_threads, from_nonblocking, from_unwinding, reached_from, roots, blocking_functions}
use Rattle.check_reach.specs.Edges.{is_marked}
use Rattle.check_reach.specs.declared.edges.Edge.{Edge}
use Rattle.check_expressions.specs.CheckNames.ModuleNames.{items_of}
use Rattle.check_reach.specs.Flat.{Flat, only_if, called, flats_in, seen_list}
use Rattle.check_reach.specs.declared.sets.Calls.{Calls}
use Rattle.check_reach.specs.declared.sets.Sets.{Sets}

-- the number of a name: its place among those that the module declares
abbrev pub number_of : List tree.Item → List ℕ → Option ℕ
number_of items name = position (is_declared name) (declarations items)

-- the number of a function's name
abbrev pub function_number : List tree.Item → List ℕ → Option ℕ
function_number items name = only_if (is_some (function_named items name)) (number_of items name)

abbrev pub function_numbers : List tree.Item → Names → List ℕ
function_numbers items names = filter_map (function_number items) names

abbrev pub numbers_of : List tree.Item → Names → List ℕ
numbers_of items names = filter_map (number_of items) names

abbrev pub marked_at : List Bool → Option ℕ → Bool
marked_at marks None = false
marked_at marks (Some n) = is_marked marks n

-- whether a name is in the set
abbrev pub has : List tree.Item → List Bool → List ℕ → Bool
has items marks name = marked_at marks (number_of items name)

abbrev pub Tells : List tree.Item → List Bool → (List ℕ → Bool) → Type 0
Tells items marks test = (name : List ℕ) → has items marks name ≡ test name

-- the calls as edges from the caller's number to that of the function

abbrev pub edge : ℕ → ℕ → Edge
edge source target = record { source = source; target = target }

abbrev pub turned : Edge → Edge
turned e = edge e.target e.source

abbrev pub edge_of : List tree.Item → ℕ → Placed → Option Edge
edge_of items n x = option_map (edge n) (option_and_then (function_number items) (called x.0))

abbrev pub edges_from : List tree.Item → Option ℕ → List Placed → List Edge
edges_from items None xs = []
edges_from items (Some n) xs = filter_map (edge_of items n) xs

abbrev pub caller_number : List tree.Item → Flat → Option ℕ
caller_number items f = only_if (is_of_kind body_kind.Function f.kind) (number_of items f.name)

abbrev pub edges_in : List tree.Item → Flat → List Edge
edges_in items f = edges_from items (caller_number items f) f.statements

abbrev pub edges_of : List tree.Item → List Flat → List Edge
edges_of items fs = flat_map (edges_in items) fs

-- what is called in a module, as it is kept
pub record AreCalls (c : Calls) : Type 0 where
  pub count : c.count ≡ length c.names
  pub bodies : seen_list c.bodies.items ≡ flats_in (items_of c.names)
  pub edges : c.edges.items ≡ edges_of (items_of c.names) (flats_in (items_of c.names))
  pub back : c.back.items ≡ map turned (edges_of (items_of c.names) (flats_in (items_of c.names)))

-- the set of what is reached from the functions that pass a test, where these are the ones of the names
abbrev pub TellsReached : List tree.Item → Names → List Bool → Type 0
TellsReached items names marks =
    (test : List ℕ → Bool) → ((name : List ℕ) → is_among names name ≡ test name) → Tells items marks (is_among (reached_from items (roots items test)))

-- the sets of names that the rules ask for
pub record AreSets (items : List tree.Item) (s : Sets) : Type 0 where
  pub methods : Tells items s.methods.items (is_process_of items body_kind.Method)
  pub threads : Tells items s.threads.items (is_process_of items body_kind.Thread)
  pub blocking : Tells items s.blocking.items (is_among (blocking_functions items))
  pub from_methods : Tells items s.from_methods.items (is_among (from_methods items))
  pub from_threads : Tells items s.from_threads.items (is_among (from_threads items))
  pub from_nonblocking : Tells items s.from_nonblocking.items (is_among (from_nonblocking items))
  pub from_unwinding : Tells items s.from_unwinding.items (is_among (from_unwinding items))
