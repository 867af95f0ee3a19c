-- Bodies as lists of their statements, and what is taken from them: names that are called, spawned or handled.
use Rattle.std.specs.Prelude.{ℕ, ◌&&◌, Bool, true, false, List, [], ◌++◌, map, filter_map, option_to_list, Option, Some, None}
use Rattle.std.specs.List.{flat_map, list_any}
use Rattle.std.specs.Option.{option_or}
use Rattle.model_tree.specs.Tree as tree
use Rattle.model_tree.specs.Views.{statement_of}
use Rattle.model_tree.specs.declared.items.InitiatorRole.{InitiatorRole}
use Rattle.model_tree.specs.declared.items.InitiatorRole.TheVariants as initiator
use Rattle.model_tree.specs.declared.items.TargetRole.{TargetRole}
use Rattle.model_tree.specs.declared.items.TargetRole.TheVariants as target
use Rattle.flat_design.specs.declared.code.BodyKind.{BodyKind}
use Rattle.flat_design.specs.declared.code.BodyKind.TheVariants as body_kind
use Rattle.check_expressions.specs.ModelRules.Names.{name_if}
use Rattle.check_expressions.specs.ModelRules.Reach.{Body, Names, Placed, bodies_in, statements_of, is_of_kind, same_way, blocks_itself}
use Rattle.check_reach.specs.declared.bodies.FlatBody.{FlatBody}
use Rattle.check_reach.specs.declared.placed.PlacedStatement.{PlacedStatement}
use Rattle.check_reach.specs.declared.begun.Begin.{Begin}
use Rattle.check_reach.specs.declared.begun.Begin.TheVariants as begin

-- a body, its statements one behind another
pub record Flat : Type 0 where
  pub kind : BodyKind
  pub name : List ℕ
  pub statements : List Placed

abbrev pub flat_of : Body → Flat
flat_of b = record { kind = b.kind; name = b.name; statements = statements_of b }

abbrev pub flats_in : List tree.Item → List Flat
flats_in items = map flat_of (bodies_in items)

-- as they are kept

abbrev pub placed_of : PlacedStatement → Placed
placed_of p = (statement_of p.statement.now, p.unwinding)

abbrev pub placed_list : List PlacedStatement → List Placed
placed_list ps = map placed_of ps

abbrev pub seen : FlatBody → Flat
seen b = record { kind = b.kind; name = b.name.now; statements = placed_list b.statements.items }

abbrev pub seen_list : List FlatBody → List Flat
seen_list bs = map seen bs

-- names in statements

abbrev pub only_if : {A : Type 0} → Bool → Option A → Option A
only_if true x = x
only_if false x = None

abbrev pub called_in : tree.Operation → Option (List ℕ)
called_in (tree.call name arguments) = Some name
called_in (tree.read c) = None
called_in (tree.nb_read c name) = None
called_in (tree.nb_write c e) = None
called_in (tree.trylock c) = None
called_in (tree.unlock c) = None
called_in (tree.sem_trywait c) = None
called_in (tree.nb_transport socket p phase delay) = None

-- what a statement calls
abbrev pub called : tree.Statement → Option (List ℕ)
called (tree.var line t name e) = None
called (tree.assign line target e) = None
called (tree.operate line name at o) = called_in o
called (tree.act line a) = None
called (tree.if_ line e body other) = None
called (tree.while_ line e body) = None
called (tree.guard line body undo) = None
called (tree.try_ line body handlers) = None

abbrev pub spawned_in : Bool → tree.Action → Option (List ℕ)
spawned_in method (tree.spawn x) = name_if (same_way method x.method) x.function
spawned_in method other = None

-- what a statement spawns, as a method or as a thread
abbrev pub spawned : Bool → tree.Statement → Option (List ℕ)
spawned method (tree.var line t name e) = None
spawned method (tree.assign line target e) = None
spawned method (tree.operate line name at o) = None
spawned method (tree.act line a) = spawned_in method a
spawned method (tree.if_ line e body other) = None
spawned method (tree.while_ line e body) = None
spawned method (tree.guard line body undo) = None
spawned method (tree.try_ line body handlers) = None

-- what a statement of a body of this kind begins: called by a process of the kind or spawned so, or called in an unwind block
abbrev pub picked : Begin → BodyKind → Placed → Option (List ℕ)
picked begin.Methods kind x = option_or (only_if (is_of_kind body_kind.Method kind) (called x.0)) (spawned true x.0)
picked begin.Threads kind x = option_or (only_if (is_of_kind body_kind.Thread kind) (called x.0)) (spawned false x.0)
picked begin.Unwinding kind x = only_if x.1 (called x.0)

abbrev pub picked_in : Begin → Flat → Names
picked_in b f = filter_map (picked b f.kind) f.statements

abbrev pub begun : Begin → List Flat → Names
begun b fs = flat_map (picked_in b) fs

-- names of bodies

abbrev pub is_blocking_body : List tree.Item → Flat → Bool
is_blocking_body items f = is_of_kind body_kind.Function f.kind && list_any (λ (x : Placed). blocks_itself items x.0) f.statements

-- the functions that have a blocking statement
abbrev pub blocking_bodies : List tree.Item → List Flat → Names
blocking_bodies items fs = filter_map (λ (f : Flat). name_if (is_blocking_body items f) f.name) fs

-- the bodies of a kind
abbrev pub named_of : BodyKind → List Flat → Names
named_of kind fs = filter_map (λ (f : Flat). name_if (is_of_kind kind f.kind) f.name) fs

-- names of handlers

abbrev pub backward_in : InitiatorRole → Names
backward_in initiator.Pass = []
backward_in (initiator.Own backward) = option_to_list backward

abbrev pub forward_in : TargetRole → Names
forward_in target.Pass = []
forward_in (target.Own blocking forward) = option_to_list forward

abbrev pub blocking_in : TargetRole → Names
blocking_in target.Pass = []
blocking_in (target.Own blocking forward) = option_to_list blocking

-- the handlers of non-blocking calls
abbrev pub nonblocking_handlers : tree.Item → Names
nonblocking_handlers (tree.initiator line name role) = backward_in role
nonblocking_handlers (tree.target line name role) = forward_in role
nonblocking_handlers other = []

-- those of blocking calls
abbrev pub blocking_handlers : tree.Item → Names
blocking_handlers (tree.target line name role) = blocking_in role
blocking_handlers other = []

abbrev pub all_handlers : tree.Item → Names
all_handlers i = nonblocking_handlers i ++ blocking_handlers i
