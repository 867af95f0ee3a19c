-- What is visible at a place of a model, and what a name stands for there.
use Rattle.std.specs.Prelude.{ℕ, ◌+◌, Bool, true, false, List, [], ◌∷◌, ◌++◌, bytes_eq, find, position, filter_map, is_some, option_map, Option, Some, None}
use Rattle.std.specs.Option.{option_or}
use Rattle.flat_design.specs.ModelTree.Tree as tree
use Rattle.flat_design.specs.ModelTree.declared.types.VarType.{VarType}
use Rattle.flat_design.specs.ModelTree.declared.types.Parameter.{Parameter}
use Rattle.flat_design.specs.declared.value_types.ValueType.{ValueType}
use Rattle.flat_design.specs.declared.names.NameUse.{NameUse}
use Rattle.flat_design.specs.declared.names.NameUse.TheVariants as name_use
use Rattle.model_rules.specs.Meanings.{Declared, declarations, variable_type}
use Rattle.model_rules.specs.declared.meanings.Meaning.{Meaning}
use Rattle.model_rules.specs.declared.meanings.Meaning.TheVariants as meaning

-- a parameter or a local variable, with its number in its body: the parameters come first, then each `var` in text order
pub record Local : Type 0 where
  pub name : List ℕ
  pub number : ℕ
  pub value_type : Option ValueType

-- A place of a model: the modules, the items of the module around it, the parameters and local variables that are visible,
-- how many were declared before it in its body, the function or process around it (outside these the item), the type of
-- the function's answer where it has one, and whether it stands in an unwind block.
pub record Scope : Type 0 where
  pub modules : List tree.Module
  pub items : List tree.Item
  pub locals : List Local
  pub count : ℕ
  pub around : List ℕ
  pub answer : Option VarType
  pub unwinding : Bool

-- names

abbrev pub is_local : List ℕ → Local → Bool
is_local name l = bytes_eq l.name name

abbrev pub is_declared : List ℕ → Declared → Bool
is_declared name d = bytes_eq d.name name

abbrev pub local_named : Scope → List ℕ → Option Local
local_named s name = find (is_local name) s.locals

-- what a name stands for: a local variable that is visible, or what the module declares
abbrev pub meaning_of : Scope → List ℕ → Option Meaning
meaning_of s name =
    option_or (option_map (λ (l : Local). meaning.Variable l.value_type) (local_named s name))
    (option_map (λ (d : Declared). d.meaning) (find (is_declared name) (declarations s.items)))

abbrev pub is_known : Scope → List ℕ → Bool
is_known s name = is_some (meaning_of s name)

-- what it is in the code: the number of a local variable, or the place among the names that the module declares
abbrev pub use_of : Scope → List ℕ → Option NameUse
use_of s name =
    option_or (option_map (λ (l : Local). name_use.Local l.number) (local_named s name))
    (option_map name_use.Declared (position (is_declared name) (declarations s.items)))

abbrev pub place_of : Scope → List ℕ → Option ℕ
place_of s name = position (is_declared name) (declarations s.items)

-- functions and modules

abbrev pub as_function : tree.Item → Option tree.FunctionItem
as_function (tree.signal line s) = None
as_function (tree.resolved line name) = None
as_function (tree.clock line c) = None
as_function (tree.fifo line t name size) = None
as_function (tree.plain line kind name) = None
as_function (tree.semaphore line name c) = None
as_function (tree.memory line name size) = None
as_function (tree.variable line t name c) = None
as_function (tree.port line i name size) = None
as_function (tree.export line i name) = None
as_function (tree.initiator line name role) = None
as_function (tree.target line name role) = None
as_function (tree.instance line kind name) = None
as_function (tree.bind line left right) = None
as_function (tree.function line f) = Some f
as_function (tree.process line p) = None

abbrev pub functions_in : List tree.Item → List tree.FunctionItem
functions_in items = filter_map as_function items

abbrev pub function_named : List tree.Item → List ℕ → Option tree.FunctionItem
function_named items name = find (λ (f : tree.FunctionItem). bytes_eq f.name name) (functions_in items)

abbrev pub module_named : List tree.Module → List ℕ → Option tree.Module
module_named modules name = find (λ (m : tree.Module). bytes_eq m.name name) modules

-- scopes

-- outside of functions and processes
abbrev pub item_scope : List tree.Module → List tree.Item → List ℕ → Scope
item_scope modules items around =
    record { modules = modules; items = items; locals = []; count = 0; around = around; answer = None; unwinding = false }

-- behind the declaration of a local variable, or of a parameter
abbrev pub with_local : Scope → List ℕ → VarType → Scope
with_local s name t = record s { locals = s.locals ++ (record { name = name; number = s.count; value_type = variable_type t }) ∷ []; count = s.count + 1 }

abbrev pub with_parameters : Scope → List Parameter → Scope
with_parameters s [] = s
with_parameters s (p ∷ ps) = with_parameters (with_local s p.name p.var_type) ps

-- how many local variables are declared in statements, blocks and handlers, at any depth
abbrev mutual
  pub locals_in : tree.Statement → ℕ
  locals_in (tree.var line t name e) = 1
  locals_in (tree.assign line t e) = 0
  locals_in (tree.operate line name at o) = 0
  locals_in (tree.act line a) = 0
  locals_in (tree.if_ line e body other) = locals_in_block body + locals_in_else other
  locals_in (tree.while_ line e body) = locals_in_block body
  locals_in (tree.guard line body undo) = locals_in_block body + locals_in_block undo
  locals_in (tree.try_ line body handlers) = locals_in_block body + locals_in_handlers handlers

  pub locals_in_block : tree.Block → ℕ
  locals_in_block tree.over = 0
  locals_in_block (tree.then s ss) = locals_in s + locals_in_block ss

  pub locals_in_else : tree.Else → ℕ
  locals_in_else tree.no_else = 0
  locals_in_else (tree.else_block body) = locals_in_block body

  pub locals_in_handlers : tree.Handlers → ℕ
  locals_in_handlers tree.no_more = 0
  locals_in_handlers (tree.handler name body more) = locals_in_block body + locals_in_handlers more

-- the same place with so many more local variables declared before it, none of which is visible
abbrev pub past : ℕ → Scope → Scope
past n s = record s { count = s.count + n }

-- behind a statement: its block's own local variables are visible no more
abbrev pub behind : tree.Statement → Scope → Scope
behind (tree.var line t name e) s = with_local s name t
behind (tree.assign line t e) s = s
behind (tree.operate line name at o) s = s
behind (tree.act line a) s = s
behind (tree.if_ line e body other) s = past (locals_in (tree.if_ line e body other)) s
behind (tree.while_ line e body) s = past (locals_in (tree.while_ line e body)) s
behind (tree.guard line body undo) s = past (locals_in (tree.guard line body undo)) s
behind (tree.try_ line body handlers) s = past (locals_in (tree.try_ line body handlers)) s

abbrev pub in_unwind : Scope → Scope
in_unwind s = record s { unwinding = true }
