-- Double names as a walk along the text finds them. In a body only parameters and `var` statements declare names, so that
-- no other part of a statement is looked at.
use Rattle.std.specs.Prelude.{ℕ, Bool, false, List, [], ◌∷◌, is_some, Option, Some, None}
use Rattle.std.specs.Option.{option_or}
use Rattle.model_tree.specs.Tree as tree
use Rattle.model_tree.specs.Lines.{item_line}
use Rattle.model_tree.specs.declared.types.Parameter.{Parameter}
use Rattle.model_tree.specs.declared.items.Item.{Item}
use Rattle.model_tree.specs.declared.faults.Fault.{Fault}
use Rattle.model_tree.specs.declared.faults.Kind.TheVariants as kind
use Rattle.check_actions.specs.ModelRules.Meanings.{declared_name}
use Rattle.check_actions.specs.ModelRules.Members.{entry}
use Rattle.check_actions.specs.ModelRules.Scopes.{Scope, is_known, with_local, with_parameters, locals_in_block, past, behind}
use Rattle.check_actions.specs.ModelRules.Names.{name_if}
use Rattle.check_actions.specs.CheckNames.LocalNames.{LocalNames, no_locals}
use Rattle.check_actions.specs.CheckNames.ModuleNames.{items_of}
use Rattle.check_actions.specs.CheckNames.Tables.{Numbers, with_first}
use Rattle.check_actions.specs.CheckExpressions.Findings.{told, told_if}

-- a place, as far as it tells which names are visible: the items of the module, and the locals
abbrev pub names_at : List tree.Item → LocalNames → Scope
names_at items l = record { modules = []; items = items; locals = l.visible; count = l.count; around = []; answer = None; unwinding = false }

-- the same of items in memory
abbrev pub place_at : List Item → LocalNames → Scope
place_at items l = names_at (items_of items) l

-- bodies

-- a parameter or a local variable whose name is visible already
abbrev pub double_local : ℕ → List ℕ → Scope → Option Fault
double_local line name s = told_if kind.DoubleName line name (is_known s name)

abbrev mutual
  pub in_statement : tree.Statement → Scope → Option Fault
  in_statement (tree.var line t name e) s = double_local line name s
  in_statement (tree.assign line t e) s = None
  in_statement (tree.operate line name at o) s = None
  in_statement (tree.act line a) s = None
  in_statement (tree.if_ line e body other) s = option_or (in_block body s) (in_else other (past (locals_in_block body) s))
  in_statement (tree.while_ line e body) s = in_block body s
  in_statement (tree.guard line body undo) s = option_or (in_block body s) (in_block undo (past (locals_in_block body) s))
  in_statement (tree.try_ line body handlers) s = option_or (in_block body s) (in_handlers handlers (past (locals_in_block body) s))

  pub in_block : tree.Block → Scope → Option Fault
  in_block tree.over s = None
  in_block (tree.then x xs) s = option_or (in_statement x s) (in_block xs (behind x s))

  pub in_else : tree.Else → Scope → Option Fault
  in_else tree.no_else s = None
  in_else (tree.else_block body) s = in_block body s

  pub in_handlers : tree.Handlers → Scope → Option Fault
  in_handlers tree.no_more s = None
  in_handlers (tree.handler name body more) s = option_or (in_block body s) (in_handlers more (past (locals_in_block body) s))

abbrev pub in_parameters : List Parameter → Scope → Option Fault
in_parameters [] s = None
in_parameters (p ∷ ps) s = option_or (double_local p.line p.name s) (in_parameters ps (with_local s p.name p.var_type))

-- a parameter is visible at those behind it, and in the body
abbrev pub in_function : tree.FunctionItem → Scope → Option Fault
in_function f s = option_or (in_parameters f.parameters s) (in_block f.body (with_parameters s f.parameters))

-- in an item, apart from its own name
abbrev pub in_item : tree.Item → Scope → Option Fault
in_item (tree.signal line x) s = None
in_item (tree.resolved line name) s = None
in_item (tree.clock line c) s = None
in_item (tree.fifo line t name size) s = None
in_item (tree.plain line kind name) s = None
in_item (tree.semaphore line name c) s = None
in_item (tree.memory line name size) s = None
in_item (tree.variable line t name c) s = None
in_item (tree.port line i name size) s = None
in_item (tree.export line i name) s = None
in_item (tree.initiator line name role) s = None
in_item (tree.target line name role) s = None
in_item (tree.instance line kind name) s = None
in_item (tree.bind line left right) s = None
in_item (tree.function line f) s = in_function f s
in_item (tree.process line p) s = in_block p.body s

-- items and modules, with the names that stand before them

abbrev pub has_name : List ℕ → Numbers → Bool
has_name name before = is_some (entry name before)

abbrev pub double_of : Numbers → Option (List ℕ) → Option (List ℕ)
double_of before None = None
double_of before (Some name) = name_if (has_name name before) name

abbrev pub with_name_of : Numbers → Option (List ℕ) → Numbers
with_name_of before None = before
with_name_of before (Some name) = with_first before name 0

-- an item's own name
abbrev pub own_double : tree.Item → Numbers → Option Fault
own_double i before = told kind.DoubleName (item_line i) (double_of before (declared_name i))

-- items of a module, of which these are all
abbrev pub in_items : List tree.Item → List tree.Item → Numbers → Option Fault
in_items all [] before = None
in_items all (i ∷ is) before =
    option_or (option_or (own_double i before) (in_item i (names_at all no_locals))) (in_items all is (with_name_of before (declared_name i)))

abbrev pub in_module : tree.Module → Numbers → Option Fault
in_module m before = option_or (told_if kind.DoubleName m.line m.name (has_name m.name before)) (in_items m.items m.items [])

abbrev pub in_modules : List tree.Module → Numbers → Option Fault
in_modules [] before = None
in_modules (m ∷ ms) before = option_or (in_module m before) (in_modules ms (with_first before m.name 0))
