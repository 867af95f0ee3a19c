-- That code is that of a model: one body for each function, process and clock, in text order over all modules.
use Rattle.std.specs.Prelude.{◌≡◌, ℕ, ◌+◌, ◌*◌, ◌-◌, ◌==◌, Bool, true, false, not, if◌then◌else◌, List, [], ◌∷◌, ◌++◌, length, filter, bytes_eq, option_to_list, unwrap_or, Option, Some, None}
use Rattle.std.specs.List.{flat_map}
use Rattle.model_rules.specs.LogicValues.declared.kinds.Value.TheVariants as value
use Rattle.model_rules.specs.SimTime.Times.{picoseconds_in}
use Rattle.model_rules.specs.ModelTree.Tree as tree
use Rattle.model_rules.specs.ModelTree.Parts as made
use Rattle.model_rules.specs.ModelTree.Parts.{Role, Part, parts_of, joined}
use Rattle.model_rules.specs.ModelTree.declared.types.VarType.{VarType}
use Rattle.model_rules.specs.ModelTree.declared.types.Parameter.{Parameter}
use Rattle.model_rules.specs.ModelTree.declared.types.Span.{Span}
use Rattle.model_rules.specs.ModelTree.declared.items.ClockItem.{ClockItem}
use Rattle.model_rules.specs.ModelTree.declared.items.ProcessKind.{ProcessKind}
use Rattle.model_rules.specs.ModelTree.declared.items.ProcessKind.TheVariants as process
use Rattle.model_rules.specs.FlatDesign.Code as code
use Rattle.model_rules.specs.FlatDesign.Code.{Arena, arena_of}
use Rattle.model_rules.specs.FlatDesign.declared.value_types.ValueType.{ValueType}
use Rattle.model_rules.specs.FlatDesign.declared.value_types.ValueType.TheVariants as type
use Rattle.model_rules.specs.FlatDesign.declared.code.BodyKind.{BodyKind}
use Rattle.model_rules.specs.FlatDesign.declared.code.BodyKind.TheVariants as body_kind
use Rattle.model_rules.specs.FlatDesign.declared.code.Local.{Local}
use Rattle.model_rules.specs.FlatDesign.declared.code.CodeBody.{CodeBody}
use Rattle.model_rules.specs.FlatDesign.declared.code.Code.{Code}
use Rattle.model_rules.specs.Meanings.{variable_type, declared_name}
use Rattle.model_rules.specs.Scopes.{Scope, item_scope, with_parameters, place_of}
use Rattle.code_rules.specs.Deeds.{Home}
use Rattle.code_rules.specs.Numbered.{AtBlock, AreFirst, IsBlock}

-- exceptions

-- their names in statements, blocks and handlers, in text order
abbrev pub thrown_as : Role → List ℕ → List (List ℕ)
thrown_as made.event name = []
thrown_as made.payload name = []
thrown_as made.memory name = []
thrown_as made.initiator name = []
thrown_as made.keeper name = []
thrown_as made.carried name = []
thrown_as made.delay name = []
thrown_as made.exception name = name ∷ []

abbrev pub thrown_part : Part → List (List ℕ)
thrown_part (made.name r name) = thrown_as r name
thrown_part (made.next_name r name) = thrown_as r name
thrown_part (made.reaching_name r name all) = thrown_as r name
thrown_part (made.text x) = []
thrown_part (made.term u e) = []
thrown_part (made.term_if u e) = []
thrown_part (made.next_term u e) = []
thrown_part (made.next_term_if u e) = []
thrown_part (made.channel u c) = []
thrown_part (made.waiting w) = []
thrown_part (made.notification n) = []
thrown_part (made.instance x) = []
thrown_part (made.process w) = []
thrown_part (made.reaching_process w all) = []

abbrev pub thrown_in : tree.Action → List (List ℕ)
thrown_in a = joined thrown_part (λ xs ys. xs ++ ys) [] (parts_of a)

abbrev mutual
  pub exceptions_in : tree.Statement → List (List ℕ)
  exceptions_in (tree.var line t name e) = []
  exceptions_in (tree.assign line target e) = []
  exceptions_in (tree.operate line name at o) = []
  exceptions_in (tree.act line a) = thrown_in a
  exceptions_in (tree.if_ line e body other) = exceptions_in_block body ++ exceptions_in_else other
  exceptions_in (tree.while_ line e body) = exceptions_in_block body
  exceptions_in (tree.guard line body undo) = exceptions_in_block body ++ exceptions_in_block undo
  exceptions_in (tree.try_ line body handlers) = exceptions_in_block body ++ exceptions_in_handlers handlers

  pub exceptions_in_block : tree.Block → List (List ℕ)
  exceptions_in_block tree.over = []
  exceptions_in_block (tree.then s ss) = exceptions_in s ++ exceptions_in_block ss

  pub exceptions_in_else : tree.Else → List (List ℕ)
  exceptions_in_else tree.no_else = []
  exceptions_in_else (tree.else_block body) = exceptions_in_block body

  pub exceptions_in_handlers : tree.Handlers → List (List ℕ)
  exceptions_in_handlers tree.no_more = []
  exceptions_in_handlers (tree.handler name body more) = name ∷ exceptions_in_block body ++ exceptions_in_handlers more

abbrev pub exceptions_in_item : tree.Item → List (List ℕ)
exceptions_in_item (tree.signal line s) = []
exceptions_in_item (tree.resolved line name) = []
exceptions_in_item (tree.clock line c) = []
exceptions_in_item (tree.fifo line t name size) = []
exceptions_in_item (tree.plain line kind name) = []
exceptions_in_item (tree.semaphore line name c) = []
exceptions_in_item (tree.memory line name size) = []
exceptions_in_item (tree.variable line t name c) = []
exceptions_in_item (tree.port line i name size) = []
exceptions_in_item (tree.export line i name) = []
exceptions_in_item (tree.initiator line name role) = []
exceptions_in_item (tree.target line name role) = []
exceptions_in_item (tree.instance line kind name) = []
exceptions_in_item (tree.bind line left right) = []
exceptions_in_item (tree.function line f) = exceptions_in_block f.body
exceptions_in_item (tree.process line p) = exceptions_in_block p.body

-- each name once, where it comes first
abbrev pub once : List (List ℕ) → List (List ℕ)
once [] = []
once (name ∷ names) = name ∷ filter (λ other. not (bytes_eq other name)) (once names)

-- the names of exceptions by their numbers
abbrev pub exceptions_of : tree.Model → List (List ℕ)
exceptions_of m = once (flat_map (λ (x : tree.Module). flat_map exceptions_in_item x.items) m.modules)

-- local variables: the parameters, and then each `var` in text order

abbrev pub LocalSource : Type 0
LocalSource = List ℕ × VarType × Bool

abbrev mutual
  pub variables_in : tree.Statement → List LocalSource
  variables_in (tree.var line t name e) = (name, t, false) ∷ []
  variables_in (tree.assign line target e) = []
  variables_in (tree.operate line name at o) = []
  variables_in (tree.act line a) = []
  variables_in (tree.if_ line e body other) = variables_in_block body ++ variables_in_else other
  variables_in (tree.while_ line e body) = variables_in_block body
  variables_in (tree.guard line body undo) = variables_in_block body ++ variables_in_block undo
  variables_in (tree.try_ line body handlers) = variables_in_block body ++ variables_in_handlers handlers

  pub variables_in_block : tree.Block → List LocalSource
  variables_in_block tree.over = []
  variables_in_block (tree.then s ss) = variables_in s ++ variables_in_block ss

  pub variables_in_else : tree.Else → List LocalSource
  variables_in_else tree.no_else = []
  variables_in_else (tree.else_block body) = variables_in_block body

  pub variables_in_handlers : tree.Handlers → List LocalSource
  variables_in_handlers tree.no_more = []
  variables_in_handlers (tree.handler name body more) = variables_in_block body ++ variables_in_handlers more

abbrev pub parameter_sources : List Parameter → List LocalSource
parameter_sources [] = []
parameter_sources (p ∷ ps) = (p.name, p.var_type, p.inout) ∷ parameter_sources ps

-- the code's local variables are these, with their types
abbrev pub AreLocals : List LocalSource → List Local → Type 0
AreLocals [] ls = ls ≡ []
AreLocals (x ∷ xs) ls =
    (t : ValueType) × (rest : List Local) × (variable_type x.1 ≡ Some t) × (ls ≡ (record { name = x.0; value_type = t; inout = x.2 }) ∷ rest) × AreLocals xs rest

-- the thread of a clock: a wait for its start where that is not 0, and then for ever a 1, a wait for the time that it is high,
-- a 0, and a wait for the rest of its period

abbrev pub span_of : Span → ℕ
span_of t = t.count * picoseconds_in t.unit

abbrev pub start_of : Option Span → ℕ
start_of None = 0
start_of (Some t) = span_of t

abbrev pub wait_for : ℕ → code.Statement
wait_for time = code.wait (code.for_ (code.literal (value.Moment time)))

abbrev pub write_truth : ℕ → Bool → code.Statement
write_truth n b = code.write (record { channel_name = n; place = None }) type.Bool (code.literal (value.Bool b))

abbrev pub one_period : ℕ → ClockItem → List code.Statement
one_period n c = write_truth n true ∷ wait_for (span_of c.high) ∷ write_truth n false ∷ wait_for (span_of c.period - span_of c.high) ∷ []

abbrev pub waits_first : ℕ → List code.Statement
waits_first start = if start == 0 then [] else wait_for start ∷ []

abbrev pub IsClockBlock : Arena → Option ℕ → ClockItem → List ℕ → Type 0
IsClockBlock a None c ids = ⊥
IsClockBlock a (Some n) c ids =
    (b : ℕ) × AreFirst a (waits_first (start_of c.start) ++ code.while_ (code.literal (value.Bool true)) b ∷ []) ids [] × AtBlock a b (λ inner. AreFirst a (one_period n c) inner [])

-- bodies

-- what a body is that of, at the scope of its statements
pub data Source : Type 0 where
  of_function : tree.FunctionItem → Source
  of_process : tree.ProcessItem → Source
  of_clock : ClockItem → Source

abbrev pub source_of : tree.Item → Option Source
source_of (tree.signal line s) = None
source_of (tree.resolved line name) = None
source_of (tree.clock line c) = Some (of_clock c)
source_of (tree.fifo line t name size) = None
source_of (tree.plain line kind name) = None
source_of (tree.semaphore line name c) = None
source_of (tree.memory line name size) = None
source_of (tree.variable line t name c) = None
source_of (tree.port line i name size) = None
source_of (tree.export line i name) = None
source_of (tree.initiator line name role) = None
source_of (tree.target line name role) = None
source_of (tree.instance line kind name) = None
source_of (tree.bind line left right) = None
source_of (tree.function line f) = Some (of_function f)
source_of (tree.process line p) = Some (of_process p)

abbrev pub process_kind : ProcessKind → BodyKind
process_kind process.Thread = body_kind.Thread
process_kind process.Method = body_kind.Method

abbrev pub source_kind : Source → BodyKind
source_kind (of_function f) = body_kind.Function
source_kind (of_process p) = process_kind p.kind
source_kind (of_clock c) = body_kind.Clock

abbrev pub source_name : Source → List ℕ
source_name (of_function f) = f.name
source_name (of_process p) = p.name
source_name (of_clock c) = c.name

abbrev pub source_locals : Source → List LocalSource
source_locals (of_function f) = parameter_sources f.parameters ++ variables_in_block f.body
source_locals (of_process p) = variables_in_block p.body
source_locals (of_clock c) = []

abbrev pub source_parameters : Source → ℕ
source_parameters (of_function f) = length f.parameters
source_parameters (of_process p) = 0
source_parameters (of_clock c) = 0

-- the answer of a function with a type has that type
abbrev pub IsAnswer : Option VarType → Option ValueType → Type 0
IsAnswer None t = t ≡ None
IsAnswer (Some x) t = (known : ValueType) × (variable_type x ≡ Some known) × (t ≡ Some known)

abbrev pub source_answer : Source → Option VarType
source_answer (of_function f) = f.answer
source_answer (of_process p) = None
source_answer (of_clock c) = None

-- its block, by the statements of the tree or those of a clock
abbrev pub IsSourceBlock : Source → Home → Arena → Scope → List ℕ → Type 0
IsSourceBlock (of_function f) h a s ids = IsBlock f.body h a (with_parameters (record s { answer = f.answer }) f.parameters) ids
IsSourceBlock (of_process p) h a s ids = IsBlock p.body h a s ids
IsSourceBlock (of_clock c) h a s ids = IsClockBlock a (place_of s c.name) c ids

-- A body of the code is that of a source in the module at this place. Nothing is said of the room of its waits, which the
-- text does not tell.
pub record IsBody (place : ℕ) (h : Home) (a : Arena) (s : Scope) (source : Source) (b : CodeBody) : Type 0 where
  pub kind : b.kind ≡ source_kind source
  pub in_module : b.module_place ≡ place
  pub name : b.name ≡ source_name source
  pub locals : AreLocals (source_locals source) b.locals
  pub parameters : b.parameters ≡ source_parameters source
  pub answer : IsAnswer (source_answer source) b.answer
  pub statements : AtBlock a b.block (IsSourceBlock source h a s)

-- of a binding there is no name
abbrev pub around_item : tree.Item → List ℕ
around_item i = unwrap_or (declared_name i) []

-- one body for each item that has one; the others leave all of them
abbrev pub IsBodyIf : ℕ → Home → Arena → Scope → Option Source → List CodeBody → List CodeBody → Type 0
IsBodyIf place h a s None bodies rest = bodies ≡ rest
IsBodyIf place h a s (Some source) bodies rest = (b : CodeBody) × (bodies ≡ b ∷ rest) × IsBody place h a s source b

abbrev pub AreBodies : List tree.Module → List tree.Item → ℕ → Home → Arena → List tree.Item → List CodeBody → List CodeBody → Type 0
AreBodies modules all place h a [] bodies rest = bodies ≡ rest
AreBodies modules all place h a (i ∷ is) bodies rest =
    (mid : List CodeBody) × IsBodyIf place h a (item_scope modules all (around_item i)) (source_of i) bodies mid × AreBodies modules all place h a is mid rest

-- how many bodies a module has
abbrev pub body_count : List tree.Item → ℕ
body_count [] = 0
body_count (i ∷ is) = length (option_to_list (source_of i)) + body_count is

-- the bodies of all modules, from the module at this place on, whose first body has this number
abbrev pub AreModules : List tree.Module → List (List ℕ) → Arena → ℕ → ℕ → List tree.Module → List CodeBody → Type 0
AreModules modules exceptions a place first [] bodies = bodies ≡ []
AreModules modules exceptions a place first (m ∷ ms) bodies =
    (mid : List CodeBody) × AreBodies modules m.items place (record { first_body = first; exceptions = exceptions }) a m.items bodies mid
    × AreModules modules exceptions a (place + 1) (first + body_count m.items) ms mid

-- code reads back as the bodies of a model and the threads of its clocks
abbrev pub IsCodeOf : tree.Model → Code → Type 0
IsCodeOf m c = AreModules m.modules (exceptions_of m) (arena_of c) 0 0 m.modules c.bodies
