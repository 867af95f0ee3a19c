-- Trees written by hand: a word for each form, with the line of its first token in front.
use Rattle.std.specs.Prelude.{ℕ, Bool, true, false, List, [], ◌∷◌, codes, Option, Some, None}
use Rattle.model_lexer.specs.ModelTree.Tree as tree
use Rattle.model_lexer.specs.ModelTree.Views.{block_of}
use Rattle.model_lexer.specs.ModelTree.declared.types.TypeForm.{TypeForm}
use Rattle.model_lexer.specs.ModelTree.declared.types.SignalType.{SignalType}
use Rattle.model_lexer.specs.ModelTree.declared.types.VarType.{VarType}
use Rattle.model_lexer.specs.ModelTree.declared.types.VarType.TheVariants as var_type
use Rattle.model_lexer.specs.ModelTree.declared.types.Constant.{Constant}
use Rattle.model_lexer.specs.ModelTree.declared.types.ConstantForm.{ConstantForm}
use Rattle.model_lexer.specs.ModelTree.declared.types.Parameter.{Parameter}
use Rattle.model_lexer.specs.ModelTree.declared.types.End.{End}
use Rattle.model_lexer.specs.ModelTree.declared.types.Span.{Span}
use Rattle.model_lexer.specs.ModelTree.declared.items.SignalKind.TheVariants as signal_kind
use Rattle.model_lexer.specs.ModelTree.declared.items.ProcessKind.TheVariants as process_kind
use Rattle.model_lexer.specs.ModelTree.declared.faults.Fault.{Fault}
use Rattle.model_lexer.specs.ModelTree.declared.faults.Kind.{Kind}
use Rattle.model_lexer.specs.SimTime.declared.moments.Unit.{Unit as TimeUnit}

abbrev pub Name : Type 0
Name = List ℕ

-- a text of these modules, whose top instance `m` is of the module M, on line 90
abbrev pub models : List tree.Module → tree.Model
models ms = record { modules = ms; top = record { line = 90; «module» = codes "M"; name = codes "m" } }

abbrev pub module_of : ℕ → Name → List tree.Item → tree.Module
module_of line name items = record { line = line; name = name; items = items }

-- a text of the one module M, on line 1
abbrev pub model : List tree.Item → tree.Model
model items = models (module_of 1 (codes "M") items ∷ [])

-- the fault that is wanted
abbrev pub fault : Kind → ℕ → Name → Option Fault
fault k line name = Some (record { kind = k; line = line; name = name })

-- items

abbrev pub typed : ℕ → TypeForm → SignalType
typed line form = record { line = line; form = form }

abbrev pub plain : ℕ → TypeForm → VarType
plain line form = var_type.Plain (typed line form)

abbrev pub constant : ℕ → ConstantForm → Constant
constant line form = record { line = line; form = form }

abbrev pub signal : ℕ → TypeForm → Name → tree.Item
signal line form name = tree.signal line (record { kind = signal_kind.Signal; many = false; value_type = typed line form; name = name; initial = None })

abbrev pub signal_at : ℕ → TypeForm → Name → Constant → tree.Item
signal_at line form name c = tree.signal line (record { kind = signal_kind.Signal; many = false; value_type = typed line form; name = name; initial = Some c })

abbrev pub clock : ℕ → Name → Span → Span → tree.Item
clock line name period high = tree.clock line (record { name = name; period = period; high = high; start = None })

abbrev pub span : ℕ → TimeUnit → Span
span n unit = record { count = n; unit = unit }

abbrev pub thread : ℕ → Name → List tree.Statement → tree.Item
thread line name body = tree.process line (record { kind = process_kind.Thread; name = name; sensitive = []; dont_initialize = false; body = block_of body })

abbrev pub method : ℕ → Name → List tree.Event → List tree.Statement → tree.Item
method line name sensitive body = tree.process line (record { kind = process_kind.Method; name = name; sensitive = sensitive; dont_initialize = false; body = block_of body })

abbrev pub parameter : ℕ → Bool → VarType → Name → Parameter
parameter line inout t name = record { line = line; inout = inout; var_type = t; name = name }

abbrev pub function : ℕ → Name → List Parameter → Option VarType → List tree.Statement → tree.Item
function line name parameters answer body = tree.function line (record { name = name; parameters = parameters; answer = answer; body = block_of body })

abbrev pub end : ℕ → Name → Option Name → End
end line name member = record { line = line; name = name; member = member }

-- expressions

abbrev pub named : ℕ → Name → tree.Expression
named line name = tree.named line name

abbrev pub number : ℕ → ℕ → tree.Expression
number line n = tree.number line n

abbrev pub yes_ : ℕ → tree.Expression
yes_ line = tree.truth line true

-- statements

abbrev pub channel : ℕ → Name → tree.Channel
channel line name = record { line = line; name = name; place = tree.first }

abbrev pub event : ℕ → Name → Option Name → tree.Event
event line name member = record { channel = channel line name; member = member }

abbrev pub local : ℕ → VarType → Name → tree.Statement
local line t name = tree.var line t name None

abbrev pub local_at : ℕ → VarType → Name → tree.Expression → tree.Statement
local_at line t name e = tree.var line t name (Some e)

abbrev pub assign : ℕ → Name → tree.Expression → tree.Statement
assign line name e = tree.assign line (record { name = name; member = None; index = None }) e

abbrev pub call : ℕ → Option Name → Name → List tree.Expression → tree.Statement
call line to name arguments = tree.operate line to line (tree.call name arguments)

abbrev pub print : ℕ → tree.Expression → tree.Statement
print line e = tree.act line (tree.print [] (Some e))

abbrev pub write : ℕ → Name → tree.Expression → tree.Statement
write line name e = tree.act line (tree.write (channel line name) e)

abbrev pub wait_on : ℕ → Name → Option Name → tree.Statement
wait_on line name member = tree.act line (tree.wait (tree.one (event line name member) None))

abbrev pub wait_delta : ℕ → tree.Statement
wait_delta line = tree.act line (tree.wait tree.delta)

abbrev pub if_true : ℕ → List tree.Statement → tree.Statement
if_true line body = tree.if_ line (yes_ line) (block_of body) tree.no_else

abbrev pub if_else : ℕ → List tree.Statement → List tree.Statement → tree.Statement
if_else line body other = tree.if_ line (yes_ line) (block_of body) (tree.else_block (block_of other))

abbrev pub guard : ℕ → List tree.Statement → List tree.Statement → tree.Statement
guard line body undo = tree.guard line (block_of body) (block_of undo)

abbrev pub spawn : ℕ → Bool → Name → List tree.Expression → tree.Statement
spawn line method name arguments =
    tree.act line (tree.spawn (record { handle = None; method = method; function = name; arguments = arguments; sensitive = []; dont_initialize = false }))

abbrev pub returns : ℕ → Option tree.Expression → tree.Statement
returns line e = tree.act line (tree.return_ e)
