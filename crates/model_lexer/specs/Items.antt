-- The items of modules and a whole text: which tokens derive each.
use Rattle.std.specs.Prelude.{ℕ, Bool, true, false, List, [], ◌∷◌}
use Rattle.model_tree.specs.LogicValues.Digits.{digits}
use Rattle.model_tree.specs.Spelling.{signal_word, plain_word, process_word}
use Rattle.model_tree.specs.Tree as tree
use Rattle.model_tree.specs.declared.vocabulary.Word.{Word}
use Rattle.model_tree.specs.declared.vocabulary.Word.TheVariants as w
use Rattle.model_tree.specs.declared.vocabulary.Symbol.TheVariants as s
use Rattle.model_tree.specs.declared.types.Constant.{Constant}
use Rattle.model_tree.specs.declared.types.ConstantForm.{ConstantForm}
use Rattle.model_tree.specs.declared.types.ConstantForm.TheVariants as constant
use Rattle.model_tree.specs.declared.types.Span.{Span}
use Rattle.model_tree.specs.declared.types.Interface.{Interface}
use Rattle.model_tree.specs.declared.types.Interface.TheVariants as interface
use Rattle.model_tree.specs.declared.types.BoundRule.{BoundRule}
use Rattle.model_tree.specs.declared.types.BoundRule.TheVariants as bound
use Rattle.model_tree.specs.declared.types.PortSize.{PortSize}
use Rattle.model_tree.specs.declared.types.Parameter.{Parameter}
use Rattle.model_tree.specs.declared.types.End.{End}
use Rattle.model_tree.specs.declared.items.InitiatorRole.{InitiatorRole}
use Rattle.model_tree.specs.declared.items.InitiatorRole.TheVariants as initiator
use Rattle.model_tree.specs.declared.items.TargetRole.{TargetRole}
use Rattle.model_tree.specs.declared.items.TargetRole.TheVariants as target
use Rattle.model_tree.specs.declared.items.ResolutionLine.{ResolutionLine}
use Rattle.model_tree.specs.declared.items.Head.{Head}
use Rattle.model_tree.specs.declared.items.Head.TheVariants as head
use Rattle.model_tree.specs.declared.items.Top.{Top}
use Rattle.model_tree.specs.declared.types.VarType.{VarType}
use Rattle.model_lexer.specs.Tokens.{Token, name, number, logic, word, symbol, unit_token}
use Rattle.model_lexer.specs.Rules.{Rule, ◌⨾◌, At, Takes, Nothing, Each, Separated, Maybe, Written}
use Rattle.model_tree.specs.Spelling.{truth_word}
use Rattle.model_lexer.specs.Statements.{DerivesType, DerivesVarTypeAt, DerivesVarType, DerivesMember, DerivesSensitive, DerivesBlock}

-- const = [ "-" ] NUM | NUM unit | LOGIC | "true" | "false"
abbrev pub DerivesConstantForm : ℕ → ConstantForm → Rule
DerivesConstantForm line (constant.Number n) = At line (number n)
DerivesConstantForm line (constant.Negative n) = At line (symbol s.Minus) ⨾ Takes (number n)
DerivesConstantForm line (constant.Time n unit) = At line (number n) ⨾ Takes (unit_token unit)
DerivesConstantForm line (constant.Logic value) = At line (logic (digits value))
DerivesConstantForm line (constant.Truth b) = At line (word (truth_word b))

abbrev pub DerivesConstant : Constant → Rule
DerivesConstant c = DerivesConstantForm c.line c.form

-- "=" const
abbrev pub DerivesFirstValue : Constant → Rule
DerivesFirstValue c = Takes (symbol s.Equal) ⨾ DerivesConstant c

-- NUM unit
abbrev pub DerivesTime : Span → Rule
DerivesTime t = Takes (number t.count) ⨾ Takes (unit_token t.unit)

-- "start" NUM unit
abbrev pub DerivesStart : Span → Rule
DerivesStart t = Takes (word w.Start) ⨾ DerivesTime t

-- "size" NUM
abbrev pub DerivesFifoSize : ℕ → Rule
DerivesFifoSize n = Takes (word w.Size) ⨾ Takes (number n)

-- iface = ( "in" | "out" | "fifo_in" | "fifo_out" ) type | "mutex_port" | "semaphore_port"
-- The first rule says on which line its first token is.
abbrev pub DerivesInterface : (Token → Rule) → Interface → Rule
DerivesInterface First (interface.In t) = First (word w.In) ⨾ DerivesType t
DerivesInterface First (interface.Out t) = First (word w.Out) ⨾ DerivesType t
DerivesInterface First (interface.FifoIn t) = First (word w.FifoIn) ⨾ DerivesType t
DerivesInterface First (interface.FifoOut t) = First (word w.FifoOut) ⨾ DerivesType t
DerivesInterface First interface.Mutex = First (word w.MutexPort)
DerivesInterface First interface.Semaphore = First (word w.SemaphorePort)

-- [ "zero" | "all_bound" ]
abbrev pub DerivesBound : BoundRule → Rule
DerivesBound bound.One = Nothing
DerivesBound bound.Zero = Takes (word w.Zero)
DerivesBound bound.All = Takes (word w.AllBound)

-- "[" NUM [ "zero" | "all_bound" ] "]"
abbrev pub DerivesPortSize : PortSize → Rule
DerivesPortSize p = Takes (symbol s.LeftBracket) ⨾ Takes (number p.count) ⨾ DerivesBound p.rule ⨾ Takes (symbol s.RightBracket)

-- a word and the name of a handler
abbrev pub DerivesHandler : Word → List ℕ → Rule
DerivesHandler v x = Takes (word v) ⨾ Takes (name x)

-- "pass" | [ "bw" NAME ]
abbrev pub DerivesInitiatorRole : InitiatorRole → Rule
DerivesInitiatorRole initiator.Pass = Takes (word w.Pass)
DerivesInitiatorRole (initiator.Own backward) = Maybe (DerivesHandler w.Bw) backward

-- "pass" | [ "bt" NAME ] [ "fw" NAME ]
abbrev pub DerivesTargetRole : TargetRole → Rule
DerivesTargetRole target.Pass = Takes (word w.Pass)
DerivesTargetRole (target.Own blocking forward) = Maybe (DerivesHandler w.Bt) blocking ⨾ Maybe (DerivesHandler w.Fw) forward

-- end = NAME [ "." NAME ]
abbrev pub DerivesEnd : End → Rule
DerivesEnd e = At e.line (name e.name) ⨾ Maybe DerivesMember e.member

-- param = [ "inout" ] vtype NAME
abbrev pub DerivesMode : Bool → ℕ → VarType → Rule
DerivesMode true line t = At line (word w.Inout) ⨾ DerivesVarType t
DerivesMode false line t = DerivesVarTypeAt line t

abbrev pub DerivesParameter : Parameter → Rule
DerivesParameter p = DerivesMode p.inout p.line p.var_type ⨾ Takes (name p.name)

-- "(" [ param { "," param } ] ")"
abbrev pub DerivesParameters : List Parameter → Rule
DerivesParameters [] = Takes (symbol s.LeftParen) ⨾ Takes (symbol s.RightParen)
DerivesParameters (p ∷ ps) = Takes (symbol s.LeftParen) ⨾ Separated (symbol s.Comma) DerivesParameter (p ∷ ps) ⨾ Takes (symbol s.RightParen)

-- "->" vtype
abbrev pub DerivesAnswer : VarType → Rule
DerivesAnswer t = Takes (symbol s.Arrow) ⨾ DerivesVarType t

-- item = ( "signal" | "buffer" ) [ "many" ] type NAME [ "=" const ] ";" | "resolved" NAME ";"
--      | "clock" NAME "period" NUM unit "high" NUM unit [ "start" NUM unit ] ";"
--      | "fifo" type NAME [ "size" NUM ] ";" | ( "mutex" | "event" | "keeper" ) NAME ";"
--      | "semaphore" NAME const ";" | "memory" NAME "[" NUM "]" ";" | "var" vtype NAME [ "=" const ] ";"
--      | iface NAME [ "[" NUM [ "zero" | "all_bound" ] "]" ] ";" | "export" iface NAME ";"
--      | "initiator" NAME ( "pass" | [ "bw" NAME ] ) ";" | "target" NAME ( "pass" | [ "bt" NAME ] [ "fw" NAME ] ) ";"
--      | "inst" NAME NAME ";" | "bind" end "to" end ";"
--      | "func" NAME "(" [ param { "," param } ] ")" [ "->" vtype ] block
--      | ( "thread" | "method" ) NAME [ sens ] [ "dont_initialize" ] block
abbrev pub DerivesItem : tree.Item → Rule
DerivesItem (tree.signal line i) = At line (word (signal_word i.kind)) ⨾ Written (word w.Many) i.many ⨾ DerivesType i.value_type ⨾ Takes (name i.name) ⨾ Maybe DerivesFirstValue i.initial ⨾ Takes (symbol s.Semicolon)
DerivesItem (tree.resolved line x) = At line (word w.Resolved) ⨾ Takes (name x) ⨾ Takes (symbol s.Semicolon)
DerivesItem (tree.clock line c) = At line (word w.Clock) ⨾ Takes (name c.name) ⨾ Takes (word w.Period) ⨾ DerivesTime c.period ⨾ Takes (word w.High) ⨾ DerivesTime c.high ⨾ Maybe DerivesStart c.start ⨾ Takes (symbol s.Semicolon)
DerivesItem (tree.fifo line t x size) = At line (word w.Fifo) ⨾ DerivesType t ⨾ Takes (name x) ⨾ Maybe DerivesFifoSize size ⨾ Takes (symbol s.Semicolon)
DerivesItem (tree.plain line k x) = At line (word (plain_word k)) ⨾ Takes (name x) ⨾ Takes (symbol s.Semicolon)
DerivesItem (tree.semaphore line x c) = At line (word w.Semaphore) ⨾ Takes (name x) ⨾ DerivesConstant c ⨾ Takes (symbol s.Semicolon)
DerivesItem (tree.memory line x size) = At line (word w.Memory) ⨾ Takes (name x) ⨾ Takes (symbol s.LeftBracket) ⨾ Takes (number size) ⨾ Takes (symbol s.RightBracket) ⨾ Takes (symbol s.Semicolon)
DerivesItem (tree.variable line t x c) = At line (word w.Var) ⨾ DerivesVarType t ⨾ Takes (name x) ⨾ Maybe DerivesFirstValue c ⨾ Takes (symbol s.Semicolon)
DerivesItem (tree.port line i x size) = DerivesInterface (At line) i ⨾ Takes (name x) ⨾ Maybe DerivesPortSize size ⨾ Takes (symbol s.Semicolon)
DerivesItem (tree.export line i x) = At line (word w.Export) ⨾ DerivesInterface Takes i ⨾ Takes (name x) ⨾ Takes (symbol s.Semicolon)
DerivesItem (tree.initiator line x role) = At line (word w.Initiator) ⨾ Takes (name x) ⨾ DerivesInitiatorRole role ⨾ Takes (symbol s.Semicolon)
DerivesItem (tree.target line x role) = At line (word w.Target) ⨾ Takes (name x) ⨾ DerivesTargetRole role ⨾ Takes (symbol s.Semicolon)
DerivesItem (tree.instance line of x) = At line (word w.Inst) ⨾ Takes (name of) ⨾ Takes (name x) ⨾ Takes (symbol s.Semicolon)
DerivesItem (tree.bind line left right) = At line (word w.Bind) ⨾ DerivesEnd left ⨾ Takes (word w.To) ⨾ DerivesEnd right ⨾ Takes (symbol s.Semicolon)
DerivesItem (tree.function line f) = At line (word w.Func) ⨾ Takes (name f.name) ⨾ DerivesParameters f.parameters ⨾ Maybe DerivesAnswer f.answer ⨾ DerivesBlock f.body
DerivesItem (tree.process line p) = At line (word (process_word p.kind)) ⨾ Takes (name p.name) ⨾ DerivesSensitive p.sensitive ⨾ Written (word w.DontInitialize) p.dont_initialize ⨾ DerivesBlock p.body

-- module = "module" NAME "{" { item } "}"
abbrev pub DerivesModule : tree.Module → Rule
DerivesModule m = At m.line (word w.Module) ⨾ Takes (name m.name) ⨾ Takes (symbol s.LeftBrace) ⨾ Each DerivesItem m.items ⨾ Takes (symbol s.RightBrace)

-- "top" NAME NAME ";"
abbrev pub DerivesTop : Top → Rule
DerivesTop t = At t.line (word w.Top) ⨾ Takes (name t.module) ⨾ Takes (name t.name) ⨾ Takes (symbol s.Semicolon)

-- { module } "top" NAME NAME ";"
abbrev pub DerivesModel : tree.Model → Rule
DerivesModel m = Each DerivesModule m.modules ⨾ DerivesTop m.top

-- "resolution" NUM unit ";"
abbrev pub DerivesResolution : ResolutionLine → Rule
DerivesResolution r = At r.line (word w.Resolution) ⨾ DerivesTime r.span ⨾ Takes (symbol s.Semicolon)

-- [ "language" NUM ";" [ "resolution" NUM unit ";" ] ], where the first number is 2
abbrev pub DerivesHead : Head → Rule
DerivesHead head.First = Nothing
DerivesHead (head.Second r) = Takes (word w.Language) ⨾ Takes (number 2) ⨾ Takes (symbol s.Semicolon) ⨾ Maybe DerivesResolution r

-- model = [ "language" NUM ";" [ "resolution" NUM unit ";" ] ] { module } "top" NAME NAME ";"
abbrev pub DerivesSource : tree.Source → Rule
DerivesSource x = DerivesHead x.head ⨾ DerivesModel x.model
