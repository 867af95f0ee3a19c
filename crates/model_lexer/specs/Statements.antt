-- The statements of the model language: which tokens derive each.
use Rattle.std.specs.Prelude.{ℕ, List, [], ◌∷◌, Option, Some, None}
use Rattle.model_tree.specs.Tree as tree
use Rattle.model_tree.specs.Parts as part
use Rattle.model_tree.specs.Parts.{Part, word_of_action, parts_of}
use Rattle.model_tree.specs.declared.vocabulary.Word.TheVariants as w
use Rattle.model_tree.specs.declared.vocabulary.Symbol.TheVariants as s
use Rattle.model_tree.specs.declared.types.SignalType.{SignalType}
use Rattle.model_tree.specs.declared.types.TypeForm.{TypeForm}
use Rattle.model_tree.specs.declared.types.TypeForm.TheVariants as form
use Rattle.model_tree.specs.declared.types.VarType.{VarType}
use Rattle.model_tree.specs.declared.types.VarType.TheVariants as var_type
use Rattle.model_tree.specs.declared.statements.Who.{Who}
use Rattle.model_tree.specs.declared.statements.Who.TheVariants as who
use Rattle.model_lexer.specs.Tokens.{name, number, quoted, word, symbol}
use Rattle.model_lexer.specs.Rules.{Rule, ◌⨾◌, At, Takes, Nothing, Never, Separated, Maybe, Written, OnLine}
use Rattle.model_lexer.specs.Expressions.{Parenthesized, DerivesAt, DerivesExpression}

-- a width between angle brackets
abbrev pub Width : ℕ → Rule
Width n = Takes (symbol s.Less) ⨾ Takes (number n) ⨾ Takes (symbol s.Greater)

-- type = "bool" | "logic" | ( "int" | "uint" | "lv" ) "<" NUM ">"
abbrev pub DerivesForm : ℕ → TypeForm → Rule
DerivesForm line form.Bool = At line (word w.Bool)
DerivesForm line form.Logic = At line (word w.Logic)
DerivesForm line (form.Int width) = At line (word w.Int) ⨾ Width width
DerivesForm line (form.Uint width) = At line (word w.Uint) ⨾ Width width
DerivesForm line (form.Vector width) = At line (word w.Lv) ⨾ Width width

abbrev pub DerivesType : SignalType → Rule
DerivesType t = DerivesForm t.line t.form

-- vtype = type | "time" | "process" | "payload", with its first token on this line
abbrev pub DerivesVarTypeAt : ℕ → VarType → Rule
DerivesVarTypeAt line (var_type.Plain t) = OnLine line t.line (DerivesType t)
DerivesVarTypeAt line var_type.Time = At line (word w.Time)
DerivesVarTypeAt line var_type.Process = At line (word w.Process)
DerivesVarTypeAt line var_type.Payload = At line (word w.Payload)

-- the same on any line
abbrev pub DerivesVarType : VarType → Rule
DerivesVarType t ts rest = (line : ℕ) × DerivesVarTypeAt line t ts rest

-- [ "@" ( NUM | "(" expr ")" ) ]
abbrev pub DerivesPlace : tree.Place → Rule
DerivesPlace tree.first = Nothing
DerivesPlace (tree.place_number n) = Takes (symbol s.At) ⨾ Takes (number n)
DerivesPlace (tree.computed e) = Takes (symbol s.At) ⨾ Parenthesized (DerivesAt 0 e)

-- chan = NAME [ "@" ( NUM | "(" expr ")" ) ]
abbrev pub DerivesChannel : tree.Channel → Rule
DerivesChannel c = At c.line (name c.name) ⨾ DerivesPlace c.place

-- "." NAME
abbrev pub DerivesMember : List ℕ → Rule
DerivesMember x = Takes (symbol s.Dot) ⨾ Takes (name x)

-- ev = chan [ "." NAME ]
abbrev pub DerivesEvent : tree.Event → Rule
DerivesEvent e = DerivesChannel e.channel ⨾ Maybe DerivesMember e.member

-- sens = "sensitive" ev { "," ev }, or nothing
abbrev pub DerivesSensitive : List tree.Event → Rule
DerivesSensitive [] = Nothing
DerivesSensitive (e ∷ es) = Takes (word w.Sensitive) ⨾ Separated (symbol s.Comma) DerivesEvent (e ∷ es)

-- args = "(" [ expr { "," expr } ] ")"
abbrev pub DerivesArguments : List tree.Expression → Rule
DerivesArguments [] = Takes (symbol s.LeftParen) ⨾ Takes (symbol s.RightParen)
DerivesArguments (e ∷ es) = Takes (symbol s.LeftParen) ⨾ Separated (symbol s.Comma) DerivesExpression (e ∷ es) ⨾ Takes (symbol s.RightParen)

-- "[" expr "]"
abbrev pub DerivesIndex : tree.Expression → Rule
DerivesIndex e = Takes (symbol s.LeftBracket) ⨾ DerivesExpression e ⨾ Takes (symbol s.RightBracket)

-- place = NAME [ "." NAME ] [ "[" expr "]" ], its first token on this line
abbrev pub DerivesTarget : ℕ → tree.Target → Rule
DerivesTarget line t = At line (name t.name) ⨾ Maybe DerivesMember t.member ⨾ Maybe DerivesIndex t.index

-- "," NAME
abbrev pub NextName : List ℕ → Rule
NextName x = Takes (symbol s.Comma) ⨾ Takes (name x)

-- "," expr
abbrev pub NextExpression : tree.Expression → Rule
NextExpression e = Takes (symbol s.Comma) ⨾ DerivesExpression e

-- result = "call" NAME args | "read" chan | "nb_read" chan "," NAME | "nb_write" chan "," expr | "trylock" chan
--        | "unlock" chan | "sem_trywait" chan | "nb_transport" NAME "," NAME "," NAME "," NAME
abbrev pub DerivesOperation : ℕ → tree.Operation → Rule
DerivesOperation line (tree.call x arguments) = At line (word w.Call) ⨾ Takes (name x) ⨾ DerivesArguments arguments
DerivesOperation line (tree.read c) = At line (word w.Read) ⨾ DerivesChannel c
DerivesOperation line (tree.nb_read c x) = At line (word w.NbRead) ⨾ DerivesChannel c ⨾ NextName x
DerivesOperation line (tree.nb_write c e) = At line (word w.NbWrite) ⨾ DerivesChannel c ⨾ NextExpression e
DerivesOperation line (tree.trylock c) = At line (word w.Trylock) ⨾ DerivesChannel c
DerivesOperation line (tree.unlock c) = At line (word w.Unlock) ⨾ DerivesChannel c
DerivesOperation line (tree.sem_trywait c) = At line (word w.SemTrywait) ⨾ DerivesChannel c
DerivesOperation line (tree.nb_transport socket payload phase delay) = At line (word w.NbTransport) ⨾ Takes (name socket) ⨾ NextName payload ⨾ NextName phase ⨾ NextName delay

-- [ NAME "=" ] in front of an operation, whose word is on the second line: the first one is the statement's
abbrev pub DerivesResult : ℕ → Option (List ℕ) → ℕ → Rule
DerivesResult line None at = OnLine line at Nothing
DerivesResult line (Some x) at = At line (name x) ⨾ Takes (symbol s.Equal)

-- "for" expr
abbrev pub DerivesSpan : tree.Expression → Rule
DerivesSpan e = Takes (word w.For) ⨾ DerivesExpression e

-- waiting = "delta" | "for" expr | ev [ "for" expr ] | ( "any" | "all" ) ev { "," ev } [ "for" expr ], or nothing
abbrev pub DerivesWaiting : tree.Waiting → Rule
DerivesWaiting tree.static = Nothing
DerivesWaiting tree.delta = Takes (word w.Delta)
DerivesWaiting (tree.for_ e) = DerivesSpan e
DerivesWaiting (tree.one e t) = DerivesEvent e ⨾ Maybe DerivesSpan t
DerivesWaiting (tree.any es t) = Takes (word w.Any) ⨾ Separated (symbol s.Comma) DerivesEvent es ⨾ Maybe DerivesSpan t
DerivesWaiting (tree.all es t) = Takes (word w.All) ⨾ Separated (symbol s.Comma) DerivesEvent es ⨾ Maybe DerivesSpan t

-- [ "delta" | "after" expr ]
abbrev pub DerivesNotification : tree.Notification → Rule
DerivesNotification tree.immediate = Nothing
DerivesNotification tree.next_delta = Takes (word w.Delta)
DerivesNotification (tree.after e) = Takes (word w.After) ⨾ DerivesExpression e

-- NAME "="
abbrev pub DerivesHandle : List ℕ → Rule
DerivesHandle x = Takes (name x) ⨾ Takes (symbol s.Equal)

-- [ NAME "=" ] [ "method" ] NAME args [ sens ] [ "dont_initialize" ]
abbrev pub DerivesSpawn : tree.Spawn → Rule
DerivesSpawn x = Maybe DerivesHandle x.handle ⨾ Written (word w.Method) x.method ⨾ Takes (name x.function) ⨾ DerivesArguments x.arguments ⨾ DerivesSensitive x.sensitive ⨾ Written (word w.DontInitialize) x.dont_initialize

-- who = NAME | "self"
abbrev pub DerivesWho : Who → Rule
DerivesWho (who.Named line x) = At line (name x)
DerivesWho (who.Myself line) = At line (word w.SelfProcess)

-- a part of an action
abbrev pub DerivesPart : Part → Rule
DerivesPart (part.name r x) = Takes (name x)
DerivesPart (part.next_name r x) = NextName x
DerivesPart (part.reaching_name r x all) = Takes (name x) ⨾ Written (word w.Descendants) all
DerivesPart (part.text x) = Takes (quoted x)
DerivesPart (part.term u e) = DerivesExpression e
DerivesPart (part.term_if u e) = Maybe DerivesExpression e
DerivesPart (part.next_term u e) = NextExpression e
DerivesPart (part.next_term_if u e) = Maybe NextExpression e
DerivesPart (part.channel u c) = DerivesChannel c
DerivesPart (part.waiting t) = DerivesWaiting t
DerivesPart (part.notification t) = DerivesNotification t
DerivesPart (part.instance x) = DerivesSpawn x
DerivesPart (part.process x) = DerivesWho x
DerivesPart (part.reaching_process x all) = DerivesWho x ⨾ Written (word w.Descendants) all

-- the parts of an action one after another, behind what P derives
abbrev pub DerivesParts : Rule → List Part → Rule
DerivesParts P [] = P
DerivesParts P (x ∷ xs) = P ⨾ DerivesParts (DerivesPart x) xs

-- the word of an action, and its parts: specs/Parts.antt of model_tree has the production of each
abbrev pub DerivesAction : ℕ → tree.Action → Rule
DerivesAction line a = DerivesParts (At line (word (word_of_action a))) (parts_of a)

-- what stands between braces
abbrev pub Braced : Rule → Rule
Braced P = Takes (symbol s.LeftBrace) ⨾ P ⨾ Takes (symbol s.RightBrace)

-- "=" expr
abbrev pub DerivesInitial : tree.Expression → Rule
DerivesInitial e = Takes (symbol s.Equal) ⨾ DerivesExpression e

-- a try has a handler
abbrev pub HasHandler : tree.Handlers → Rule → Rule
HasHandler tree.no_more P = Never
HasHandler (tree.handler x body more) P = P

-- stmt  = "var" vtype NAME [ "=" expr ] ";" | place "=" expr ";" | [ NAME "=" ] result ";" | action ";"
--       | "if" expr block [ "else" block ] | "while" expr block | "guard" block "unwind" block
--       | "try" block "catch" NAME block { "catch" NAME block }
-- block = "{" { stmt } "}"
abbrev mutual
  pub DerivesStatement : tree.Statement → Rule
  DerivesStatement (tree.var line t x e) = At line (word w.Var) ⨾ DerivesVarType t ⨾ Takes (name x) ⨾ Maybe DerivesInitial e ⨾ Takes (symbol s.Semicolon)
  DerivesStatement (tree.assign line t e) = DerivesTarget line t ⨾ Takes (symbol s.Equal) ⨾ DerivesExpression e ⨾ Takes (symbol s.Semicolon)
  DerivesStatement (tree.operate line x at o) = DerivesResult line x at ⨾ DerivesOperation at o ⨾ Takes (symbol s.Semicolon)
  DerivesStatement (tree.act line a) = DerivesAction line a ⨾ Takes (symbol s.Semicolon)
  DerivesStatement (tree.if_ line e body other) = At line (word w.If) ⨾ DerivesExpression e ⨾ Braced (DerivesStatements body) ⨾ DerivesElse other
  DerivesStatement (tree.while_ line e body) = At line (word w.While) ⨾ DerivesExpression e ⨾ Braced (DerivesStatements body)
  DerivesStatement (tree.guard line body undo) = At line (word w.Guard) ⨾ Braced (DerivesStatements body) ⨾ Takes (word w.Unwind) ⨾ Braced (DerivesStatements undo)
  DerivesStatement (tree.try_ line body handlers) = At line (word w.Try) ⨾ Braced (DerivesStatements body) ⨾ HasHandler handlers (DerivesHandlers handlers)

  pub DerivesStatements : tree.Block → Rule
  DerivesStatements tree.over = Nothing
  DerivesStatements (tree.then x xs) = DerivesStatement x ⨾ DerivesStatements xs

  pub DerivesElse : tree.Else → Rule
  DerivesElse tree.no_else = Nothing
  DerivesElse (tree.else_block body) = Takes (word w.Else) ⨾ Braced (DerivesStatements body)

  pub DerivesHandlers : tree.Handlers → Rule
  DerivesHandlers tree.no_more = Nothing
  DerivesHandlers (tree.handler x body more) = Takes (word w.Catch) ⨾ Takes (name x) ⨾ Braced (DerivesStatements body) ⨾ DerivesHandlers more

abbrev pub DerivesBlock : tree.Block → Rule
DerivesBlock body = Braced (DerivesStatements body)
