-- How many bytes the printed tokens of a tree take, against the tokens of a text that it was read of.
use Rattle.std.proofs.Common.{ℕ, suc, ◌≤◌, max, Bool, true, false, List, [], ◌∷◌, ◌++◌, append_assoc, Option, Some, None, refl, sym, arith}
use Rattle.model_print.specs.LogicValues.Digits.{digits}
use Rattle.model_print.specs.ModelTree.declared.vocabulary.Word.{Word}
use Rattle.model_print.specs.ModelTree.declared.vocabulary.Word.TheVariants as w
use Rattle.model_print.specs.ModelTree.declared.vocabulary.Symbol.TheVariants as s
use Rattle.model_print.specs.ModelTree.declared.types.TypeForm.{TypeForm}
use Rattle.model_print.specs.ModelTree.declared.types.TypeForm.TheVariants as form
use Rattle.model_print.specs.ModelTree.declared.types.VarType.{VarType}
use Rattle.model_print.specs.ModelTree.declared.types.VarType.TheVariants as var_type
use Rattle.model_print.specs.ModelTree.declared.types.Constant.{Constant}
use Rattle.model_print.specs.ModelTree.declared.types.ConstantForm.{ConstantForm}
use Rattle.model_print.specs.ModelTree.declared.types.ConstantForm.TheVariants as constant
use Rattle.model_print.specs.ModelTree.declared.types.Span.{Span}
use Rattle.model_print.specs.ModelTree.declared.types.Interface.{Interface}
use Rattle.model_print.specs.ModelTree.declared.types.Interface.TheVariants as interface
use Rattle.model_print.specs.ModelTree.declared.types.BoundRule.{BoundRule}
use Rattle.model_print.specs.ModelTree.declared.types.BoundRule.TheVariants as bound
use Rattle.model_print.specs.ModelTree.declared.types.PortSize.{PortSize}
use Rattle.model_print.specs.ModelTree.declared.types.Parameter.{Parameter}
use Rattle.model_print.specs.ModelTree.declared.types.End.{End}
use Rattle.model_print.specs.ModelTree.declared.statements.Who.{Who}
use Rattle.model_print.specs.ModelTree.declared.statements.Who.TheVariants as who
use Rattle.model_print.specs.ModelTree.declared.items.InitiatorRole.{InitiatorRole}
use Rattle.model_print.specs.ModelTree.declared.items.InitiatorRole.TheVariants as initiator
use Rattle.model_print.specs.ModelTree.declared.items.TargetRole.{TargetRole}
use Rattle.model_print.specs.ModelTree.declared.items.TargetRole.TheVariants as target
use Rattle.model_print.specs.ModelTree.declared.items.ResolutionLine.{ResolutionLine}
use Rattle.model_print.specs.ModelTree.declared.items.Head.{Head}
use Rattle.model_print.specs.ModelTree.declared.items.Head.TheVariants as head
use Rattle.model_print.specs.ModelTree.declared.items.Top.{Top}
use Rattle.model_print.specs.ModelTree.Limits.{level, primary_level, chain_level, depth}
use Rattle.model_print.specs.ModelTree.Spelling.{unary_symbol, binary_symbol, truth_word, conversion_word, constant_word, signal_word, plain_word, process_word}
use Rattle.model_print.specs.ModelTree.Tree as tree
use Rattle.model_tree.specs.Parts as made
use Rattle.model_tree.specs.Parts.{Part, word_of_action, parts_of}
use Rattle.model_lexer.specs.Tokens.{Token, name, word, symbol}
use Rattle.model_lexer.specs.Rules.{Rule, ◌⨾◌, At, Takes, Each, Maybe, Binds}
use Rattle.model_lexer.specs.Expressions.{Short, Parenthesized, DerivesAt, DerivesExpression}
use Rattle.model_lexer.specs.Statements.{DerivesForm, DerivesVarTypeAt, DerivesVarType, DerivesPlace, DerivesChannel, DerivesMember, DerivesEvent, DerivesSensitive, DerivesArguments, DerivesIndex, DerivesTarget, NextName, NextExpression, DerivesOperation, DerivesResult, DerivesSpan, DerivesWaiting, DerivesNotification, DerivesHandle, DerivesSpawn, DerivesWho, DerivesPart, DerivesParts, DerivesAction, DerivesInitial, HasHandler, DerivesStatement, DerivesStatements, DerivesElse, DerivesHandlers}
use Rattle.model_lexer.specs.Items.{DerivesConstantForm, DerivesFirstValue, DerivesTime, DerivesStart, DerivesFifoSize, DerivesInterface, DerivesBound, DerivesPortSize, DerivesHandler, DerivesInitiatorRole, DerivesTargetRole, DerivesEnd, DerivesMode, DerivesParameter, DerivesParameters, DerivesAnswer, DerivesItem, DerivesModule, DerivesTop, DerivesModel, DerivesResolution, DerivesHead, DerivesSource}
use Rattle.model_lexer.specs.Brackets.{in_events, in_statement, in_block, in_else, in_handlers, in_item, in_items, in_modules, brackets}
use Rattle.model_print.specs.declared.shapes.Shape.TheVariants as shape
use Rattle.model_print.specs.Layout.{Piece}
use Rattle.model_print.specs.Pieces as piece
use Rattle.model_print.specs.Leaves as leaf
use Rattle.model_print.specs.Printed as printed
use Rattle.laws_texts.proofs.Actions.{five}
use Rattle.laws_texts.proofs.Weighed.{Weighs, nothing, by, moved, both, braced_in, word_at, word_taken, type_word_at, name_at, name_taken, unit_taken, number_at, number_taken, logic_at, quoted_taken, symbol_at, symbol_taken, wide_at, written, maybe, separated}

-- expressions

bind : {d wanted own : ℕ} {P : Rule} {xs : List Piece} → Weighs d P xs → Weighs d (Binds wanted own P) xs
bind a = by (λ ts rest q. q.1) a

short : {d : ℕ} {P : Rule} {xs : List Piece} → Weighs d P xs → Weighs d (Short P) xs
short a = by (λ ts rest q. q.0) a

parenthesized : {P : Rule} {xs : List Piece} → (d : ℕ) → Weighs d P xs → Weighs d (Parenthesized P) (piece.bracketed xs)
parenthesized d a = both (symbol_taken d shape.Open s.LeftParen refl) (both (short a) (symbol_taken d shape.Close s.RightParen refl))

at_expression : (d n : ℕ) (e : tree.Expression) → Weighs d (DerivesAt n e) (printed.expression e)
at_expression d n (tree.number line v) = bind (number_at d line v)
at_expression d n (tree.time line v u) = bind (both (number_at d line v) (unit_taken d u))
at_expression d n (tree.logic line ds) = bind (logic_at d line ds)
at_expression d n (tree.truth line b) = bind (word_at d line (truth_word b))
at_expression d n (tree.now line) = bind (word_at d line w.Now)
at_expression d n (tree.myself line) = bind (word_at d line w.SelfProcess)
at_expression d n (tree.constant line c) = bind (word_at d line (constant_word c))
at_expression d n (tree.paren line e) = bind (both (symbol_at d line shape.Open s.LeftParen refl) (both (short (at_expression d 0 e)) (symbol_taken d shape.Close s.RightParen refl)))
at_expression d n (tree.convert line c e) = bind (both (type_word_at d line (conversion_word c)) (parenthesized d (at_expression d 0 e)))
at_expression d n (tree.to_vector line width e) =
    bind (by (λ ts rest (m1, a, (m2, b, (m3, c, (m4, g, f)))). (m4, (m1, a, (m2, b, (m3, c, g))), f)) (both (wide_at d line w.Lv width) (parenthesized d (at_expression d 0 e))))
at_expression d n (tree.concat line upper lower) =
    bind
    (both (type_word_at d line w.Concat)
    (both (symbol_taken d shape.Open s.LeftParen refl)
    (moved (sym (append_assoc (printed.expression upper) (piece.comma ∷ printed.expression lower) (piece.closing s.RightParen ∷ [])))
    (both (short (at_expression d 0 upper))
    (both (symbol_taken d shape.Comma s.Comma refl)
    (both (short (at_expression d 0 lower)) (symbol_taken d shape.Close s.RightParen refl)))))))
at_expression d n (tree.named line x) = name_at d line x
at_expression d n (tree.placed line x at) = both (name_at d line x) (both (symbol_taken d shape.Joint s.At refl) (number_taken d at))
at_expression d n (tree.placed_by line x e) = both (name_at d line x) (both (symbol_taken d shape.Joint s.At refl) (parenthesized d (at_expression d 0 e)))
at_expression d n (tree.member e x) = both (at_expression d chain_level e) (both (symbol_taken d shape.Joint s.Dot refl) (name_taken d x))
at_expression d n (tree.element e index) =
    moved (sym (append_assoc (printed.expression e) (piece.opening s.LeftBracket ∷ printed.expression index) (piece.closing s.RightBracket ∷ [])))
    (both (at_expression d chain_level e)
    (both (symbol_taken d shape.Open s.LeftBracket refl)
    (both (short (at_expression d 0 index)) (symbol_taken d shape.Close s.RightBracket refl))))
at_expression d n (tree.slice e high low) =
    both (at_expression d chain_level e)
    (both (symbol_taken d shape.Open s.LeftBracket refl)
    (both (number_taken d high) (both (symbol_taken d shape.Operator s.Colon refl) (both (number_taken d low) (symbol_taken d shape.Close s.RightBracket refl)))))
at_expression d n (tree.unary line o e) = bind (both (symbol_at d line shape.Prefix (unary_symbol o) refl) (at_expression d primary_level e))
at_expression d n (tree.binary o left right) = bind (both (at_expression d (level o) left) (both (symbol_taken d shape.Operator (binary_symbol o) refl) (at_expression d (suc (level o)) right)))

expression : (d : ℕ) (e : tree.Expression) → Weighs d (DerivesExpression e) (printed.expression e)
expression d e = short (at_expression d 0 e)

optional : (d : ℕ) (o : Option tree.Expression) → Weighs d (Maybe DerivesExpression o) (piece.maybe printed.expression o)
optional d o = maybe d DerivesExpression printed.expression (expression d) o

-- types

type_form : (d line : ℕ) (t : TypeForm) → Weighs d (DerivesForm line t) (leaf.type_form t ∷ [])
type_form d line form.Bool = type_word_at d line w.Bool
type_form d line form.Logic = type_word_at d line w.Logic
type_form d line (form.Int width) = wide_at d line w.Int width
type_form d line (form.Uint width) = wide_at d line w.Uint width
type_form d line (form.Vector width) = wide_at d line w.Lv width

typed_at : (d line : ℕ) (t : VarType) → Weighs d (DerivesVarTypeAt line t) (leaf.var_type t ∷ [])
typed_at d line (var_type.Plain t) = by (λ ts rest q. q.1) (type_form d t.line t.form)
typed_at d line var_type.Time = type_word_at d line w.Time
typed_at d line var_type.Process = type_word_at d line w.Process
typed_at d line var_type.Payload = type_word_at d line w.Payload

typed : (d : ℕ) (t : VarType) → Weighs d (DerivesVarType t) (leaf.var_type t ∷ [])
typed d t = record { weighs = λ ts rest q h. (typed_at d q.0 t).weighs ts rest q.1 h }

-- channels and events

place : (d : ℕ) (p : tree.Place) → Weighs d (DerivesPlace p) (printed.place p)
place d tree.first = nothing d
place d (tree.place_number n) = both (symbol_taken d shape.Joint s.At refl) (number_taken d n)
place d (tree.computed e) = both (symbol_taken d shape.Joint s.At refl) (parenthesized d (at_expression d 0 e))

channel : (d : ℕ) (c : tree.Channel) → Weighs d (DerivesChannel c) (printed.channel c)
channel d c = both (name_at d c.line c.name) (place d c.place)

member : (d : ℕ) (x : Option (List ℕ)) → Weighs d (Maybe DerivesMember x) (leaf.member x)
member d x = maybe d DerivesMember (λ y. piece.joint s.Dot ∷ piece.name y ∷ []) (λ y. both (symbol_taken d shape.Joint s.Dot refl) (name_taken d y)) x

event : (d : ℕ) (e : tree.Event) → Weighs d (DerivesEvent e) (printed.event e)
event d e = both (channel d e.channel) (member d e.member)

sensitive : (d : ℕ) (es : List tree.Event) → Weighs d (DerivesSensitive es) (printed.sensitive es)
sensitive d [] = nothing d
sensitive d (e ∷ es) = both (word_taken d w.Sensitive) (separated d DerivesEvent printed.event (event d) (e ∷ es))

arguments : (d : ℕ) (es : List tree.Expression) → Weighs d (DerivesArguments es) (printed.arguments es)
arguments d [] = both (symbol_taken d shape.Open s.LeftParen refl) (symbol_taken d shape.Close s.RightParen refl)
arguments d (e ∷ es) =
    both (symbol_taken d shape.Open s.LeftParen refl) (both (separated d DerivesExpression printed.expression (expression d) (e ∷ es)) (symbol_taken d shape.Close s.RightParen refl))

span : (d : ℕ) (e : tree.Expression) → Weighs d (DerivesSpan e) (piece.word w.For ∷ printed.expression e)
span d e = both (word_taken d w.For) (expression d e)

time_out : (d : ℕ) (o : Option tree.Expression) → Weighs d (Maybe DerivesSpan o) (printed.time_out o)
time_out d o = maybe d DerivesSpan (λ e. piece.word w.For ∷ printed.expression e) (span d) o

waiting : (d : ℕ) (x : tree.Waiting) → Weighs d (DerivesWaiting x) (printed.waiting x)
waiting d tree.static = nothing d
waiting d tree.delta = word_taken d w.Delta
waiting d (tree.for_ e) = span d e
waiting d (tree.one e t) = both (event d e) (time_out d t)
waiting d (tree.any es t) = both (word_taken d w.Any) (both (separated d DerivesEvent printed.event (event d) es) (time_out d t))
waiting d (tree.all es t) = both (word_taken d w.All) (both (separated d DerivesEvent printed.event (event d) es) (time_out d t))

notification : (d : ℕ) (x : tree.Notification) → Weighs d (DerivesNotification x) (printed.notification x)
notification d tree.immediate = nothing d
notification d tree.next_delta = word_taken d w.Delta
notification d (tree.after e) = both (word_taken d w.After) (expression d e)

-- statements

index : (d : ℕ) (o : Option tree.Expression) → Weighs d (Maybe DerivesIndex o) (printed.index o)
index d o =
    maybe d DerivesIndex (λ e. piece.opening s.LeftBracket ∷ printed.expression e ++ piece.closing s.RightBracket ∷ [])
    (λ e. both (symbol_taken d shape.Open s.LeftBracket refl) (both (expression d e) (symbol_taken d shape.Close s.RightBracket refl))) o

assigned : (d line : ℕ) (t : tree.Target) → Weighs d (DerivesTarget line t) (printed.target t)
assigned d line t = both (name_at d line t.name) (both (member d t.member) (index d t.index))

next_name : (d : ℕ) (x : List ℕ) → Weighs d (NextName x) (piece.comma ∷ piece.name x ∷ [])
next_name d x = both (symbol_taken d shape.Comma s.Comma refl) (name_taken d x)

next_expression : (d : ℕ) (e : tree.Expression) → Weighs d (NextExpression e) (piece.comma ∷ printed.expression e)
next_expression d e = both (symbol_taken d shape.Comma s.Comma refl) (expression d e)

operation : (d line : ℕ) (o : tree.Operation) → Weighs d (DerivesOperation line o) (printed.operation o)
operation d line (tree.call x es) = both (word_at d line w.Call) (both (name_taken d x) (arguments d es))
operation d line (tree.read c) = both (word_at d line w.Read) (channel d c)
operation d line (tree.nb_read c x) = both (word_at d line w.NbRead) (both (channel d c) (next_name d x))
operation d line (tree.nb_write c e) = both (word_at d line w.NbWrite) (both (channel d c) (next_expression d e))
operation d line (tree.trylock c) = both (word_at d line w.Trylock) (channel d c)
operation d line (tree.unlock c) = both (word_at d line w.Unlock) (channel d c)
operation d line (tree.sem_trywait c) = both (word_at d line w.SemTrywait) (channel d c)
operation d line (tree.nb_transport x p phase t) = both (word_at d line w.NbTransport) (both (name_taken d x) (both (next_name d p) (both (next_name d phase) (next_name d t))))

result : (d line at : ℕ) (x : Option (List ℕ)) → Weighs d (DerivesResult line x at) (printed.stored x)
result d line at None = by (λ ts rest q. q.1) (nothing d)
result d line at (Some x) = both (name_at d line x) (symbol_taken d shape.Operator s.Equal refl)

handle : (d : ℕ) (x : Option (List ℕ)) → Weighs d (Maybe DerivesHandle x) (printed.stored x)
handle d x = maybe d DerivesHandle (λ y. piece.name y ∷ piece.operator s.Equal ∷ []) (λ y. both (name_taken d y) (symbol_taken d shape.Operator s.Equal refl)) x

spawned : (d : ℕ) (x : tree.Spawn) → Weighs d (DerivesSpawn x) (printed.spawned x)
spawned d x =
    moved (five (printed.stored x.handle) (piece.flag w.Method x.method) (piece.name x.function ∷ printed.arguments x.arguments) (printed.sensitive x.sensitive) (piece.flag w.DontInitialize x.dont_initialize))
    (both (handle d x.handle)
    (both (written d w.Method x.method)
    (both (name_taken d x.function) (both (arguments d x.arguments) (both (sensitive d x.sensitive) (written d w.DontInitialize x.dont_initialize))))))

process_named : (d : ℕ) (x : Who) → Weighs d (DerivesWho x) (leaf.who x ∷ [])
process_named d (who.Named line x) = name_at d line x
process_named d (who.Myself line) = word_at d line w.SelfProcess

-- a word and a name
with_name : (d line : ℕ) (v : Word) (x : List ℕ) → Weighs d (At line (word v) ⨾ Takes (name x)) (printed.with_name v x)
with_name d line v x = both (word_at d line v) (name_taken d x)

part : (d : ℕ) (p : Part) → Weighs d (DerivesPart p) (printed.part p)
part d (made.name r x) = name_taken d x
part d (made.next_name r x) = next_name d x
part d (made.reaching_name r x all) = both (name_taken d x) (written d w.Descendants all)
part d (made.text x) = quoted_taken d x
part d (made.term u e) = expression d e
part d (made.term_if u e) = optional d e
part d (made.next_term u e) = next_expression d e
part d (made.next_term_if u e) = maybe d NextExpression (λ x. piece.comma ∷ printed.expression x) (next_expression d) e
part d (made.channel u c) = channel d c
part d (made.waiting t) = waiting d t
part d (made.notification t) = notification d t
part d (made.instance x) = spawned d x
part d (made.process p) = process_named d p
part d (made.reaching_process p all) = both (process_named d p) (written d w.Descendants all)

-- a part, and those behind it
parts : {P : Rule} (d : ℕ) (p : Part) (ps : List Part) → Weighs d P (printed.part p) → Weighs d (DerivesParts P ps) (made.behind printed.part (λ xs ys. xs ++ ys) [] p ps)
parts {P = P} d p [] a = a
parts {P = P} d p (q ∷ qs) a = both a (parts {P = DerivesPart q} d q qs (part d q))

-- a word, and parts behind it
worded : (d line : ℕ) (v : Word) (ps : List Part) → Weighs d (DerivesParts (At line (word v)) ps) (piece.word v ∷ made.joined printed.part (λ xs ys. xs ++ ys) [] ps)
worded d line v [] = word_at d line v
worded d line v (p ∷ ps) = both (word_at d line v) (parts d p ps (part d p))

action : (d line : ℕ) (a : tree.Action) → Weighs d (DerivesAction line a) (printed.action a)
action d line a = worded d line (word_of_action a) (parts_of a)

initial : (d : ℕ) (o : Option tree.Expression) → Weighs d (Maybe DerivesInitial o) (printed.initial o)
initial d o = maybe d DerivesInitial (λ e. piece.operator s.Equal ∷ printed.expression e) (λ e. both (symbol_taken d shape.Operator s.Equal refl) (expression d e)) o

-- the end of a statement or an item
end : (d : ℕ) → Weighs d (Takes (symbol s.Semicolon)) (piece.semicolon ∷ [])
end d = symbol_taken d shape.Semicolon s.Semicolon refl

has_one : {d : ℕ} {P : Rule} {xs : List Piece} → (hs : tree.Handlers) → Weighs d P xs → Weighs d (HasHandler hs P) xs
has_one tree.no_more a = record { weighs = λ ts rest no h. absurd no }
has_one (tree.handler x body more) a = a

split : (a b n : ℕ) → max a b ≤ n → (a ≤ n) × (b ≤ n)
split a b n h = (omega arith, omega arith)

mutual
  statement : (d : ℕ) (x : tree.Statement) → in_statement x ≤ d → Weighs d (DerivesStatement x) (printed.statement x)
  statement d (tree.var line t x e) h = both (word_at d line w.Var) (both (typed d t) (both (name_taken d x) (both (initial d e) (end d))))
  statement d (tree.assign line t e) h =
      moved (sym (append_assoc (printed.target t) (piece.operator s.Equal ∷ printed.expression e) (piece.semicolon ∷ [])))
      (both (assigned d line t) (both (symbol_taken d shape.Operator s.Equal refl) (both (expression d e) (end d))))
  statement d (tree.operate line x at o) h =
      moved (sym (append_assoc (printed.stored x) (printed.operation o) (piece.semicolon ∷ []))) (both (result d line at x) (both (operation d at o) (end d)))
  statement d (tree.act line a) h = both (action d line a) (end d)
  statement d (tree.if_ line e body other) h =
      let few = split (depth e) (max (suc (in_block body)) (in_else other)) d h in
      let inner = split (suc (in_block body)) (in_else other) d few.1 in
      both (word_at d line w.If)
      (moved (sym (append_assoc (printed.expression e) (piece.braced (printed.statements body)) (printed.else_ other)))
      (both (expression d e) (both (braced_in d (in_block body) inner.0 (λ m k. statements m body k)) (otherwise d other inner.1))))
  statement d (tree.while_ line e body) h =
      let few = split (depth e) (suc (in_block body)) d h in
      both (word_at d line w.While) (both (expression d e) (braced_in d (in_block body) few.1 (λ m k. statements m body k)))
  statement d (tree.guard line body undo) h =
      let few = split (suc (in_block body)) (suc (in_block undo)) d h in
      both (word_at d line w.Guard)
      (both (braced_in d (in_block body) few.0 (λ m k. statements m body k)) (both (word_taken d w.Unwind) (braced_in d (in_block undo) few.1 (λ m k. statements m undo k))))
  statement d (tree.try_ line body hs) h =
      let few = split (suc (in_block body)) (in_handlers hs) d h in
      both (word_at d line w.Try) (both (braced_in d (in_block body) few.0 (λ m k. statements m body k)) (has_one hs (handlers d hs few.1)))

  statements : (d : ℕ) (x : tree.Block) → in_block x ≤ d → Weighs d (DerivesStatements x) (printed.statements x)
  statements d tree.over h = nothing d
  statements d (tree.then x xs) h = let few = split (in_statement x) (in_block xs) d h in both (statement d x few.0) (statements d xs few.1)

  otherwise : (d : ℕ) (x : tree.Else) → in_else x ≤ d → Weighs d (DerivesElse x) (printed.else_ x)
  otherwise d tree.no_else h = nothing d
  otherwise d (tree.else_block body) h = both (word_taken d w.Else) (braced_in d (in_block body) h (λ m k. statements m body k))

  handlers : (d : ℕ) (x : tree.Handlers) → in_handlers x ≤ d → Weighs d (DerivesHandlers x) (printed.handlers x)
  handlers d tree.no_more h = nothing d
  handlers d (tree.handler x body more) h =
      let few = split (suc (in_block body)) (in_handlers more) d h in
      both (word_taken d w.Catch) (both (name_taken d x) (both (braced_in d (in_block body) few.0 (λ m k. statements m body k)) (handlers d more few.1)))

-- items

constant_form : (d line : ℕ) (f : ConstantForm) → Weighs d (DerivesConstantForm line f) (leaf.constant_form f)
constant_form d line (constant.Number n) = number_at d line n
constant_form d line (constant.Negative n) = both (symbol_at d line shape.Prefix s.Minus refl) (number_taken d n)
constant_form d line (constant.Time n u) = both (number_at d line n) (unit_taken d u)
constant_form d line (constant.Logic v) = logic_at d line (digits v)
constant_form d line (constant.Truth b) = word_at d line (truth_word b)

first_value : (d : ℕ) (o : Option Constant) → Weighs d (Maybe DerivesFirstValue o) (leaf.first_value o)
first_value d o = maybe d DerivesFirstValue (λ c. piece.operator s.Equal ∷ leaf.constant_form c.form) (λ c. both (symbol_taken d shape.Operator s.Equal refl) (constant_form d c.line c.form)) o

time : (d : ℕ) (t : Span) → Weighs d (DerivesTime t) (leaf.span t)
time d t = both (number_taken d t.count) (unit_taken d t.unit)

start : (d : ℕ) (o : Option Span) → Weighs d (Maybe DerivesStart o) (printed.start o)
start d o = maybe d DerivesStart (λ t. piece.word w.Start ∷ leaf.span t) (λ t. both (word_taken d w.Start) (time d t)) o

fifo_size : (d : ℕ) (o : Option ℕ) → Weighs d (Maybe DerivesFifoSize o) (printed.fifo_size o)
fifo_size d o = maybe d DerivesFifoSize (λ n. piece.word w.Size ∷ piece.number n ∷ []) (λ n. both (word_taken d w.Size) (number_taken d n)) o

leads : (d : ℕ) (First : Token → Rule) → ((x : Word) → Weighs d (First (word x)) (piece.word x ∷ [])) → (i : Interface) → Weighs d (DerivesInterface First i) (leaf.interface i)
leads d First f (interface.In t) = both (f w.In) (type_form d t.line t.form)
leads d First f (interface.Out t) = both (f w.Out) (type_form d t.line t.form)
leads d First f (interface.FifoIn t) = both (f w.FifoIn) (type_form d t.line t.form)
leads d First f (interface.FifoOut t) = both (f w.FifoOut) (type_form d t.line t.form)
leads d First f interface.Mutex = f w.MutexPort
leads d First f interface.Semaphore = f w.SemaphorePort

bound_rule : (d : ℕ) (r : BoundRule) → Weighs d (DerivesBound r) (leaf.bound_rule r)
bound_rule d bound.One = nothing d
bound_rule d bound.Zero = word_taken d w.Zero
bound_rule d bound.All = word_taken d w.AllBound

port_size : (d : ℕ) (p : PortSize) → Weighs d (DerivesPortSize p) (leaf.port_size p)
port_size d p = both (symbol_taken d shape.Open s.LeftBracket refl) (both (number_taken d p.count) (both (bound_rule d p.rule) (symbol_taken d shape.Close s.RightBracket refl)))

own_handler : (d : ℕ) (v : Word) (o : Option (List ℕ)) → Weighs d (Maybe (DerivesHandler v) o) (printed.own_handler v o)
own_handler d v o = maybe d (DerivesHandler v) (printed.with_name v) (λ x. both (word_taken d v) (name_taken d x)) o

initiator_role : (d : ℕ) (r : InitiatorRole) → Weighs d (DerivesInitiatorRole r) (printed.initiator_role r)
initiator_role d initiator.Pass = word_taken d w.Pass
initiator_role d (initiator.Own bw) = own_handler d w.Bw bw

target_role : (d : ℕ) (r : TargetRole) → Weighs d (DerivesTargetRole r) (printed.target_role r)
target_role d target.Pass = word_taken d w.Pass
target_role d (target.Own bt fw) = both (own_handler d w.Bt bt) (own_handler d w.Fw fw)

binding_end : (d : ℕ) (e : End) → Weighs d (DerivesEnd e) (leaf.binding_end e)
binding_end d e = both (name_at d e.line e.name) (member d e.member)

mode : (d : ℕ) (b : Bool) (line : ℕ) (t : VarType) → Weighs d (DerivesMode b line t) (piece.flag w.Inout b ++ leaf.var_type t ∷ [])
mode d true line t = both (word_at d line w.Inout) (typed d t)
mode d false line t = typed_at d line t

parameter : (d : ℕ) (p : Parameter) → Weighs d (DerivesParameter p) (leaf.parameter p)
parameter d p = moved (append_assoc (piece.flag w.Inout p.inout) (leaf.var_type p.var_type ∷ []) (piece.name p.name ∷ [])) (both (mode d p.inout p.line p.var_type) (name_taken d p.name))

parameters : (d : ℕ) (ps : List Parameter) → Weighs d (DerivesParameters ps) (piece.bracketed (piece.separated leaf.parameter ps))
parameters d [] = both (symbol_taken d shape.Open s.LeftParen refl) (symbol_taken d shape.Close s.RightParen refl)
parameters d (p ∷ ps) =
    both (symbol_taken d shape.Open s.LeftParen refl) (both (separated d DerivesParameter leaf.parameter (parameter d) (p ∷ ps)) (symbol_taken d shape.Close s.RightParen refl))

answer : (d : ℕ) (o : Option VarType) → Weighs d (Maybe DerivesAnswer o) (printed.answer o)
answer d o = maybe d DerivesAnswer (λ t. piece.operator s.Arrow ∷ leaf.var_type t ∷ []) (λ t. both (symbol_taken d shape.Operator s.Arrow refl) (typed d t)) o

item : (d : ℕ) (i : tree.Item) → in_item i ≤ d → Weighs d (DerivesItem i) (printed.item i)
item d (tree.signal line x) h =
    both (word_at d line (signal_word x.kind))
    (moved (sym (append_assoc (piece.flag w.Many x.many) (leaf.type_form x.value_type.form ∷ piece.name x.name ∷ leaf.first_value x.initial) (piece.semicolon ∷ [])))
    (both (written d w.Many x.many) (both (type_form d x.value_type.line x.value_type.form) (both (name_taken d x.name) (both (first_value d x.initial) (end d))))))
item d (tree.resolved line x) h = both (word_at d line w.Resolved) (both (name_taken d x) (end d))
item d (tree.clock line c) h =
    both (word_at d line w.Clock)
    (both (name_taken d c.name) (both (word_taken d w.Period) (both (time d c.period) (both (word_taken d w.High) (both (time d c.high) (both (start d c.start) (end d)))))))
item d (tree.fifo line t x size) h = both (word_at d line w.Fifo) (both (type_form d t.line t.form) (both (name_taken d x) (both (fifo_size d size) (end d))))
item d (tree.plain line kind x) h = both (word_at d line (plain_word kind)) (both (name_taken d x) (end d))
item d (tree.semaphore line x c) h = both (word_at d line w.Semaphore) (both (name_taken d x) (both (constant_form d c.line c.form) (end d)))
item d (tree.memory line x size) h =
    both (word_at d line w.Memory)
    (both (name_taken d x) (both (symbol_taken d shape.Open s.LeftBracket refl) (both (number_taken d size) (both (symbol_taken d shape.Close s.RightBracket refl) (end d)))))
item d (tree.variable line t x c) h = both (word_at d line w.Var) (both (typed d t) (both (name_taken d x) (both (first_value d c) (end d))))
item d (tree.port line i x size) h =
    moved (sym (append_assoc (leaf.interface i) (piece.name x ∷ piece.maybe leaf.port_size size) (piece.semicolon ∷ [])))
    (both (leads d (At line) (word_at d line) i) (both (name_taken d x) (both (maybe d DerivesPortSize leaf.port_size (port_size d) size) (end d))))
item d (tree.export line i x) h = both (word_at d line w.Export) (both (leads d Takes (word_taken d) i) (both (name_taken d x) (end d)))
item d (tree.initiator line x role) h = both (word_at d line w.Initiator) (both (name_taken d x) (both (initiator_role d role) (end d)))
item d (tree.target line x role) h = both (word_at d line w.Target) (both (name_taken d x) (both (target_role d role) (end d)))
item d (tree.instance line kind x) h = both (word_at d line w.Inst) (both (name_taken d kind) (both (name_taken d x) (end d)))
item d (tree.bind line left right) h =
    both (word_at d line w.Bind)
    (moved (sym (append_assoc (leaf.binding_end left) (piece.word w.To ∷ leaf.binding_end right) (piece.semicolon ∷ [])))
    (both (binding_end d left) (both (word_taken d w.To) (both (binding_end d right) (end d)))))
item d (tree.function line f) h =
    both (word_at d line w.Func)
    (both (name_taken d f.name)
    (moved (sym (append_assoc (piece.bracketed (piece.separated leaf.parameter f.parameters)) (printed.answer f.answer) (piece.braced (printed.statements f.body))))
    (both (parameters d f.parameters) (both (answer d f.answer) (braced_in d (in_block f.body) h (λ m k. statements m f.body k))))))
item d (tree.process line p) h =
    let few = split (in_events p.sensitive) (suc (in_block p.body)) d h in
    both (word_at d line (process_word p.kind))
    (both (name_taken d p.name)
    (moved (sym (append_assoc (printed.sensitive p.sensitive) (piece.flag w.DontInitialize p.dont_initialize) (piece.braced (printed.statements p.body))))
    (both (sensitive d p.sensitive) (both (written d w.DontInitialize p.dont_initialize) (braced_in d (in_block p.body) few.1 (λ m k. statements m p.body k))))))

items : (d : ℕ) (xs : List tree.Item) → in_items xs ≤ d → Weighs d (Each DerivesItem xs) (piece.each printed.item xs)
items d [] h = nothing d
items d (x ∷ xs) h = let few = split (in_item x) (in_items xs) d h in both (item d x few.0) (items d xs few.1)

-- modules

modules : (d : ℕ) (ms : List tree.Module) → in_modules ms ≤ d → Weighs d (Each DerivesModule ms) (piece.each printed.module_ ms)
modules d [] h = nothing d
modules d (m ∷ ms) h =
    let few = split (suc (in_items m.items)) (in_modules ms) d h in
    both (both (word_at d m.line w.Module) (both (name_taken d m.name) (braced_in d (in_items m.items) few.0 (λ n k. items n m.items k)))) (modules d ms few.1)

top : (d : ℕ) (t : Top) → Weighs d (DerivesTop t) (printed.top t)
top d t = both (word_at d t.line w.Top) (both (name_taken d t.module) (both (name_taken d t.name) (end d)))

model : (m : tree.Model) → Weighs (brackets m) (DerivesModel m) (printed.model m)
model m = let all : in_modules m.modules ≤ in_modules m.modules = omega arith in both (modules (brackets m) m.modules all) (top (brackets m) m.top)

-- what a text says of its language

resolution : (d : ℕ) (r : ResolutionLine) → Weighs d (DerivesResolution r) (printed.resolution r)
resolution d r = both (word_at d r.line w.Resolution) (both (time d r.span) (end d))

first_lines : (d : ℕ) (h : Head) → Weighs d (DerivesHead h) (printed.first_lines h)
first_lines d head.First = nothing d
first_lines d (head.Second r) = both (word_taken d w.Language) (both (number_taken d 2) (both (end d) (maybe d DerivesResolution printed.resolution (resolution d) r)))

-- a whole text
pub whole : (x : tree.Source) → Weighs (brackets x.model) (DerivesSource x) (printed.printed x)
whole x = both (first_lines (brackets x.model) x.head) (model x.model)
