-- That what is derived leaves fewer tokens than it is given, or no more.
use Rattle.std.proofs.Common.{ℕ, ◌<◌, ◌≤◌, Bool, true, false, List, [], ◌∷◌, length, Option, Some, None, arith}
use Rattle.model_tree.specs.declared.vocabulary.Word.TheVariants as w
use Rattle.model_tree.specs.declared.vocabulary.Symbol.TheVariants as s
use Rattle.model_tree.specs.declared.types.TypeForm.{TypeForm}
use Rattle.model_tree.specs.declared.types.TypeForm.TheVariants as form
use Rattle.model_tree.specs.declared.types.VarType.{VarType}
use Rattle.model_tree.specs.declared.types.VarType.TheVariants as var_type
use Rattle.model_tree.specs.declared.vocabulary.Word.{Word}
use Rattle.model_tree.specs.declared.types.Constant.{Constant}
use Rattle.model_tree.specs.declared.types.ConstantForm.{ConstantForm}
use Rattle.model_tree.specs.declared.types.ConstantForm.TheVariants as constant
use Rattle.model_tree.specs.declared.types.Span.{Span}
use Rattle.model_tree.specs.declared.types.Interface.{Interface}
use Rattle.model_tree.specs.declared.types.Interface.TheVariants as interface
use Rattle.model_tree.specs.declared.types.BoundRule.{BoundRule}
use Rattle.model_tree.specs.declared.types.BoundRule.TheVariants as bound
use Rattle.model_tree.specs.declared.types.PortSize.{PortSize}
use Rattle.model_tree.specs.declared.types.Parameter.{Parameter}
use Rattle.model_tree.specs.declared.types.End.{End}
use Rattle.model_tree.specs.declared.items.InitiatorRole.{InitiatorRole}
use Rattle.model_tree.specs.declared.items.InitiatorRole.TheVariants as initiator
use Rattle.model_tree.specs.declared.items.TargetRole.{TargetRole}
use Rattle.model_tree.specs.declared.items.TargetRole.TheVariants as target
use Rattle.model_tree.specs.declared.statements.Who.{Who}
use Rattle.model_tree.specs.declared.statements.Who.TheVariants as who
use Rattle.model_tree.specs.Tree as tree
use Rattle.model_tree.specs.Parts as part
use Rattle.model_tree.specs.Parts.{Part, parts_of}
use Rattle.model_lexer.specs.Tokens as t
use Rattle.model_lexer.specs.Tokens.{Tokens}
use Rattle.model_lexer.specs.Rules.{Rule, ◌⨾◌, At, Takes, Nothing, Each, Separated, Maybe, Written}
use Rattle.model_lexer.specs.Expressions.{Short, Parenthesized, DerivesAt, DerivesExpression}
use Rattle.model_lexer.specs.Statements.{Width, DerivesForm, DerivesVarType, DerivesVarTypeAt, DerivesPlace, DerivesChannel, DerivesMember, DerivesEvent, DerivesSensitive, DerivesArguments, DerivesIndex, DerivesTarget, NextName, NextExpression, DerivesOperation, DerivesResult, DerivesSpan, DerivesWaiting, DerivesNotification, DerivesHandle, DerivesSpawn, DerivesWho, DerivesPart, DerivesParts, DerivesAction, Braced, DerivesInitial, DerivesStatement, DerivesStatements, DerivesElse, DerivesHandlers, DerivesBlock}
use Rattle.model_lexer.specs.Items.{DerivesConstantForm, DerivesFirstValue, DerivesTime, DerivesStart, DerivesFifoSize, DerivesInterface, DerivesBound, DerivesPortSize, DerivesHandler, DerivesInitiatorRole, DerivesTargetRole, DerivesEnd, DerivesMode, DerivesParameter, DerivesParameters, DerivesAnswer, DerivesItem, DerivesModule}
use Rattle.model_lexer.proofs.SoundExpressions.{counted}

-- that a rule leaves no more tokens than it is given, and that it takes one at least
pub record Shrinks (P : Rule) : Type 0 where
  pub leaves : (ts rest : Tokens) → P ts rest → length rest ≤ length ts

pub record Shortens (P : Rule) : Type 0 where
  pub leaves : (ts rest : Tokens) → P ts rest → length rest < length ts

pub at_shortens : (line : ℕ) (x : t.Token) → Shortens (At line x)
at_shortens line x = record { leaves = λ ts rest h. rw h (omega arith) }

pub takes_shortens : (x : t.Token) → Shortens (Takes x)
takes_shortens x = record { leaves = λ ts rest h. (at_shortens h.0 x).leaves ts rest h.1 }

pub shrinks : {P : Rule} → Shortens P → Shrinks P
shrinks p = record { leaves = λ ts rest h. let less = p.leaves ts rest h in omega arith }

pub nothing_shrinks : Shrinks Nothing
nothing_shrinks = record { leaves = λ ts rest h. rw h (omega arith) }

pub both_shrink : {P Q : Rule} → Shrinks P → Shrinks Q → Shrinks (P ⨾ Q)
both_shrink p q = record { leaves = λ ts rest h. let one = p.leaves ts h.0 h.1 in let two = q.leaves h.0 rest h.2 in omega arith }

-- one token, and then more
pub first : {P Q : Rule} → Shortens P → Shrinks Q → Shortens (P ⨾ Q)
first p q = record { leaves = λ ts rest h. let one = p.leaves ts h.0 h.1 in let two = q.leaves h.0 rest h.2 in omega arith }

pub at : {Q : Rule} {line : ℕ} {x : t.Token} → Shrinks Q → Shortens (At line x ⨾ Q)
at q = first (at_shortens _ _) q

pub takes : {Q : Rule} {x : t.Token} → Shrinks Q → Shrinks (Takes x ⨾ Q)
takes q = shrinks (first (takes_shortens _) q)

pub last : {x : t.Token} → Shrinks (Takes x)
last = shrinks (takes_shortens _)

pub each_shrinks : {A : Type 0} (R : A → Rule) → ((x : A) → Shrinks (R x)) → (xs : List A) → Shrinks (Each R xs)
each_shrinks R one [] = nothing_shrinks
each_shrinks R one (x ∷ xs) = both_shrink (one x) (each_shrinks R one xs)

pub separated_shrinks : {A : Type 0} (between : t.Token) (R : A → Rule) → ((x : A) → Shrinks (R x)) → (xs : List A) → Shrinks (Separated between R xs)
separated_shrinks between R one [] = record { leaves = λ ts rest h. absurd h }
separated_shrinks between R one (x ∷ xs) = both_shrink (one x) (each_shrinks (λ y. Takes between ⨾ R y) (λ y. takes (one y)) xs)

pub maybe_shrinks : {A : Type 0} (R : A → Rule) → ((x : A) → Shrinks (R x)) → (o : Option A) → Shrinks (Maybe R o)
maybe_shrinks R one None = nothing_shrinks
maybe_shrinks R one (Some x) = one x

pub written_shrinks : (x : t.Token) (b : Bool) → Shrinks (Written x b)
written_shrinks x true = last
written_shrinks x false = nothing_shrinks

-- expressions

pub short_shrinks : (e : tree.Expression) → Shrinks (Short (DerivesAt 0 e))
short_shrinks e = record { leaves = λ ts rest h. let same = counted e 0 ts rest h.0 in omega arith }

pub expression_shrinks : (e : tree.Expression) → Shrinks (DerivesExpression e)
expression_shrinks e = short_shrinks e

pub parenthesized_shrinks : (e : tree.Expression) → Shrinks (Parenthesized (DerivesAt 0 e))
parenthesized_shrinks e = takes (both_shrink (short_shrinks e) last)

pub value_shrinks : (o : Option tree.Expression) → Shrinks (Maybe DerivesExpression o)
value_shrinks o = maybe_shrinks DerivesExpression expression_shrinks o

-- types

pub width_shrinks : (n : ℕ) → Shrinks (Width n)
width_shrinks n = takes (takes last)

pub form_shrinks : (line : ℕ) (f : TypeForm) → Shrinks (DerivesForm line f)
form_shrinks line form.Bool = shrinks (at_shortens _ _)
form_shrinks line form.Logic = shrinks (at_shortens _ _)
form_shrinks line (form.Int n) = shrinks (at (width_shrinks n))
form_shrinks line (form.Uint n) = shrinks (at (width_shrinks n))
form_shrinks line (form.Vector n) = shrinks (at (width_shrinks n))

pub type_shrinks : (line : ℕ) (v : VarType) → Shrinks (DerivesVarTypeAt line v)
type_shrinks line (var_type.Plain x) = record { leaves = λ ts rest h. (form_shrinks x.line x.form).leaves ts rest h.1 }
type_shrinks line var_type.Time = shrinks (at_shortens _ _)
type_shrinks line var_type.Process = shrinks (at_shortens _ _)
type_shrinks line var_type.Payload = shrinks (at_shortens _ _)

pub var_type_shrinks : (v : VarType) → Shrinks (DerivesVarType v)
var_type_shrinks v = record { leaves = λ ts rest h. (type_shrinks h.0 v).leaves ts rest h.1 }

-- channels, events and arguments

pub place_shrinks : (p : tree.Place) → Shrinks (DerivesPlace p)
place_shrinks tree.first = nothing_shrinks
place_shrinks (tree.place_number n) = takes last
place_shrinks (tree.computed e) = takes (parenthesized_shrinks e)

pub channel_shrinks : (c : tree.Channel) → Shrinks (DerivesChannel c)
channel_shrinks c = shrinks (at (place_shrinks c.place))

pub member_shrinks : (x : List ℕ) → Shrinks (DerivesMember x)
member_shrinks x = takes last

pub event_shrinks : (e : tree.Event) → Shrinks (DerivesEvent e)
event_shrinks e = both_shrink (channel_shrinks e.channel) (maybe_shrinks DerivesMember member_shrinks e.member)

pub events_shrink : (es : List tree.Event) → Shrinks (Separated (t.symbol s.Comma) DerivesEvent es)
events_shrink es = separated_shrinks (t.symbol s.Comma) DerivesEvent event_shrinks es

pub sensitive_shrinks : (es : List tree.Event) → Shrinks (DerivesSensitive es)
sensitive_shrinks [] = nothing_shrinks
sensitive_shrinks (e ∷ es) = takes (events_shrink (e ∷ es))

pub arguments_shrink : (es : List tree.Expression) → Shrinks (DerivesArguments es)
arguments_shrink [] = takes last
arguments_shrink (e ∷ es) = takes (both_shrink (separated_shrinks (t.symbol s.Comma) DerivesExpression expression_shrinks (e ∷ es)) last)

pub index_shrinks : (e : tree.Expression) → Shrinks (DerivesIndex e)
index_shrinks e = takes (both_shrink (expression_shrinks e) last)

pub target_shortens : (line : ℕ) (x : tree.Target) → Shortens (DerivesTarget line x)
target_shortens line x = at (both_shrink (maybe_shrinks DerivesMember member_shrinks x.member) (maybe_shrinks DerivesIndex index_shrinks x.index))

-- operations

pub next_name_shrinks : (x : List ℕ) → Shrinks (NextName x)
next_name_shrinks x = takes last

pub next_expression_shrinks : (e : tree.Expression) → Shrinks (NextExpression e)
next_expression_shrinks e = takes (expression_shrinks e)

pub operation_shortens : (line : ℕ) (o : tree.Operation) → Shortens (DerivesOperation line o)
operation_shortens line (tree.call x es) = at (takes (arguments_shrink es))
operation_shortens line (tree.read c) = at (channel_shrinks c)
operation_shortens line (tree.nb_read c x) = at (both_shrink (channel_shrinks c) (next_name_shrinks x))
operation_shortens line (tree.nb_write c e) = at (both_shrink (channel_shrinks c) (next_expression_shrinks e))
operation_shortens line (tree.trylock c) = at (channel_shrinks c)
operation_shortens line (tree.unlock c) = at (channel_shrinks c)
operation_shortens line (tree.sem_trywait c) = at (channel_shrinks c)
operation_shortens line (tree.nb_transport x y z v) = at (takes (both_shrink (next_name_shrinks y) (both_shrink (next_name_shrinks z) (next_name_shrinks v))))

pub result_shrinks : (line : ℕ) (o : Option (List ℕ)) (place : ℕ) → Shrinks (DerivesResult line o place)
result_shrinks line None place = record { leaves = λ ts rest h. rw h.1 (omega arith) }
result_shrinks line (Some x) place = shrinks (at last)

-- actions

pub span_shrinks : (e : tree.Expression) → Shrinks (DerivesSpan e)
span_shrinks e = takes (expression_shrinks e)

pub spans_shrink : (o : Option tree.Expression) → Shrinks (Maybe DerivesSpan o)
spans_shrink o = maybe_shrinks DerivesSpan span_shrinks o

pub waiting_shrinks : (x : tree.Waiting) → Shrinks (DerivesWaiting x)
waiting_shrinks tree.static = nothing_shrinks
waiting_shrinks tree.delta = last
waiting_shrinks (tree.for_ e) = span_shrinks e
waiting_shrinks (tree.one e o) = both_shrink (event_shrinks e) (spans_shrink o)
waiting_shrinks (tree.any es o) = takes (both_shrink (events_shrink es) (spans_shrink o))
waiting_shrinks (tree.all es o) = takes (both_shrink (events_shrink es) (spans_shrink o))

pub notification_shrinks : (x : tree.Notification) → Shrinks (DerivesNotification x)
notification_shrinks tree.immediate = nothing_shrinks
notification_shrinks tree.next_delta = last
notification_shrinks (tree.after e) = takes (expression_shrinks e)

pub handle_shrinks : (x : List ℕ) → Shrinks (DerivesHandle x)
handle_shrinks x = takes last

pub spawn_shrinks : (x : tree.Spawn) → Shrinks (DerivesSpawn x)
spawn_shrinks x = both_shrink (maybe_shrinks DerivesHandle handle_shrinks x.handle) (both_shrink (written_shrinks _ x.method) (takes (both_shrink (arguments_shrink x.arguments) (both_shrink (sensitive_shrinks x.sensitive) (written_shrinks _ x.dont_initialize)))))

pub who_shrinks : (x : Who) → Shrinks (DerivesWho x)
who_shrinks (who.Named line x) = shrinks (at_shortens _ _)
who_shrinks (who.Myself line) = shrinks (at_shortens _ _)

part_shrinks : (p : Part) → Shrinks (DerivesPart p)
part_shrinks (part.name r x) = last
part_shrinks (part.next_name r x) = next_name_shrinks x
part_shrinks (part.reaching_name r x all) = takes (written_shrinks _ all)
part_shrinks (part.text x) = last
part_shrinks (part.term u e) = expression_shrinks e
part_shrinks (part.term_if u o) = value_shrinks o
part_shrinks (part.next_term u e) = next_expression_shrinks e
part_shrinks (part.next_term_if u o) = maybe_shrinks NextExpression next_expression_shrinks o
part_shrinks (part.channel u c) = channel_shrinks c
part_shrinks (part.waiting x) = waiting_shrinks x
part_shrinks (part.notification x) = notification_shrinks x
part_shrinks (part.instance x) = spawn_shrinks x
part_shrinks (part.process x) = who_shrinks x
part_shrinks (part.reaching_process x all) = both_shrink (who_shrinks x) (written_shrinks _ all)

parts_shrink : {P : Rule} → Shrinks P → (ps : List Part) → Shrinks (DerivesParts P ps)
parts_shrink {P = P} p [] = p
parts_shrink {P = P} p (q ∷ qs) = both_shrink p (parts_shrink {P = DerivesPart q} (part_shrinks q) qs)

parts_shorten : {P : Rule} → Shortens P → (ps : List Part) → Shortens (DerivesParts P ps)
parts_shorten p [] = p
parts_shorten p (q ∷ qs) = first p (parts_shrink (part_shrinks q) qs)

pub action_shortens : (line : ℕ) (a : tree.Action) → Shortens (DerivesAction line a)
action_shortens line a = parts_shorten (at_shortens _ _) (parts_of a)

-- statements

pub initial_shrinks : (o : Option tree.Expression) → Shrinks (Maybe DerivesInitial o)
initial_shrinks o = maybe_shrinks DerivesInitial (λ e. takes (expression_shrinks e)) o

pub braced_shrinks : {P : Rule} → Shrinks P → Shrinks (Braced P)
braced_shrinks p = takes (both_shrink p last)

pub operated_shortens : (line : ℕ) (o : Option (List ℕ)) (place : ℕ) (x : tree.Operation) → Shortens (DerivesStatement (tree.operate line o place x))
operated_shortens line o place x = record { leaves = λ ts rest h. let one = (result_shrinks line o place).leaves ts h.0 h.1 in let two = (operation_shortens place x).leaves h.0 h.2.0 h.2.1 in let three = (takes_shortens (t.symbol s.Semicolon)).leaves h.2.0 rest h.2.2 in omega arith }

mutual
  pub statement_shortens : (x : tree.Statement) → Shortens (DerivesStatement x)
  statement_shortens (tree.var line v x o) = at (both_shrink (var_type_shrinks v) (takes (both_shrink (initial_shrinks o) last)))
  statement_shortens (tree.assign line place e) = first (target_shortens line place) (takes (both_shrink (expression_shrinks e) last))
  statement_shortens (tree.operate line o place x) = operated_shortens line o place x
  statement_shortens (tree.act line a) = first (action_shortens line a) last
  statement_shortens (tree.if_ line e body other) = at (both_shrink (expression_shrinks e) (both_shrink (braced_shrinks (statements_shrink body)) (else_shrinks other)))
  statement_shortens (tree.while_ line e body) = at (both_shrink (expression_shrinks e) (braced_shrinks (statements_shrink body)))
  statement_shortens (tree.guard line body undo) = at (both_shrink (braced_shrinks (statements_shrink body)) (takes (braced_shrinks (statements_shrink undo))))
  statement_shortens (tree.try_ line body tree.no_more) = record { leaves = λ ts rest h. absurd h.2.2 }
  statement_shortens (tree.try_ line body (tree.handler x caught more)) = at (both_shrink (braced_shrinks (statements_shrink body)) (takes (takes (both_shrink (braced_shrinks (statements_shrink caught)) (handlers_shrink more)))))

  pub statements_shrink : (xs : tree.Block) → Shrinks (DerivesStatements xs)
  statements_shrink tree.over = nothing_shrinks
  statements_shrink (tree.then x xs) = both_shrink (shrinks (statement_shortens x)) (statements_shrink xs)

  pub else_shrinks : (o : tree.Else) → Shrinks (DerivesElse o)
  else_shrinks tree.no_else = nothing_shrinks
  else_shrinks (tree.else_block body) = takes (braced_shrinks (statements_shrink body))

  pub handlers_shrink : (hs : tree.Handlers) → Shrinks (DerivesHandlers hs)
  handlers_shrink tree.no_more = nothing_shrinks
  handlers_shrink (tree.handler x body more) = takes (takes (both_shrink (braced_shrinks (statements_shrink body)) (handlers_shrink more)))

pub handler_shortens : (x : List ℕ) (body : tree.Block) (ts rest : Tokens) → (Takes (t.word w.Catch) ⨾ Takes (t.name x) ⨾ Braced (DerivesStatements body)) ts rest → length rest < length ts
handler_shortens x body ts rest h = (first (takes_shortens (t.word w.Catch)) (takes (braced_shrinks (statements_shrink body)))).leaves ts rest h

-- items, modules and whole texts

constant_shrinks : (line : ℕ) (f : ConstantForm) → Shrinks (DerivesConstantForm line f)
constant_shrinks line (constant.Number n) = shrinks (at_shortens _ _)
constant_shrinks line (constant.Negative n) = shrinks (at last)
constant_shrinks line (constant.Time n u) = shrinks (at last)
constant_shrinks line (constant.Logic v) = shrinks (at_shortens _ _)
constant_shrinks line (constant.Truth b) = shrinks (at_shortens _ _)

first_value_shrinks : (o : Option Constant) → Shrinks (Maybe DerivesFirstValue o)
first_value_shrinks o = maybe_shrinks DerivesFirstValue (λ c. takes (constant_shrinks c.line c.form)) o

time_shrinks : (x : Span) → Shrinks (DerivesTime x)
time_shrinks x = takes last

interface_shortens : (line : ℕ) (i : Interface) → Shortens (DerivesInterface (At line) i)
interface_shortens line (interface.In x) = at (form_shrinks x.line x.form)
interface_shortens line (interface.Out x) = at (form_shrinks x.line x.form)
interface_shortens line (interface.FifoIn x) = at (form_shrinks x.line x.form)
interface_shortens line (interface.FifoOut x) = at (form_shrinks x.line x.form)
interface_shortens line interface.Mutex = at_shortens _ _
interface_shortens line interface.Semaphore = at_shortens _ _

interface_shrinks : (i : Interface) → Shrinks (DerivesInterface Takes i)
interface_shrinks (interface.In x) = takes (form_shrinks x.line x.form)
interface_shrinks (interface.Out x) = takes (form_shrinks x.line x.form)
interface_shrinks (interface.FifoIn x) = takes (form_shrinks x.line x.form)
interface_shrinks (interface.FifoOut x) = takes (form_shrinks x.line x.form)
interface_shrinks interface.Mutex = last
interface_shrinks interface.Semaphore = last

bound_shrinks : (r : BoundRule) → Shrinks (DerivesBound r)
bound_shrinks bound.One = nothing_shrinks
bound_shrinks bound.Zero = last
bound_shrinks bound.All = last

port_size_shrinks : (o : Option PortSize) → Shrinks (Maybe DerivesPortSize o)
port_size_shrinks o = maybe_shrinks DerivesPortSize (λ p. takes (takes (both_shrink (bound_shrinks p.rule) last))) o

handler_word_shrinks : (v : Word) (o : Option (List ℕ)) → Shrinks (Maybe (DerivesHandler v) o)
handler_word_shrinks v o = maybe_shrinks (DerivesHandler v) (λ x. takes last) o

initiator_shrinks : (r : InitiatorRole) → Shrinks (DerivesInitiatorRole r)
initiator_shrinks initiator.Pass = last
initiator_shrinks (initiator.Own o) = handler_word_shrinks w.Bw o

target_role_shrinks : (r : TargetRole) → Shrinks (DerivesTargetRole r)
target_role_shrinks target.Pass = last
target_role_shrinks (target.Own o p) = both_shrink (handler_word_shrinks w.Bt o) (handler_word_shrinks w.Fw p)

end_shrinks : (e : End) → Shrinks (DerivesEnd e)
end_shrinks e = shrinks (at (maybe_shrinks DerivesMember member_shrinks e.member))

mode_shrinks : (inout : Bool) (line : ℕ) (v : VarType) → Shrinks (DerivesMode inout line v)
mode_shrinks true line v = shrinks (at (var_type_shrinks v))
mode_shrinks false line v = type_shrinks line v

pub parameter_shrinks : (p : Parameter) → Shrinks (DerivesParameter p)
parameter_shrinks p = both_shrink (mode_shrinks p.inout p.line p.var_type) last

parameters_shrink : (ps : List Parameter) → Shrinks (DerivesParameters ps)
parameters_shrink [] = takes last
parameters_shrink (p ∷ ps) = takes (both_shrink (separated_shrinks (t.symbol s.Comma) DerivesParameter parameter_shrinks (p ∷ ps)) last)

answer_shrinks : (o : Option VarType) → Shrinks (Maybe DerivesAnswer o)
answer_shrinks o = maybe_shrinks DerivesAnswer (λ v. takes (var_type_shrinks v)) o

block_shrinks : (b : tree.Block) → Shrinks (DerivesBlock b)
block_shrinks b = braced_shrinks (statements_shrink b)

pub item_shortens : (x : tree.Item) → Shortens (DerivesItem x)
item_shortens (tree.signal line i) = at (both_shrink (written_shrinks _ i.many) (both_shrink (form_shrinks i.value_type.line i.value_type.form) (takes (both_shrink (first_value_shrinks i.initial) last))))
item_shortens (tree.resolved line x) = at (takes last)
item_shortens (tree.clock line c) = at (takes (takes (both_shrink (time_shrinks c.period) (takes (both_shrink (time_shrinks c.high) (both_shrink (maybe_shrinks DerivesStart (λ x. takes (time_shrinks x)) c.start) last))))))
item_shortens (tree.fifo line x name size) = at (both_shrink (form_shrinks x.line x.form) (takes (both_shrink (maybe_shrinks DerivesFifoSize (λ n. takes last) size) last)))
item_shortens (tree.plain line k x) = at (takes last)
item_shortens (tree.semaphore line x c) = at (takes (both_shrink (constant_shrinks c.line c.form) last))
item_shortens (tree.memory line x size) = at (takes (takes (takes (takes last))))
item_shortens (tree.variable line v x c) = at (both_shrink (var_type_shrinks v) (takes (both_shrink (first_value_shrinks c) last)))
item_shortens (tree.port line i x size) = first (interface_shortens line i) (takes (both_shrink (port_size_shrinks size) last))
item_shortens (tree.export line i x) = at (both_shrink (interface_shrinks i) (takes last))
item_shortens (tree.initiator line x role) = at (takes (both_shrink (initiator_shrinks role) last))
item_shortens (tree.target line x role) = at (takes (both_shrink (target_role_shrinks role) last))
item_shortens (tree.instance line of x) = at (takes (takes last))
item_shortens (tree.bind line left right) = at (both_shrink (end_shrinks left) (takes (both_shrink (end_shrinks right) last)))
item_shortens (tree.function line f) = at (takes (both_shrink (parameters_shrink f.parameters) (both_shrink (answer_shrinks f.answer) (block_shrinks f.body))))
item_shortens (tree.process line p) = at (takes (both_shrink (sensitive_shrinks p.sensitive) (both_shrink (written_shrinks _ p.dont_initialize) (block_shrinks p.body))))

pub module_shortens : (m : tree.Module) → Shortens (DerivesModule m)
module_shortens m = at (takes (takes (both_shrink (each_shrinks DerivesItem (λ x. shrinks (item_shortens x)) m.items) last)))
