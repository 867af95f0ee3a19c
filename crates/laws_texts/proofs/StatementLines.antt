-- The lines of the constructs of statements never fall.
use Rattle.std.proofs.Common.{ℕ, Bool, true, false, List, [], ◌∷◌, ◌++◌, append_assoc, Option, Some, None, refl, sym, subst}
use Rattle.model_rules.specs.ModelTree.declared.vocabulary.Word.{Word}
use Rattle.model_rules.specs.ModelTree.declared.vocabulary.Word.TheVariants as w
use Rattle.model_rules.specs.ModelTree.declared.vocabulary.Symbol.TheVariants as mark
use Rattle.model_rules.specs.ModelTree.declared.types.TypeForm.{TypeForm}
use Rattle.model_rules.specs.ModelTree.declared.types.TypeForm.TheVariants as form
use Rattle.model_rules.specs.ModelTree.declared.types.SignalType.{SignalType}
use Rattle.model_rules.specs.ModelTree.declared.types.VarType.{VarType}
use Rattle.model_rules.specs.ModelTree.declared.types.VarType.TheVariants as var_type
use Rattle.model_rules.specs.ModelTree.declared.statements.Who.{Who}
use Rattle.model_rules.specs.ModelTree.declared.statements.Who.TheVariants as who
use Rattle.model_rules.specs.ModelTree.Tree as tree
use Rattle.model_tree.specs.Parts as made
use Rattle.model_rules.specs.declared.needs.Need.{Need}
use Rattle.model_rules.specs.declared.needs.Need.TheVariants as need_of
use Rattle.model_rules.specs.Scopes as scoped
use Rattle.model_rules.specs.Scopes.{Scope, locals_in_block, behind, in_unwind}
use Rattle.model_rules.specs.Sites.{Part, Site, site, of_type, of_operation, type_site, variable_type_sites, expression_sites, option_sites, argument_sites, place_sites, channel_sites, event_need, event_sites, events_sites, waiting_sites, notification_sites, who_sites, operation_parts, access_need, part_sites, action_parts, statement_sites, block_sites, else_sites, handler_sites}
use Rattle.model_lexer.specs.Tokens.{Tokens, word, symbol}
use Rattle.model_lexer.specs.Rules.{Rule, ◌⨾◌, At, Takes, Each, Separated, Maybe}
use Rattle.model_lexer.specs.Expressions.{DerivesExpression}
use Rattle.model_lexer.specs.Statements.{DerivesForm, DerivesType, DerivesVarTypeAt, DerivesVarType, DerivesPlace, DerivesChannel, DerivesMember, DerivesEvent, DerivesSensitive, DerivesArguments, DerivesIndex, NextName, NextExpression, DerivesOperation, DerivesSpan, DerivesWaiting, DerivesNotification, DerivesHandle, DerivesSpawn, DerivesWho, DerivesPart, DerivesParts, DerivesAction, DerivesInitial, HasHandler, DerivesStatement, DerivesStatements, DerivesElse, DerivesHandlers}
use Rattle.laws_texts.proofs.Along.{Along, nothing, last, last_at, past, trail, headed, alone, both, again, as_one, moved, on_line, any_line, parenthesized, braced, written, maybe}
use Rattle.laws_texts.proofs.ExpressionLines.{at_expression, expression, optional}

-- types

form_behind : (line : ℕ) (t : TypeForm) (s : Scope) (part : Part) → Along (DerivesForm line t) (site s line part ∷ [])
form_behind line form.Bool s part = alone
form_behind line form.Logic s part = alone
form_behind line (form.Int width) s part = headed (past (past last))
form_behind line (form.Uint width) s part = headed (past (past last))
form_behind line (form.Vector width) s part = headed (past (past last))

pub typed_as : (s : Scope) (t : SignalType) → Along (DerivesType t) (type_site s t)
typed_as s t = form_behind t.line t.form s (of_type t)

-- a type of variables on a line, and behind a construct that begins on it
typed_at : (line : ℕ) (s : Scope) (t : VarType) → Along (DerivesVarTypeAt line t) (variable_type_sites s t)
typed_at line s (var_type.Plain t) = on_line (typed_as s t)
typed_at line s var_type.Time = last_at
typed_at line s var_type.Process = last_at
typed_at line s var_type.Payload = last_at

pub typed_behind : (line : ℕ) (s : Scope) (part : Part) (t : VarType) → Along (DerivesVarTypeAt line t) (site s line part ∷ variable_type_sites s t)
typed_behind line s part (var_type.Plain t) = record { along = λ l ts rest q h. (again {s = s} {at = line} {part = part} (sym q.0) (typed_as s t)).along l ts rest q.1 h }
typed_behind line s part var_type.Time = alone
typed_behind line s part var_type.Process = alone
typed_behind line s part var_type.Payload = alone

pub typed : (s : Scope) (t : VarType) → Along (DerivesVarType t) (variable_type_sites s t)
typed s t = any_line (λ line. typed_at line s t)

-- channels and events

place : (s : Scope) (p : tree.Place) → Along (DerivesPlace p) (place_sites s p)
place s tree.first = nothing
place s (tree.place_number n) = past last
place s (tree.computed e) = past (parenthesized (at_expression 0 need_of.Readable s e))

channel : (s : Scope) (need : Need) (c : tree.Channel) → Along (DerivesChannel c) (channel_sites s need c)
channel s need c = headed (place s c.place)

pub member : (x : Option (List ℕ)) → Along (Maybe DerivesMember x) []
member x = maybe DerivesMember (λ y. past last) x

event : (s : Scope) (static : Bool) (e : tree.Event) → Along (DerivesEvent e) (event_sites s static e)
event s static e = again refl (trail (channel s (event_need static e.member) e.channel) (member e.member))

more_events : (s : Scope) (static : Bool) (es : List tree.Event) → Along (Each (λ y. Takes (symbol mark.Comma) ⨾ DerivesEvent y) es) (events_sites s static es)
more_events s static [] = nothing
more_events s static (e ∷ es) = both (past (event s static e)) (more_events s static es)

events : (s : Scope) (static : Bool) (es : List tree.Event) → Along (Separated (symbol mark.Comma) DerivesEvent es) (events_sites s static es)
events s static [] = record { along = λ line ts rest no h. absurd no }
events s static (e ∷ es) = both (event s static e) (more_events s static es)

pub sensitive : (s : Scope) (es : List tree.Event) → Along (DerivesSensitive es) (events_sites s true es)
sensitive s [] = nothing
sensitive s (e ∷ es) = past (events s true (e ∷ es))

more_arguments : (s : Scope) (es : List tree.Expression) → Along (Each (λ y. Takes (symbol mark.Comma) ⨾ DerivesExpression y) es) (argument_sites s es)
more_arguments s [] = nothing
more_arguments s (e ∷ es) = both (past (expression s e)) (more_arguments s es)

arguments : (s : Scope) (es : List tree.Expression) → Along (DerivesArguments es) (argument_sites s es)
arguments s [] = past last
arguments s (e ∷ es) = past (trail (both (expression s e) (more_arguments s es)) last)

span : (s : Scope) (e : tree.Expression) → Along (DerivesSpan e) (expression_sites s e)
span s e = past (expression s e)

time_out : (s : Scope) (o : Option tree.Expression) → Along (Maybe DerivesSpan o) (option_sites s o)
time_out s None = nothing
time_out s (Some e) = span s e

waiting : (s : Scope) (x : tree.Waiting) → Along (DerivesWaiting x) (waiting_sites s x)
waiting s tree.static = nothing
waiting s tree.delta = last
waiting s (tree.for_ e) = span s e
waiting s (tree.one e t) = both (event s false e) (time_out s t)
waiting s (tree.any es t) = past (both (events s false es) (time_out s t))
waiting s (tree.all es t) = past (both (events s false es) (time_out s t))

notification : (s : Scope) (x : tree.Notification) → Along (DerivesNotification x) (notification_sites s x)
notification s tree.immediate = nothing
notification s tree.next_delta = last
notification s (tree.after e) = past (expression s e)

-- statements

next_name : (x : List ℕ) → Along (NextName x) []
next_name x = past last

next_expression : (s : Scope) (e : tree.Expression) → Along (NextExpression e) (expression_sites s e)
next_expression s e = past (expression s e)

maybe_next : (s : Scope) (o : Option tree.Expression) → Along (Maybe NextExpression o) (option_sites s o)
maybe_next s None = nothing
maybe_next s (Some e) = next_expression s e

operation : (s : Scope) (line : ℕ) (part : Part) (o : tree.Operation) → Along (DerivesOperation line o) (site s line part ∷ operation_parts s o)
operation s line part (tree.call x es) = headed (past (arguments s es))
operation s line part (tree.read c) = headed (channel s need_of.Taken c)
operation s line part (tree.nb_read c x) = headed (trail (channel s need_of.Taken c) (next_name x))
operation s line part (tree.nb_write c e) = headed (both (channel s need_of.Put c) (next_expression s e))
operation s line part (tree.trylock c) = headed (channel s need_of.Mutex c)
operation s line part (tree.unlock c) = headed (channel s need_of.Mutex c)
operation s line part (tree.sem_trywait c) = headed (channel s need_of.Semaphore c)
operation s line part (tree.nb_transport x p phase t) = headed (past (trail (next_name p) (trail (next_name phase) (next_name t))))

handle : (x : Option (List ℕ)) → Along (Maybe DerivesHandle x) []
handle x = maybe DerivesHandle (λ y. past last) x

spawn : (s : Scope) (x : tree.Spawn) → Along (DerivesSpawn x) (argument_sites s x.arguments ++ events_sites s true x.sensitive)
spawn s x = both (handle x.handle) (both (written (word w.Method) x.method) (past (both (arguments s x.arguments) (trail (sensitive s x.sensitive) (written (word w.DontInitialize) x.dont_initialize)))))

named : (s : Scope) (x : Who) → Along (DerivesWho x) (who_sites s x)
named s (who.Named line x) = alone
named s (who.Myself line) = alone

part_along : (s : Scope) (p : made.Part) → Along (DerivesPart p) (part_sites s p)
part_along s (made.name r x) = last
part_along s (made.next_name r x) = next_name x
part_along s (made.reaching_name r x all) = past (written (word w.Descendants) all)
part_along s (made.text x) = last
part_along s (made.term u e) = expression s e
part_along s (made.term_if u e) = optional s e
part_along s (made.next_term u e) = next_expression s e
part_along s (made.next_term_if u e) = maybe_next s e
part_along s (made.channel u c) = channel s (access_need u) c
part_along s (made.waiting t) = waiting s t
part_along s (made.notification t) = notification s t
part_along s (made.instance x) = spawn s x
part_along s (made.process p) = named s p
part_along s (made.reaching_process p all) = trail (named s p) (written (word w.Descendants) all)

parts_along : {P : Rule} (s : Scope) (p : made.Part) (ps : List made.Part) → Along P (part_sites s p) → Along (DerivesParts P ps) (made.behind (part_sites s) (λ xs ys. xs ++ ys) [] p ps)
parts_along {P = P} s p [] a = a
parts_along {P = P} s p (q ∷ qs) a = both a (parts_along {P = DerivesPart q} s q qs (part_along s q))

all_along : (s : Scope) (line : ℕ) (part : Part) (v : Word) (ps : List made.Part) → Along (DerivesParts (At line (word v)) ps) (site s line part ∷ made.joined (part_sites s) (λ xs ys. xs ++ ys) [] ps)
all_along s line part v [] = alone
all_along s line part v (p ∷ ps) = headed (parts_along s p ps (part_along s p))

action : (s : Scope) (line : ℕ) (part : Part) (a : tree.Action) → Along (DerivesAction line a) (site s line part ∷ action_parts s a)
action s line part a = all_along s line part (made.word_of_action a) (made.parts_of a)

initial : (s : Scope) (o : Option tree.Expression) → Along (Maybe DerivesInitial o) (option_sites s o)
initial s None = nothing
initial s (Some e) = past (expression s e)

index : (s : Scope) (o : Option tree.Expression) → Along (Maybe DerivesIndex o) (option_sites s o)
index s None = nothing
index s (Some e) = past (trail (expression s e) last)

has_one : {R : Rule} {xs : List Site} → (hs : tree.Handlers) → Along R xs → Along (HasHandler hs R) xs
has_one tree.no_more a = record { along = λ line ts rest no h. absurd no }
has_one (tree.handler x body more) a = a

operated : (s : Scope) (line : ℕ) (part : Part) (x : Option (List ℕ)) (at : ℕ) (o : tree.Operation) → Along (DerivesStatement (tree.operate line x at o)) (site s line part ∷ site s at (of_operation o) ∷ operation_parts s o)
operated s line part None at o = record {
  along = λ l ts rest (mid, (same, e), q) h.
      let r = subst (λ (z : Tokens). (DerivesOperation at o ⨾ Takes (symbol mark.Semicolon)) z rest) (sym e) q in
      (again {s = s} {at = line} {part = part} (sym same) (trail (operation s at (of_operation o) o) last)).along l ts rest r h;
}
operated s line part (Some x) at o = as_one (headed (past (trail (operation s at (of_operation o) o) last)))

mutual
  statement : (s : Scope) (x : tree.Statement) → Along (DerivesStatement x) (statement_sites x s)
  statement s (tree.var line t x e) = headed (both (typed s t) (past (trail (initial s e) last)))
  statement s (tree.assign line t e) = as_one (headed (both (both (member t.member) (index s t.index)) (past (trail (expression s e) last))))
  statement s (tree.operate line x at o) = operated s line _ x at o
  statement s (tree.act line a) = trail (action s line _ a) last
  statement s (tree.if_ line e body other) =
      headed
      (moved (sym (append_assoc (expression_sites s e) (block_sites body s) (else_sites other (scoped.past (locals_in_block body) s))))
      (both (expression s e) (both (braced (statements s body)) (otherwise (scoped.past (locals_in_block body) s) other))))
  statement s (tree.while_ line e body) = headed (both (expression s e) (braced (statements s body)))
  statement s (tree.guard line body undo) = headed (both (braced (statements s body)) (past (braced (statements (in_unwind (scoped.past (locals_in_block body) s)) undo))))
  statement s (tree.try_ line body hs) = headed (both (braced (statements s body)) (has_one hs (handlers (scoped.past (locals_in_block body) s) hs)))

  pub statements : (s : Scope) (x : tree.Block) → Along (DerivesStatements x) (block_sites x s)
  statements s tree.over = nothing
  statements s (tree.then x xs) = both (statement s x) (statements (behind x s) xs)

  otherwise : (s : Scope) (x : tree.Else) → Along (DerivesElse x) (else_sites x s)
  otherwise s tree.no_else = nothing
  otherwise s (tree.else_block body) = past (braced (statements s body))

  handlers : (s : Scope) (x : tree.Handlers) → Along (DerivesHandlers x) (handler_sites x s)
  handlers s tree.no_more = nothing
  handlers s (tree.handler x body more) = past (past (both (braced (statements s body)) (handlers (scoped.past (locals_in_block body) s) more)))
