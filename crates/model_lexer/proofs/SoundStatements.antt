-- That the statements that limited tokens derive keep the limits of the language.
use Rattle.std.proofs.Common.{◌≡◌, ℕ, suc, ◌≤◌, true, ◌&&◌, List, [], ◌∷◌, Option, Some, None, refl, subst, arith}
use Rattle.std.specs.Prelude.{max}
use Rattle.std.proofs.lemmas.Bool.{and_from}
use Rattle.model_tree.specs.declared.types.SignalType.{SignalType}
use Rattle.model_tree.specs.declared.types.TypeForm.{TypeForm}
use Rattle.model_tree.specs.declared.types.TypeForm.TheVariants as form
use Rattle.model_tree.specs.declared.types.VarType.{VarType}
use Rattle.model_tree.specs.declared.types.VarType.TheVariants as var_type
use Rattle.model_tree.specs.declared.statements.Who.{Who}
use Rattle.model_tree.specs.declared.statements.Who.TheVariants as who
use Rattle.model_tree.specs.declared.vocabulary.Word.TheVariants as w
use Rattle.model_tree.specs.declared.vocabulary.Symbol.TheVariants as s
use Rattle.model_tree.specs.Leaves.{is_name}
use Rattle.model_tree.specs.Limits.{is_number, depth, fits, fits_option, fits_all, within, fits_place, fits_channel, option_name, fits_event, fits_events, is_some_of, fits_waiting, fits_notification, fits_index, fits_target, fits_operation, fits_spawn, fits_who, fits_part, fits_action, fits_form, fits_type, fits_var_type, fits_statement, fits_block, fits_else, fits_handlers}
use Rattle.model_tree.specs.Tree as tree
use Rattle.model_tree.specs.Parts as part
use Rattle.model_tree.specs.Parts.{Part, parts_of}
use Rattle.model_lexer.specs.Tokens.{Token, number, word, symbol}
use Rattle.model_lexer.specs.Rules.{Rule, ◌⨾◌, Takes, Maybe, Separated}
use Rattle.model_lexer.specs.Expressions.{DerivesExpression}
use Rattle.model_lexer.specs.Statements.{DerivesForm, DerivesType, DerivesVarTypeAt, DerivesVarType, DerivesPlace, DerivesChannel, DerivesMember, DerivesEvent, DerivesSensitive, DerivesArguments, DerivesIndex, DerivesTarget, NextName, NextExpression, DerivesOperation, DerivesResult, DerivesSpan, DerivesWaiting, DerivesNotification, DerivesHandle, DerivesSpawn, DerivesWho, DerivesPart, DerivesParts, DerivesAction, DerivesInitial, DerivesStatement, DerivesStatements, DerivesElse, DerivesHandlers}
use Rattle.model_lexer.specs.Brackets.{in_option, in_all, in_place, in_channel, in_events, in_waiting, in_notification, in_index, in_operation, in_part, in_action, in_statement, in_block, in_else, in_handlers}
use Rattle.model_lexer.proofs.Keeps.{Keeps, at, takes, nothing, ◌>>=◌, so, ends, never, on_line, any_line, written, inside, braced, separated, maybe}
use Rattle.model_lexer.proofs.SoundExpressions.{expression_fits}

-- types

width_fits : (n : ℕ) → Keeps (Takes (symbol s.Less) ⨾ Takes (number n) ⨾ Takes (symbol s.Greater)) (is_number n ≡ true)
width_fits n = takes >>= λ e. takes >>= λ size. ends size

pub form_fits : (line : ℕ) (f : TypeForm) → Keeps (DerivesForm line f) (fits_form f ≡ true)
form_fits line form.Bool = at
form_fits line form.Logic = at
form_fits line (form.Int n) = at >>= λ e. width_fits n
form_fits line (form.Uint n) = at >>= λ e. width_fits n
form_fits line (form.Vector n) = at >>= λ e. width_fits n

pub type_fits : (t : SignalType) → Keeps (DerivesType t) (fits_type t ≡ true)
type_fits t = form_fits t.line t.form

pub var_type_at_fits : (line : ℕ) (t : VarType) → Keeps (DerivesVarTypeAt line t) (fits_var_type t ≡ true)
var_type_at_fits line (var_type.Plain t) = on_line (type_fits t)
var_type_at_fits line var_type.Time = at
var_type_at_fits line var_type.Process = at
var_type_at_fits line var_type.Payload = at

pub var_type_fits : (t : VarType) → Keeps (DerivesVarType t) (fits_var_type t ≡ true)
var_type_fits t = any_line (λ line. var_type_at_fits line t)

-- channels, events and arguments

place_fits : (p : tree.Place) (n : ℕ) → in_place p ≤ n → Keeps (DerivesPlace p) (fits_place n p ≡ true)
place_fits tree.first n few = so nothing (λ e. refl)
place_fits (tree.place_number m) n few = takes >>= λ e. takes
place_fits (tree.computed e) n few = takes >>= λ f. takes >>= λ g. inside n (depth e) (λ m. fits m e) few (λ k less. expression_fits e k less) >>= λ fact. ends fact

pub channel_fits : (c : tree.Channel) (n : ℕ) → in_channel c ≤ n → Keeps (DerivesChannel c) (fits_channel n c ≡ true)
channel_fits c n few = at >>= λ e. so (place_fits c.place n few) (λ f. and_from (is_name c.name) (fits_place n c.place) e f)

pub member_fits : (o : Option (List ℕ)) → Keeps (Maybe DerivesMember o) (option_name o ≡ true)
member_fits o = maybe DerivesMember option_name refl o (λ x e. takes >>= λ f. takes)

event_fits : (e : tree.Event) (n : ℕ) → in_channel e.channel ≤ n → Keeps (DerivesEvent e) (fits_event n e ≡ true)
event_fits e n few = channel_fits e.channel n few >>= λ f. so (member_fits e.member) (λ g. and_from (fits_channel n e.channel) (option_name e.member) f g)

events_fit : (es : List tree.Event) (n : ℕ) → in_events es ≤ n → Keeps (Separated (symbol s.Comma) DerivesEvent es) (fits_events n es ≡ true)
events_fit es n few =
    separated (symbol s.Comma) DerivesEvent (fits_event n) (fits_events n) (λ xs. in_events xs ≤ n) refl (λ x xs. refl) (λ x xs h. (event_fits x n (omega (arith, h)), omega (arith, h))) es few

pub sensitive_fits : (es : List tree.Event) (n : ℕ) → in_events es ≤ n → Keeps (DerivesSensitive es) (fits_events n es ≡ true)
sensitive_fits [] n few = so nothing (λ e. refl)
sensitive_fits (e ∷ es) n few = takes >>= λ f. events_fit (e ∷ es) n few

arguments_fit : (es : List tree.Expression) (n : ℕ) → suc (in_all es) ≤ n → Keeps (DerivesArguments es) (within n (λ m. fits_all m es) ≡ true)
arguments_fit [] n few = takes >>= λ f. so (inside n 0 (λ m. true) few (λ k less. takes)) (λ g. g)
arguments_fit (e ∷ es) n few =
    takes >>= λ f. inside n (in_all (e ∷ es)) (λ m. fits_all m (e ∷ es)) few (λ k less. separated (symbol s.Comma) DerivesExpression (fits k) (fits_all k) (λ xs. in_all xs ≤ k) refl (λ x xs. refl) (λ x xs h. (expression_fits x k (omega (arith, h)), omega (arith, h))) (e ∷ es) less) >>= λ fact. ends fact

-- the parts of statements

index_fits : (o : Option tree.Expression) (n : ℕ) → in_index o ≤ n → Keeps (Maybe DerivesIndex o) (fits_index n o ≡ true)
index_fits o n few =
    maybe DerivesIndex (fits_index n) refl o (λ e h. let less : suc (depth e) ≤ n = subst (λ x. in_index x ≤ n) h few in (takes >>= λ f. inside n (depth e) (λ m. fits m e) less (λ k fewer. expression_fits e k fewer) >>= λ fact. ends fact))

-- an expression behind a token, or nothing
option_fits : (R : tree.Expression → Rule) (o : Option tree.Expression) (n : ℕ) → in_option o ≤ n → ((e : tree.Expression) → depth e ≤ n → Keeps (R e) (fits n e ≡ true)) → Keeps (Maybe R o) (fits_option n o ≡ true)
option_fits R o n few one = maybe R (fits_option n) refl o (λ e h. one e (subst (λ x. in_option x ≤ n) h few))

behind : {t : Token} (e : tree.Expression) (n : ℕ) → depth e ≤ n → Keeps (Takes t ⨾ DerivesExpression e) (fits n e ≡ true)
behind e n few = takes >>= λ f. expression_fits e n few

target_fits : (line : ℕ) (t : tree.Target) (n : ℕ) → in_index t.index ≤ n → Keeps (DerivesTarget line t) (fits_target n t ≡ true)
target_fits line t n few =
    at >>= λ e. member_fits t.member >>= λ f. so (index_fits t.index n few) (λ g. and_from (is_name t.name && option_name t.member) (fits_index n t.index) (and_from (is_name t.name) (option_name t.member) e f) g)

next_name : (x : List ℕ) → Keeps (NextName x) (is_name x ≡ true)
next_name x = takes >>= λ e. takes

operation_fits : (line : ℕ) (o : tree.Operation) (n : ℕ) → in_operation o ≤ n → Keeps (DerivesOperation line o) (fits_operation n o ≡ true)
operation_fits line (tree.call x arguments) n few = at >>= λ e. takes >>= λ f. so (arguments_fit arguments n few) (λ g. and_from (is_name x) _ f g)
operation_fits line (tree.read c) n few = at >>= λ e. channel_fits c n few
operation_fits line (tree.nb_read c x) n few = at >>= λ e. channel_fits c n few >>= λ f. so (next_name x) (λ g. and_from (fits_channel n c) (is_name x) f g)
operation_fits line (tree.nb_write c v) n few = at >>= λ e. channel_fits c n (omega (arith, few)) >>= λ f. so (behind v n (omega (arith, few))) (λ g. and_from (fits_channel n c) (fits n v) f g)
operation_fits line (tree.trylock c) n few = at >>= λ e. channel_fits c n few
operation_fits line (tree.unlock c) n few = at >>= λ e. channel_fits c n few
operation_fits line (tree.sem_trywait c) n few = at >>= λ e. channel_fits c n few
operation_fits line (tree.nb_transport a b c d) n few =
    at >>= λ e. takes >>= λ f. next_name b >>= λ g. next_name c >>= λ h. so (next_name d) (λ i. and_from (is_name a && is_name b) _ (and_from (is_name a) (is_name b) f g) (and_from (is_name c) (is_name d) h i))

result_fits : (line : ℕ) (x : Option (List ℕ)) (at : ℕ) → Keeps (DerivesResult line x at) (option_name x ≡ true)
result_fits line None place = on_line (so nothing (λ e. refl))
result_fits line (Some x) place = at >>= λ e. ends e

-- any or all of some events
many_fit : (es : List tree.Event) (t : Option tree.Expression) (n : ℕ) → max (in_events es) (in_option t) ≤ n → Keeps (Separated (symbol s.Comma) DerivesEvent es ⨾ Maybe DerivesSpan t) ((is_some_of es && (fits_events n es && fits_option n t)) ≡ true)
many_fit [] t n few = never >>= λ none. absurd none
many_fit (e ∷ es) t n few = events_fit (e ∷ es) n (omega (arith, few)) >>= λ f. so (option_fits DerivesSpan t n (omega (arith, few)) (λ x h. behind x n h)) (λ g. and_from (fits_events n (e ∷ es)) (fits_option n t) f g)

waiting_fits : (t : tree.Waiting) (n : ℕ) → in_waiting t ≤ n → Keeps (DerivesWaiting t) (fits_waiting n t ≡ true)
waiting_fits tree.static n few = so nothing (λ e. refl)
waiting_fits tree.delta n few = ends refl
waiting_fits (tree.for_ e) n few = behind e n few
waiting_fits (tree.one e t) n few =
    event_fits e n (omega (arith, few)) >>= λ f. so (option_fits DerivesSpan t n (omega (arith, few)) (λ x h. behind x n h)) (λ g. and_from (fits_event n e) (fits_option n t) f g)
waiting_fits (tree.any es t) n few = takes >>= λ e. many_fit es t n few
waiting_fits (tree.all es t) n few = takes >>= λ e. many_fit es t n few

notification_fits : (t : tree.Notification) (n : ℕ) → in_notification t ≤ n → Keeps (DerivesNotification t) (fits_notification n t ≡ true)
notification_fits tree.immediate n few = so nothing (λ e. refl)
notification_fits tree.next_delta n few = ends refl
notification_fits (tree.after e) n few = behind e n few

handle_fits : (o : Option (List ℕ)) → Keeps (Maybe DerivesHandle o) (option_name o ≡ true)
handle_fits o = maybe DerivesHandle option_name refl o (λ x e. takes >>= λ f. ends f)

spawn_fits : (x : tree.Spawn) (n : ℕ) → suc (in_all x.arguments) ≤ n → in_events x.sensitive ≤ n → Keeps (DerivesSpawn x) (fits_spawn n x ≡ true)
spawn_fits x n few fewer =
    handle_fits x.handle >>= λ f. written (word w.Method) x.method >>= λ e. takes >>= λ g. arguments_fit x.arguments n few >>= λ h. sensitive_fits x.sensitive n fewer >>= λ i. so (written (word w.DontInitialize) x.dont_initialize) (λ u. and_from (option_name x.handle && is_name x.function) _ (and_from (option_name x.handle) (is_name x.function) f g) (and_from _ (fits_events n x.sensitive) h i))

who_fits : (x : Who) → Keeps (DerivesWho x) (fits_who x ≡ true)
who_fits (who.Named line x) = at
who_fits (who.Myself line) = at

part_fits : (p : Part) (n : ℕ) → in_part p ≤ n → Keeps (DerivesPart p) (fits_part n p ≡ true)
part_fits (part.name r x) n few = takes
part_fits (part.next_name r x) n few = next_name x
part_fits (part.reaching_name r x all) n few = takes >>= λ f. so (written (word w.Descendants) all) (λ g. f)
part_fits (part.text x) n few = takes
part_fits (part.term u e) n few = expression_fits e n few
part_fits (part.term_if u o) n few = option_fits DerivesExpression o n few (λ x h. expression_fits x n h)
part_fits (part.next_term u e) n few = behind e n few
part_fits (part.next_term_if u o) n few = option_fits NextExpression o n few (λ x h. behind x n h)
part_fits (part.channel u c) n few = channel_fits c n few
part_fits (part.waiting t) n few = waiting_fits t n few
part_fits (part.notification t) n few = notification_fits t n few
part_fits (part.instance x) n few = spawn_fits x n (omega (arith, few)) (omega (arith, few))
part_fits (part.process x) n few = who_fits x
part_fits (part.reaching_process x all) n few = who_fits x >>= λ f. so (written (word w.Descendants) all) (λ g. f)

first_few : (p : Part) (ps : List Part) (n : ℕ) → part.behind in_part max 0 p ps ≤ n → in_part p ≤ n
first_few p [] n few = few
first_few p (q ∷ qs) n few = omega (arith, few)

parts_fit : {P : Rule} (p : Part) (ps : List Part) (n : ℕ) → part.behind in_part max 0 p ps ≤ n → Keeps P (fits_part n p ≡ true) → Keeps (DerivesParts P ps) (part.behind (fits_part n) (λ x y. x && y) true p ps ≡ true)
parts_fit {P = P} p [] n few rule = rule
parts_fit {P = P} p (q ∷ qs) n few rule =
    let fewer : part.behind in_part max 0 q qs ≤ n = omega (arith, few) in
    rule >>= λ f. so (parts_fit {P = DerivesPart q} q qs n fewer (part_fits q n (first_few q qs n fewer))) (λ g. and_from (fits_part n p) _ f g)

all_fit : {P : Rule} {A : Type 0} (ps : List Part) (n : ℕ) → part.joined in_part max 0 ps ≤ n → Keeps P A → Keeps (DerivesParts P ps) (part.joined (fits_part n) (λ x y. x && y) true ps ≡ true)
all_fit [] n few rule = so rule (λ e. refl)
all_fit (p ∷ ps) n few rule = rule >>= λ e. parts_fit p ps n few (part_fits p n (first_few p ps n few))

action_fits : (line : ℕ) (a : tree.Action) (n : ℕ) → in_action a ≤ n → Keeps (DerivesAction line a) (fits_action n a ≡ true)
action_fits line a n few = all_fit (parts_of a) n few at

-- statements

mutual
  pub statement_fits : (x : tree.Statement) (n : ℕ) → in_statement x ≤ n → Keeps (DerivesStatement x) (fits_statement x n ≡ true)
  statement_fits (tree.var line t x o) n few =
      at >>= λ e. var_type_fits t >>= λ f. takes >>= λ g. option_fits DerivesInitial o n few (λ y h. behind y n h) >>= λ h. ends (and_from (fits_var_type t) _ f (and_from (is_name x) (fits_option n o) g h))
  statement_fits (tree.assign line t v) n few =
      target_fits line t n (omega (arith, few)) >>= λ f. takes >>= λ e. expression_fits v n (omega (arith, few)) >>= λ g. ends (and_from (fits_target n t) (fits n v) f g)
  statement_fits (tree.operate line x place o) n few = result_fits line x place >>= λ f. operation_fits place o n few >>= λ g. ends (and_from (option_name x) (fits_operation n o) f g)
  statement_fits (tree.act line a) n few = action_fits line a n few >>= λ f. ends f
  statement_fits (tree.if_ line v body other) n few =
      at >>= λ e. expression_fits v n (omega (arith, few)) >>= λ f. braced n (in_block body) (fits_block body) (omega (arith, few)) (λ k less. block_fits body k less) >>= λ g. so (else_fits other n (omega (arith, few))) (λ h. and_from (fits n v) _ f (and_from (within n (fits_block body)) (fits_else other n) g h))
  statement_fits (tree.while_ line v body) n few =
      at >>= λ e. expression_fits v n (omega (arith, few)) >>= λ f. so (braced n (in_block body) (fits_block body) (omega (arith, few)) (λ k less. block_fits body k less)) (λ g. and_from (fits n v) (within n (fits_block body)) f g)
  statement_fits (tree.guard line body undo) n few =
      at >>= λ e. braced n (in_block body) (fits_block body) (omega (arith, few)) (λ k less. block_fits body k less) >>= λ f. takes >>= λ e1. so (braced n (in_block undo) (fits_block undo) (omega (arith, few)) (λ k less. block_fits undo k less)) (λ g. and_from (within n (fits_block body)) (within n (fits_block undo)) f g)
  statement_fits (tree.try_ line body tree.no_more) n few = at >>= λ e. braced n (in_block body) (fits_block body) (omega (arith, few)) (λ k less. block_fits body k less) >>= λ f. never
  statement_fits (tree.try_ line body (tree.handler x undo more)) n few =
      at >>= λ e. braced n (in_block body) (fits_block body) (omega (arith, few)) (λ k less. block_fits body k less) >>= λ f. so (handlers_fit (tree.handler x undo more) n (omega (arith, few))) (λ g. and_from (within n (fits_block body)) _ f g)

  pub block_fits : (xs : tree.Block) (n : ℕ) → in_block xs ≤ n → Keeps (DerivesStatements xs) (fits_block xs n ≡ true)
  block_fits tree.over n few = so nothing (λ e. refl)
  block_fits (tree.then x xs) n few = statement_fits x n (omega (arith, few)) >>= λ f. so (block_fits xs n (omega (arith, few))) (λ g. and_from (fits_statement x n) (fits_block xs n) f g)

  else_fits : (o : tree.Else) (n : ℕ) → in_else o ≤ n → Keeps (DerivesElse o) (fits_else o n ≡ true)
  else_fits tree.no_else n few = so nothing (λ e. refl)
  else_fits (tree.else_block body) n few = takes >>= λ e. braced n (in_block body) (fits_block body) few (λ k less. block_fits body k less)

  handlers_fit : (hs : tree.Handlers) (n : ℕ) → in_handlers hs ≤ n → Keeps (DerivesHandlers hs) (fits_handlers hs n ≡ true)
  handlers_fit tree.no_more n few = so nothing (λ e. refl)
  handlers_fit (tree.handler x body more) n few =
      takes >>= λ e. takes >>= λ f. braced n (in_block body) (fits_block body) (omega (arith, few)) (λ k less. block_fits body k less) >>= λ g. so (handlers_fit more n (omega (arith, few))) (λ h. and_from (is_name x) _ f (and_from (within n (fits_block body)) (fits_handlers more n) g h))
