-- That what a text of a version of the language derives has the names, units and control of that version.
use Rattle.std.proofs.Common.{◌≡◌, ℕ, Bool, true, false, List, [], ◌∷◌, ◌++◌, Option, Some, None, refl, sym, subst, ◌∙◌}
use Rattle.std.specs.List.{flat_map, list_all}
use Rattle.std.proofs.lemmas.Bool.{and_from}
use Rattle.std.proofs.lemmas.List.Folds.{list_all-append}
use Rattle.model_tree.specs.SimTime.declared.moments.Unit.{Unit as TimeUnit}
use Rattle.model_tree.specs.SimTime.declared.moments.Unit.TheVariants as unit
use Rattle.model_tree.specs.declared.types.SignalType.{SignalType}
use Rattle.model_tree.specs.declared.types.TypeForm.{TypeForm}
use Rattle.model_tree.specs.declared.types.TypeForm.TheVariants as form
use Rattle.model_tree.specs.declared.types.VarType.{VarType}
use Rattle.model_tree.specs.declared.types.VarType.TheVariants as var_type
use Rattle.model_tree.specs.declared.types.Constant.{Constant}
use Rattle.model_tree.specs.declared.types.ConstantForm.{ConstantForm}
use Rattle.model_tree.specs.declared.types.ConstantForm.TheVariants as constant
use Rattle.model_tree.specs.declared.types.Span.{Span}
use Rattle.model_tree.specs.declared.types.Interface.{Interface}
use Rattle.model_tree.specs.declared.types.Interface.TheVariants as interface
use Rattle.model_tree.specs.declared.types.BoundRule.{BoundRule}
use Rattle.model_tree.specs.declared.types.BoundRule.TheVariants as bound
use Rattle.model_tree.specs.declared.types.PortSize.{PortSize}
use Rattle.model_tree.specs.declared.types.Parameter.{Parameter}
use Rattle.model_tree.specs.declared.types.End.{End}
use Rattle.model_tree.specs.declared.statements.Who.{Who}
use Rattle.model_tree.specs.declared.statements.Who.TheVariants as who
use Rattle.model_tree.specs.declared.items.InitiatorRole.{InitiatorRole}
use Rattle.model_tree.specs.declared.items.InitiatorRole.TheVariants as initiator
use Rattle.model_tree.specs.declared.items.TargetRole.{TargetRole}
use Rattle.model_tree.specs.declared.items.TargetRole.TheVariants as target
use Rattle.model_tree.specs.declared.items.Head.{Head}
use Rattle.model_tree.specs.declared.items.Head.TheVariants as head
use Rattle.model_tree.specs.declared.vocabulary.Word.{Word}
use Rattle.model_tree.specs.declared.vocabulary.Word.TheVariants as w
use Rattle.model_tree.specs.declared.vocabulary.Symbol.TheVariants as s
use Rattle.model_tree.specs.Tree as tree
use Rattle.model_tree.specs.Parts as part
use Rattle.model_tree.specs.Parts.{Part, parts_of}
use Rattle.model_tree.specs.Languages as leaf
use Rattle.model_tree.specs.Languages.{Leaf, Leaves, named, in_unit, descending, may_have}
use Rattle.model_lexer.specs.Tokens.{Token, Tokens, word, symbol, each_is, unit_token}
use Rattle.model_lexer.specs.Versions.{may_token}
use Rattle.model_lexer.specs.Rules.{Rule, ◌⨾◌, At, Takes, Each, Separated, Maybe, Written}
use Rattle.model_lexer.specs.Expressions.{Parenthesized, DerivesAt, DerivesExpression}
use Rattle.model_lexer.specs.Statements.{DerivesForm, DerivesType, DerivesVarTypeAt, DerivesVarType, DerivesPlace, DerivesChannel, DerivesMember, DerivesEvent, DerivesSensitive, DerivesArguments, DerivesIndex, DerivesTarget, NextName, NextExpression, DerivesOperation, DerivesResult, DerivesSpan, DerivesWaiting, DerivesNotification, DerivesHandle, DerivesSpawn, DerivesWho, DerivesPart, DerivesParts, DerivesAction, Braced, DerivesInitial, DerivesStatement, DerivesStatements, DerivesElse, HasHandler, DerivesHandlers}
use Rattle.model_lexer.specs.Items.{DerivesConstantForm, DerivesConstant, DerivesFirstValue, DerivesTime, DerivesStart, DerivesFifoSize, DerivesInterface, DerivesBound, DerivesPortSize, DerivesHandler, DerivesInitiatorRole, DerivesTargetRole, DerivesEnd, DerivesMode, DerivesParameter, DerivesParameters, DerivesAnswer, DerivesItem, DerivesModule, DerivesModel}
use Rattle.model_lexer.proofs.Keeps.{KeepsBy, at, takes, nothing, ◌>>=◌, so, ends, never, short, binds, on_line, any_line, written}

module _ (h : Head) where
  abbrev Has : Leaves → Type 0
  Has xs = list_all (may_have h) xs ≡ true

  abbrev Kept : Rule → Leaves → Type 0
  Kept P xs = KeepsBy (may_token h) P (Has xs)

  abbrev Passed : Rule → Type 0
  Passed P = KeepsBy (may_token h) P (Unit {0})

  also : (x : Leaf) (xs : Leaves) → may_have h x ≡ true → Has xs → Has (x ∷ xs)
  also x xs a b = and_from (may_have h x) (list_all (may_have h) xs) a b

  one : (x : Leaf) → may_have h x ≡ true → Has (x ∷ [])
  one x a = also x [] a refl

  both : (xs ys : Leaves) → Has xs → Has ys → Has (xs ++ ys)
  both xs ys a b = list_all-append (may_have h) xs ys ∙ and_from (list_all (may_have h) xs) (list_all (may_have h) ys) a b

  -- rules that derive no leaf
  token : {t : Token} → Passed (Takes t)
  token = so takes (λ e. tt)

  passes : {P : Rule} {A : Type 0} → KeepsBy (may_token h) P A → Passed P
  passes rule = so rule (λ e. tt)

  -- words of the grammar, with the leaves of what they derive
  each_kept : {A : Type 0} (R : A → Rule) (in_one : A → Leaves) → ((x : A) → Kept (R x) (in_one x)) → (xs : List A) → Kept (Each R xs) (flat_map in_one xs)
  each_kept R in_one rule [] = so nothing (λ e. refl)
  each_kept R in_one rule (x ∷ xs) = rule x >>= λ f. so (each_kept R in_one rule xs) (λ g. both (in_one x) (flat_map in_one xs) f g)

  separated_kept : {A : Type 0} (between : Token) (R : A → Rule) (in_one : A → Leaves) → ((x : A) → Kept (R x) (in_one x)) → (xs : List A) → Kept (Separated between R xs) (flat_map in_one xs)
  separated_kept between R in_one rule [] = never
  separated_kept between R in_one rule (x ∷ xs) = rule x >>= λ f. so (each_kept (λ y. Takes between ⨾ R y) in_one (λ y. takes >>= λ e. rule y) xs) (λ g. both (in_one x) (flat_map in_one xs) f g)

  each_passed : {A : Type 0} (R : A → Rule) → ((x : A) → Passed (R x)) → (xs : List A) → Passed (Each R xs)
  each_passed R rule [] = nothing
  each_passed R rule (x ∷ xs) = rule x >>= λ f. each_passed R rule xs

  maybe_kept : {A : Type 0} (R : A → Rule) (in_one : A → Leaves) (in_option : Option A → Leaves) → in_option None ≡ [] → ((x : A) → in_option (Some x) ≡ in_one x) → ((x : A) → Kept (R x) (in_one x)) → (o : Option A) → Kept (Maybe R o) (in_option o)
  maybe_kept R in_one in_option none some rule None = so nothing (λ e. subst Has (sym none) refl)
  maybe_kept R in_one in_option none some rule (Some x) = so (rule x) (λ f. subst Has (sym (some x)) f)

  maybe_passed : {A : Type 0} (R : A → Rule) → ((x : A) → Passed (R x)) → (o : Option A) → Passed (Maybe R o)
  maybe_passed R rule None = nothing
  maybe_passed R rule (Some x) = rule x

  parenthesized_kept : {P : Rule} (xs : Leaves) → Kept P xs → Kept (Parenthesized P) xs
  parenthesized_kept xs rule = takes >>= λ e. short rule >>= λ f. ends f

  braced_kept : {P : Rule} (xs : Leaves) → Kept P xs → Kept (Braced P) xs
  braced_kept xs rule = takes >>= λ e. rule >>= λ f. ends f

  -- every language has the units but for femtoseconds
  every_unit : (x : Head) (u : TimeUnit) → leaf.is_femtoseconds u ≡ false → may_have x (in_unit u) ≡ true
  every_unit head.First u other = rw other refl
  every_unit (head.Second r) u other = refl

  unit_kept : (u : TimeUnit) → may_token h (unit_token u) ≡ true → may_have h (in_unit u) ≡ true
  unit_kept unit.Fs f = f
  unit_kept unit.Ps f = every_unit h unit.Ps refl
  unit_kept unit.Ns f = every_unit h unit.Ns refl
  unit_kept unit.Us f = every_unit h unit.Us refl
  unit_kept unit.Ms f = every_unit h unit.Ms refl
  unit_kept unit.S f = every_unit h unit.S refl

  unit_taken : (u : TimeUnit) → KeepsBy (may_token h) (Takes (unit_token u)) (may_have h (in_unit u) ≡ true)
  unit_taken u = so takes (unit_kept u)

  descending_kept : (all : Bool) → Kept (Written (word w.Descendants) all) (leaf.descending_if all)
  descending_kept true = so takes (λ f. one descending f)
  descending_kept false = so nothing (λ e. refl)

  -- expressions

  expression_kept : (e : tree.Expression) (n : ℕ) → Kept (DerivesAt n e) (leaf.in_expression e)
  expression_kept (tree.number line v) n = binds (λ k f. refl) at
  expression_kept (tree.time line v u) n = binds (λ k f. f) (at >>= λ e. so (unit_taken u) (λ f. one (in_unit u) f))
  expression_kept (tree.logic line ds) n = binds (λ k f. refl) at
  expression_kept (tree.truth line b) n = binds (λ k f. refl) at
  expression_kept (tree.now line) n = binds (λ k f. refl) at
  expression_kept (tree.myself line) n = binds (λ k f. refl) at
  expression_kept (tree.constant line c) n = binds (λ k f. refl) at
  expression_kept (tree.paren line e) n = binds (λ k f. f) (at >>= λ a. short (expression_kept e 0) >>= λ f. ends f)
  expression_kept (tree.convert line c e) n = binds (λ k f. f) (at >>= λ a. parenthesized_kept _ (expression_kept e 0))
  expression_kept (tree.to_vector line width e) n = binds (λ k f. f) (at >>= λ a. takes >>= λ b. takes >>= λ c. takes >>= λ d. parenthesized_kept _ (expression_kept e 0))
  expression_kept (tree.concat line upper lower) n =
      binds (λ k f. f) (at >>= λ a. takes >>= λ b. short (expression_kept upper 0) >>= λ f. takes >>= λ c. short (expression_kept lower 0) >>= λ g. ends (both (leaf.in_expression upper) (leaf.in_expression lower) f g))
  expression_kept (tree.named line x) n = so at (λ f. one (named x) f)
  expression_kept (tree.placed line x m) n = at >>= λ f. takes >>= λ a. ends (one (named x) f)
  expression_kept (tree.placed_by line x e) n = at >>= λ f. takes >>= λ a. so (parenthesized_kept _ (expression_kept e 0)) (λ g. also (named x) (leaf.in_expression e) f g)
  expression_kept (tree.member e x) n = expression_kept e _ >>= λ f. takes >>= λ a. so takes (λ g. both (leaf.in_expression e) (named x ∷ []) f (one (named x) g))
  expression_kept (tree.element e index) n = expression_kept e _ >>= λ f. takes >>= λ a. short (expression_kept index 0) >>= λ g. ends (both (leaf.in_expression e) (leaf.in_expression index) f g)
  expression_kept (tree.slice e high low) n = expression_kept e _ >>= λ f. takes >>= λ a. takes >>= λ b. takes >>= λ c. takes >>= λ d. ends f
  expression_kept (tree.unary line o e) n = binds (λ k f. f) (at >>= λ a. expression_kept e _)
  expression_kept (tree.binary o left right) n = binds (λ k f. f) (expression_kept left _ >>= λ f. takes >>= λ a. so (expression_kept right _) (λ g. both (leaf.in_expression left) (leaf.in_expression right) f g))

  whole_kept : (e : tree.Expression) → Kept (DerivesExpression e) (leaf.in_expression e)
  whole_kept e = short (expression_kept e 0)

  behind_kept : {t : Token} (e : tree.Expression) → Kept (Takes t ⨾ DerivesExpression e) (leaf.in_expression e)
  behind_kept e = takes >>= λ a. whole_kept e

  option_kept : (R : tree.Expression → Rule) → ((e : tree.Expression) → Kept (R e) (leaf.in_expression e)) → (o : Option tree.Expression) → Kept (Maybe R o) (leaf.in_expression_if o)
  option_kept R rule o = maybe_kept R leaf.in_expression leaf.in_expression_if refl (λ x. refl) rule o

  -- types derive no leaf

  form_passed : (line : ℕ) (f : TypeForm) → Passed (DerivesForm line f)
  form_passed line form.Bool = passes at
  form_passed line form.Logic = passes at
  form_passed line (form.Int n) = at >>= λ a. takes >>= λ b. takes >>= λ c. token
  form_passed line (form.Uint n) = at >>= λ a. takes >>= λ b. takes >>= λ c. token
  form_passed line (form.Vector n) = at >>= λ a. takes >>= λ b. takes >>= λ c. token

  type_passed : (t : SignalType) → Passed (DerivesType t)
  type_passed t = form_passed t.line t.form

  var_type_at_passed : (line : ℕ) (t : VarType) → Passed (DerivesVarTypeAt line t)
  var_type_at_passed line (var_type.Plain t) = on_line (type_passed t)
  var_type_at_passed line var_type.Time = passes at
  var_type_at_passed line var_type.Process = passes at
  var_type_at_passed line var_type.Payload = passes at

  var_type_passed : (t : VarType) → Passed (DerivesVarType t)
  var_type_passed t = any_line (λ line. var_type_at_passed line t)

  -- channels, events, arguments

  place_kept : (p : tree.Place) → Kept (DerivesPlace p) (leaf.in_place p)
  place_kept tree.first = so nothing (λ e. refl)
  place_kept (tree.place_number n) = takes >>= λ a. ends refl
  place_kept (tree.computed e) = takes >>= λ a. parenthesized_kept _ (expression_kept e 0)

  channel_kept : (c : tree.Channel) → Kept (DerivesChannel c) (leaf.in_channel c)
  channel_kept c = at >>= λ f. so (place_kept c.place) (λ g. also (named c.name) (leaf.in_place c.place) f g)

  member_kept : (o : Option (List ℕ)) → Kept (Maybe DerivesMember o) (leaf.name_if o)
  member_kept o = maybe_kept DerivesMember (λ x. named x ∷ []) leaf.name_if refl (λ x. refl) (λ x. takes >>= λ a. so takes (λ f. one (named x) f)) o

  event_kept : (e : tree.Event) → Kept (DerivesEvent e) (leaf.in_event e)
  event_kept e = channel_kept e.channel >>= λ f. so (member_kept e.member) (λ g. both (leaf.in_channel e.channel) (leaf.name_if e.member) f g)

  events_kept : (es : List tree.Event) → Kept (Separated (symbol s.Comma) DerivesEvent es) (leaf.in_events es)
  events_kept es = separated_kept (symbol s.Comma) DerivesEvent leaf.in_event event_kept es

  sensitive_kept : (es : List tree.Event) → Kept (DerivesSensitive es) (leaf.in_events es)
  sensitive_kept [] = so nothing (λ e. refl)
  sensitive_kept (e ∷ es) = takes >>= λ a. events_kept (e ∷ es)

  arguments_kept : (es : List tree.Expression) → Kept (DerivesArguments es) (leaf.in_expressions es)
  arguments_kept [] = takes >>= λ a. ends refl
  arguments_kept (e ∷ es) = takes >>= λ a. separated_kept (symbol s.Comma) DerivesExpression leaf.in_expression whole_kept (e ∷ es) >>= λ f. ends f

  index_kept : (o : Option tree.Expression) → Kept (Maybe DerivesIndex o) (leaf.in_expression_if o)
  index_kept o = option_kept DerivesIndex (λ e. takes >>= λ a. whole_kept e >>= λ f. ends f) o

  target_kept : (line : ℕ) (t : tree.Target) → Kept (DerivesTarget line t) (leaf.in_target t)
  target_kept line t =
      at >>= λ f. member_kept t.member >>= λ g. so (index_kept t.index) (λ i. also (named t.name) (leaf.name_if t.member ++ leaf.in_expression_if t.index) f (both (leaf.name_if t.member) (leaf.in_expression_if t.index) g i))

  next_name_kept : (x : List ℕ) → KeepsBy (may_token h) (NextName x) (may_have h (named x) ≡ true)
  next_name_kept x = takes >>= λ a. takes

  operation_kept : (line : ℕ) (o : tree.Operation) → Kept (DerivesOperation line o) (leaf.in_operation o)
  operation_kept line (tree.call x es) = at >>= λ a. takes >>= λ f. so (arguments_kept es) (λ g. also (named x) (leaf.in_expressions es) f g)
  operation_kept line (tree.read c) = at >>= λ a. channel_kept c
  operation_kept line (tree.nb_read c x) = at >>= λ a. channel_kept c >>= λ f. so (next_name_kept x) (λ g. both (leaf.in_channel c) (named x ∷ []) f (one (named x) g))
  operation_kept line (tree.nb_write c e) = at >>= λ a. channel_kept c >>= λ f. so (behind_kept e) (λ g. both (leaf.in_channel c) (leaf.in_expression e) f g)
  operation_kept line (tree.trylock c) = at >>= λ a. channel_kept c
  operation_kept line (tree.unlock c) = at >>= λ a. channel_kept c
  operation_kept line (tree.sem_trywait c) = at >>= λ a. channel_kept c
  operation_kept line (tree.nb_transport a b c d) =
      at >>= λ e. takes >>= λ f. next_name_kept b >>= λ g. next_name_kept c >>= λ i. so (next_name_kept d) (λ j. also (named a) (named b ∷ named c ∷ named d ∷ []) f (also (named b) (named c ∷ named d ∷ []) g (also (named c) (named d ∷ []) i (one (named d) j))))

  result_kept : (line : ℕ) (x : Option (List ℕ)) (place : ℕ) → Kept (DerivesResult line x place) (leaf.name_if x)
  result_kept line None place = on_line (so nothing (λ e. refl))
  result_kept line (Some x) place = at >>= λ f. ends (one (named x) f)

  waiting_kept : (t : tree.Waiting) → Kept (DerivesWaiting t) (leaf.in_waiting t)
  waiting_kept tree.static = so nothing (λ e. refl)
  waiting_kept tree.delta = ends refl
  waiting_kept (tree.for_ e) = behind_kept e
  waiting_kept (tree.one e t) = event_kept e >>= λ f. so (option_kept DerivesSpan behind_kept t) (λ g. both (leaf.in_event e) (leaf.in_expression_if t) f g)
  waiting_kept (tree.any es t) = takes >>= λ a. events_kept es >>= λ f. so (option_kept DerivesSpan behind_kept t) (λ g. both (leaf.in_events es) (leaf.in_expression_if t) f g)
  waiting_kept (tree.all es t) = takes >>= λ a. events_kept es >>= λ f. so (option_kept DerivesSpan behind_kept t) (λ g. both (leaf.in_events es) (leaf.in_expression_if t) f g)

  notification_kept : (t : tree.Notification) → Kept (DerivesNotification t) (leaf.in_notification t)
  notification_kept tree.immediate = so nothing (λ e. refl)
  notification_kept tree.next_delta = ends refl
  notification_kept (tree.after e) = behind_kept e

  handle_kept : (o : Option (List ℕ)) → Kept (Maybe DerivesHandle o) (leaf.name_if o)
  handle_kept o = maybe_kept DerivesHandle (λ x. named x ∷ []) leaf.name_if refl (λ x. refl) (λ x. takes >>= λ f. ends (one (named x) f)) o

  spawn_kept : (x : tree.Spawn) → Kept (DerivesSpawn x) (leaf.in_spawn x)
  spawn_kept x =
      handle_kept x.handle >>= λ f. written (word w.Method) x.method >>= λ a. takes >>= λ g. arguments_kept x.arguments >>= λ i. sensitive_kept x.sensitive >>= λ j. so (written (word w.DontInitialize) x.dont_initialize)
      (λ b. both (leaf.name_if x.handle) (named x.function ∷ (leaf.in_expressions x.arguments ++ leaf.in_events x.sensitive)) f
      (also (named x.function) (leaf.in_expressions x.arguments ++ leaf.in_events x.sensitive) g (both (leaf.in_expressions x.arguments) (leaf.in_events x.sensitive) i j)))

  who_kept : (x : Who) → Kept (DerivesWho x) (leaf.in_who x)
  who_kept (who.Named line x) = so at (λ f. one (named x) f)
  who_kept (who.Myself line) = so at (λ e. refl)

  part_kept : (p : Part) → Kept (DerivesPart p) (leaf.in_part p)
  part_kept (part.name r x) = so takes (λ f. one (named x) f)
  part_kept (part.next_name r x) = so (next_name_kept x) (λ f. one (named x) f)
  part_kept (part.reaching_name r x all) = takes >>= λ f. so (descending_kept all) (λ g. also (named x) (leaf.descending_if all) f g)
  part_kept (part.text x) = ends refl
  part_kept (part.term u e) = whole_kept e
  part_kept (part.term_if u o) = option_kept DerivesExpression whole_kept o
  part_kept (part.next_term u e) = behind_kept e
  part_kept (part.next_term_if u o) = option_kept NextExpression behind_kept o
  part_kept (part.channel u c) = channel_kept c
  part_kept (part.waiting t) = waiting_kept t
  part_kept (part.notification t) = notification_kept t
  part_kept (part.instance x) = spawn_kept x
  part_kept (part.process x) = who_kept x
  part_kept (part.reaching_process x all) = who_kept x >>= λ f. so (descending_kept all) (λ g. both (leaf.in_who x) (leaf.descending_if all) f g)

  parts_kept : {P : Rule} (p : Part) (ps : List Part) → Kept P (leaf.in_part p) → Kept (DerivesParts P ps) (part.behind leaf.in_part (λ xs ys. xs ++ ys) [] p ps)
  parts_kept {P = P} p [] rule = rule
  parts_kept {P = P} p (q ∷ qs) rule = rule >>= λ f. so (parts_kept {P = DerivesPart q} q qs (part_kept q)) (λ g. both (leaf.in_part p) (part.behind leaf.in_part (λ xs ys. xs ++ ys) [] q qs) f g)

  all_kept : {P : Rule} {A : Type 0} (ps : List Part) → KeepsBy (may_token h) P A → Kept (DerivesParts P ps) (part.joined leaf.in_part (λ xs ys. xs ++ ys) [] ps)
  all_kept [] rule = so rule (λ e. refl)
  all_kept (p ∷ ps) rule = rule >>= λ e. parts_kept p ps (part_kept p)

  action_kept : (line : ℕ) (a : tree.Action) → Kept (DerivesAction line a) (leaf.in_action a)
  action_kept line a = all_kept (parts_of a) at

  -- statements

  some_kept : (x : tree.Handlers) → Kept (DerivesHandlers x) (leaf.in_handlers x) → Kept (HasHandler x (DerivesHandlers x)) (leaf.in_handlers x)
  some_kept tree.no_more rule = never
  some_kept (tree.handler x body more) rule = rule

  mutual
    statement_kept : (x : tree.Statement) → Kept (DerivesStatement x) (leaf.in_statement x)
    statement_kept (tree.var line t x o) =
        at >>= λ a. var_type_passed t >>= λ b. takes >>= λ f. option_kept DerivesInitial behind_kept o >>= λ g. ends (also (named x) (leaf.in_expression_if o) f g)
    statement_kept (tree.assign line t e) = target_kept line t >>= λ f. takes >>= λ a. whole_kept e >>= λ g. ends (both (leaf.in_target t) (leaf.in_expression e) f g)
    statement_kept (tree.operate line x place o) = result_kept line x place >>= λ f. operation_kept place o >>= λ g. ends (both (leaf.name_if x) (leaf.in_operation o) f g)
    statement_kept (tree.act line a) = action_kept line a >>= λ f. ends f
    statement_kept (tree.if_ line e body other) =
        at >>= λ a. whole_kept e >>= λ f. braced_kept _ (block_kept body) >>= λ g. so (else_kept other) (λ i. both (leaf.in_expression e) (leaf.in_block body ++ leaf.in_else other) f (both (leaf.in_block body) (leaf.in_else other) g i))
    statement_kept (tree.while_ line e body) = at >>= λ a. whole_kept e >>= λ f. so (braced_kept _ (block_kept body)) (λ g. both (leaf.in_expression e) (leaf.in_block body) f g)
    statement_kept (tree.guard line body undo) = at >>= λ a. braced_kept _ (block_kept body) >>= λ f. takes >>= λ b. so (braced_kept _ (block_kept undo)) (λ g. both (leaf.in_block body) (leaf.in_block undo) f g)
    statement_kept (tree.try_ line body handlers) = at >>= λ a. braced_kept _ (block_kept body) >>= λ f. so (some_kept handlers (handlers_kept handlers)) (λ g. both (leaf.in_block body) (leaf.in_handlers handlers) f g)

    block_kept : (x : tree.Block) → Kept (DerivesStatements x) (leaf.in_block x)
    block_kept tree.over = so nothing (λ e. refl)
    block_kept (tree.then x xs) = statement_kept x >>= λ f. so (block_kept xs) (λ g. both (leaf.in_statement x) (leaf.in_block xs) f g)

    else_kept : (x : tree.Else) → Kept (DerivesElse x) (leaf.in_else x)
    else_kept tree.no_else = so nothing (λ e. refl)
    else_kept (tree.else_block body) = takes >>= λ a. braced_kept _ (block_kept body)

    handlers_kept : (x : tree.Handlers) → Kept (DerivesHandlers x) (leaf.in_handlers x)
    handlers_kept tree.no_more = so nothing (λ e. refl)
    handlers_kept (tree.handler x body more) =
        takes >>= λ a. takes >>= λ f. braced_kept _ (block_kept body) >>= λ g. so (handlers_kept more) (λ i. also (named x) (leaf.in_block body ++ leaf.in_handlers more) f (both (leaf.in_block body) (leaf.in_handlers more) g i))

  -- items

  constant_form_kept : (line : ℕ) (f : ConstantForm) → Kept (DerivesConstantForm line f) (leaf.in_form f)
  constant_form_kept line (constant.Number n) = so at (λ e. refl)
  constant_form_kept line (constant.Negative n) = at >>= λ a. ends refl
  constant_form_kept line (constant.Time n u) = at >>= λ a. so (unit_taken u) (λ f. one (in_unit u) f)
  constant_form_kept line (constant.Logic value) = so at (λ e. refl)
  constant_form_kept line (constant.Truth b) = so at (λ e. refl)

  constant_kept : (c : Constant) → Kept (DerivesConstant c) (leaf.in_form c.form)
  constant_kept c = constant_form_kept c.line c.form

  first_value_kept : (o : Option Constant) → Kept (Maybe DerivesFirstValue o) (leaf.in_constant o)
  first_value_kept o = maybe_kept DerivesFirstValue (λ (c : Constant). leaf.in_form c.form) leaf.in_constant refl (λ x. refl) (λ c. takes >>= λ a. constant_kept c) o

  time_kept : (t : Span) → KeepsBy (may_token h) (DerivesTime t) (may_have h (in_unit t.unit) ≡ true)
  time_kept t = takes >>= λ a. unit_taken t.unit

  start_kept : (o : Option Span) → Kept (Maybe DerivesStart o) (leaf.in_span o)
  start_kept o = maybe_kept DerivesStart (λ (t : Span). in_unit t.unit ∷ []) leaf.in_span refl (λ x. refl) (λ t. takes >>= λ a. so (time_kept t) (λ f. one (in_unit t.unit) f)) o

  interface_passed : (First : Token → Rule) (i : Interface) → ((t : Token) → Passed (First t)) → Passed (DerivesInterface First i)
  interface_passed First (interface.In t) begins = begins (word w.In) >>= λ a. type_passed t
  interface_passed First (interface.Out t) begins = begins (word w.Out) >>= λ a. type_passed t
  interface_passed First (interface.FifoIn t) begins = begins (word w.FifoIn) >>= λ a. type_passed t
  interface_passed First (interface.FifoOut t) begins = begins (word w.FifoOut) >>= λ a. type_passed t
  interface_passed First interface.Mutex begins = begins (word w.MutexPort)
  interface_passed First interface.Semaphore begins = begins (word w.SemaphorePort)

  bound_passed : (b : BoundRule) → Passed (DerivesBound b)
  bound_passed bound.One = nothing
  bound_passed bound.Zero = token
  bound_passed bound.All = token

  size_passed : (o : Option PortSize) → Passed (Maybe DerivesPortSize o)
  size_passed o = maybe_passed DerivesPortSize (λ p. takes >>= λ a. takes >>= λ b. bound_passed p.rule >>= λ c. token) o

  handler_kept : (v : Word) (o : Option (List ℕ)) → Kept (Maybe (DerivesHandler v) o) (leaf.name_if o)
  handler_kept v o = maybe_kept (DerivesHandler v) (λ x. named x ∷ []) leaf.name_if refl (λ x. refl) (λ x. takes >>= λ a. so takes (λ f. one (named x) f)) o

  initiator_kept : (x : InitiatorRole) → Kept (DerivesInitiatorRole x) (leaf.in_initiator x)
  initiator_kept initiator.Pass = ends refl
  initiator_kept (initiator.Own bw) = handler_kept w.Bw bw

  socket_kept : (x : TargetRole) → Kept (DerivesTargetRole x) (leaf.in_socket x)
  socket_kept target.Pass = ends refl
  socket_kept (target.Own bt fw) = handler_kept w.Bt bt >>= λ f. so (handler_kept w.Fw fw) (λ g. both (leaf.name_if bt) (leaf.name_if fw) f g)

  end_kept : (e : End) → Kept (DerivesEnd e) (leaf.in_end e)
  end_kept e = at >>= λ f. so (member_kept e.member) (λ g. also (named e.name) (leaf.name_if e.member) f g)

  mode_passed : (inout : Bool) (line : ℕ) (t : VarType) → Passed (DerivesMode inout line t)
  mode_passed true line t = at >>= λ a. var_type_passed t
  mode_passed false line t = var_type_at_passed line t

  parameter_kept : (p : Parameter) → Kept (DerivesParameter p) (leaf.in_parameter p)
  parameter_kept p = mode_passed p.inout p.line p.var_type >>= λ a. so takes (λ f. one (named p.name) f)

  parameters_kept : (ps : List Parameter) → Kept (DerivesParameters ps) (flat_map leaf.in_parameter ps)
  parameters_kept [] = takes >>= λ a. ends refl
  parameters_kept (p ∷ ps) = takes >>= λ a. separated_kept (symbol s.Comma) DerivesParameter leaf.in_parameter parameter_kept (p ∷ ps) >>= λ f. ends f

  answer_passed : (o : Option VarType) → Passed (Maybe DerivesAnswer o)
  answer_passed o = maybe_passed DerivesAnswer (λ t. takes >>= λ a. var_type_passed t) o

  fifo_size_passed : (o : Option ℕ) → Passed (Maybe DerivesFifoSize o)
  fifo_size_passed o = maybe_passed DerivesFifoSize (λ n. takes >>= λ a. token) o

  item_kept : (x : tree.Item) → Kept (DerivesItem x) (leaf.in_item x)
  item_kept (tree.signal line i) =
      at >>= λ a. written (word w.Many) i.many >>= λ b. type_passed i.value_type >>= λ c. takes >>= λ f. first_value_kept i.initial >>= λ g. ends (also (named i.name) (leaf.in_constant i.initial) f g)
  item_kept (tree.resolved line x) = at >>= λ a. takes >>= λ f. ends (one (named x) f)
  item_kept (tree.clock line c) =
      at >>= λ a. takes >>= λ f. takes >>= λ b. time_kept c.period >>= λ g. takes >>= λ d. time_kept c.high >>= λ i. start_kept c.start >>= λ j. ends (also (named c.name) (in_unit c.period.unit ∷ in_unit c.high.unit ∷ leaf.in_span c.start) f (also (in_unit c.period.unit) (in_unit c.high.unit ∷ leaf.in_span c.start) g (also (in_unit c.high.unit) (leaf.in_span c.start) i j)))
  item_kept (tree.fifo line t x size) = at >>= λ a. type_passed t >>= λ b. takes >>= λ f. fifo_size_passed size >>= λ c. ends (one (named x) f)
  item_kept (tree.plain line k x) = at >>= λ a. takes >>= λ f. ends (one (named x) f)
  item_kept (tree.semaphore line x c) = at >>= λ a. takes >>= λ f. constant_kept c >>= λ g. ends (also (named x) (leaf.in_form c.form) f g)
  item_kept (tree.memory line x size) = at >>= λ a. takes >>= λ f. takes >>= λ b. takes >>= λ c. takes >>= λ d. ends (one (named x) f)
  item_kept (tree.variable line t x c) = at >>= λ a. var_type_passed t >>= λ b. takes >>= λ f. first_value_kept c >>= λ g. ends (also (named x) (leaf.in_constant c) f g)
  item_kept (tree.port line i x size) = interface_passed (At line) i (λ t. passes at) >>= λ a. takes >>= λ f. size_passed size >>= λ b. ends (one (named x) f)
  item_kept (tree.export line i x) = at >>= λ a. interface_passed Takes i (λ t. token) >>= λ b. takes >>= λ f. ends (one (named x) f)
  item_kept (tree.initiator line x role) = at >>= λ a. takes >>= λ f. initiator_kept role >>= λ g. ends (also (named x) (leaf.in_initiator role) f g)
  item_kept (tree.target line x role) = at >>= λ a. takes >>= λ f. socket_kept role >>= λ g. ends (also (named x) (leaf.in_socket role) f g)
  item_kept (tree.instance line kind x) = at >>= λ a. takes >>= λ f. takes >>= λ g. ends (also (named kind) (named x ∷ []) f (one (named x) g))
  item_kept (tree.bind line left right) = at >>= λ a. end_kept left >>= λ f. takes >>= λ b. end_kept right >>= λ g. ends (both (leaf.in_end left) (leaf.in_end right) f g)
  item_kept (tree.function line f) =
      at >>= λ a. takes >>= λ g. parameters_kept f.parameters >>= λ i. answer_passed f.answer >>= λ b. so (braced_kept _ (block_kept f.body)) (λ j. also (named f.name) (flat_map leaf.in_parameter f.parameters ++ leaf.in_block f.body) g (both (flat_map leaf.in_parameter f.parameters) (leaf.in_block f.body) i j))
  item_kept (tree.process line p) =
      at >>= λ a. takes >>= λ f. sensitive_kept p.sensitive >>= λ g. written (word w.DontInitialize) p.dont_initialize >>= λ b. so (braced_kept _ (block_kept p.body)) (λ i. also (named p.name) (leaf.in_events p.sensitive ++ leaf.in_block p.body) f (both (leaf.in_events p.sensitive) (leaf.in_block p.body) g i))

  module_kept : (m : tree.Module) → Kept (DerivesModule m) (leaf.in_module m)
  module_kept m = at >>= λ a. takes >>= λ f. takes >>= λ b. each_kept DerivesItem leaf.in_item item_kept m.items >>= λ g. ends (also (named m.name) (flat_map leaf.in_item m.items) f g)

  model_kept : (m : tree.Model) → Kept (DerivesModel m) (leaf.leaves_of m)
  model_kept m =
      each_kept DerivesModule leaf.in_module module_kept m.modules >>= λ f. (at >>= λ a. takes >>= λ g. takes >>= λ i. ends (both (flat_map leaf.in_module m.modules) (named m.top.module ∷ named m.top.name ∷ []) f (also (named m.top.module) (named m.top.name ∷ []) g (one (named m.top.name) i))))

  -- what tokens derive that may all stand in a text with this head
  pub keeps : (m : tree.Model) (ts rest : Tokens) → DerivesModel m ts rest → each_is (may_token h) ts ≡ true → leaf.keeps_language h m ≡ true
  keeps m ts rest derived all = ((model_kept m).kept ts rest derived all).0
