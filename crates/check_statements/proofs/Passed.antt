-- The constructs of a model are walked along without those that declare no name: they are never a double one.
use Rattle.std.proofs.Common.{◌≡◌, Bool, true, false, List, [], ◌∷◌, ◌++◌, Option, Some, None, refl, ap, ◌∙◌}
use Rattle.std.specs.Option.{option_or}
use Rattle.model_tree.specs.Tree as tree
use Rattle.model_tree.specs.Parts as part
use Rattle.model_tree.proofs.Parts.{linked}
use Rattle.model_tree.specs.declared.types.VarType.{VarType}
use Rattle.model_tree.specs.declared.types.VarType.TheVariants as var_type
use Rattle.model_tree.specs.declared.types.Interface.{Interface}
use Rattle.model_tree.specs.declared.types.Interface.TheVariants as interface
use Rattle.model_tree.specs.declared.types.Constant.{Constant}
use Rattle.model_tree.specs.declared.types.Parameter.{Parameter}
use Rattle.model_tree.specs.declared.faults.Fault.{Fault}
use Rattle.check_actions.specs.ModelRules.Scopes.{Scope, with_local, with_parameters, locals_in_block, past, behind, in_unwind}
use Rattle.check_actions.specs.ModelRules.declared.needs.Need.{Need}
use Rattle.check_actions.specs.ModelRules.declared.needs.Need.TheVariants as need_of
use Rattle.check_actions.specs.ModelRules.Passes.{doubles, fault_at, fault_of}
use Rattle.check_actions.specs.ModelRules.Sites.{Site, type_site, variable_type_sites, interface_sites, constant_sites, sites_as, expression_sites, option_sites, argument_sites, place_sites, channel_sites, event_need, event_sites, events_sites, waiting_sites, notification_sites, operation_parts, access_need, part_sites, action_parts, statement_sites, block_sites, else_sites, handler_sites, parameter_sites, answer_sites, function_scope, item_parts}
use Rattle.check_actions.proofs.ModelRules.Firsts.{first_append}
use Rattle.check_statements.specs.Doubled.{double_local, in_statement, in_block, in_else, in_handlers, in_parameters, in_item}

-- one behind another

pub or_nothing : {A : Type 0} (o : Option A) → option_or o None ≡ o
or_nothing None = refl
or_nothing (Some x) = refl

fault_append : (xs ys : List Site) → fault_of doubles (xs ++ ys) ≡ option_or (fault_of doubles xs) (fault_of doubles ys)
fault_append xs ys = first_append (fault_at doubles) xs ys

abbrev IsPassed : List Site → Type 0
IsPassed xs = fault_of doubles xs ≡ None

-- what is passed over, with what stands behind it
over : (xs ys : List Site) → IsPassed xs → fault_of doubles (xs ++ ys) ≡ fault_of doubles ys
over xs ys h = fault_append xs ys ∙ ap (λ o. option_or o (fault_of doubles ys)) h

both : (xs ys : List Site) → IsPassed xs → IsPassed ys → IsPassed (xs ++ ys)
both xs ys h k = over xs ys h ∙ k

-- what declares nothing

over_variable_type : (s : Scope) (t : VarType) → IsPassed (variable_type_sites s t)
over_variable_type s (var_type.Plain t) = refl
over_variable_type s var_type.Time = refl
over_variable_type s var_type.Process = refl
over_variable_type s var_type.Payload = refl

over_interface : (s : Scope) (i : Interface) → IsPassed (interface_sites s i)
over_interface s (interface.In t) = refl
over_interface s (interface.Out t) = refl
over_interface s (interface.FifoIn t) = refl
over_interface s (interface.FifoOut t) = refl
over_interface s interface.Mutex = refl
over_interface s interface.Semaphore = refl

over_constant : (s : Scope) (c : Option Constant) → IsPassed (constant_sites s c)
over_constant s None = refl
over_constant s (Some c) = refl

over_expression : (need : Need) (s : Scope) (e : tree.Expression) → IsPassed (sites_as need s e)
over_expression need s (tree.number line n) = refl
over_expression need s (tree.time line n unit) = refl
over_expression need s (tree.logic line digits) = refl
over_expression need s (tree.truth line b) = refl
over_expression need s (tree.now line) = refl
over_expression need s (tree.myself line) = refl
over_expression need s (tree.constant line word) = refl
over_expression need s (tree.paren line e) = over_expression need_of.Readable s e
over_expression need s (tree.convert line c e) = over_expression need_of.Readable s e
over_expression need s (tree.to_vector line width e) = over_expression need_of.Readable s e
over_expression need s (tree.concat line upper lower) =
    both (expression_sites s upper) (expression_sites s lower) (over_expression need_of.Readable s upper) (over_expression need_of.Readable s lower)
over_expression need s (tree.named line name) = refl
over_expression need s (tree.placed line name n) = refl
over_expression need s (tree.placed_by line name e) = over_expression need_of.Readable s e
over_expression need s (tree.member e name) = over_expression need_of.Object s e
over_expression need s (tree.element e index) =
    both (sites_as need_of.Indexed s e) (expression_sites s index) (over_expression need_of.Indexed s e) (over_expression need_of.Readable s index)
over_expression need s (tree.slice e high low) = over_expression need_of.Readable s e
over_expression need s (tree.unary line op e) = over_expression need_of.Readable s e
over_expression need s (tree.binary op left right) =
    both (expression_sites s left) (expression_sites s right) (over_expression need_of.Readable s left) (over_expression need_of.Readable s right)

over_value : (s : Scope) (e : tree.Expression) → IsPassed (expression_sites s e)
over_value s e = over_expression need_of.Readable s e

over_option : (s : Scope) (e : Option tree.Expression) → IsPassed (option_sites s e)
over_option s None = refl
over_option s (Some e) = over_value s e

over_arguments : (s : Scope) (es : List tree.Expression) → IsPassed (argument_sites s es)
over_arguments s [] = refl
over_arguments s (e ∷ es) = both (expression_sites s e) (argument_sites s es) (over_value s e) (over_arguments s es)

over_place : (s : Scope) (p : tree.Place) → IsPassed (place_sites s p)
over_place s tree.first = refl
over_place s (tree.place_number n) = refl
over_place s (tree.computed e) = over_value s e

over_channel : (s : Scope) (need : Need) (c : tree.Channel) → IsPassed (channel_sites s need c)
over_channel s need c = over_place s c.place

over_event : (s : Scope) (static : Bool) (e : tree.Event) → IsPassed (event_sites s static e)
over_event s static e = over_channel s (event_need static e.member) e.channel

over_events : (s : Scope) (static : Bool) (es : List tree.Event) → IsPassed (events_sites s static es)
over_events s static [] = refl
over_events s static (e ∷ es) = both (event_sites s static e) (events_sites s static es) (over_event s static e) (over_events s static es)

over_waiting : (s : Scope) (w : tree.Waiting) → IsPassed (waiting_sites s w)
over_waiting s tree.static = refl
over_waiting s tree.delta = refl
over_waiting s (tree.for_ e) = over_value s e
over_waiting s (tree.one e t) = both (event_sites s false e) (option_sites s t) (over_event s false e) (over_option s t)
over_waiting s (tree.any es t) = both (events_sites s false es) (option_sites s t) (over_events s false es) (over_option s t)
over_waiting s (tree.all es t) = both (events_sites s false es) (option_sites s t) (over_events s false es) (over_option s t)

over_notification : (s : Scope) (n : tree.Notification) → IsPassed (notification_sites s n)
over_notification s tree.immediate = refl
over_notification s tree.next_delta = refl
over_notification s (tree.after e) = over_value s e

over_operation : (s : Scope) (o : tree.Operation) → IsPassed (operation_parts s o)
over_operation s (tree.call name arguments) = over_arguments s arguments
over_operation s (tree.read c) = over_channel s need_of.Taken c
over_operation s (tree.nb_read c name) = over_channel s need_of.Taken c
over_operation s (tree.nb_write c e) = both (channel_sites s need_of.Put c) (expression_sites s e) (over_channel s need_of.Put c) (over_value s e)
over_operation s (tree.trylock c) = over_channel s need_of.Mutex c
over_operation s (tree.unlock c) = over_channel s need_of.Mutex c
over_operation s (tree.sem_trywait c) = over_channel s need_of.Semaphore c
over_operation s (tree.nb_transport socket p phase delay) = refl

over_part : (s : Scope) (p : part.Part) → IsPassed (part_sites s p)
over_part s (part.name r name) = refl
over_part s (part.next_name r name) = refl
over_part s (part.reaching_name r name all) = refl
over_part s (part.text x) = refl
over_part s (part.term u e) = over_value s e
over_part s (part.term_if u e) = over_option s e
over_part s (part.next_term u e) = over_value s e
over_part s (part.next_term_if u e) = over_option s e
over_part s (part.channel u c) = over_channel s (access_need u) c
over_part s (part.waiting w) = over_waiting s w
over_part s (part.notification n) = over_notification s n
over_part s (part.instance x) = both (argument_sites s x.arguments) (events_sites s true x.sensitive) (over_arguments s x.arguments) (over_events s true x.sensitive)
over_part s (part.process w) = refl
over_part s (part.reaching_process w all) = refl

over_action : (s : Scope) (a : tree.Action) → IsPassed (action_parts s a)
over_action s a = linked (λ xs us. IsPassed xs) (part_sites s) (part_sites s) (λ xs ys. xs ++ ys) (λ xs ys. xs ++ ys) [] [] (λ xs ys us vs a b. both xs ys a b) (over_part s) refl (part.parts_of a)

-- statements

-- what of a place tells which names are visible
abbrev pub bare : Scope → Scope
bare s = record { modules = []; items = s.items; locals = s.locals; count = s.count; around = []; answer = None; unwinding = false }

bare_behind : (x : tree.Statement) (s : Scope) → bare (behind x s) ≡ behind x (bare s)
bare_behind (tree.var line t name e) s = refl
bare_behind (tree.assign line t e) s = refl
bare_behind (tree.operate line name at o) s = refl
bare_behind (tree.act line a) s = refl
bare_behind (tree.if_ line e body other) s = refl
bare_behind (tree.while_ line e body) s = refl
bare_behind (tree.guard line body undo) s = refl
bare_behind (tree.try_ line body handlers) s = refl

-- two parts, one behind the other
pub parts : (xs ys : List Site) (a b : Option Fault) → fault_of doubles xs ≡ a → fault_of doubles ys ≡ b → fault_of doubles (xs ++ ys) ≡ option_or a b
parts xs ys a b h k = fault_append xs ys ∙ ap (λ o. option_or o (fault_of doubles ys)) h ∙ ap (option_or a) k

-- one that may be a double name, with what stands behind it
pub headed : (o b : Option Fault) (ys : List Site) → fault_of doubles ys ≡ b → option_or (option_or o None) (fault_of doubles ys) ≡ option_or o b
headed o b ys h = ap (λ x. option_or x (fault_of doubles ys)) (or_nothing o) ∙ ap (option_or o) h

mutual
  pub statement_fault : (x : tree.Statement) (s : Scope) → fault_of doubles (statement_sites x s) ≡ in_statement x (bare s)
  statement_fault (tree.var line t name e) s =
      headed (double_local line name (bare s)) None (variable_type_sites s t ++ option_sites s e) (both (variable_type_sites s t) (option_sites s e) (over_variable_type s t) (over_option s e))
      ∙ or_nothing (double_local line name (bare s))
  statement_fault (tree.assign line target e) s = both (option_sites s target.index) (expression_sites s e) (over_option s target.index) (over_value s e)
  statement_fault (tree.operate line name at o) s = over_operation s o
  statement_fault (tree.act line a) s = over_action s a
  statement_fault (tree.if_ line e body other) s =
      parts (expression_sites s e ++ block_sites body s) (else_sites other (past (locals_in_block body) s)) (in_block body (bare s)) (in_else other (past (locals_in_block body) (bare s)))
      (over (expression_sites s e) (block_sites body s) (over_value s e) ∙ block_fault body s) (else_fault other (past (locals_in_block body) s))
  statement_fault (tree.while_ line e body) s = over (expression_sites s e) (block_sites body s) (over_value s e) ∙ block_fault body s
  statement_fault (tree.guard line body undo) s =
      parts (block_sites body s) (block_sites undo (in_unwind (past (locals_in_block body) s))) (in_block body (bare s)) (in_block undo (past (locals_in_block body) (bare s)))
      (block_fault body s) (block_fault undo (in_unwind (past (locals_in_block body) s)))
  statement_fault (tree.try_ line body handlers) s =
      parts (block_sites body s) (handler_sites handlers (past (locals_in_block body) s)) (in_block body (bare s)) (in_handlers handlers (past (locals_in_block body) (bare s)))
      (block_fault body s) (handlers_fault handlers (past (locals_in_block body) s))

  pub block_fault : (xs : tree.Block) (s : Scope) → fault_of doubles (block_sites xs s) ≡ in_block xs (bare s)
  block_fault tree.over s = refl
  block_fault (tree.then x xs) s =
      parts (statement_sites x s) (block_sites xs (behind x s)) (in_statement x (bare s)) (in_block xs (behind x (bare s)))
      (statement_fault x s) (block_fault xs (behind x s) ∙ ap (in_block xs) (bare_behind x s))

  else_fault : (other : tree.Else) (s : Scope) → fault_of doubles (else_sites other s) ≡ in_else other (bare s)
  else_fault tree.no_else s = refl
  else_fault (tree.else_block body) s = block_fault body s

  handlers_fault : (handlers : tree.Handlers) (s : Scope) → fault_of doubles (handler_sites handlers s) ≡ in_handlers handlers (bare s)
  handlers_fault tree.no_more s = refl
  handlers_fault (tree.handler name body more) s =
      parts (block_sites body s) (handler_sites more (past (locals_in_block body) s)) (in_block body (bare s)) (in_handlers more (past (locals_in_block body) (bare s)))
      (block_fault body s) (handlers_fault more (past (locals_in_block body) s))

-- items

parameters_fault : (s : Scope) (ps : List Parameter) → fault_of doubles (parameter_sites s ps) ≡ in_parameters ps (bare s)
parameters_fault s [] = refl
parameters_fault s (p ∷ ps) =
    headed (double_local p.line p.name (bare s)) (in_parameters ps (with_local (bare s) p.name p.var_type)) (variable_type_sites s p.var_type ++ parameter_sites (with_local s p.name p.var_type) ps)
    (over (variable_type_sites s p.var_type) (parameter_sites (with_local s p.name p.var_type) ps) (over_variable_type s p.var_type) ∙ parameters_fault (with_local s p.name p.var_type) ps)

bare_parameters : (s : Scope) (ps : List Parameter) → bare (with_parameters s ps) ≡ with_parameters (bare s) ps
bare_parameters s [] = refl
bare_parameters s (p ∷ ps) = bare_parameters (with_local s p.name p.var_type) ps

over_answer : (s : Scope) (t : Option VarType) → IsPassed (answer_sites s t)
over_answer s None = refl
over_answer s (Some t) = over_variable_type s t

pub item_fault : (s : Scope) (i : tree.Item) → fault_of doubles (item_parts s i) ≡ in_item i (bare s)
item_fault s (tree.signal line x) = both (type_site s x.value_type) (constant_sites s x.initial) refl (over_constant s x.initial)
item_fault s (tree.resolved line name) = refl
item_fault s (tree.clock line c) = refl
item_fault s (tree.fifo line t name size) = refl
item_fault s (tree.plain line kind name) = refl
item_fault s (tree.semaphore line name c) = refl
item_fault s (tree.memory line name size) = refl
item_fault s (tree.variable line t name c) = both (variable_type_sites s t) (constant_sites s c) (over_variable_type s t) (over_constant s c)
item_fault s (tree.port line i name size) = over_interface s i
item_fault s (tree.export line i name) = over_interface s i
item_fault s (tree.initiator line name role) = refl
item_fault s (tree.target line name role) = refl
item_fault s (tree.instance line kind name) = refl
item_fault s (tree.bind line left right) = refl
item_fault s (tree.function line f) =
    parts (parameter_sites s f.parameters ++ answer_sites s f.answer) (block_sites f.body (function_scope s f)) (in_parameters f.parameters (bare s)) (in_block f.body (with_parameters (bare s) f.parameters))
    (parts (parameter_sites s f.parameters) (answer_sites s f.answer) (in_parameters f.parameters (bare s)) None (parameters_fault s f.parameters) (over_answer s f.answer)
    ∙ or_nothing (in_parameters f.parameters (bare s)))
    (block_fault f.body (function_scope s f) ∙ ap (in_block f.body) (bare_parameters (record s { answer = f.answer }) f.parameters))
item_fault s (tree.process line p) = over (events_sites s true p.sensitive) (block_sites p.body s) (over_events s true p.sensitive) ∙ block_fault p.body s
