-- The constructs of a model beside its statements break no rule on what is reached, so its fault is that of the first statement.
use Rattle.std.proofs.Common.{◌≡◌, ℕ, Bool, true, false, List, [], ◌∷◌, ◌++◌, map, Option, Some, None, refl, sym, ap, ◌∙◌}
use Rattle.std.specs.Option.{option_or}
use Rattle.std.proofs.lemmas.List.{map-append}
use Rattle.std.proofs.lemmas.List.Elements.{filter_map-append}
use Rattle.model_tree.specs.Tree as tree
use Rattle.model_tree.specs.Parts as part
use Rattle.model_tree.proofs.Parts.{linked}
use Rattle.model_tree.specs.declared.faults.Fault.{Fault}
use Rattle.model_tree.specs.declared.types.VarType.{VarType}
use Rattle.model_tree.specs.declared.types.VarType.TheVariants as var_type
use Rattle.model_tree.specs.declared.types.Interface.{Interface}
use Rattle.model_tree.specs.declared.types.Interface.TheVariants as interface
use Rattle.model_tree.specs.declared.types.Constant.{Constant}
use Rattle.model_tree.specs.declared.types.Parameter.{Parameter}
use Rattle.check_expressions.specs.ModelRules.declared.needs.Need.{Need}
use Rattle.check_expressions.specs.ModelRules.declared.needs.Need.TheVariants as need_of
use Rattle.check_expressions.specs.ModelRules.Scopes.{Scope, item_scope, with_local, with_parameters, behind, past, in_unwind, locals_in_block}
use Rattle.check_expressions.specs.ModelRules.Names.{first}
use Rattle.check_expressions.specs.ModelRules.Sites.{Site, site, of_statement, type_site, variable_type_sites, interface_sites, constant_sites, sites_as, expression_sites, option_sites, argument_sites, place_sites, channel_sites, event_need, event_sites, events_sites, waiting_sites, notification_sites, operation_parts, access_need, part_sites, action_parts, statement_sites, block_sites, else_sites, handler_sites, parameter_sites, answer_sites, function_scope, around_item, item_sites, items_sites, module_sites, modules_sites, top_site, sites}
use Rattle.check_expressions.specs.ModelRules.Passes.{fault_at, fault_of, reaches}
use Rattle.check_expressions.specs.ModelRules.Reach.{Placed, body_of, bodies_in, all_in_statement, all_in_block, all_in_else, all_in_handlers}
use Rattle.check_expressions.proofs.ModelRules.Firsts.{first_append}
use Rattle.check_reach.specs.Flat.{flat_of, flats_in}
use Rattle.check_reach.proofs.JudgeLaws.{same_site}
use Rattle.check_reach.specs.Findings.{placed_scope, placed_fault, flat_fault, module_fault}

abbrev Quiet : List Site → Type 0
Quiet xs = fault_of reaches xs ≡ None

skip : (xs ys : List Site) → Quiet xs → fault_of reaches (xs ++ ys) ≡ fault_of reaches ys
skip xs ys h = first_append (fault_at reaches) xs ys ∙ ap (λ o. option_or o (fault_of reaches ys)) h

both : (xs ys : List Site) → Quiet xs → Quiet ys → Quiet (xs ++ ys)
both xs ys h k = skip xs ys h ∙ k

-- expressions

in_expression : (need : Need) (s : Scope) (e : tree.Expression) → Quiet (sites_as need s e)
in_expression need s (tree.number line n) = refl
in_expression need s (tree.time line n unit) = refl
in_expression need s (tree.logic line digits) = refl
in_expression need s (tree.truth line b) = refl
in_expression need s (tree.now line) = refl
in_expression need s (tree.myself line) = refl
in_expression need s (tree.constant line word) = refl
in_expression need s (tree.paren line e) = in_expression need_of.Readable s e
in_expression need s (tree.convert line c e) = in_expression need_of.Readable s e
in_expression need s (tree.to_vector line width e) = in_expression need_of.Readable s e
in_expression need s (tree.concat line upper lower) =
    both (sites_as need_of.Readable s upper) (sites_as need_of.Readable s lower) (in_expression need_of.Readable s upper) (in_expression need_of.Readable s lower)
in_expression need s (tree.named line name) = refl
in_expression need s (tree.placed line name n) = refl
in_expression need s (tree.placed_by line name e) = in_expression need_of.Readable s e
in_expression need s (tree.member e name) = in_expression need_of.Object s e
in_expression need s (tree.element e index) =
    both (sites_as need_of.Indexed s e) (sites_as need_of.Readable s index) (in_expression need_of.Indexed s e) (in_expression need_of.Readable s index)
in_expression need s (tree.slice e high low) = in_expression need_of.Readable s e
in_expression need s (tree.unary line op e) = in_expression need_of.Readable s e
in_expression need s (tree.binary op left right) =
    both (sites_as need_of.Readable s left) (sites_as need_of.Readable s right) (in_expression need_of.Readable s left) (in_expression need_of.Readable s right)

in_value : (s : Scope) (e : tree.Expression) → Quiet (expression_sites s e)
in_value s e = in_expression need_of.Readable s e

in_option : (s : Scope) (o : Option tree.Expression) → Quiet (option_sites s o)
in_option s None = refl
in_option s (Some e) = in_value s e

in_arguments : (s : Scope) (es : List tree.Expression) → Quiet (argument_sites s es)
in_arguments s [] = refl
in_arguments s (e ∷ es) = both (expression_sites s e) (argument_sites s es) (in_value s e) (in_arguments s es)

-- channels and events

in_place : (s : Scope) (p : tree.Place) → Quiet (place_sites s p)
in_place s tree.first = refl
in_place s (tree.place_number n) = refl
in_place s (tree.computed e) = in_value s e

in_channel : (s : Scope) (need : Need) (c : tree.Channel) → Quiet (channel_sites s need c)
in_channel s need c = in_place s c.place

in_event : (s : Scope) (static : Bool) (e : tree.Event) → Quiet (event_sites s static e)
in_event s static e = in_channel s (event_need static e.member) e.channel

in_events : (s : Scope) (static : Bool) (es : List tree.Event) → Quiet (events_sites s static es)
in_events s static [] = refl
in_events s static (e ∷ es) = both (event_sites s static e) (events_sites s static es) (in_event s static e) (in_events s static es)

in_waiting : (s : Scope) (w : tree.Waiting) → Quiet (waiting_sites s w)
in_waiting s tree.static = refl
in_waiting s tree.delta = refl
in_waiting s (tree.for_ e) = in_value s e
in_waiting s (tree.one e t) = both (event_sites s false e) (option_sites s t) (in_event s false e) (in_option s t)
in_waiting s (tree.any es t) = both (events_sites s false es) (option_sites s t) (in_events s false es) (in_option s t)
in_waiting s (tree.all es t) = both (events_sites s false es) (option_sites s t) (in_events s false es) (in_option s t)

in_notification : (s : Scope) (n : tree.Notification) → Quiet (notification_sites s n)
in_notification s tree.immediate = refl
in_notification s tree.next_delta = refl
in_notification s (tree.after e) = in_value s e

-- parts of statements

in_operation : (s : Scope) (o : tree.Operation) → Quiet (operation_parts s o)
in_operation s (tree.call name arguments) = in_arguments s arguments
in_operation s (tree.read c) = in_channel s need_of.Taken c
in_operation s (tree.nb_read c name) = in_channel s need_of.Taken c
in_operation s (tree.nb_write c e) = both (channel_sites s need_of.Put c) (expression_sites s e) (in_channel s need_of.Put c) (in_value s e)
in_operation s (tree.trylock c) = in_channel s need_of.Mutex c
in_operation s (tree.unlock c) = in_channel s need_of.Mutex c
in_operation s (tree.sem_trywait c) = in_channel s need_of.Semaphore c
in_operation s (tree.nb_transport socket p phase delay) = refl

in_part : (s : Scope) (p : part.Part) → Quiet (part_sites s p)
in_part s (part.name r name) = refl
in_part s (part.next_name r name) = refl
in_part s (part.reaching_name r name all) = refl
in_part s (part.text x) = refl
in_part s (part.term u e) = in_value s e
in_part s (part.term_if u e) = in_option s e
in_part s (part.next_term u e) = in_value s e
in_part s (part.next_term_if u e) = in_option s e
in_part s (part.channel u c) = in_channel s (access_need u) c
in_part s (part.waiting w) = in_waiting s w
in_part s (part.notification n) = in_notification s n
in_part s (part.instance x) = both (argument_sites s x.arguments) (events_sites s true x.sensitive) (in_arguments s x.arguments) (in_events s true x.sensitive)
in_part s (part.process w) = refl
in_part s (part.reaching_process w all) = refl

in_action : (s : Scope) (a : tree.Action) → Quiet (action_parts s a)
in_action s a = linked (λ xs us. Quiet xs) (part_sites s) (part_sites s) (λ xs ys. xs ++ ys) (λ xs ys. xs ++ ys) [] [] (λ xs ys us vs a b. both xs ys a b) (in_part s) refl (part.parts_of a)

in_type : (s : Scope) (t : VarType) → Quiet (variable_type_sites s t)
in_type s (var_type.Plain t) = refl
in_type s var_type.Time = refl
in_type s var_type.Process = refl
in_type s var_type.Payload = refl

-- statements

-- of a place only the module, the body and unwind blocks matter
abbrev judge : Scope → Placed → Option Fault
judge s = placed_fault s.items s.around

abbrev walked : tree.Block → Scope → Option Fault
walked b s = first (judge s) (all_in_block b s.unwinding)

behind_walked : (x : tree.Statement) (s : Scope) (b : tree.Block) → walked b (behind x s) ≡ walked b s
behind_walked (tree.var line t name e) s b = refl
behind_walked (tree.assign line t e) s b = refl
behind_walked (tree.operate line name at o) s b = refl
behind_walked (tree.act line a) s b = refl
behind_walked (tree.if_ line e body other) s b = refl
behind_walked (tree.while_ line e body) s b = refl
behind_walked (tree.guard line body undo) s b = refl
behind_walked (tree.try_ line body handlers) s b = refl

join : (f : Placed → Option Fault) (xs ys : List Site) (ps qs : List Placed) → fault_of reaches xs ≡ first f ps → fault_of reaches ys ≡ first f qs → fault_of reaches (xs ++ ys) ≡ first f (ps ++ qs)
join f xs ys ps qs h k =
    first_append (fault_at reaches) xs ys
    ∙ ap (λ o. option_or o (fault_of reaches ys)) h ∙ ap (option_or (first f ps)) k
    ∙ sym (first_append f ps qs)

step : (s : Scope) (line : ℕ) (x : tree.Statement) (rest found : Option Fault) → rest ≡ found
    → option_or (fault_at reaches (site s line (of_statement x))) rest ≡ option_or (fault_at reaches (site (placed_scope s.items s.around s.unwinding) line (of_statement x))) found
step s line x rest found h = ap (λ o. option_or o rest) (same_site s line x) ∙ ap (option_or (fault_at reaches (site (placed_scope s.items s.around s.unwinding) line (of_statement x)))) h

mutual
  in_statement : (x : tree.Statement) (s : Scope) → fault_of reaches (statement_sites x s) ≡ first (judge s) (all_in_statement x s.unwinding)
  in_statement (tree.var line t name e) s =
      step s line (tree.var line t name e) (fault_of reaches (variable_type_sites s t ++ option_sites s e)) None (both (variable_type_sites s t) (option_sites s e) (in_type s t) (in_option s e))
  in_statement (tree.assign line target e) s =
      step s line (tree.assign line target e) (fault_of reaches (option_sites s target.index ++ expression_sites s e)) None
      (both (option_sites s target.index) (expression_sites s e) (in_option s target.index) (in_value s e))
  in_statement (tree.operate line name at o) s = step s line (tree.operate line name at o) (fault_of reaches (operation_parts s o)) None (in_operation s o)
  in_statement (tree.act line a) s = step s line (tree.act line a) (fault_of reaches (action_parts s a)) None (in_action s a)
  in_statement (tree.if_ line e body other) s =
      let bs = block_sites body s in
      let os = else_sites other (past (locals_in_block body) s) in
      let ps = all_in_block body s.unwinding in
      let qs = all_in_else other s.unwinding in
      let es = expression_sites s e in
      step s line (tree.if_ line e body other) (fault_of reaches ((es ++ bs) ++ os)) (first (judge s) (ps ++ qs))
      (join (judge s) (es ++ bs) os ps qs (skip es bs (in_value s e) ∙ in_block body s) (in_else other (past (locals_in_block body) s)))
  in_statement (tree.while_ line e body) s =
      step s line (tree.while_ line e body) (fault_of reaches (expression_sites s e ++ block_sites body s)) (first (judge s) (all_in_block body s.unwinding))
      (skip (expression_sites s e) (block_sites body s) (in_value s e) ∙ in_block body s)
  in_statement (tree.guard line body undo) s =
      let bs = block_sites body s in
      let us = block_sites undo (in_unwind (past (locals_in_block body) s)) in
      let ps = all_in_block body s.unwinding in
      let qs = all_in_block undo true in
      step s line (tree.guard line body undo) (fault_of reaches (bs ++ us)) (first (judge s) (ps ++ qs))
      (join (judge s) bs us ps qs (in_block body s) (in_block undo (in_unwind (past (locals_in_block body) s))))
  in_statement (tree.try_ line body handlers) s =
      let bs = block_sites body s in
      let hs = handler_sites handlers (past (locals_in_block body) s) in
      let ps = all_in_block body s.unwinding in
      let qs = all_in_handlers handlers s.unwinding in
      step s line (tree.try_ line body handlers) (fault_of reaches (bs ++ hs)) (first (judge s) (ps ++ qs))
      (join (judge s) bs hs ps qs (in_block body s) (in_handlers handlers (past (locals_in_block body) s)))

  in_block : (b : tree.Block) (s : Scope) → fault_of reaches (block_sites b s) ≡ walked b s
  in_block tree.over s = refl
  in_block (tree.then x xs) s =
      join (judge s) (statement_sites x s) (block_sites xs (behind x s)) (all_in_statement x s.unwinding) (all_in_block xs s.unwinding)
      (in_statement x s) (in_block xs (behind x s) ∙ behind_walked x s xs)

  in_else : (o : tree.Else) (s : Scope) → fault_of reaches (else_sites o s) ≡ first (judge s) (all_in_else o s.unwinding)
  in_else tree.no_else s = refl
  in_else (tree.else_block body) s = in_block body s

  in_handlers : (hs : tree.Handlers) (s : Scope) → fault_of reaches (handler_sites hs s) ≡ first (judge s) (all_in_handlers hs s.unwinding)
  in_handlers tree.no_more s = refl
  in_handlers (tree.handler name body more) s =
      join (judge s) (block_sites body s) (handler_sites more (past (locals_in_block body) s)) (all_in_block body s.unwinding) (all_in_handlers more s.unwinding)
      (in_block body s) (in_handlers more (past (locals_in_block body) s))

-- items

in_interface : (s : Scope) (i : Interface) → Quiet (interface_sites s i)
in_interface s (interface.In t) = refl
in_interface s (interface.Out t) = refl
in_interface s (interface.FifoIn t) = refl
in_interface s (interface.FifoOut t) = refl
in_interface s interface.Mutex = refl
in_interface s interface.Semaphore = refl

in_constant : (s : Scope) (c : Option Constant) → Quiet (constant_sites s c)
in_constant s None = refl
in_constant s (Some c) = refl

in_parameters : (s : Scope) (ps : List Parameter) → Quiet (parameter_sites s ps)
in_parameters s [] = refl
in_parameters s (p ∷ ps) =
    both (variable_type_sites s p.var_type) (parameter_sites (with_local s p.name p.var_type) ps) (in_type s p.var_type) (in_parameters (with_local s p.name p.var_type) ps)

in_answer : (s : Scope) (t : Option VarType) → Quiet (answer_sites s t)
in_answer s None = refl
in_answer s (Some t) = in_type s t

parameters_walked : (ps : List Parameter) (s : Scope) (b : tree.Block) → walked b (with_parameters s ps) ≡ walked b s
parameters_walked [] s b = refl
parameters_walked (p ∷ ps) s b = parameters_walked ps (with_local s p.name p.var_type) b

or_nothing : {A : Type 0} (o : Option A) → option_or o None ≡ o
or_nothing None = refl
or_nothing (Some x) = refl

pub next_flats : (i : tree.Item) (is : List tree.Item) → flats_in (i ∷ is) ≡ flats_in (i ∷ []) ++ flats_in is
next_flats i is = ap (map flat_of) (filter_map-append body_of (i ∷ []) is) ∙ map-append flat_of (bodies_in (i ∷ [])) (bodies_in is)

module _ (modules : List tree.Module) (all : List tree.Item) where
  abbrev scope : tree.Item → Scope
  scope i = item_scope modules all (around_item i)

  in_item : (before : List tree.Item) (i : tree.Item) → fault_of reaches (item_sites (scope i) before i) ≡ first (flat_fault all) (flats_in (i ∷ []))
  in_item before (tree.signal line x) =
      let s = scope (tree.signal line x) in both (type_site s x.value_type) (constant_sites s x.initial) refl (in_constant s x.initial)
  in_item before (tree.resolved line name) = refl
  in_item before (tree.clock line c) = refl
  in_item before (tree.fifo line t name size) = refl
  in_item before (tree.plain line kind name) = refl
  in_item before (tree.semaphore line name c) = refl
  in_item before (tree.memory line name size) = refl
  in_item before (tree.variable line t name c) =
      let s = scope (tree.variable line t name c) in both (variable_type_sites s t) (constant_sites s c) (in_type s t) (in_constant s c)
  in_item before (tree.port line i name size) = in_interface (scope (tree.port line i name size)) i
  in_item before (tree.export line i name) = in_interface (scope (tree.export line i name)) i
  in_item before (tree.initiator line name role) = refl
  in_item before (tree.target line name role) = refl
  in_item before (tree.instance line kind name) = refl
  in_item before (tree.bind line left right) = refl
  in_item before (tree.function line f) =
      let s = scope (tree.function line f) in
      skip (parameter_sites s f.parameters ++ answer_sites s f.answer) (block_sites f.body (function_scope s f))
      (both (parameter_sites s f.parameters) (answer_sites s f.answer) (in_parameters s f.parameters) (in_answer s f.answer))
      ∙ in_block f.body (function_scope s f)
      ∙ parameters_walked f.parameters (record s { answer = f.answer }) f.body
      ∙ sym (or_nothing (walked f.body s))
  in_item before (tree.process line p) =
      let s = scope (tree.process line p) in
      skip (events_sites s true p.sensitive) (block_sites p.body s) (in_events s true p.sensitive)
      ∙ in_block p.body s
      ∙ sym (or_nothing (walked p.body s))

  in_items : (before is : List tree.Item) → fault_of reaches (items_sites modules all before is) ≡ first (flat_fault all) (flats_in is)
  in_items before [] = refl
  in_items before (i ∷ is) =
      let here = item_sites (scope i) before i in
      let rest = items_sites modules all (before ++ i ∷ []) is in
      first_append (fault_at reaches) here rest
      ∙ ap (λ o. option_or o (fault_of reaches rest)) (in_item before i)
      ∙ ap (option_or (first (flat_fault all) (flats_in (i ∷ [])))) (in_items (before ++ i ∷ []) is)
      ∙ sym (first_append (flat_fault all) (flats_in (i ∷ [])) (flats_in is))
      ∙ ap (first (flat_fault all)) (sym (next_flats i is))

-- modules

in_modules : (all before ms : List tree.Module) → fault_of reaches (modules_sites all before ms) ≡ first module_fault ms
in_modules all before [] = refl
in_modules all before (m ∷ ms) =
    let here = module_sites all before m in
    let rest = modules_sites all (before ++ m ∷ []) ms in
    first_append (fault_at reaches) here rest
    ∙ ap (λ o. option_or o (fault_of reaches rest)) (in_items all m.items [] m.items)
    ∙ ap (option_or (module_fault m)) (in_modules all (before ++ m ∷ []) ms)

pub statements_decide : (m : tree.Model) → first module_fault m.modules ≡ fault_of reaches (sites m)
statements_decide m =
    sym (first_append (fault_at reaches) (modules_sites m.modules [] m.modules) (top_site m.modules m.top ∷ [])
    ∙ or_nothing (fault_of reaches (modules_sites m.modules [] m.modules))
    ∙ in_modules m.modules [] m.modules)
