-- Types are known at each place of a model without a first fault.
use Rattle.std.proofs.Common.{◌≡◌, Bool, true, false, List, [], ◌∷◌, ◌++◌, Option, Some, None}
use Rattle.std.specs.List.{AllByRecursion}
use Rattle.code_rules.specs.ModelTree.Tree as tree
use Rattle.model_tree.specs.Parts as made
use Rattle.model_tree.proofs.Parts.{linked}
use Rattle.code_rules.specs.ModelTree.Lines.{item_line}
use Rattle.code_rules.specs.ModelTree.declared.types.VarType.{VarType}
use Rattle.code_rules.specs.ModelTree.declared.types.VarType.TheVariants as var_type
use Rattle.code_rules.specs.ModelTree.declared.types.Interface.{Interface}
use Rattle.code_rules.specs.ModelTree.declared.types.Interface.TheVariants as interface
use Rattle.code_rules.specs.ModelTree.declared.types.Constant.{Constant}
use Rattle.code_rules.specs.ModelTree.declared.types.Parameter.{Parameter}
use Rattle.code_rules.specs.ModelRules.Meanings.{declarations}
use Rattle.code_rules.specs.ModelRules.Scopes.{Scope, item_scope, with_local, locals_in_block, past, behind, in_unwind}
use Rattle.code_rules.specs.ModelRules.declared.needs.Need.{Need}
use Rattle.code_rules.specs.ModelRules.declared.needs.Need.TheVariants as need_of
use Rattle.code_rules.specs.ModelRules.Sites as part
use Rattle.code_rules.specs.ModelRules.Sites.{Site, site, type_site, variable_type_sites, interface_sites, constant_sites, sites_as, expression_sites, option_sites, argument_sites, place_sites, channel_sites, event_need, event_sites, events_sites, waiting_sites, notification_sites, operation_parts, access_need, part_sites, action_parts, statement_sites, block_sites, else_sites, handler_sites, parameter_sites, answer_sites, function_scope, item_parts, item_sites, around_item, items_sites, module_sites, modules_sites, top_site, sites}
use Rattle.code_rules.specs.ModelRules.Passes.{constructs, fault_of, first_fault}
use Rattle.laws_code.specs.Known.{TypesAreKnown}
use Rattle.laws_code.proofs.Typed.{parts_none, head_none}
use Rattle.laws_code.proofs.Known.{variable_known, local_known}
use Rattle.laws_code.proofs.Declared.{IsKnown, items_known, scope_known, parameters_typed, parameters_known}
use Rattle.laws_code.proofs.Blocks.{behind_known}
use Rattle.laws_code.proofs.Models.{all_joined, constructs_none}

abbrev AllKnown : List Site → Type 0
AllKnown xs = AllByRecursion (λ (x : Site). TypesAreKnown x.scope) xs

joined : (xs ys : List Site) → AllKnown xs → AllKnown ys → AllKnown (xs ++ ys)
joined xs ys h k = all_joined _ xs ys h k

module _ (s : Scope) (known : TypesAreKnown s) where
  types_there : (t : VarType) → AllKnown (variable_type_sites s t)
  types_there (var_type.Plain t) = (known, tt)
  types_there var_type.Time = tt
  types_there var_type.Process = tt
  types_there var_type.Payload = tt

  interface_there : (i : Interface) → AllKnown (interface_sites s i)
  interface_there (interface.In t) = (known, tt)
  interface_there (interface.Out t) = (known, tt)
  interface_there (interface.FifoIn t) = (known, tt)
  interface_there (interface.FifoOut t) = (known, tt)
  interface_there interface.Mutex = tt
  interface_there interface.Semaphore = tt

  constant_there : (c : Option Constant) → AllKnown (constant_sites s c)
  constant_there None = tt
  constant_there (Some c) = (known, tt)

  parts_there : (need : Need) (e : tree.Expression) → AllKnown (sites_as need s e)
  parts_there need (tree.number line n) = (known, tt)
  parts_there need (tree.time line n unit) = (known, tt)
  parts_there need (tree.logic line digits) = (known, tt)
  parts_there need (tree.truth line b) = (known, tt)
  parts_there need (tree.now line) = (known, tt)
  parts_there need (tree.myself line) = (known, tt)
  parts_there need (tree.constant line word) = (known, tt)
  parts_there need (tree.paren line e) = (known, parts_there need_of.Readable e)
  parts_there need (tree.convert line c e) = (known, parts_there need_of.Readable e)
  parts_there need (tree.to_vector line width e) = (known, parts_there need_of.Readable e)
  parts_there need (tree.concat line upper lower) = (known, joined (sites_as need_of.Readable s upper) (sites_as need_of.Readable s lower) (parts_there need_of.Readable upper) (parts_there need_of.Readable lower))
  parts_there need (tree.named line name) = (known, tt)
  parts_there need (tree.placed line name n) = (known, tt)
  parts_there need (tree.placed_by line name e) = (known, parts_there need_of.Readable e)
  parts_there need (tree.member e name) = (known, parts_there need_of.Object e)
  parts_there need (tree.element e index) = (known, joined (sites_as need_of.Indexed s e) (sites_as need_of.Readable s index) (parts_there need_of.Indexed e) (parts_there need_of.Readable index))
  parts_there need (tree.slice e high low) = (known, parts_there need_of.Readable e)
  parts_there need (tree.unary line op e) = (known, parts_there need_of.Readable e)
  parts_there need (tree.binary op left right) = (known, joined (sites_as need_of.Readable s left) (sites_as need_of.Readable s right) (parts_there need_of.Readable left) (parts_there need_of.Readable right))

  expression_there : (e : tree.Expression) → AllKnown (expression_sites s e)
  expression_there e = parts_there need_of.Readable e

  option_there : (e : Option tree.Expression) → AllKnown (option_sites s e)
  option_there None = tt
  option_there (Some e) = expression_there e

  arguments_there : (es : List tree.Expression) → AllKnown (argument_sites s es)
  arguments_there [] = tt
  arguments_there (e ∷ es) = joined (expression_sites s e) (argument_sites s es) (expression_there e) (arguments_there es)

  place_there : (p : tree.Place) → AllKnown (place_sites s p)
  place_there tree.first = tt
  place_there (tree.place_number n) = tt
  place_there (tree.computed e) = expression_there e

  channel_there : (need : Need) (c : tree.Channel) → AllKnown (channel_sites s need c)
  channel_there need c = (known, place_there c.place)

  event_there : (static : Bool) (e : tree.Event) → AllKnown (event_sites s static e)
  event_there static e = (known, channel_there (event_need static e.member) e.channel)

  events_there : (static : Bool) (es : List tree.Event) → AllKnown (events_sites s static es)
  events_there static [] = tt
  events_there static (e ∷ es) = joined (event_sites s static e) (events_sites s static es) (event_there static e) (events_there static es)

  waiting_there : (w : tree.Waiting) → AllKnown (waiting_sites s w)
  waiting_there tree.static = tt
  waiting_there tree.delta = tt
  waiting_there (tree.for_ e) = expression_there e
  waiting_there (tree.one e t) = joined (event_sites s false e) (option_sites s t) (event_there false e) (option_there t)
  waiting_there (tree.any es t) = joined (events_sites s false es) (option_sites s t) (events_there false es) (option_there t)
  waiting_there (tree.all es t) = joined (events_sites s false es) (option_sites s t) (events_there false es) (option_there t)

  notification_there : (n : tree.Notification) → AllKnown (notification_sites s n)
  notification_there tree.immediate = tt
  notification_there tree.next_delta = tt
  notification_there (tree.after e) = expression_there e

  operation_there : (o : tree.Operation) → AllKnown (operation_parts s o)
  operation_there (tree.call name es) = arguments_there es
  operation_there (tree.read c) = channel_there need_of.Taken c
  operation_there (tree.nb_read c name) = channel_there need_of.Taken c
  operation_there (tree.nb_write c e) = joined (channel_sites s need_of.Put c) (expression_sites s e) (channel_there need_of.Put c) (expression_there e)
  operation_there (tree.trylock c) = channel_there need_of.Mutex c
  operation_there (tree.unlock c) = channel_there need_of.Mutex c
  operation_there (tree.sem_trywait c) = channel_there need_of.Semaphore c
  operation_there (tree.nb_transport socket p phase delay) = tt

  part_there : (p : made.Part) → AllKnown (part_sites s p)
  part_there (made.name r name) = tt
  part_there (made.next_name r name) = tt
  part_there (made.reaching_name r name all) = tt
  part_there (made.text x) = tt
  part_there (made.term u e) = expression_there e
  part_there (made.term_if u e) = option_there e
  part_there (made.next_term u e) = expression_there e
  part_there (made.next_term_if u e) = option_there e
  part_there (made.channel u c) = channel_there (access_need u) c
  part_there (made.waiting w) = waiting_there w
  part_there (made.notification n) = notification_there n
  part_there (made.instance x) = joined (argument_sites s x.arguments) (events_sites s true x.sensitive) (arguments_there x.arguments) (events_there true x.sensitive)
  part_there (made.process w) = (known, tt)
  part_there (made.reaching_process w all) = (known, tt)

  action_there : (a : tree.Action) → AllKnown (action_parts s a)
  action_there a = linked (λ xs us. AllKnown xs) (part_sites s) (part_sites s) (λ xs ys. xs ++ ys) (λ xs ys. xs ++ ys) [] [] (λ xs ys us vs a b. joined xs ys a b) part_there tt (made.parts_of a)

mutual
  statement_there : (x : tree.Statement) (s : Scope) → TypesAreKnown s → fault_of constructs (statement_sites x s) ≡ None → AllKnown (statement_sites x s)
  statement_there (tree.var line t name e) s known clean = (known, joined (variable_type_sites s t) (option_sites s e) (types_there s known t) (option_there s known e))
  statement_there (tree.assign line target e) s known clean = (known, joined (option_sites s target.index) (expression_sites s e) (option_there s known target.index) (expression_there s known e))
  statement_there (tree.operate line name at o) s known clean = (known, (known, operation_there s known o))
  statement_there (tree.act line a) s known clean = (known, action_there s known a)
  statement_there (tree.if_ line e body other) s known clean =
      let p = head_none (site s line (part.of_statement (tree.if_ line e body other))) (expression_sites s e ++ block_sites body s ++ else_sites other (past (locals_in_block body) s)) clean in
      let q = parts_none (expression_sites s e ++ block_sites body s) (else_sites other (past (locals_in_block body) s)) p.1 in
      let r = parts_none (expression_sites s e) (block_sites body s) q.0 in (
        known,
        joined (expression_sites s e ++ block_sites body s) (else_sites other (past (locals_in_block body) s))
            (joined (expression_sites s e) (block_sites body s) (expression_there s known e) (block_there body s known r.1)) (else_there other (past (locals_in_block body) s) known q.1),
      )
  statement_there (tree.while_ line e body) s known clean =
      let p = head_none (site s line (part.of_statement (tree.while_ line e body))) (expression_sites s e ++ block_sites body s) clean in
      let q = parts_none (expression_sites s e) (block_sites body s) p.1 in
      (known, joined (expression_sites s e) (block_sites body s) (expression_there s known e) (block_there body s known q.1))
  statement_there (tree.guard line body undo) s known clean =
      let p = head_none (site s line (part.of_statement (tree.guard line body undo))) (block_sites body s ++ block_sites undo (in_unwind (past (locals_in_block body) s))) clean in
      let q = parts_none (block_sites body s) (block_sites undo (in_unwind (past (locals_in_block body) s))) p.1 in
      (known, joined (block_sites body s) (block_sites undo (in_unwind (past (locals_in_block body) s))) (block_there body s known q.0) (block_there undo (in_unwind (past (locals_in_block body) s)) known q.1))
  statement_there (tree.try_ line body handlers) s known clean =
      let p = head_none (site s line (part.of_statement (tree.try_ line body handlers))) (block_sites body s ++ handler_sites handlers (past (locals_in_block body) s)) clean in
      let q = parts_none (block_sites body s) (handler_sites handlers (past (locals_in_block body) s)) p.1 in
      (known, joined (block_sites body s) (handler_sites handlers (past (locals_in_block body) s)) (block_there body s known q.0) (handlers_there handlers (past (locals_in_block body) s) known q.1))

  block_there : (b : tree.Block) (s : Scope) → TypesAreKnown s → fault_of constructs (block_sites b s) ≡ None → AllKnown (block_sites b s)
  block_there tree.over s known clean = tt
  block_there (tree.then x xs) s known clean =
      let p = parts_none (statement_sites x s) (block_sites xs (behind x s)) clean in
      joined (statement_sites x s) (block_sites xs (behind x s)) (statement_there x s known p.0) (block_there xs (behind x s) (behind_known x s known p.0) p.1)

  else_there : (o : tree.Else) (s : Scope) → TypesAreKnown s → fault_of constructs (else_sites o s) ≡ None → AllKnown (else_sites o s)
  else_there tree.no_else s known clean = tt
  else_there (tree.else_block body) s known clean = block_there body s known clean

  handlers_there : (hs : tree.Handlers) (s : Scope) → TypesAreKnown s → fault_of constructs (handler_sites hs s) ≡ None → AllKnown (handler_sites hs s)
  handlers_there tree.no_more s known clean = tt
  handlers_there (tree.handler name body more) s known clean =
      let p = parts_none (block_sites body s) (handler_sites more (past (locals_in_block body) s)) clean in
      joined (block_sites body s) (handler_sites more (past (locals_in_block body) s)) (block_there body s known p.0) (handlers_there more (past (locals_in_block body) s) known p.1)

-- items
parameters_there : (s : Scope) (ps : List Parameter) → TypesAreKnown s → fault_of constructs (parameter_sites s ps) ≡ None → AllKnown (parameter_sites s ps)
parameters_there s [] known clean = tt
parameters_there s (p ∷ ps) known clean =
    let q = head_none (site s p.line (part.of_parameter p)) (variable_type_sites s p.var_type ++ parameter_sites (with_local s p.name p.var_type) ps) clean in
    let r = parts_none (variable_type_sites s p.var_type) (parameter_sites (with_local s p.name p.var_type) ps) q.1 in (
      known,
      joined (variable_type_sites s p.var_type) (parameter_sites (with_local s p.name p.var_type) ps) (types_there s known p.var_type)
          (parameters_there (with_local s p.name p.var_type) ps (local_known s p.name p.var_type known (variable_known s p.var_type r.0)) r.1),
    )

answer_there : (s : Scope) (t : Option VarType) → TypesAreKnown s → AllKnown (answer_sites s t)
answer_there s None known = tt
answer_there s (Some t) known = types_there s known t

item_there : (s : Scope) (i : tree.Item) → TypesAreKnown s → fault_of constructs (item_parts s i) ≡ None → AllKnown (item_parts s i)
item_there s (tree.signal line x) known clean = joined (type_site s x.value_type) (constant_sites s x.initial) (known, tt) (constant_there s known x.initial)
item_there s (tree.resolved line name) known clean = tt
item_there s (tree.clock line c) known clean = tt
item_there s (tree.fifo line t name size) known clean = (known, tt)
item_there s (tree.plain line kind name) known clean = tt
item_there s (tree.semaphore line name c) known clean = (known, tt)
item_there s (tree.memory line name size) known clean = tt
item_there s (tree.variable line t name c) known clean = joined (variable_type_sites s t) (constant_sites s c) (types_there s known t) (constant_there s known c)
item_there s (tree.port line i name size) known clean = interface_there s known i
item_there s (tree.export line i name) known clean = interface_there s known i
item_there s (tree.initiator line name role) known clean = tt
item_there s (tree.target line name role) known clean = tt
item_there s (tree.instance line kind name) known clean = tt
item_there s (tree.bind line left right) known clean = (known, (known, tt))
item_there s (tree.function line f) known clean =
    let p = parts_none (parameter_sites s f.parameters ++ answer_sites s f.answer) (block_sites f.body (function_scope s f)) clean in
    let q = parts_none (parameter_sites s f.parameters) (answer_sites s f.answer) p.0 in
    joined (parameter_sites s f.parameters ++ answer_sites s f.answer) (block_sites f.body (function_scope s f))
    (joined (parameter_sites s f.parameters) (answer_sites s f.answer) (parameters_there s f.parameters known q.0) (answer_there s f.answer known))
    (block_there f.body (function_scope s f) (parameters_known (record s { answer = f.answer }) f.parameters known (parameters_typed s f.parameters q.0)) p.1)
item_there s (tree.process line x) known clean =
    let p = parts_none (events_sites s true x.sensitive) (block_sites x.body s) clean in
    joined (events_sites s true x.sensitive) (block_sites x.body s) (events_there s known true x.sensitive) (block_there x.body s known p.1)

items_there : (modules : List tree.Module) (all before is : List tree.Item) → AllByRecursion IsKnown (declarations all) → fault_of constructs (items_sites modules all before is) ≡ None → AllKnown (items_sites modules all before is)
items_there modules all before [] declared clean = tt
items_there modules all before (i ∷ is) declared clean =
    let p = parts_none (item_sites (item_scope modules all (around_item i)) before i) (items_sites modules all (before ++ i ∷ []) is) clean in
    let q = head_none (site (item_scope modules all (around_item i)) (item_line i) (part.of_item before i)) (item_parts (item_scope modules all (around_item i)) i) p.0 in
    joined (item_sites (item_scope modules all (around_item i)) before i) (items_sites modules all (before ++ i ∷ []) is)
    (scope_known modules all (around_item i) declared, item_there (item_scope modules all (around_item i)) i (scope_known modules all (around_item i) declared) q.1)
    (items_there modules all (before ++ i ∷ []) is declared p.1)

modules_there : (all before ms : List tree.Module) → fault_of constructs (modules_sites all before ms) ≡ None → AllKnown (modules_sites all before ms)
modules_there all before [] clean = tt
modules_there all before (m ∷ ms) clean =
    let p = parts_none (module_sites all before m) (modules_sites all (before ++ m ∷ []) ms) clean in
    let q = head_none (site (item_scope all m.items m.name) m.line (part.of_module before m)) (items_sites all m.items [] m.items) p.0 in
    joined (module_sites all before m) (modules_sites all (before ++ m ∷ []) ms)
    (scope_known all m.items m.name (items_known all m.items [] m.items q.1), items_there all m.items [] m.items (items_known all m.items [] m.items q.1) q.1)
    (modules_there all (before ++ m ∷ []) ms p.1)

pub known_everywhere : (m : tree.Model) → first_fault m ≡ None → AllKnown (sites m)
known_everywhere m h =
    let p = parts_none (modules_sites m.modules [] m.modules) (top_site m.modules m.top ∷ []) (constructs_none m h) in
    joined (modules_sites m.modules [] m.modules) (top_site m.modules m.top ∷ []) (modules_there m.modules [] m.modules p.0) (scope_known m.modules [] m.top.name tt, tt)
