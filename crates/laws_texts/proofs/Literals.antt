-- The literals that are no time, as the rules see them among the sites of a tree, and the constructs with times that are none: they stand
-- on the same lines, in the same order.
use Rattle.std.proofs.Common.{◌≡◌, ℕ, ◌*◌, ◌^◌, Bool, true, false, not, nat_lt, if◌then◌else◌, ◌||◌, cond, List, [], ◌∷◌, ◌++◌, Option, Some, None, option_map, is_none, refl, sym, ap, ap₂, ◌∙◌, append_assoc, append-nil}
use Rattle.std.specs.List.{find, flat_map, list_any}
use Rattle.model_tree.specs.SimTime.Times.{picoseconds_in}
use Rattle.model_tree.specs.SimTime.declared.moments.Time.{Time}
use Rattle.model_tree.specs.Tree as tree
use Rattle.model_tree.specs.Parts as part
use Rattle.model_tree.specs.Parts.{Part, parts_of}
use Rattle.model_tree.proofs.Parts.{linked}
use Rattle.model_tree.specs.declared.types.Constant.{Constant}
use Rattle.model_tree.specs.declared.types.ConstantForm.{ConstantForm}
use Rattle.model_tree.specs.declared.types.ConstantForm.TheVariants as constant
use Rattle.model_tree.specs.declared.types.Interface.{Interface}
use Rattle.model_tree.specs.declared.types.Interface.TheVariants as interface
use Rattle.model_tree.specs.declared.types.Parameter.{Parameter}
use Rattle.model_tree.specs.declared.types.Span.{Span}
use Rattle.model_tree.specs.declared.types.VarType.{VarType}
use Rattle.model_tree.specs.declared.types.VarType.TheVariants as var_type
use Rattle.model_tree.specs.declared.items.ClockItem.{ClockItem}
use Rattle.tick_trees.specs.Laws.{seen}
use Rattle.tick_trees.specs.Retimed.{span}
use Rattle.tick_trees.specs.Times.{Timed, timed, in_option, in_expression, in_place, in_channel, in_event, in_events, in_waiting, in_notification, in_operation, in_part, in_action, in_statement, in_block, in_else, in_handlers, in_form, in_constant, span_if, in_item, in_module, times_of}
use Rattle.tick_trees.specs.Unfit.{is_past}
use Rattle.model_rules.specs.declared.needs.Need.{Need}
use Rattle.model_rules.specs.declared.needs.Need.TheVariants as need_of
use Rattle.model_rules.specs.Scopes.{Scope, item_scope, with_local, locals_in_block, past, behind, in_unwind}
use Rattle.model_rules.specs.Sites.{Site, variable_type_sites, interface_sites, constant_sites, sites_as, option_sites, argument_sites, place_sites, channel_sites, event_sites, events_sites, waiting_sites, notification_sites, operation_parts, access_need, part_sites, action_parts, statement_sites, block_sites, else_sites, handler_sites, parameter_sites, answer_sites, function_scope, around_item, item_sites, items_sites, module_sites, modules_sites, top_site, sites}
use Rattle.model_rules.specs.Values.{is_late, is_late_if, late_constant, late_item, late_in}

abbrev pub line_if : Bool → ℕ → List ℕ
line_if false line = []
line_if true line = line ∷ []

-- the lines of the literals that are no time
abbrev pub late_lines : List Site → List ℕ
late_lines [] = []
late_lines (x ∷ xs) = line_if (late_in x.part) x.line ++ late_lines xs

-- the lines of the constructs with a time that is none
abbrev pub past_lines : List Timed → List ℕ
past_lines [] = []
past_lines (t ∷ ts) = line_if (is_past t) t.line ++ past_lines ts

abbrev pub first_of : List ℕ → Option ℕ
first_of [] = None
first_of (line ∷ lines) = Some line

-- the first of them

at_first : (b : Bool) (t : Timed) (others : Option Timed) (lines : List ℕ) → option_map (λ (x : Timed). x.line) others ≡ first_of lines → option_map (λ (x : Timed). x.line) (cond b (Some t) others) ≡ first_of (line_if b t.line ++ lines)
at_first true t others lines h = refl
at_first false t others lines h = h

pub first_past : (ts : List Timed) → option_map (λ (x : Timed). x.line) (find is_past ts) ≡ first_of (past_lines ts)
first_past [] = refl
first_past (t ∷ ts) = at_first (is_past t) t (find is_past ts) (past_lines ts) (first_past ts)

-- lists put together

late_append : (xs ys : List Site) → late_lines (xs ++ ys) ≡ late_lines xs ++ late_lines ys
late_append [] ys = refl
late_append (x ∷ xs) ys =
    let here = line_if (late_in x.part) x.line in
    ap (λ lines. here ++ lines) (late_append xs ys) ∙ sym (append_assoc here (late_lines xs) (late_lines ys))

past_append : (ts us : List Timed) → past_lines (ts ++ us) ≡ past_lines ts ++ past_lines us
past_append [] us = refl
past_append (t ∷ ts) us =
    let here = line_if (is_past t) t.line in
    ap (λ lines. here ++ lines) (past_append ts us) ∙ sym (append_assoc here (past_lines ts) (past_lines us))

-- sites against the times of the same constructs
abbrev Same : List Site → List Timed → Type 0
Same xs ts = late_lines xs ≡ past_lines ts

joined : (xs ys : List Site) (ts us : List Timed) → Same xs ts → Same ys us → Same (xs ++ ys) (ts ++ us)
joined xs ys ts us a b = late_append xs ys ∙ ap₂ (λ l m. l ++ m) a b ∙ sym (past_append ts us)

three : (xs ys zs : List Site) (ts us vs : List Timed) → Same xs ts → Same ys us → Same zs vs → Same (xs ++ ys ++ zs) (ts ++ (us ++ vs))
three xs ys zs ts us vs a b c = joined (xs ++ ys) zs (ts ++ us) vs (joined xs ys ts us a b) c ∙ ap past_lines (append_assoc ts us vs)

-- one time

none_unless : {A : Type 0} (b : Bool) (x : A) → not b ≡ is_none (if b then Some x else None)
none_unless true x = refl
none_unless false x = refl

late_is : (s : Span) → is_late s ≡ is_none (seen s)
late_is s = let t : Time = record { 0 = s.count * picoseconds_in s.unit } in none_unless (nat_lt (s.count * picoseconds_in s.unit) (2 ^ 64)) t

or_false : (b : Bool) → (b || false) ≡ b
or_false true = refl
or_false false = refl

or_assoc : (a b c : Bool) → ((a || b) || c) ≡ (a || (b || c))
or_assoc true b c = refl
or_assoc false b c = refl

of_literal : (line : ℕ) (s : Span) → line_if (is_late s) line ++ [] ≡ past_lines (timed line (s ∷ []) ∷ [])
of_literal line s = ap (λ b. line_if b line ++ []) (late_is s ∙ sym (or_false (is_none (seen s))))

-- expressions

of_expression : (need : Need) (s : Scope) (e : tree.Expression) → Same (sites_as need s e) (in_expression e)
of_expression need s (tree.number line n) = refl
of_expression need s (tree.time line n unit) = of_literal line (span n unit)
of_expression need s (tree.logic line digits) = refl
of_expression need s (tree.truth line b) = refl
of_expression need s (tree.now line) = refl
of_expression need s (tree.myself line) = refl
of_expression need s (tree.constant line word) = refl
of_expression need s (tree.paren line e) = of_expression need_of.Readable s e
of_expression need s (tree.convert line c e) = of_expression need_of.Readable s e
of_expression need s (tree.to_vector line width e) = of_expression need_of.Readable s e
of_expression need s (tree.concat line upper lower) =
    joined (sites_as need_of.Readable s upper) (sites_as need_of.Readable s lower) (in_expression upper) (in_expression lower) (of_expression need_of.Readable s upper) (of_expression need_of.Readable s lower)
of_expression need s (tree.named line name) = refl
of_expression need s (tree.placed line name at) = refl
of_expression need s (tree.placed_by line name e) = of_expression need_of.Readable s e
of_expression need s (tree.member e name) = of_expression need_of.Object s e
of_expression need s (tree.element e index) =
    joined (sites_as need_of.Indexed s e) (sites_as need_of.Readable s index) (in_expression e) (in_expression index) (of_expression need_of.Indexed s e) (of_expression need_of.Readable s index)
of_expression need s (tree.slice e high low) = of_expression need_of.Readable s e
of_expression need s (tree.unary line o e) = of_expression need_of.Readable s e
of_expression need s (tree.binary o left right) =
    joined (sites_as need_of.Readable s left) (sites_as need_of.Readable s right) (in_expression left) (in_expression right) (of_expression need_of.Readable s left) (of_expression need_of.Readable s right)

abbrev read_sites : Scope → tree.Expression → List Site
read_sites s e = sites_as need_of.Readable s e

of_read : (s : Scope) (e : tree.Expression) → Same (read_sites s e) (in_expression e)
of_read s e = of_expression need_of.Readable s e

of_option : (s : Scope) (e : Option tree.Expression) → Same (option_sites s e) (in_option in_expression e)
of_option s None = refl
of_option s (Some e) = of_read s e

of_arguments : (s : Scope) (es : List tree.Expression) → Same (argument_sites s es) (flat_map in_expression es)
of_arguments s [] = refl
of_arguments s (e ∷ es) = joined (read_sites s e) (argument_sites s es) (in_expression e) (flat_map in_expression es) (of_read s e) (of_arguments s es)

-- channels and events

of_place : (s : Scope) (p : tree.Place) → Same (place_sites s p) (in_place p)
of_place s tree.first = refl
of_place s (tree.place_number n) = refl
of_place s (tree.computed e) = of_read s e

of_channel : (s : Scope) (need : Need) (c : tree.Channel) → Same (channel_sites s need c) (in_channel c)
of_channel s need c = of_place s c.place

of_event : (s : Scope) (static : Bool) (e : tree.Event) → Same (event_sites s static e) (in_event e)
of_event s static e = of_place s e.channel.place

of_events : (s : Scope) (static : Bool) (es : List tree.Event) → Same (events_sites s static es) (in_events es)
of_events s static [] = refl
of_events s static (e ∷ es) = joined (event_sites s static e) (events_sites s static es) (in_event e) (in_events es) (of_event s static e) (of_events s static es)

of_waiting : (s : Scope) (w : tree.Waiting) → Same (waiting_sites s w) (in_waiting w)
of_waiting s tree.static = refl
of_waiting s tree.delta = refl
of_waiting s (tree.for_ e) = of_read s e
of_waiting s (tree.one e t) = joined (event_sites s false e) (option_sites s t) (in_event e) (in_option in_expression t) (of_event s false e) (of_option s t)
of_waiting s (tree.any es t) = joined (events_sites s false es) (option_sites s t) (in_events es) (in_option in_expression t) (of_events s false es) (of_option s t)
of_waiting s (tree.all es t) = joined (events_sites s false es) (option_sites s t) (in_events es) (in_option in_expression t) (of_events s false es) (of_option s t)

of_notification : (s : Scope) (n : tree.Notification) → Same (notification_sites s n) (in_notification n)
of_notification s tree.immediate = refl
of_notification s tree.next_delta = refl
of_notification s (tree.after e) = of_read s e

-- statements

of_operation : (s : Scope) (o : tree.Operation) → Same (operation_parts s o) (in_operation o)
of_operation s (tree.call name es) = of_arguments s es
of_operation s (tree.read c) = of_channel s need_of.Taken c
of_operation s (tree.nb_read c name) = of_channel s need_of.Taken c
of_operation s (tree.nb_write c e) = joined (channel_sites s need_of.Put c) (read_sites s e) (in_channel c) (in_expression e) (of_channel s need_of.Put c) (of_read s e)
of_operation s (tree.trylock c) = of_channel s need_of.Mutex c
of_operation s (tree.unlock c) = of_channel s need_of.Mutex c
of_operation s (tree.sem_trywait c) = of_channel s need_of.Semaphore c
of_operation s (tree.nb_transport socket payload phase delay) = refl

of_part : (s : Scope) (p : Part) → Same (part_sites s p) (in_part p)
of_part s (part.name r name) = refl
of_part s (part.next_name r name) = refl
of_part s (part.reaching_name r name all) = refl
of_part s (part.text x) = refl
of_part s (part.term u e) = of_read s e
of_part s (part.term_if u e) = of_option s e
of_part s (part.next_term u e) = of_read s e
of_part s (part.next_term_if u e) = of_option s e
of_part s (part.channel u c) = of_channel s (access_need u) c
of_part s (part.waiting w) = of_waiting s w
of_part s (part.notification n) = of_notification s n
of_part s (part.instance x) = joined (argument_sites s x.arguments) (events_sites s true x.sensitive) (flat_map in_expression x.arguments) (in_events x.sensitive) (of_arguments s x.arguments) (of_events s true x.sensitive)
of_part s (part.process w) = refl
of_part s (part.reaching_process w all) = refl

of_action : (s : Scope) (a : tree.Action) → Same (action_parts s a) (in_action a)
of_action s a = linked Same (part_sites s) in_part (λ xs ys. xs ++ ys) (λ ts us. ts ++ us) [] [] joined (of_part s) refl (parts_of a)

of_variable_type : (s : Scope) (t : VarType) → Same (variable_type_sites s t) []
of_variable_type s (var_type.Plain t) = refl
of_variable_type s var_type.Time = refl
of_variable_type s var_type.Process = refl
of_variable_type s var_type.Payload = refl

mutual
  of_statement : (x : tree.Statement) (s : Scope) → Same (statement_sites x s) (in_statement x)
  of_statement (tree.var line t name e) s = joined (variable_type_sites s t) (option_sites s e) [] (in_option in_expression e) (of_variable_type s t) (of_option s e)
  of_statement (tree.assign line t e) s = joined (option_sites s t.index) (read_sites s e) (in_option in_expression t.index) (in_expression e) (of_option s t.index) (of_read s e)
  of_statement (tree.operate line name at o) s = of_operation s o
  of_statement (tree.act line a) s = of_action s a
  of_statement (tree.if_ line e body other) s =
      three (read_sites s e) (block_sites body s) (else_sites other (past (locals_in_block body) s)) (in_expression e) (in_block body) (in_else other) (of_read s e) (of_block body s) (of_else other (past (locals_in_block body) s))
  of_statement (tree.while_ line e body) s = joined (read_sites s e) (block_sites body s) (in_expression e) (in_block body) (of_read s e) (of_block body s)
  of_statement (tree.guard line body undo) s =
      let u = in_unwind (past (locals_in_block body) s) in
      joined (block_sites body s) (block_sites undo u) (in_block body) (in_block undo) (of_block body s) (of_block undo u)
  of_statement (tree.try_ line body hs) s =
      let u = past (locals_in_block body) s in
      joined (block_sites body s) (handler_sites hs u) (in_block body) (in_handlers hs) (of_block body s) (of_handlers hs u)

  of_block : (xs : tree.Block) (s : Scope) → Same (block_sites xs s) (in_block xs)
  of_block tree.over s = refl
  of_block (tree.then x xs) s = joined (statement_sites x s) (block_sites xs (behind x s)) (in_statement x) (in_block xs) (of_statement x s) (of_block xs (behind x s))

  of_else : (other : tree.Else) (s : Scope) → Same (else_sites other s) (in_else other)
  of_else tree.no_else s = refl
  of_else (tree.else_block body) s = of_block body s

  of_handlers : (hs : tree.Handlers) (s : Scope) → Same (handler_sites hs s) (in_handlers hs)
  of_handlers tree.no_more s = refl
  of_handlers (tree.handler name body more) s =
      let u = past (locals_in_block body) s in
      joined (block_sites body s) (handler_sites more u) (in_block body) (in_handlers more) (of_block body s) (of_handlers more u)

-- items

of_form : (line : ℕ) (c : ConstantForm) → line_if (late_constant c) line ++ [] ≡ past_lines (in_form line c)
of_form line (constant.Number n) = refl
of_form line (constant.Negative n) = refl
of_form line (constant.Time n unit) = of_literal line (span n unit)
of_form line (constant.Logic digits) = refl
of_form line (constant.Truth b) = refl

of_constant : (s : Scope) (c : Option Constant) → Same (constant_sites s c) (in_option in_constant c)
of_constant s None = refl
of_constant s (Some c) = of_form c.line c.form

of_interface : (s : Scope) (i : Interface) → Same (interface_sites s i) []
of_interface s (interface.In t) = refl
of_interface s (interface.Out t) = refl
of_interface s (interface.FifoIn t) = refl
of_interface s (interface.FifoOut t) = refl
of_interface s interface.Mutex = refl
of_interface s interface.Semaphore = refl

of_parameters : (s : Scope) (ps : List Parameter) → Same (parameter_sites s ps) []
of_parameters s [] = refl
of_parameters s (p ∷ ps) =
    let u = with_local s p.name p.var_type in
    joined (variable_type_sites s p.var_type) (parameter_sites u ps) [] [] (of_variable_type s p.var_type) (of_parameters u ps)

of_answer : (s : Scope) (t : Option VarType) → Same (answer_sites s t) []
of_answer s None = refl
of_answer s (Some t) = of_variable_type s t

of_start : (s : Option Span) → is_late_if s ≡ list_any (λ t. is_none (seen t)) (span_if s)
of_start None = refl
of_start (Some s) = late_is s ∙ sym (or_false (is_none (seen s)))

of_clock : (line : ℕ) (c : ClockItem) → line_if (late_item (tree.clock line c)) line ++ [] ≡ past_lines (timed line (c.period ∷ c.high ∷ span_if c.start) ∷ [])
of_clock line c =
    ap (λ b. line_if b line ++ [])
    (or_assoc (is_late c.period) (is_late c.high) (is_late_if c.start) ∙ ap₂ (λ a b. a || b) (late_is c.period) (ap₂ (λ a b. a || b) (late_is c.high) (of_start c.start)))

of_item : (s : Scope) (before : List tree.Item) (i : tree.Item) → Same (item_sites s before i) (in_item i)
of_item s before (tree.signal line x) = of_constant s x.initial
of_item s before (tree.resolved line name) = refl
of_item s before (tree.clock line c) = of_clock line c
of_item s before (tree.fifo line t name size) = refl
of_item s before (tree.plain line kind name) = refl
of_item s before (tree.semaphore line name c) = of_constant s (Some c)
of_item s before (tree.memory line name size) = refl
of_item s before (tree.variable line t name c) = joined (variable_type_sites s t) (constant_sites s c) [] (in_option in_constant c) (of_variable_type s t) (of_constant s c)
of_item s before (tree.port line i name size) = of_interface s i
of_item s before (tree.export line i name) = of_interface s i
of_item s before (tree.initiator line name role) = refl
of_item s before (tree.target line name role) = refl
of_item s before (tree.instance line kind name) = refl
of_item s before (tree.bind line left right) = refl
of_item s before (tree.function line f) =
    three (parameter_sites s f.parameters) (answer_sites s f.answer) (block_sites f.body (function_scope s f)) [] [] (in_block f.body) (of_parameters s f.parameters) (of_answer s f.answer) (of_block f.body (function_scope s f))
of_item s before (tree.process line p) = joined (events_sites s true p.sensitive) (block_sites p.body s) (in_events p.sensitive) (in_block p.body) (of_events s true p.sensitive) (of_block p.body s)

of_items : (ms : List tree.Module) (all before is : List tree.Item) → Same (items_sites ms all before is) (flat_map in_item is)
of_items ms all before [] = refl
of_items ms all before (i ∷ is) =
    let s = item_scope ms all (around_item i) in
    joined (item_sites s before i) (items_sites ms all (before ++ i ∷ []) is) (in_item i) (flat_map in_item is) (of_item s before i) (of_items ms all (before ++ i ∷ []) is)

of_module : (ms before : List tree.Module) (m : tree.Module) → Same (module_sites ms before m) (in_module m)
of_module ms before m = of_items ms m.items [] m.items

of_modules : (all before ms : List tree.Module) → Same (modules_sites all before ms) (flat_map in_module ms)
of_modules all before [] = refl
of_modules all before (m ∷ ms) =
    joined (module_sites all before m) (modules_sites all (before ++ m ∷ []) ms) (in_module m) (flat_map in_module ms) (of_module all before m) (of_modules all (before ++ m ∷ []) ms)

pub of_model : (m : tree.Model) → late_lines (sites m) ≡ past_lines (times_of m)
of_model m =
    joined (modules_sites m.modules [] m.modules) (top_site m.modules m.top ∷ []) (times_of m) [] (of_modules m.modules [] m.modules) refl ∙ ap past_lines (append-nil (times_of m))
