-- The times of a tree with its times written otherwise: the same constructs on the same lines in the same order, with what is written now.
use Rattle.std.proofs.Common.{◌≡◌, ℕ, List, [], ◌∷◌, ◌++◌, map, Option, Some, None, refl, ap, ap₂, sym, ◌∙◌}
use Rattle.std.specs.List.{flat_map}
use Rattle.std.proofs.lemmas.List.{map-append}
use Rattle.model_tree.specs.Tree as tree
use Rattle.model_tree.specs.Parts as part
use Rattle.model_tree.specs.Parts.{Part, changed_part}
use Rattle.model_tree.proofs.Parts.{changed_linked}
use Rattle.tick_trees.specs.Retimed as retimed
use Rattle.tick_trees.specs.Retimed.{span}
use Rattle.tick_trees.specs.Times.{Timed, timed, in_option, in_expression, in_place, in_channel, in_event, in_events, in_waiting, in_notification, in_operation, in_part, in_action, in_statement, in_block, in_else, in_handlers, in_form, in_constant, span_if, in_item, in_module, times_of}
use Rattle.model_tree.specs.declared.types.Constant.{Constant}
use Rattle.model_tree.specs.declared.types.ConstantForm.{ConstantForm}
use Rattle.model_tree.specs.declared.types.ConstantForm.TheVariants as constant
use Rattle.model_tree.specs.declared.types.Span.{Span}
use Rattle.tick_trees.specs.Laws.{retimed_timed}

module _ (f : Span → Span) where
  -- the times of what is written otherwise, against those of what was written
  abbrev Same : List Timed → List Timed → Type 0
  Same new old = new ≡ map (retimed_timed f) old

  joined : (xs ys us vs : List Timed) → Same xs us → Same ys vs → Same (xs ++ ys) (us ++ vs)
  joined xs ys us vs a b = ap₂ (λ x y. x ++ y) a b ∙ sym (map-append (retimed_timed f) us vs)

  of_each : {A : Type 0} (g : A → A) (times : A → List Timed) → ((x : A) → Same (times (g x)) (times x)) → (xs : List A) → Same (flat_map times (map g xs)) (flat_map times xs)
  of_each g times one [] = refl
  of_each g times one (x ∷ xs) = joined (times (g x)) (flat_map times (map g xs)) (times x) (flat_map times xs) (one x) (of_each g times one xs)

  of_option : {A : Type 0} (g : A → A) (times : A → List Timed) → ((x : A) → Same (times (g x)) (times x)) → (x : Option A) → Same (in_option times (retimed.option g x)) (in_option times x)
  of_option g times one None = refl
  of_option g times one (Some x) = one x

  abbrev new : tree.Expression → tree.Expression
  new e = retimed.expression f e

  of_expression : (e : tree.Expression) → Same (in_expression (new e)) (in_expression e)
  of_expression (tree.number line n) = refl
  of_expression (tree.time line n unit) = refl
  of_expression (tree.logic line digits) = refl
  of_expression (tree.truth line b) = refl
  of_expression (tree.now line) = refl
  of_expression (tree.myself line) = refl
  of_expression (tree.constant line word) = refl
  of_expression (tree.paren line e) = of_expression e
  of_expression (tree.convert line c e) = of_expression e
  of_expression (tree.to_vector line width e) = of_expression e
  of_expression (tree.concat line upper lower) = joined (in_expression (new upper)) (in_expression (new lower)) (in_expression upper) (in_expression lower) (of_expression upper) (of_expression lower)
  of_expression (tree.named line name) = refl
  of_expression (tree.placed line name at) = refl
  of_expression (tree.placed_by line name e) = of_expression e
  of_expression (tree.member e name) = of_expression e
  of_expression (tree.element e index) = joined (in_expression (new e)) (in_expression (new index)) (in_expression e) (in_expression index) (of_expression e) (of_expression index)
  of_expression (tree.slice e high low) = of_expression e
  of_expression (tree.unary line o e) = of_expression e
  of_expression (tree.binary o left right) = joined (in_expression (new left)) (in_expression (new right)) (in_expression left) (in_expression right) (of_expression left) (of_expression right)

  of_expression_if : (e : Option tree.Expression) → Same (in_option in_expression (retimed.option new e)) (in_option in_expression e)
  of_expression_if e = of_option new in_expression of_expression e

  of_expressions : (es : List tree.Expression) → Same (flat_map in_expression (map new es)) (flat_map in_expression es)
  of_expressions es = of_each new in_expression of_expression es

  of_place : (x : tree.Place) → Same (in_place (retimed.place f x)) (in_place x)
  of_place tree.first = refl
  of_place (tree.place_number n) = refl
  of_place (tree.computed e) = of_expression e

  of_channel : (c : tree.Channel) → Same (in_channel (retimed.channel f c)) (in_channel c)
  of_channel c = of_place c.place

  of_event : (e : tree.Event) → Same (in_event (retimed.event f e)) (in_event e)
  of_event e = of_channel e.channel

  of_events : (es : List tree.Event) → Same (in_events (map (retimed.event f) es)) (in_events es)
  of_events es = of_each (retimed.event f) in_event of_event es

  of_waiting : (w : tree.Waiting) → Same (in_waiting (retimed.waiting f w)) (in_waiting w)
  of_waiting tree.static = refl
  of_waiting tree.delta = refl
  of_waiting (tree.for_ e) = of_expression e
  of_waiting (tree.one e t) = joined (in_event (retimed.event f e)) (in_option in_expression (retimed.option new t)) (in_event e) (in_option in_expression t) (of_event e) (of_expression_if t)
  of_waiting (tree.any es t) = joined (in_events (map (retimed.event f) es)) (in_option in_expression (retimed.option new t)) (in_events es) (in_option in_expression t) (of_events es) (of_expression_if t)
  of_waiting (tree.all es t) = joined (in_events (map (retimed.event f) es)) (in_option in_expression (retimed.option new t)) (in_events es) (in_option in_expression t) (of_events es) (of_expression_if t)

  of_notification : (x : tree.Notification) → Same (in_notification (retimed.notification f x)) (in_notification x)
  of_notification tree.immediate = refl
  of_notification tree.next_delta = refl
  of_notification (tree.after e) = of_expression e

  of_operation : (o : tree.Operation) → Same (in_operation (retimed.operation f o)) (in_operation o)
  of_operation (tree.call x es) = of_expressions es
  of_operation (tree.read c) = of_channel c
  of_operation (tree.nb_read c x) = of_channel c
  of_operation (tree.nb_write c e) = joined (in_channel (retimed.channel f c)) (in_expression (new e)) (in_channel c) (in_expression e) (of_channel c) (of_expression e)
  of_operation (tree.trylock c) = of_channel c
  of_operation (tree.unlock c) = of_channel c
  of_operation (tree.sem_trywait c) = of_channel c
  of_operation (tree.nb_transport socket payload phase delay) = refl

  of_part : (p : Part) → Same (in_part (changed_part (retimed.change f) p)) (in_part p)
  of_part (part.name r x) = refl
  of_part (part.next_name r x) = refl
  of_part (part.reaching_name r x all) = refl
  of_part (part.text x) = refl
  of_part (part.term u e) = of_expression e
  of_part (part.term_if u e) = of_expression_if e
  of_part (part.next_term u e) = of_expression e
  of_part (part.next_term_if u e) = of_expression_if e
  of_part (part.channel u c) = of_channel c
  of_part (part.waiting w) = of_waiting w
  of_part (part.notification n) = of_notification n
  of_part (part.instance s) = joined (flat_map in_expression (map new s.arguments)) (in_events (map (retimed.event f) s.sensitive)) (flat_map in_expression s.arguments) (in_events s.sensitive) (of_expressions s.arguments) (of_events s.sensitive)
  of_part (part.process w) = refl
  of_part (part.reaching_process w all) = refl

  of_action : (a : tree.Action) → Same (in_action (retimed.action f a)) (in_action a)
  of_action a = changed_linked (retimed.change f) Same in_part in_part (λ xs ys. xs ++ ys) (λ xs ys. xs ++ ys) [] [] joined of_part refl a

  mutual
    of_statement : (s : tree.Statement) → Same (in_statement (retimed.statement f s)) (in_statement s)
    of_statement (tree.var line t x e) = of_expression_if e
    of_statement (tree.assign line t e) = joined (in_option in_expression (retimed.option new t.index)) (in_expression (new e)) (in_option in_expression t.index) (in_expression e) (of_expression_if t.index) (of_expression e)
    of_statement (tree.operate line x at o) = of_operation o
    of_statement (tree.act line a) = of_action a
    of_statement (tree.if_ line e body other) =
        let left = in_block (retimed.block f body) in let right = in_else (retimed.else_ f other) in
        joined (in_expression (new e)) (left ++ right) (in_expression e) (in_block body ++ in_else other) (of_expression e) (joined left right (in_block body) (in_else other) (of_block body) (of_else other))
    of_statement (tree.while_ line e body) = joined (in_expression (new e)) (in_block (retimed.block f body)) (in_expression e) (in_block body) (of_expression e) (of_block body)
    of_statement (tree.guard line body undo) = joined (in_block (retimed.block f body)) (in_block (retimed.block f undo)) (in_block body) (in_block undo) (of_block body) (of_block undo)
    of_statement (tree.try_ line body hs) = joined (in_block (retimed.block f body)) (in_handlers (retimed.handlers_ f hs)) (in_block body) (in_handlers hs) (of_block body) (of_handlers hs)

    of_block : (ss : tree.Block) → Same (in_block (retimed.block f ss)) (in_block ss)
    of_block tree.over = refl
    of_block (tree.then s ss) = joined (in_statement (retimed.statement f s)) (in_block (retimed.block f ss)) (in_statement s) (in_block ss) (of_statement s) (of_block ss)

    of_else : (other : tree.Else) → Same (in_else (retimed.else_ f other)) (in_else other)
    of_else tree.no_else = refl
    of_else (tree.else_block body) = of_block body

    of_handlers : (hs : tree.Handlers) → Same (in_handlers (retimed.handlers_ f hs)) (in_handlers hs)
    of_handlers tree.no_more = refl
    of_handlers (tree.handler x body more) = joined (in_block (retimed.block f body)) (in_handlers (retimed.handlers_ f more)) (in_block body) (in_handlers more) (of_block body) (of_handlers more)

  of_form : (line : ℕ) (c : ConstantForm) → Same (in_form line (retimed.form f c)) (in_form line c)
  of_form line (constant.Number n) = refl
  of_form line (constant.Negative n) = refl
  of_form line (constant.Time n unit) = refl
  of_form line (constant.Logic digits) = refl
  of_form line (constant.Truth b) = refl

  of_constant : (c : Constant) → Same (in_constant (retimed.constant_ f c)) (in_constant c)
  of_constant c = of_form c.line c.form

  of_start : (s : Option Span) → span_if (retimed.option f s) ≡ map f (span_if s)
  of_start None = refl
  of_start (Some s) = refl

  of_item : (i : tree.Item) → Same (in_item (retimed.item f i)) (in_item i)
  of_item (tree.signal line s) = of_option (retimed.constant_ f) in_constant of_constant s.initial
  of_item (tree.resolved line x) = refl
  of_item (tree.clock line c) = ap (λ (ss : List Span). timed line (f c.period ∷ f c.high ∷ ss) ∷ []) (of_start c.start)
  of_item (tree.fifo line t x size) = refl
  of_item (tree.plain line kind x) = refl
  of_item (tree.semaphore line x c) = of_constant c
  of_item (tree.memory line x size) = refl
  of_item (tree.variable line t x c) = of_option (retimed.constant_ f) in_constant of_constant c
  of_item (tree.port line i x size) = refl
  of_item (tree.export line i x) = refl
  of_item (tree.initiator line x role) = refl
  of_item (tree.target line x role) = refl
  of_item (tree.instance line kind x) = refl
  of_item (tree.bind line left right) = refl
  of_item (tree.function line x) = of_block x.body
  of_item (tree.process line x) = joined (in_events (map (retimed.event f) x.sensitive)) (in_block (retimed.block f x.body)) (in_events x.sensitive) (in_block x.body) (of_events x.sensitive) (of_block x.body)

  of_module : (m : tree.Module) → Same (in_module (retimed.module_ f m)) (in_module m)
  of_module m = of_each (retimed.item f) in_item of_item m.items

  pub of_model : (m : tree.Model) → times_of (retimed.model f m) ≡ map (retimed_timed f) (times_of m)
  of_model m = of_each (retimed.module_ f) in_module of_module m.modules
