-- What a test says of the names and units of a tree with its times written otherwise: what one that passes each unit says of the tree.
use Rattle.std.proofs.Common.{◌≡◌, ℕ, Bool, true, false, ◌&&◌, List, [], ◌∷◌, ◌++◌, map, Option, Some, None, refl, ap, ap₂, sym, ◌∙◌}
use Rattle.std.specs.List.{list_all, flat_map}
use Rattle.std.proofs.lemmas.Bool.{and_parts, and_from}
use Rattle.std.proofs.lemmas.List.Folds.{list_all-append}
use Rattle.model_tree.specs.Tree as tree
use Rattle.model_tree.specs.Parts as part
use Rattle.model_tree.specs.Parts.{Part, changed_part}
use Rattle.model_tree.proofs.Parts.{changed_linked}
use Rattle.tick_trees.specs.Retimed as retimed
use Rattle.tick_trees.specs.Retimed.{span}
use Rattle.model_tree.specs.Languages.{Leaf, named, in_unit, descending, Leaves, name_if, in_expression, in_expression_if, in_expressions, in_place, in_channel, in_event, in_events, in_waiting, in_notification, in_target, in_operation, in_spawn, in_who, in_part, in_action, in_statement, in_block, in_else, in_handlers, in_form, in_constant, in_span, in_item, in_module, leaves_of, descending_if, in_parameter, in_initiator, in_socket, in_end}
use Rattle.model_tree.specs.declared.types.Constant.{Constant}
use Rattle.model_tree.specs.declared.types.ConstantForm.{ConstantForm}
use Rattle.model_tree.specs.declared.types.ConstantForm.TheVariants as constant
use Rattle.model_tree.specs.declared.types.Span.{Span}
use Rattle.model_tree.specs.declared.types.Parameter.{Parameter}
use Rattle.model_tree.specs.declared.types.End.{End}
use Rattle.model_tree.specs.declared.statements.Who.{Who}
use Rattle.model_tree.specs.declared.statements.Who.TheVariants as who
use Rattle.model_tree.specs.declared.items.InitiatorRole.{InitiatorRole}
use Rattle.model_tree.specs.declared.items.InitiatorRole.TheVariants as initiator
use Rattle.model_tree.specs.declared.items.TargetRole.{TargetRole}
use Rattle.model_tree.specs.declared.items.TargetRole.TheVariants as target

-- a test that passes each unit, and is another one elsewhere
abbrev any_unit : (Leaf → Bool) → Leaf → Bool
any_unit p (named x) = p (named x)
any_unit p (in_unit u) = true
any_unit p descending = p descending

wider : (p : Leaf → Bool) (l : Leaf) → p l ≡ true → any_unit p l ≡ true
wider p (named x) h = h
wider p (in_unit u) h = refl
wider p descending h = h

all_wider : (p : Leaf → Bool) (ls : Leaves) → list_all p ls ≡ true → list_all (any_unit p) ls ≡ true
all_wider p [] h = refl
all_wider p (l ∷ ls) h = let parts = and_parts (p l) (list_all p ls) h in and_from (any_unit p l) (list_all (any_unit p) ls) (wider p l parts.0) (all_wider p ls parts.1)

module _ (p : Leaf → Bool) (f : Span → Span) (may : (s : Span) → p (in_unit (f s).unit) ≡ true) where
  -- the leaves of what is written otherwise, against those of what was written
  abbrev Same : Leaves → Leaves → Type 0
  Same new old = list_all p new ≡ list_all (any_unit p) old

  joined : (xs ys us vs : Leaves) → Same xs us → Same ys vs → Same (xs ++ ys) (us ++ vs)
  joined xs ys us vs a b = list_all-append p xs ys ∙ ap₂ (λ x y. x && y) a b ∙ sym (list_all-append (any_unit p) us vs)

  -- behind leaves without a unit
  behind_name : (x : List ℕ) (ys vs : Leaves) → Same ys vs → Same (named x ∷ ys) (named x ∷ vs)
  behind_name x ys vs b = ap (λ t. p (named x) && t) b

  of_name : (x : List ℕ) → Same (named x ∷ []) (named x ∷ [])
  of_name x = refl

  of_name_if : (x : Option (List ℕ)) → Same (name_if x) (name_if x)
  of_name_if None = refl
  of_name_if (Some x) = refl

  of_unit : (s : Span) (ys vs : Leaves) → Same ys vs → Same (in_unit (f s).unit ∷ ys) (in_unit s.unit ∷ vs)
  of_unit s ys vs b = ap₂ (λ x y. x && y) (may s) b

  of_expression : (e : tree.Expression) → Same (in_expression (retimed.expression f e)) (in_expression e)
  of_expression (tree.number line n) = refl
  of_expression (tree.time line n unit) = of_unit (span n unit) [] [] refl
  of_expression (tree.logic line digits) = refl
  of_expression (tree.truth line b) = refl
  of_expression (tree.now line) = refl
  of_expression (tree.myself line) = refl
  of_expression (tree.constant line word) = refl
  of_expression (tree.paren line e) = of_expression e
  of_expression (tree.convert line c e) = of_expression e
  of_expression (tree.to_vector line width e) = of_expression e
  of_expression (tree.concat line upper lower) =
      joined (in_expression (retimed.expression f upper)) (in_expression (retimed.expression f lower)) (in_expression upper) (in_expression lower) (of_expression upper) (of_expression lower)
  of_expression (tree.named line name) = refl
  of_expression (tree.placed line name at) = refl
  of_expression (tree.placed_by line name e) = behind_name name (in_expression (retimed.expression f e)) (in_expression e) (of_expression e)
  of_expression (tree.member e name) = joined (in_expression (retimed.expression f e)) (named name ∷ []) (in_expression e) (named name ∷ []) (of_expression e) (of_name name)
  of_expression (tree.element e index) =
      joined (in_expression (retimed.expression f e)) (in_expression (retimed.expression f index)) (in_expression e) (in_expression index) (of_expression e) (of_expression index)
  of_expression (tree.slice e high low) = of_expression e
  of_expression (tree.unary line o e) = of_expression e
  of_expression (tree.binary o left right) =
      joined (in_expression (retimed.expression f left)) (in_expression (retimed.expression f right)) (in_expression left) (in_expression right) (of_expression left) (of_expression right)

  of_expression_if : (e : Option tree.Expression) → Same (in_expression_if (retimed.option (retimed.expression f) e)) (in_expression_if e)
  of_expression_if None = refl
  of_expression_if (Some e) = of_expression e

  -- of each of a list
  of_each : {A : Type 0} (g : A → A) (leaves : A → Leaves) → ((x : A) → Same (leaves (g x)) (leaves x)) → (xs : List A) → Same (flat_map leaves (map g xs)) (flat_map leaves xs)
  of_each g leaves one [] = refl
  of_each g leaves one (x ∷ xs) = joined (leaves (g x)) (flat_map leaves (map g xs)) (leaves x) (flat_map leaves xs) (one x) (of_each g leaves one xs)

  of_expressions : (es : List tree.Expression) → Same (in_expressions (map (retimed.expression f) es)) (in_expressions es)
  of_expressions es = of_each (retimed.expression f) in_expression of_expression es

  of_place : (x : tree.Place) → Same (in_place (retimed.place f x)) (in_place x)
  of_place tree.first = refl
  of_place (tree.place_number n) = refl
  of_place (tree.computed e) = of_expression e

  of_channel : (c : tree.Channel) → Same (in_channel (retimed.channel f c)) (in_channel c)
  of_channel c = behind_name c.name (in_place (retimed.place f c.place)) (in_place c.place) (of_place c.place)

  of_event : (e : tree.Event) → Same (in_event (retimed.event f e)) (in_event e)
  of_event e = joined (in_channel (retimed.channel f e.channel)) (name_if e.member) (in_channel e.channel) (name_if e.member) (of_channel e.channel) (of_name_if e.member)

  of_events : (es : List tree.Event) → Same (in_events (map (retimed.event f) es)) (in_events es)
  of_events es = of_each (retimed.event f) in_event of_event es

  of_waiting : (w : tree.Waiting) → Same (in_waiting (retimed.waiting f w)) (in_waiting w)
  of_waiting tree.static = refl
  of_waiting tree.delta = refl
  of_waiting (tree.for_ e) = of_expression e
  of_waiting (tree.one e t) = joined (in_event (retimed.event f e)) (in_expression_if (retimed.option (retimed.expression f) t)) (in_event e) (in_expression_if t) (of_event e) (of_expression_if t)
  of_waiting (tree.any es t) = joined (in_events (map (retimed.event f) es)) (in_expression_if (retimed.option (retimed.expression f) t)) (in_events es) (in_expression_if t) (of_events es) (of_expression_if t)
  of_waiting (tree.all es t) = joined (in_events (map (retimed.event f) es)) (in_expression_if (retimed.option (retimed.expression f) t)) (in_events es) (in_expression_if t) (of_events es) (of_expression_if t)

  of_notification : (x : tree.Notification) → Same (in_notification (retimed.notification f x)) (in_notification x)
  of_notification tree.immediate = refl
  of_notification tree.next_delta = refl
  of_notification (tree.after e) = of_expression e

  of_target : (t : tree.Target) → Same (in_target (retimed.target f t)) (in_target t)
  of_target t =
      behind_name t.name (name_if t.member ++ in_expression_if (retimed.option (retimed.expression f) t.index)) (name_if t.member ++ in_expression_if t.index)
      (joined (name_if t.member) (in_expression_if (retimed.option (retimed.expression f) t.index)) (name_if t.member) (in_expression_if t.index) (of_name_if t.member) (of_expression_if t.index))

  of_operation : (o : tree.Operation) → Same (in_operation (retimed.operation f o)) (in_operation o)
  of_operation (tree.call x es) = behind_name x (in_expressions (map (retimed.expression f) es)) (in_expressions es) (of_expressions es)
  of_operation (tree.read c) = of_channel c
  of_operation (tree.nb_read c x) = joined (in_channel (retimed.channel f c)) (named x ∷ []) (in_channel c) (named x ∷ []) (of_channel c) (of_name x)
  of_operation (tree.nb_write c e) = joined (in_channel (retimed.channel f c)) (in_expression (retimed.expression f e)) (in_channel c) (in_expression e) (of_channel c) (of_expression e)
  of_operation (tree.trylock c) = of_channel c
  of_operation (tree.unlock c) = of_channel c
  of_operation (tree.sem_trywait c) = of_channel c
  of_operation (tree.nb_transport socket payload phase delay) = refl

  of_spawn : (s : tree.Spawn) → Same (in_spawn (retimed.spawn f s)) (in_spawn s)
  of_spawn s =
      let es = in_expressions (map (retimed.expression f) s.arguments) in let vs = in_events (map (retimed.event f) s.sensitive) in
      joined (name_if s.handle) (named s.function ∷ (es ++ vs)) (name_if s.handle) (named s.function ∷ (in_expressions s.arguments ++ in_events s.sensitive)) (of_name_if s.handle)
      (behind_name s.function (es ++ vs) (in_expressions s.arguments ++ in_events s.sensitive) (joined es vs (in_expressions s.arguments) (in_events s.sensitive) (of_expressions s.arguments) (of_events s.sensitive)))

  -- leaves among which there is no unit
  of_descending_if : (all : Bool) → Same (descending_if all) (descending_if all)
  of_descending_if true = refl
  of_descending_if false = refl

  of_who : (w : Who) → Same (in_who w) (in_who w)
  of_who (who.Named line x) = refl
  of_who (who.Myself line) = refl

  of_part : (x : Part) → Same (in_part (changed_part (retimed.change f) x)) (in_part x)
  of_part (part.name r x) = refl
  of_part (part.next_name r x) = refl
  of_part (part.reaching_name r x all) = behind_name x (descending_if all) (descending_if all) (of_descending_if all)
  of_part (part.text x) = refl
  of_part (part.term u e) = of_expression e
  of_part (part.term_if u e) = of_expression_if e
  of_part (part.next_term u e) = of_expression e
  of_part (part.next_term_if u e) = of_expression_if e
  of_part (part.channel u c) = of_channel c
  of_part (part.waiting w) = of_waiting w
  of_part (part.notification n) = of_notification n
  of_part (part.instance s) = of_spawn s
  of_part (part.process w) = of_who w
  of_part (part.reaching_process w all) = joined (in_who w) (descending_if all) (in_who w) (descending_if all) (of_who w) (of_descending_if all)

  of_action : (a : tree.Action) → Same (in_action (retimed.action f a)) (in_action a)
  of_action a = changed_linked (retimed.change f) Same in_part in_part (λ xs ys. xs ++ ys) (λ xs ys. xs ++ ys) [] [] joined of_part refl a

  mutual
    of_statement : (s : tree.Statement) → Same (in_statement (retimed.statement f s)) (in_statement s)
    of_statement (tree.var line t x e) = behind_name x (in_expression_if (retimed.option (retimed.expression f) e)) (in_expression_if e) (of_expression_if e)
    of_statement (tree.assign line t e) = joined (in_target (retimed.target f t)) (in_expression (retimed.expression f e)) (in_target t) (in_expression e) (of_target t) (of_expression e)
    of_statement (tree.operate line x at o) = joined (name_if x) (in_operation (retimed.operation f o)) (name_if x) (in_operation o) (of_name_if x) (of_operation o)
    of_statement (tree.act line a) = of_action a
    of_statement (tree.if_ line e body other) =
        let new = in_block (retimed.block f body) in let more = in_else (retimed.else_ f other) in
        joined (in_expression (retimed.expression f e)) (new ++ more) (in_expression e) (in_block body ++ in_else other) (of_expression e) (joined new more (in_block body) (in_else other) (of_block body) (of_else other))
    of_statement (tree.while_ line e body) = joined (in_expression (retimed.expression f e)) (in_block (retimed.block f body)) (in_expression e) (in_block body) (of_expression e) (of_block body)
    of_statement (tree.guard line body undo) = joined (in_block (retimed.block f body)) (in_block (retimed.block f undo)) (in_block body) (in_block undo) (of_block body) (of_block undo)
    of_statement (tree.try_ line body hs) = joined (in_block (retimed.block f body)) (in_handlers (retimed.handlers_ f hs)) (in_block body) (in_handlers hs) (of_block body) (of_handlers hs)

    of_block : (ss : tree.Block) → Same (in_block (retimed.block f ss)) (in_block ss)
    of_block tree.over = refl
    of_block (tree.then s ss) = joined (in_statement (retimed.statement f s)) (in_block (retimed.block f ss)) (in_statement s) (in_block ss) (of_statement s) (of_block ss)

    of_else : (other : tree.Else) → Same (in_else (retimed.else_ f other)) (in_else other)
    of_else tree.no_else = refl
    of_else (tree.else_block body) = of_block body

    of_handlers : (hs : tree.Handlers) → Same (in_handlers (retimed.handlers_ f hs)) (in_handlers hs)
    of_handlers tree.no_more = refl
    of_handlers (tree.handler x body more) =
        let new = in_block (retimed.block f body) in let others = in_handlers (retimed.handlers_ f more) in
        behind_name x (new ++ others) (in_block body ++ in_handlers more) (joined new others (in_block body) (in_handlers more) (of_block body) (of_handlers more))

  of_form : (c : ConstantForm) → Same (in_form (retimed.form f c)) (in_form c)
  of_form (constant.Number n) = refl
  of_form (constant.Negative n) = refl
  of_form (constant.Time n unit) = of_unit (span n unit) [] [] refl
  of_form (constant.Logic digits) = refl
  of_form (constant.Truth b) = refl

  of_constant : (c : Option Constant) → Same (in_constant (retimed.option (retimed.constant_ f) c)) (in_constant c)
  of_constant None = refl
  of_constant (Some c) = of_form c.form

  of_span : (s : Option Span) → Same (in_span (retimed.option f s)) (in_span s)
  of_span None = refl
  of_span (Some s) = of_unit s [] [] refl

  of_parameters : (ps : List Parameter) → Same (flat_map in_parameter ps) (flat_map in_parameter ps)
  of_parameters [] = refl
  of_parameters (x ∷ xs) = behind_name x.name (flat_map in_parameter xs) (flat_map in_parameter xs) (of_parameters xs)

  of_initiator : (x : InitiatorRole) → Same (in_initiator x) (in_initiator x)
  of_initiator initiator.Pass = refl
  of_initiator (initiator.Own bw) = of_name_if bw

  of_socket : (x : TargetRole) → Same (in_socket x) (in_socket x)
  of_socket target.Pass = refl
  of_socket (target.Own bt fw) = joined (name_if bt) (name_if fw) (name_if bt) (name_if fw) (of_name_if bt) (of_name_if fw)

  of_end : (x : End) → Same (in_end x) (in_end x)
  of_end x = behind_name x.name (name_if x.member) (name_if x.member) (of_name_if x.member)

  of_item : (i : tree.Item) → Same (in_item (retimed.item f i)) (in_item i)
  of_item (tree.signal line s) = behind_name s.name (in_constant (retimed.option (retimed.constant_ f) s.initial)) (in_constant s.initial) (of_constant s.initial)
  of_item (tree.resolved line x) = refl
  of_item (tree.clock line c) =
      let new = in_span (retimed.option f c.start) in
      behind_name c.name (in_unit (f c.period).unit ∷ in_unit (f c.high).unit ∷ new) (in_unit c.period.unit ∷ in_unit c.high.unit ∷ in_span c.start)
      (of_unit c.period (in_unit (f c.high).unit ∷ new) (in_unit c.high.unit ∷ in_span c.start) (of_unit c.high new (in_span c.start) (of_span c.start)))
  of_item (tree.fifo line t x size) = refl
  of_item (tree.plain line kind x) = refl
  of_item (tree.semaphore line x c) = behind_name x (in_form (retimed.form f c.form)) (in_form c.form) (of_form c.form)
  of_item (tree.memory line x size) = refl
  of_item (tree.variable line t x c) = behind_name x (in_constant (retimed.option (retimed.constant_ f) c)) (in_constant c) (of_constant c)
  of_item (tree.port line i x size) = refl
  of_item (tree.export line i x) = refl
  of_item (tree.initiator line x role) = behind_name x (in_initiator role) (in_initiator role) (of_initiator role)
  of_item (tree.target line x role) = behind_name x (in_socket role) (in_socket role) (of_socket role)
  of_item (tree.instance line kind x) = refl
  of_item (tree.bind line left right) = joined (in_end left) (in_end right) (in_end left) (in_end right) (of_end left) (of_end right)
  of_item (tree.function line x) =
      behind_name x.name (flat_map in_parameter x.parameters ++ in_block (retimed.block f x.body)) (flat_map in_parameter x.parameters ++ in_block x.body)
      (joined (flat_map in_parameter x.parameters) (in_block (retimed.block f x.body)) (flat_map in_parameter x.parameters) (in_block x.body) (of_parameters x.parameters) (of_block x.body))
  of_item (tree.process line x) =
      behind_name x.name (in_events (map (retimed.event f) x.sensitive) ++ in_block (retimed.block f x.body)) (in_events x.sensitive ++ in_block x.body)
      (joined (in_events (map (retimed.event f) x.sensitive)) (in_block (retimed.block f x.body)) (in_events x.sensitive) (in_block x.body) (of_events x.sensitive) (of_block x.body))

  of_module : (m : tree.Module) → Same (in_module (retimed.module_ f m)) (in_module m)
  of_module m = behind_name m.name (flat_map in_item (map (retimed.item f) m.items)) (flat_map in_item m.items) (of_each (retimed.item f) in_item of_item m.items)

  of_model : (m : tree.Model) → Same (leaves_of (retimed.model f m)) (leaves_of m)
  of_model m =
      let top = named m.top.module ∷ named m.top.name ∷ [] in
      joined (flat_map in_module (map (retimed.module_ f) m.modules)) top (flat_map in_module m.modules) top (of_each (retimed.module_ f) in_module of_module m.modules) refl

  -- a tree whose leaves pass keeps them so, where each unit that is written passes
  pub retimed_pass : (m : tree.Model) → list_all p (leaves_of m) ≡ true → list_all p (leaves_of (retimed.model f m)) ≡ true
  retimed_pass m h = of_model m ∙ all_wider p (leaves_of m) h
