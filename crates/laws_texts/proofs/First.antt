-- The times of a tree whose names and units pass a test: each of their units passes it too.
use Rattle.std.proofs.Common.{◌≡◌, ℕ, Bool, true, ◌&&◌, List, [], ◌∷◌, ◌++◌, Option, Some, None, refl, ◌∙◌, sym}
use Rattle.std.specs.List.{list_all, flat_map}
use Rattle.std.proofs.lemmas.Bool.{and_parts, and_from}
use Rattle.std.proofs.lemmas.List.Folds.{list_all-append}
use Rattle.model_tree.specs.Tree as tree
use Rattle.model_tree.specs.Parts as part
use Rattle.model_tree.specs.Parts.{Part, parts_of}
use Rattle.model_tree.proofs.Parts.{linked}
use Rattle.model_tree.specs.Languages as leaves
use Rattle.model_tree.specs.Languages.{Leaf, named, in_unit, Leaves, name_if, descending_if, leaves_of}
use Rattle.model_tree.specs.declared.types.Constant.{Constant}
use Rattle.model_tree.specs.declared.types.ConstantForm.{ConstantForm}
use Rattle.model_tree.specs.declared.types.ConstantForm.TheVariants as constant
use Rattle.model_tree.specs.declared.types.Span.{Span}
use Rattle.tick_trees.specs.Times as times
use Rattle.tick_trees.specs.Times.{Timed, times_of}

module _ (p : Leaf → Bool) where
  -- each unit of a construct passes
  abbrev pub passes : Timed → Bool
  passes t = list_all (λ (s : Span). p (in_unit s.unit)) t.spans

  abbrev Told : Leaves → List Timed → Type 0
  Told ls ts = list_all p ls ≡ true → list_all passes ts ≡ true

  joined : (ls ms : Leaves) (ts us : List Timed) → Told ls ts → Told ms us → Told (ls ++ ms) (ts ++ us)
  joined ls ms ts us f g h =
      let parts = and_parts (list_all p ls) (list_all p ms) (sym (list_all-append p ls ms) ∙ h) in
      list_all-append passes ts us ∙ and_from (list_all passes ts) (list_all passes us) (f parts.0) (g parts.1)

  -- leaves with no time among them, in front or behind
  past : (ls ms : Leaves) (ts : List Timed) → Told ms ts → Told (ls ++ ms) ts
  past ls ms ts g h = g (and_parts (list_all p ls) (list_all p ms) (sym (list_all-append p ls ms) ∙ h)).1

  past_name : (x : List ℕ) (ms : Leaves) (ts : List Timed) → Told ms ts → Told (named x ∷ ms) ts
  past_name x ms ts g h = g (and_parts (p (named x)) (list_all p ms) h).1

  before : (ls ms : Leaves) (ts : List Timed) → Told ls ts → Told (ls ++ ms) ts
  before ls ms ts f h = f (and_parts (list_all p ls) (list_all p ms) (sym (list_all-append p ls ms) ∙ h)).0

  none : (ls : Leaves) → Told ls []
  none ls h = refl

  of_each : {A : Type 0} (in_leaves : A → Leaves) (in_times : A → List Timed) → ((x : A) → Told (in_leaves x) (in_times x)) → (xs : List A) → Told (flat_map in_leaves xs) (flat_map in_times xs)
  of_each in_leaves in_times one [] = none []
  of_each in_leaves in_times one (x ∷ xs) = joined (in_leaves x) (flat_map in_leaves xs) (in_times x) (flat_map in_times xs) (one x) (of_each in_leaves in_times one xs)

  of_expression : (e : tree.Expression) → Told (leaves.in_expression e) (times.in_expression e)
  of_expression (tree.number line n) = none []
  of_expression (tree.time line n unit) = λ h. and_from (p (in_unit unit) && true) true h refl
  of_expression (tree.logic line digits) = none []
  of_expression (tree.truth line b) = none []
  of_expression (tree.now line) = none []
  of_expression (tree.myself line) = none []
  of_expression (tree.constant line word) = none []
  of_expression (tree.paren line e) = of_expression e
  of_expression (tree.convert line c e) = of_expression e
  of_expression (tree.to_vector line width e) = of_expression e
  of_expression (tree.concat line upper lower) = joined (leaves.in_expression upper) (leaves.in_expression lower) (times.in_expression upper) (times.in_expression lower) (of_expression upper) (of_expression lower)
  of_expression (tree.named line name) = none (named name ∷ [])
  of_expression (tree.placed line name at) = none (named name ∷ [])
  of_expression (tree.placed_by line name e) = past_name name (leaves.in_expression e) (times.in_expression e) (of_expression e)
  of_expression (tree.member e name) = before (leaves.in_expression e) (named name ∷ []) (times.in_expression e) (of_expression e)
  of_expression (tree.element e index) = joined (leaves.in_expression e) (leaves.in_expression index) (times.in_expression e) (times.in_expression index) (of_expression e) (of_expression index)
  of_expression (tree.slice e high low) = of_expression e
  of_expression (tree.unary line o e) = of_expression e
  of_expression (tree.binary o left right) = joined (leaves.in_expression left) (leaves.in_expression right) (times.in_expression left) (times.in_expression right) (of_expression left) (of_expression right)

  of_option : (e : Option tree.Expression) → Told (leaves.in_expression_if e) (times.in_option times.in_expression e)
  of_option None = none []
  of_option (Some e) = of_expression e

  of_place : (x : tree.Place) → Told (leaves.in_place x) (times.in_place x)
  of_place tree.first = none []
  of_place (tree.place_number n) = none []
  of_place (tree.computed e) = of_expression e

  of_channel : (c : tree.Channel) → Told (leaves.in_channel c) (times.in_channel c)
  of_channel c = past_name c.name (leaves.in_place c.place) (times.in_place c.place) (of_place c.place)

  of_event : (e : tree.Event) → Told (leaves.in_event e) (times.in_event e)
  of_event e = before (leaves.in_channel e.channel) (name_if e.member) (times.in_channel e.channel) (of_channel e.channel)

  of_events : (es : List tree.Event) → Told (leaves.in_events es) (times.in_events es)
  of_events es = of_each leaves.in_event times.in_event of_event es

  of_expressions : (es : List tree.Expression) → Told (leaves.in_expressions es) (flat_map times.in_expression es)
  of_expressions es = of_each leaves.in_expression times.in_expression of_expression es

  of_waiting : (w : tree.Waiting) → Told (leaves.in_waiting w) (times.in_waiting w)
  of_waiting tree.static = none []
  of_waiting tree.delta = none []
  of_waiting (tree.for_ e) = of_expression e
  of_waiting (tree.one e t) = joined (leaves.in_event e) (leaves.in_expression_if t) (times.in_event e) (times.in_option times.in_expression t) (of_event e) (of_option t)
  of_waiting (tree.any es t) = joined (leaves.in_events es) (leaves.in_expression_if t) (times.in_events es) (times.in_option times.in_expression t) (of_events es) (of_option t)
  of_waiting (tree.all es t) = joined (leaves.in_events es) (leaves.in_expression_if t) (times.in_events es) (times.in_option times.in_expression t) (of_events es) (of_option t)

  of_notification : (x : tree.Notification) → Told (leaves.in_notification x) (times.in_notification x)
  of_notification tree.immediate = none []
  of_notification tree.next_delta = none []
  of_notification (tree.after e) = of_expression e

  of_operation : (o : tree.Operation) → Told (leaves.in_operation o) (times.in_operation o)
  of_operation (tree.call x es) = past_name x (leaves.in_expressions es) (flat_map times.in_expression es) (of_expressions es)
  of_operation (tree.read c) = of_channel c
  of_operation (tree.nb_read c x) = before (leaves.in_channel c) (named x ∷ []) (times.in_channel c) (of_channel c)
  of_operation (tree.nb_write c e) = joined (leaves.in_channel c) (leaves.in_expression e) (times.in_channel c) (times.in_expression e) (of_channel c) (of_expression e)
  of_operation (tree.trylock c) = of_channel c
  of_operation (tree.unlock c) = of_channel c
  of_operation (tree.sem_trywait c) = of_channel c
  of_operation (tree.nb_transport socket payload phase delay) = none (named socket ∷ named payload ∷ named phase ∷ named delay ∷ [])

  of_part : (x : Part) → Told (leaves.in_part x) (times.in_part x)
  of_part (part.name r x) = none (named x ∷ [])
  of_part (part.next_name r x) = none (named x ∷ [])
  of_part (part.reaching_name r x all) = none (named x ∷ descending_if all)
  of_part (part.text x) = none []
  of_part (part.term u e) = of_expression e
  of_part (part.term_if u e) = of_option e
  of_part (part.next_term u e) = of_expression e
  of_part (part.next_term_if u e) = of_option e
  of_part (part.channel u c) = of_channel c
  of_part (part.waiting w) = of_waiting w
  of_part (part.notification n) = of_notification n
  of_part (part.instance s) =
      let ls = leaves.in_expressions s.arguments ++ leaves.in_events s.sensitive in let ts = flat_map times.in_expression s.arguments ++ times.in_events s.sensitive in
      past (name_if s.handle) (named s.function ∷ ls) ts (past_name s.function ls ts (joined (leaves.in_expressions s.arguments) (leaves.in_events s.sensitive) (flat_map times.in_expression s.arguments) (times.in_events s.sensitive) (of_expressions s.arguments) (of_events s.sensitive)))
  of_part (part.process w) = none (leaves.in_who w)
  of_part (part.reaching_process w all) = none (leaves.in_who w ++ descending_if all)

  of_action : (a : tree.Action) → Told (leaves.in_action a) (times.in_action a)
  of_action a = linked Told leaves.in_part times.in_part (λ xs ys. xs ++ ys) (λ xs ys. xs ++ ys) [] [] joined of_part (none []) (parts_of a)

  mutual
    of_statement : (s : tree.Statement) → Told (leaves.in_statement s) (times.in_statement s)
    of_statement (tree.var line t x e) = past_name x (leaves.in_expression_if e) (times.in_option times.in_expression e) (of_option e)
    of_statement (tree.assign line t e) =
        joined (leaves.in_target t) (leaves.in_expression e) (times.in_option times.in_expression t.index) (times.in_expression e)
        (past_name t.name (name_if t.member ++ leaves.in_expression_if t.index) (times.in_option times.in_expression t.index) (past (name_if t.member) (leaves.in_expression_if t.index) (times.in_option times.in_expression t.index) (of_option t.index)))
        (of_expression e)
    of_statement (tree.operate line x at o) = past (name_if x) (leaves.in_operation o) (times.in_operation o) (of_operation o)
    of_statement (tree.act line a) = of_action a
    of_statement (tree.if_ line e body other) =
        joined (leaves.in_expression e) (leaves.in_block body ++ leaves.in_else other) (times.in_expression e) (times.in_block body ++ times.in_else other) (of_expression e)
        (joined (leaves.in_block body) (leaves.in_else other) (times.in_block body) (times.in_else other) (of_block body) (of_else other))
    of_statement (tree.while_ line e body) = joined (leaves.in_expression e) (leaves.in_block body) (times.in_expression e) (times.in_block body) (of_expression e) (of_block body)
    of_statement (tree.guard line body undo) = joined (leaves.in_block body) (leaves.in_block undo) (times.in_block body) (times.in_block undo) (of_block body) (of_block undo)
    of_statement (tree.try_ line body hs) = joined (leaves.in_block body) (leaves.in_handlers hs) (times.in_block body) (times.in_handlers hs) (of_block body) (of_handlers hs)

    of_block : (ss : tree.Block) → Told (leaves.in_block ss) (times.in_block ss)
    of_block tree.over = none []
    of_block (tree.then s ss) = joined (leaves.in_statement s) (leaves.in_block ss) (times.in_statement s) (times.in_block ss) (of_statement s) (of_block ss)

    of_else : (other : tree.Else) → Told (leaves.in_else other) (times.in_else other)
    of_else tree.no_else = none []
    of_else (tree.else_block body) = of_block body

    of_handlers : (hs : tree.Handlers) → Told (leaves.in_handlers hs) (times.in_handlers hs)
    of_handlers tree.no_more = none []
    of_handlers (tree.handler x body more) =
        past_name x (leaves.in_block body ++ leaves.in_handlers more) (times.in_block body ++ times.in_handlers more)
        (joined (leaves.in_block body) (leaves.in_handlers more) (times.in_block body) (times.in_handlers more) (of_block body) (of_handlers more))

  of_form : (line : ℕ) (c : ConstantForm) → Told (leaves.in_form c) (times.in_form line c)
  of_form line (constant.Number n) = none []
  of_form line (constant.Negative n) = none []
  of_form line (constant.Time n unit) = λ h. and_from (p (in_unit unit) && true) true h refl
  of_form line (constant.Logic digits) = none []
  of_form line (constant.Truth b) = none []

  of_constant : (c : Option Constant) → Told (leaves.in_constant c) (times.in_option times.in_constant c)
  of_constant None = none []
  of_constant (Some c) = of_form c.line c.form

  of_start : (s : Option Span) → list_all p (leaves.in_span s) ≡ true → list_all (λ (x : Span). p (in_unit x.unit)) (times.span_if s) ≡ true
  of_start None h = refl
  of_start (Some s) h = h

  of_clock : (a b : Span) (s : Option Span) (line : ℕ) → Told (in_unit a.unit ∷ in_unit b.unit ∷ leaves.in_span s) (times.timed line (a ∷ b ∷ times.span_if s) ∷ [])
  of_clock a b s line h =
      let one = and_parts (p (in_unit a.unit)) (p (in_unit b.unit) && list_all p (leaves.in_span s)) h in
      let two = and_parts (p (in_unit b.unit)) (list_all p (leaves.in_span s)) one.1 in
      let rest = list_all (λ (x : Span). p (in_unit x.unit)) (times.span_if s) in
      and_from (p (in_unit a.unit) && (p (in_unit b.unit) && rest)) true (and_from (p (in_unit a.unit)) (p (in_unit b.unit) && rest) one.0 (and_from (p (in_unit b.unit)) rest two.0 (of_start s two.1))) refl

  of_item : (i : tree.Item) → Told (leaves.in_item i) (times.in_item i)
  of_item (tree.signal line s) = past_name s.name (leaves.in_constant s.initial) (times.in_option times.in_constant s.initial) (of_constant s.initial)
  of_item (tree.resolved line x) = none (named x ∷ [])
  of_item (tree.clock line c) =
      past_name c.name (in_unit c.period.unit ∷ in_unit c.high.unit ∷ leaves.in_span c.start) (times.timed line (c.period ∷ c.high ∷ times.span_if c.start) ∷ []) (of_clock c.period c.high c.start line)
  of_item (tree.fifo line t x size) = none (named x ∷ [])
  of_item (tree.plain line kind x) = none (named x ∷ [])
  of_item (tree.semaphore line x c) = past_name x (leaves.in_form c.form) (times.in_constant c) (of_form c.line c.form)
  of_item (tree.memory line x size) = none (named x ∷ [])
  of_item (tree.variable line t x c) = past_name x (leaves.in_constant c) (times.in_option times.in_constant c) (of_constant c)
  of_item (tree.port line i x size) = none (named x ∷ [])
  of_item (tree.export line i x) = none (named x ∷ [])
  of_item (tree.initiator line x role) = none (named x ∷ leaves.in_initiator role)
  of_item (tree.target line x role) = none (named x ∷ leaves.in_socket role)
  of_item (tree.instance line kind x) = none (named kind ∷ named x ∷ [])
  of_item (tree.bind line left right) = none (leaves.in_end left ++ leaves.in_end right)
  of_item (tree.function line f) =
      past_name f.name (flat_map leaves.in_parameter f.parameters ++ leaves.in_block f.body) (times.in_block f.body) (past (flat_map leaves.in_parameter f.parameters) (leaves.in_block f.body) (times.in_block f.body) (of_block f.body))
  of_item (tree.process line x) =
      past_name x.name (leaves.in_events x.sensitive ++ leaves.in_block x.body) (times.in_events x.sensitive ++ times.in_block x.body)
      (joined (leaves.in_events x.sensitive) (leaves.in_block x.body) (times.in_events x.sensitive) (times.in_block x.body) (of_events x.sensitive) (of_block x.body))

  of_module : (m : tree.Module) → Told (leaves.in_module m) (times.in_module m)
  of_module m = past_name m.name (flat_map leaves.in_item m.items) (flat_map times.in_item m.items) (of_each leaves.in_item times.in_item of_item m.items)

  pub units_pass : (m : tree.Model) → list_all p (leaves_of m) ≡ true → list_all passes (times_of m) ≡ true
  units_pass m =
      before (flat_map leaves.in_module m.modules) (named m.top.module ∷ named m.top.name ∷ []) (times_of m) (of_each leaves.in_module times.in_module of_module m.modules)
