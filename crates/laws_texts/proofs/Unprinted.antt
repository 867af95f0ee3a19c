-- Line numbers are not printed: a tree without them has the same printed tokens.
use Rattle.std.proofs.Common.{◌≡◌, List, [], ◌∷◌, ◌++◌, Option, Some, None, ◌∙◌, refl, sym, ap}
use Rattle.std.specs.Prelude.{map, option_map}
use Rattle.model_print.specs.ModelTree.declared.vocabulary.Word.TheVariants as w
use Rattle.model_print.specs.ModelTree.declared.types.VarType.{VarType}
use Rattle.model_print.specs.ModelTree.declared.types.VarType.TheVariants as variable
use Rattle.model_print.specs.ModelTree.declared.types.Constant.{Constant}
use Rattle.model_print.specs.ModelTree.declared.types.Interface.{Interface}
use Rattle.model_print.specs.ModelTree.declared.types.Interface.TheVariants as interface
use Rattle.model_print.specs.ModelTree.declared.types.Parameter.{Parameter}
use Rattle.model_print.specs.ModelTree.declared.statements.Who.{Who}
use Rattle.model_print.specs.ModelTree.declared.statements.Who.TheVariants as who
use Rattle.model_print.specs.ModelTree.declared.items.Head.{Head}
use Rattle.model_print.specs.ModelTree.declared.items.Head.TheVariants as head
use Rattle.model_print.specs.ModelTree.Tree as tree
use Rattle.model_tree.specs.Parts as made
use Rattle.model_tree.specs.Parts.{Part, changed_part, parts_of, word_of_action}
use Rattle.model_tree.proofs.Parts.{changed_linked, changed_word}
use Rattle.model_print.specs.Layout.{Piece, layout}
use Rattle.model_print.specs.Pieces as piece
use Rattle.model_print.specs.Leaves as leaf
use Rattle.model_print.specs.Printed as printed
use Rattle.laws_texts.specs.Unlined as unlined

module _ {A : Type 0} (un : A → A) (f : A → List Piece) (g : (x : A) → f (un x) ≡ f x) where
  same_maybe : (x : Option A) → piece.maybe f (option_map un x) ≡ piece.maybe f x
  same_maybe None = refl
  same_maybe (Some x) = g x

  same_each : (xs : List A) → piece.each f (map un xs) ≡ piece.each f xs
  same_each [] = refl
  same_each (x ∷ xs) = rw (g x, same_each xs) refl

-- each behind a comma
same_more : {A : Type 0} (un : A → A) (f : A → List Piece) → ((x : A) → f (un x) ≡ f x) → (xs : List A) → piece.each (λ x. piece.comma ∷ f x) (map un xs) ≡ piece.each (λ x. piece.comma ∷ f x) xs
same_more un f g xs = same_each un (λ x. piece.comma ∷ f x) (λ x. ap (λ ps. piece.comma ∷ ps) (g x)) xs

same_separated : {A : Type 0} (un : A → A) (f : A → List Piece) → ((x : A) → f (un x) ≡ f x) → (xs : List A) → piece.separated f (map un xs) ≡ piece.separated f xs
same_separated un f g [] = refl
same_separated un f g (x ∷ xs) = rw (g x, same_more un f g xs) refl

same_expression : (e : tree.Expression) → printed.expression (unlined.expression e) ≡ printed.expression e
same_expression (tree.paren line e) = rw (same_expression e) refl
same_expression (tree.convert line c e) = rw (same_expression e) refl
same_expression (tree.to_vector line width e) = rw (same_expression e) refl
same_expression (tree.concat line upper lower) = rw (same_expression upper, same_expression lower) refl
same_expression (tree.placed_by line x e) = rw (same_expression e) refl
same_expression (tree.member e x) = rw (same_expression e) refl
same_expression (tree.element e index) = rw (same_expression e, same_expression index) refl
same_expression (tree.slice e high low) = rw (same_expression e) refl
same_expression (tree.unary line o e) = rw (same_expression e) refl
same_expression (tree.binary o left right) = rw (same_expression left, same_expression right) refl
same_expression _ = refl

same_option : (o : Option tree.Expression) → piece.maybe printed.expression (option_map unlined.expression o) ≡ piece.maybe printed.expression o
same_option o = same_maybe unlined.expression printed.expression same_expression o

same_arguments : (es : List tree.Expression) → printed.arguments (map unlined.expression es) ≡ printed.arguments es
same_arguments es = ap piece.bracketed (same_separated unlined.expression printed.expression same_expression es)

same_place : (p : tree.Place) → printed.place (unlined.place p) ≡ printed.place p
same_place tree.first = refl
same_place (tree.place_number n) = refl
same_place (tree.computed e) = rw (same_expression e) refl

same_event : (e : tree.Event) → printed.event (unlined.event e) ≡ printed.event e
same_event e = rw (same_place e.channel.place) refl

same_time_out : (t : Option tree.Expression) → printed.time_out (option_map unlined.expression t) ≡ printed.time_out t
same_time_out None = refl
same_time_out (Some e) = rw (same_expression e) refl

same_events : (es : List tree.Event) → piece.separated printed.event (map unlined.event es) ≡ piece.separated printed.event es
same_events es = same_separated unlined.event printed.event same_event es

same_waiting : (x : tree.Waiting) → printed.waiting (unlined.waiting x) ≡ printed.waiting x
same_waiting tree.static = refl
same_waiting tree.delta = refl
same_waiting (tree.for_ e) = rw (same_expression e) refl
same_waiting (tree.one e t) = rw (same_place e.channel.place, same_time_out t) refl
same_waiting (tree.any es t) = rw (same_events es, same_time_out t) refl
same_waiting (tree.all es t) = rw (same_events es, same_time_out t) refl

same_notification : (x : tree.Notification) → printed.notification (unlined.notification x) ≡ printed.notification x
same_notification tree.immediate = refl
same_notification tree.next_delta = refl
same_notification (tree.after e) = rw (same_expression e) refl

same_index : (o : Option tree.Expression) → printed.index (option_map unlined.expression o) ≡ printed.index o
same_index None = refl
same_index (Some e) = rw (same_expression e) refl

same_sensitive : (es : List tree.Event) → printed.sensitive (map unlined.event es) ≡ printed.sensitive es
same_sensitive [] = refl
same_sensitive (e ∷ es) = ap (λ (ps : List Piece). piece.word w.Sensitive ∷ ps) (same_events (e ∷ es))

same_operation : (o : tree.Operation) → printed.operation (unlined.operation o) ≡ printed.operation o
same_operation (tree.call x es) = rw (same_arguments es) refl
same_operation (tree.read c) = rw (same_place c.place) refl
same_operation (tree.nb_read c x) = rw (same_place c.place) refl
same_operation (tree.nb_write c e) = rw (same_place c.place, same_expression e) refl
same_operation (tree.trylock c) = rw (same_place c.place) refl
same_operation (tree.unlock c) = rw (same_place c.place) refl
same_operation (tree.sem_trywait c) = rw (same_place c.place) refl
same_operation (tree.nb_transport x p phase t) = refl

same_spawn : (x : tree.Spawn) → printed.spawn (unlined.spawn x) ≡ printed.spawn x
same_spawn x = rw (same_arguments x.arguments, same_sensitive x.sensitive) refl

same_who : (x : Who) → leaf.who (unlined.process x) ≡ leaf.who x
same_who (who.Named line x) = refl
same_who (who.Myself line) = refl

same_one_more : (o : Option tree.Expression) → printed.one_more (option_map unlined.expression o) ≡ printed.one_more o
same_one_more None = refl
same_one_more (Some e) = rw (same_expression e) refl

same_part : (p : Part) → printed.part (changed_part unlined.change p) ≡ printed.part p
same_part (made.term u e) = same_expression e
same_part (made.term_if u e) = same_option e
same_part (made.next_term u e) = rw (same_expression e) refl
same_part (made.next_term_if u e) = same_one_more e
same_part (made.channel u c) = rw (same_place c.place) refl
same_part (made.waiting t) = same_waiting t
same_part (made.notification t) = same_notification t
same_part (made.instance x) = rw (same_arguments x.arguments, same_sensitive x.sensitive) refl
same_part (made.process p) = rw (same_who p) refl
same_part (made.reaching_process p all) = rw (same_who p) refl
same_part _ = refl

same_both : (xs ys us vs : List Piece) → xs ≡ us → ys ≡ vs → xs ++ ys ≡ us ++ vs
same_both xs ys us vs a b = rw (a, b) refl

abbrev pieces : List Part → List Piece
pieces ps = made.joined printed.part (λ xs ys. xs ++ ys) [] ps

same_action : (a : tree.Action) → printed.action (unlined.action a) ≡ printed.action a
same_action a =
    ap (λ v. piece.word v ∷ pieces (parts_of (unlined.action a))) (changed_word unlined.change a)
    ∙ ap (λ (ps : List Piece). piece.word (word_of_action a) ∷ ps) (changed_linked unlined.change (λ (xs us : List Piece). xs ≡ us) printed.part printed.part (λ xs ys. xs ++ ys) (λ xs ys. xs ++ ys) [] [] same_both same_part refl a)

same_var_type : (t : VarType) → leaf.var_type (unlined.var_type t) ≡ leaf.var_type t
same_var_type (variable.Plain t) = refl
same_var_type variable.Time = refl
same_var_type variable.Process = refl
same_var_type variable.Payload = refl

same_initial : (o : Option tree.Expression) → printed.initial (option_map unlined.expression o) ≡ printed.initial o
same_initial None = refl
same_initial (Some e) = rw (same_expression e) refl

mutual
  same_statement : (x : tree.Statement) → printed.statement (unlined.statement x) ≡ printed.statement x
  same_statement (tree.var line t x e) = rw (same_var_type t, same_initial e) refl
  same_statement (tree.assign line t e) = rw (same_index t.index, same_expression e) refl
  same_statement (tree.operate line x at o) = rw (same_operation o) refl
  same_statement (tree.act line a) = ap (λ (ps : List Piece). ps ++ piece.semicolon ∷ []) (same_action a)
  same_statement (tree.if_ line e body other) = rw (same_expression e, same_block body, same_else other) refl
  same_statement (tree.while_ line e body) = rw (same_expression e, same_block body) refl
  same_statement (tree.guard line body undo) = rw (same_block body, same_block undo) refl
  same_statement (tree.try_ line body hs) = rw (same_block body, same_handlers hs) refl

  same_block : (x : tree.Block) → printed.statements (unlined.block x) ≡ printed.statements x
  same_block tree.over = refl
  same_block (tree.then x xs) = rw (same_statement x, same_block xs) refl

  same_else : (x : tree.Else) → printed.else_ (unlined.otherwise x) ≡ printed.else_ x
  same_else tree.no_else = refl
  same_else (tree.else_block body) = rw (same_block body) refl

  same_handlers : (x : tree.Handlers) → printed.handlers (unlined.handlers x) ≡ printed.handlers x
  same_handlers tree.no_more = refl
  same_handlers (tree.handler x body more) = rw (same_block body, same_handlers more) refl

same_first_value : (o : Option Constant) → leaf.first_value (option_map unlined.constant o) ≡ leaf.first_value o
same_first_value None = refl
same_first_value (Some c) = refl

same_interface : (i : Interface) → leaf.interface (unlined.interface_ i) ≡ leaf.interface i
same_interface (interface.In t) = refl
same_interface (interface.Out t) = refl
same_interface (interface.FifoIn t) = refl
same_interface (interface.FifoOut t) = refl
same_interface interface.Mutex = refl
same_interface interface.Semaphore = refl

same_parameter : (p : Parameter) → leaf.parameter (unlined.parameter p) ≡ leaf.parameter p
same_parameter p = rw (same_var_type p.var_type) refl

same_answer : (t : Option VarType) → printed.answer (option_map unlined.var_type t) ≡ printed.answer t
same_answer None = refl
same_answer (Some t) = rw (same_var_type t) refl

same_function : (f : tree.FunctionItem) → printed.function (unlined.function f) ≡ printed.function f
same_function f = rw (same_separated unlined.parameter leaf.parameter same_parameter f.parameters, same_answer f.answer, same_block f.body) refl

same_process : (p : tree.ProcessItem) → printed.process (unlined.process_item p) ≡ printed.process p
same_process p = rw (same_sensitive p.sensitive, same_block p.body) refl

same_item : (i : tree.Item) → printed.item (unlined.item i) ≡ printed.item i
same_item (tree.signal line x) = rw (same_first_value x.initial) refl
same_item (tree.variable line t x c) = rw (same_var_type t, same_first_value c) refl
same_item (tree.port line i x size) = rw (same_interface i) refl
same_item (tree.export line i x) = rw (same_interface i) refl
same_item (tree.function line f) = same_function f
same_item (tree.process line p) = same_process p
same_item _ = refl

same_module : (m : tree.Module) → printed.module_ (unlined.module_ m) ≡ printed.module_ m
same_module m = rw (same_each unlined.item printed.item same_item m.items) refl

same_model : (m : tree.Model) → printed.model (unlined.model m) ≡ printed.model m
same_model m = rw (same_each unlined.module_ printed.module_ same_module m.modules) refl

same_head : (h : Head) → printed.first_lines (unlined.head h) ≡ printed.first_lines h
same_head head.First = refl
same_head (head.Second None) = refl
same_head (head.Second (Some r)) = refl

same_printed : (x : tree.Source) → printed.printed (unlined.source x) ≡ printed.printed x
same_printed x =
    ap (λ (ps : List Piece). ps ++ printed.model (unlined.model x.model)) (same_head x.head) ∙ ap (λ (ps : List Piece). printed.first_lines x.head ++ ps) (same_model x.model)

-- trees that are the same but for line numbers have one printed text
pub same_text : (x y : tree.Source) → unlined.SameButLines x y → printed.printed_text x ≡ printed.printed_text y
same_text x y e = ap layout (sym (same_printed x) ∙ ap printed.printed e ∙ same_printed y)
