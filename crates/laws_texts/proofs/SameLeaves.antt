-- Without line numbers a tree has the same names, units and control.
use Rattle.std.proofs.Common.{◌≡◌, List, [], ◌∷◌, ◌++◌, Option, Some, None, refl}
use Rattle.std.specs.Prelude.{map, option_map}
use Rattle.std.specs.List.{flat_map}
use Rattle.model_print.specs.ModelTree.declared.types.Constant.{Constant}
use Rattle.model_print.specs.ModelTree.declared.types.ConstantForm.TheVariants as constant
use Rattle.model_print.specs.ModelTree.declared.types.Parameter.{Parameter}
use Rattle.model_print.specs.ModelTree.declared.statements.Who.{Who}
use Rattle.model_print.specs.ModelTree.declared.statements.Who.TheVariants as who
use Rattle.model_print.specs.ModelTree.Tree as tree
use Rattle.model_tree.specs.Parts as made
use Rattle.model_tree.specs.Parts.{Part, changed_part}
use Rattle.model_tree.proofs.Parts.{changed_linked}
use Rattle.model_print.specs.ModelTree.Languages as leaf
use Rattle.model_print.specs.ModelTree.Languages.{Leaves}
use Rattle.laws_texts.specs.Unlined as unlined

same_flat : {A : Type 0} (un : A → A) (f : A → Leaves) → ((x : A) → f (un x) ≡ f x) → (xs : List A) → flat_map f (map un xs) ≡ flat_map f xs
same_flat un f same [] = refl
same_flat un f same (x ∷ xs) = rw (same x, same_flat un f same xs) refl

same_expression : (e : tree.Expression) → leaf.in_expression (unlined.expression e) ≡ leaf.in_expression e
same_expression (tree.paren line e) = same_expression e
same_expression (tree.convert line c e) = same_expression e
same_expression (tree.to_vector line width e) = same_expression e
same_expression (tree.concat line upper lower) = rw (same_expression upper, same_expression lower) refl
same_expression (tree.placed_by line x e) = rw (same_expression e) refl
same_expression (tree.member e x) = rw (same_expression e) refl
same_expression (tree.element e index) = rw (same_expression e, same_expression index) refl
same_expression (tree.slice e high low) = same_expression e
same_expression (tree.unary line o e) = same_expression e
same_expression (tree.binary o left right) = rw (same_expression left, same_expression right) refl
same_expression _ = refl

same_option : (o : Option tree.Expression) → leaf.in_expression_if (option_map unlined.expression o) ≡ leaf.in_expression_if o
same_option None = refl
same_option (Some e) = same_expression e

same_all : (es : List tree.Expression) → leaf.in_expressions (map unlined.expression es) ≡ leaf.in_expressions es
same_all es = same_flat unlined.expression leaf.in_expression same_expression es

same_place : (p : tree.Place) → leaf.in_place (unlined.place p) ≡ leaf.in_place p
same_place tree.first = refl
same_place (tree.place_number n) = refl
same_place (tree.computed e) = same_expression e

same_channel : (c : tree.Channel) → leaf.in_channel (unlined.channel c) ≡ leaf.in_channel c
same_channel c = rw (same_place c.place) refl

same_event : (e : tree.Event) → leaf.in_event (unlined.event e) ≡ leaf.in_event e
same_event e = rw (same_place e.channel.place) refl

same_events : (es : List tree.Event) → leaf.in_events (map unlined.event es) ≡ leaf.in_events es
same_events es = same_flat unlined.event leaf.in_event same_event es

same_waiting : (t : tree.Waiting) → leaf.in_waiting (unlined.waiting t) ≡ leaf.in_waiting t
same_waiting tree.static = refl
same_waiting tree.delta = refl
same_waiting (tree.for_ e) = same_expression e
same_waiting (tree.one e t) = rw (same_place e.channel.place, same_option t) refl
same_waiting (tree.any es t) = rw (same_events es, same_option t) refl
same_waiting (tree.all es t) = rw (same_events es, same_option t) refl

same_notification : (t : tree.Notification) → leaf.in_notification (unlined.notification t) ≡ leaf.in_notification t
same_notification tree.immediate = refl
same_notification tree.next_delta = refl
same_notification (tree.after e) = same_expression e

same_operation : (o : tree.Operation) → leaf.in_operation (unlined.operation o) ≡ leaf.in_operation o
same_operation (tree.call x es) = rw (same_all es) refl
same_operation (tree.read c) = same_channel c
same_operation (tree.nb_read c x) = rw (same_place c.place) refl
same_operation (tree.nb_write c e) = rw (same_place c.place, same_expression e) refl
same_operation (tree.trylock c) = same_channel c
same_operation (tree.unlock c) = same_channel c
same_operation (tree.sem_trywait c) = same_channel c
same_operation (tree.nb_transport x p phase t) = refl

same_who : (x : Who) → leaf.in_who (unlined.process x) ≡ leaf.in_who x
same_who (who.Named line x) = refl
same_who (who.Myself line) = refl

same_part : (p : Part) → leaf.in_part (changed_part unlined.change p) ≡ leaf.in_part p
same_part (made.term u e) = same_expression e
same_part (made.term_if u e) = same_option e
same_part (made.next_term u e) = same_expression e
same_part (made.next_term_if u e) = same_option e
same_part (made.channel u c) = same_channel c
same_part (made.waiting t) = same_waiting t
same_part (made.notification t) = same_notification t
same_part (made.instance x) = rw (same_all x.arguments, same_events x.sensitive) refl
same_part (made.process p) = same_who p
same_part (made.reaching_process p all) = rw (same_who p) refl
same_part _ = refl

same_both : (xs ys us vs : Leaves) → xs ≡ us → ys ≡ vs → xs ++ ys ≡ us ++ vs
same_both xs ys us vs a b = rw (a, b) refl

same_action : (a : tree.Action) → leaf.in_action (unlined.action a) ≡ leaf.in_action a
same_action a = changed_linked unlined.change (λ (xs us : Leaves). xs ≡ us) leaf.in_part leaf.in_part (λ xs ys. xs ++ ys) (λ xs ys. xs ++ ys) [] [] same_both same_part refl a

mutual
  same_statement : (x : tree.Statement) → leaf.in_statement (unlined.statement x) ≡ leaf.in_statement x
  same_statement (tree.var line t x e) = rw (same_option e) refl
  same_statement (tree.assign line t e) = rw (same_option t.index, same_expression e) refl
  same_statement (tree.operate line x at o) = rw (same_operation o) refl
  same_statement (tree.act line a) = same_action a
  same_statement (tree.if_ line e body other) = rw (same_expression e, same_block body, same_else other) refl
  same_statement (tree.while_ line e body) = rw (same_expression e, same_block body) refl
  same_statement (tree.guard line body undo) = rw (same_block body, same_block undo) refl
  same_statement (tree.try_ line body hs) = rw (same_block body, same_handlers hs) refl

  same_block : (x : tree.Block) → leaf.in_block (unlined.block x) ≡ leaf.in_block x
  same_block tree.over = refl
  same_block (tree.then x xs) = rw (same_statement x, same_block xs) refl

  same_else : (x : tree.Else) → leaf.in_else (unlined.otherwise x) ≡ leaf.in_else x
  same_else tree.no_else = refl
  same_else (tree.else_block body) = same_block body

  same_handlers : (x : tree.Handlers) → leaf.in_handlers (unlined.handlers x) ≡ leaf.in_handlers x
  same_handlers tree.no_more = refl
  same_handlers (tree.handler x body more) = rw (same_block body, same_handlers more) refl

same_constant : (o : Option Constant) → leaf.in_constant (option_map unlined.constant o) ≡ leaf.in_constant o
same_constant None = refl
same_constant (Some c) = refl

same_parameters : (ps : List Parameter) → flat_map leaf.in_parameter (map unlined.parameter ps) ≡ flat_map leaf.in_parameter ps
same_parameters ps = same_flat unlined.parameter leaf.in_parameter (λ p. refl) ps

same_item : (i : tree.Item) → leaf.in_item (unlined.item i) ≡ leaf.in_item i
same_item (tree.signal line x) = rw (same_constant x.initial) refl
same_item (tree.variable line t x c) = rw (same_constant c) refl
same_item (tree.function line f) = rw (same_parameters f.parameters, same_block f.body) refl
same_item (tree.process line p) = rw (same_events p.sensitive, same_block p.body) refl
same_item _ = refl

same_module : (m : tree.Module) → leaf.in_module (unlined.module_ m) ≡ leaf.in_module m
same_module m = rw (same_flat unlined.item leaf.in_item same_item m.items) refl

pub same_leaves : (m : tree.Model) → leaf.leaves_of (unlined.model m) ≡ leaf.leaves_of m
same_leaves m = rw (same_flat unlined.module_ leaf.in_module same_module m.modules) refl
