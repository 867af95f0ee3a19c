-- Each production of a tree has one site, an outer one before those in it.
use Rattle.std.proofs.Common.{◌≡◌, Bool, true, false, List, [], ◌∷◌, ◌++◌, append_assoc, append-nil, Option, Some, None, refl, sym, subst}
use Rattle.std.specs.Prelude.{map}
use Rattle.model_rules.specs.ModelTree.declared.types.SignalType.{SignalType}
use Rattle.model_rules.specs.ModelTree.declared.types.VarType.{VarType}
use Rattle.model_rules.specs.ModelTree.declared.types.VarType.TheVariants as var_type
use Rattle.model_rules.specs.ModelTree.declared.types.Interface.{Interface}
use Rattle.model_rules.specs.ModelTree.declared.types.Interface.TheVariants as interface
use Rattle.model_rules.specs.ModelTree.declared.types.Constant.{Constant}
use Rattle.model_rules.specs.ModelTree.declared.types.Parameter.{Parameter}
use Rattle.model_rules.specs.ModelTree.declared.statements.Who.{Who}
use Rattle.model_rules.specs.ModelTree.declared.statements.Who.TheVariants as who
use Rattle.model_rules.specs.ModelTree.Tree as tree
use Rattle.model_tree.specs.Parts as made
use Rattle.model_tree.specs.Parts.{Part, parts_of}
use Rattle.model_tree.proofs.Parts.{linked}
use Rattle.model_rules.specs.declared.needs.Need.{Need}
use Rattle.model_rules.specs.declared.needs.Need.TheVariants as need_of
use Rattle.model_rules.specs.Scopes.{Scope, item_scope, with_local, locals_in_block, past, behind, in_unwind}
use Rattle.model_rules.specs.Sites as site
use Rattle.model_rules.specs.Sites.{Site}
use Rattle.laws_texts.specs.Productions.{Production, of_module, of_item, of_type, of_event, of_channel, of_statement, of_who, production_of, line_of, term, in_option, in_arguments, in_place, in_events, in_waiting, in_notification, in_operation, in_part, in_action, in_var_type, in_block, in_else, in_handlers, in_interface, in_constant, in_answer, in_parameters, in_item, parts, in_model, AreSitesOf, none, one}

next : {p : Production} {ps : List Production} {x : Site} {inner outer : List Site}
    → production_of x.line x.part ≡ p → x.line ≡ line_of p → AreSitesOf (parts p) inner → AreSitesOf ps outer → AreSitesOf (p ∷ ps) (x ∷ inner ++ outer)
next {p} {ps} {x} {inner} {outer} same line a more = one p ps x inner outer same line a more

next_as : {p : Production} {ps : List Production} {x : Site} {inner outer xs : List Site}
    → production_of x.line x.part ≡ p → x.line ≡ line_of p → AreSitesOf (parts p) inner → AreSitesOf ps outer → xs ≡ inner ++ outer
    → AreSitesOf (p ∷ ps) (x ∷ xs)
next_as {p} {ps} {x} {inner} {outer} same line a more e = subst (λ (ys : List Site). AreSitesOf (p ∷ ps) (x ∷ ys)) (sym e) (one p ps x inner outer same line a more)

-- these one behind those
both : {ps qs : List Production} {xs ys : List Site} → AreSitesOf ps xs → AreSitesOf qs ys → AreSitesOf (ps ++ qs) (xs ++ ys)
both none b = b
both {ys = ys} (one p ps x inner outer same line a more) b = next_as same line a (both more b) (append_assoc inner outer ys)

-- one production alone
alone : {p : Production} {x : Site} {inner : List Site} → production_of x.line x.part ≡ p → x.line ≡ line_of p → AreSitesOf (parts p) inner → AreSitesOf (p ∷ []) (x ∷ inner)
alone {p} {x} {inner} same line a = next_as same line a none (sym (append-nil inner))

-- expressions

term_once : (need : Need) (s : Scope) (e : tree.Expression) → AreSitesOf (term e ∷ []) (site.sites_as need s e)
term_once need s (tree.number line n) = alone refl refl none
term_once need s (tree.time line n u) = alone refl refl none
term_once need s (tree.logic line ds) = alone refl refl none
term_once need s (tree.truth line b) = alone refl refl none
term_once need s (tree.now line) = alone refl refl none
term_once need s (tree.myself line) = alone refl refl none
term_once need s (tree.constant line c) = alone refl refl none
term_once need s (tree.paren line e) = alone refl refl (term_once need_of.Readable s e)
term_once need s (tree.convert line c e) = alone refl refl (term_once need_of.Readable s e)
term_once need s (tree.to_vector line width e) = alone refl refl (term_once need_of.Readable s e)
term_once need s (tree.concat line upper lower) = alone refl refl (both (term_once need_of.Readable s upper) (term_once need_of.Readable s lower))
term_once need s (tree.named line x) = alone refl refl none
term_once need s (tree.placed line x n) = alone refl refl none
term_once need s (tree.placed_by line x e) = alone refl refl (term_once need_of.Readable s e)
term_once need s (tree.member e x) = alone refl refl (term_once need_of.Object s e)
term_once need s (tree.element e index) = alone refl refl (both (term_once need_of.Indexed s e) (term_once need_of.Readable s index))
term_once need s (tree.slice e high low) = alone refl refl (term_once need_of.Readable s e)
term_once need s (tree.unary line o e) = alone refl refl (term_once need_of.Readable s e)
term_once need s (tree.binary o left right) = alone refl refl (both (term_once need_of.Readable s left) (term_once need_of.Readable s right))

expression : (s : Scope) (e : tree.Expression) → AreSitesOf (term e ∷ []) (site.expression_sites s e)
expression s e = term_once need_of.Readable s e

optional : (s : Scope) (o : Option tree.Expression) → AreSitesOf (in_option o) (site.option_sites s o)
optional s None = none
optional s (Some e) = expression s e

arguments : (s : Scope) (es : List tree.Expression) → AreSitesOf (in_arguments es) (site.argument_sites s es)
arguments s [] = none
arguments s (e ∷ es) = both (expression s e) (arguments s es)

-- channels and events

place : (s : Scope) (p : tree.Place) → AreSitesOf (in_place p) (site.place_sites s p)
place s tree.first = none
place s (tree.place_number n) = none
place s (tree.computed e) = expression s e

channel : (s : Scope) (need : Need) (c : tree.Channel) → AreSitesOf (of_channel c ∷ []) (site.channel_sites s need c)
channel s need c = alone refl refl (place s c.place)

event : (s : Scope) (static : Bool) (e : tree.Event) → AreSitesOf (of_event e ∷ []) (site.event_sites s static e)
event s static e = alone refl refl (channel s (site.event_need static e.member) e.channel)

events : (s : Scope) (static : Bool) (es : List tree.Event) → AreSitesOf (in_events es) (site.events_sites s static es)
events s static [] = none
events s static (e ∷ es) = both (event s static e) (events s static es)

waiting : (s : Scope) (x : tree.Waiting) → AreSitesOf (in_waiting x) (site.waiting_sites s x)
waiting s tree.static = none
waiting s tree.delta = none
waiting s (tree.for_ e) = expression s e
waiting s (tree.one e t) = both (event s false e) (optional s t)
waiting s (tree.any es t) = both (events s false es) (optional s t)
waiting s (tree.all es t) = both (events s false es) (optional s t)

notification : (s : Scope) (x : tree.Notification) → AreSitesOf (in_notification x) (site.notification_sites s x)
notification s tree.immediate = none
notification s tree.next_delta = none
notification s (tree.after e) = expression s e

-- statements

named : (s : Scope) (x : Who) → AreSitesOf (of_who x ∷ []) (site.who_sites s x)
named s (who.Named line x) = alone refl refl none
named s (who.Myself line) = alone refl refl none

operation : (s : Scope) (o : tree.Operation) → AreSitesOf (in_operation o) (site.operation_parts s o)
operation s (tree.call x es) = arguments s es
operation s (tree.read c) = channel s need_of.Taken c
operation s (tree.nb_read c x) = channel s need_of.Taken c
operation s (tree.nb_write c e) = both (channel s need_of.Put c) (expression s e)
operation s (tree.trylock c) = channel s need_of.Mutex c
operation s (tree.unlock c) = channel s need_of.Mutex c
operation s (tree.sem_trywait c) = channel s need_of.Semaphore c
operation s (tree.nb_transport x p phase t) = none

part : (s : Scope) (p : Part) → AreSitesOf (in_part p) (site.part_sites s p)
part s (made.name r x) = none
part s (made.next_name r x) = none
part s (made.reaching_name r x all) = none
part s (made.text x) = none
part s (made.term u e) = expression s e
part s (made.term_if u e) = optional s e
part s (made.next_term u e) = expression s e
part s (made.next_term_if u e) = optional s e
part s (made.channel u c) = channel s (site.access_need u) c
part s (made.waiting t) = waiting s t
part s (made.notification t) = notification s t
part s (made.instance x) = both (arguments s x.arguments) (events s true x.sensitive)
part s (made.process p) = named s p
part s (made.reaching_process p all) = named s p

action : (s : Scope) (a : tree.Action) → AreSitesOf (in_action a) (site.action_parts s a)
action s a = linked AreSitesOf in_part (site.part_sites s) (λ ps qs. ps ++ qs) (λ xs ys. xs ++ ys) [] [] (λ ps qs xs ys a b. both a b) (part s) none (parts_of a)

typed_as : (s : Scope) (t : SignalType) → AreSitesOf (of_type t ∷ []) (site.type_site s t)
typed_as s t = alone refl refl none

typed : (s : Scope) (t : VarType) → AreSitesOf (in_var_type t) (site.variable_type_sites s t)
typed s (var_type.Plain t) = typed_as s t
typed s var_type.Time = none
typed s var_type.Process = none
typed s var_type.Payload = none

mutual
  statement : (s : Scope) (x : tree.Statement) → AreSitesOf (of_statement x ∷ []) (site.statement_sites x s)
  statement s (tree.var line t x e) = alone refl refl (both (typed s t) (optional s e))
  statement s (tree.assign line t e) = alone refl refl (both (optional s t.index) (expression s e))
  statement s (tree.operate line x at o) = alone refl refl (alone refl refl (operation s o))
  statement s (tree.act line a) = alone refl refl (action s a)
  statement s (tree.if_ line e body other) = alone refl refl (both (both (expression s e) (block s body)) (otherwise (past (locals_in_block body) s) other))
  statement s (tree.while_ line e body) = alone refl refl (both (expression s e) (block s body))
  statement s (tree.guard line body undo) = alone refl refl (both (block s body) (block (in_unwind (past (locals_in_block body) s)) undo))
  statement s (tree.try_ line body hs) = alone refl refl (both (block s body) (handlers (past (locals_in_block body) s) hs))

  block : (s : Scope) (x : tree.Block) → AreSitesOf (in_block x) (site.block_sites x s)
  block s tree.over = none
  block s (tree.then x xs) = both (statement s x) (block (behind x s) xs)

  otherwise : (s : Scope) (x : tree.Else) → AreSitesOf (in_else x) (site.else_sites x s)
  otherwise s tree.no_else = none
  otherwise s (tree.else_block body) = block s body

  handlers : (s : Scope) (x : tree.Handlers) → AreSitesOf (in_handlers x) (site.handler_sites x s)
  handlers s tree.no_more = none
  handlers s (tree.handler x body more) = both (block s body) (handlers (past (locals_in_block body) s) more)

-- items

leads : (s : Scope) (i : Interface) → AreSitesOf (in_interface i) (site.interface_sites s i)
leads s (interface.In t) = typed_as s t
leads s (interface.Out t) = typed_as s t
leads s (interface.FifoIn t) = typed_as s t
leads s (interface.FifoOut t) = typed_as s t
leads s interface.Mutex = none
leads s interface.Semaphore = none

fixed : (s : Scope) (o : Option Constant) → AreSitesOf (in_constant o) (site.constant_sites s o)
fixed s None = none
fixed s (Some c) = alone refl refl none

answer : (s : Scope) (o : Option VarType) → AreSitesOf (in_answer o) (site.answer_sites s o)
answer s None = none
answer s (Some t) = typed s t

parameters : (s : Scope) (ps : List Parameter) → AreSitesOf (in_parameters ps) (site.parameter_sites s ps)
parameters s [] = none
parameters s (p ∷ ps) = next refl refl (typed s p.var_type) (parameters (with_local s p.name p.var_type) ps)

item : (s : Scope) (i : tree.Item) → AreSitesOf (in_item i) (site.item_parts s i)
item s (tree.signal line x) = both (typed_as s x.value_type) (fixed s x.initial)
item s (tree.resolved line x) = none
item s (tree.clock line c) = none
item s (tree.fifo line t x size) = typed_as s t
item s (tree.plain line kind x) = none
item s (tree.semaphore line x c) = fixed s (Some c)
item s (tree.memory line x size) = none
item s (tree.variable line t x c) = both (typed s t) (fixed s c)
item s (tree.port line i x size) = leads s i
item s (tree.export line i x) = leads s i
item s (tree.initiator line x role) = none
item s (tree.target line x role) = none
item s (tree.instance line kind x) = none
item s (tree.bind line left right) = next refl refl none (alone refl refl none)
item s (tree.function line f) = both (both (parameters s f.parameters) (answer s f.answer)) (block (site.function_scope s f) f.body)
item s (tree.process line p) = both (events s true p.sensitive) (block s p.body)

items : (ms : List tree.Module) (all before is : List tree.Item) → AreSitesOf (map of_item is) (site.items_sites ms all before is)
items ms all before [] = none
items ms all before (i ∷ is) = next refl refl (item (item_scope ms all (site.around_item i)) i) (items ms all (before ++ i ∷ []) is)

-- modules

modules : (all before ms : List tree.Module) → AreSitesOf (map of_module ms) (site.modules_sites all before ms)
modules all before [] = none
modules all before (m ∷ ms) = next refl refl (items all m.items [] m.items) (modules all (before ++ m ∷ []) ms)

pub each_once : (m : tree.Model) → AreSitesOf (in_model m) (site.sites m)
each_once m = both (modules m.modules [] m.modules) (alone refl refl none)
